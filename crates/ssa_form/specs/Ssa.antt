-- Bodies in SSA form as plain trees.
use Rattle.std.specs.Prelude.{ℕ, List, [], Bool, Option, Some, None, slice_get}
use Rattle.erl_base.specs.Names.{Name}
use Rattle.erl_term.specs.Term.{Term}
use Rattle.erl_term.specs.Segments.{Shape}
use Rattle.bif_table.specs.Builtins.{Bif}
use Rattle.bif_table.specs.TermTests.{TypeTest, Comparison}

-- an operand: a variable, or a term
pub data Arg : Type 0 where
  var : ℕ → Arg
  lit : Term → Arg

-- the tests of the machine, by their names there
pub data Check : Type 0 where
  test : TypeTest → Check
  compares : Comparison → Check
  test_arity : ℕ → Check
  is_tagged_tuple : ℕ → Name → Check
  has_map_fields : Check

-- In turn: values and terms; calls; bit strings; handlers; receives; markers.
pub data Op : Type 0 where
  copy : Op
  bif : Bif → Op
  cons tuple : Op
  map_put : Bool → Op
  map_get : Op
  element : ℕ → Op
  hd tl : Op
  check : Check → Op
  make_fun : ℕ → Op
  call_local : ℕ → Op
  call_fun call_remote send trace raise : Op
  bs_start : Op
  bs_integer bs_binary bs_skip : Shape → Op
  bs_done : Op
  bs_unit : ℕ → Op
  bs_tail bs_position bs_restore : Op
  bs_create : List Shape → Op
  try_start try_end landing catch_end : Op
  peek : ℕ → Op
  take_message skip_message wait reset : Op
  reserve bind use_marker : Op

-- what happens to the stack frame; only bodies with frames have such actions
pub data FrameAction : Type 0 where
  allocate deallocate kill trim : ℕ → FrameAction

-- before: the frame actions that are done first, in order
pub record Set : Type 0 where
  pub before : List FrameAction
  pub dst : Option ℕ
  pub op : Op
  pub args : List Arg

-- how a block ends: by a truth value, by the success of its last set, by a choice among terms, or with a value
pub data Last : Type 0 where
  br : Arg → ℕ → ℕ → Last
  succeeded : ℕ → ℕ → ℕ → Last
  switch : Arg → ℕ → List (Term × ℕ) → Last
  ret : Arg → Last

-- a variable whose value depends on the edge that was taken
pub record Phi : Type 0 where
  pub dst : ℕ
  pub from : List (ℕ × Arg)

-- before: the frame actions before the last
pub record Block : Type 0 where
  pub phis : List Phi
  pub chain : List Set
  pub before : List FrameAction
  pub last : Last

-- contexts: the numbers, from 0, of the parameters at which a match context may come
pub record Body : Type 0 where
  pub site : ℕ
  pub params : List ℕ
  pub blocks : List (Option Block)
  pub contexts : List ℕ

-- a block that is there
abbrev pub or_none : Option (Option Block) → Option Block
or_none None = None
or_none (Some o) = o

-- the block with this number
abbrev pub block_at : Body → ℕ → Option Block
block_at b n = or_none (slice_get b.blocks n)

-- a set without frame actions, a block with its last alone before it, for bodies that have no frames
abbrev pub set : Option ℕ → Op → List Arg → Set
set dst op args = record { before = []; dst = dst; op = op; args = args }

-- a block with nothing put before its last operation
abbrev pub block : List Phi → List Set → Last → Block
block ps xs l = record { phis = ps; chain = xs; before = []; last = l }
