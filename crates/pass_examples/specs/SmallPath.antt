-- One small path through kernel form and the three forms of bodies: functions of one parameter, and what each step of
-- the way keeps.
use Rattle.std.specs.Prelude.{◌≡◌, ℕ, [], ◌∷◌, true, slice_get, Some, codes}
use Rattle.erl_base.specs.declared.ids.FunKey.{FunKey}
use Rattle.erl_term.specs.Term as T
use Rattle.erl_term.specs.Term.{Term}
use Rattle.bif_table.specs.Builtins as B
use Rattle.world_model.specs.RemoteCalls.{takes}
use Rattle.kernel_form.specs.Kernel as K
use Rattle.kernel_meaning.specs.Forms as Kernel
use Rattle.pass_contract.specs.SameRun.{Compared}
use Rattle.pass_contract.specs.InModule.{InModule}
use Rattle.pass_contract.specs.PassContract.{Form, AddsNoTest, Keeps, KeepsResults}
use Rattle.ssa_form.specs.Ssa as S
use Rattle.ssa_form.specs.Ssa.{Block, Body, block, set, ret}
use Rattle.ssa_form.specs.Spots.{Spots, x_reg, y_slot}
use Rattle.ssa_form.specs.PlacedRun.{Placed}
use Rattle.ssa_form.specs.FramedRun.{Framed}
use Rattle.ssa_form.specs.PassView.{Ahead, ssa_form, placed_form, framed_form}

-- a function that gives a literal; that gives its parameter; that enters the function at a site with it; that gives its
-- length, by a let; that calls a function of another module with it; that raises it as an error
pub data Small : Type 0 where
  gives_term : Term → Small
  gives_param : Small
  goes_to : ℕ → Small
  takes_length : Small
  calls_out : Term → Term → Small
  fails : Small

-- in kernel form
abbrev pub kernel_body : Small → K.Expr
kernel_body (gives_term t) = K.values (K.lit t ∷ [])
kernel_body gives_param = K.values (K.var 0 ∷ [])
kernel_body (goes_to n) = K.simple (K.local n (K.var 0 ∷ []))
kernel_body takes_length = K.let_in (1 ∷ []) (K.simple (K.bif B.Length (K.var 0 ∷ []))) (K.values (K.var 1 ∷ []))
kernel_body (calls_out t u) = K.simple (K.remote (K.lit t) (K.lit u) (K.var 0 ∷ []))
kernel_body fails = K.simple (K.failing (K.var 0))

-- the first number above its variables
abbrev pub next_of : Small → ℕ
next_of takes_length = 2
next_of _ = 1

-- the function
abbrev pub kernel_fun : FunKey → ℕ → Small → K.Fun
kernel_fun k n q = record { key = k; site = n; params = 0 ∷ []; next = next_of q; body = kernel_body q }

-- names of what raises an error
abbrev pub erlang : Term
erlang = T.atom (codes "erlang")

-- and its function
abbrev pub error : Term
error = T.atom (codes "error")

-- as one block
abbrev pub the_block : Small → Block
the_block (gives_term t) = block [] [] (ret (S.lit t))
the_block gives_param = block [] [] (ret (S.var 0))
the_block (goes_to n) = block [] (set (Some 1) (S.call_local n) (S.var 0 ∷ []) ∷ []) (ret (S.var 1))
the_block takes_length = block [] (set (Some 1) (S.bif B.Length) (S.var 0 ∷ []) ∷ []) (ret (S.var 1))
the_block (calls_out t u) =
    block [] (set (Some 1) S.call_remote (S.lit t ∷ S.lit u ∷ S.var 0 ∷ []) ∷ []) (ret (S.var 1))
the_block fails =
    block [] (set (Some 1) S.call_remote (S.lit erlang ∷ S.lit error ∷ S.var 0 ∷ []) ∷ []) (ret (S.var 1))

-- a body
abbrev pub ssa_body : ℕ → Small → Body
ssa_body n q = record { site = n; params = 0 ∷ []; blocks = Some (the_block q) ∷ []; contexts = [] }

-- the parameter in a slot of a frame that goes where the body ends, all else in a register
abbrev pub spots : Spots
spots = (0, y_slot 0) ∷ (1, x_reg 0) ∷ []

-- with spots
abbrev pub placed_body : ℕ → Small → Placed
placed_body n q = record { body = ssa_body n q; spots = spots }

-- with a frame
abbrev pub framed_body : ℕ → Small → Framed
framed_body n q = record { body = ssa_body n q; spots = spots; sizes = (0, 1) ∷ [] }

-- the function that is entered has one parameter
abbrev pub Fits : InModule → Small → Type 0
Fits m (goes_to n) = takes (slice_get m.widths n) 1 ≡ true
Fits m _ = Unit {0}

-- the forms, each seen by its contract
abbrev pub in_kernel_form : FunKey → ℕ → Small → Form
in_kernel_form k n q = Kernel.form_of (kernel_fun k n q)

-- beside its bodies: the number 2 is above all variables, and no mark is to come
abbrev pub ahead : Ahead
ahead = record { next = 2; wanted = 0 }

-- in SSA form
abbrev pub in_ssa : ℕ → Small → Form
in_ssa n q = ssa_form ahead (ssa_body n q)

-- with spots
abbrev pub in_spots : ℕ → Small → Form
in_spots n q = placed_form ahead (placed_body n q)

-- with a frame
abbrev pub in_frame : ℕ → Small → Form
in_frame n q = framed_form ahead (framed_body n q)

-- no step of the way adds a test
pub record TestsNoMore (k : FunKey) (n : ℕ) (q : Small) : Type 0 where
  pub built : AddsNoTest (in_kernel_form k n q) (in_ssa n q)
  pub placed : AddsNoTest (in_ssa n q) (in_spots n q)
  pub framed : AddsNoTest (in_spots n q) (in_frame n q)

-- what each step keeps
pub record SmallPath (w : Compared) (m : InModule) (k : FunKey) (n : ℕ) (q : Small) : Type 0 where
  pub built : Keeps w m (in_kernel_form k n q) (in_ssa n q)
  pub placed : KeepsResults m (in_ssa n q) (in_spots n q)
  pub framed : KeepsResults m (in_spots n q) (in_frame n q)
  pub tests : TestsNoMore k n q

-- whatever is compared, and however the module is set
abbrev pub SmallPathsKeep : Type 0
SmallPathsKeep =
    (w : Compared) (m : InModule) (k : FunKey) (n : ℕ) (q : Small) → Fits m q → SmallPath w m k n q
