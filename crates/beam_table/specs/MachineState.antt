-- The state of the machine (this project's own, after Erlang/OTP 25's BEAM).
use Rattle.std.specs.Prelude.{ℕ, List, Bool, Option}
use Rattle.erl_term.specs.Term.{Term}
use Rattle.world_model.specs.World.{Message}
use Rattle.world_model.specs.References.{Bound}
use Rattle.step_machine.specs.Frames.{MatchContext}
use Rattle.beam_table.specs.Code.{Insn}

-- the two kinds of handlers
pub data Kind : Type 0 where
  a_try a_catch : Kind

-- what a register or a slot holds
pub data Cell : Type 0 where
  unset killed : Cell
  term : Term → Cell
  context position marker : ℕ → Cell
  tag : Kind → ℕ → Cell

-- an activation that waits for a call to return: its frame, and the code with which it goes on
pub record Activation : Type 0 where
  pub frame : Option (List Cell)
  pub back : List Insn

-- registers and frames, what is matched, and how the run stands to the world
pub record Machine : Type 0 where
  pub xs : List Cell
  pub frame : Option (List Cell)
  pub callers : List Activation
  pub room : ℕ
  pub contexts : List MatchContext
  pub own : Term
  pub mailbox : List Message
  pub next_serial : ℕ
  -- how many messages stand before the save place, and the one that is looked at
  pub save : ℕ
  pub window : Option Message
  -- what is bound by receive markers, and the choices left
  pub markers : List Bound
  pub choices : List Bool
  pub code : List Insn
  pub landing : Option Kind
