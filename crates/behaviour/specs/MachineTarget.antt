-- The machine of a module, as what realizes a meaning.
use Rattle.std.specs.Prelude.{◌≡◌, ℕ, List, length, slice_get, Some, None}
use Rattle.erl_term.specs.Term.{Term}
use Rattle.erl_term.specs.Terms.{Values}
use Rattle.world_model.specs.Run.{State}
use Rattle.beam_table.specs.Code.{AsmFun, AsmModule}
use Rattle.beam_table.specs.GeneralRules.{cells, returns_to, unwinds}
use Rattle.beam_table.specs.InstructionStep.{step}
use Rattle.beam_table.specs.MachineState.{Activation, Machine}
use Rattle.behaviour.specs.Realizes.{Target}

-- function n is entered with all its arguments, under these activations, and nothing else is set
pub record AtEntry (a : AsmModule) (n : ℕ) (vs : Values) (above : List Activation) (m : Machine) : Type 0 where
  pub function : AsmFun
  pub found : slice_get a.funs n ≡ Some function
  pub arity : length vs ≡ function.key.arity
  pub code : m.code ≡ function.code
  pub xs : m.xs ≡ cells vs
  pub frame : m.frame ≡ None
  pub callers : m.callers ≡ above

-- what holds at each entry, return and raise: the process is this one, and no message is looked at
pub record Holds (self : Term) (s : State) (m : Machine) : Type 0 where
  pub own : m.own ≡ self
  pub mailbox : m.mailbox ≡ s.mailbox
  pub next_serial : m.next_serial ≡ s.next
  pub save : m.save ≡ 0
  pub window : m.window ≡ None
  pub landing : m.landing ≡ None

-- the machine of this module, as functions are realized on it
abbrev pub target : AsmModule → Term → Target
target a self = record {
  state = Machine;
  step = step a;
  above = List Activation;
  at_entry = AtEntry a;
  holds = Holds self;
  returns = returns_to;
  unwinds = unwinds a;
}
