-- A run of an assembly module: from its start, at most k steps.
use Rattle.std.specs.Prelude.{ℕ, List, [], ◌∷◌, length, None, if◌then◌else◌}
use Rattle.erl_base.specs.Names.{same_key}
use Rattle.erl_base.specs.declared.ids.FunKey.{FunKey}
use Rattle.erl_term.specs.Term.{Term}
use Rattle.world_model.specs.Run.{numbered}
use Rattle.world_model.specs.World.{Script}
use Rattle.step_machine.specs.Steps.{Ran, run}
use Rattle.beam_table.specs.Code.{Insn, AsmFun, AsmModule}
use Rattle.beam_table.specs.MachineState.{Machine}
use Rattle.beam_table.specs.GeneralRules.{cells}
use Rattle.beam_table.specs.InstructionStep.{step}

-- a call begins: the arguments stand in the X registers
abbrev pub start : Script → List Term → List Insn → Machine
start s ts is = record {
  xs = cells ts;
  frame = None;
  callers = [];
  room = 0;
  contexts = [];
  own = s.own;
  mailbox = numbered 0 s.mailbox;
  next_serial = length s.mailbox;
  save = 0;
  window = None;
  markers = [];
  choices = s.choices;
  code = is;
  landing = None;
}

-- the first function with this name and arity
abbrev pub code_of : List AsmFun → FunKey → List Insn
code_of [] f = []
code_of (g ∷ gs) f = if same_key f g.key then g.code else code_of gs f

-- at most k steps
unfoldable pub asm_run : AsmModule → FunKey → List Term → Script → ℕ → Ran
unfolding step run
asm_run a f ts s k = run (step a) k (start s ts (code_of a.funs f)) s.replies []
