-- Functions that give a literal, realized by their code.
use Rattle.std.proofs.Common.{◌≡◌, ℕ, zero, suc, List, [], ◌∷◌, slice_get, Some, None, refl, sym, subst}
use Rattle.erl_base.specs.Names.{Name}
use Rattle.erl_term.specs.Term.{Term}
use Rattle.erl_term.specs.Terms.{Values}
use Rattle.world_model.specs.Run.{State, Outcome, gives, give}
use Rattle.world_model.specs.World.{Reply}
use Rattle.step_machine.specs.Bodies.{Bodies, entered_deep}
use Rattle.step_machine.specs.Steps.{Event}
use Rattle.step_machine.specs.Frames.{with_cell}
use Rattle.beam_table.specs.Code.{Reg, Source, Insn, move, return, AsmFun, AsmModule}
use Rattle.beam_table.specs.GeneralRules.{returns_to, cells}
use Rattle.beam_table.specs.InstructionStep.{step}
use Rattle.beam_table.specs.MachineState.{Cell, Activation, Machine, unset}
use Rattle.pass_contract.specs.Lawful.{IsLawful}
use Rattle.pass_contract.specs.PassContract.{at_once, IsMeaning}
use Rattle.pass_contract.proofs.Modules.{lawful_itself}
use Rattle.behaviour.proofs.Calling.{ready, entry_ready, ready_matches}
use Rattle.behaviour.specs.MachineTarget.{AtEntry, target}
use Rattle.behaviour.specs.Realizes.{Comes, Matches, Realizes, RunsRealized}

abbrev pub code : Term → List Insn
code t = move (Source.literal t) (Reg.x_reg 0) ∷ return ∷ []

abbrev pub bodies : Term → Bodies
bodies t n here vs = give t

module _ (a : AsmModule) (t : Term) (own : Term)
    (all : (n : ℕ) (f : AsmFun) → slice_get a.funs n ≡ Some f → f.code ≡ code t) where
  returned : (vs : Values) (above : List Activation) (m : Machine) (rs : List Reply) (log : List Event) →
      Comes (target a own) (ready (code t) (cells vs) None above m) rs log
      (returns_to above t (ready [] (with_cell unset 0 (Cell.term t) (cells vs)) None above m)) rs log
  unfolding step Rattle.step_machine.specs.Steps.run
  returned [] above m rs log = record { steps = 1; then_same = λ k. refl }
  returned (v ∷ vs) above m rs log = record { steps = 1; then_same = λ k. refl }

  given : (n : ℕ) (vs : Values) (above : List Activation) (m : Machine) (rs : List Reply) (log : List Event) (s : State)
      → AtEntry a n vs above m → Matches (target a own) s m rs log
      → Realizes (target a own) above m rs log (s, gives t)
  given n vs above m rs log s e w = record {
    state = ready [] (with_cell unset 0 (Cell.term t) (cells vs)) None above m;
    rs' = rs;
    log' = log;
    matches = ready_matches a own s m [] (with_cell unset 0 (Cell.term t) (cells vs)) None above rs log w;
    comes = subst (λ z. Comes (target a own) z rs log
        (returns_to above t (ready [] (with_cell unset 0 (Cell.term t) (cells vs)) None above m)) rs log)
        (sym (entry_ready a own n vs (code t) above m s e w.mailbox (all n e.function e.found)))
        (returned vs above m rs log);
  }

  some_is : (x y : State × Outcome Term) → Some x ≡ Some y → x ≡ y
  some_is x y i = cc

  pub literals_realized : (name : Name) → RunsRealized (target a own) name own (λ n. at_once (bodies t n))
  literals_realized name n d enter vs above m rs log s r low calls l e w c =
      subst (λ z. Realizes (target a own) above m rs log z) (some_is (s, gives t) r c.gives)
      (given n vs above m rs log s e w)

-- and what they mean
deep_lawful : (t : Term) (name : Name) (own : Term) (d : ℕ) → IsLawful (entered_deep name own (bodies t) d)
unfolding entered_deep
deep_lawful t name own zero n vs s = lawful_itself s
deep_lawful t name own (suc d) n vs s = lawful_itself s

pub literals_mean : (t : Term) (name : Name) (own : Term)
    → IsMeaning name own (λ n. at_once (bodies t n)) (entered_deep name own (bodies t))
unfolding entered_deep
literals_mean t name own = record {
  none = λ n vs s. refl;
  more = λ d n vs s. record { within = 0; gives = refl };
  lawful = deep_lawful t name own;
}
