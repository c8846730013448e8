-- A plain module's assembly keeps the compiler's promise.
use Rattle.std.proofs.Common.{ℕ, List, sym, subst}
use Rattle.core_form.specs.Core.{Module}
use Rattle.beam_table.specs.Code.{AsmModule}
use Rattle.behaviour.specs.PlainModules.{plain_assembly, PlainModulesBehave}
use Rattle.behaviour.specs.SameBehaviour.{SameBehaviour, TailCalls, CheapCalls}
use Rattle.pass_line.specs.Compiled.{HasCode}
use Rattle.pass_line.specs.CompileCorrect.{IsCorrect}

pub is_correct : (bytes : List ℕ) (a : AsmModule) → HasCode bytes a → PlainModulesBehave → IsCorrect bytes a
is_correct bytes a h law =
    let m : Module = h.tree in
    let p : AsmModule = plain_assembly m h.funs in
    let b : SameBehaviour m p × TailCalls m p × CheapCalls m p = law m h.funs h.plain in
    record {
      tree = m;
      accepted = h.text;
      same = subst (λ (x : AsmModule). SameBehaviour m x) (sym h.code) b.0;
      tail_calls = subst (λ (x : AsmModule). TailCalls m x) (sym h.code) b.1;
      costs = subst (λ (x : AsmModule). CheapCalls m x) (sym h.code) b.2;
    }
