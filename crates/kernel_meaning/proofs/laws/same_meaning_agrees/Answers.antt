use Rattle.kernel_meaning.specs.KernelRun.{fun_does}
use Rattle.kernel_meaning.proofs.Steady as lemma
use Rattle.kernel_meaning.proofs.laws.same_meaning_agrees.Goals as goal

pub returns : goal.returns
returns c = λ k w old new e. c.results_make_agreement.ensures k (fun_does w old) (fun_does w new)
    (lemma.same_bodies k w old new e)
