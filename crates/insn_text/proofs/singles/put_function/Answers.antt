use Rattle.std.proofs.Common.{◌∙◌}
use Rattle.std.proofs.Common.{ap, ◌++◌}
use Rattle.term_text.specs.TermText.{texts}
use Rattle.term_text.specs.Atoms.{atom_text}
use Rattle.term_text.proofs.Growth.{on_ok}
use Rattle.insn_text.proofs.Words.{bif_word}
use Rattle.insn_text.proofs.singles.put_function.Goals as goal

pub returns : goal.returns
unfolding texts
returns c =
    on_ok c.put_word.result
    (λ e r. e r ∙ ap (λ n. c.args.out.now ++ (atom_text n ++ r)) (bif_word _ _ c.name.ensures)) c.put_word.ensures
