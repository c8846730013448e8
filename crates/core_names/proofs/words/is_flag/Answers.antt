use Rattle.std.proofs.Common.{◌||◌, sym, ap, ◌∙◌, codes}
use Rattle.erl_base.specs.Names.{same_name}
use Rattle.erl_term.specs.View.{view}
use Rattle.core_names.proofs.Spelling.{flag_named}
use Rattle.core_names.proofs.words.is_flag.Goals as goal

pub returns : goal.returns
returns c =
    (λ i. c.is_word-signed.ensures i || c.is_word-unsigned.ensures i || c.is_word-big.ensures i
    || c.is_word-little.ensures i)
    ∙ ap (λ n. same_name n (codes "signed") || same_name n (codes "unsigned") || same_name n (codes "big")
    || same_name n (codes "little")) c.atom_of-name.ensures
    ∙ sym (flag_named (view c.args.term.now))
