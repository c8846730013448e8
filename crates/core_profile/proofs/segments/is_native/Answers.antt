use Rattle.std.proofs.Common.{sym, ap, ◌∙◌, codes}
use Rattle.erl_base.specs.Names.{same_name}
use Rattle.erl_term.specs.View.{view}
use Rattle.core_profile.proofs.TermForms.{native_named}
use Rattle.core_profile.proofs.segments.is_native.Goals as goal

pub returns : goal.returns
returns c = c.is_word.ensures ∙ ap (λ n. same_name n (codes "native")) c.atom_of.ensures
    ∙ sym (native_named (view c.args.term.now))
