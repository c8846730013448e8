use Rattle.std.proofs.Common.{sym, ap, ◌∙◌}
use Rattle.erl_term.specs.View.{view}
use Rattle.core_profile.specs.ProfileFaults.{is_proper_list}
use Rattle.core_profile.proofs.TermForms.{proper_in}
use Rattle.core_profile.proofs.segments.+is_proper_list.Goals as goal

pub returns-in-List : goal.returns-in-List
returns-in-List t c =
    c.is_proper_list.ensures ∙ ap (λ u. is_proper_list (view u)) c.get.ensures ∙ sym (proper_in _ _ _ c.in-List.is)
