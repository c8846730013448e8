use Rattle.std.proofs.Common.{◌&&◌, map, sym, ◌∙◌}
use Rattle.std.specs.List.{list_all}
use Rattle.erl_term.specs.View.{view}
use Rattle.core_form.specs.SourceTree.{is_flag, are_flags}
use Rattle.core_actions.proofs.FlagLists.{flags_in}
use Rattle.core_actions.proofs.flags.+are_flags.Goals as goal

pub returns-in-List : goal.returns-in-List
returns-in-List t c =
    (λ i. c.all_flags.ensures i && c.are_flags.ensures i)
    ∙ (λ i. list_all is_flag (map view (c.as_slice.ensures i)) && are_flags (view (c.get.ensures i)))
    ∙ sym (flags_in _ _ _ c.in-List.is)
