use Rattle.std.proofs.Common.{◌&&◌, map, sym, ◌∙◌}
use Rattle.std.specs.List.{list_all}
use Rattle.erl_term.specs.View.{view}
use Rattle.core_profile.specs.ProfileFaults.{is_segment_flag, is_flag_list}
use Rattle.core_profile.proofs.TermForms.{flags_in}
use Rattle.core_profile.proofs.segments.+is_flag_list.Goals as goal

pub returns-in-List : goal.returns-in-List
returns-in-List t c =
    (λ i. c.are_flags.ensures i && c.is_flag_list.ensures i)
    ∙ (λ i. list_all is_segment_flag (map view (c.as_slice.ensures i)) && is_flag_list (view (c.get.ensures i)))
    ∙ sym (flags_in _ _ _ c.in-List.is)
