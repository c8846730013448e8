use Rattle.std.proofs.Common.{◌||◌, map, sym, ◌∙◌}
use Rattle.std.specs.List.{list_any}
use Rattle.erl_term.specs.View.{view}
use Rattle.core_profile.specs.ProfileFaults.{is_native, has_native}
use Rattle.core_profile.proofs.TermForms.{native_in}
use Rattle.core_profile.proofs.segments.+has_native.Goals as goal

pub returns-in-List : goal.returns-in-List
returns-in-List t c =
    (λ i. c.holds_native.ensures i || c.has_native.ensures i)
    ∙ (λ i. list_any is_native (map view (c.as_slice.ensures i)) || has_native (view (c.get.ensures i)))
    ∙ sym (native_in _ _ _ c.in-List.is)
