use Rattle.std.proofs.Common.{rules, sym}
use Rattle.core_profile.proofs.TermForms.{unit_of_list}
use Rattle.core_profile.proofs.segments.+is_unit.Goals as goal

pub returns-else-is_empty : goal.returns-else-is_empty
returns-else-is_empty t c = sym (unit_of_list _ _ _ c.in-List.is (λ e. search (rules, e)))
