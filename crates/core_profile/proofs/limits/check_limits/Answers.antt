use Rattle.std.proofs.Common.{◌≡◌, map, sym, ap, ◌∙◌}
use Rattle.core_form.specs.Sites.{module_sites}
use Rattle.core_form.specs.View.{module_view}
use Rattle.core_profile.specs.Counted.{lengths}
use Rattle.core_profile.proofs.Lengths.{lengths-shown}
use Rattle.core_profile.proofs.limits.check_limits.Goals as goal

pub limits_by-requires : goal.limits_by-requires
limits_by-requires c = record {
  own = ap lengths (c.as_slice.ensures ∙ c.requires.own) ∙ lengths-shown (module_sites (module_view c.args.tree.now));
}
