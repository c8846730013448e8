use Rattle.std.proofs.Common.{◌∙◌, map}
use Rattle.core_form.specs.View.{def_view, defs, module_view}
use Rattle.core_sites.specs.declared.told.Told.TheVariants.{Counts}
use Rattle.core_sites.specs.Listing.{listed_module}
use Rattle.core_sites.proofs.Lists.{all_counts, no_sites}
use Rattle.core_sites.proofs.listing.capture_counts.Goals as goal

pub returns : goal.returns
returns c =
    all_counts (module_view c.args.m.now) c.in_ok-counts.field-0 c.in-Counts.counts
    (c.in_ok-counts.ensures
    ∙ (λ i. listed_module (defs (map def_view (c.as_slice.ensures i))) (Counts (c.new.ensures i))))
    c.in-Counts.is

pub unreachable-requires : goal.unreachable-requires
unreachable-requires c =
    no_sites (module_view c.args.m.now) c.in_ok-counts.field-0 _
    (c.in_ok-counts.ensures
    ∙ (λ i. listed_module (defs (map def_view (c.as_slice.ensures i))) (Counts (c.new.ensures i))))
    c.in-Sites.is
