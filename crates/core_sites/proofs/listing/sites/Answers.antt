use Rattle.std.proofs.Common.{◌∙◌, map}
use Rattle.core_form.specs.View.{def_view, defs, module_view}
use Rattle.core_sites.specs.declared.told.Told.TheVariants.{Sites}
use Rattle.core_sites.specs.Listing.{listed_module}
use Rattle.core_sites.proofs.Lists.{all_sites, no_counts}
use Rattle.core_sites.proofs.listing.sites.Goals as goal

pub returns : goal.returns
returns c =
    all_sites (module_view c.args.m.now) c.in_ok-sites.field-0 c.in-Sites.sites
    (c.in_ok-sites.ensures
    ∙ (λ i. listed_module (defs (map def_view (c.as_slice.ensures i))) (Sites (c.new.ensures i))))
    c.in-Sites.is

pub unreachable-requires : goal.unreachable-requires
unreachable-requires c =
    no_counts (module_view c.args.m.now) c.in_ok-sites.field-0 _
    (c.in_ok-sites.ensures
    ∙ (λ i. listed_module (defs (map def_view (c.as_slice.ensures i))) (Sites (c.new.ensures i))))
    c.in-Counts.is
