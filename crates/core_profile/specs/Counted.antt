-- How many variables each function captures, as the walk for limits is told it.
use Rattle.std.specs.Prelude.{ℕ, List, map, length}
use Rattle.core_form.specs.declared.module.Site.{Site}
use Rattle.core_profile.specs.declared.counts.Counts.{Counts}
use Rattle.core_profile.specs.declared.counts.Counts.TheVariants.{Numbers, Sites}

-- the counts of sites
abbrev pub lengths : List Site → List ℕ
lengths = map (λ x. length x.captures)

-- the counts
abbrev pub counted : Counts → List ℕ
counted (Numbers counts) = counts.now
counted (Sites sites) = lengths sites.now
