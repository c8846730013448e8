use Rattle.std.proofs.Common.{rules, ◌≡◌, refl, ap₂, ◌∙◌, chars, List, ℕ, Ordering}
use Rattle.std.specs.Cmp.Lexicographic.{slice_cmp}
use Rattle.std.specs.Ordering.{nat_cmp}
use Rattle.std.proofs.lemmas.Iterator.{YieldsList-from_chars}
use Rattle.std.proofs.lemmas.Iterator.Search.{cmp_from_yields_List}
use Rattle.erl_base.proofs.name.Name.compare.Goals as goal

moved : (r : Ordering) (a b x y : List ℕ) → r ≡ slice_cmp nat_cmp (chars a) (chars b) → chars a ≡ x → chars b ≡ y
    → r ≡ slice_cmp nat_cmp x y
moved r a b x y e f g = e ∙ ap₂ (slice_cmp nat_cmp) f g

pub returns : goal.returns
returns c =
    moved c.cmp.result c.as_str.result.now c.as_str-2.result.now c.args.self.now c.args.other.now
    (cmp_from_yields_List (λ x y. y ≡ x) _ nat_cmp _ c.cmp.ensures.ran
    (YieldsList-from_chars c.as_str.result.now c.as_str.utf8 c.chars.ensures.rest)
    (λ it e. YieldsList-from_chars c.as_str-2.result.now c.as_str-2.utf8 cc)
    (λ x y. refl))
    (search rules) (search rules)
