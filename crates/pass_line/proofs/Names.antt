-- Equal names, and names of equal characters.
use Rattle.std.proofs.Common.{◌≡◌, List, ℕ, Bool, rules, ◌&&◌, true, false, IsTrue, ◌↔◌}
use Rattle.std.specs.Bool.{Decides}
use Rattle.std.proofs.lemmas.Bool.Decides.{same_from_decides}
use Rattle.std.proofs.lemmas.Slice.Eq.{compares_Decides}
use Rattle.erl_base.specs.Names.{same_name}

pub same_name-Decides : (x y : List ℕ) → Decides (same_name x y) (x ≡ y)
same_name-Decides = compares_Decides same_name (search rules)

pub both : (a b : Bool) → (a && b) ≡ true → (a ≡ true) × (b ≡ true)
both true b e = (search rules, e)
both false b e = absurd cc

pub same_name-told : (r : Bool) (x y : List ℕ) → IsTrue r ↔ (x ≡ y) → r ≡ same_name x y
same_name-told r x y h = same_from_decides r (same_name x y) (λ t. h.0 (search (rules, t)), λ e. search (rules, h.1 e))
    (same_name-Decides x y)
