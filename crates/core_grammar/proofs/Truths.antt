-- Small facts of truth values and of what is there.
use Rattle.std.proofs.Common.{◌≡◌, refl, ap, Bool, true, false, ◌&&◌, List, [], ◌∷◌, ◌++◌, Option, Some, None}
use Rattle.core_form.specs.SourceTree.{AllHold}

pub never : {A : Type 0} → false ≡ true → A
never e = absurd cc

-- both hold
pub and_in : (a b : Bool) → a ≡ true → b ≡ true → (a && b) ≡ true
and_in true b h k = k
and_in false b h k = h

pub and_left : (a b : Bool) → (a && b) ≡ true → a ≡ true
and_left true b h = refl
and_left false b h = h

pub and_right : (a b : Bool) → (a && b) ≡ true → b ≡ true
and_right true b h = h
and_right false b h = never h

pub hold_both : (xs ys : List Bool) → AllHold xs → AllHold ys → AllHold (xs ++ ys)
hold_both [] ys h k = k
hold_both (true ∷ xs) ys h k = hold_both xs ys h k
hold_both (false ∷ xs) ys h k = never h

-- whether something is there
abbrev pub is_some : {A : Type 0} → Option A → Bool
is_some None = false
is_some (Some x) = true

pub from_some : {A : Type 0} (a b : A) → Some a ≡ Some b → a ≡ b
from_some a b e = ap (λ o. elim o [ None ↦ a | Some x ↦ x ]) e

pub none_is_none : {A B : Type 0} (a : A) → None ≡ Some a → B
none_is_none a e = never (ap is_some e)

-- all of them hold, in a form that names them
pub record Holds (bs : List Bool) : Type 0 where
  pub all : AllHold bs

pub none_held : Holds []
none_held = record { all = refl }

pub together : {xs ys : List Bool} → Holds xs → Holds ys → Holds (xs ++ ys)
together {xs} {ys} h k = record { all = hold_both xs ys h.all k.all }
