-- Small facts of truth values.
use Rattle.std.proofs.Common.{◌≡◌, refl, Bool, true, false, ◌&&◌}

pub never : {A : Type 0} → false ≡ true → A
never e = absurd cc

pub and_left : (a b : Bool) → (a && b) ≡ true → a ≡ true
and_left true b h = refl
and_left false b h = h

pub and_right : (a b : Bool) → (a && b) ≡ true → b ≡ true
and_right true b h = h
and_right false b h = never h

pub and_in : (a b : Bool) → a ≡ true → b ≡ true → (a && b) ≡ true
and_in true b h k = k
and_in false b h k = h
