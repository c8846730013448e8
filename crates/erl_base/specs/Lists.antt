-- Lists of numbers.
use Rattle.std.specs.Prelude.{ℕ, List, [], ◌∷◌, Bool, false, ◌||◌, eqb}

-- whether a number is one of these
abbrev pub among : ℕ → List ℕ → Bool
among n [] = false
among n (m ∷ ms) = eqb n m || among n ms
