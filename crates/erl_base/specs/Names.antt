-- Names as the code points of their characters.
use Rattle.std.specs.Prelude.{ℕ, List, [], ◌∷◌, Bool, true, false, not, ◌&&◌, ◌||◌, eqb}
use Rattle.erl_base.specs.declared.ids.FunKey.{FunKey}

-- the characters of a name
abbrev pub Name : Type 0
Name = List ℕ

-- the same characters
abbrev pub same_name : Name → Name → Bool
same_name [] [] = true
same_name [] (y ∷ ys) = false
same_name (x ∷ xs) [] = false
same_name (x ∷ xs) (y ∷ ys) = eqb x y && same_name xs ys

-- the same name and arity
abbrev pub same_key : FunKey → FunKey → Bool
same_key f g = same_name f.name g.name && eqb f.arity g.arity

-- whether a function is one of these
abbrev pub is_key : FunKey → List FunKey → Bool
is_key f [] = false
is_key f (g ∷ gs) = same_key f g || is_key f gs

-- no function twice
abbrev pub keys_distinct : List FunKey → Bool
keys_distinct [] = true
keys_distinct (f ∷ fs) = not (is_key f fs) && keys_distinct fs
