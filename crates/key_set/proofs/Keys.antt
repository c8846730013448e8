-- Whether a key is in a list, by the derived `==` of keys.
use Rattle.std.proofs.Common.{◌≡◌, List, [], ◌∷◌, ◌||◌, Bool, refl, ap₂}
use Rattle.std.specs.List.{list_any}
use Rattle.erl_base.specs.Names.{same_key, is_key}
use Rattle.erl_base.specs.declared.ids.FunKey.{FunKey}
use Rattle.erl_base.specs.contracts.ids.FunKeyPartialEq.TheImpl.{eq-value}

-- the derived `==` of keys
abbrev pub key_eq : FunKey → FunKey → Bool
key_eq = eq-value.it

key_eq-same_key : (a b : FunKey) → key_eq a b ≡ same_key a b
key_eq-same_key a b = refl

pub list_any-key_eq : (k : FunKey) (ks : List FunKey) → list_any (key_eq k) ks ≡ is_key k ks
list_any-key_eq k [] = refl
list_any-key_eq k (x ∷ xs) = ap₂ ◌||◌ (key_eq-same_key k x) (list_any-key_eq k xs)
