-- Keys that are told one after the other to be new ones are distinct.
use Rattle.std.proofs.Common.{◌≡◌, refl, ap, ap₂, ◌∙◌, List, [], ◌∷◌, ◌++◌, Bool, true, false, not, ◌&&◌, ◌||◌}
use Rattle.erl_base.specs.Names.{same_key, is_key, keys_distinct}
use Rattle.erl_base.specs.declared.ids.FunKey.{FunKey}
use Rattle.operand_read.proofs.Words.{flipped, eqb_flipped}

-- each is new behind those that are seen
abbrev pub new_after : List FunKey → List FunKey → Bool
new_after seen [] = true
new_after seen (f ∷ fs) = not (is_key f seen) && new_after (seen ++ f ∷ []) fs

-- none is one of these
abbrev none_of : List FunKey → List FunKey → Bool
none_of seen [] = true
none_of seen (f ∷ fs) = not (is_key f seen) && none_of seen fs

key_flipped : (f g : FunKey) → same_key f g ≡ same_key g f
key_flipped f g = ap₂ (λ a b. a && b) (flipped f.name g.name) (eqb_flipped f.arity g.arity)

key_at_end : (f g : FunKey) (seen : List FunKey) → is_key f (seen ++ g ∷ []) ≡ (is_key f seen || same_key f g)
key_at_end f g [] = by (same_key f g)
  where
    by : (b : Bool) → (b || false) ≡ b
    by true = refl
    by false = refl
key_at_end f g (h ∷ seen) =
    ap (λ b. same_key f h || b) (key_at_end f g seen) ∙ by (same_key f h) (is_key f seen) (same_key f g)
  where
    by : (a b c : Bool) → (a || (b || c)) ≡ ((a || b) || c)
    by true b c = refl
    by false b c = refl

regrouped : (a b e k : Bool) → (not (a || b) && (e && not k)) ≡ ((not a && e) && not (b || k))
regrouped true b e k = refl
regrouped false true true k = refl
regrouped false true false k = refl
regrouped false false e k = refl

none_at_end : (g : FunKey) (seen fs : List FunKey)
    → none_of (seen ++ g ∷ []) fs ≡ (none_of seen fs && not (is_key g fs))
none_at_end g seen [] = refl
none_at_end g seen (f ∷ fs) =
    ap₂ (λ a b. not a && b) (key_at_end f g seen) (none_at_end g seen fs)
    ∙ regrouped (is_key f seen) (same_key f g) (none_of seen fs) (is_key g fs)
    ∙ ap (λ b. (not (is_key f seen) && none_of seen fs) && not (b || is_key g fs)) (key_flipped f g)

moved : (a b c d : Bool) → (a && ((b && c) && d)) ≡ ((a && b) && (c && d))
moved true true c d = refl
moved true false c d = refl
moved false b c d = refl

new_ones : (seen fs : List FunKey) → new_after seen fs ≡ (none_of seen fs && keys_distinct fs)
new_ones seen [] = refl
new_ones seen (f ∷ fs) =
    ap (λ b. not (is_key f seen) && b) (new_ones (seen ++ f ∷ []) fs)
    ∙ ap (λ b. not (is_key f seen) && (b && keys_distinct fs)) (none_at_end f seen fs)
    ∙ moved (not (is_key f seen)) (none_of seen fs) (not (is_key f fs)) (keys_distinct fs)

none_seen : (fs : List FunKey) → none_of [] fs ≡ true
none_seen [] = refl
none_seen (f ∷ fs) = none_seen fs

pub distinct_told : (fs : List FunKey) → new_after [] fs ≡ keys_distinct fs
distinct_told fs = new_ones [] fs ∙ ap (λ b. b && keys_distinct fs) (none_seen fs)
