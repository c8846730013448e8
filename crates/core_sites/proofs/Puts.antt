-- Uses put behind others, each number once.
use Rattle.std.proofs.Common.{◌≡◌, ℕ, ◌<◌, ◌≤◌, List, [], ◌∷◌, ◌++◌, Bool, true, false, not, ◌&&◌, ◌||◌, eqb, ltb, if◌then◌else◌, refl, sym, ap, ◌∙◌, append_assoc, append-nil, lt-ltb, le-ltb}
use Rattle.std.specs.List.{list_any}
use Rattle.erl_base.specs.Lists.{among}
use Rattle.core_form.specs.Scope.{Use, numbers_of}
use Rattle.core_form.specs.Captures.{once_below}
use Rattle.core_sites.specs.Gathering.{put, put_all}
use Rattle.core_sites.proofs.Alike.{Alike, once_twice}

pub put_all_append : (l : ℕ) (us vs ws : List Use) → put_all l us (vs ++ ws) ≡ put_all l (put_all l us vs) ws
put_all_append l us [] ws = refl
put_all_append l us (v ∷ vs) ws = put_all_append l (put l us v) vs ws

swapped : (x y z : Bool) → x || (y || z) ≡ y || (x || z)
swapped true true z = refl
swapped true false z = refl
swapped false true z = refl
swapped false false z = refl

among_last : (n : ℕ) (us : List Use) (v : Use)
    → among n (numbers_of (us ++ v ∷ [])) ≡ among n (v.number ∷ numbers_of us)
among_last n [] v = refl
among_last n (u ∷ us) v =
    ap (λ b. eqb n u.number || b) (among_last n us v)
    ∙ swapped (eqb n u.number) (eqb n v.number) (among n (numbers_of us))

once_seen : (l : ℕ) (s t : List ℕ) (us : List Use) → ((n : ℕ) → among n s ≡ among n t)
    → once_below l s us ≡ once_below l t us
once_seen l s t [] h = refl
once_seen l s t (u ∷ us) h =
    let more = once_seen l (u.number ∷ s) (u.number ∷ t) us (λ n. ap (λ b. eqb n u.number || b) (h n)) in
    let same = once_seen l s t us h in
    (λ i. if ltb u.number l && not (h u.number i) then u ∷ more i else same i)

put_once_if : (b : Bool) (l : ℕ) (us vs : List Use) (v : Use)
    → ((us : List Use) → put_all l us vs ≡ us ++ once_below l (numbers_of us) vs)
    → put_all l (if b then us ++ v ∷ [] else us) vs
    ≡ us ++ (if b then v ∷ once_below l (v.number ∷ numbers_of us) vs else once_below l (numbers_of us) vs)
put_once_if true l us vs v h =
    h (us ++ v ∷ [])
    ∙ ap (λ ts. (us ++ v ∷ []) ++ ts)
    (once_seen l (numbers_of (us ++ v ∷ [])) (v.number ∷ numbers_of us) vs (λ n. among_last n us v))
    ∙ append_assoc us (v ∷ []) (once_below l (v.number ∷ numbers_of us) vs)
put_once_if false l us vs v h = h us

pub put_once : (l : ℕ) (us vs : List Use) → put_all l us vs ≡ us ++ once_below l (numbers_of us) vs
put_once l us [] = sym (append-nil us)
put_once l us (v ∷ vs) =
    put_once_if (ltb v.number l && not (among v.number (numbers_of us))) l us vs v (λ ts. put_once l ts vs)

pub put_alike : {vs ws : List Use} (l : ℕ) (us : List Use) → Alike vs ws → put_all l us vs ≡ put_all l us ws
put_alike {vs} {ws} l us h =
    put_once l us vs ∙ ap (λ ts. us ++ ts) (h.first l (numbers_of us)) ∙ sym (put_once l us ws)

-- what was put below a higher bound
pub put_twice : (l n : ℕ) (us vs : List Use) → l ≤ n → put_all l us (put_all n [] vs) ≡ put_all l us vs
put_twice l n us vs h =
    put_once l us (put_all n [] vs)
    ∙ ap (λ ts. us ++ once_below l (numbers_of us) ts) (put_once n [] vs)
    ∙ ap (λ ts. us ++ ts) (once_twice l n (numbers_of us) vs h) ∙ sym (put_once l us vs)

-- What a set of the numbers tells.

pub any_among : (n : ℕ) (ks : List ℕ) → list_any (eqb n) ks ≡ among n ks
any_among n [] = refl
any_among n (k ∷ ks) = ap (λ b. eqb n k || b) (any_among n ks)

pub numbers_last : (us : List Use) (u : Use) → numbers_of (us ++ u ∷ []) ≡ numbers_of us ++ u.number ∷ []
numbers_last [] u = refl
numbers_last (v ∷ us) u = ap (λ ns. v.number ∷ ns) (numbers_last us u)

pub put_high : (l : ℕ) (us : List Use) (u : Use) → l ≤ u.number → us ≡ put l us u
put_high l us u h =
    sym (ap (λ b. if b && not (among u.number (numbers_of us)) then us ++ u ∷ [] else us) (le-ltb u.number l h))

skipped : (x y : Bool) (us vs : List Use) → y ≡ true → us ≡ (if x && not y then vs else us)
skipped true true us vs h = refl
skipped true false us vs h = absurd cc
skipped false y us vs h = refl

pub put_seen : (l : ℕ) (us : List Use) (u : Use) → among u.number (numbers_of us) ≡ true → us ≡ put l us u
put_seen l us u h = skipped (ltb u.number l) (among u.number (numbers_of us)) us (us ++ u ∷ []) h

pub put_new : (l : ℕ) (us : List Use) (u : Use) → u.number < l → among u.number (numbers_of us) ≡ false
    → us ++ u ∷ [] ≡ put l us u
put_new l us u h e =
    sym (ap (λ b. if b && not (among u.number (numbers_of us)) then us ++ u ∷ [] else us) (lt-ltb u.number l h)
    ∙ ap (λ b. if not b then us ++ u ∷ [] else us) e)
