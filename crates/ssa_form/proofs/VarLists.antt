-- Lists of variables, and the variables that are tags.
use Rattle.std.proofs.Common.{◌≡◌, ◌⊎◌, inl, inr, ⊎_elim, ℕ, zero, suc, List, [], ◌∷◌, ◌++◌, Bool, true, false, not, ◌&&◌, ◌||◌, Option, Some, None, refl, sym, ap, ◌∙◌, eqb, IsTrue, IsFalse, if◌then◌else◌, slice_get}
use Rattle.std.proofs.lemmas.Bool.{eqb-true, eq-eqb}
use Rattle.erl_base.specs.Lists.{among}
use Rattle.ssa_form.specs.Ssa.{FrameAction, Set, Last, Block, Body, block_at, or_none}
use Rattle.ssa_form.specs.Storage.{Mode}
use Rattle.ssa_form.specs.SetFacts.{dst_vars, given_vars, gives_nothing, is_try_start, all_among, none_among}
use Rattle.ssa_form.specs.Flow.{Point, set_from, set_in, set_at}
use Rattle.ssa_form.specs.WellFormed.{chain_tags, tags_in}
use Rattle.ssa_form.proofs.OpenHandlers.{some_is}
use Rattle.ssa_form.proofs.TwoStorages.{writes}

-- Lists of variables.

pub or_true : (a b : Bool) → IsTrue (a || b) → (IsTrue a) ⊎ (IsTrue b)
or_true true b e = inl refl
or_true false b e = inr e

pub and_both : (a b : Bool) → IsTrue (a && b) → IsTrue a × IsTrue b
and_both true b e = (refl, e)
and_both false b e = absurd cc

pub right_true : (a b : Bool) → IsTrue b → IsTrue (a || b)
right_true true b e = refl
right_true false b e = e

pub left_true : (a b : Bool) → IsTrue a → IsTrue (a || b)
left_true true b e = refl
left_true false b e = absurd cc

pub among_append : (v : ℕ) (xs ys : List ℕ) → IsTrue (among v (xs ++ ys)) → (IsTrue (among v xs))
    ⊎ (IsTrue (among v ys))
among_append v [] ys e = inr e
among_append v (x ∷ xs) ys e = ⊎_elim (λ h. inl (left_true (eqb v x) (among v xs) h))
    (λ h. ⊎_elim (λ i. inl (right_true (eqb v x) (among v xs) i)) (λ i. inr i) (among_append v xs ys h))
    (or_true (eqb v x) (among v (xs ++ ys)) e)

pub among_right : (v : ℕ) (xs ys : List ℕ) → IsTrue (among v ys) → IsTrue (among v (xs ++ ys))
among_right v [] ys e = e
among_right v (x ∷ xs) ys e = right_true (eqb v x) (among v (xs ++ ys)) (among_right v xs ys e)

pub among_left : (v : ℕ) (xs ys : List ℕ) → IsTrue (among v xs) → IsTrue (among v (xs ++ ys))
among_left v [] ys e = absurd cc
among_left v (x ∷ xs) ys e = ⊎_elim (λ h. left_true (eqb v x) (among v (xs ++ ys)) h)
    (λ h. right_true (eqb v x) (among v (xs ++ ys)) (among_left v xs ys h)) (or_true (eqb v x) (among v xs) e)

pub all_first : (xs ys vs : List ℕ) → IsTrue (all_among (xs ++ ys) vs) → IsTrue (all_among xs vs)
all_first [] ys vs e = refl
all_first (x ∷ xs) ys vs e = let p : IsTrue (among x vs) × IsTrue (all_among (xs ++ ys) vs) =
    and_both _ _ e in simp (p.0, all_first xs ys vs p.1) refl

pub all_second : (xs ys vs : List ℕ) → IsTrue (all_among (xs ++ ys) vs) → IsTrue (all_among ys vs)
all_second [] ys vs e = e
all_second (x ∷ xs) ys vs e = all_second xs ys vs (and_both _ _ e).1

pub none_first : (xs ys vs : List ℕ) → IsTrue (none_among (xs ++ ys) vs) → IsTrue (none_among xs vs)
none_first [] ys vs e = refl
none_first (x ∷ xs) ys vs e = let p : IsTrue (not (among x vs)) × IsTrue (none_among (xs ++ ys) vs) =
    and_both _ _ e in simp (p.0, none_first xs ys vs p.1) refl

pub none_second : (xs ys vs : List ℕ) → IsTrue (none_among (xs ++ ys) vs) → IsTrue (none_among ys vs)
none_second [] ys vs e = e
none_second (x ∷ xs) ys vs e = none_second xs ys vs (and_both _ _ e).1

pub not_true : (b : Bool) → IsTrue (not b) → IsFalse b
not_true true e = absurd cc
not_true false e = refl

-- Tags.

abbrev taken : Set → Mode → Set × Mode
taken x m = (x, m)

true_false : IsTrue false → ⊥
true_false e = cc

dst_among : (d : Option ℕ) (v : ℕ) → d ≡ Some v → IsTrue (among v (dst_vars d))
dst_among None v e = absurd cc
dst_among (Some w) v e = left_true (eqb v w) false (eq-eqb v w (some_is v w (sym e)))

some_set : (x y : Set) (m n : Mode) → Some (taken x m) ≡ Some (taken y n) → x ≡ y
some_set x y m n e = let p : taken x m ≡ taken y n = cc in ap (λ z. z.0) p

-- a tag of the first set, or of the others
chain_tag : (b : Bool) (v : ℕ) (d : Option ℕ) (vs : List ℕ) → (IsTrue b × IsTrue (among v (dst_vars d)))
    ⊎ IsTrue (among v vs) → IsTrue (among v (if b then dst_vars d ++ vs else vs))
chain_tag true v d vs h = ⊎_elim (λ p. among_left v (dst_vars d) vs p.1) (λ p. among_right v (dst_vars d) vs p) h
chain_tag false v d vs h = ⊎_elim (λ p. absurd (true_false p.0)) (λ p. p) h

tag_in_chain : (xs : List Set) (k : ℕ) (as' : List FrameAction) (l : Last) (x : Set) (m : Mode) (v : ℕ)
    → set_from xs k as' l ≡ Some (x, m) → IsTrue (is_try_start x.op) → x.dst ≡ Some v → IsTrue (among v (chain_tags xs))
tag_in_chain [] k as' l x m v e t d = absurd cc
tag_in_chain (y ∷ ys) zero as' l x m v e t d = let p : y ≡ x = some_set y x _ m e in
    chain_tag (is_try_start y.op) v y.dst (chain_tags ys) (inl (rw p t, dst_among y.dst v (ap (λ z. z.dst) p ∙ d)))
tag_in_chain (y ∷ ys) (suc k) as' l x m v e t d =
    chain_tag (is_try_start y.op) v y.dst (chain_tags ys) (inr (tag_in_chain ys k as' l x m v e t d))

tag_in_block : (o : Option Block) (k : ℕ) (x : Set) (m : Mode) (v : ℕ) → set_in o k ≡ Some (x, m)
    → IsTrue (is_try_start x.op) → x.dst ≡ Some v → (y : Block) × (o ≡ Some y) × IsTrue (among v (chain_tags y.chain))
tag_in_block None k x m v e t d = absurd cc
tag_in_block (Some y) k x m v e t d = (y, refl, tag_in_chain y.chain k y.before y.last x m v e t d)

tag_in_blocks : (os : List (Option Block)) (n : ℕ) (y : Block) (v : ℕ) → or_none (slice_get os n) ≡ Some y
    → IsTrue (among v (chain_tags y.chain)) → IsTrue (among v (tags_in os))
tag_in_blocks [] n y v e h = absurd cc
tag_in_blocks (None ∷ os) zero y v e h = absurd cc
tag_in_blocks (Some z ∷ os) zero y v e h =
    among_left v (chain_tags z.chain) (tags_in os) (let p : z ≡ y = some_is z y e in rw p h)
tag_in_blocks (None ∷ os) (suc n) y v e h = tag_in_blocks os n y v e h
tag_in_blocks (Some z ∷ os) (suc n) y v e h =
    among_right v (chain_tags z.chain) (tags_in os) (tag_in_blocks os n y v e h)

pub dst_is_tag : (b : Body) (p : Point) (x : Set) (m : Mode) (v : ℕ) → set_at b p ≡ Some (x, m)
    → IsTrue (is_try_start x.op) → x.dst ≡ Some v → IsTrue (among v (tags_in b.blocks))
dst_is_tag b p x m v e t d = let r : (y : Block) × (block_at b p.block ≡ Some y)
    × IsTrue (among v (chain_tags y.chain)) =
    tag_in_block (block_at b p.block) p.done x m v e t d in tag_in_blocks b.blocks p.block r.0 v r.1 r.2

-- What a set gives.

dst_only : (d : Option ℕ) (v : ℕ) → IsTrue (among v (dst_vars d)) → d ≡ Some v
dst_only None v j = absurd cc
dst_only (Some y) v j = ⊎_elim (λ k. ap (λ z. Some z) (sym (eqb-true v y k))) (λ k. absurd cc)
    (or_true (eqb v y) false j)

-- it is the variable that is set
pub given_dst : (x : Set) (v : ℕ) → IsTrue (among v (given_vars x)) → x.dst ≡ Some v
given_dst x v j = by (gives_nothing x.op) j
  where
    by : (a : Bool) → IsTrue (among v (if a then [] else dst_vars x.dst)) → x.dst ≡ Some v
    by true j = absurd cc
    by false j = dst_only x.dst v j

-- or a tag, where nothing is written
pub unwritten_tag : (b : Body) (p : Point) (x : Set) (m : Mode) (v : ℕ) → set_at b p ≡ Some (x, m)
    → IsFalse (writes x.op) → IsTrue (among v (given_vars x)) → IsTrue (among v (tags_in b.blocks))
unwritten_tag b p x m v e f j = by (gives_nothing x.op) (is_try_start x.op) refl f j
  where
    by : (a c : Bool) → is_try_start x.op ≡ c → IsFalse (not (a || c))
        → IsTrue (among v (if a then [] else dst_vars x.dst)) → IsTrue (among v (tags_in b.blocks))
    by true c t f j = absurd cc
    by false true t f j = dst_is_tag b p x m v e t (dst_only x.dst v j)
    by false false t f j = absurd cc
