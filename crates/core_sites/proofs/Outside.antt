-- Scopes inside of others, and how they are left.
use Rattle.std.proofs.Common.{◌≡◌, ℕ, suc, add-one, get_or, drop-cons, ◌+◌, ◌-◌, ◌<◌, ◌≤◌, MatchOption, Option, Some, None, take, take-take, List, [], ◌∷◌, ◌++◌, length, drop, replicate, refl, sym, ap, ◌∙◌, append_assoc, length-append, arith}
use Rattle.std.proofs.Math.Seq.{drop-append_seam, take-length}
use Rattle.std.proofs.lemmas.List.{take-append-le, length-take-le}
use Rattle.erl_base.specs.Names.{Name}
use Rattle.core_form.specs.Core.{Defs, no_def, and_def, def}
use Rattle.core_form.specs.Scope.{Meant, Scope, variable, function, with_names}
use Rattle.core_form.specs.Scope.{Use}
use Rattle.core_sites.specs.Gathering.{named, IsInside}
use Rattle.core_sites.specs.Listing.{Held, padded, with_group}

-- bindings around others
pub record Inner (g h : Scope) : Type 0 where
  pub front : List Meant
  pub is : h ≡ front ++ g

inner_more : {g h : Scope} (b : Meant) → Inner (b ∷ g) h → Inner g h
inner_more {g} {h} b w = record { front = w.front ++ b ∷ []; is = w.is ∙ sym (append_assoc w.front (b ∷ []) g) }

pub inner_names : (g : Scope) (xs : List Name) → Inner g (with_names g xs)
inner_names g [] = record { front = []; is = refl }
inner_names g (x ∷ xs) = inner_more (variable x (length g)) (inner_names (variable x (length g) ∷ g) xs)

pub inner_named : (ds : Defs) (g : Scope) → Inner g (named ds g)
inner_named no_def g = record { front = []; is = refl }
inner_named (and_def (def p f e) ds) g = inner_more (function f 0 []) (inner_named ds (function f 0 [] ∷ g))

pub longer : {g h : Scope} (now : Scope) (n : ℕ) → Inner g h → now ≡ h → n ≡ length g → n ≤ length now
longer {g} {h} now n w e k =
    let l = ap length (e ∙ w.is) ∙ length-append w.front g in
    omega (arith, l, k)

pub left : {g h : Scope} (now : Scope) (n : ℕ) → Inner g h → now ≡ h → n ≡ length g → drop (length now - n) now ≡ g
left {g} {h} now n w e k =
    let l = ap length (e ∙ w.is) ∙ length-append w.front g in
    let size : length now - n ≡ length w.front = omega (arith, l, k) in
    ap (λ m. drop m now) size ∙ ap (λ ts. drop (length w.front) ts) (e ∙ w.is) ∙ drop-append_seam w.front g

pub with_names_append : (g : Scope) (xs ys : List Name) → with_names g (xs ++ ys) ≡ with_names (with_names g xs) ys
with_names_append g [] ys = refl
with_names_append g (x ∷ xs) ys = with_names_append (variable x (length g) ∷ g) xs ys

shorter : {A : Type 0} (m : ℕ) (xs ys : List A) (y : A) → m ≤ length xs → take m xs ≡ ys ++ y ∷ []
    → ys ≡ take (m - 1) xs
shorter m xs ys y h e =
    let size = sym (length-take-le m xs h) ∙ ap length e ∙ length-append ys (y ∷ []) in
    let last : length ys ≡ m - 1 = omega (arith, size) in
    sym (take-append-le (length ys) ys (y ∷ []) (omega arith) ∙ take-length ys)
    ∙ ap (λ ts. take (length ys) ts) (sym e) ∙ take-take (length ys) m xs (omega (arith, last))
    ∙ ap (λ n. take n xs) last

-- one item less
pub popped : {A : Type 0} (o : Option A) (xs now ys : List A) (i : ℕ)
    → MatchOption o ((now ≡ []) × (ys ≡ [])) (λ last. now ≡ ys ++ last ∷ []) → now ≡ take (length xs - i) xs
    → i < length xs → ys ≡ take (length xs - (i + 1)) xs
popped None xs now ys i h e k =
    let size = sym (length-take-le (length xs - i) xs (omega arith)) ∙ ap length (sym e ∙ h.0) in
    absurd (omega (arith, size, k))
popped (Some y) xs now ys i h e k =
    let fewer : length xs - i - 1 ≡ length xs - (i + 1) = omega arith in
    shorter (length xs - i) xs ys y (omega arith) (sym e ∙ h) ∙ ap (λ n. take n xs) fewer

-- what is held for a group stands behind the rest
record Behind (st su : Held) : Type 0 where
  pub rest : Held
  pub is : su ≡ st ++ rest

behind_group : (ds : Defs) (us : List Use) (st su : Held) → Behind st su → Behind st (with_group ds us su)
behind_group no_def us st su w = w
behind_group (and_def d ds) us st su w =
    behind_group ds us st (su ++ Some us ∷ []) (record {
      rest = w.rest ++ Some us ∷ [];
      is = ap (λ ts. ts ++ Some us ∷ []) w.is ∙ append_assoc st w.rest (Some us ∷ []);
    })

-- what was held before
pub held_left : (st now : Held) (n m : ℕ) (ds : Defs) (us : List Use) → now ≡ with_group ds us (padded n st)
    → m ≡ length st → take m now ≡ st
held_left st now n m ds us e h =
    let w = behind_group ds us st (padded n st) (record { rest = replicate (n - length st) None; is = refl }) in
    ap (λ k. take k now) h ∙ ap (λ ts. take (length st) ts) (e ∙ w.is)
    ∙ take-append-le (length st) st w.rest (omega arith) ∙ take-length st

-- The next item of a loop.

pub next : {A : Type 0} (xs : List A) (i : ℕ) (x : A) → x ≡ get_or xs i x → i < length xs
    → drop i xs ≡ x ∷ drop (i + 1) xs
next xs i x e h = drop-cons xs i x h ∙ ap (λ y. y ∷ drop (suc i) xs) (sym e) ∙ ap (λ k. x ∷ drop k xs) (sym (add-one i))

-- what is done with a list that the items give, item by item
module _ {S A B : Type 0} (act : S → List B → S)
    (act_append : (s : S) (xs ys : List B) → act s (xs ++ ys) ≡ act (act s xs) ys) where
  pub acted : (f : List A → List B) (s now : S) (xs : List A) (i : ℕ) (x : A) (o : List B) → x ≡ get_or xs i x
      → i < length xs → now ≡ act s o → f (x ∷ drop (i + 1) xs) ≡ o ++ f (drop (i + 1) xs)
      → act now (f (drop (i + 1) xs)) ≡ act s (f (drop i xs))
  acted f s now xs i x o e h k split =
      ap (λ t. act t (f (drop (i + 1) xs))) k ∙ sym (act_append s o (f (drop (i + 1) xs)))
      ∙ ap (λ ys. act s ys) (sym split) ∙ ap (λ ys. act s (f ys)) (sym (next xs i x e h))

pub inside_named : (ds : Defs) (g now : Scope) → now ≡ named ds g → IsInside g now
inside_named ds g now e = record {
  longer = longer now (length g) (inner_named ds g) e refl;
  left = left now (length g) (inner_named ds g) e refl;
}
