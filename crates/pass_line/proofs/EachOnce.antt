-- Each key once, in the order of a set.
use Rattle.std.proofs.Common.{◌≡◌, List, [], ◌∷◌, ◌++◌, ◌&&◌, ◌||◌, Bool, true, false, not, eqb, if◌then◌else◌, refl, sym, ap, ap₂, subst, ◌∙◌, append_assoc, rules}
use Rattle.std.specs.Bool.{Decides}
use Rattle.std.proofs.lemmas.Bool.Decides.{same_from_decides}
use Rattle.erl_base.specs.Names.{same_name, same_key, is_key, keys_distinct}
use Rattle.erl_base.specs.declared.ids.FunKey.{FunKey}
use Rattle.beam_table.specs.ValidModule.{every}
use Rattle.behaviour.specs.Called.{without, each_once}
use Rattle.pass_line.specs.PlainModule.{are_new}
use Rattle.pass_line.proofs.Names.{same_name-Decides, both}
use Rattle.pass_line.proofs.Reading.{if_true, if_false}

-- the keys that are not among the others
abbrev pub without_all : List FunKey → List FunKey → List FunKey
without_all fs [] = []
without_all fs (g ∷ gs) = if is_key g fs then without_all fs gs else g ∷ without_all fs gs

pub same_key-Decides : (f g : FunKey) → Decides (same_key f g) (f ≡ g)
same_key-Decides f g = (
  λ h. let p : (same_name f.name g.name ≡ true) × (eqb f.arity g.arity ≡ true) =
      both (same_name f.name g.name) (eqb f.arity g.arity) h in
      let n : f.name ≡ g.name = (same_name-Decides f.name g.name).0 p.0 in
      let a : f.arity ≡ g.arity = search (rules, p.1) in
      λ i. record { name = n i; arity = a i },
  λ e. subst (λ k. same_key f k ≡ true) e
      (ap₂ ◌&&◌ ((same_name-Decides f.name f.name).1 refl) (search rules)),
)

same_key-sym : (f g : FunKey) → same_key f g ≡ same_key g f
same_key-sym f g = same_from_decides (same_key f g) (same_key g f) (same_key-Decides f g)
    (λ h. sym ((same_key-Decides g f).0 h), λ e. (same_key-Decides g f).1 (sym e))

or_false : (b : Bool) → (b || false) ≡ b
or_false true = refl
or_false false = refl

or_true : (b : Bool) → (b || true) ≡ true
or_true true = refl
or_true false = refl

or_assoc : (a b c : Bool) → (a || (b || c)) ≡ ((a || b) || c)
or_assoc true b c = refl
or_assoc false b c = refl

is_key-push : (x f : FunKey) (ks : List FunKey) → is_key x (ks ++ f ∷ []) ≡ (is_key x ks || same_key x f)
is_key-push x f [] = or_false (same_key x f)
is_key-push x f (k ∷ ks) =
    ap (λ b. same_key x k || b) (is_key-push x f ks) ∙ or_assoc (same_key x k) (is_key x ks) (same_key x f)

skip : (f : FunKey) (ks : List FunKey) → is_key f ks ≡ true → (xs : List FunKey)
    → without_all ks (without f xs) ≡ without_all ks xs
skip f ks h [] = refl
skip f ks h (x ∷ xs) = by (same_key f x) refl (skip f ks h xs)
  where
    by : (b : Bool) → same_key f x ≡ b → without_all ks (without f xs) ≡ without_all ks xs →
        without_all ks (without f (x ∷ xs)) ≡ without_all ks (x ∷ xs)
    by true e r = ap (without_all ks) (if_true (same_key f x) (without f xs) (x ∷ without f xs) e) ∙ r
        ∙ sym (if_true (is_key x ks) (without_all ks xs) (x ∷ without_all ks xs)
        (subst (λ k. is_key k ks ≡ true) ((same_key-Decides f x).0 e) h))
    by false e r = ap (without_all ks) (if_false (same_key f x) (without f xs) (x ∷ without f xs) e)
        ∙ ap (λ l. if is_key x ks then l else x ∷ l) r

push : (f : FunKey) (ks xs : List FunKey) → without_all (ks ++ f ∷ []) xs ≡ without_all ks (without f xs)
push f ks [] = refl
push f ks (x ∷ xs) = by (same_key f x) refl (push f ks xs)
  where
    by : (b : Bool) → same_key f x ≡ b → without_all (ks ++ f ∷ []) xs ≡ without_all ks (without f xs) →
        without_all (ks ++ f ∷ []) (x ∷ xs) ≡ without_all ks (without f (x ∷ xs))
    by true e r =
        if_true (is_key x (ks ++ f ∷ [])) (without_all (ks ++ f ∷ []) xs) (x ∷ without_all (ks ++ f ∷ []) xs)
        (is_key-push x f ks ∙ ap (λ b. is_key x ks || b) (same_key-sym x f ∙ e) ∙ or_true (is_key x ks))
        ∙ r ∙ sym (ap (without_all ks) (if_true (same_key f x) (without f xs) (x ∷ without f xs) e))
    by false e r =
        ap₂ (λ b l. if b then l else x ∷ l)
        (is_key-push x f ks ∙ ap (λ b. is_key x ks || b) (same_key-sym x f ∙ e) ∙ or_false (is_key x ks)) r
        ∙ sym (ap (without_all ks) (if_false (same_key f x) (without f xs) (x ∷ without f xs) e))

module _ (f : FunKey) (ks fs : List FunKey) where
  pub once_known : is_key f ks ≡ true → ks ++ without_all ks (each_once (f ∷ fs)) ≡ ks ++ without_all ks (each_once fs)
  once_known h = ap (λ l. ks ++ l)
      (if_true (is_key f ks) (without_all ks (without f (each_once fs)))
      (f ∷ without_all ks (without f (each_once fs))) h ∙ skip f ks h (each_once fs))

  pub once_new : is_key f ks ≡ false →
      ks ++ without_all ks (each_once (f ∷ fs)) ≡ (ks ++ f ∷ []) ++ without_all (ks ++ f ∷ []) (each_once fs)
  once_new h =
      ap (λ l. ks ++ l) (if_false (is_key f ks) (without_all ks (without f (each_once fs)))
      (f ∷ without_all ks (without f (each_once fs))) h)
      ∙ ap (λ l. ks ++ f ∷ l) (sym (push f ks (each_once fs)))
      ∙ sym (append_assoc ks (f ∷ []) (without_all (ks ++ f ∷ []) (each_once fs)))

  -- a key that is tried next
  pub once_step : ks ++ without_all ks (each_once (f ∷ fs)) ≡
      (if is_key f ks then ks else ks ++ f ∷ [])
      ++ without_all (if is_key f ks then ks else ks ++ f ∷ []) (each_once fs)
  once_step = by (is_key f ks) refl
    where
      by : (b : Bool) → is_key f ks ≡ b → ks ++ without_all ks (each_once (f ∷ fs)) ≡
          (if is_key f ks then ks else ks ++ f ∷ [])
          ++ without_all (if is_key f ks then ks else ks ++ f ∷ []) (each_once fs)
      by true e = once_known e
          ∙ sym (ap (λ b. (if b then ks else ks ++ f ∷ []) ++ without_all (if b then ks else ks ++ f ∷ [])
          (each_once fs)) e)
      by false e = once_new e ∙ sym
          (ap (λ b. (if b then ks else ks ++ f ∷ []) ++ without_all (if b then ks else ks ++ f ∷ []) (each_once fs)) e)

pub without_none : (xs : List FunKey) → without_all [] xs ≡ xs
without_none [] = refl
without_none (x ∷ xs) = ap (λ l. x ∷ l) (without_none xs)

-- Keys of which each differs from those before it.

apart_once : (p q e r : Bool) → (not (p || q) && (e && not r)) ≡ ((not p && e) && not (q || r))
apart_once true q e r = refl
apart_once false true true r = refl
apart_once false true false r = refl
apart_once false false e r = refl

apart : (before : List FunKey) (k : FunKey) (ks : List FunKey) →
    every (λ j. not (is_key j (before ++ k ∷ []))) ks ≡ (every (λ j. not (is_key j before)) ks && not (is_key k ks))
apart before k [] = refl
apart before k (j ∷ js) =
    ap₂ (λ b c. not b && c) (is_key-push j k before ∙ ap (λ b. is_key j before || b) (same_key-sym j k))
    (apart before k js)
    ∙ apart_once (is_key j before) (same_key k j) (every (λ j. not (is_key j before)) js) (is_key k js)

and_moved : (a b c d : Bool) → (a && ((b && c) && d)) ≡ ((a && b) && (c && d))
and_moved true true c d = refl
and_moved true false c d = refl
and_moved false b c d = refl

are_new-split : (before ks : List FunKey)
    → are_new before ks ≡ (every (λ j. not (is_key j before)) ks && keys_distinct ks)
are_new-split before [] = refl
are_new-split before (k ∷ ks) =
    ap (λ b. not (is_key k before) && b)
    (are_new-split (before ++ k ∷ []) ks ∙ ap (λ b. b && keys_distinct ks) (apart before k ks))
    ∙ and_moved (not (is_key k before)) (every (λ j. not (is_key j before)) ks) (not (is_key k ks)) (keys_distinct ks)

none_before : (ks : List FunKey) → every (λ j. not (is_key j [])) ks ≡ true
none_before [] = refl
none_before (k ∷ ks) = none_before ks

pub are_new-keys_distinct : (ks : List FunKey) → are_new [] ks ≡ keys_distinct ks
are_new-keys_distinct ks = are_new-split [] ks ∙ ap (λ b. b && keys_distinct ks) (none_before ks)
