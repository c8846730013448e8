-- The assembly of a plain module is valid.
use Rattle.std.proofs.Common.{◌≡◌, ◌<◌, ◌+◌, ◌*◌, ◌^◌, not, ◌&&◌, ◌||◌, ℕ, zero, suc, List, [], ◌∷◌, ◌++◌, map, length, if◌then◌else◌, leb, Bool, true, false, Option, None, Some, refl, sym, ap, ap₂, ◌∙◌, subst, arith}
use Rattle.std.proofs.lemmas.Bool.{ne_eqb, lt-ltb, le-leb, leb-true}
use Rattle.erl_base.specs.Names.{same_key, is_key, keys_distinct}
use Rattle.erl_base.specs.declared.ids.FunKey.{FunKey}
use Rattle.erl_term.specs.Term as T
use Rattle.core_form.specs.declared.tree.Binder.{Binder}
use Rattle.core_form.specs.Core.{Expr, literal, var, Defs, no_def, and_def, def}
use Rattle.beam_table.specs.OperandBounds.{label_ok}
use Rattle.erl_base.specs.Lists.{among}
use Rattle.beam_table.specs.ValidModule.{every, distinct, labels_in, all_labels, entries_of, fun_ok}
use Rattle.behaviour.specs.Called.{without, each_once, export_keys}
use Rattle.behaviour.specs.PlainModules.{PlainBody, number, atom, parameter, PlainFun, plain_code, plain_asm, parameter_place, as_parameter, plain_body, plain_fun, body_fits, fun_fits, PlainAssemblyIsValid}
use Rattle.behaviour.proofs.Keys.{and_true, or_false, some_is}
use Rattle.behaviour.proofs.PlainMeaning.{IsPlain, plain_each, fun_is, place_below}

both : (a b : Bool) → a ≡ true → b ≡ true → (a && b) ≡ true
both a b e f = ap₂ (λ x y. x && y) e f

neither : (a b : Bool) → a ≡ false → b ≡ false → (a || b) ≡ false
neither a b e f = ap₂ (λ x y. x || y) e f

-- Labels.

no_labels : (b : PlainBody) → labels_in (plain_code b) ≡ []
no_labels (number z) = refl
no_labels (atom a) = refl
no_labels (parameter zero) = refl
no_labels (parameter (suc j)) = refl

numbered : ℕ → List PlainFun → List ℕ
numbered k [] = []
numbered k (h ∷ hs) = (2 * k + 1) ∷ (2 * k + 2) ∷ numbered (suc k) hs

labels_are : (k : ℕ) (hs : List PlainFun) → all_labels (plain_asm k hs) ≡ numbered k hs
unfolding numbered
labels_are k [] = refl
labels_are k (h ∷ hs) = ap₂ (λ l m. (2 * k + 1) ∷ (2 * k + 2) ∷ l ++ m) (no_labels h.body) (labels_are (suc k) hs)

label_fits : (l : ℕ) → 0 < l → l < 2 ^ 32 → label_ok l ≡ true
label_fits l a b = both _ _ (lt-ltb 0 l a) (lt-ltb l (2 ^ 32) b)

numbered_fit : (k : ℕ) (hs : List PlainFun) → k + length hs < 2 ^ 31 → every label_ok (numbered k hs) ≡ true
unfolding numbered
numbered_fit k [] l = refl
numbered_fit k (h ∷ hs) l =
    both _ _ (label_fits (2 * k + 1) (omega arith) (omega (arith, l)))
    (both _ _ (label_fits (2 * k + 2) (omega arith) (omega (arith, l))) (numbered_fit (suc k) hs (omega (arith, l))))

not_among : (l k : ℕ) (hs : List PlainFun) → l < 2 * k + 1 → among l (numbered k hs) ≡ false
unfolding numbered
not_among l k [] b = refl
not_among l k (h ∷ hs) b =
    neither _ _ (ne_eqb l (2 * k + 1) (λ e. omega (arith, b, e)))
    (neither _ _ (ne_eqb l (2 * k + 2) (λ e. omega (arith, b, e))) (not_among l (suc k) hs (omega (arith, b))))

numbered_differ : (k : ℕ) (hs : List PlainFun) → distinct (numbered k hs) ≡ true
unfolding numbered
numbered_differ k [] = refl
numbered_differ k (h ∷ hs) =
    both _ _ (ap not (neither _ _ (ne_eqb (2 * k + 1) (2 * k + 2) (λ e. omega (arith, e)))
    (not_among (2 * k + 1) (suc k) hs (omega arith))))
    (both _ _ (ap not (not_among (2 * k + 2) (suc k) hs (omega arith))) (numbered_differ (suc k) hs))

-- Code.

-- a parameter is one of those that the arity says
abbrev IsBelow : PlainBody → ℕ → Type 0
IsBelow (number z) n = Unit {0}
IsBelow (atom a) n = Unit {0}
IsBelow (parameter j) n = j < n

fun_valid : (es : List ℕ) (k : ℕ) (f : FunKey) (b : PlainBody) → leb f.arity 255 ≡ true → body_fits b ≡ true
    → IsBelow b f.arity →
    fun_ok es (record { key = f; info = 2 * k + 1; entry = 2 * k + 2; code = plain_code b }) ≡ true
unfolding fun_ok
fun_valid es k f (number z) l e w = both _ _ l (both _ _ (both _ _ (both _ _ (both _ _ e refl) refl) refl) refl)
fun_valid es k f (atom a) l e w = both _ _ l refl
fun_valid es k f (parameter zero) l e w = both _ _ l refl
fun_valid es k f (parameter (suc j)) l e w =
    both _ _ l (both _ _ (both _ _
    (both _ _ (both _ _ (le-leb (suc j) 1022 (omega (arith, w, leb-true f.arity 255 l))) refl) refl) refl) refl)

body_below : (params : List Binder) (e : Expr) (b : PlainBody) → plain_body params e ≡ Some b
    → IsBelow b (length params)
body_below bs (literal p (T.int z)) b a = subst (λ c. IsBelow c (length bs)) (some_is (number z) b a) tt
body_below bs (literal p (T.atom c)) b a = subst (λ d. IsBelow d (length bs)) (some_is (atom c) b a) tt
body_below bs (literal p _) b a = absurd cc
body_below bs (var p x) b a = go (parameter_place x bs) refl a
  where
    go : (o : Option ℕ) → parameter_place x bs ≡ o → as_parameter o ≡ Some b → IsBelow b (length bs)
    go None e z = absurd cc
    go (Some j) e z = subst (λ c. IsBelow c (length bs)) (some_is (parameter j) b z) (place_below x bs j e)
body_below bs _ b a = absurd cc

below : (f : FunKey) (e : Expr) (h : PlainFun) → plain_fun f e ≡ Some h → IsBelow h.body h.key.arity
below f e h q =
    let w = fun_is f e h q in
    subst (λ n. IsBelow h.body n) (sym w.arity ∙ ap (λ z. z.arity) (sym w.key))
    (body_below w.params w.body h.body w.plain)

funs_valid : (es : List ℕ) (ds : Defs) (hs : List PlainFun) (k : ℕ) → IsPlain ds hs → every fun_fits hs ≡ true
    → every (fun_ok es) (plain_asm k hs) ≡ true
funs_valid es no_def [] k a e = refl
funs_valid es no_def (h ∷ hs) k a e = absurd a
funs_valid es (and_def d ds) [] k a e = absurd a
funs_valid es (and_def (def p f x) ds) (h ∷ hs) k a e =
    let w = and_true (fun_fits h) (every fun_fits hs) e in
    let v = and_true (leb h.key.arity 255) (body_fits h.body) w.0 in
    both _ _ (fun_valid es k h.key h.body v.0 v.1 (below f x h a.0)) (funs_valid es ds hs (suc k) a.1 w.1)

-- Exports.

without_every : (p : FunKey → Bool) (f : FunKey) (gs : List FunKey) → every p gs ≡ true → every p (without f gs) ≡ true
without_every p f [] e = refl
without_every p f (g ∷ gs) e = go (same_key f g) (without_every p f gs (and_true (p g) (every p gs) e).1)
  where
    go : (c : Bool) → every p (without f gs) ≡ true → every p (if c then without f gs else g ∷ without f gs) ≡ true
    go true h = h
    go false h = both _ _ (and_true (p g) (every p gs) e).0 h

without_other : (k f : FunKey) (gs : List FunKey) → is_key k gs ≡ false → is_key k (without f gs) ≡ false
without_other k f [] e = refl
without_other k f (g ∷ gs) e = go (same_key f g) (without_other k f gs (or_false (same_key k g) (is_key k gs) e).1)
  where
    go : (c : Bool) → is_key k (without f gs) ≡ false → is_key k (if c then without f gs else g ∷ without f gs) ≡ false
    go true h = h
    go false h = neither _ _ (or_false (same_key k g) (is_key k gs) e).0 h

without_gone : (f : FunKey) (gs : List FunKey) → is_key f (without f gs) ≡ false
without_gone f [] = refl
without_gone f (g ∷ gs) = go (same_key f g) refl (without_gone f gs)
  where
    go : (c : Bool) → same_key f g ≡ c → is_key f (without f gs) ≡ false
        → is_key f (if c then without f gs else g ∷ without f gs) ≡ false
    go true s h = h
    go false s h = neither _ _ s h

not_false : (b : Bool) → not b ≡ true → b ≡ false
not_false true e = absurd cc
not_false false e = refl

without_distinct : (f : FunKey) (gs : List FunKey) → keys_distinct gs ≡ true → keys_distinct (without f gs) ≡ true
without_distinct f [] e = refl
without_distinct f (g ∷ gs) e =
    go (same_key f g) (without_distinct f gs (and_true (not (is_key g gs)) (keys_distinct gs) e).1)
  where
    go : (c : Bool) → keys_distinct (without f gs) ≡ true
        → keys_distinct (if c then without f gs else g ∷ without f gs) ≡ true
    go true h = h
    go false h = both _ _ (ap not (without_other g f gs
        (not_false _ (and_true (not (is_key g gs)) (keys_distinct gs) e).0))) h

once_distinct : (fs : List FunKey) → keys_distinct (each_once fs) ≡ true
once_distinct [] = refl
once_distinct (f ∷ fs) =
    both _ _ (ap not (without_gone f (each_once fs))) (without_distinct f (each_once fs) (once_distinct fs))

once_every : (p : FunKey → Bool) (fs : List FunKey) → every p fs ≡ true → every p (each_once fs) ≡ true
once_every p [] e = refl
once_every p (f ∷ fs) e =
    let w = and_true (p f) (every p fs) e in
    both _ _ w.0 (without_every p f (each_once fs) (once_every p fs w.1))

keys_are : (k : ℕ) (hs : List PlainFun) → map (λ g. g.key) (plain_asm k hs) ≡ map (λ h. h.key) hs
keys_are k [] = refl
keys_are k (h ∷ hs) = ap (λ l. h.key ∷ l) (keys_are (suc k) hs)

pub plain_valid : PlainAssemblyIsValid
plain_valid m hs w t = record {
  labels = subst (λ l. (every label_ok l && distinct l) ≡ true) (sym (labels_are 0 hs))
      (both _ _ (numbered_fit 0 hs (omega (arith, t.few))) (numbered_differ 0 hs));
  functions = funs_valid (entries_of (plain_asm 0 hs)) m.defs hs 0 (plain_each m.defs hs w.plain) t.functions;
  exports = both _ _ (once_distinct (export_keys m))
      (once_every (λ f. is_key f (map (λ g. g.key) (plain_asm 0 hs))) (export_keys m)
      (subst (λ l. every (λ f. is_key f l) (export_keys m) ≡ true) (sym (keys_are 0 hs)) w.exports));
  attributes = t.attributes;
}
