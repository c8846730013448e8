-- Rows of expressions, one behind the other.
use Rattle.std.proofs.Common.{◌≡◌, refl, sym, ap, ◌∙◌, subst, ℕ, pos, List, [], ◌∷◌, ◌++◌, map, true, IsTrue, append_assoc, append-nil}
use Rattle.erl_base.specs.declared.ids.Place.{Place}
use Rattle.erl_term.specs.Term as T
use Rattle.erl_term.specs.declared.term.Term.{Term}
use Rattle.erl_term.specs.View as Terms
use Rattle.erl_term.proofs.Forms.{left_true, right_true, both_true}
use Rattle.term_read.proofs.WellRows.{views_pushed}
use Rattle.core_form.specs.declared.tree.Expr.{Expr}
use Rattle.core_form.specs.Core as C
use Rattle.core_form.specs.View.{view, exprs}
use Rattle.core_grammar.specs.ConstantTerms.{character_terms}
use Rattle.core_grammar.specs.ModuleOf.{character_exprs}
use Rattle.core_actions.specs.Joining.{before}
use Rattle.core_actions.specs.SoundTerms.{all_sound, expr_sound}
use Rattle.core_actions.specs.View.{all_items}

pub last_row : {A : Type 0} (xss : List (List A)) (xs : List A) → all_items (xss ++ xs ∷ []) ≡ xs ++ all_items xss
last_row [] xs = sym (append-nil xs)
last_row (ys ∷ xss) xs = ap (λ zs. zs ++ ys) (last_row xss xs) ∙ append_assoc xs (all_items xss) ys

-- a row taken off the end
pub row_taken : {A : Type 0} (rows left : List (List A)) (row all now all_now : List A) → rows ≡ left ++ row ∷ []
    → all_now ≡ now ++ row → now ++ all_items rows ≡ all → all_now ++ all_items left ≡ all
row_taken rows left row all now all_now e f h =
    ap (λ zs. zs ++ all_items left) f ∙ append_assoc now row (all_items left)
    ∙ ap (λ zs. now ++ zs) (sym (last_row left row) ∙ ap all_items (sym e)) ∙ h

pub before_nothing : (es : C.Exprs) → before es C.no_expr ≡ es
before_nothing C.no_expr = refl
before_nothing (C.and_expr e es) = ap (C.and_expr e) (before_nothing es)

pub exprs_before : (xs ys : List Expr)
    → exprs (map view (xs ++ ys)) ≡ before (exprs (map view xs)) (exprs (map view ys))
exprs_before [] ys = refl
exprs_before (x ∷ xs) ys = ap (C.and_expr (view x)) (exprs_before xs ys)

pub before_pushed : (xs : List Expr) (x : Expr) (es : C.Exprs)
    → before (exprs (map view (xs ++ x ∷ []))) es ≡ before (exprs (map view xs)) (C.and_expr (view x) es)
before_pushed [] x es = refl
before_pushed (y ∷ xs) x es = ap (C.and_expr (view y)) (before_pushed xs x es)

pub sound_both : (xs ys : List Expr) → IsTrue (all_sound (map expr_sound xs)) → IsTrue (all_sound (map expr_sound ys))
    → IsTrue (all_sound (map expr_sound (xs ++ ys)))
sound_both [] ys h k = k
sound_both (x ∷ xs) ys h k =
    both_true (expr_sound x) (all_sound (map expr_sound (xs ++ ys)))
    (left_true (expr_sound x) (all_sound (map expr_sound xs)) h)
    (sound_both xs ys (right_true (expr_sound x) (all_sound (map expr_sound xs)) h) k)

pub sound_one : (x : Expr) → IsTrue (expr_sound x) → IsTrue (all_sound (map expr_sound (x ∷ [])))
sound_one x h = both_true (expr_sound x) true h refl

pub sound_pushed : (xs new : List Expr) (x : Expr) → new ≡ xs ++ x ∷ [] → IsTrue (all_sound (map expr_sound xs))
    → IsTrue (expr_sound x) → IsTrue (all_sound (map expr_sound new))
sound_pushed xs new x e h k =
    subst (λ ys. IsTrue (all_sound (map expr_sound ys))) (sym e) (sound_both xs (x ∷ []) h (sound_one x k))

-- Codes.

pub code_term_pushed : (codes left : List ℕ) (code : ℕ) (items new : List Term) (t : Term) (all : List T.Term)
    → codes ≡ code ∷ left → new ≡ items ++ t ∷ [] → Terms.view t ≡ T.int (pos code)
    → map Terms.view items ++ character_terms codes ≡ all → map Terms.view new ++ character_terms left ≡ all
code_term_pushed codes left code items new t all e f g h =
    ap (λ xs. xs ++ character_terms left) (views_pushed items new t f ∙ ap (λ x. map Terms.view items ++ x ∷ []) g)
    ∙ append_assoc (map Terms.view items) (T.int (pos code) ∷ []) (character_terms left)
    ∙ ap (λ xs. map Terms.view items ++ character_terms xs) (sym e) ∙ h

pub code_literal_pushed : (p : Place) (codes left : List ℕ) (code : ℕ) (items new : List Expr) (x : Expr)
    (all : C.Exprs)
    → codes ≡ code ∷ left → new ≡ items ++ x ∷ [] → view x ≡ C.literal p (T.int (pos code))
    → before (exprs (map view items)) (character_exprs p codes) ≡ all
    → before (exprs (map view new)) (character_exprs p left) ≡ all
code_literal_pushed p codes left code items new x all e f g h =
    ap (λ xs. before (exprs (map view xs)) (character_exprs p left)) f
    ∙ before_pushed items x (character_exprs p left)
    ∙ ap (λ y. before (exprs (map view items)) (C.and_expr y (character_exprs p left))) g
    ∙ ap (λ xs. before (exprs (map view items)) (character_exprs p xs)) (sym e) ∙ h

pub literals_done : (p : Place) (xs : List Expr) (cs : List ℕ) (all : C.Exprs) → cs ≡ []
    → before (exprs (map view xs)) (character_exprs p cs) ≡ all → exprs (map view xs) ≡ all
literals_done p xs cs all e h =
    sym (before_nothing (exprs (map view xs)))
    ∙ ap (λ ds. before (exprs (map view xs)) (character_exprs p ds)) (sym e) ∙ h

pub row_added : (xs : List Expr) (rows new : List (List Expr)) → new ≡ rows ++ xs ∷ []
    → exprs (map view (all_items new)) ≡ before (exprs (map view xs)) (exprs (map view (all_items rows)))
row_added xs rows new e =
    ap (λ r. exprs (map view (all_items r))) e ∙ ap (λ r. exprs (map view r)) (last_row rows xs)
    ∙ exprs_before xs (all_items rows)

pub row_sound : (xs : List Expr) (rows new : List (List Expr)) → new ≡ rows ++ xs ∷ []
    → IsTrue (all_sound (map expr_sound xs)) → IsTrue (all_sound (map expr_sound (all_items rows)))
    → IsTrue (all_sound (map expr_sound (all_items new)))
row_sound xs rows new e h k =
    subst (λ r. IsTrue (all_sound (map expr_sound (all_items r)))) (sym e)
    (subst (λ r. IsTrue (all_sound (map expr_sound r))) (sym (last_row rows xs)) (sound_both xs (all_items rows) h k))
