-- A function other than `self` answers the same in every process; and what a folded answer says.
use Rattle.std.proofs.Common.{◌≡◌, refl, sym, ◌∙◌, subst, List, [], ◌∷◌, length, map, arith}
use Rattle.std.proofs.lemmas.List.{length-map}
use Rattle.erl_term.specs.Term as T
use Rattle.erl_term.specs.View.{view, class_view}
use Rattle.erl_term.specs.declared.term.Class.{Class}
use Rattle.erl_term.specs.declared.term.Term.{Term}
use Rattle.bif_table.specs.BuiltinAnswer as B
use Rattle.bif_table.specs.BuiltinAnswer.{Answer}
use Rattle.bif_table.specs.Builtins as L
use Rattle.bif_answer.specs.Answers.{IfValue, IfRaises, IfWide, IsWide, IsNoValue}
use Rattle.bif_answer.specs.declared.outcome.BifAnswer.{BifAnswer}
use Rattle.bif_answer.specs.declared.outcome.BifAnswer.TheVariants as V

-- only `self` takes no argument
alone : (b : L.Bif) → 0 ≡ L.arity_of b → (b ≡ L.Self → ⊥) → ⊥
alone L.Self e h = h refl
alone b e h = omega (arith, e)

in_any_process : (b : L.Bif) (o p : T.Term) (ts : List T.Term) → length ts ≡ L.arity_of b → (b ≡ L.Self → ⊥)
    → B.answer b o ts ≡ B.answer b p ts
unfolding B.answer
in_any_process b o p [] e h = absurd (alone b e h)
in_any_process b o p (x ∷ []) e h = refl
in_any_process b o p (x ∷ y ∷ []) e h = refl
in_any_process b o p (x ∷ y ∷ z ∷ ts) e h = refl

pub in_any_other : (b : L.Bif) (o p : T.Term) (xs : List Term) → length xs ≡ L.arity_of b → (b ≡ L.Self → ⊥)
    → B.answer b o (map view xs) ≡ B.answer b p (map view xs)
in_any_other b o p xs e h = in_any_process b o p (map view xs) (length-map xs view ∙ e) h

pub folded : (x : BifAnswer Term) (t : Term) (a b : Answer) → x ≡ V.Value t → IfValue x (λ u. a ≡ B.value (view u))
    → b ≡ a → b ≡ B.value (view t)
folded x t a b e h i = i ∙ subst (λ (y : BifAnswer Term). IfValue y (λ u. a ≡ B.value (view u))) e h

no_value : (a : Answer) → IsWide a → IsNoValue a
no_value a h = subst IsNoValue (sym h.1) (h.0, refl, h.2)

pub raised : (x : BifAnswer Term) (c : Class) (t : Term) (a b : Answer) → x ≡ V.Raises c t
    → IfRaises x (λ d u. a ≡ B.raised (class_view d) (view u)) → b ≡ a → IsNoValue b
raised x c t a b e h i =
    subst IsNoValue
    (sym (i ∙ subst (λ (y : BifAnswer Term). IfRaises y (λ d u. a ≡ B.raised (class_view d) (view u))) e h)) tt

pub widened : (x : BifAnswer Term) (a b : Answer) → x ≡ V.Wide → IfWide x (IsWide a) → b ≡ a → IsNoValue b
widened x a b e h i =
    subst IsNoValue (sym i) (no_value a (subst (λ (y : BifAnswer Term). IfWide y (IsWide a)) e h))
