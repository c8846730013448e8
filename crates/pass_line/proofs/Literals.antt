-- A list with items is no plain literal.
use Rattle.std.proofs.Common.{◌≡◌, List, [], ◌∷◌, false, map, refl, sym, ap, ◌∙◌}
use Rattle.erl_term.specs.declared.term.Term.{Term, fold-roll-Term}
use Rattle.erl_term.specs.declared.term.Term.TheOpen as form
use Rattle.erl_term.specs.declared.term.Term.TheVariants as V
use Rattle.erl_term.specs.Term as Plain
use Rattle.erl_term.specs.Terms.{list_of}
use Rattle.erl_term.specs.View.{view, view_step, pair_step}
use Rattle.pass_line.specs.PlainModule.{is_plain_literal}
use Rattle.pass_line.specs.PlainCode.{gives_literal}

view-list : (items : List Term) (tail : Term) → view (V.List items tail) ≡ list_of (map view items) (view tail)
view-list items tail = ap view (sym (V.rolls-List items tail))
    ∙ fold-roll-Term Plain.Term (Plain.Term × Plain.Term) view_step pair_step (form.List items tail)

pub is_plain_literal-list : (t : Term) (items : List Term) (tail : Term) → t ≡ V.List items tail → (items ≡ [] → ⊥)
    → is_plain_literal (view t) ≡ false
is_plain_literal-list t [] tail e h = absurd (h refl)
is_plain_literal-list t (x ∷ xs) tail e h =
    ap (λ u. is_plain_literal (view u)) e ∙ ap is_plain_literal (view-list (x ∷ xs) tail)

pub gives_literal-list : (t : Term) (items : List Term) (tail : Term) → t ≡ V.List items tail → (items ≡ [] → ⊥)
    → gives_literal (view t) ≡ []
gives_literal-list t [] tail e h = absurd (h refl)
gives_literal-list t (x ∷ xs) tail e h = ap (λ u. gives_literal (view u)) e ∙ ap gives_literal (view-list (x ∷ xs) tail)
