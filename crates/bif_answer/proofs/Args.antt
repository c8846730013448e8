-- Arguments in a row, and elements of a tuple, as values and as plain terms.
use Rattle.std.proofs.Common.{◌≡◌, refl, sym, ap, ap₂, ◌∙◌, subst, ℕ, suc, ◌<◌, ◌≤◌, List, [], ◌∷◌, map, length}
use Rattle.std.proofs.Common.{get_or, Option, Some, None, ℤ, pos, Result, false, arith}
use Rattle.std.specs.Option.{MatchOption}
use Rattle.std.specs.Prelude.{slice_get, option_map}
use Rattle.std.proofs.lemmas.Option.{slice_get-map, slice_get_read}
use Rattle.std.proofs.lemmas.List.{length-map}
use Rattle.erl_base.specs.declared.memory.NoMemory.{NoMemory}
use Rattle.erl_term.specs.Term as T
use Rattle.erl_term.specs.Term.{Term}
use Rattle.bif_table.specs.BuiltinAnswer as B
use Rattle.bif_table.specs.Builtins as L
use Rattle.bif_table.specs.Kinds.{is_int}
use Rattle.bif_answer.specs.Answers.{Answers}
use Rattle.bif_answer.specs.declared.outcome.BifAnswer.{BifAnswer}
use Rattle.bif_answer.proofs.Plain.{element_there, no_element}
use Rattle.shared_term.specs.Parts.{elements_of}
use Rattle.shared_term.specs.View.{view}
use Rattle.shared_term.specs.declared.value.Value.{Value}

abbrev Computed : Type 0
Computed = Result (BifAnswer Value) NoMemory

pub of_none : (r : Computed) (b : L.Bif) (own : Term) (vs : List Value) → length vs < 1 → Answers r (B.value own)
    → Answers r (B.answer b own (map view vs))
unfolding B.answer
of_none r b own [] l h = h
of_none r b own (v ∷ vs) l h = absurd (omega (arith, l))

pub of_one : (r : Computed) (b : L.Bif) (own : Term) (vs : List Value) (x : Value) → 1 ≤ length vs → length vs < 2
    → x ≡ get_or vs 0 x → Answers r (B.one_answer b (view x)) → Answers r (B.answer b own (map view vs))
unfolding B.answer
of_one r b own [] x k l e h = absurd (omega (arith, k))
of_one r b own (u ∷ []) x k l e h = subst (λ v. Answers r (B.one_answer b (view v))) e h
of_one r b own (u ∷ v ∷ vs) x k l e h = absurd (omega (arith, l))

pub of_two : (r : Computed) (b : L.Bif) (own : Term) (vs : List Value) (x y : Value) → 2 ≤ length vs → length vs < 3
    → x ≡ get_or vs 0 x → y ≡ get_or vs 1 y → Answers r (B.two_answer b (view x) (view y))
    → Answers r (B.answer b own (map view vs))
unfolding B.answer
of_two r b own [] x y k l e f h = absurd (omega (arith, k))
of_two r b own (u ∷ []) x y k l e f h = absurd (omega (arith, k))
of_two r b own (u ∷ v ∷ []) x y k l e f h =
    subst (Answers r) (ap₂ (λ s t. B.two_answer b (view s) (view t)) e f) h
of_two r b own (u ∷ v ∷ w ∷ vs) x y k l e f h = absurd (omega (arith, l))

pub of_three : (r : Computed) (b : L.Bif) (own : Term) (vs : List Value) (x y z : Value) → 3 ≤ length vs
    → x ≡ get_or vs 0 x → y ≡ get_or vs 1 y → z ≡ get_or vs 2 z
    → Answers r (B.three_answer b (view x) (view y) (view z)) → Answers r (B.answer b own (map view vs))
unfolding B.answer
of_three r b own [] x y z k e f g h = absurd (omega (arith, k))
of_three r b own (u ∷ []) x y z k e f g h = absurd (omega (arith, k))
of_three r b own (u ∷ v ∷ []) x y z k e f g h = absurd (omega (arith, k))
of_three r b own (u ∷ v ∷ w ∷ vs) x y z k e f g h =
    subst (λ t. Answers r (B.three_answer b (view u) (view v) (view t))) g
    (subst (Answers r) (ap₂ (λ s t. B.three_answer b (view s) (view t) (view z)) e f) h)

-- the element at a place
pub got : (r : Computed) (t u : Term) (n : ℕ) (vs : List Value) (v : Value) → t ≡ T.int (pos (suc n)) → n < length vs
    → Some (map view vs) ≡ elements_of u → v ≡ get_or vs n v → Answers r (B.value (view v))
    → Answers r (B.element t u)
got r t u n vs v e l f g h =
    let i : slice_get (map view vs) n ≡ Some (view v) =
    slice_get-map view vs n ∙ ap (option_map view) (slice_get_read vs (length vs) n v refl l g) in
    subst (Answers r) (sym (ap (λ s. B.element s u) e ∙ element_there n u (view v) (map view vs) f (sym i))) h

pub past : (r : Computed) (t u : Term) (vs : List Value) → Some (map view vs) ≡ elements_of u
    → ((n : ℕ) → t ≡ T.int (pos (suc n)) → length vs ≤ n) → Answers r B.bad_argument → Answers r (B.element t u)
past r t u vs f g h =
    subst (Answers r)
    (sym (no_element t u (map view vs) f (λ n e. subst (λ k. k ≤ n) (sym (length-map vs view)) (g n e)))) h

-- a place that a term says
abbrev pub Places : Option ℕ → Term → ℕ → Type 0
Places r t k =
    MatchOption r ((n : ℕ) → t ≡ T.int (pos (suc n)) → k ≤ n) (λ n. (t ≡ T.int (pos (suc n))) × (n < k))

pub placed : (r : Option ℕ) (t : Term) (y z : ℤ) (k : ℕ) → t ≡ T.int z → y ≡ z
    → MatchOption r ((n : ℕ) → y ≡ pos (suc n) → k ≤ n) (λ n. (y ≡ pos (suc n)) × (n < k)) → Places r t k
placed None t y z k e f h = λ n g. h n cc
placed (Some n) t y z k e f h = (e ∙ ap T.int (sym f ∙ h.0), h.1)

pub unplaced : (t : Term) (k : ℕ) → is_int t ≡ false → Places None t k
unplaced t k e = λ n f. absurd cc
