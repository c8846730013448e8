-- The depth of annotations' brackets, whatever they hold.
use Rattle.std.proofs.Common.{arith, ◌≡◌, refl, sym, ap, ◌∙◌, ℕ, suc, ◌+◌, ◌≤◌, List, ◌∷◌, Bool, true, false}
use Rattle.erl_base.specs.declared.ids.Place.{Place}
use Rattle.core_lex.specs.declared.token.Token.{Token}
use Rattle.core_lex.specs.declared.token.TokenKind.TheVariants.{Symbol, Variable}
use Rattle.core_lex.specs.declared.token.Symbol.TheVariants as S
use Rattle.core_grammar.specs.WrittenTree.{Tree, variable, noted}
use Rattle.core_grammar.specs.Standing.{Sort, pattern, key, note, a_variable, inner_sort, Stands}
use Rattle.core_grammar.specs.Signs.{Sight, of_kind, at_place, Sign, plain_sign, Fits, weight, key_weight, annotated, token_at, symbol, on}
use Rattle.core_texts.proofs.Truths.{never}
use Rattle.core_texts.proofs.Parts.{Head, whole, part, tree_part, head_part, nil}
use Rattle.core_texts.proofs.Plans.{Bracket}

abbrev pub is_key : Sort → Bool
is_key key = true
is_key _ = false

-- what an annotated node weighs
abbrev pub noted_weight : Sort → Place → ℕ
noted_weight s p = weight s (noted p nil nil)

same_weight : (s : Sort) → is_key s ≡ false → (p : Place) (t n : Tree) → weight s (noted p t n) ≡ noted_weight s p
same_weight key h p t n = never (sym h)
same_weight _ h p t n = refl

pub noted_signs : (s : Sort) → is_key s ≡ false → (d : ℕ) (p : Place) (t n : Tree) (r : List Sign)
    → on true s d (noted p t n) r
    ≡ token_at (suc (noted_weight s p + d)) p (Symbol S.OpenParen) (on true (inner_sort s) (suc d) t
    (symbol (suc (noted_weight s p + d)) S.AnnotationBar (on true note (suc (noted_weight s p + d)) n
    (symbol (suc (noted_weight s p + d)) S.CloseParen r))))
noted_signs s h d p t n r =
    ap (λ w. annotated true (suc (w + d)) (at_place p (Symbol S.OpenParen)) (on true (inner_sort s) (suc d) t)
    (on true note (suc (w + d)) n) r) (same_weight s h p t n)

one_deeper : (d : ℕ) → 0 + suc d ≡ 1 + d
one_deeper d = omega arith

-- a variable in its brackets has the same signs as a pattern
pub as_variable : (x : Tree) → Stands a_variable x → (d : ℕ) (r : List Sign)
    → on true a_variable (suc d) x r ≡ on true pattern d x r
as_variable (variable p x) h d r = ap (λ w. plain_sign w (at_place p (Variable x)) ∷ r) (one_deeper d)
as_variable (noted p t n) h d r =
    ap (λ w. annotated true (suc w) (at_place p (Symbol S.OpenParen)) (on true a_variable (suc (suc d)) t)
    (on true note (suc w) n) r) (one_deeper d)
    ∙ ap (λ l. plain_sign (suc (1 + d)) (at_place p (Symbol S.OpenParen)) ∷ l) (as_variable t h.0 (suc d) _)
as_variable _ h d r = never (assumption h)

abbrev pub is_variable_like : Tree → Bool
is_variable_like (variable p x) = true
is_variable_like (noted p t n) = is_variable_like t
is_variable_like _ = false

pub like_stands : (x : Tree) → is_variable_like x ≡ true → Stands pattern x → Stands a_variable x
like_stands (variable p x) h k = (refl, k.1)
like_stands (noted p t n) h k = (like_stands t h k.0, k.1)
like_stands _ h k = never h

pub variable_stands : (x : Tree) → Stands a_variable x → Stands pattern x
variable_stands (variable p x) k = (refl, k.1)
variable_stands (noted p t n) k = (variable_stands t k.0, k.1)
variable_stands _ k = never (assumption k)

pub variable_like : (x : Tree) → Stands a_variable x → is_variable_like x ≡ true
variable_like (variable p x) k = refl
variable_like (noted p t n) k = variable_like t k.0
variable_like _ k = never (assumption k)

-- the bracket of an annotated key
pub key_deep : (d n : ℕ) → suc (0 + d) ≤ suc (n + d)
key_deep d n = omega arith

abbrev pub key_bracket : (d : ℕ) → Bracket (tree_part key (suc d))
key_bracket d = record {
  deep = λ t. suc (key_weight t + d);
  sight = λ p t. at_place p (Symbol S.OpenParen);
  fits = λ t b e. (e, refl);
  seen = λ p t b e. e.0;
  least_deep = λ t. key_deep d (key_weight t);
}

-- the bracket before a clause
abbrev pub head_sight : Place → Head → Sight
head_sight p (whole c) = of_kind (Symbol S.OpenParen)
head_sight p (part t) = at_place p (Symbol S.OpenParen)

abbrev pub head_deep : ℕ → Head → ℕ
head_deep d (whole c) = suc (suc d)
head_deep d (part t) = suc (1 + suc d)

pub head_fits : (t : Token) (h : Head) → t.kind ≡ Symbol S.OpenParen → Fits (head_sight t.place h) t
head_fits t (whole c) e = e
head_fits t (part x) e = (e, refl)

pub head_seen : (p : Place) (t : Token) (h : Head) → Fits (head_sight p h) t → t.kind ≡ Symbol S.OpenParen
head_seen p t (whole c) e = e
head_seen p t (part x) e = e.0

pub clause_deep : (d : ℕ) (h : Head) → suc (suc d) ≤ head_deep d h
clause_deep d (whole c) = omega arith
clause_deep d (part t) = omega arith

abbrev pub head_bracket : (d : ℕ) → Bracket (head_part (suc d))
head_bracket d = record {
  deep = head_deep d;
  sight = head_sight;
  fits = head_fits;
  seen = head_seen;
  least_deep = clause_deep d;
}
