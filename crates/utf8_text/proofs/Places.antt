-- The place after characters, one by one.
use Rattle.std.proofs.Common.{◌≡◌, ℕ, ◌+◌, ◌≤◌, List, ◌++◌, chars, IsUtf8, sym, ap, ◌∙◌, arith, encode_utf8, length, Bool, true, false, cond, nat_eq}
use Rattle.std.proofs.lemmas.List.{nil_from_length}
use Rattle.std.proofs.lemmas.Str.{chars-nil, chars_past_char}
use Rattle.erl_base.specs.declared.ids.Place.{Place}
use Rattle.utf8_text.specs.Places.{past, place_after}

-- a step over one character of a text
pub place_more : (bytes rest : List ℕ) (c : ℕ) (place next end : Place) → IsUtf8 bytes → bytes ≡ encode_utf8 c ++ rest
    → next ≡ past c place
    → place_after (chars bytes) place ≡ end → place_after (chars rest) next ≡ end
place_more bytes rest c place next end u e f g =
    ap (place_after (chars rest)) f ∙ sym (ap (λ cs. place_after cs place) (chars_past_char bytes rest c u e)) ∙ g

-- the end of the text
pub place_end : (bytes : List ℕ) (place end : Place) → length bytes ≡ 0
    → place_after (chars bytes) place ≡ end → place ≡ end
place_end bytes place end h e =
    sym (ap (λ bs. place_after (chars bs) place) (nil_from_length bytes h) ∙ ap (λ cs. place_after cs place) chars-nil)
    ∙ e

bounded_line : (b : Bool) (p : Place)
    → (cond {A = Place} b (record { line = p.line + 1; column = 1 })
    (record { line = p.line; column = p.column + 1 })).line ≤ p.line + 1
bounded_line true p = omega arith
bounded_line false p = omega arith

pub past_line : (c : ℕ) (p : Place) → (past c p).line ≤ p.line + 1
past_line c p = bounded_line (nat_eq c 10) p

bounded_column : (b : Bool) (p : Place)
    → (cond {A = Place} b (record { line = p.line + 1; column = 1 })
    (record { line = p.line; column = p.column + 1 })).column ≤ p.column + 1
bounded_column true p = omega arith
bounded_column false p = omega arith

pub past_column : (c : ℕ) (p : Place) → (past c p).column ≤ p.column + 1
past_column c p = bounded_column (nat_eq c 10) p

-- the bounds that a loop over characters keeps
pub line_more : (c n : ℕ) (p q : Place) → q ≡ past c p → p.line ≤ n → q.line ≤ n + 1
line_more c n p q e h = let same : q.line ≡ (past c p).line = ap (λ x. x.line) e in omega (arith, past_line c p)

pub column_more : (c n : ℕ) (p q : Place) → q ≡ past c p → p.column ≤ n → q.column ≤ n + 1
column_more c n p q e h =
    let same : q.column ≡ (past c p).column = ap (λ x. x.column) e in omega (arith, past_column c p)
