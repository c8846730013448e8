-- The tokens of a text, read on from behind a lexeme.
use Rattle.std.proofs.Common.{◌≡◌, ℕ, zero, suc, ◌+◌, ◌-◌, ◌<◌, ◌≤◌, List, [], ◌∷◌, ◌++◌, length, take, drop, sym, ap, ap₂, ◌∙◌, arith, add_assoc, Bool, true, false, if◌then◌else◌, append-nil, Option}
use Rattle.std.proofs.lemmas.List.{drop-drop}
use Rattle.std.specs.Char.{len_utf8}
use Rattle.erl_base.specs.declared.ids.Place.{Place}
use Rattle.core_lex.specs.declared.token.Token.{Token}
use Rattle.core_lex.specs.declared.token.TokenKind.{TokenKind}
use Rattle.core_lex.specs.declared.token.Lexeme.{Lexeme}
use Rattle.utf8_text.specs.Places.{past, place_after, byte_len}
use Rattle.core_lex.specs.Tokens.{lexeme, lexeme_at, before, tokens_from}

-- characters that belong to a lexeme that was read are passed over
pub passed_over : (n : ℕ) (cs : List ℕ) (place : Place) (byte : ℕ) → n ≤ length cs
    → tokens_from cs n place byte
    ≡ tokens_from (drop n cs) 0 (place_after (take n cs) place) (byte + byte_len (take n cs))
passed_over zero cs place byte h = ap (tokens_from cs 0 place) (let e : byte ≡ byte + 0 = omega arith in e)
passed_over (suc n) [] place byte h = absurd (omega arith)
passed_over (suc n) (c ∷ cs) place byte h =
    passed_over n cs (past c place) (byte + len_utf8 c) (omega arith)
    ∙ ap (tokens_from (drop n cs) 0 (place_after (take n cs) (past c place)))
    (add_assoc byte (len_utf8 c) (byte_len (take n cs)))

-- from a lexeme on, of which n characters follow the first
from_first : (n c : ℕ) (cs : List ℕ) (place : Place) (byte : ℕ) → n ≤ length cs
    → tokens_from cs n (past c place) (byte + len_utf8 c)
    ≡ tokens_from (drop (suc n) (c ∷ cs)) 0 (place_after (take (suc n) (c ∷ cs)) place)
    (byte + byte_len (take (suc n) (c ∷ cs)))
from_first n c cs place byte h =
    passed_over n cs (past c place) (byte + len_utf8 c) h
    ∙ ap (tokens_from (drop n cs) 0 (place_after (take n cs) (past c place)))
    (add_assoc byte (len_utf8 c) (byte_len (take n cs)))

sized : (size c : ℕ) (cs : List ℕ) (place : Place) (byte : ℕ) → 0 < size → size ≤ length (c ∷ cs)
    → tokens_from cs (size - 1) (past c place) (byte + len_utf8 c)
    ≡ tokens_from (drop size (c ∷ cs)) 0 (place_after (take size (c ∷ cs)) place) (byte + byte_len (take size (c ∷ cs)))
sized zero c cs place byte pos fits = absurd (omega arith)
sized (suc n) c cs place byte pos fits =
    ap (λ k. tokens_from cs k (past c place) (byte + len_utf8 c)) (let e : suc n - 1 ≡ n = omega arith in e)
    ∙ from_first n c cs place byte (omega arith)

-- the tokens at a lexeme
pub at_lexeme : (xs : List ℕ) (place : Place) (byte : ℕ) → 0 < length xs → 0 < (lexeme_at xs).size
    → (lexeme_at xs).size ≤ length xs
    → tokens_from xs 0 place byte
    ≡ before (lexeme_at xs).kind place byte (byte + byte_len (take (lexeme_at xs).size xs))
    (tokens_from (drop (lexeme_at xs).size xs) 0 (place_after (take (lexeme_at xs).size xs) place)
    (byte + byte_len (take (lexeme_at xs).size xs)))
at_lexeme [] place byte h pos fits = absurd (omega arith)
at_lexeme (c ∷ cs) place byte h pos fits =
    ap (before (lexeme_at (c ∷ cs)).kind place byte (byte + byte_len (take (lexeme_at (c ∷ cs)).size (c ∷ cs))))
    (sized (lexeme_at (c ∷ cs)).size c cs place byte pos fits)

-- one lexeme more was read
pub read_more : (text rest : List ℕ) (at size byte taken : ℕ) (kind : Option TokenKind) (place next : Place)
    (found new total : List Token) (last : Bool)
    → rest ≡ drop at text → 0 < length rest → 0 < size → size ≤ length rest → lexeme kind size ≡ lexeme_at rest
    → taken ≡ byte_len (take size rest) → next ≡ place_after (take size rest) place
    → ((later : List Token) → new ++ (if last then [] else later)
    ≡ found ++ before kind place byte (byte + taken) later)
    → found ++ tokens_from (drop at text) 0 place byte ≡ total
    → new ++ (if last then [] else tokens_from (drop (at + size) text) 0 next (byte + taken)) ≡ total
read_more text rest at size byte taken kind place next found new total last r h pos fits lex t n kept all =
    let sized : (lexeme_at rest).size ≡ size = sym (ap (λ x. x.size) lex) in
    let first : tokens_from rest 0 place byte
    ≡ before (lexeme_at rest).kind place byte (byte + byte_len (take (lexeme_at rest).size rest))
    (tokens_from (drop (lexeme_at rest).size rest) 0 (place_after (take (lexeme_at rest).size rest) place)
    (byte + byte_len (take (lexeme_at rest).size rest)))
    = at_lexeme rest place byte h (omega arith) (omega arith) in
    kept (tokens_from (drop (at + size) text) 0 next (byte + taken))
    ∙ ap (λ xs. found ++ before kind place byte (byte + taken) (tokens_from xs 0 next (byte + taken)))
    (sym (drop-drop size at text) ∙ ap (drop size) (sym r))
    ∙ ap₂ (λ b p. found ++ before kind place byte (byte + b) (tokens_from (drop size rest) 0 p (byte + b))) t n
    ∙ ap (λ (x : Lexeme). found ++ before x.kind place byte (byte + byte_len (take x.size rest))
    (tokens_from (drop x.size rest) 0 (place_after (take x.size rest) place) (byte + byte_len (take x.size rest))))
    lex
    ∙ ap (λ ts. found ++ ts) (sym first)
    ∙ ap (λ xs. found ++ tokens_from xs 0 place byte) r
    ∙ all

pub is_last : (new total : List Token) (later : List Token) (last : Bool) → last ≡ true
    → new ++ (if last then [] else later) ≡ total → new ≡ total
is_last new total later last e h = sym (append-nil new) ∙ sym (ap (λ b. new ++ (if b then [] else later)) e) ∙ h

pub goes_on : (new total : List Token) (later : List Token) (last : Bool) → last ≡ false
    → new ++ (if last then [] else later) ≡ total → new ++ later ≡ total
goes_on new total later last e h = sym (ap (λ b. new ++ (if b then [] else later)) e) ∙ h
