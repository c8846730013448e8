-- What the bytes of a text say of its characters.
use Rattle.std.proofs.Common.{◌≡◌, ℕ, List, ◌++◌, chars, IsUtf8, encode_utf8_all, sym, ap, ◌∙◌, subst, Result, IfOk, length, drop, append-nil, ◌≤◌}
use Rattle.std.proofs.lemmas.List.{drop_all}
use Rattle.std.proofs.lemmas.Str.{encodes_same, chars-encodes}

-- bytes that are text and spell the characters have these characters
pub chars_of_spelled : (bytes text : List ℕ) → IsUtf8 bytes → bytes ≡ encode_utf8_all text → chars bytes ≡ text
chars_of_spelled bytes text (cs, (s, e)) f =
    ap chars (sym e) ∙ chars-encodes cs s ∙ encodes_same cs text (e ∙ f)

pub named : {E : Type 0} (r : Result (List ℕ) E) (a b : List ℕ) → a ≡ b → IfOk r (λ name. name ≡ a)
    → IfOk r (λ name. name ≡ b)
named r a b e h = subst (λ x. IfOk r (λ name. name ≡ x)) e h

-- the bytes of all characters were written
pub spelled_whole : (bytes text : List ℕ) (i : ℕ) → length text ≤ i
    → bytes ++ encode_utf8_all (drop i text) ≡ encode_utf8_all text → bytes ≡ encode_utf8_all text
spelled_whole bytes text i h e =
    sym (append-nil bytes) ∙ sym (ap (λ x. bytes ++ encode_utf8_all x) (drop_all i text h)) ∙ e
