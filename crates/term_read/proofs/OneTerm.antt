-- A whole text: what is read of it, and what it is the text of.
use Rattle.std.proofs.Common.{◌≡◌, ℕ, refl, sym, ap, ◌∙◌, subst, List, [], ◌∷◌, Option, Some, None, Result, Ok, Err, IsUtf8, chars}
use Rattle.erl_term.specs.declared.term.Term.{Term as Value}
use Rattle.erl_term.specs.Term.{Term}
use Rattle.erl_term.specs.View.{view}
use Rattle.term_read.specs.Lexemes.{◌>>=◌, behind_blanks}
use Rattle.term_read.specs.TermGrammar.{IsTermText, ReadsTerm, most_nesting}
use Rattle.term_read.specs.Reading.{Gives, read_by, if_ended, read_whole}
use Rattle.term_read.specs.WholeText.{GivesText}
use Rattle.term_read.specs.declared.unread.Unread.{Unread}
use Rattle.term_read.specs.declared.unread.Unread.TheVariants.{Syntax, NoMemory}
use Rattle.term_read.proofs.Shorter.{bound, some_same}
use Rattle.term_read.proofs.FormSound.{reads_sound}
use Rattle.term_read.proofs.FormComplete.{reads_complete}

abbrev ended : Term × List ℕ → Option Term
ended x = if_ended x.0 (behind_blanks x.1)

ended_is : (t u : Term) (cs : List ℕ) → if_ended t cs ≡ Some u → (cs ≡ []) × (t ≡ u)
ended_is t u [] e = (refl, some_same t u e)
ended_is t u (c ∷ cs) e = absurd cc

pub whole_sound : (bytes : List ℕ) (t : Term) → IsUtf8 bytes → read_whole (chars bytes) ≡ Some t → IsTermText bytes t
unfolding read_whole
whole_sound bytes t u e =
    let x = bound (read_by most_nesting (chars bytes)) ended t e in
    let f = ended_is (x.0).0 t (behind_blanks (x.0).1) x.2 in
    record {
      utf8 = u;
      rest = (x.0).1;
      reads = subst (λ s. ReadsTerm most_nesting (chars bytes) s (x.0).1) f.1
          ((reads_sound most_nesting).reads (chars bytes) (x.0).1 (x.0).0 x.1);
      ends = f.0;
    }

pub whole_complete : (bytes : List ℕ) (t : Term) → IsTermText bytes t → read_whole (chars bytes) ≡ Some t
unfolding read_whole
whole_complete bytes t h =
    ap (λ r. r >>= ended) ((reads_complete most_nesting).read (chars bytes) h.rest t h.reads) ∙ ap (if_ended t) h.ends

-- Answers.

pub text_read : (bytes : List ℕ) (v : Value) → GivesText bytes (Ok v) → IsTermText bytes (view v)
text_read bytes v h = whole_sound bytes (view v) h.0 h.1

pub text_only : (bytes : List ℕ) (v : Value) → GivesText bytes (Ok v) → (t : Term) → IsTermText bytes t → view v ≡ t
text_only bytes v h t k = some_same (view v) t (sym h.1 ∙ whole_complete bytes t k)

pub text_refused : (bytes : List ℕ) → (IsUtf8 bytes → read_whole (chars bytes) ≡ None) → (t : Term)
    → IsTermText bytes t → ⊥
text_refused bytes h t k = let e : None ≡ Some t = sym (h k.utf8) ∙ whole_complete bytes t k in cc

pub text_has_one_term : (bytes : List ℕ) (t u : Term) → IsTermText bytes t → IsTermText bytes u → t ≡ u
text_has_one_term bytes t u h k = some_same t u (sym (whole_complete bytes t h) ∙ whole_complete bytes u k)

pub gives_text : (bytes cs : List ℕ) (r : Result Value Unread) → IsUtf8 bytes → cs ≡ chars bytes
    → Gives view r (read_whole cs) → GivesText bytes r
gives_text bytes cs (Ok v) u e h = (u, ap read_whole (sym e) ∙ h)
gives_text bytes cs (Err Syntax) u e h = λ k. ap read_whole (sym e) ∙ h
gives_text bytes cs (Err NoMemory) u e h = tt
