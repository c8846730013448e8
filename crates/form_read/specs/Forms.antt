-- The forms of a text: terms, each with its full stop, behind blanks and comments. The order and the meaning of forms
-- are their readers' affair.
use Rattle.std.specs.Prelude.{◌≡◌, ℕ, ◌-◌, ◌==◌, ◌||◌, List, [], ◌∷◌, Bool, true, length, Option, Some, None, if◌then◌else◌, IsTrue, codes}
use Rattle.erl_term.specs.Term.{Term}
use Rattle.term_read.specs.Lexemes.{◌>>=◌, is_space, behind_blanks, mark_at}
use Rattle.term_read.specs.TermGrammar.{ReadsTerm, most_nesting}
use Rattle.term_read.specs.Reading.{read_by}

-- what may follow a full stop: a blank, a comment or the end
abbrev pub is_apart : List ℕ → Bool
is_apart [] = true
is_apart (c ∷ cs) = is_space c || c == 37

-- a term that nests at most as deep as a text may, and its full stop, both behind blanks; ds is left
pub record IsForm (cs : List ℕ) (t : Term) (ds : List ℕ) : Type 0 where
  pub between : List ℕ
  pub reads : ReadsTerm most_nesting cs t between
  pub stop : mark_at (codes ".") between ≡ Some ds
  pub apart : IsTrue (is_apart ds)

-- how many of the characters of a text stand before the next form, where cs is what is left of the text
abbrev pub form_start : (total : ℕ) → List ℕ → ℕ
form_start total cs = total - length (behind_blanks cs)

-- a form of a text: how many characters stand before it, and its term
pub record TextForm : Type 0 where
  pub start : ℕ
  pub term : Term

-- what is left of a text of so many characters are these forms, in their order, and nothing else
pub data AreForms (total : ℕ) : List ℕ → List TextForm → Type 0 where
  no_forms : (cs : List ℕ) → behind_blanks cs ≡ [] → AreForms total cs []
  some_forms : (cs ds : List ℕ) (t : Term) (fs : List TextForm) → IsForm cs t ds → AreForms total ds fs
      → AreForms total cs (record { start = form_start total cs; term = t } ∷ fs)

-- the characters of a whole text are these forms
abbrev pub IsFormText : List ℕ → List TextForm → Type 0
IsFormText cs fs = AreForms (length cs) cs fs

-- How forms are read.

-- what is left behind a full stop
unfoldable pub full_stop : List ℕ → Option (List ℕ)
full_stop cs = mark_at (codes ".") cs >>= λ ds. if is_apart ds then Some ds else None

-- a term and its full stop
unfoldable pub form_front : List ℕ → Option (Term × List ℕ)
form_front cs = read_by most_nesting cs >>= λ t. full_stop t.1 >>= λ ds. Some (t.0, ds)

-- the end where nothing is left behind blanks, else a form
abbrev pub end_or_form : (left : List ℕ) → Option (Term × List ℕ) → Option (Option (Term × List ℕ))
end_or_form [] form = Some None
end_or_form (c ∷ cs) None = None
end_or_form (c ∷ cs) (Some form) = Some (Some form)

-- the next form with what is left behind it, or the end
unfoldable pub next_form : List ℕ → Option (Option (Term × List ℕ))
next_form cs = end_or_form (behind_blanks cs) (form_front cs)
