-- Forms on lines of their own, as they are printed.
use Rattle.std.specs.Prelude.{ℕ, List, [], ◌∷◌, ◌++◌, Bool, ◌&&◌, leb, codes}
use Rattle.std.specs.List.{list_all}
use Rattle.erl_term.specs.Term.{Term}
use Rattle.erl_term.specs.Depth.{depth}
use Rattle.erl_term.specs.Ranges.{fits}
use Rattle.erl_term.specs.WellFormed.{maps_rise}
use Rattle.term_text.specs.TermText.{term_on}
use Rattle.term_read.specs.Lexemes.{is_space}
use Rattle.term_read.specs.TermGrammar.{most_nesting}

-- a form, and what stands before it: blanks
pub record Line : Type 0 where
  pub indent : List ℕ
  pub form : Term

-- lines in their order
abbrev pub lines : List Line → List ℕ
lines [] = []
lines (l ∷ ls) = l.indent ++ term_on l.form (codes ".\n" ++ lines ls)

-- whether a line can be printed and read again: its form nests no deeper than a text may, its numbers are in range, and
-- its maps rise
abbrev pub is_line : Line → Bool
is_line l =
    list_all is_space l.indent && leb (depth l.form) most_nesting && fits l.form && maps_rise l.form

-- a term as one of a text is: its numbers are in range, and its maps rise
abbrev pub is_sane : Term → Bool
is_sane t = fits t && maps_rise t
