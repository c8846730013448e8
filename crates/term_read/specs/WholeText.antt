-- What reading a whole text answers.
use Rattle.std.specs.Prelude.{◌≡◌, ℕ, List, Result, Ok, Err, Some, None, IsUtf8, chars, ⊤}
use Rattle.erl_base.specs.declared.refusal.Fault.{Fault}
use Rattle.erl_base.specs.declared.refusal.Fault.TheVariants.{Refused, NoMemory as OutOfMemory}
use Rattle.erl_base.specs.declared.refusal.Refusal.{Refusal}
use Rattle.erl_base.specs.declared.refusal.Kind.TheVariants.{AsmSyntax}
use Rattle.erl_term.specs.declared.term.Term.{Term}
use Rattle.erl_term.specs.Term as Plain
use Rattle.erl_term.specs.View.{view}
use Rattle.term_read.specs.TermGrammar.{IsTermText}
use Rattle.term_read.specs.Reading.{read_whole}
use Rattle.term_read.specs.declared.unread.Unread.{Unread}
use Rattle.term_read.specs.declared.unread.Unread.TheVariants.{Syntax, NoMemory}

-- the refusal of what is no term's text
abbrev pub no_term : Refusal
no_term = record { kind = AsmSyntax; place = record { line = 1; column = 1 } }

-- a refusal says that the bytes are the text of no term; want of memory says nothing
abbrev pub RefusesText : List ℕ → Fault → Type 0
RefusesText bytes (Refused refusal) = (refusal ≡ no_term) × ((t : Plain.Term) → IsTermText bytes t → ⊥)
RefusesText bytes OutOfMemory = ⊤

-- what the functions on characters give for the bytes
abbrev pub GivesText : List ℕ → Result Term Unread → Type 0
GivesText bytes (Ok term) = IsUtf8 bytes × (read_whole (chars bytes) ≡ Some (view term))
GivesText bytes (Err Syntax) = IsUtf8 bytes → read_whole (chars bytes) ≡ None
GivesText bytes (Err NoMemory) = ⊤
