-- What a module's text asks of it beside `Valid`, so that it can be printed and read again.
use Rattle.std.specs.Prelude.{ℕ, Bool, true, ◌&&◌, leb, IsTrue}
use Rattle.std.specs.List.{list_all}
use lib.Utf8.{scalar}
use Rattle.erl_base.specs.Names.{Name}
use Rattle.erl_term.specs.Term as T
use Rattle.erl_term.specs.Term.{Term, Terms, none, more, Pairs, no_pair, pair}
use Rattle.erl_term.specs.Depth.{depth, depths}
use Rattle.beam_table.specs.Code.{AsmModule}
use Rattle.beam_table.specs.ModuleForms.{forms}

-- no form of the text nests deeper than this
unfoldable pub FormsNest : ℕ → AsmModule → Type 0
unfolding depths
FormsNest most a = IsTrue (list_all (λ t. leb (depth t) most) (forms a))

-- a name of Unicode scalar values, which has bytes
abbrev pub is_text : Name → Bool
is_text a = list_all scalar a

-- whether all names in a term are
abbrev mutual
  pub names_are_text : Term → Bool
  names_are_text (T.atom a) = is_text a
  names_are_text (T.cons t u) = names_are_text t && names_are_text u
  names_are_text (T.tuple ts) = all_are_text ts
  names_are_text (T.map ps) = pairs_are_text ps
  names_are_text (T.fun m s n ts) = is_text m && all_are_text ts
  names_are_text (T.extern m f n) = is_text m && is_text f
  names_are_text _ = true

  pub all_are_text : Terms → Bool
  all_are_text none = true
  all_are_text (more t ts) = names_are_text t && all_are_text ts

  pub pairs_are_text : Pairs → Bool
  pairs_are_text no_pair = true
  pairs_are_text (pair k v ps) = names_are_text k && names_are_text v && pairs_are_text ps

-- the names in all forms are text: those of every module of the program
abbrev pub NamesAreText : AsmModule → Type 0
NamesAreText a = IsTrue (list_all names_are_text (forms a))
