-- The module of the tokens of a text, as it is put together.
use Rattle.std.specs.Prelude.{zero, suc, ℕ, List, [], ◌∷◌, Option, Some, None}
use Rattle.term_read.specs.Lexemes.{◌>>=◌}
use Rattle.core_lex.specs.declared.token.Token.{Token}
use Rattle.core_lex.specs.declared.token.TokenKind.{TokenKind}
use Rattle.core_lex.specs.declared.token.TokenKind.TheVariants.{Symbol}
use Rattle.core_lex.specs.declared.token.Symbol.TheVariants as S
use Rattle.core_form.specs.Core as C
use Rattle.core_form.specs.View as Rows
use Rattle.core_grammar.specs.Signs.{Sight, at_place}
use Rattle.core_grammar.specs.ModuleOf.{float_seen, wide_seen, long_seen}
use Rattle.core_build.specs.declared.item.Item.{Item}
use Rattle.core_build.specs.declared.item.Item.TheVariants as I
use Rattle.core_build.specs.Values.{Value, atom, names, attributes, defs}
use Rattle.core_build.specs.Steps.{take}

-- where a reader is: outside of annotations, or in one, with so many brackets open in it
pub data Notes : Type 0 where
  outside : Notes
  inside : (brackets : ℕ) → Notes

-- what a token outside of annotations is to them
abbrev pub notes_at : TokenKind → Notes
notes_at (Symbol S.AnnotationBar) = inside 0
notes_at k = outside

-- where a reader is behind a token; the bracket that ends an annotation is outside of it
abbrev pub notes_behind : TokenKind → Notes → Notes
notes_behind k outside = notes_at k
notes_behind (Symbol S.OpenParen) (inside n) = inside (suc n)
notes_behind (Symbol S.CloseParen) (inside zero) = outside
notes_behind (Symbol S.CloseParen) (inside (suc n)) = inside n
notes_behind k (inside n) = inside n

-- a token that is outside
abbrev pub if_outside : Notes → Token → List Token → List Token
if_outside outside t ts = t ∷ ts
if_outside (inside n) t ts = ts

-- the tokens but for annotations: `( X -| [1] )` is `( X )`
abbrev pub bare : Notes → List Token → List Token
bare n [] = []
bare n (t ∷ ts) = if_outside (notes_behind t.kind n) t (bare (notes_behind t.kind n) ts)

-- what these tokens leave of what is to be read and was read
abbrev pub run : List Token → List Item → List Value → Option (List Value)
run [] [] vs = Some vs
run [] (i ∷ is) vs = None
run (t ∷ ts) is vs = take t is vs >>= λ s. run ts s.0 s.1

-- the first token that shows what is asked for
abbrev pub first_in : {A : Type 0} → (Sight → Option A) → List Token → Option A
first_in see [] = None
first_in see (t ∷ ts) = elim (see (at_place t.place t.kind)) [ None ↦ first_in see ts | Some x ↦ Some x ]

-- the module of what was read
abbrev pub module_in : List Token → List Value → Option C.Module
module_in ts (defs ds ∷ attributes bs ∷ names xs ∷ atom p a ∷ []) = Some (record {
  name = a;
  exports = xs;
  attributes = bs;
  defs = Rows.defs ds;
  floats = first_in float_seen ts;
  wide = first_in wide_seen ts;
  long = first_in long_seen ts;
})
module_in ts _ = None

-- of tokens without annotations
abbrev pub built_of : List Token → Option C.Module
built_of ts = run ts (I.Module ∷ I.Skip ∷ []) [] >>= module_in ts

-- the module of the tokens of a text; of others it says something or nothing
unfoldable pub built : List Token → Option C.Module
built ts = built_of (bare outside ts)
