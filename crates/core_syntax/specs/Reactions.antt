-- What a token does to all that is to be read.
use Rattle.std.specs.Prelude.{◌+◌, ℕ, suc, List, [], ◌∷◌, Bool, true, false, ◌&&◌, Option, None, Some, ◌≡◌, ◌≤◌, ◌<◌, ⊤}
use Rattle.core_lex.specs.declared.token.Token.{Token}
use Rattle.core_lex.specs.declared.token.TokenKind.{TokenKind}
use Rattle.core_lex.specs.declared.token.Word.TheVariants as W
use Rattle.core_lex.specs.declared.token.Symbol as Symbols
use Rattle.core_lex.specs.declared.token.Symbol.TheVariants as S
use Rattle.core_grammar.specs.Texts.{most_depth}
use Rattle.core_syntax.specs.declared.sort.Sort.{Sort}
use Rattle.core_syntax.specs.declared.sort.Sort.TheVariants as O
use Rattle.core_syntax.specs.declared.item.Count.TheVariants as C
use Rattle.core_syntax.specs.declared.item.Shape.{Shape}
use Rattle.core_syntax.specs.declared.item.Shape.TheVariants.{Other, Variable, Clause, Counted, Size}
use Rattle.core_syntax.specs.declared.item.Part as Parts
use Rattle.core_syntax.specs.declared.item.Part.TheVariants as P
use Rattle.core_syntax.specs.declared.item.Item.{Item}
use Rattle.core_syntax.specs.declared.item.Item.TheVariants as I
use Rattle.core_syntax.specs.declared.item.Entry.{Entry}
use Rattle.core_syntax.specs.declared.outcome.Outcome.{Outcome}
use Rattle.core_syntax.specs.declared.outcome.Outcome.TheVariants.{Refused, TooDeep, Taken}
use Rattle.core_syntax.specs.Sorts.{of_items}
use Rattle.core_syntax.specs.TokenKinds.{is_symbol, is_word, is_atom, is_end, is_arity_token, opens}
use Rattle.core_syntax.specs.Beginnings.{Reaction, refused, taken, on_test, choose, at, stacked, an_expression, local_rest, external_rest, guarded, begin}

-- ---- what need not stand there

-- passed but where something stands
abbrev pub unless : Bool → Shape → Option Shape
unless true sh = None
unless false sh = Some sh

-- only a variable may have a pattern behind it
abbrev pub alias_passed : Bool → Shape → Option Shape
alias_passed b Variable = unless b Variable
alias_passed b sh = Some sh

-- a head that was all of a clause
abbrev pub clause_passed : Shape → Option Shape
clause_passed Clause = Some Other
clause_passed sh = None

-- Whether an item is passed at a token, and what was read last counts as then.
abbrev pub passed : TokenKind → Item → Shape → Option Shape
passed k (I.Maybe p) sh = unless (opens k) (Counted C.Zero)
passed k (I.Becomes now) sh = Some now
passed k I.Alias sh = alias_passed (is_symbol S.Equals k) sh
passed k I.NameRest sh = unless (is_symbol S.Slash k) Other
passed k (I.MoreItems s n) sh = unless (is_symbol S.Comma k) (Counted n)
passed k (I.MorePairs s) sh = unless (is_symbol S.Comma k) Other
passed k (I.MoreSegments s) sh = unless (is_symbol S.Comma k) Other
passed k I.MoreAttributes sh = unless (is_symbol S.Comma k) Other
passed k I.MoreFlags sh = unless (is_symbol S.Comma k) Other
passed k I.HeadEnd sh = unless (is_word W.When k) sh
passed k I.ClauseEnd sh = clause_passed sh
passed k _ sh = None

-- ---- what goes on behind what was read

-- this symbol is taken
abbrev pub on_symbol : Symbols.Symbol → ℕ → TokenKind → List Entry → Reaction
on_symbol s d k es = on_test (is_symbol s k) d es Other

-- a key that is a variable counts nothing
abbrev pub key_weight_of : Shape → ℕ
key_weight_of Variable = 0
key_weight_of _ = 1

-- `-|` behind what is annotated, and its note
abbrev pub note : ℕ → Shape → TokenKind → List Entry → Reaction
note d sh k es =
    on_test (is_symbol S.AnnotationBar k) d (stacked d (I.Part (P.Tree O.Note) ∷ I.Close sh ∷ []) es) Other

-- an annotated clause, or an annotated pattern, which is one deeper
abbrev pub head_note : ℕ → Shape → TokenKind → List Entry → Reaction
head_note d Clause k es = note (suc (suc d)) Clause k es
head_note d sh k es = note (suc (1 + suc d)) sh k (at (suc d) I.Alias ∷ at d I.HeadEnd ∷ es)

-- `=>` and `:=` in an expression, one of them elsewhere
abbrev pub pair_arrow : Sort → TokenKind → Bool
pair_arrow O.Expression k = choose (is_symbol S.ExactAssociation k) true (is_symbol S.Association k)
pair_arrow O.Pattern k = is_symbol S.ExactAssociation k
pair_arrow s k = is_symbol S.Association k

-- the base of a map
abbrev pub map_end : Sort → ℕ → TokenKind → List Entry → Reaction
map_end O.Expression d k es =
    choose (is_symbol S.Bar k) (taken d (stacked d (an_expression ∷ I.Symbol S.CloseMap ∷ []) es) Other)
    (on_symbol S.CloseMap d k es)
map_end s d k es = on_symbol S.CloseMap d k es

-- two or three variables
abbrev pub catches : Shape → Bool
catches (Counted C.Two) = true
catches (Counted C.Three) = true
catches _ = false

-- a unit for the size that was read
abbrev pub unit_wanted : Shape → Item
unit_wanted (Size n) = I.Part (P.Unit n)
unit_wanted _ = I.Part (P.Unit 0)

-- `(` or an atom behind `fun`
abbrev pub fun_rest : ℕ → TokenKind → List Entry → Reaction
fun_rest d k es =
    choose (is_symbol S.OpenParen k) (taken d (stacked d local_rest es) Other)
    (on_test (is_atom k) d (stacked d external_rest es) Other)

-- items or none behind `[`
abbrev pub list_rest : Sort → ℕ → TokenKind → List Entry → Reaction
list_rest s d k es =
    choose (opens k) (begin (P.Items s C.Zero) d k (at d (I.ListEnd s) ∷ es)) (on_symbol S.CloseBracket d k es)

-- flags or none behind `[`
abbrev pub flags_rest : ℕ → TokenKind → List Entry → Reaction
flags_rest d k es =
    choose (opens k) (begin P.FlagItems d k (at d I.FlagsEnd ∷ es)) (on_symbol S.CloseBracket d k es)

-- a tail or none behind them
abbrev pub list_end : Parts.Part → ℕ → TokenKind → List Entry → Reaction
list_end p d k es =
    choose (is_symbol S.Bar k) (taken d (stacked d (I.Part p ∷ I.Symbol S.CloseBracket ∷ []) es) Other)
    (on_symbol S.CloseBracket d k es)

-- what a token does where this item is to be read
abbrev pub at_item : Token → Item → ℕ → Shape → List Entry → Reaction
at_item t (I.Part p) d sh es = begin p d t.kind es
at_item t (I.Maybe p) d sh es = begin p d t.kind es
at_item t (I.Symbol s) d sh es = on_symbol s d t.kind es
at_item t (I.Word w) d sh es = on_test (is_word w t.kind) d es Other
at_item t I.Atom d sh es = on_test (is_atom t.kind) d es Other
at_item t I.Arity d sh es = on_test (is_arity_token t) d es Other
at_item t I.End d sh es = on_test (is_end t.kind) d es Other
at_item t (I.Becomes now) d sh es = refused
at_item t I.Noted d sh es = note d sh t.kind es
at_item t I.NotedKey d sh es = note (suc (key_weight_of sh + d)) sh t.kind es
at_item t I.NotedHead d sh es = head_note d sh t.kind es
at_item t (I.Close now) d sh es = on_test (is_symbol S.CloseParen t.kind) d es now
at_item t I.Alias d sh es =
    on_test (is_symbol S.Equals t.kind) (suc d)
    (stacked (suc d) (I.Part (P.Tree O.Pattern) ∷ I.Becomes Other ∷ []) es) Other
at_item t I.NameRest d sh es = on_test (is_symbol S.Slash t.kind) d (stacked d (I.Arity ∷ []) es) Other
at_item t I.FunRest d sh es = fun_rest d t.kind es
at_item t (I.ListRest s) d sh es = list_rest s d t.kind es
at_item t (I.ListEnd s) d sh es = list_end (P.Tree s) d t.kind es
at_item t (I.PairArrow s) d sh es =
    on_test (pair_arrow s t.kind) d (stacked d (I.Part (P.Tree (of_items s)) ∷ I.MorePairs s ∷ []) es) Other
at_item t (I.MapEnd s) d sh es = map_end s d t.kind es
at_item t (I.MoreItems s n) d sh es =
    on_test (is_symbol S.Comma t.kind) d (stacked d (I.Part (P.Items s n) ∷ []) es) Other
at_item t (I.MorePairs s) d sh es =
    on_test (is_symbol S.Comma t.kind) d (stacked d (I.Part (P.Pairs s) ∷ []) es) Other
at_item t (I.MoreSegments s) d sh es =
    on_test (is_symbol S.Comma t.kind) d (stacked d (I.Part (P.Segments s) ∷ []) es) Other
at_item t I.MoreAttributes d sh es =
    on_test (is_symbol S.Comma t.kind) d (stacked d (I.Part P.Attributes ∷ []) es) Other
at_item t I.MoreFlags d sh es =
    on_test (is_symbol S.Comma t.kind) d (stacked d (I.Part P.FlagItems ∷ []) es) Other
at_item t I.CloseGroup d sh es = on_test (is_symbol S.CloseAngle t.kind) d es sh
at_item t I.CatchArrow d sh es = on_test (catches sh && is_symbol S.Arrow t.kind) d es Other
at_item t I.HeadEnd d sh es =
    on_test (is_word W.When t.kind) (suc d) (stacked (suc d) guarded (at d (I.Becomes Clause) ∷ es)) Other
at_item t I.ClauseEnd d sh es = on_test (is_word W.When t.kind) (suc d) (stacked (suc d) guarded es) Other
at_item t I.DefinitionRest d sh es =
    on_test (is_symbol S.Equals t.kind) (suc d)
    (at (suc d) (I.Part (P.Tree O.Fun)) ∷ at d (I.Maybe P.Definitions) ∷ es) Other
at_item t I.UnitNext d sh es = on_test (is_symbol S.Comma t.kind) d (stacked d (unit_wanted sh ∷ []) es) Other
at_item t I.FlagsRest d sh es = flags_rest d t.kind es
at_item t I.FlagsEnd d sh es = list_end P.Flags d t.kind es

-- where the item on top is passed, the next one
abbrev pub on_pass : Option Shape → Reaction → (Shape → Reaction) → Reaction
on_pass None here below = here
on_pass (Some sh) here below = below sh

-- what a token does
abbrev pub react : Token → List Entry → Shape → Reaction
react t [] sh = refused
react t (e ∷ es) sh =
    on_pass (passed t.kind e.item sh) (at_item t e.item e.depth sh es) (λ now. react t es now)

-- what code tells of a reaction, and what is left to be read
abbrev pub Tells : Reaction → Outcome → List Entry → Type 0
Tells refused Refused es = ⊤
Tells (taken d before sh) TooDeep es = most_depth < d
Tells (taken d before sh) (Taken now) es = (d ≤ most_depth) × (now ≡ sh) × (es ≡ before)
Tells _ _ es = ⊥
