-- What the next token does: what is to be read when it is taken, and how deep it is.
use Rattle.std.specs.Prelude.{◌+◌, ℕ, suc, List, [], ◌∷◌, Bool, true, false, not, ◌&&◌, ◌||◌, leb, pos, codes}
use Rattle.std.specs.List.{list_all}
use Rattle.erl_base.specs.Names.{same_name}
use Rattle.erl_term.specs.Ranges.{is_within_128}
use Rattle.erl_term.specs.Term as T
use Rattle.core_lex.specs.declared.token.TokenKind.{TokenKind}
use Rattle.core_lex.specs.declared.token.TokenKind.TheVariants as K
use Rattle.core_lex.specs.declared.token.Word as Words
use Rattle.core_lex.specs.declared.token.Word.TheVariants as W
use Rattle.core_lex.specs.declared.token.Symbol as Symbols
use Rattle.core_lex.specs.declared.token.Symbol.TheVariants as S
use Rattle.core_form.specs.SourceTree.{is_variable_name, is_flag}
use Rattle.core_grammar.specs.Standing.{takes_variable, takes_constant, takes_integer, takes_atom, takes_list, takes_name, takes_fun, takes_expression, is_code}
use Rattle.core_grammar.specs.ConstantTerms.{is_constant_size}
use Rattle.core_syntax.specs.declared.sort.Sort.{Sort}
use Rattle.core_syntax.specs.declared.sort.Sort.TheVariants as O
use Rattle.core_syntax.specs.declared.item.Count as Counts
use Rattle.core_syntax.specs.declared.item.Count.TheVariants as C
use Rattle.core_syntax.specs.declared.item.Shape.{Shape}
use Rattle.core_syntax.specs.declared.item.Shape.TheVariants.{Other, Variable, Clause, Counted, Size}
use Rattle.core_syntax.specs.declared.item.Part as Parts
use Rattle.core_syntax.specs.declared.item.Part.TheVariants as P
use Rattle.core_syntax.specs.declared.item.Item.{Item}
use Rattle.core_syntax.specs.declared.item.Item.TheVariants as I
use Rattle.core_syntax.specs.declared.item.Entry.{Entry}
use Rattle.core_syntax.specs.Sorts.{sort_of, inner, of_items, of_keys, of_values, leaf_weight, open_weight}
use Rattle.core_syntax.specs.TokenKinds.{is_symbol, is_word}

-- a token is refused, or taken at a depth: then this is to be read, and what was read last counts as this
pub data Reaction : Type 0 where
  refused : Reaction
  taken : (depth : ℕ) → List Entry → Shape → Reaction

-- where a test holds
abbrev pub on_test : Bool → (depth : ℕ) → List Entry → Shape → Reaction
on_test true d es sh = taken d es sh
on_test false d es sh = refused

-- one of two
abbrev pub choose : {A : Type 0} → Bool → A → A → A
choose true x y = x
choose false x y = y

-- an item at a depth
abbrev pub at : ℕ → Item → Entry
at d i = record { item = i; depth = d }

-- items before others
abbrev pub stacked : ℕ → List Item → List Entry → List Entry
stacked d [] es = es
stacked d (i ∷ is) es = at d i ∷ stacked d is es

-- one more
abbrev pub more : Counts.Count → Counts.Count
more C.Zero = C.One
more C.One = C.Two
more C.Two = C.Three
more C.Three = C.Many
more C.Many = C.Many

-- ---- trees

-- the symbols that may begin a tree of this sort
abbrev pub takes_symbol : Sort → Symbols.Symbol → Bool
takes_symbol s S.OpenParen = true
takes_symbol s S.OpenBracket = takes_list (sort_of s)
takes_symbol s S.OpenBrace = takes_constant (sort_of s)
takes_symbol s S.OpenAngle = takes_expression (sort_of s)
takes_symbol s S.OpenMap = takes_constant (sort_of s)
takes_symbol s S.OpenBinary = takes_constant (sort_of s)
takes_symbol s _ = false

-- the words that may begin one
abbrev pub takes_word : Sort → Words.Word → Bool
takes_word s W.Fun = takes_fun (sort_of s) || takes_constant (sort_of s)
takes_word s W.Let = takes_expression (sort_of s)
takes_word s W.Letrec = takes_expression (sort_of s)
takes_word s W.Case = takes_expression (sort_of s)
takes_word s W.Apply = takes_expression (sort_of s)
takes_word s W.Call = takes_expression (sort_of s)
takes_word s W.Primop = takes_expression (sort_of s)
takes_word s W.Do = takes_expression (sort_of s)
takes_word s W.Catch = takes_expression (sort_of s)
takes_word s W.Try = takes_expression (sort_of s)
takes_word s W.Receive = takes_expression (sort_of s)
takes_word s _ = false

-- what a tree of a sort begins with
abbrev pub takes_tree : Sort → TokenKind → Bool
takes_tree s (K.Variable x) = takes_variable (sort_of s) && is_variable_name x
takes_tree s (K.Atom a) = takes_atom (sort_of s) || takes_name (sort_of s)
takes_tree s (K.Number g z) = takes_integer (sort_of s) && is_within_128 z
takes_tree s (K.Wide n) = takes_integer (sort_of s)
takes_tree s K.Float = takes_constant (sort_of s)
takes_tree s (K.Character c) = takes_constant (sort_of s) && is_code c
takes_tree s (K.Letters cs) = takes_list (sort_of s) && list_all is_code cs
takes_tree s (K.Symbol x) = takes_symbol s x
takes_tree s (K.Word x) = takes_word s x
takes_tree s K.Bad = false
takes_tree s K.End = false

-- a bracket is one deeper than what it counts
abbrev pub symbol_depth : Sort → ℕ → Symbols.Symbol → ℕ
symbol_depth s d S.OpenParen = suc (open_weight s + d)
symbol_depth s d _ = suc d

-- how deep the first token of a tree is
abbrev pub tree_depth : Sort → ℕ → TokenKind → ℕ
tree_depth s d (K.Variable x) = open_weight s + d
tree_depth s d (K.Atom a) = leaf_weight s + d
tree_depth s d (K.Number g z) = leaf_weight s + d
tree_depth s d (K.Wide n) = leaf_weight s + d
tree_depth s d (K.Symbol x) = symbol_depth s d x
tree_depth s d _ = suc d

-- a pattern of its own may follow a variable
abbrev pub variable_next : Sort → ℕ → List Entry → List Entry
variable_next O.Pattern d es = at d I.Alias ∷ es
variable_next s d es = es

-- an arity may follow an atom
abbrev pub atom_next : Sort → ℕ → List Entry → List Entry
atom_next O.Expression d es = at d I.NameRest ∷ es
atom_next O.FunctionName d es = stacked d (I.Symbol S.Slash ∷ I.Arity ∷ []) es
atom_next s d es = es

-- ( tree -| note )
abbrev pub noted_next : Sort → ℕ → List Entry → List Entry
noted_next O.Pattern d es =
    at (suc d) (I.Part (P.Tree O.Pattern)) ∷ at (suc (1 + d)) I.Noted ∷ at d I.Alias ∷ es
noted_next O.Key d es = at (suc d) (I.Part (P.Tree O.Key)) ∷ at d I.NotedKey ∷ es
noted_next s d es = at (suc d) (I.Part (P.Tree (inner s))) ∷ at (suc (open_weight s + d)) I.Noted ∷ es

-- what follows an opening bracket
abbrev pub bracket_next : Sort → ℕ → Symbols.Symbol → List Entry → List Entry
bracket_next s d S.OpenParen es = noted_next s d es
bracket_next s d S.OpenBracket es = at (suc d) (I.ListRest (of_items s)) ∷ es
bracket_next s d S.OpenBrace es =
    stacked (suc d) (I.Maybe (P.Items (of_items s) C.Zero) ∷ I.Symbol S.CloseBrace ∷ []) es
bracket_next s d S.OpenAngle es =
    stacked (suc d) (I.Maybe (P.Items O.Expression C.Zero) ∷ I.Symbol S.CloseAngle ∷ []) es
bracket_next s d S.OpenMap es = stacked (suc d) (I.Maybe (P.Pairs s) ∷ I.MapEnd s ∷ []) es
bracket_next s d S.OpenBinary es = stacked (suc d) (I.Maybe (P.Segments s) ∷ I.Symbol S.CloseBinary ∷ []) es
bracket_next s d _ es = es

-- a whole expression
abbrev pub an_expression : Item
an_expression = I.Part (P.Tree O.Expression)

-- parameters ) -> body
abbrev pub local_rest : List Item
local_rest =
    I.Maybe (P.Items O.Variable C.Zero) ∷ I.Symbol S.CloseParen ∷ I.Symbol S.Arrow ∷ an_expression ∷ []

-- : name / arity
abbrev pub external_rest : List Item
external_rest = I.Symbol S.Colon ∷ I.Atom ∷ I.Symbol S.Slash ∷ I.Arity ∷ []

-- what follows `fun`
abbrev pub fun_next : Sort → ℕ → List Entry → List Entry
fun_next O.Expression d es = at d I.FunRest ∷ es
fun_next O.Fun d es = stacked d (I.Symbol S.OpenParen ∷ local_rest) es
fun_next s d es = stacked d (I.Atom ∷ external_rest) es

-- ( arguments )
abbrev pub arguments : List Item
arguments = I.Symbol S.OpenParen ∷ I.Maybe (P.Items O.Expression C.Zero) ∷ I.Symbol S.CloseParen ∷ []

-- what follows another word
abbrev pub form_next : Sort → ℕ → Words.Word → List Entry → List Entry
form_next s d W.Fun es = fun_next s d es
form_next s d W.Let es =
    stacked d (I.Part P.Group ∷ I.Symbol S.Equals ∷ an_expression ∷ I.Word W.In ∷ an_expression ∷ []) es
form_next s d W.Letrec es = stacked d (I.Maybe P.Definitions ∷ I.Word W.In ∷ an_expression ∷ []) es
form_next s d W.Case es =
    stacked d (an_expression ∷ I.Word W.Of ∷ I.Part P.Clause ∷ I.Maybe P.Clauses ∷ I.Word W.End ∷ []) es
form_next s d W.Apply es = stacked d (an_expression ∷ arguments) es
form_next s d W.Call es = stacked d (an_expression ∷ I.Symbol S.Colon ∷ an_expression ∷ arguments) es
form_next s d W.Primop es = stacked d (I.Atom ∷ arguments) es
form_next s d W.Do es = stacked d (an_expression ∷ an_expression ∷ []) es
form_next s d W.Catch es = stacked d (an_expression ∷ []) es
form_next s d W.Try es =
    stacked d (an_expression ∷ I.Word W.Of ∷ I.Part P.Group ∷ I.Symbol S.Arrow ∷ an_expression ∷ I.Word W.Catch
    ∷ I.Part P.Group ∷ I.CatchArrow ∷ an_expression ∷ []) es
form_next s d W.Receive es =
    stacked d (I.Maybe P.Clauses ∷ I.Word W.After ∷ an_expression ∷ I.Symbol S.Arrow ∷ an_expression ∷ []) es
form_next s d _ es = es

-- what is to be read behind the first token of a tree
abbrev pub tree_next : Sort → ℕ → TokenKind → List Entry → List Entry
tree_next s d (K.Variable x) es = variable_next s d es
tree_next s d (K.Atom a) es = atom_next s (leaf_weight s + d) es
tree_next s d (K.Symbol x) es = bracket_next s d x es
tree_next s d (K.Word x) es = form_next s (suc d) x es
tree_next s d _ es = es

-- a variable is told
abbrev pub tree_shape : TokenKind → Shape
tree_shape (K.Variable x) = Variable
tree_shape _ = Other

-- a tree of this sort begins
abbrev pub tree : Sort → ℕ → TokenKind → List Entry → Reaction
tree s d k es = on_test (takes_tree s k) (tree_depth s d k) (tree_next s d k es) (tree_shape k)

-- ---- parts of constant segments

-- whether a symbol is `(`
abbrev pub is_open_paren : Symbols.Symbol → Bool
is_open_paren S.OpenParen = true
is_open_paren _ = false

-- a constant counts one
abbrev pub constant_symbol_depth : ℕ → Symbols.Symbol → ℕ
constant_symbol_depth d S.OpenParen = suc (1 + d)
constant_symbol_depth d _ = suc d

-- how deep the first token of a constant is
abbrev pub constant_depth : ℕ → TokenKind → ℕ
constant_depth d (K.Atom a) = 1 + d
constant_depth d (K.Number g z) = 1 + d
constant_depth d (K.Wide n) = 1 + d
constant_depth d (K.Symbol x) = constant_symbol_depth d x
constant_depth d _ = suc d

-- the atom of a kind counts nothing
abbrev pub kind_symbol_depth : ℕ → Symbols.Symbol → ℕ
kind_symbol_depth d S.OpenParen = suc (0 + d)
kind_symbol_depth d _ = suc d

-- how deep that of a type is
abbrev pub kind_depth : ℕ → TokenKind → ℕ
kind_depth d (K.Atom a) = 0 + d
kind_depth d (K.Symbol x) = kind_symbol_depth d x
kind_depth d _ = suc d

-- the value, an integer
abbrev pub takes_value : TokenKind → Bool
takes_value (K.Number g z) = is_within_128 z
takes_value (K.Wide n) = true
takes_value (K.Character c) = is_code c
takes_value (K.Symbol x) = is_open_paren x
takes_value _ = false

-- the size, from 0 to 256
abbrev pub takes_size : TokenKind → Bool
takes_size (K.Number g (pos n)) = is_within_128 (pos n) && leb n 256
takes_size (K.Character c) = is_code c && leb c 256
takes_size (K.Symbol x) = is_open_paren x
takes_size _ = false

-- a size tells its number to the unit behind it
abbrev pub size_shape : TokenKind → Shape
size_shape (K.Number g (pos n)) = Size n
size_shape (K.Character c) = Size c
size_shape _ = Other

-- a unit for this size
abbrev pub fits_size : (size unit : ℕ) → Bool
fits_size n u = not (leb n 256) || is_constant_size n u

-- the tokens that may begin the unit behind this size
abbrev pub takes_unit : (size : ℕ) → TokenKind → Bool
takes_unit m (K.Number g (pos n)) = is_within_128 (pos n) && fits_size m n
takes_unit m (K.Character c) = is_code c && fits_size m c
takes_unit m (K.Symbol x) = is_open_paren x
takes_unit m _ = false

-- the type, integer
abbrev pub takes_kind : TokenKind → Bool
takes_kind (K.Atom a) = same_name a (codes "integer")
takes_kind (K.Symbol x) = is_open_paren x
takes_kind _ = false

-- no character
abbrev pub is_empty : List ℕ → Bool
is_empty [] = true
is_empty (c ∷ cs) = false

-- `(` or `[`
abbrev pub opens_flags : Symbols.Symbol → Bool
opens_flags S.OpenParen = true
opens_flags S.OpenBracket = true
opens_flags _ = false

-- flags
abbrev pub takes_flags : TokenKind → Bool
takes_flags (K.Letters cs) = is_empty cs
takes_flags (K.Symbol x) = opens_flags x
takes_flags _ = false

-- one flag
abbrev pub takes_flag : TokenKind → Bool
takes_flag (K.Atom a) = is_flag (T.atom a)
takes_flag (K.Symbol x) = is_open_paren x
takes_flag _ = false

-- what is to be read behind the first token of such a part, whose depth is its own: ( part -| note ), [ flags ]
abbrev pub constant_next : Parts.Part → (own depth : ℕ) → TokenKind → List Entry → List Entry
constant_next p own d (K.Symbol S.OpenParen) es = at (suc d) (I.Part p) ∷ at own I.Noted ∷ es
constant_next p own d (K.Symbol S.OpenBracket) es = at (suc d) I.FlagsRest ∷ es
constant_next p own d _ es = es

-- such a part
abbrev pub constant : Parts.Part → Bool → (own depth : ℕ) → TokenKind → List Entry → Shape → Reaction
constant p b own d k es sh = on_test b own (constant_next p own d k es) sh

-- a flag begins
abbrev pub flag : ℕ → TokenKind → List Entry → Reaction
flag d k es = constant P.Flag (takes_flag k) (constant_depth d k) d k es Other

-- ---- the other parts

-- guard -> body, behind `when`
abbrev pub guarded : List Item
guarded = an_expression ∷ I.Symbol S.Arrow ∷ an_expression ∷ []

-- #< value > ( size , unit , kind , flags )
abbrev pub loose_segment : Sort → List Item
loose_segment s =
    I.Part (P.Tree (of_values s)) ∷ I.Symbol S.CloseAngle ∷ I.Symbol S.OpenParen ∷ I.Part (P.Tree (of_keys s))
    ∷ I.Symbol S.Comma ∷ I.Part (P.Tree O.Constant) ∷ I.Symbol S.Comma ∷ I.Part (P.Tree O.Atom) ∷ I.Symbol S.Comma
    ∷ I.Part (P.Tree O.Constant) ∷ I.Symbol S.CloseParen ∷ []

-- one that is a constant
abbrev pub strict_segment : List Item
strict_segment =
    I.Part P.Value ∷ I.Symbol S.CloseAngle ∷ I.Symbol S.OpenParen ∷ I.Part P.Size ∷ I.UnitNext ∷ I.Symbol S.Comma
    ∷ I.Part P.Kind ∷ I.Symbol S.Comma ∷ I.Part P.Flags ∷ I.Symbol S.CloseParen ∷ []

-- what follows the `#<` of a segment
abbrev pub segment_items : Sort → List Item
segment_items O.Expression = loose_segment O.Expression
segment_items O.Pattern = loose_segment O.Pattern
segment_items _ = strict_segment

-- a segment begins, or its bracket
abbrev pub segment : Sort → ℕ → TokenKind → List Entry → Reaction
segment s d k es =
    choose (is_symbol S.OpenParen k) (taken (suc d) (stacked (suc d) (I.Part (P.Segment s) ∷ I.Noted ∷ []) es) Other)
    (on_test (is_symbol S.OpenSegment k) d (stacked d (segment_items s) es) Other)

-- what begins a clause: patterns in angle brackets, an annotated clause or pattern, a pattern
abbrev pub head : ℕ → TokenKind → List Entry → Reaction
head d k es =
    choose (is_symbol S.OpenAngle k)
    (taken (suc d) (stacked (suc d) (I.Maybe (P.Items O.Pattern C.Zero) ∷ I.Symbol S.CloseAngle ∷ I.Word W.When ∷ [])
    (stacked (suc d) guarded (at d (I.Becomes Clause) ∷ es))) Other)
    (choose (is_symbol S.OpenParen k)
    (taken (suc (suc d)) (at (suc d) (I.Part P.Head) ∷ at d I.NotedHead ∷ es) Other)
    (tree O.Pattern (suc d) k (at d I.HeadEnd ∷ es)))

-- a clause begins, or its bracket
abbrev pub clause : ℕ → TokenKind → List Entry → Reaction
clause d k es = head d k (at d I.ClauseEnd ∷ es)

-- name [ exports ] attributes [ attributes ] definitions end
abbrev pub module_rest : List Item
module_rest =
    I.Symbol S.OpenBracket ∷ I.Maybe (P.Items O.FunctionName C.Zero) ∷ I.Symbol S.CloseBracket
    ∷ I.Word W.Attributes ∷ I.Symbol S.OpenBracket ∷ I.Maybe P.Attributes ∷ I.Symbol S.CloseBracket
    ∷ I.Maybe P.Definitions ∷ I.Word W.End ∷ []

-- what follows the word `module`
abbrev pub module_items : List Item
module_items = I.Atom ∷ module_rest

-- what a token does where a part is to be read
abbrev pub begin : Parts.Part → ℕ → TokenKind → List Entry → Reaction
begin (P.Tree s) d k es = tree s d k es
begin (P.Items s n) d k es = tree s d k (at d (I.MoreItems s (more n)) ∷ es)
begin P.Group d k es =
    choose (is_symbol S.OpenAngle k)
    (taken d (stacked d (I.Maybe (P.Items O.Variable C.Zero) ∷ I.CloseGroup ∷ []) es) Other)
    (tree O.Variable d k (at d (I.Becomes (Counted C.One)) ∷ es))
begin (P.Pairs s) d k es = tree (of_keys s) d k (stacked d (I.PairArrow s ∷ []) es)
begin (P.Segment s) d k es = segment s d k es
begin (P.Segments s) d k es = segment s d k (at d (I.MoreSegments s) ∷ es)
begin P.Head d k es = head d k es
begin P.Clause d k es = clause d k es
begin P.Clauses d k es = clause d k (at d (I.Maybe P.Clauses) ∷ es)
begin P.Definitions d k es = tree O.FunctionName (suc d) k (at d I.DefinitionRest ∷ es)
begin P.Attributes d k es =
    tree O.Atom d k (stacked d (I.Symbol S.Equals ∷ I.Part (P.Tree O.Constant) ∷ I.MoreAttributes ∷ []) es)
begin P.Module d k es =
    choose (is_symbol S.OpenParen k) (taken (suc d) (stacked (suc d) (I.Part P.Module ∷ I.Noted ∷ []) es) Other)
    (on_test (is_word W.Module k) d (stacked d module_items es) Other)
begin P.Value d k es = constant P.Value (takes_value k) (constant_depth d k) d k es Other
begin P.Size d k es = constant P.Size (takes_size k) (constant_depth d k) d k es (size_shape k)
begin (P.Unit n) d k es = constant (P.Unit n) (takes_unit n k) (constant_depth d k) d k es Other
begin P.Kind d k es = constant P.Kind (takes_kind k) (kind_depth d k) d k es Other
begin P.Flags d k es = constant P.Flags (takes_flags k) (constant_depth d k) d k es Other
begin P.Flag d k es = flag d k es
begin P.FlagItems d k es = flag d k (at d I.MoreFlags ∷ es)
