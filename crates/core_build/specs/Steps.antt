-- What a token of a text does to what is to be read and to what was read. Texts alone are asked for: of other tokens it
-- says something or nothing.
use Rattle.std.specs.Prelude.{ℕ, pos, List, [], ◌∷◌, Bool, true, false, Option, Some, None, if◌then◌else◌}
use Rattle.erl_base.specs.declared.ids.Place.{Place}
use Rattle.erl_term.specs.Term as T
use Rattle.term_read.specs.Lexemes.{◌>>=◌}
use Rattle.core_lex.specs.declared.token.Token.{Token}
use Rattle.core_lex.specs.declared.token.TokenKind.{TokenKind}
use Rattle.core_lex.specs.declared.token.TokenKind.TheVariants.{Word, Symbol, Variable, Atom, Number, Wide, Float, Character, Letters}
use Rattle.core_lex.specs.declared.token.Word as Words
use Rattle.core_lex.specs.declared.token.Word.TheVariants as W
use Rattle.core_lex.specs.declared.token.Symbol as Symbols
use Rattle.core_lex.specs.declared.token.Symbol.TheVariants as S
use Rattle.core_form.specs.Core as C
use Rattle.core_form.specs.SourceTree.{is_arity}
use Rattle.core_grammar.specs.WrittenTree as Tree
use Rattle.core_actions.specs.Read.{read_expr, read_pattern}
use Rattle.core_build.specs.declared.item.Row as Rows
use Rattle.core_build.specs.declared.item.Row.TheVariants as R
use Rattle.core_build.specs.declared.item.Make.TheVariants as M
use Rattle.core_build.specs.declared.item.Item.{Item}
use Rattle.core_build.specs.declared.item.Item.TheVariants as I
use Rattle.core_build.specs.Values.{Value, expr, pattern, binder, atom, exact, no_parts}
use Rattle.core_build.specs.Making.{node, pattern_node, make, called, named, external_term}

-- what is to be read, and what was read
abbrev pub State : Type 0
State = List Item × List Value

-- ---- what need not stand at a token

-- these end rows
abbrev pub symbol_closes : Symbols.Symbol → Bool
symbol_closes S.CloseBinary = true
symbol_closes S.CloseMap = true
symbol_closes S.CloseParen = true
symbol_closes S.CloseBrace = true
symbol_closes S.CloseBracket = true
symbol_closes S.CloseAngle = true
symbol_closes S.Bar = true
symbol_closes _ = false

-- and these words
abbrev pub word_closes : Words.Word → Bool
word_closes W.After = true
word_closes W.End = true
word_closes W.In = true
word_closes _ = false

-- whether a row ends at a token
abbrev pub closes : TokenKind → Bool
closes (Symbol s) = symbol_closes s
closes (Word w) = word_closes w
closes _ = false

-- Whether what is to be read is nothing where this token stands.
abbrev pub is_passed : Item → TokenKind → Bool
is_passed (I.Make m) k = true
is_passed (I.Row r) k = closes k
is_passed (I.More r) (Symbol S.Comma) = false
is_passed (I.More r) k = true
is_passed I.NameRest (Symbol S.Slash) = false
is_passed I.NameRest k = true
is_passed I.AliasRest (Symbol S.Equals) = false
is_passed I.AliasRest k = true
is_passed (I.When p) (Word W.When) = false
is_passed (I.When p) k = true
is_passed _ k = false

-- what was read is then
abbrev pub passing : Item → List Value → Option (List Value)
passing (I.Make m) vs = make m vs
passing I.NameRest (atom p a ∷ vs) = Some (node (C.literal p (T.atom a)) ∷ vs)
passing I.NameRest _ = None
passing _ vs = Some vs

-- ---- parts

-- ( arguments ), and what they are put together to
abbrev pub arguments : Item → List Item → List Item
arguments i is = I.Skip ∷ I.Make (M.Start R.Exprs) ∷ I.Row R.Exprs ∷ I.Skip ∷ i ∷ is

-- a row, and the token behind it
abbrev pub whole_row : Rows.Row → List Item → List Item
whole_row k is = I.Make (M.Start k) ∷ I.Row k ∷ is

-- the rest of an expression that begins with a word
abbrev pub form_rest : Place → Words.Word → List Item → Option (List Item)
form_rest p W.Fun is = Some (I.FunRest p ∷ is)
form_rest p W.Let is = Some (I.Group ∷ I.Skip ∷ I.Expr ∷ I.Skip ∷ I.Expr ∷ I.Make (M.Let p) ∷ is)
form_rest p W.Letrec is = Some (whole_row R.Defs (I.Skip ∷ I.Expr ∷ I.Make (M.Letrec p) ∷ is))
form_rest p W.Case is = Some (I.Expr ∷ I.Skip ∷ whole_row R.Clauses (I.Skip ∷ I.Make (M.Case p) ∷ is))
form_rest p W.Apply is = Some (I.Expr ∷ arguments (I.Make (M.Apply p)) is)
form_rest p W.Call is = Some (I.Expr ∷ I.Skip ∷ I.Expr ∷ arguments (I.Make (M.Call p)) is)
form_rest p W.Primop is = Some (I.Atom ∷ arguments (I.Make (M.Primop p)) is)
form_rest p W.Do is = Some (I.Expr ∷ I.Expr ∷ I.Make (M.Do p) ∷ is)
form_rest p W.Catch is = Some (I.Expr ∷ I.Make (M.Catch p) ∷ is)
form_rest p W.Try is =
    Some (I.Expr ∷ I.Skip ∷ I.Group ∷ I.Skip ∷ I.Expr ∷ I.Skip ∷ I.Group ∷ I.Skip ∷ I.Expr ∷ I.Make (M.Try p) ∷ is)
form_rest p W.Receive is =
    Some (whole_row R.Clauses (I.Skip ∷ I.Expr ∷ I.Skip ∷ I.Expr ∷ I.Make (M.Receive p) ∷ is))
form_rest p _ is = None

-- with a symbol
abbrev pub bracket_rest : Place → Symbols.Symbol → List Item → Option (List Item)
bracket_rest p S.OpenParen is = Some (I.Expr ∷ I.Skip ∷ is)
bracket_rest p S.OpenBracket is = Some (whole_row R.Exprs (I.ListEnd p ∷ is))
bracket_rest p S.OpenBrace is = Some (whole_row R.Exprs (I.Skip ∷ I.Make (M.Tuple p) ∷ is))
bracket_rest p S.OpenAngle is = Some (whole_row R.Exprs (I.Skip ∷ I.Make (M.Values p) ∷ is))
bracket_rest p S.OpenMap is = Some (whole_row R.Pairs (I.MapEnd p ∷ is))
bracket_rest p S.OpenBinary is = Some (whole_row R.Segments (I.Skip ∷ I.Make (M.Binary p) ∷ is))
bracket_rest p _ is = None

-- with a symbol, of a pattern
abbrev pub pattern_rest : Place → Symbols.Symbol → List Item → Option (List Item)
pattern_rest p S.OpenParen is = Some (I.Pattern ∷ I.Skip ∷ I.AliasRest ∷ is)
pattern_rest p S.OpenBracket is = Some (whole_row R.Patterns (I.PatternListEnd p ∷ is))
pattern_rest p S.OpenBrace is = Some (whole_row R.Patterns (I.Skip ∷ I.Make (M.PatternTuple p) ∷ is))
pattern_rest p S.OpenMap is = Some (whole_row R.Keys (I.Skip ∷ I.Make (M.PatternMap p) ∷ is))
pattern_rest p S.OpenBinary is = Some (whole_row R.Segs (I.Skip ∷ I.Make (M.PatternBinary p) ∷ is))
pattern_rest p _ is = None

-- the tree of a token that is one alone
abbrev pub leaf : Place → TokenKind → Option Tree.Tree
leaf p (Variable x) = Some (Tree.variable p x)
leaf p (Atom a) = Some (Tree.atom p a)
leaf p (Number g z) = Some (Tree.number p g z)
leaf p (Wide n) = Some (Tree.wide p n)
leaf p Float = Some (Tree.float p)
leaf p (Character c) = Some (Tree.character p c)
leaf p (Letters cs) = Some (Tree.string p cs)
leaf p _ = None

-- a leaf
abbrev pub leaf_turn : (Tree.Tree → Value) → Option Tree.Tree → List Item → List Value → Option State
leaf_turn f o is vs = o >>= λ t. Some (is, f t ∷ vs)

-- items in front, and values as they are
abbrev pub reading : List Value → Option (List Item) → Option State
reading vs o = o >>= λ is. Some (is, vs)

-- a token with which an expression begins
abbrev pub expr_turn : Place → TokenKind → List Item → List Value → Option State
expr_turn p (Word w) is vs = reading vs (form_rest p w is)
expr_turn p (Symbol s) is vs = reading vs (bracket_rest p s is)
expr_turn p (Atom a) is vs = Some (I.NameRest ∷ is, atom p a ∷ vs)
expr_turn p k is vs = leaf_turn (λ t. expr (read_expr t)) (leaf p k) is vs

-- a pattern
abbrev pub pattern_turn : Place → TokenKind → List Item → List Value → Option State
pattern_turn p (Word W.Fun) is vs = Some (I.Atom ∷ I.Skip ∷ I.Atom ∷ I.Skip ∷ I.PatternArity p ∷ is, vs)
pattern_turn p (Symbol s) is vs = reading vs (pattern_rest p s is)
pattern_turn p (Variable x) is vs = Some (I.AliasRest ∷ is, pattern_node (C.any p x) ∷ vs)
pattern_turn p k is vs = leaf_turn (λ t. pattern (read_pattern t)) (leaf p k) is vs

-- a variable, which may be annotated
abbrev pub variable_turn : Place → TokenKind → List Item → List Value → Option State
variable_turn p (Variable x) is vs = Some (is, binder (record { name = x; place = p }) ∷ vs)
variable_turn p (Symbol S.OpenParen) is vs = Some (I.Variable ∷ I.Skip ∷ is, vs)
variable_turn p _ is vs = None

-- one variable, or some in angle brackets
abbrev pub group_turn : Place → TokenKind → List Item → List Value → Option State
group_turn p (Symbol S.OpenAngle) is vs = Some (whole_row R.Binders (I.Skip ∷ is), vs)
group_turn p k is vs = variable_turn p k (I.Make (M.Add R.Binders) ∷ is) (no_parts R.Binders ∷ vs)

-- a function's name
abbrev pub name_turn : Place → TokenKind → List Item → List Value → Option State
name_turn p (Atom a) is vs = Some (I.Skip ∷ I.NameArity ∷ is, atom p a ∷ vs)
name_turn p (Symbol S.OpenParen) is vs = Some (I.Name ∷ I.Skip ∷ is, vs)
name_turn p _ is vs = None

-- an atom
abbrev pub atom_turn : Place → TokenKind → List Item → List Value → Option State
atom_turn p (Atom a) is vs = Some (is, atom p a ∷ vs)
atom_turn p (Symbol S.OpenParen) is vs = Some (I.Atom ∷ I.Skip ∷ is, vs)
atom_turn p _ is vs = None

-- > ( size , unit , type , flags ), and what is put together of it
abbrev pub segment_rest : Item → List Item → List Item
segment_rest i is =
    I.Skip ∷ I.Skip ∷ I.Expr ∷ I.Skip ∷ I.Expr ∷ I.Skip ∷ I.Atom ∷ I.Skip ∷ I.Expr ∷ I.Skip ∷ i ∷ is

-- a segment
abbrev pub segment_turn : Place → TokenKind → List Item → List Value → Option State
segment_turn p (Symbol S.OpenSegment) is vs = Some (I.Expr ∷ segment_rest (I.Make (M.Segment p)) is, vs)
segment_turn p (Symbol S.OpenParen) is vs = Some (I.Segment ∷ I.Skip ∷ is, vs)
segment_turn p _ is vs = None

-- a segment of a pattern
abbrev pub seg_turn : Place → TokenKind → List Item → List Value → Option State
seg_turn p (Symbol S.OpenSegment) is vs = Some (I.Pattern ∷ segment_rest (I.Make (M.Seg p)) is, vs)
seg_turn p (Symbol S.OpenParen) is vs = Some (I.Seg ∷ I.Skip ∷ is, vs)
seg_turn p _ is vs = None

-- A clause. A bracket before it is its own or its first pattern's: in it stands all of a clause, or its only pattern.
abbrev pub clause_turn : Place → TokenKind → List Item → List Value → Option State
clause_turn p (Symbol S.OpenAngle) is vs = Some (whole_row R.Patterns (I.Skip ∷ I.When p ∷ is), vs)
clause_turn p (Symbol S.OpenParen) is vs = Some (I.Clause ∷ I.Skip ∷ I.AliasRest ∷ I.When p ∷ is, vs)
clause_turn p k is vs = pattern_turn p k (I.When p ∷ is) vs

-- name [ exports ] attributes [ attributes ] definitions end
abbrev pub module_rest : List Item → List Item
module_rest is =
    I.Atom ∷ I.Skip ∷ whole_row R.Names (I.Skip ∷ I.Skip ∷ I.Skip ∷ whole_row R.Attributes
    (I.Skip ∷ whole_row R.Defs (I.Skip ∷ is)))

-- a module
abbrev pub module_turn : TokenKind → List Item → List Value → Option State
module_turn (Word W.Module) is vs = Some (module_rest is, vs)
module_turn (Symbol S.OpenParen) is vs = Some (I.Module ∷ I.Skip ∷ is, vs)
module_turn _ is vs = None

-- a part of a row, of its first token
abbrev pub part_turn : Rows.Row → Place → TokenKind → List Item → List Value → Option State
part_turn R.Exprs p k is vs = expr_turn p k (I.Make (M.Add R.Exprs) ∷ I.More R.Exprs ∷ is) vs
part_turn R.Patterns p k is vs = pattern_turn p k (I.Make (M.Add R.Patterns) ∷ I.More R.Patterns ∷ is) vs
part_turn R.Binders p k is vs = variable_turn p k (I.Make (M.Add R.Binders) ∷ I.More R.Binders ∷ is) vs
part_turn R.Names p k is vs = name_turn p k (I.Make (M.Add R.Names) ∷ I.More R.Names ∷ is) vs
part_turn R.Pairs p k is vs =
    expr_turn p k (I.PairArrow ∷ I.Expr ∷ I.Make (M.Add R.Pairs) ∷ I.More R.Pairs ∷ is) vs
part_turn R.Keys p k is vs = expr_turn p k (I.Skip ∷ I.Pattern ∷ I.Make (M.Add R.Keys) ∷ I.More R.Keys ∷ is) vs
part_turn R.Segments p k is vs = segment_turn p k (I.Make (M.Add R.Segments) ∷ I.More R.Segments ∷ is) vs
part_turn R.Segs p k is vs = seg_turn p k (I.Make (M.Add R.Segs) ∷ I.More R.Segs ∷ is) vs
part_turn R.Clauses p k is vs = clause_turn p k (I.Make (M.Add R.Clauses) ∷ I.Row R.Clauses ∷ is) vs
part_turn R.Defs p k is vs =
    name_turn p k (I.Skip ∷ I.Expr ∷ I.Make (M.Add R.Defs) ∷ I.Row R.Defs ∷ is) vs
part_turn R.Attributes p k is vs =
    atom_turn p k (I.Skip ∷ I.Expr ∷ I.Make (M.Add R.Attributes) ∷ I.More R.Attributes ∷ is) vs

-- another part behind a comma
abbrev pub next_part : Rows.Row → List Item → List Item
next_part R.Exprs is = I.Expr ∷ I.Make (M.Add R.Exprs) ∷ I.More R.Exprs ∷ is
next_part R.Patterns is = I.Pattern ∷ I.Make (M.Add R.Patterns) ∷ I.More R.Patterns ∷ is
next_part R.Binders is = I.Variable ∷ I.Make (M.Add R.Binders) ∷ I.More R.Binders ∷ is
next_part R.Names is = I.Name ∷ I.Make (M.Add R.Names) ∷ I.More R.Names ∷ is
next_part R.Pairs is = I.Expr ∷ I.PairArrow ∷ I.Expr ∷ I.Make (M.Add R.Pairs) ∷ I.More R.Pairs ∷ is
next_part R.Keys is = I.Expr ∷ I.Skip ∷ I.Pattern ∷ I.Make (M.Add R.Keys) ∷ I.More R.Keys ∷ is
next_part R.Segments is = I.Segment ∷ I.Make (M.Add R.Segments) ∷ I.More R.Segments ∷ is
next_part R.Segs is = I.Seg ∷ I.Make (M.Add R.Segs) ∷ I.More R.Segs ∷ is
next_part R.Clauses is = I.Clause ∷ I.Make (M.Add R.Clauses) ∷ I.Row R.Clauses ∷ is
next_part R.Defs is = I.Name ∷ I.Skip ∷ I.Expr ∷ I.Make (M.Add R.Defs) ∷ I.Row R.Defs ∷ is
next_part R.Attributes is =
    I.Atom ∷ I.Skip ∷ I.Expr ∷ I.Make (M.Add R.Attributes) ∷ I.More R.Attributes ∷ is

-- ---- what goes on behind a part

-- behind `fun`
abbrev pub fun_turn : (fun_at : Place) → Place → TokenKind → List Item → List Value → Option State
fun_turn q p (Symbol s) is vs = Some (whole_row R.Binders (I.Skip ∷ I.Skip ∷ I.Expr ∷ I.Make (M.Fun q) ∷ is), vs)
fun_turn q p (Atom a) is vs = Some (I.Skip ∷ I.Atom ∷ I.Skip ∷ I.ExternalArity q ∷ is, atom p a ∷ vs)
fun_turn q p _ is vs = None

-- `]`, or a tail
abbrev pub list_end : Place → TokenKind → List Item → List Item
list_end p (Symbol S.Bar) is = I.Expr ∷ I.Skip ∷ I.Make (M.ListOn p) ∷ is
list_end p k is = I.Make (M.List p) ∷ is

-- the same, of a pattern
abbrev pub pattern_list_end : Place → TokenKind → List Item → List Item
pattern_list_end p (Symbol S.Bar) is = I.Pattern ∷ I.Skip ∷ I.Make (M.PatternListOn p) ∷ is
pattern_list_end p k is = I.Make (M.PatternList p) ∷ is

-- `}~`, or the map that is changed
abbrev pub map_end : Place → TokenKind → List Item → List Item
map_end p (Symbol S.Bar) is = I.Expr ∷ I.Skip ∷ I.Make (M.MapOn p) ∷ is
map_end p k is = I.Make (M.Map p) ∷ is

-- whether a pair is written `:=`
abbrev pub is_exact : TokenKind → Bool
is_exact (Symbol S.ExactAssociation) = true
is_exact k = false

-- an arity, which is no longer than nine digits
abbrev pub arity_in : TokenKind → Option ℕ
arity_in (Number g (pos n)) = if is_arity n then Some n else None
arity_in k = None

-- what an arity makes of what was read
abbrev pub on_arity : TokenKind → (ℕ → Option (List Value)) → List Item → Option State
on_arity k f is = arity_in k >>= f >>= λ vs. Some (is, vs)

-- a term in the place of its parts
abbrev pub as_value : (T.Term → Value) → Option (T.Term × List Value) → Option (List Value)
as_value f o = o >>= λ t. Some (f t.0 ∷ t.1)

-- what a token does where this is to be read, and these behind it
abbrev pub turn : Item → Place → TokenKind → List Item → List Value → Option State
turn I.Skip p k is vs = Some (is, vs)
turn I.Expr p k is vs = expr_turn p k is vs
turn I.Pattern p k is vs = pattern_turn p k is vs
turn I.Variable p k is vs = variable_turn p k is vs
turn I.Group p k is vs = group_turn p k is vs
turn I.Name p k is vs = name_turn p k is vs
turn I.Atom p k is vs = atom_turn p k is vs
turn I.Segment p k is vs = segment_turn p k is vs
turn I.Seg p k is vs = seg_turn p k is vs
turn I.Clause p k is vs = clause_turn p k is vs
turn I.Module p k is vs = module_turn k is vs
turn (I.Row r) p k is vs = part_turn r p k is vs
turn (I.More r) p k is vs = Some (next_part r is, vs)
turn I.NameRest p k is vs = Some (I.Arity ∷ is, vs)
turn I.Arity p k is vs = on_arity k (λ n. called n vs) is
turn I.NameArity p k is vs = on_arity k (λ n. named n vs) is
turn (I.FunRest q) p k is vs = fun_turn q p k is vs
turn (I.ExternalArity q) p k is vs =
    on_arity k (λ n. as_value (λ t. node (C.literal q t)) (external_term n vs)) is
turn (I.PatternArity q) p k is vs =
    on_arity k (λ n. as_value (λ t. pattern_node (C.known q t)) (external_term n vs)) is
turn (I.ListEnd q) p k is vs = Some (list_end q k is, vs)
turn (I.PatternListEnd q) p k is vs = Some (pattern_list_end q k is, vs)
turn I.PairArrow p k is vs = Some (is, exact (is_exact k) ∷ vs)
turn (I.MapEnd q) p k is vs = Some (map_end q k is, vs)
turn I.AliasRest p k is vs = Some (I.Pattern ∷ I.Make M.Alias ∷ is, vs)
turn (I.When q) p k is vs = Some (I.Expr ∷ I.Skip ∷ I.Expr ∷ I.Make (M.Clause q) ∷ is, vs)
turn (I.Make m) p k is vs = None

-- here where it is not passed, else below
abbrev pub on_pass : Bool → Option State → Option State → Option State
on_pass true below here = below
on_pass false below here = here

-- What a token does: all that it passes is passed, and then it is taken.
abbrev pub take : Token → List Item → List Value → Option State
take t [] vs = None
take t (i ∷ is) vs =
    on_pass (is_passed i t.kind) (passing i vs >>= λ ws. take t is ws) (turn i t.place t.kind is vs)
