-- Small texts with their trees. Each tells the grammar from a wrong one; the line above says which slip that is.
use Prim.Native.String.{String}
use Rattle.std.specs.Prelude.{◌≡◌, ℕ, pos, List, [], ◌∷◌, ◌++◌, map, Bool, true, false, None, Some, codes, Option}
use Rattle.std.specs.List.{list_any}
use Rattle.erl_base.specs.declared.ids.Place.{Place}
use Rattle.erl_term.specs.Term as T
use Rattle.erl_term.specs.Terms.{terms}
use Rattle.erl_term.specs.BitString.{byte_bits}
use Rattle.core_lex.specs.declared.token.TokenKind.{TokenKind}
use Rattle.core_lex.specs.declared.token.TokenKind.TheVariants.{Number}
use Rattle.core_lex.specs.Tokens.{tokens}
use Rattle.core_form.specs.Core as C
use Rattle.core_form.specs.View.{exprs, patterns, defs}
use Rattle.core_grammar.specs.WrittenTree.{Tree, variable, atom, number, wide, float, character, string, function_name, external, noted, alias, list, list_on, tuple, values, new_map, map_on, binary, fun, let_in, letrec, case, apply, call, primop, do_then, catch, try, receive, Row, none, more, Group, single, angled, Pairs, no_pair, pair, Segment, segment, no_segment, and_segment, Clause, clause, noted_clause, no_clause, and_clause, no_definition, definition, no_attribute, attribute, Written, plain_module, noted_module}
use Rattle.core_grammar.specs.Standing.{expression, pattern, constant, key, segment_value, Stands}
use Rattle.core_grammar.specs.Signs.{of_kind, at_place, an_arity, Sign, on, clause_on, signs}
use Rattle.core_grammar.specs.ModuleOf.{expr_of, pattern_of, module_of}
use Rattle.core_grammar.specs.Texts.{ModuleText}

-- a place of the first line
abbrev pub at : ℕ → Place
at n = record { line = 1; column = n }

-- where the place does not matter
abbrev pub here : Place
here = at 1

-- a variable
abbrev pub v : String → Tree
v x = variable here (codes x)

-- an integer
abbrev pub i : ℕ → Tree
i n = number here false (pos n)

-- an atom
abbrev pub a : String → Tree
a x = atom here (codes x)

-- the empty list, as an annotation
abbrev pub nothing : Tree
nothing = list here none

-- items in a row
abbrev pub row_of : List Tree → Row
row_of [] = none
row_of (t ∷ ts) = more t (row_of ts)

-- the kind of a token that is written
abbrev pub kind_of : Sign → TokenKind
kind_of g = elim g.sight [ of_kind k ↦ k | at_place p k ↦ k | an_arity n ↦ Number false (pos n) ]

-- the kinds of the tokens of a text, the end among them
abbrev pub kinds : String → List TokenKind
kinds text = map (λ t. t.kind) (tokens (codes text))

-- `'f'/0`
abbrev pub name_f : Tree
name_f = function_name here (codes "f") 0

-- a module with one function whose body is this expression
abbrev pub module_with : Tree → Written
module_with t =
    plain_module (record { place = here; name = codes "m" }) none no_attribute
    (definition name_f (fun here none t) no_definition)

-- of the text of a module whose only function has this body
abbrev pub body_kinds : String → List TokenKind
body_kinds text = map (λ t. t.kind)
    (tokens (codes "module 'm' [] attributes [] 'f'/0 = fun () -> " ++ codes text ++ codes " end"))

-- the same, of what is written
abbrev pub written_kinds : Tree → List TokenKind
written_kinds t = map kind_of (signs (module_with t))

-- the depths of a tree's tokens
abbrev pub depths : Tree → List ℕ
depths t = map (λ g. g.depth) (on true expression 0 t [])

-- of a clause
abbrev pub clause_depths : Clause → List ℕ
clause_depths c = map (λ g. g.depth) (clause_on true 0 c [])

-- the first float of a module with this node, which is annotated with a float
abbrev pub first_float : Tree → Option Place
first_float t = (module_of (module_with (noted here t (list here (row_of (float (at 4) ∷ [])))))).floats

-- a literal at the place that does not matter
abbrev pub known : T.Term → C.Expr
known t = C.literal here t

-- the expression X
abbrev pub x_expr : C.Expr
x_expr = C.var here (codes "X")

-- `let <X> = E in X`, and `let X = E in X`
abbrev pub let_x : Group → Tree
let_x xs = let_in here xs (i 1) (v "X")

-- a map whose key is written twice
abbrev pub twice_one : Pairs
twice_one = pair (i 1) false (a "a") (pair (i 1) false (a "b") no_pair)

-- #< value > ( size , 1 , 'integer' , [] )
abbrev pub segment_with : Tree → Tree → Segment
segment_with t u = segment here t u (i 1) (a "integer") nothing

-- `fun 'm':'f'/1`
abbrev pub external_f : Tree
external_f = external here (record { place = here; name = codes "m" }) (record { place = here; name = codes "f" }) 1

-- `try X of Y -> Y catch VARS -> X`
abbrev pub try_with : Group → Tree
try_with xs = try here (v "X") (single (v "Y")) (v "Y") xs (v "X")

-- whether a token of a text with this catch part is marked
abbrev pub marks : Group → Bool
marks xs = list_any (λ g. g.marked) (on true expression 0 (try_with xs) [])

-- variables in angle brackets
abbrev pub angles : List Tree → Group
angles ts = angled here (row_of ts)

-- The texts are written as the tree says: what each form has between its parts, and in which order.
pub record WrittenAsRead : Type 0 where
  -- a value list with no value; a `let` of one variable without brackets
  pub no_value : body_kinds "let X = <> in X"
      ≡ written_kinds (let_in here (single (v "X")) (values here none) (v "X"))
  -- brackets of an annotation
  pub notes : body_kinds "( 1 -| [ 2.0 ] )" ≡ written_kinds (noted here (i 1) (list here (row_of (float here ∷ []))))
  -- a map on a base without a pair; both arrows
  pub maps : body_kinds "{ ~{|M}~ , ~{ 1 => 2 , 3 := 4 | M }~ }"
      ≡ written_kinds (tuple here (row_of (map_on here no_pair (v "M")
      ∷ map_on here (pair (i 1) false (i 2) (pair (i 3) true (i 4) no_pair)) (v "M") ∷ [])))
  -- the order of a segment's parts
  pub segments : body_kinds "#{ #< X > ( 8 , 1 , 'integer' , [] ) }#"
      ≡ written_kinds (binary here (and_segment (segment_with (v "X") (i 8)) no_segment))
  -- `letrec` with no definition; funs by name
  pub names : body_kinds "letrec in { 'f'/0 , fun 'm':'f'/1 }"
      ≡ written_kinds (letrec here no_definition (tuple here (row_of (name_f ∷ external_f ∷ []))))
  -- a clause with one pattern without brackets, and one with brackets
  pub clauses : body_kinds "case X of Y = 1 when 'a' -> 2 <1> when 'a' -> 2 end"
      ≡ written_kinds (case here (v "X") (clause (single (alias (v "Y") (i 1))) (a "a") (i 2))
      (and_clause (clause (angled here (row_of (i 1 ∷ []))) (a "a") (i 2)) no_clause))
  -- calls
  pub calls : body_kinds "do apply F (1, 2) call M : F ()"
      ≡ written_kinds
      (do_then here (apply here (v "F") (row_of (i 1 ∷ i 2 ∷ []))) (call here (v "M") (v "F") none))
  -- raises
  pub raises : body_kinds "try X of Y -> Y catch <A, B> -> X"
      ≡ written_kinds (try_with (angles (v "A" ∷ v "B" ∷ [])))
  -- receive
  pub receives : body_kinds "receive X when 'a' -> catch X after primop 'p' () -> [1|X]"
      ≡ written_kinds (receive here (and_clause (clause (single (v "X")) (a "a") (catch here (v "X"))) no_clause)
      (primop here (record { place = here; name = codes "p" }) none) (list_on here (i 1) none (v "X")))
  -- exports and attributes, and an annotated module
  pub whole : kinds "( module 'm' [ 'f'/0 , ('g'/1 -| []) ] attributes [ 'a' = 1 , 'b' = {} ] end -| [] )"
      ≡ map kind_of (signs (noted_module (plain_module (record { place = here; name = codes "m" })
      (row_of (function_name here (codes "f") 0 ∷ noted here (function_name here (codes "g") 1) nothing ∷ []))
      (attribute (a "a") (i 1) (attribute (a "b") (tuple here none) no_attribute)) no_definition) nothing))

-- What stands where.
pub record StandsWhere : Type 0 where
  -- annotations hold lists alone
  pub list_note : Stands expression (noted here (i 1) (noted here (string here []) nothing))
  pub atom_note : Stands expression (noted here (i 1) (a "a")) → ⊥
  -- the arrow of a pattern's map is `:=`
  pub map_pattern : Stands pattern (new_map here (pair (v "K") true (v "X") no_pair))
  pub loose_pattern : Stands pattern (new_map here (pair (v "K") false (v "X") no_pair)) → ⊥
  -- a key is a variable or any constant, and no tuple with a variable
  pub tuple_key : Stands key (tuple here (row_of (v "K" ∷ []))) → ⊥
  -- an annotated variable may have a pattern, and nothing else may
  pub noted_alias : Stands pattern (alias (noted here (v "X") nothing) (i 1))
  pub alias_alias : Stands pattern (alias (noted here (alias (v "X") (i 1)) nothing) (i 1)) → ⊥
  -- the integer of a pattern's segment has no annotation, and is no character
  pub integer_segment : Stands pattern (binary here (and_segment (segment_with (i 1) (i 8)) no_segment))
  pub noted_integer : Stands segment_value (noted here (i 1) nothing) → ⊥
  pub character_segment : Stands segment_value (character here 1) → ⊥
  -- a constant binary has at most 256 bits a segment, and no float
  pub widest : Stands constant (binary here (and_segment (segment_with (wide here 40) (i 256)) no_segment))
  pub too_wide : Stands constant (binary here (and_segment (segment_with (i 1) (i 257)) no_segment)) → ⊥
  pub no_float : Stands constant (binary here (and_segment (segment_with (float here) (i 8)) no_segment)) → ⊥
  -- a catch part has two or three variables, and the arrow behind it tells
  pub two_caught : marks (angles (v "A" ∷ v "B" ∷ [])) ≡ false
  pub one_caught : marks (single (v "A")) ≡ true
  pub four_caught : marks (angles (v "A" ∷ v "B" ∷ v "C" ∷ v "D" ∷ [])) ≡ true
  -- ten digits are no arity
  pub nine_digits : Stands expression (function_name here (codes "f") 999999999)
  pub ten_digits : Stands expression (function_name here (codes "f") 1000000000) → ⊥

-- What holds a token.
pub record DeepAs : Type 0 where
  -- the brackets of an annotation count once more than the node
  pub node_note : depths (noted here (i 1) nothing) ≡ 2 ∷ 2 ∷ 2 ∷ 3 ∷ 3 ∷ 2 ∷ []
  -- the items of a tuple
  pub items : depths (tuple here (row_of (i 1 ∷ v "X" ∷ []))) ≡ 1 ∷ 2 ∷ 1 ∷ 2 ∷ 1 ∷ []
  -- a tail nests as it is written
  pub tail : depths (list_on here (i 1) none (list_on here (i 2) none (v "X")))
      ≡ 1 ∷ 2 ∷ 1 ∷ 2 ∷ 3 ∷ 2 ∷ 3 ∷ 2 ∷ 1 ∷ []
  -- a bound variable counts nothing, its annotation one
  pub binders : depths (fun here (row_of (noted here (v "X") nothing ∷ v "Y" ∷ [])) (v "X"))
      ≡ 1 ∷ 1 ∷ 2 ∷ 2 ∷ 2 ∷ 3 ∷ 3 ∷ 2 ∷ 1 ∷ 1 ∷ 1 ∷ 1 ∷ 2 ∷ []
  -- a variable as a key counts nothing, and a constant one
  pub keys : map (λ g. g.depth) (on true pattern 0
      (new_map here (pair (v "K") true (v "X") (pair (i 1) true (v "Y") no_pair))) [])
      ≡ 1 ∷ 1 ∷ 1 ∷ 2 ∷ 1 ∷ 2 ∷ 1 ∷ 2 ∷ 1 ∷ []
  -- a clause counts, and so does its annotation
  pub whole_clause : clause_depths (noted_clause (clause (single (v "X")) (a "a") (i 1)) nothing)
      ≡ 2 ∷ 3 ∷ 2 ∷ 3 ∷ 2 ∷ 3 ∷ 2 ∷ 3 ∷ 3 ∷ 2 ∷ []
  -- brackets of its first pattern are one deeper
  pub first_pattern : clause_depths (clause (single (noted here (v "X") nothing)) (a "a") (i 1))
      ≡ 3 ∷ 3 ∷ 3 ∷ 4 ∷ 4 ∷ 3 ∷ 1 ∷ 2 ∷ 1 ∷ 2 ∷ []
  -- definitions and funs
  pub functions : map (λ g. g.depth) (signs (module_with (i 1)))
      ≡ 0 ∷ 0 ∷ 0 ∷ 0 ∷ 0 ∷ 0 ∷ 0 ∷ 1 ∷ 1 ∷ 1 ∷ 1 ∷ 2 ∷ 2 ∷ 2 ∷ 2 ∷ 3 ∷ 0 ∷ 0 ∷ []

-- The module that a text stands for.
pub record ReadsAs : Type 0 where
  -- what is one constant is one literal, a value list is none
  pub one_constant : expr_of (tuple here (row_of (noted here (i 1) nothing ∷ list here none ∷ [])))
      ≡ known (T.tuple (terms (T.int (pos 1) ∷ T.nil ∷ [])))
  pub no_constant : expr_of (values here (row_of (i 1 ∷ []))) ≡ C.values here (exprs (known (T.int (pos 1)) ∷ []))
  -- a list goes on in the tail, also as a string and in annotations
  pub string_tail : expr_of (list_on here (v "X") none (noted here (string here (codes "a")) nothing))
      ≡ C.list here (exprs (x_expr ∷ known (T.int (pos 97)) ∷ [])) (known T.nil)
  pub variable_tail : expr_of (list_on here (i 1) none (list_on here (i 2) none (v "X")))
      ≡ C.list here (exprs (known (T.int (pos 1)) ∷ known (T.int (pos 2)) ∷ [])) x_expr
  -- the later of equal keys wins
  pub equal_keys : expr_of (new_map here twice_one)
      ≡ known (T.map (T.pair (T.int (pos 1)) (T.atom (codes "b")) T.no_pair))
  -- `:=` and a base make no constant
  pub exact_map : expr_of (new_map here (pair (i 1) true (i 2) no_pair))
      ≡ C.new_map here (C.and_part (C.map_part (known (T.int (pos 1))) (known (T.int (pos 2))) true) C.no_part)
  -- a binary of constant segments is one constant, a pattern is none
  pub constant_binary : expr_of (binary here (and_segment (segment_with (i 65) (i 8)) no_segment))
      ≡ known (T.bits (byte_bits (65 ∷ [])))
  pub binary_pattern : pattern_of (tuple here (row_of (binary here no_segment ∷ i 1 ∷ [])))
      ≡ C.tuple_like here (patterns (C.bits_like here C.no_seg ∷ C.known here (T.int (pos 1)) ∷ []))
  -- a float is read as 0 and noted, but in annotations
  pub float_outside : first_float (float (at 3)) ≡ Some (at 3)
  pub float_inside : first_float (i 3) ≡ None

-- The text of a string, and that of a module with its places.
pub record TextExamples : Type 0 where
  pub a_string : body_kinds "\"a\"" ≡ written_kinds (string here (codes "a"))
  pub one_variable : ModuleText (tokens (codes "module 'm' ['f'/1] attributes [] 'f'/1 = fun (X) -> X end")) (record {
    name = codes "m";
    exports = record { key = record { name = codes "f"; arity = 1 }; place = at 13 } ∷ [];
    attributes = [];
    defs = defs (C.def (at 34) (record { name = codes "f"; arity = 1 })
        (C.fun (at 42) (record { name = codes "X"; place = at 47 } ∷ []) (C.var (at 53) (codes "X"))) ∷ []);
    floats = None;
    wide = None;
    long = None;
  })
