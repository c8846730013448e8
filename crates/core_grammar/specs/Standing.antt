-- Where each form may stand. A sort is what the grammar wants at a point of the text: the tables say which forms it
-- takes, and what it wants of their parts.
use Rattle.std.specs.Prelude.{ℕ, ◌^◌, Bool, true, false, not, ◌&&◌, ltb, None, Some, IsTrue, ⊤}
use Rattle.std.specs.List.{list_all}
use Rattle.erl_term.specs.Ranges.{is_within_128}
use Rattle.core_form.specs.SourceTree.{is_variable_name, is_arity}
use Rattle.core_grammar.specs.WrittenTree.{Tree, variable, atom, number, wide, float, character, string, function_name, external, noted, alias, list, list_on, tuple, values, new_map, map_on, binary, fun, let_in, letrec, case, apply, call, primop, do_then, catch, try, receive, Row, none, more, Group, single, angled, Pairs, no_pair, pair, Segment, segment, noted_segment, Segments, no_segment, and_segment, Clause, clause, noted_clause, Clauses, no_clause, and_clause, Definitions, no_definition, definition, Attributes, no_attribute, attribute, Written, plain_module, noted_module}
use Rattle.core_grammar.specs.ConstantTerms.{bits_of_segments}

-- What is wanted: an expression, a pattern, a constant, what an annotation holds, a key or a size in a pattern, the
-- value of a segment there, a variable, a function's name, an atom, a `fun`.
pub data Sort : Type 0 where
  expression pattern constant note key segment_value a_variable a_name an_atom a_fun : Sort

-- Which sorts take a form.

-- a variable
abbrev pub takes_variable : Sort → Bool
takes_variable expression = true
takes_variable pattern = true
takes_variable key = true
takes_variable segment_value = true
takes_variable a_variable = true
takes_variable _ = false

-- floats, characters, external funs, tuples, maps and binaries
abbrev pub takes_constant : Sort → Bool
takes_constant expression = true
takes_constant pattern = true
takes_constant constant = true
takes_constant key = true
takes_constant _ = false

-- integers
abbrev pub takes_integer : Sort → Bool
takes_integer segment_value = true
takes_integer s = takes_constant s

-- atoms
abbrev pub takes_atom : Sort → Bool
takes_atom an_atom = true
takes_atom s = takes_constant s

-- lists and strings
abbrev pub takes_list : Sort → Bool
takes_list note = true
takes_list s = takes_constant s

-- functions' names
abbrev pub takes_name : Sort → Bool
takes_name expression = true
takes_name a_name = true
takes_name _ = false

-- funs
abbrev pub takes_fun : Sort → Bool
takes_fun expression = true
takes_fun a_fun = true
takes_fun _ = false

-- all that is neither a constant nor a pattern
abbrev pub takes_expression : Sort → Bool
takes_expression expression = true
takes_expression _ = false

-- aliases
abbrev pub takes_alias : Sort → Bool
takes_alias pattern = true
takes_alias _ = false

-- pairs: `:=` alone in a pattern, `=>` alone in a constant
abbrev pub takes_pair : Sort → (exact : Bool) → Bool
takes_pair expression x = true
takes_pair pattern x = x
takes_pair _ x = not x

-- What is wanted of the parts.

-- in an annotation's brackets: the integer that a pattern's segment matches has none
abbrev pub inner_sort : Sort → Sort
inner_sort segment_value = a_variable
inner_sort s = s

-- of the items of lists and tuples, and of the values of pairs
abbrev pub item_sort : Sort → Sort
item_sort expression = expression
item_sort pattern = pattern
item_sort _ = constant

-- of the keys of pairs, and of the sizes of segments
abbrev pub key_sort : Sort → Sort
key_sort expression = expression
key_sort pattern = key
key_sort _ = constant

-- of the values of segments
abbrev pub value_sort : Sort → Sort
value_sort expression = expression
value_sort pattern = segment_value
value_sort _ = constant

-- where only a constant may stand, each segment is one
abbrev pub takes_binary : Sort → Segments → Bool
takes_binary expression gs = true
takes_binary pattern gs = true
takes_binary s gs = takes_constant s && elim (bits_of_segments gs) [ None ↦ false | Some bs ↦ true ]

-- a code point takes 32 bits; tokens that no lexer made could have more
abbrev pub is_code : ℕ → Bool
is_code c = ltb c (2 ^ 32)

abbrev mutual
  -- what is written has this sort
  pub Stands : Sort → Tree → Type 0
  Stands s (variable p x) = IsTrue (takes_variable s) × IsTrue (is_variable_name x)
  Stands s (atom p a) = IsTrue (takes_atom s)
  Stands s (number p g z) = IsTrue (takes_integer s) × IsTrue (is_within_128 z)
  Stands s (wide p n) = IsTrue (takes_integer s)
  Stands s (float p) = IsTrue (takes_constant s)
  Stands s (character p c) = IsTrue (takes_constant s) × IsTrue (is_code c)
  Stands s (string p cs) = IsTrue (takes_list s) × IsTrue (list_all is_code cs)
  Stands s (function_name p a n) = IsTrue (takes_name s) × IsTrue (is_arity n)
  Stands s (external p m f n) = IsTrue (takes_constant s) × IsTrue (is_arity n)
  Stands s (noted p t n) = Stands (inner_sort s) t × Stands note n
  Stands s (alias x t) = IsTrue (takes_alias s) × Stands a_variable x × Stands pattern t
  Stands s (list p ts) = IsTrue (takes_list s) × RowStands (item_sort s) ts
  Stands s (list_on p t ts u) =
      IsTrue (takes_list s) × Stands (item_sort s) t × RowStands (item_sort s) ts × Stands (item_sort s) u
  Stands s (tuple p ts) = IsTrue (takes_constant s) × RowStands (item_sort s) ts
  Stands s (values p ts) = IsTrue (takes_expression s) × RowStands expression ts
  Stands s (new_map p ps) = IsTrue (takes_constant s) × PairsStand s ps
  Stands s (map_on p ps t) = IsTrue (takes_expression s) × PairsStand s ps × Stands expression t
  Stands s (binary p gs) = IsTrue (takes_binary s gs) × SegmentsStand s gs
  Stands s (fun p xs t) = IsTrue (takes_fun s) × RowStands a_variable xs × Stands expression t
  Stands s (let_in p xs t u) =
      IsTrue (takes_expression s) × GroupStands a_variable xs × Stands expression t × Stands expression u
  Stands s (letrec p ds t) = IsTrue (takes_expression s) × DefinitionsStand ds × Stands expression t
  Stands s (case p t c cs) = IsTrue (takes_expression s) × Stands expression t × ClauseStands c × ClausesStand cs
  Stands s (apply p t ts) = IsTrue (takes_expression s) × Stands expression t × RowStands expression ts
  Stands s (call p m f ts) =
      IsTrue (takes_expression s) × Stands expression m × Stands expression f × RowStands expression ts
  Stands s (primop p a ts) = IsTrue (takes_expression s) × RowStands expression ts
  Stands s (do_then p t u) = IsTrue (takes_expression s) × Stands expression t × Stands expression u
  Stands s (catch p t) = IsTrue (takes_expression s) × Stands expression t
  Stands s (try p t xs u ys v) =
      IsTrue (takes_expression s) × Stands expression t × GroupStands a_variable xs × Stands expression u
      × GroupStands a_variable ys × Stands expression v
  Stands s (receive p cs t u) =
      IsTrue (takes_expression s) × ClausesStand cs × Stands expression t × Stands expression u

  pub RowStands : Sort → Row → Type 0
  RowStands s none = ⊤
  RowStands s (more t ts) = Stands s t × RowStands s ts

  pub GroupStands : Sort → Group → Type 0
  GroupStands s (single t) = Stands s t
  GroupStands s (angled p ts) = RowStands s ts

  pub PairsStand : Sort → Pairs → Type 0
  PairsStand s no_pair = ⊤
  PairsStand s (pair t x u ps) =
      Stands (key_sort s) t × IsTrue (takes_pair s x) × Stands (item_sort s) u × PairsStand s ps

  pub SegmentStands : Sort → Segment → Type 0
  SegmentStands s (segment p t u n k f) =
      Stands (value_sort s) t × Stands (key_sort s) u × Stands constant n × Stands an_atom k × Stands constant f
  SegmentStands s (noted_segment g n) = SegmentStands s g × Stands note n

  pub SegmentsStand : Sort → Segments → Type 0
  SegmentsStand s no_segment = ⊤
  SegmentsStand s (and_segment g gs) = SegmentStands s g × SegmentsStand s gs

  pub ClauseStands : Clause → Type 0
  ClauseStands (clause ts t u) = GroupStands pattern ts × Stands expression t × Stands expression u
  ClauseStands (noted_clause c n) = ClauseStands c × Stands note n

  pub ClausesStand : Clauses → Type 0
  ClausesStand no_clause = ⊤
  ClausesStand (and_clause c cs) = ClauseStands c × ClausesStand cs

  pub DefinitionsStand : Definitions → Type 0
  DefinitionsStand no_definition = ⊤
  DefinitionsStand (definition x t ds) = Stands a_name x × Stands a_fun t × DefinitionsStand ds

-- attributes have atoms and constants
abbrev pub AttributesStand : Attributes → Type 0
AttributesStand no_attribute = ⊤
AttributesStand (attribute a t bs) = Stands an_atom a × Stands constant t × AttributesStand bs

-- what is written is a module
abbrev pub IsModule : Written → Type 0
IsModule (plain_module a xs bs ds) = RowStands a_name xs × AttributesStand bs × DefinitionsStand ds
IsModule (noted_module w n) = IsModule w × Stands note n
