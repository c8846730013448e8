-- The parts of a text: what each is read as, its signs, what is right for it, what may stand behind it, a least one.
use Rattle.std.proofs.Common.{◌≡◌, ℕ, suc, leb, List, [], ◌∷◌, Bool, true, false, ◌&&◌, ◌||◌, not, pos, Option, None, Some, codes}
use Rattle.std.specs.Bool.{⊤}
use Rattle.erl_base.specs.declared.ids.Place.{Place}
use Rattle.erl_term.specs.Term.{Term}
use Rattle.core_lex.specs.declared.token.TokenKind.{TokenKind}
use Rattle.core_form.specs.SourceTree.{are_flags, is_flag}
use Rattle.core_grammar.specs.WrittenTree.{Tree, variable, atom, number, function_name, list, fun, Row, none, more, Group, single, angled, Pairs, no_pair, pair, Segment, segment, Segments, no_segment, and_segment, Clause, clause, Clauses, no_clause, and_clause, Definitions, no_definition, definition, Attributes, no_attribute, attribute, Written, plain_module}
use Rattle.core_grammar.specs.Standing.{Sort, expression, pattern, constant, key, segment_value, a_variable, a_name, an_atom, a_fun, takes_alias, item_sort, key_sort, Stands, RowStands, GroupStands, PairsStand, SegmentStands, SegmentsStand, ClauseStands, ClausesStand, DefinitionsStand, AttributesStand, IsModule}
use Rattle.core_grammar.specs.ConstantTerms.{constant_of, integer_value, count_value, is_integer_kind, is_constant_size, bits_of}
use Rattle.core_grammar.specs.Signs.{Sign, on, row_on, group_on, pairs_on, segment_on, segments_on, clause_on, clauses_on, definitions_on, attributes_on, module_on}
use Rattle.core_texts.proofs.Fronts.{is_slash, is_comma, is_when, equals_in, opens, front}

-- what begins a clause: all of it, or its only pattern
pub data Head : Type 0 where
  whole : Clause → Head
  part : Tree → Head

-- items, pairs, segments, clauses, definitions and attributes are at least one
pub data Part : Type 0 where
  tree_part : Sort → (depth : ℕ) → Part
  items_part : Sort → (depth : ℕ) → Part
  group_part : (depth : ℕ) → Part
  pairs_part : Sort → (depth : ℕ) → Part
  segment_part : Sort → (depth : ℕ) → Part
  segments_part : Sort → (depth : ℕ) → Part
  head_part : (depth : ℕ) → Part
  clause_part : (depth : ℕ) → Part
  clauses_part : (depth : ℕ) → Part
  definitions_part : (depth : ℕ) → Part
  attributes_part : (depth : ℕ) → Part
  module_part : (depth : ℕ) → Part
  -- parts of constant segments
  value_part : (depth : ℕ) → Part
  size_part : (depth : ℕ) → Part
  unit_part : (size depth : ℕ) → Part
  kind_part : (depth : ℕ) → Part
  flags_part : (depth : ℕ) → Part
  flag_part : (depth : ℕ) → Part
  flag_items_part : (depth : ℕ) → Part

abbrev pub Value : Part → Type 0
Value (tree_part s d) = Tree
Value (items_part s d) = Tree × Row
Value (group_part d) = Group
Value (pairs_part s d) = Tree × Bool × Tree × Pairs
Value (segment_part s d) = Segment
Value (segments_part s d) = Segment × Segments
Value (head_part d) = Head
Value (clause_part d) = Clause
Value (clauses_part d) = Clause × Clauses
Value (definitions_part d) = Tree × Tree × Definitions
Value (attributes_part d) = Tree × Tree × Attributes
Value (module_part d) = Written
Value (value_part d) = Tree
Value (size_part d) = Tree
Value (unit_part n d) = Tree
Value (kind_part d) = Tree
Value (flags_part d) = Tree
Value (flag_part d) = Tree
Value (flag_items_part d) = Tree × Row

abbrev pub head_on : ℕ → Head → List Sign → List Sign
head_on d (whole c) r = clause_on true d c r
head_on d (part t) r = on true pattern (suc d) t r

abbrev pub signs_of : (v : Part) → Value v → List Sign → List Sign
signs_of (tree_part s d) t r = on true s d t r
signs_of (items_part s d) ts r = row_on true true s d (more ts.0 ts.1) r
signs_of (group_part d) g r = group_on true a_variable d g r
signs_of (pairs_part s d) ps r = pairs_on true true s d (pair ps.0 ps.1 ps.2 ps.3) r
signs_of (segment_part s d) g r = segment_on true s d g r
signs_of (segments_part s d) gs r = segments_on true true s d (and_segment gs.0 gs.1) r
signs_of (head_part d) h r = head_on d h r
signs_of (clause_part d) c r = clause_on true d c r
signs_of (clauses_part d) cs r = clauses_on true d (and_clause cs.0 cs.1) r
signs_of (definitions_part d) ds r = definitions_on true d (definition ds.0 ds.1 ds.2) r
signs_of (attributes_part d) bs r = attributes_on true true d (attribute bs.0 bs.1 bs.2) r
signs_of (module_part d) w r = module_on true d w r
signs_of (value_part d) t r = on true constant d t r
signs_of (size_part d) t r = on true constant d t r
signs_of (unit_part n d) t r = on true constant d t r
signs_of (kind_part d) t r = on true an_atom d t r
signs_of (flags_part d) t r = on true constant d t r
signs_of (flag_part d) t r = on true constant d t r
signs_of (flag_items_part d) ts r = row_on true true constant d (more ts.0 ts.1) r

-- whether something is there
abbrev pub there : {A : Type 0} → Option A → Bool
there None = false
there (Some x) = true

-- a count that fits a unit of one bit
abbrev pub is_size : Option ℕ → Bool
is_size None = false
is_size (Some n) = leb n 256

-- a unit for this size; nothing is asked for a size that is none
abbrev pub is_unit : ℕ → Option ℕ → Bool
is_unit n None = false
is_unit n (Some u) = not (leb n 256) || is_constant_size n u

-- flags, or one of them
abbrev pub flags_in : Option Term → Bool
flags_in None = false
flags_in (Some t) = are_flags t

abbrev pub flag_in : Option Term → Bool
flag_in None = false
flag_in (Some t) = is_flag t

abbrev pub all_flags : Row → Bool
all_flags none = true
all_flags (more t ts) = flag_in (constant_of false t) && all_flags ts

abbrev pub HeadRight : Head → Type 0
HeadRight (whole c) = ClauseStands c
HeadRight (part t) = Stands pattern t

-- where only a constant may stand, each segment has bits
abbrev pub has_bits : (strict : Bool) → Segment → Bool
has_bits false g = true
has_bits true g = there (bits_of false g)

abbrev pub all_bits : (strict : Bool) → Segments → Bool
all_bits b no_segment = true
all_bits b (and_segment g gs) = has_bits b g && all_bits b gs

-- where a binary is read as a constant
abbrev pub is_strict : Sort → Bool
is_strict expression = false
is_strict pattern = false
is_strict _ = true

-- the number that is there
abbrev pub count_or_none : Option ℕ → ℕ
count_or_none None = 0
count_or_none (Some n) = n

-- what is right for it
abbrev pub Right : (v : Part) → Value v → Type 0
Right (tree_part s d) t = Stands s t
Right (items_part s d) ts = Stands s ts.0 × RowStands s ts.1
Right (group_part d) g = GroupStands a_variable g
Right (pairs_part s d) ps = PairsStand s (pair ps.0 ps.1 ps.2 ps.3)
Right (segment_part s d) g = SegmentStands s g × (has_bits (is_strict s) g ≡ true)
Right (segments_part s d) gs =
    SegmentsStand s (and_segment gs.0 gs.1) × (all_bits (is_strict s) (and_segment gs.0 gs.1) ≡ true)
Right (head_part d) h = HeadRight h
Right (clause_part d) c = ClauseStands c
Right (clauses_part d) cs = ClauseStands cs.0 × ClausesStand cs.1
Right (definitions_part d) ds = DefinitionsStand (definition ds.0 ds.1 ds.2)
Right (attributes_part d) bs = AttributesStand (attribute bs.0 bs.1 bs.2)
Right (module_part d) w = IsModule w
Right (value_part d) t = Stands constant t × (there (integer_value t) ≡ true)
Right (size_part d) t = Stands constant t × (is_size (count_value t) ≡ true)
Right (unit_part n d) t = Stands constant t × (is_unit n (count_value t) ≡ true)
Right (kind_part d) t = Stands an_atom t × (is_integer_kind t ≡ true)
Right (flags_part d) t = Stands constant t × (flags_in (constant_of false t) ≡ true)
Right (flag_part d) t = Stands constant t × (flag_in (constant_of false t) ≡ true)
Right (flag_items_part d) ts = (Stands constant ts.0 × RowStands constant ts.1)
    × (all_flags (more ts.0 ts.1) ≡ true)

-- what may stand behind it
abbrev pub Free : List (TokenKind → Bool) → List Sign → Type 0
Free [] r = ⊤
Free (f ∷ fs) r = (front f r ≡ false) × Free fs r

abbrev pub tests_behind : Part → List (TokenKind → Bool)
tests_behind (tree_part s d) = is_slash ∷ equals_in (takes_alias s) ∷ []
tests_behind (items_part s d) = is_slash ∷ equals_in (takes_alias s) ∷ is_comma ∷ []
tests_behind (group_part d) = is_slash ∷ equals_in false ∷ []
tests_behind (pairs_part s d) = is_slash ∷ equals_in (takes_alias s) ∷ is_comma ∷ []
tests_behind (segment_part s d) = []
tests_behind (segments_part s d) = is_comma ∷ []
tests_behind (head_part d) = is_slash ∷ equals_in true ∷ is_when ∷ []
tests_behind (clause_part d) = is_slash ∷ equals_in true ∷ is_when ∷ []
tests_behind (clauses_part d) = is_slash ∷ equals_in true ∷ is_when ∷ opens ∷ []
tests_behind (definitions_part d) = is_slash ∷ equals_in false ∷ opens ∷ []
tests_behind (attributes_part d) = is_slash ∷ equals_in false ∷ is_comma ∷ []
tests_behind (flag_items_part d) = is_comma ∷ []
tests_behind _ = []

abbrev pub Follows : (v : Part) → List Sign → Type 0
Follows v r = Free (tests_behind v) r

-- A least one of each.

abbrev pub here : Place
here = record { line = 1; column = 1 }

-- []
abbrev pub nil : Tree
nil = list here none

-- A
abbrev pub some_variable : Tree
some_variable = variable here (codes "A")

abbrev pub zero_tree : Tree
zero_tree = number here false (pos 0)

abbrev pub unit_one : Tree
unit_one = number here false (pos 1)

abbrev pub least_tree : Sort → Tree
least_tree key = some_variable
least_tree segment_value = some_variable
least_tree a_variable = some_variable
least_tree a_name = function_name here [] 0
least_tree an_atom = atom here []
least_tree a_fun = fun here none nil
least_tree _ = nil

-- <> when [] -> []
abbrev pub least_clause : Clause
least_clause = clause (angled here none) nil nil

-- #< .. > ( .. )
abbrev pub integer_kind : Tree
integer_kind = atom here (codes "integer")

abbrev pub least_segment : Segment
least_segment = segment here zero_tree zero_tree unit_one integer_kind nil

abbrev pub the_flag : Tree
the_flag = atom here (codes "big")

abbrev pub exact_in : Sort → Bool
exact_in pattern = true
exact_in _ = false

abbrev pub least : (v : Part) → Value v
least (tree_part s d) = least_tree s
least (items_part s d) = (least_tree s, none)
least (group_part d) = single some_variable
least (pairs_part s d) = (least_tree (key_sort s), exact_in s, least_tree (item_sort s), no_pair)
least (segment_part s d) = least_segment
least (segments_part s d) = (least_segment, no_segment)
least (head_part d) = whole least_clause
least (clause_part d) = least_clause
least (clauses_part d) = (least_clause, no_clause)
least (definitions_part d) = (least_tree a_name, least_tree a_fun, no_definition)
least (attributes_part d) = (least_tree an_atom, nil, no_attribute)
least (module_part d) = plain_module (record { place = here; name = [] }) none no_attribute no_definition
least (value_part d) = zero_tree
least (size_part d) = zero_tree
least (unit_part n d) = unit_one
least (kind_part d) = integer_kind
least (flags_part d) = nil
least (flag_part d) = the_flag
least (flag_items_part d) = (the_flag, none)
