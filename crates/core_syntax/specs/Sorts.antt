-- The sorts of the grammar, as the stack has them.
use Rattle.std.specs.Prelude.{ℕ}
use Rattle.core_grammar.specs.Standing as G
use Rattle.core_syntax.specs.declared.sort.Sort.{Sort}
use Rattle.core_syntax.specs.declared.sort.Sort.TheVariants.{Expression, Pattern, Constant, Note, Key, SegmentValue, Variable, FunctionName, Atom, Fun}

-- the grammar's word for it
abbrev pub sort_of : Sort → G.Sort
sort_of Expression = G.expression
sort_of Pattern = G.pattern
sort_of Constant = G.constant
sort_of Note = G.note
sort_of Key = G.key
sort_of SegmentValue = G.segment_value
sort_of Variable = G.a_variable
sort_of FunctionName = G.a_name
sort_of Atom = G.an_atom
sort_of Fun = G.a_fun

-- in an annotation's brackets
abbrev pub inner : Sort → Sort
inner SegmentValue = Variable
inner s = s

-- the items of lists and tuples, and the values of pairs
abbrev pub of_items : Sort → Sort
of_items Expression = Expression
of_items Pattern = Pattern
of_items _ = Constant

-- the keys of pairs, and the sizes of segments
abbrev pub of_keys : Sort → Sort
of_keys Expression = Expression
of_keys Pattern = Key
of_keys _ = Constant

-- the values of segments
abbrev pub of_values : Sort → Sort
of_values Expression = Expression
of_values Pattern = SegmentValue
of_values _ = Constant

-- what an atom and an integer count
abbrev pub leaf_weight : Sort → ℕ
leaf_weight SegmentValue = 0
leaf_weight Variable = 0
leaf_weight FunctionName = 0
leaf_weight Atom = 0
leaf_weight _ = 1

-- what a variable and a bracket count at least: in a key nothing
abbrev pub open_weight : Sort → ℕ
open_weight Key = 0
open_weight s = leaf_weight s
