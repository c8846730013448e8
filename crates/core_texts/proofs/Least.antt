-- The least ones are right.
use Rattle.std.proofs.Common.{arith, ◌≡◌, refl, ℕ, ◌*◌, leb, Bool, true, false, not, ◌||◌, ◌&&◌}
use Rattle.std.proofs.lemmas.Bool.{leb-true, le-leb}
use Rattle.core_grammar.specs.Standing.{Sort, expression, pattern, constant, note, key, segment_value, a_variable, a_name, an_atom, a_fun, item_sort, key_sort, takes_pair, Stands, SegmentStands}
use Rattle.core_grammar.specs.ConstantTerms.{is_constant_size}
use Rattle.core_texts.proofs.Parts.{Part, tree_part, items_part, group_part, pairs_part, segment_part, segments_part, head_part, clause_part, clauses_part, definitions_part, attributes_part, module_part, value_part, size_part, unit_part, kind_part, flags_part, flag_part, flag_items_part, Right, least, least_tree, least_segment, exact_in, is_strict, has_bits}

tree_right : (s : Sort) → Stands s (least_tree s)
tree_right expression = (refl, tt)
tree_right pattern = (refl, tt)
tree_right constant = (refl, tt)
tree_right note = (refl, tt)
tree_right key = (refl, refl)
tree_right segment_value = (refl, refl)
tree_right a_variable = (refl, refl)
tree_right a_name = (refl, refl)
tree_right an_atom = refl
tree_right a_fun = (refl, tt, (refl, tt))

exact_right : (s : Sort) → takes_pair s (exact_in s) ≡ true
exact_right expression = refl
exact_right pattern = refl
exact_right _ = refl

segment_right : (s : Sort) → SegmentStands s least_segment
segment_right expression = ((refl, refl), (refl, refl), (refl, refl), refl, (refl, tt))
segment_right pattern = ((refl, refl), (refl, refl), (refl, refl), refl, (refl, tt))
segment_right _ = ((refl, refl), (refl, refl), (refl, refl), refl, (refl, tt))

bits_right : (b : Bool) → has_bits b least_segment ≡ true
bits_right true = refl
bits_right false = refl

all_bits_right : (b : Bool) → (has_bits b least_segment && true) ≡ true
all_bits_right true = refl
all_bits_right false = refl

small_unit : (n : ℕ) (b : Bool) → leb n 256 ≡ b → (not b || is_constant_size n 1) ≡ true
small_unit n false e = refl
small_unit n true e = le-leb (n * 1) 256 (omega (arith, leb-true n 256 e))

pub least_right : (v : Part) → Right v (least v)
least_right (tree_part s d) = tree_right s
least_right (items_part s d) = (tree_right s, tt)
least_right (group_part d) = (refl, refl)
least_right (pairs_part s d) = (tree_right (key_sort s), exact_right s, tree_right (item_sort s), tt)
least_right (segment_part s d) = (segment_right s, bits_right (is_strict s))
least_right (segments_part s d) = ((segment_right s, tt), all_bits_right (is_strict s))
least_right (head_part d) = (tt, (refl, tt), (refl, tt))
least_right (clause_part d) = (tt, (refl, tt), (refl, tt))
least_right (clauses_part d) = ((tt, (refl, tt), (refl, tt)), tt)
least_right (definitions_part d) = (tree_right a_name, tree_right a_fun, tt)
least_right (attributes_part d) = (refl, (refl, tt), tt)
least_right (module_part d) = (tt, tt, tt)
least_right (value_part d) = ((refl, refl), refl)
least_right (size_part d) = ((refl, refl), refl)
least_right (unit_part n d) = ((refl, refl), small_unit n (leb n 256) refl)
least_right (kind_part d) = (refl, refl)
least_right (flags_part d) = ((refl, tt), refl)
least_right (flag_part d) = (refl, refl)
least_right (flag_items_part d) = ((refl, tt), refl)
