-- Each part begins with a token, behind at most three parts in it.
use Rattle.std.proofs.Common.{ℕ}
use Rattle.core_grammar.specs.Standing.{Sort, key, key_sort}
use Rattle.core_texts.proofs.Parts.{Part, tree_part, items_part, group_part, pairs_part, segment_part, segments_part, head_part, clause_part, clauses_part, definitions_part, attributes_part, module_part, value_part, size_part, unit_part, kind_part, flags_part, flag_part, flag_items_part}
use Rattle.core_texts.proofs.Bodies.{body}
use Rattle.core_texts.proofs.Complete.{QuickPart}

third : (s : Sort) (d : ℕ) → QuickPart body 3 (tree_part s d)
third key d = (tt, tt)
third _ d = tt

fourth : (s : Sort) (d : ℕ) → QuickPart body 4 (tree_part s d)
fourth key d = (tt, tt)
fourth _ d = tt

pub quick : (v : Part) → QuickPart body 4 v
quick (tree_part s d) = fourth s d
quick (items_part s d) = third s d
quick (group_part d) = (tt, tt)
quick (pairs_part s d) = third (key_sort s) d
quick (segment_part s d) = (tt, tt)
quick (segments_part s d) = (tt, tt)
quick (head_part d) = (tt, (tt, tt))
quick (clause_part d) = (tt, (tt, tt))
quick (clauses_part d) = (tt, (tt, tt))
quick (definitions_part d) = tt
quick (attributes_part d) = tt
quick (module_part d) = (tt, tt)
quick (value_part d) = tt
quick (size_part d) = tt
quick (unit_part m d) = tt
quick (kind_part d) = tt
quick (flags_part d) = tt
quick (flag_part d) = tt
quick (flag_items_part d) = tt
