-- With what parts begin.
use Rattle.std.proofs.Common.{refl, ℕ, suc, List, true}
use Rattle.core_grammar.specs.WrittenTree.{Tree, alias, Segment, segment, noted_segment, Clause, clause, noted_clause, single, angled}
use Rattle.core_grammar.specs.Standing.{Sort, pattern, a_variable}
use Rattle.core_grammar.specs.Signs.{Sign, on, segment_on, clause_on}
use Rattle.core_build.proofs.Leads.{Begins}

pub tree_begins : (s : Sort) (d : ℕ) (t : Tree) → Begins (on true s d t)
tree_begins s d (alias x t) = record { opens_it = λ r. (tree_begins a_variable (suc d) x).opens_it _ }
tree_begins s d _ = record { opens_it = λ r. refl }

pub segment_begins : (s : Sort) (d : ℕ) (g : Segment) → Begins (segment_on true s d g)
segment_begins s d (segment p t u n k f) = record { opens_it = λ r. refl }
segment_begins s d (noted_segment g n) = record { opens_it = λ r. refl }

pub clause_begins : (d : ℕ) (c : Clause) → Begins (clause_on true d c)
clause_begins d (clause (single t) u v) = record { opens_it = λ r. (tree_begins pattern (suc d) t).opens_it _ }
clause_begins d (clause (angled p ts) u v) = record { opens_it = λ r. refl }
clause_begins d (noted_clause c n) = record { opens_it = λ r. refl }

-- whatever is behind it
pub begins_on : {f g : List Sign → List Sign} → Begins f → Begins (λ r. f (g r))
begins_on F = record { opens_it = λ r. F.opens_it _ }
