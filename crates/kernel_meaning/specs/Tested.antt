-- The sizes of tuples that a function in kernel form names, and how many tests and choices a body made of it has at
-- most (this project's own).
use Rattle.std.specs.Prelude.{ℕ, ◌+◌, List, [], ◌∷◌, sum, Bool, true, false, ◌&&◌, if◌then◌else◌}
use Rattle.erl_term.specs.Term as T
use Rattle.kernel_form.specs.Kernel.{bif, CaseShape, is, is_tuple, Seg, seg, bind, Segs, no_seg, and_seg, BinStep, start, integer, take_bits, done, mark, back, Expr, simple, Tree, switch, step, guarded, Case, case, Cases, no_case, and_case, SegRow, seg_row}
use Rattle.kernel_meaning.specs.Walks.{gathered, nothing}

-- Sizes: elements have numbers below them.

-- of a case
abbrev pub sizes_of : Case → List ℕ
sizes_of (case (is_tuple n) xs t) = n ∷ []
sizes_of _ = []

-- of an expression with all its nodes
abbrev pub sizes_named : Expr → List ℕ
sizes_named e = gathered nothing nothing sizes_of nothing e

-- Choices among literals.

-- an integer or an atom
abbrev pub is_choosable : CaseShape → Bool
is_choosable (is (T.int z)) = true
is_choosable (is (T.atom a)) = true
is_choosable _ = false

-- in each case
abbrev pub are_choosable : Cases → Bool
are_choosable no_case = true
are_choosable (and_case (case h xs t) cs) = is_choosable h && are_choosable cs

-- two literals or more: one step chooses, and none tests
abbrev pub is_choice : Cases → Bool
is_choice (and_case c (and_case d cs)) = are_choosable (and_case c (and_case d cs))
is_choice _ = false

-- of a tree alone: other shapes are told apart by a choice among their literals, and by one among sizes of tuples
abbrev pub tree_choices : Tree → ℕ
tree_choices (switch x cs t) = if is_choice cs then 1 else 2
tree_choices _ = 0

-- of an expression with all its nodes
abbrev pub choices_made : Expr → ℕ
choices_made e = sum (gathered nothing (λ t. tree_choices t ∷ []) nothing nothing e)

-- Tests.

-- two for each shape
abbrev pub shape_tests : Cases → ℕ
shape_tests no_case = 0
shape_tests (and_case c cs) = 2 + shape_tests cs

-- whether a segment can be taken, and whether it is the value that is wanted
abbrev pub seg_tests : Seg → ℕ
seg_tests (seg (bind x) v h) = 1
seg_tests _ = 2

-- of segments
abbrev pub segs_tests : Segs → ℕ
segs_tests no_seg = 0
segs_tests (and_seg s ss) = seg_tests s + segs_tests ss

-- of a step on bits
abbrev pub step_tests : BinStep → ℕ
step_tests (start x c) = 1
step_tests (integer c s) = seg_tests s
step_tests (take_bits c s) = seg_tests s
step_tests (done c) = 1
step_tests (mark c p) = 0
step_tests (back c p) = 0

-- the expressions in a guard, of which each may be what it gives
abbrev pub guard_values : Expr → ℕ
guard_values g = sum (gathered (λ e. 1 ∷ []) nothing nothing nothing g)

-- of a tree alone
abbrev pub tree_tests : Tree → ℕ
tree_tests (switch x cs t) = if is_choice cs then 0 else shape_tests cs
tree_tests (step z a b) = step_tests z
tree_tests (guarded g a b) = guard_values g
tree_tests _ = 0

-- of a row: its segments, and whether bits begin and end there
abbrev pub row_tests : SegRow → ℕ
row_tests (seg_row ss t) = 2 + segs_tests ss

-- of an expression alone: a listed function
abbrev pub expr_tests : Expr → ℕ
expr_tests (simple (bif b vs)) = 1
expr_tests _ = 0

-- of an expression with all its nodes
abbrev pub tests_made : Expr → ℕ
tests_made e = sum (gathered (λ x. expr_tests x ∷ []) (λ t. tree_tests t ∷ []) nothing (λ r. row_tests r ∷ []) e)
