-- The literals of a function in kernel form, and how many arguments its calls have.
use Rattle.std.specs.Prelude.{ℕ, List, [], ◌∷◌, ◌++◌, length}
use Rattle.erl_term.specs.Term.{Term}
use Rattle.kernel_form.specs.Kernel.{Value, var, lit, MapPair, Part, Simple, value, cons, tuple, map_put, bits, make_fun, bif, local, apply, remote, send, trace, raise, failing, known, Seg, seg, Segs, no_seg, and_seg, is, map_has, BinStep, integer, take_bits, Expr, values, simple, receive, Tree, step, Case, case, SegRow, seg_row}
use Rattle.kernel_meaning.specs.Walks.{gathered, nothing}

-- of values
abbrev pub lits : List Value → List Term
lits [] = []
lits (var x ∷ vs) = lits vs
lits (lit t ∷ vs) = t ∷ lits vs

-- of the pairs of a map
abbrev pub pair_lits : List MapPair → List Term
pair_lits [] = []
pair_lits (p ∷ ps) = lits (p.key ∷ p.value ∷ []) ++ pair_lits ps

-- of the segments of a new bit string
abbrev pub part_lits : List Part → List Term
part_lits [] = []
part_lits (p ∷ ps) = lits (p.value ∷ p.size ∷ []) ++ part_lits ps

-- of a simple step
abbrev pub simple_lits : Simple → List Term
simple_lits (value v) = lits (v ∷ [])
simple_lits (cons v u) = lits (v ∷ u ∷ [])
simple_lits (tuple vs) = lits vs
simple_lits (map_put v ps) = lits (v ∷ []) ++ pair_lits ps
simple_lits (bits ps) = part_lits ps
simple_lits (make_fun n vs) = lits vs
simple_lits (bif b vs) = lits vs
simple_lits (local n vs) = lits vs
simple_lits (apply v vs) = lits (v ∷ vs)
simple_lits (remote m f vs) = lits (m ∷ f ∷ vs)
simple_lits (send v u) = lits (v ∷ u ∷ [])
simple_lits trace = []
simple_lits (raise v r) = lits (v ∷ r ∷ [])
simple_lits (failing v) = lits (v ∷ [])

-- of a segment
abbrev pub seg_lits : Seg → List Term
seg_lits (seg (known t) v h) = t ∷ lits (v ∷ [])
seg_lits (seg q v h) = lits (v ∷ [])

-- of segments
abbrev pub segs_lits : Segs → List Term
segs_lits no_seg = []
segs_lits (and_seg s ss) = seg_lits s ++ segs_lits ss

-- of a step on bits
abbrev pub step_lits : BinStep → List Term
step_lits (integer c s) = seg_lits s
step_lits (take_bits c s) = seg_lits s
step_lits _ = []

-- of an expression alone
abbrev pub expr_lits : Expr → List Term
expr_lits (values vs) = lits vs
expr_lits (simple s) = simple_lits s
expr_lits (receive n x t v b) = lits (v ∷ [])
expr_lits _ = []

-- of a tree alone
abbrev pub tree_lits : Tree → List Term
tree_lits (step z a b) = step_lits z
tree_lits _ = []

-- of a case
abbrev pub case_lits : Case → List Term
case_lits (case (is t) xs u) = t ∷ []
case_lits (case (map_has v) xs u) = lits (v ∷ [])
case_lits _ = []

-- of a row
abbrev pub row_lits : SegRow → List Term
row_lits (seg_row ss t) = segs_lits ss

-- of an expression with all its nodes
abbrev pub literals : Expr → List Term
literals e = gathered expr_lits tree_lits case_lits row_lits e

-- the arguments of a call; an error is raised by one
abbrev pub arguments_at : Expr → List ℕ
arguments_at (simple (local n vs)) = length vs ∷ []
arguments_at (simple (apply v vs)) = length vs ∷ []
arguments_at (simple (remote m f vs)) = length vs ∷ []
arguments_at (simple (failing v)) = 1 ∷ []
arguments_at _ = []

-- of all calls
abbrev pub argument_counts : Expr → List ℕ
argument_counts e = gathered arguments_at nothing nothing nothing e
