-- How many variables a body sets beside those that its function in kernel form binds (this project's own): the values
-- of
-- steps that no let names, tests, tags of handlers, and a mark for each call that a let binds.
use Rattle.std.specs.Prelude.{ℕ, ◌+◌, [], ◌∷◌, length, sum}
use Rattle.kernel_form.specs.Kernel.{Seg, seg, bind, Segs, no_seg, and_seg, BinStep, start, integer, take_bits, done, mark, back, Expr, values, simple, let_in, match_in, try, catch, receive, Tree, step, Case, SegRow, seg_row}
use Rattle.kernel_meaning.specs.Walks.{gathered, call_at}

-- of a segment its size, its value and whether that is the one that is wanted, but for the variable that it binds
abbrev pub seg_wants : Seg → ℕ
seg_wants (seg (bind x) v h) = 2
seg_wants _ = 3

-- of segments
abbrev pub segs_want : Segs → ℕ
segs_want no_seg = 0
segs_want (and_seg s ss) = seg_wants s + segs_want ss

-- of a row its segments, and where they begin, where that is kept, and whether they end there
abbrev pub row_wants : SegRow → ℕ
row_wants (seg_row ss t) = 3 + segs_want ss

-- what is taken and whether it is the value that is wanted
abbrev pub taking_wants : Seg → ℕ
taking_wants (seg (bind x) v h) = 1
taking_wants _ = 2

-- of a step on bits
abbrev pub step_wants : BinStep → ℕ
step_wants (start x c) = 0
step_wants (integer c s) = taking_wants s
step_wants (take_bits c s) = taking_wants s
step_wants (done c) = 1
step_wants (mark c p) = 0
step_wants (back c p) = 0

-- of the other trees only what is in them
abbrev pub tree_wants : Tree → ℕ
tree_wants (step z a b) = step_wants z
tree_wants _ = 0

-- two tests for the shape
abbrev pub case_wants : Case → ℕ
case_wants c = 2

-- the value of a simple step; of a let the mark of its call; the value of a match; the tag of a handler, and what a
-- catch
-- gives; the wait of a receive
abbrev pub expr_wants : Expr → ℕ
expr_wants (values vs) = 0
expr_wants (simple s) = 1
expr_wants (let_in xs a b) = length (call_at (let_in xs a b))
expr_wants (match_in t) = 1
expr_wants (try a xs b ys c) = 1
expr_wants (catch a) = 2
expr_wants (receive n x t v b) = 1

-- of an expression with all its nodes
abbrev pub wanted : Expr → ℕ
wanted e = sum
    (gathered (λ x. expr_wants x ∷ []) (λ t. tree_wants t ∷ []) (λ c. case_wants c ∷ []) (λ r. row_wants r ∷ []) e)
