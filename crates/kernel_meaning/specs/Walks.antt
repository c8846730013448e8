-- What stands in a body, collected in the order of its nodes.
use Rattle.std.specs.Prelude.{ℕ, List, [], ◌∷◌, ◌++◌}
use Rattle.kernel_form.specs.Kernel.{remote, bind, Seg, seg, Segs, no_seg, and_seg, BinStep, start, integer, take_bits, done, mark, back, Expr, values, simple, let_in, match_in, try, catch, receive, Tree, body, fall, either_in, switch, segments, step, guarded, Case, case, Cases, no_case, and_case, SegRow, seg_row, SegRows, no_row, and_row}

-- what each node has of its own, a node before those in it
module _ {A : Type 0}
    (at : Expr → List A) (at_tree : Tree → List A) (at_case : Case → List A) (at_row : SegRow → List A) where
  abbrev mutual
    pub gathered : Expr → List A
    gathered (values vs) = at (values vs)
    gathered (simple s) = at (simple s)
    gathered (let_in xs a b) = at (let_in xs a b) ++ gathered a ++ gathered b
    gathered (match_in t) = at (match_in t) ++ gathered_tree t
    gathered (try a xs b ys c) = at (try a xs b ys c) ++ gathered a ++ gathered b ++ gathered c
    gathered (catch a) = at (catch a) ++ gathered a
    gathered (receive n x t v b) = at (receive n x t v b) ++ gathered_tree t ++ gathered b

    pub gathered_tree : Tree → List A
    gathered_tree (body e) = at_tree (body e) ++ gathered e
    gathered_tree (fall k) = at_tree (fall k)
    gathered_tree (either_in k a b) = at_tree (either_in k a b) ++ gathered_tree a ++ gathered_tree b
    gathered_tree (switch x cs t) = at_tree (switch x cs t) ++ gathered_cases cs ++ gathered_tree t
    gathered_tree (segments x rs t) = at_tree (segments x rs t) ++ gathered_rows rs ++ gathered_tree t
    gathered_tree (step z a b) = at_tree (step z a b) ++ gathered_tree a ++ gathered_tree b
    gathered_tree (guarded g a b) = at_tree (guarded g a b) ++ gathered g ++ gathered_tree a ++ gathered_tree b

    pub gathered_cases : Cases → List A
    gathered_cases no_case = []
    gathered_cases (and_case (case h xs t) cs) = at_case (case h xs t) ++ gathered_tree t ++ gathered_cases cs

    pub gathered_rows : SegRows → List A
    gathered_rows no_row = []
    gathered_rows (and_row (seg_row ss t) rs) = at_row (seg_row ss t) ++ gathered_tree t ++ gathered_rows rs

-- of no node
abbrev pub nothing : {A B : Type 0} → A → List B
nothing a = []

-- The variables that are bound, contexts and positions too.

-- by a segment
abbrev pub bound_by_seg : Seg → List ℕ
bound_by_seg (seg (bind x) v h) = x ∷ []
bound_by_seg _ = []

-- by segments
abbrev pub bound_by_segs : Segs → List ℕ
bound_by_segs no_seg = []
bound_by_segs (and_seg s ss) = bound_by_seg s ++ bound_by_segs ss

-- by a step on bits
abbrev pub bound_by_step : BinStep → List ℕ
bound_by_step (start x c) = c ∷ []
bound_by_step (integer c s) = bound_by_seg s
bound_by_step (take_bits c s) = bound_by_seg s
bound_by_step (done c) = []
bound_by_step (mark c p) = p ∷ []
bound_by_step (back c p) = []

-- by an expression alone
abbrev pub bound_at : Expr → List ℕ
bound_at (let_in xs a b) = xs
bound_at (try a xs b ys c) = xs ++ ys
bound_at (receive n x t v b) = x ∷ []
bound_at _ = []

-- by a tree alone
abbrev pub bound_at_tree : Tree → List ℕ
bound_at_tree (step z a b) = bound_by_step z
bound_at_tree _ = []

-- by a case
abbrev pub bound_at_case : Case → List ℕ
bound_at_case (case h xs t) = xs

-- by a row
abbrev pub bound_at_row : SegRow → List ℕ
bound_at_row (seg_row ss t) = bound_by_segs ss

-- by a whole expression
abbrev pub binders : Expr → List ℕ
binders e = gathered bound_at bound_at_tree bound_at_case bound_at_row e

-- Receives by their numbers, and the variables that lets bind to calls of other modules' functions.

-- the number of a receive
abbrev pub number_at : Expr → List ℕ
number_at (receive n x t v b) = n ∷ []
number_at _ = []

-- the variable of a let-bound call
abbrev pub call_at : Expr → List ℕ
call_at (let_in (x ∷ []) (simple (remote m f vs)) b) = x ∷ []
call_at _ = []

-- the receives of an expression
abbrev pub receives : Expr → List ℕ
receives e = gathered number_at nothing nothing nothing e

-- the let-bound calls of an expression
abbrev pub let_calls : Expr → List ℕ
let_calls e = gathered call_at nothing nothing nothing e
