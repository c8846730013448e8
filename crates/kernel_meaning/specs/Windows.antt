-- How many variables the blocks of a receive set from when a message is found until it is taken or passed over (this
-- project's own): what its patterns and guards bind, and the answers of their tests. Bodies come after.
use Rattle.std.specs.Prelude.{ℕ, ◌+◌, [], ◌∷◌, length, sum, Bool, true, leb}
use Rattle.kernel_form.specs.Kernel.{Segs, no_seg, and_seg, BinStep, start, integer, take_bits, done, mark, back, Expr, values, simple, let_in, match_in, try, catch, receive, Tree, body, fall, either_in, switch, segments, step, guarded, Case, case, Cases, no_case, and_case, SegRow, seg_row, SegRows, no_row, and_row}
use Rattle.kernel_meaning.specs.Walks.{gathered}

-- a context or a position, or what is taken and whether it is the value that is wanted
abbrev pub step_sets : BinStep → ℕ
step_sets (start x c) = 1
step_sets (integer c s) = 2
step_sets (take_bits c s) = 2
step_sets (done c) = 1
step_sets (mark c p) = 1
step_sets (back c p) = 0

-- of a segment its size, its value, and whether that is the value that is wanted
abbrev pub segs_set : Segs → ℕ
segs_set no_seg = 0
segs_set (and_seg s ss) = 3 + segs_set ss

-- two tests for the shape, and its parts
abbrev pub case_sets : Case → ℕ
case_sets (case h xs t) = 2 + length xs

-- of a row its segments
abbrev pub row_sets : SegRow → ℕ
row_sets (seg_row ss t) = segs_set ss

-- in a guard: the value of each simple step, what a let or a match binds, and the tag and the values of a handler
abbrev pub expr_sets : Expr → ℕ
expr_sets (values vs) = 0
expr_sets (simple s) = 1
expr_sets (let_in xs a b) = length xs
expr_sets (match_in t) = 1
expr_sets (try a xs b ys c) = 1 + length xs + length ys
expr_sets (catch a) = 2
expr_sets (receive n x t v b) = 1

-- of the other trees only what is in them
abbrev pub tree_sets : Tree → ℕ
tree_sets (step z a b) = step_sets z
tree_sets _ = 0

-- all nodes of a guard
abbrev pub guard_sets : Expr → ℕ
guard_sets g =
    sum (gathered (λ e. expr_sets e ∷ []) (λ t. tree_sets t ∷ []) (λ c. case_sets c ∷ []) (λ r. row_sets r ∷ []) g)

abbrev mutual
  pub window : Tree → ℕ
  window (body e) = 0
  window (fall k) = 0
  window (either_in k a b) = window a + window b
  window (switch x cs t) = cases_window cs + window t
  window (segments x rs t) = rows_window rs + window t
  window (step z a b) = step_sets z + window a + window b
  window (guarded g a b) = guard_sets g + window a + window b

  pub cases_window : Cases → ℕ
  cases_window no_case = 0
  cases_window (and_case (case h xs t) cs) = case_sets (case h xs t) + window t + cases_window cs

  pub rows_window : SegRows → ℕ
  rows_window no_row = 0
  rows_window (and_row (seg_row ss t) rs) = row_sets (seg_row ss t) + window t + rows_window rs

-- the most that they may be: the patterns and guards of a receive have at most 340 nodes with three variables each, and
-- there is the message; the machine has registers for 1,022
abbrev pub most_in_window : ℕ
most_in_window = 1021

-- of a node: a receive's message and what its tree sets
abbrev pub window_fits : Expr → Bool
window_fits (receive n x t v b) = leb (1 + window t) most_in_window
window_fits _ = true
