-- Small bodies with spots and with frames, run.
use Rattle.std.proofs.Common.{◌≡◌, ℕ, List, [], ◌∷◌, true, false, Some, None, refl, codes}
use Rattle.erl_term.specs.Term as T
use Rattle.erl_term.specs.Term.{Term}
use Rattle.bif_table.specs.Builtins as B
use Rattle.ssa_form.specs.Ssa.{var, copy, bif, tuple, call_local, try_start, try_end, landing, FrameAction, allocate, deallocate, kill, trim, set, succeeded, ret, Body}
use Rattle.ssa_form.specs.Spots.{x_reg, y_slot, Spots}
use Rattle.ssa_form.specs.Storage.{Ended}
use Rattle.ssa_form.specs.PlacedRun.{placed_run}
use Rattle.ssa_form.specs.FramedRun.{framed_run}
use Rattle.ssa_form.specs.FrameActions.{blocks_act}
use Rattle.ssa_form.proofs.Bodies.{A, I, tup, to, plain_block, acting, ending, body_of, ok, placed, framed, outcome, gives_term, receive_loop, branch, calls_once}

one_spot_for_two : outcome (placed branch ((0, x_reg 0) ∷ (1, x_reg 0) ∷ []) (I 2 ∷ []) []) ≡ gives_term (I 2)
unfolding placed_run
one_spot_for_two = refl

abbrev across_in_slot : Spots
across_in_slot = (0, y_slot 0) ∷ (1, x_reg 0) ∷ (2, x_reg 0) ∷ []

value_across_a_call : outcome (placed calls_once across_in_slot (I 4 ∷ []) [])
    ≡ gives_term (tup (tup (I 4 ∷ []) ∷ I 4 ∷ []))
unfolding placed_run
value_across_a_call = refl

-- a call unsets the X registers
live_value_in_a_register : placed calls_once ((0, x_reg 1) ∷ (1, x_reg 0) ∷ (2, x_reg 0) ∷ []) (I 4 ∷ []) [] ≡ Ended.bad
unfolding placed_run
live_value_in_a_register = refl

-- a message is looked at in an X register
message_in_a_slot : placed receive_loop ((0, y_slot 0) ∷ (1, y_slot 1) ∷ (2, x_reg 0) ∷ []) (I 0 ∷ [])
    (ok (I 1 ∷ []) ∷ []) ≡ Ended.bad
unfolding placed_run
message_in_a_slot = refl

-- With frames.

-- the frame is there from the start, and goes where the body ends
frame_around_a_call : outcome (framed calls_once across_in_slot ((0, 1) ∷ []) (I 4 ∷ []) [])
    ≡ gives_term (tup (tup (I 4 ∷ []) ∷ I 4 ∷ []))
unfolding framed_run
frame_around_a_call = refl

-- it goes behind the last read: a value in a slot is given back, and handed on by a call that ends the body
abbrev in_slot : Spots
in_slot = (0, y_slot 0) ∷ (1, x_reg 0) ∷ []

abbrev one_slot : List (ℕ × ℕ)
one_slot = (0, 1) ∷ []

abbrev given_back : Body
given_back = body_of (0 ∷ []) (plain_block [] (ret (var 0)) ∷ [])

slot_given_back : outcome (framed given_back in_slot one_slot (I 4 ∷ []) []) ≡ gives_term (I 4)
unfolding framed_run
slot_given_back = refl

abbrev handed_on : List FrameAction → Body
handed_on before = body_of (0 ∷ [])
    (plain_block (acting before (set (Some 1) (call_local 0) (var 0 ∷ [])) ∷ []) (ret (var 1)) ∷ [])

slot_handed_on : outcome (framed (handed_on []) in_slot one_slot (I 4 ∷ []) []) ≡ gives_term (tup (I 4 ∷ []))
unfolding framed_run
slot_handed_on = refl

-- an action of its own would drop it too early
frame_dropped_before : framed (handed_on (deallocate 1 ∷ [])) in_slot one_slot (I 4 ∷ []) [] ≡ Ended.bad
unfolding framed_run
frame_dropped_before = refl

-- a handler that is open where the body ends
abbrev left_open : Body
left_open = body_of (0 ∷ [])
    (plain_block (set (Some 1) try_start [] ∷ []) (succeeded 1 1 2) ∷ plain_block [] (ret (var 0)) ∷ [])

tag_left_in_the_frame : framed left_open ((0, x_reg 0) ∷ (1, y_slot 0) ∷ []) ((0, 1) ∷ (1, 1) ∷ []) (I 4 ∷ []) []
    ≡ Ended.bad
unfolding framed_run
tag_left_in_the_frame = refl

-- where actions stand
no_action_before_the_call : blocks_act (handed_on []).blocks ≡ true
no_action_before_the_call = refl

action_before_a_call_that_ends : blocks_act (handed_on (deallocate 1 ∷ [])).blocks ≡ false
action_before_a_call_that_ends = refl

action_before_a_value : blocks_act (ending [] (deallocate 1 ∷ []) (ret (var 0)) ∷ []) ≡ false
action_before_a_value = refl

action_before_a_test : blocks_act (ending (set (Some 1) (bif B.Hd) (var 0 ∷ []) ∷ []) (trim 1 ∷ []) (succeeded 1 1 2) ∷
    [])
    ≡ false
action_before_a_test = refl

call_without_a_frame : framed calls_once ((0, x_reg 1) ∷ (1, x_reg 0) ∷ (2, x_reg 0) ∷ []) [] (I 4 ∷ []) [] ≡ Ended.bad
unfolding framed_run
call_without_a_frame = refl

-- the frame comes with the first set that needs it, and shrinks behind the last use of its lowest slot
abbrev late_call : Body
late_call = body_of (0 ∷ []) (
    plain_block (acting (allocate 2 ∷ kill 1 ∷ []) (set (Some 3) copy (var 0 ∷ []))
    ∷ set (Some 1) (call_local 0) (var 0 ∷ [])
    ∷ set (Some 2) tuple (var 1 ∷ var 3 ∷ [])
    ∷ acting (trim 1 ∷ []) (set (Some 4) copy (var 2 ∷ []))
    ∷ set (Some 5) (call_local 0) (var 2 ∷ [])
    ∷ set (Some 6) tuple (var 5 ∷ var 4 ∷ []) ∷ []) (ret (var 6)) ∷ [])

abbrev late_spots : Spots
late_spots = (0, x_reg 0) ∷ (3, y_slot 0) ∷ (1, x_reg 0) ∷ (2, x_reg 0) ∷ (4, y_slot 1) ∷ (5, x_reg 0)
    ∷ (6, x_reg 0) ∷ []

late_and_trimmed_frame : outcome (framed late_call late_spots [] (I 4 ∷ []) [])
    ≡ gives_term (tup (tup (tup (tup (I 4 ∷ []) ∷ I 4 ∷ []) ∷ []) ∷ tup (tup (I 4 ∷ []) ∷ I 4 ∷ []) ∷ []))
unfolding framed_run
late_and_trimmed_frame = refl

late_actions_stand : blocks_act late_call.blocks ≡ true
late_actions_stand = refl

-- a slot that was not set where the run may collect
abbrev unset_slot : Body
unset_slot = body_of (0 ∷ []) (
    plain_block (acting (allocate 1 ∷ []) (set (Some 1) tuple (var 0 ∷ [])) ∷ []) (ret (var 1)) ∷ [])

slot_is_not_set : framed unset_slot ((0, x_reg 0) ∷ (1, x_reg 0) ∷ (2, y_slot 0) ∷ []) [] (I 4 ∷ []) [] ≡ Ended.bad
unfolding framed_run
slot_is_not_set = refl

-- Handlers.

abbrev nested : Body
nested = body_of (0 ∷ []) (
    plain_block (set (Some 1) try_start [] ∷ []) (succeeded 1 1 2)
    ∷ plain_block (set (Some 2) try_start [] ∷ []) (succeeded 2 3 4)
    ∷ plain_block (set (Some 3) landing (var 1 ∷ []) ∷ set None landing (var 1 ∷ []) ∷ set None landing (var 1 ∷ [])
    ∷ []) (ret (A (codes "outer")))
    ∷ plain_block (set (Some 4) (bif B.Hd) (var 0 ∷ []) ∷ []) (to 2)
    ∷ plain_block (set (Some 5) landing (var 2 ∷ []) ∷ set (Some 6) landing (var 2 ∷ []) ∷ set None landing (var 2 ∷ [])
    ∷ set None try_end (var 1 ∷ []) ∷ []) (ret (var 6))
    ∷ [])

abbrev nested_sizes : List (ℕ × ℕ)
nested_sizes = (0, 2) ∷ (1, 2) ∷ (2, 2) ∷ (3, 2) ∷ (4, 2) ∷ []

abbrev nested_spots : ℕ → ℕ → Spots
nested_spots n m = (0, x_reg 0) ∷ (1, y_slot n) ∷ (2, y_slot m) ∷ (3, x_reg 0) ∷ (4, x_reg 0) ∷ (5, x_reg 0)
    ∷ (6, x_reg 1) ∷ []

inner_handler_takes_it : outcome (framed nested (nested_spots 1 0) nested_sizes (T.nil ∷ []) [])
    ≡ gives_term (T.atom (codes "badarg"))
unfolding framed_run
inner_handler_takes_it = refl

inner_handler_in_a_higher_slot : framed nested (nested_spots 0 1) nested_sizes (T.nil ∷ []) [] ≡ Ended.bad
unfolding framed_run
inner_handler_in_a_higher_slot = refl

inner_tag_placed_higher : placed nested (nested_spots 0 1) (T.nil ∷ []) [] ≡ Ended.bad
unfolding placed_run
inner_tag_placed_higher = refl
