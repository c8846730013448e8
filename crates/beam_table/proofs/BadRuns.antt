-- Runs that meet a rule which isn't kept.
use Rattle.std.proofs.Common.{[], ◌∷◌, Some, None, false, refl, codes}
use Rattle.erl_term.specs.Term as T
use Rattle.erl_term.specs.Term.{Term}
use Rattle.bif_table.specs.Builtins as L
use Rattle.beam_table.proofs.Examples.{I, tup, x0, x1, x2, x3, y0, r, i, ext, erl, BadAfter}
use Rattle.beam_table.specs.Code.{label, gc_bif, move, swap, init_yregs, allocate, deallocate, trim, test_heap, return, put_list, make_fun3, put_map_assoc, get_hd, get_tuple_element, test_arity, has_map_fields, jump, call, call_only, call_ext, call_ext_only, send, build_stacktrace, try, catch, try_end, try_case, catch_end, loop_rec, remove_message, loop_rec_end, wait, wait_timeout, timeout, recv_marker_bind, recv_marker_use, bs_start_match4, bs_get_integer2, bs_get_tail}
use Rattle.beam_table.specs.MachineRun.{asm_run}

reads : BadAfter 0 (move (r x3) x0 ∷ return ∷ []) [] []
    × BadAfter 0 (move (r y0) x0 ∷ return ∷ []) [] []
    × BadAfter 1 (allocate 1 0 ∷ move (r y0) x0 ∷ deallocate 1 ∷ return ∷ []) [] []
    × BadAfter 2 (allocate 1 1 ∷ init_yregs (0 ∷ []) ∷ move (r y0) x0 ∷ deallocate 1 ∷ return ∷ []) (I 1 ∷ []) []
    × BadAfter 1 (bs_start_match4 None 1 (r x0) x0 ∷ return ∷ []) (T.bits [] ∷ []) []
unfolding asm_run
reads = ((refl, refl), (refl, refl), (refl, refl), (refl, refl), (refl, refl))

-- going past the last instruction
past_end : BadAfter 1 (move (i 1) x0 ∷ []) [] []
    × BadAfter 0 [] [] []
    × BadAfter 1 (move (i 1) x0 ∷ label 3 ∷ []) [] []
unfolding asm_run
past_end = ((refl, refl), (refl, refl), (refl, refl))

-- collecting: a hole below Live, a slot that was never set, a register above Live
collecting : BadAfter 1 (move (i 1) x1 ∷ test_heap 0 2 ∷ return ∷ []) [] []
    × BadAfter 1 (allocate 1 1 ∷ test_heap 0 1 ∷ deallocate 1 ∷ return ∷ []) (I 1 ∷ []) []
    × BadAfter 1 (test_heap 0 1 ∷ move (r x1) x0 ∷ return ∷ []) (I 1 ∷ I 2 ∷ []) []
    × BadAfter 0 (put_map_assoc (r x0) x0 1 ((i 1, r x1) ∷ []) ∷ return ∷ []) (T.map T.no_pair ∷ I 2 ∷ []) []
unfolding asm_run
collecting = ((refl, refl), (refl, refl), (refl, refl), (refl, refl))

-- room, also after another build
building : BadAfter 0 (put_list (r x0) (r x0) x0 ∷ return ∷ []) (I 1 ∷ []) []
    × BadAfter 2 (test_heap 3 1 ∷ put_list (r x0) (r x0) x0 ∷ put_list (r x0) (r x0) x0 ∷ return ∷ []) (I 1 ∷ []) []
unfolding asm_run
building = ((refl, refl), (refl, refl))

-- frames
framing : BadAfter 1 (allocate 1 0 ∷ allocate 1 0 ∷ []) [] []
    × BadAfter 1 (allocate 1 1 ∷ deallocate 2 ∷ return ∷ []) (I 1 ∷ []) []
    × BadAfter 1 (allocate 1 1 ∷ return ∷ []) (I 1 ∷ []) []
    × BadAfter 1 (allocate 2 1 ∷ trim 1 2 ∷ []) (I 1 ∷ []) []
    × BadAfter 0 (call 0 2 ∷ return ∷ []) [] []
    × BadAfter 1 (allocate 0 0 ∷ call_only 0 2 ∷ []) [] []
    × BadAfter 0 (call_ext 0 (ext (codes "m") (codes "f") 0) ∷ return ∷ []) [] []
unfolding asm_run
framing = ((refl, refl), (refl, refl), (refl, refl), (refl, refl), (refl, refl), (refl, refl), (refl, refl))

-- another arity; a label that is no entry; a fun of another function
calling : BadAfter 0 (call_only 1 2 ∷ []) (I 1 ∷ I 2 ∷ []) []
    × BadAfter 0 (call_only 1 1 ∷ []) (I 1 ∷ []) []
    × BadAfter 1 (test_heap 9 1 ∷ make_fun3 2 1 x0 [] ∷ return ∷ []) (I 1 ∷ []) []
unfolding asm_run
calling = ((refl, refl), (refl, refl), (refl, refl))

-- tags: written over, ended out of order, left in the frame, put below another one
tags : BadAfter 2 (allocate 1 1 ∷ try 0 3 ∷ move (r x0) y0 ∷ label 3 ∷ try_case 0 ∷ []) (I 1 ∷ []) []
    × BadAfter 3 (allocate 2 1 ∷ try 1 3 ∷ try 0 3 ∷ try_end 1 ∷ label 3 ∷ try_case 0 ∷ []) (I 1 ∷ []) []
    × BadAfter 2 (allocate 1 1 ∷ try 0 3 ∷ deallocate 1 ∷ return ∷ label 3 ∷ try_case 0 ∷ []) (I 1 ∷ []) []
    × BadAfter 2 (allocate 2 1 ∷ try 0 3 ∷ try 1 3 ∷ label 3 ∷ try_case 0 ∷ []) (I 1 ∷ []) []
unfolding asm_run
tags = ((refl, refl), (refl, refl), (refl, refl), (refl, refl))

-- landing: only `try_case` at the tag's slot, and it only so
landing : BadAfter 3 (allocate 1 1 ∷ try 0 3 ∷ call_ext 1 (erl (codes "exit") 1) ∷ label 3 ∷ move (r x1) x0 ∷ [])
    (I 1 ∷ []) []
    × BadAfter 3 (allocate 2 1 ∷ try 0 3 ∷ call_ext 1 (erl (codes "exit") 1) ∷ label 3 ∷ try_case 1 ∷ []) (I 1 ∷ []) []
    × BadAfter 2 (allocate 1 1 ∷ try 0 3 ∷ label 3 ∷ try_case 0 ∷ []) (I 1 ∷ []) []
    × BadAfter 3 (allocate 1 1 ∷ try 0 3 ∷ call_ext 1 (erl (codes "exit") 1) ∷ label 3 ∷ catch_end 0 ∷ []) (I 1 ∷ []) []
    × BadAfter 3 (allocate 1 1 ∷ catch 0 3 ∷ call_ext 1 (erl (codes "exit") 1) ∷ label 3 ∷ try_case 0 ∷ [])
    (I 1 ∷ []) []
    × BadAfter 2 (allocate 1 1 ∷ try 0 3 ∷ catch_end 0 ∷ label 3 ∷ try_case 0 ∷ []) (I 1 ∷ []) []
unfolding asm_run
landing = ((refl, refl), (refl, refl), (refl, refl), (refl, refl), (refl, refl), (refl, refl))

-- with a message looked at, these are bad; and two that need one
window : BadAfter 2 (allocate 1 0 ∷ loop_rec 3 0 ∷ move (r x0) y0 ∷ label 3 ∷ []) [] (I 1 ∷ [])
    × BadAfter 1 (loop_rec 3 0 ∷ return ∷ label 3 ∷ []) [] (I 1 ∷ [])
    × BadAfter 2 (allocate 0 0 ∷ loop_rec 3 0 ∷ deallocate 0 ∷ label 3 ∷ []) [] (I 1 ∷ [])
    × BadAfter 3 (allocate 0 0 ∷ loop_rec 3 0 ∷ move (r x0) x1 ∷ send ∷ label 3 ∷ []) [] (I 1 ∷ [])
    × BadAfter 1 (loop_rec 3 0 ∷ loop_rec 3 0 ∷ label 3 ∷ []) [] (I 1 ∷ [])
    × BadAfter 1 (loop_rec 3 0 ∷ timeout ∷ label 3 ∷ []) [] (I 1 ∷ [])
    × BadAfter 1 (loop_rec 3 0 ∷ recv_marker_use (r x0) ∷ label 3 ∷ []) [] (T.reference 1 ∷ [])
    × BadAfter 1 (loop_rec 3 0 ∷ put_map_assoc (r x0) x0 1 [] ∷ label 3 ∷ []) [] (I 1 ∷ [])
    × BadAfter 2 (loop_rec 3 0 ∷ jump 1 ∷ label 3 ∷ []) [] (I 1 ∷ [])
    × BadAfter 0 (remove_message ∷ []) [] []
    × BadAfter 0 (loop_rec_end 2 ∷ []) [] []
unfolding asm_run
window = (
  (refl, refl),
  (refl, refl),
  (refl, refl),
  (refl, refl),
  (refl, refl),
  (refl, refl),
  (refl, refl),
  (refl, refl),
  (refl, refl),
  (refl, refl),
  (refl, refl),
)

-- operands of another kind
kinds : BadAfter 0 (get_hd (r x0) x0 ∷ return ∷ []) (T.nil ∷ []) []
    × BadAfter 0 (get_tuple_element (r x0) 1 x0 ∷ return ∷ []) (tup (I 1 ∷ []) ∷ []) []
    × BadAfter 0 (test_arity 3 (r x0) 1 ∷ label 3 ∷ return ∷ []) (I 1 ∷ []) []
    × BadAfter 0 (has_map_fields 3 (r x0) [] ∷ label 3 ∷ return ∷ []) (I 1 ∷ []) []
    × BadAfter 0 (recv_marker_bind x0 (r x1) ∷ return ∷ []) (I 1 ∷ T.reference 1 ∷ []) []
    × BadAfter 0 (recv_marker_use (r x0) ∷ return ∷ []) (I 1 ∷ []) []
    × BadAfter 0 (bs_start_match4 None 1 (r x0) x0 ∷ return ∷ []) (I 1 ∷ []) []
    × BadAfter 0 (bs_get_tail x0 x0 1 ∷ return ∷ []) (T.bits [] ∷ []) []
    × BadAfter 0 (swap x0 x1 ∷ return ∷ []) (I 1 ∷ []) []
unfolding asm_run
kinds = (
  (refl, refl),
  (refl, refl),
  (refl, refl),
  (refl, refl),
  (refl, refl),
  (refl, refl),
  (refl, refl),
  (refl, refl),
  (refl, refl),
)

-- what stands at or above Live is unset on the way of a jump, too
jumped : BadAfter 1 (gc_bif L.Div (Some 3) 1 (i 1 ∷ r x0 ∷ []) x0 ∷ label 3 ∷ move (r x1) x0 ∷ return ∷ [])
    (I 0 ∷ I 5 ∷ []) []
    × BadAfter 2 (bs_start_match4 None 2 (r x0) x0
    ∷ bs_get_integer2 3 1 x0 (i 8) 1 (record { signed = false; little = false }) x2 ∷ label 3 ∷ move (r x1) x0
    ∷ return ∷ []) (T.bits [] ∷ I 5 ∷ []) []
unfolding asm_run
jumped = ((refl, refl), (refl, refl))

-- leaving: an argument that was never set, one that holds no term, and a return without a value
leaving : BadAfter 0 (call_ext_only 1 (ext (codes "m") (codes "f") 1) ∷ []) [] []
    × BadAfter 1 (allocate 0 0 ∷ call 1 2 ∷ []) [] []
    × BadAfter 1 (bs_start_match4 None 1 (r x0) x0 ∷ call_ext_only 1 (ext (codes "m") (codes "f") 1) ∷ [])
    (T.bits [] ∷ []) []
    × BadAfter 0 (return ∷ []) [] []
unfolding asm_run
leaving = ((refl, refl), (refl, refl), (refl, refl), (refl, refl))

-- a label that is not there
nowhere : BadAfter 0 (jump 9 ∷ []) [] []
    × BadAfter 0 (gc_bif L.Div (Some 9) 1 (i 1 ∷ r x0 ∷ []) x0 ∷ return ∷ []) (I 0 ∷ []) []
unfolding asm_run
nowhere = ((refl, refl), (refl, refl))

-- with a message looked at, also these are bad
window_too : BadAfter 1 (loop_rec 3 0 ∷ allocate 0 1 ∷ label 3 ∷ []) [] (I 1 ∷ [])
    × BadAfter 2 (allocate 1 0 ∷ loop_rec 3 0 ∷ trim 1 0 ∷ label 3 ∷ []) [] (I 1 ∷ [])
    × BadAfter 1 (loop_rec 3 0 ∷ call_ext_only 1 (ext (codes "m") (codes "f") 1) ∷ label 3 ∷ []) [] (I 1 ∷ [])
    × BadAfter 2 (allocate 0 0 ∷ loop_rec 3 0 ∷ build_stacktrace ∷ label 3 ∷ []) [] (I 1 ∷ [])
    × BadAfter 1 (loop_rec 3 0 ∷ wait 3 ∷ label 3 ∷ []) [] (I 1 ∷ [])
    × BadAfter 1 (loop_rec 3 0 ∷ wait_timeout 3 (i 0) ∷ label 3 ∷ []) [] (I 1 ∷ [])
    × BadAfter 2 (allocate 1 0 ∷ loop_rec 3 0 ∷ try 0 3 ∷ label 3 ∷ []) [] (I 1 ∷ [])
    × BadAfter 2 (allocate 1 0 ∷ loop_rec 3 0 ∷ catch 0 3 ∷ label 3 ∷ []) [] (I 1 ∷ [])
    × BadAfter 2 (allocate 1 0 ∷ loop_rec 3 0 ∷ init_yregs (0 ∷ []) ∷ label 3 ∷ []) [] (I 1 ∷ [])
unfolding asm_run
window_too = (
  (refl, refl),
  (refl, refl),
  (refl, refl),
  (refl, refl),
  (refl, refl),
  (refl, refl),
  (refl, refl),
  (refl, refl),
  (refl, refl),
)
