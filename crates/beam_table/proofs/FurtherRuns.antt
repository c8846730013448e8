-- Further programs, run.
use Rattle.std.proofs.Common.{◌≡◌, List, [], ◌∷◌, true, false, Some, None, refl, codes}
use Rattle.erl_term.specs.Term as T
use Rattle.erl_term.specs.Term.{Term}
use Rattle.bif_table.specs.Builtins as L
use Rattle.world_model.specs.World as W
use Rattle.world_model.specs.Run.{gives, raises}
use Rattle.world_model.specs.World.{Reply, asked, taken}
use Rattle.step_machine.specs.Steps.{over, happenings, entries, serials, subs}
use Rattle.beam_table.specs.Code
use Rattle.beam_table.proofs.Examples.{key, A, I, tup, x0, x1, x2, x3, y0, y1, r, a, i, ext, erl, plain, module_of, script, reply, ok, back, runs, end_of, with_replies, bytes}
use Rattle.bif_table.specs.TermTests.{is_nil, is_eq_exact}
use Rattle.beam_table.specs.Code.{Reg, Insn, label, move, init_yregs, allocate, allocate_heap, deallocate, trim, test_heap, return, put_list, put_tuple2, get_tuple_element, jump, test, compares, bif, gc_bif, call, call_only, call_last, call_ext, call_ext_last, send, build_stacktrace, case_end, if_end, try, catch, try_end, try_case, catch_end, loop_rec, remove_message, loop_rec_end, wait, wait_timeout, timeout, recv_marker_reserve, recv_marker_bind, recv_marker_use, recv_marker_clear, bs_start_match4, bs_get_integer2, bs_get_tail, bs_get_position, bs_set_position, bs_test_unit, bs_test_tail2, AsmModule}
use Rattle.beam_table.specs.MachineRun.{asm_run}

-- f(X) -> Y = g(X), {Y}; g(X) -> m:h(X)
two : AsmModule
two = module_of (
    (codes "f", 1, allocate 0 1 ∷ call 1 4 ∷ test_heap 2 1 ∷ put_tuple2 x0 (r x0 ∷ []) ∷ deallocate 0 ∷ return ∷ [])
    ∷ (codes "g", 1, allocate 0 1 ∷ call_ext_last 1 (ext (codes "m") (codes "h") 1) 0 ∷ []) ∷ [])

two_row : let s = asm_run two (key (codes "f") 1) (I 1 ∷ []) (script [] (back (I 2) ∷ [])) 60 in
    (s.end ≡ over (gives (tup (I 2 ∷ [])))) × (entries s.log ≡ record { site = 1; tail = false } ∷ [])
unfolding asm_run two
two_row = (refl, refl)

-- a loop that leaves its frame each time
last : AsmModule
last = module_of ((
  codes "f",
  1,
  test is_nil 3 (r x0) ∷ return ∷ label 3 ∷ allocate 1 1 ∷ move (a (codes "nothing")) x0 ∷ init_yregs (0 ∷ [])
      ∷ test_heap 0 1 ∷ move Code.nil x0 ∷ call_last 1 2 1 ∷ [],
) ∷ [])

last_row : let s = asm_run last (key (codes "f") 1) (I 1 ∷ []) (script [] []) 60 in
    (s.end ≡ over (gives T.nil)) × (entries s.log ≡ record { site = 0; tail = true } ∷ [])
unfolding asm_run last
last_row = (refl, refl)

-- slots that aren't needed any more are trimmed
trims : List Insn
trims =
    allocate 2 1 ∷ move (r x0) y1 ∷ init_yregs (0 ∷ []) ∷ call_ext 1 (ext (codes "m") (codes "f") 1) ∷ move (r x0) y0
    ∷ move (r y1) x1
    ∷ call_ext 2 (ext (codes "m") (codes "g") 2) ∷ trim 1 1 ∷ trim 1 0 ∷ call_ext 1 (ext (codes "m") (codes "h") 1)
    ∷ test_heap 2 1 ∷ put_tuple2 x0 (r x0 ∷ []) ∷ deallocate 0 ∷ return ∷ []

trim_row : (with_replies trims (I 1 ∷ []) (back (I 2) ∷ back (I 3) ∷ back (I 4) ∷ [])).end
    ≡ over (gives (tup (I 4 ∷ [])))
unfolding asm_run trims
trim_row = refl

-- a frame only where it is needed
late_frame : List Insn
late_frame =
    compares is_eq_exact 3 (r x0) (i 0) ∷ return ∷ label 3 ∷ allocate 1 1 ∷ move (r x0) y0
    ∷ call_ext 1 (ext (codes "m") (codes "f") 1)
    ∷ test_heap 3 1 ∷ put_tuple2 x0 (r y0 ∷ r x0 ∷ []) ∷ deallocate 1 ∷ return ∷ []

late_rows : (end_of late_frame (I 0 ∷ []) ≡ over (gives (I 0)))
    × ((with_replies late_frame (I 1 ∷ []) (back (I 2) ∷ [])).end ≡ over (gives (tup (I 1 ∷ I 2 ∷ []))))
unfolding asm_run late_frame
late_rows = (refl, refl)

-- receive X when 1 div X =:= 1 -> X after 0 -> none
guarded : List Insn
guarded =
    label 3 ∷ loop_rec 5 0 ∷ gc_bif L.Div (Some 4) 1 (i 1 ∷ r x0 ∷ []) x1 ∷ compares is_eq_exact 4 (r x1) (i 1)
    ∷ remove_message ∷ return ∷ label 4 ∷ loop_rec_end 3 ∷ label 5 ∷ wait_timeout 3 (i 0) ∷ timeout
    ∷ move (a (codes "none")) x0 ∷ return ∷ []

guarded_row : let s = runs guarded [] (script (I 0 ∷ I 1 ∷ []) []) in
    (s.end ≡ over (gives (I 1))) × (happenings s.log ≡ taken 1 ∷ []) × (serials s.log ≡ 1 ∷ 0 ∷ [])
unfolding asm_run guarded
guarded_row = (refl, refl, refl)

-- two references; the answers come with the calls, or both with the second
refs : List Insn
refs =
    allocate 4 0 ∷ init_yregs (0 ∷ 1 ∷ 2 ∷ 3 ∷ [])
    ∷ recv_marker_reserve (Reg.y_reg 2) ∷ call_ext 0 (erl (codes "make_ref") 0) ∷ recv_marker_bind (Reg.y_reg 2) (r x0)
    ∷ move (r x0) y0
    ∷ recv_marker_reserve (Reg.y_reg 2) ∷ call_ext 0 (erl (codes "make_ref") 0) ∷ recv_marker_bind (Reg.y_reg 2) (r x0)
    ∷ move (r x0) y1
    ∷ recv_marker_use (r y1) ∷ label 3 ∷ loop_rec 5 0 ∷ compares is_eq_exact 4 (r x0) (r y1) ∷ remove_message ∷ jump 6
    ∷ label 4 ∷ loop_rec_end 3 ∷ label 5 ∷ wait 3
    ∷ label 6 ∷ recv_marker_use (r y0) ∷ label 7 ∷ loop_rec 9 0 ∷ compares is_eq_exact 8 (r x0) (r y0) ∷ remove_message
    ∷ deallocate 4 ∷ return
    ∷ label 8 ∷ loop_rec_end 7 ∷ label 9 ∷ wait 7 ∷ []

refs_row : (let s = runs refs []
    (script [] (reply (T.reference 1 ∷ []) W.return (T.reference 1)
    ∷ reply (T.reference 2 ∷ []) W.return (T.reference 2) ∷ [])) in
    (s.end ≡ over (gives (T.reference 1))) × (serials s.log ≡ 0 ∷ 1 ∷ []))
    × (let s = runs refs [] (script []
    (reply [] W.return (T.reference 1) ∷ reply (T.reference 1 ∷ T.reference 2 ∷ []) W.return (T.reference 2) ∷ [])) in
    (s.end ≡ over (gives (T.reference 1))) × (serials s.log ≡ 0 ∷ 1 ∷ 0 ∷ []))
unfolding asm_run refs
refs_row = ((refl, refl), (refl, refl))

-- an unbound marker takes no choice, and the receive begins at the start
cleared : List Insn
cleared =
    allocate 1 0 ∷ init_yregs (0 ∷ []) ∷ recv_marker_reserve y0 ∷ call_ext 0 (erl (codes "make_ref") 0)
    ∷ recv_marker_bind y0 (r x0)
    ∷ recv_marker_clear (r x0) ∷ recv_marker_use (r x0) ∷ loop_rec 5 0 ∷ remove_message ∷ deallocate 1 ∷ return
    ∷ label 5 ∷ wait 5 ∷ []

cleared_row : let s = runs cleared []
    (record { own = T.pid 1; mailbox = I 7 ∷ []; replies = back (T.reference 1) ∷ []; choices = false ∷ [] }) in
    (s.end ≡ over (gives (I 7))) × (serials s.log ≡ 0 ∷ [])
unfolding asm_run cleared
cleared_row = (refl, refl)

-- no clause matches: the reason holds the bits from where the case began
no_clause : List Insn
no_clause =
    bs_start_match4 (Some 3) 2 (r x0) x0 ∷ bs_get_position x0 x2 2 ∷ bs_get_integer2 4 3 x0 (i 8) 1 plain x3
    ∷ bs_test_unit 4 x0 16 ∷ return
    ∷ label 4 ∷ bs_set_position x0 x2 ∷ bs_get_tail x0 x0 2
    ∷ label 3 ∷ test_heap 3 2 ∷ put_tuple2 x0 (r x0 ∷ r x1 ∷ []) ∷ case_end (r x0) ∷ []

no_clause_row : let s = runs no_clause (T.bits (bytes (1 ∷ 2 ∷ [])) ∷ I 6 ∷ []) (script [] []) in
    (s.end ≡ over (raises T.error (tup (A (codes "case_clause") ∷ tup (T.bits (bytes (1 ∷ 2 ∷ [])) ∷ I 6 ∷ []) ∷ []))))
    × (subs s.log ≡ 1)
unfolding asm_run no_clause
no_clause_row = (refl, refl)

-- two starts on one bit string; a position past the end of another one
contexts : (end_of (bs_start_match4 None 1 (r x0) x1 ∷ bs_start_match4 None 2 (r x0) x2
    ∷ bs_get_integer2 3 3 x1 (i 8) 1 plain x3 ∷ bs_get_integer2 3 4 x2 (i 8) 1 plain x0 ∷ return
    ∷ label 3 ∷ if_end ∷ [])
    (T.bits (bytes (9 ∷ [])) ∷ []) ≡ over (gives (I 9)))
    × (end_of (bs_start_match4 None 2 (r x0) x0 ∷ bs_start_match4 None 2 (r x1) x1
    ∷ bs_get_integer2 3 2 x0 (i 16) 1 plain x2 ∷ bs_get_position x0 x2 3 ∷ bs_set_position x1 x2 ∷ bs_get_tail x1 x0 2
    ∷ return ∷ label 3 ∷ if_end ∷ [])
    (T.bits (bytes (1 ∷ 2 ∷ [])) ∷ T.bits (bytes (3 ∷ [])) ∷ []) ≡ over (gives (T.bits [])))
unfolding asm_run
contexts = (refl, refl)

-- a jump to the head of the function raises, and a tag of the frame catches it
head_caught : end_of (allocate 1 0 ∷ try 0 3 ∷ jump 1 ∷ label 3 ∷ try_case 0 ∷ move (r x1) x0 ∷ deallocate 1
    ∷ return ∷ []) [] ≡ over (gives (A (codes "function_clause")))
unfolding asm_run
head_caught = refl

-- the inner handler first: its tag is the lowest
nested : end_of (allocate 2 1 ∷ catch 1 4 ∷ try 0 3 ∷ call_ext 1 (erl (codes "throw") 1) ∷ label 3 ∷ try_case 0
    ∷ move (a (codes "inner")) x0 ∷ call_ext 1 (erl (codes "throw") 1) ∷ label 4 ∷ catch_end 1 ∷ deallocate 2
    ∷ return ∷ []) (I 1 ∷ []) ≡ over (gives (A (codes "inner")))
unfolding asm_run
nested = refl

stacktrace : (with_replies (allocate 0 1 ∷ build_stacktrace ∷ deallocate 0 ∷ return ∷ []) (I 1 ∷ [])
    (back (I 2) ∷ [])).end ≡ over (gives (I 2))
unfolding asm_run
stacktrace = refl

-- building and collecting are allowed with a message looked at
in_window : (runs (loop_rec 3 0 ∷ test_heap 2 1 ∷ put_list (r x0) (r x0) x1 ∷ remove_message ∷ move (r x1) x0 ∷ return
    ∷ label 3 ∷ if_end ∷ []) [] (script (I 1 ∷ []) [])).end ≡ over (gives (T.cons (I 1) (I 1)))
unfolding asm_run
in_window = refl

-- a new serial for each arrival, whatever the request
serial_row : let s = runs
    (allocate 0 2 ∷ send ∷ deallocate 0 ∷ loop_rec 3 0 ∷ remove_message ∷ return ∷ label 3 ∷ if_end ∷ [])
    (T.pid 2 ∷ I 7 ∷ []) (script [] (ok (I 5 ∷ I 6 ∷ []) ∷ [])) in
    (s.end ≡ over (gives (I 5))) × (serials s.log ≡ 0 ∷ [])
unfolding asm_run
serial_row = (refl, refl)
