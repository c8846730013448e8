-- Small runs of each family of instructions.
use Rattle.std.proofs.Common.{◌≡◌, List, [], ◌∷◌, true, false, Some, None, refl, negsuc, codes}
use Rattle.erl_term.specs.Term as T
use Rattle.erl_term.specs.Term.{Term, pair, no_pair}
use Rattle.bif_table.specs.Builtins as L
use Rattle.world_model.specs.World as W
use Rattle.world_model.specs.Run.{gives, raises, waits}
use Rattle.world_model.specs.World.{asked, taken}
use Rattle.step_machine.specs.Steps.{over, is_bad, subs}
use Rattle.beam_table.specs.Code
use Rattle.beam_table.proofs.Examples.{A, I, tup, x0, x1, x2, y0, y1, r, a, i, ext, erl, plain, script, reply, ok, back, runs, end_of, with_replies, bytes}
use Rattle.bif_table.specs.TermTests.{is_boolean, is_binary, is_function2, is_ge}
use Rattle.beam_table.specs.Code.{Insn, recv_marker_clear, label, move, swap, init_yregs, allocate, allocate_heap, deallocate, trim, test_heap, return, put_list, put_tuple2, make_fun3, put_map_assoc, put_map_exact, get_list, get_hd, get_tl, get_tuple_element, get_map_elements, has_map_fields, jump, test, compares, test_arity, is_tagged_tuple, select_val, select_tuple_arity, bif, gc_bif, call, call_only, call_ext, call_ext_only, call_ext_last, call_fun, apply, apply_last, send, build_stacktrace, raise, badmatch, case_end, try_case_end, if_end, bs_start_match4, bs_get_integer2, bs_get_binary2, bs_skip_bits2, bs_test_tail2, bs_test_unit, bs_get_tail, bs_get_position, bs_set_position, bs_create_bin}
use Rattle.beam_table.specs.MachineRun.{asm_run}

-- moves, frames, room

literal_value : end_of (move (i 1) x0 ∷ return ∷ []) [] ≡ over (gives (I 1))
unfolding asm_run
literal_value = refl

swapped : end_of (swap x0 x1 ∷ test_heap 2 2 ∷ put_list (r x0) (r x1) x0 ∷ return ∷ []) (I 1 ∷ I 2 ∷ [])
    ≡ over (gives (T.cons (I 2) (I 1)))
unfolding asm_run
swapped = refl

trimmed : end_of (allocate 2 2 ∷ move (r x0) y0 ∷ move (r x1) y1 ∷ trim 1 1 ∷ move (r y0) x0 ∷ deallocate 1
    ∷ return ∷ []) (I 1 ∷ I 2 ∷ []) ≡ over (gives (I 2))
unfolding asm_run
trimmed = refl

heap_frame : end_of (allocate_heap 1 3 1 ∷ move (r x0) y0 ∷ put_tuple2 x0 (r x0 ∷ r y0 ∷ []) ∷ deallocate 1
    ∷ return ∷ []) (I 1 ∷ []) ≡ over (gives (tup (I 1 ∷ I 1 ∷ [])))
unfolding asm_run
heap_frame = refl

-- an initialised slot counts as set where the run collects
killed_is_set : end_of (allocate 1 1 ∷ init_yregs (0 ∷ []) ∷ test_heap 0 1 ∷ deallocate 1 ∷ return ∷ []) (I 7 ∷ [])
    ≡ over (gives (I 7))
unfolding asm_run
killed_is_set = refl

-- lists, tuples, maps

taken_apart : end_of (get_list (r x0) x0 x1 ∷ get_hd (r x1) x1 ∷ test_heap 3 2 ∷ put_tuple2 x0 (r x0 ∷ r x1 ∷ [])
    ∷ return ∷ []) (T.cons (I 1) (T.cons (I 2) T.nil) ∷ []) ≡ over (gives (tup (I 1 ∷ I 2 ∷ [])))
unfolding asm_run
taken_apart = refl

element : end_of (get_tuple_element (r x0) 1 x0 ∷ return ∷ []) (tup (I 1 ∷ I 2 ∷ []) ∷ []) ≡ over (gives (I 2))
unfolding asm_run
element = refl

put_then_exact : end_of (put_map_assoc (r x0) x0 1 ((a (codes "b"), i 1) ∷ (a (codes "a"), i 2) ∷ [])
    ∷ put_map_exact (r x0) x0 1 ((a (codes "a"), i 3) ∷ []) ∷ return ∷ []) (T.map no_pair ∷ [])
    ≡ over (gives (T.map (pair (A (codes "a")) (I 3) (pair (A (codes "b")) (I 1) no_pair))))
unfolding asm_run
put_then_exact = refl

absent_key : end_of (put_map_exact (r x0) x0 1 ((a (codes "x"), i 1) ∷ []) ∷ return ∷ []) (T.map no_pair ∷ [])
    ≡ over (raises T.error (tup (A (codes "badkey") ∷ A (codes "x") ∷ [])))
unfolding asm_run
absent_key = refl

no_map : end_of (put_map_assoc (r x0) x0 1 ((a (codes "x"), i 1) ∷ []) ∷ return ∷ []) (I 5 ∷ [])
    ≡ over (raises T.error (tup (A (codes "badmap") ∷ I 5 ∷ [])))
unfolding asm_run
no_map = refl

-- all values are looked up before the first is written
elements : end_of (get_map_elements 3 (r x0) ((a (codes "a"), x0) ∷ (a (codes "b"), x1) ∷ [])
    ∷ gc_bif L.Add None 2 (r x0 ∷ r x1 ∷ []) x0 ∷ return ∷ label 3 ∷ if_end ∷ [])
    (T.map (pair (A (codes "a")) (I 1) (pair (A (codes "b")) (I 2) no_pair)) ∷ []) ≡ over (gives (I 3))
unfolding asm_run
elements = refl

no_field : end_of (has_map_fields 3 (r x0) (a (codes "a") ∷ []) ∷ return ∷ label 3 ∷ if_end ∷ []) (T.map no_pair ∷ [])
    ≡ over (raises T.error (A (codes "if_clause")))
unfolding asm_run
no_field = refl

-- tests

abbrev branches : Insn → List Insn
branches j = j ∷ move (a (codes "yes")) x0 ∷ return ∷ label 3 ∷ move (a (codes "no")) x0 ∷ return ∷ []

tests : (end_of (branches (test is_boolean 3 (r x0))) (A (codes "true") ∷ []) ≡ over (gives (A (codes "yes"))))
    × (end_of (branches (test is_binary 3 (r x0))) (T.bits (true ∷ []) ∷ []) ≡ over (gives (A (codes "no"))))
    × (end_of (branches (compares is_function2 3 (r x0) (i 1))) (T.extern (codes "m") (codes "f") 1 ∷ [])
    ≡ over (gives (A (codes "yes"))))
    × (end_of (branches (compares is_ge 3 (r x0) (r x1))) (I 1 ∷ A (codes "a") ∷ []) ≡ over (gives (A (codes "no"))))
    × (end_of (branches (is_tagged_tuple 3 (r x0) 2 (codes "b"))) (tup (A (codes "b") ∷ I 1 ∷ []) ∷ [])
    ≡ over (gives (A (codes "yes"))))
    × (end_of (branches (test_arity 3 (r x0) 2)) (tup (I 1 ∷ []) ∷ []) ≡ over (gives (A (codes "no"))))
unfolding asm_run
tests = (refl, refl, refl, refl, refl, refl)

selected : (end_of (select_val (r x0) 3 ((i 1, 4) ∷ (a (codes "c"), 3) ∷ []) ∷ label 4 ∷ move (i 9) x0 ∷ label 3
    ∷ return ∷ []) (I 1 ∷ []) ≡ over (gives (I 9)))
    × (end_of (select_tuple_arity (r x0) 3 ((2, 4) ∷ []) ∷ label 4 ∷ move (i 9) x0 ∷ label 3 ∷ return ∷ []) (I 5 ∷ [])
    ≡ over (gives (I 5)))
unfolding asm_run
selected = (refl, refl)

-- a raise of a listed function goes to its label, if it has one
labelled : (end_of (gc_bif L.Div (Some 3) 1 (i 1 ∷ r x0 ∷ []) x0 ∷ return ∷ label 3 ∷ move (i 7) x0 ∷ return ∷ [])
    (I 0 ∷ []) ≡ over (gives (I 7)))
    × (end_of (gc_bif L.Div None 1 (i 1 ∷ r x0 ∷ []) x0 ∷ return ∷ []) (I 0 ∷ [])
    ≡ over (raises T.error (A (codes "badarith"))))
unfolding asm_run
labelled = (refl, refl)

-- one that does not collect keeps the other registers
not_collected : (end_of (bif L.Element None (i 1 ∷ r x0 ∷ []) x0 ∷ test_heap 3 2 ∷ put_tuple2 x0 (r x0 ∷ r x1 ∷ [])
    ∷ return ∷ []) (tup (I 5 ∷ []) ∷ I 6 ∷ []) ≡ over (gives (tup (I 5 ∷ I 6 ∷ []))))
    × (end_of (bif L.Element (Some 3) (i 2 ∷ r x0 ∷ []) x0 ∷ return ∷ label 3 ∷ move (r x1) x0 ∷ return ∷ [])
    (tup (I 5 ∷ []) ∷ I 6 ∷ []) ≡ over (gives (I 6)))
unfolding asm_run
not_collected = (refl, refl)

-- calls of other modules

always_raises : end_of (move (a (codes "x")) x0 ∷ call_ext 1 (erl (codes "exit") 1) ∷ []) []
    ≡ over (raises T.exit (A (codes "x")))
unfolding asm_run
always_raises = refl

-- the arguments in another order, by one swap
asks_swapped : end_of (swap x0 x1 ∷ call_ext_only 2 (ext (codes "m") (codes "g") 2) ∷ []) (I 1 ∷ I 2 ∷ [])
    ≡ over (waits (W.call (codes "m") (codes "g") (I 2 ∷ I 1 ∷ [])))
unfolding asm_run
asks_swapped = refl

-- sending by the instruction and by a call: a refused send is badarg
sends : (end_of (allocate 0 2 ∷ send ∷ deallocate 0 ∷ return ∷ []) (T.pid 2 ∷ I 7 ∷ [])
    ≡ over (waits (W.send (T.pid 2) (I 7))))
    × ((with_replies (allocate 0 2 ∷ send ∷ deallocate 0 ∷ return ∷ []) (T.pid 2 ∷ I 7 ∷ []) (ok [] ∷ [])).end
    ≡ over (gives (I 7)))
    × ((with_replies (call_ext_only 2 (erl (codes "send") 2) ∷ []) (T.pid 2 ∷ I 7 ∷ [])
    (reply [] W.throw (I 1) ∷ [])).end ≡ over (raises T.error (A (codes "badarg"))))
unfolding asm_run
sends = (refl, refl, refl)

applied : (end_of (allocate 0 2 ∷ apply_last 0 0 ∷ []) (A (codes "erlang") ∷ A (codes "self") ∷ [])
    ≡ over (gives (T.pid 1)))
    × (end_of (apply 0 ∷ return ∷ []) (I 7 ∷ A (codes "g") ∷ []) ≡ over (raises T.error (A (codes "badarg"))))
unfolding asm_run
applied = (refl, refl)

-- names that are no atoms raise badarg, whatever the arguments hold
names_first : (end_of (bs_start_match4 None 3 (r x0) x0 ∷ apply 1 ∷ return ∷ []) (T.bits [] ∷ I 7 ∷ A (codes "g") ∷ [])
    ≡ over (raises T.error (A (codes "badarg"))))
    × (end_of (bs_start_match4 None 3 (r x0) x0 ∷ apply 1 ∷ return ∷ [])
    (T.bits [] ∷ A (codes "m") ∷ A (codes "g") ∷ []) ≡ is_bad)
unfolding asm_run
names_first = (refl, refl)

-- a term that is no reference has no marker to clear
clears_any_term : end_of (recv_marker_clear (r x0) ∷ return ∷ []) (I 7 ∷ []) ≡ over (gives (I 7))
unfolding asm_run
clears_any_term = refl

fun_calls : (end_of (allocate 0 1 ∷ call_fun 0 ∷ deallocate 0 ∷ return ∷ []) (I 5 ∷ [])
    ≡ over (raises T.error (tup (A (codes "badfun") ∷ I 5 ∷ []))))
    × (end_of (allocate 0 1 ∷ call_fun 0 ∷ deallocate 0 ∷ return ∷ []) (T.extern (codes "m") (codes "f") 1 ∷ [])
    ≡ over (raises T.error (tup (A (codes "badarity") ∷ tup (T.extern (codes "m") (codes "f") 1 ∷ T.nil ∷ []) ∷ []))))
    × ((with_replies (allocate 0 1 ∷ call_fun 0 ∷ deallocate 0 ∷ return ∷ []) (T.extern (codes "m") (codes "f") 0 ∷ [])
    (back (I 3) ∷ [])).end ≡ over (gives (I 3)))
    × (end_of (allocate 0 1 ∷ call_fun 0 ∷ deallocate 0 ∷ return ∷ []) (T.fun (codes "o") 0 0 T.none ∷ [])
    ≡ over (waits (W.call (codes "erlang") (codes "apply") (T.fun (codes "o") 0 0 T.none ∷ T.nil ∷ []))))
unfolding asm_run
fun_calls = (refl, refl, refl, refl)

-- raises

again : (end_of (raise (r x0) (a (codes "x")) ∷ []) (I 1 ∷ []) ≡ over (raises T.error (A (codes "badarg"))))
    × (end_of (raise (r x0) (a (codes "x")) ∷ []) (T.raw_trace T.exit ∷ []) ≡ over (raises T.exit (A (codes "x"))))
    × (end_of (badmatch (r x0) ∷ []) (I 1 ∷ []) ≡ over (raises T.error (tup (A (codes "badmatch") ∷ I 1 ∷ []))))
    × (end_of (try_case_end (r x0) ∷ []) (I 1 ∷ []) ≡ over (raises T.error (tup (A (codes "try_clause") ∷ I 1 ∷ []))))
unfolding asm_run
again = (refl, refl, refl, refl)

-- bit strings

tail_of : let s = runs (bs_start_match4 None 1 (r x0) x0 ∷ bs_skip_bits2 3 x0 (i 1) 8 plain ∷ bs_get_tail x0 x0 1
    ∷ return ∷ label 3 ∷ if_end ∷ []) (T.bits (bytes (1 ∷ 2 ∷ [])) ∷ []) (script [] []) in
    (s.end ≡ over (gives (T.bits (bytes (2 ∷ []))))) × (subs s.log ≡ 1)
unfolding asm_run
tail_of = (refl, refl)

-- two registers hold one context: what one takes, the other has taken
shared_context : end_of (bs_start_match4 (Some 3) 1 (r x0) x0 ∷ move (r x0) x1 ∷ bs_get_integer2 3 2 x0 (i 8) 1 plain x2
    ∷ bs_get_integer2 3 3 x1 (i 8) 1 plain x0 ∷ return ∷ label 3 ∷ if_end ∷ []) (T.bits (bytes (1 ∷ 2 ∷ [])) ∷ [])
    ≡ over (gives (I 2))
unfolding asm_run
shared_context = refl

-- back to a position
restored : end_of (bs_start_match4 (Some 3) 1 (r x0) x0 ∷ bs_get_position x0 x1 1 ∷ bs_skip_bits2 3 x0 (i 8) 1 plain
    ∷ bs_test_tail2 3 x0 0 ∷ bs_set_position x0 x1 ∷ bs_test_unit 3 x0 8
    ∷ bs_get_integer2 3 2 x0 (i 8) 1 (record { signed = true; little = false }) x0 ∷ return ∷ label 3 ∷ if_end ∷ [])
    (T.bits (bytes (255 ∷ [])) ∷ []) ≡ over (gives (T.int (negsuc 0)))
unfolding asm_run
restored = refl

-- a failed take leaves the position; the atom `all` in a register is no size
not_whole : end_of (bs_start_match4 (Some 3) 2 (r x0) x0 ∷ bs_get_binary2 3 2 x0 (r x1) 1 plain x1 ∷ return ∷ label 3
    ∷ bs_get_binary2 4 1 x0 (a (codes "all")) 8 plain x0 ∷ return ∷ label 4 ∷ if_end ∷ [])
    (T.bits (bytes (5 ∷ [])) ∷ A (codes "all") ∷ []) ≡ over (gives (T.bits (bytes (5 ∷ []))))
unfolding asm_run
not_whole = refl

twelve_little : Code.Segment
twelve_little = record {
  is_binary = false;
  number = 0;
  unit = 1;
  flags = record { signed = false; little = true };
  value = r x0;
  size = i 12;
}

whole : Code.Segment
whole = record { is_binary = true; number = 0; unit = 8; flags = plain; value = r x0; size = a (codes "all") }

created : (end_of (bs_create_bin None 1 1 x0 (twelve_little ∷ []) ∷ return ∷ []) (I 258 ∷ [])
    ≡ over (gives (T.bits (false ∷ false ∷ false ∷ false ∷ false ∷ false ∷ true ∷ false ∷ false ∷ false ∷ false
    ∷ true ∷ []))))
    × (end_of (bs_create_bin None 1 1 x0 (twelve_little ∷ []) ∷ return ∷ []) (A (codes "a") ∷ [])
    ≡ over (raises T.error (A (codes "badarg"))))
    × (end_of (bs_create_bin (Some 3) 1 1 x0 (whole ∷ []) ∷ return ∷ label 3 ∷ if_end ∷ []) (T.bits (true ∷ []) ∷ [])
    ≡ over (raises T.error (A (codes "if_clause"))))
unfolding asm_run twelve_little whole
created = (refl, refl, refl)

-- the literal `all` is no size
literal_all : end_of (bs_start_match4 (Some 3) 1 (r x0) x0
    ∷ bs_get_binary2 3 1 x0 (Code.literal (A (codes "all"))) 8 plain x0 ∷ return ∷ label 3 ∷ if_end ∷ [])
    (T.bits (bytes (5 ∷ [])) ∷ []) ≡ over (raises T.error (A (codes "if_clause")))
unfolding asm_run
literal_all = refl
