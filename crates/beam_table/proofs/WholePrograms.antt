-- Whole programs, run.
use Rattle.std.proofs.Common.{◌≡◌, ℕ, List, [], ◌∷◌, Bool, true, false, Some, None, refl, codes, replicate}
use Rattle.erl_term.specs.Term as T
use Rattle.erl_term.specs.Term.{Term}
use Rattle.bif_table.specs.Builtins as L
use Rattle.world_model.specs.World as W
use Rattle.world_model.specs.Run as Run
use Rattle.world_model.specs.Run.{gives, raises, waits}
use Rattle.world_model.specs.World.{Reply, asked, taken, millis, Script}
use Rattle.step_machine.specs.Steps.{over, unfinished, is_bad, happenings, entries, sites, serials, subs}
use Rattle.beam_table.proofs.Examples.{key, A, I, tup, x0, x1, x2, y0, y1, r, a, i, ext, erl, plain, module_of, script, reply, ok, back, runs, end_of, with_replies, bytes}
use Rattle.bif_table.specs.TermTests.{is_nonempty_list, is_nil, is_eq_exact}
use Rattle.beam_table.specs.Code.{Insn, label, move, init_yregs, allocate, deallocate, test_heap, return, put_list, put_tuple2, make_fun3, get_tl, get_tuple_element, jump, test, compares, is_tagged_tuple, gc_bif, call, call_only, call_ext, call_ext_only, call_fun, send, try, catch, try_end, try_case, catch_end, loop_rec, remove_message, loop_rec_end, wait, wait_timeout, timeout, recv_marker_reserve, recv_marker_bind, recv_marker_use, bs_start_match4, bs_get_integer2, bs_test_unit, AsmModule}
use Rattle.beam_table.specs.MachineRun.{asm_run}

-- a literal is given in two steps
one : List Insn
one = move (i 1) x0 ∷ return ∷ []

one_row : ((asm_run (module_of ((codes "one", 0, one) ∷ [])) (key (codes "one") 0) [] (script [] []) 2).end
    ≡ over (gives (I 1)))
    × ((asm_run (module_of ((codes "one", 0, one) ∷ [])) (key (codes "one") 0) [] (script [] []) 1).end ≡ unfinished)
unfolding asm_run one
one_row = (refl, refl)

-- the length of a list; another tail goes to the head of the function
unfoldable pub len : AsmModule
len = module_of ((
  codes "len",
  1,
  test is_nonempty_list 3 (r x0) ∷ allocate 0 1 ∷ get_tl (r x0) x0 ∷ call 1 2
      ∷ gc_bif L.Add None 1 (i 1 ∷ r x0 ∷ []) x0 ∷ deallocate 0 ∷ return
      ∷ label 3 ∷ test is_nil 1 (r x0) ∷ move (i 0) x0 ∷ return ∷ [],
) ∷ [])

abc : Term → Term
abc t = T.cons (A (codes "a")) (T.cons (A (codes "b")) (T.cons (A (codes "c")) t))

len_row : let s = asm_run len (key (codes "len") 1) (abc T.nil ∷ []) (script [] []) 60 in
    (s.end ≡ over (gives (I 3))) × (sites s.log ≡ 0 ∷ 0 ∷ 0 ∷ [])
    × ((asm_run len (key (codes "len") 1) (A (codes "x") ∷ []) (script [] []) 60).end
    ≡ over (raises T.error (A (codes "function_clause"))))
unfolding asm_run len abc
len_row = (refl, refl, refl)

-- receive 'stop' -> 'stopped' after x0 -> 'late'
stop_or_late : List Insn
stop_or_late =
    allocate 1 1 ∷ move (r x0) y0
    ∷ label 3 ∷ loop_rec 5 0 ∷ compares is_eq_exact 4 (r x0) (a (codes "stop"))
    ∷ remove_message ∷ move (a (codes "stopped")) x0 ∷ deallocate 1 ∷ return
    ∷ label 4 ∷ loop_rec_end 3
    ∷ label 5 ∷ wait_timeout 3 (r y0) ∷ timeout ∷ move (a (codes "late")) x0 ∷ deallocate 1 ∷ return ∷ []

late_row : let s = runs stop_or_late (I 0 ∷ []) (script [] (ok [] ∷ [])) in
    (s.end ≡ over (gives (A (codes "late")))) × (happenings s.log ≡ asked W.look (ok []) ∷ []) × (serials s.log ≡ [])
unfolding asm_run stop_or_late
late_row = (refl, refl, refl)

wrong_timeout : (runs stop_or_late (A (codes "bad") ∷ []) (script [] (ok [] ∷ []))).end
    ≡ over (raises T.error (A (codes "timeout_value")))
unfolding asm_run stop_or_late
wrong_timeout = refl

hello : Reply
hello = ok (A (codes "hello") ∷ [])

hello_row : let s = runs stop_or_late (I 5 ∷ []) (script [] (ok [] ∷ hello ∷ ok [] ∷ ok [] ∷ [])) in
    (s.end ≡ over (gives (A (codes "late"))))
    × (happenings s.log ≡ asked (W.wait (millis 5)) (ok []) ∷ asked W.look (ok []) ∷ asked (W.wait (millis 5)) hello
    ∷ asked W.look (ok []) ∷ [])
    × (serials s.log ≡ 0 ∷ [])
unfolding asm_run stop_or_late hello
hello_row = (refl, refl, refl)

-- a message that comes with the look is looked at in the same step; it waits for more without a message
infinity_row : ((runs stop_or_late (A (codes "infinity") ∷ []) (script [] (ok (A (codes "stop") ∷ []) ∷ []))).end
    ≡ over (gives (A (codes "stopped"))))
    × ((runs stop_or_late (A (codes "infinity") ∷ []) (script [] (ok [] ∷ []))).end ≡ over (waits (W.wait W.forever)))
unfolding asm_run stop_or_late
infinity_row = (refl, refl)

-- a marked receive of the answer to a monitor
marked : List Insn
marked =
    allocate 2 1 ∷ move (r x0) x1 ∷ move (a (codes "process")) x0 ∷ recv_marker_reserve y1
    ∷ call_ext 2 (erl (codes "monitor") 2)
    ∷ recv_marker_bind y1 (r x0) ∷ move (r x0) y0 ∷ recv_marker_use (r y0)
    ∷ label 3 ∷ loop_rec 5 0 ∷ is_tagged_tuple 4 (r x0) 5 (codes "DOWN")
    ∷ get_tuple_element (r x0) 1 x1 ∷ compares is_eq_exact 4 (r x1) (r y0)
    ∷ get_tuple_element (r x0) 2 x1 ∷ compares is_eq_exact 4 (r x1) (a (codes "process"))
    ∷ remove_message ∷ get_tuple_element (r x0) 4 x0 ∷ deallocate 2 ∷ return
    ∷ label 4 ∷ loop_rec_end 3
    ∷ label 5 ∷ wait 3 ∷ []

down : Reply
down = reply (tup (A (codes "DOWN") ∷ T.reference 9 ∷ A (codes "process") ∷ T.pid 7 ∷ A (codes "gone") ∷ []) ∷ [])
    W.return (T.reference 9)

old : ℕ → List Bool → Script
old n cs = record { own = T.pid 1; mailbox = replicate n (A (codes "old")); replies = down ∷ []; choices = cs }

monitor_call : W.Request
monitor_call = W.call (codes "erlang") (codes "monitor") (A (codes "process") ∷ T.pid 7 ∷ [])

-- kept: one look
kept_row : let s = runs marked (T.pid 7 ∷ []) (old 1000 []) in
    (s.end ≡ over (gives (A (codes "gone")))) × (happenings s.log ≡ taken 1000 ∷ asked monitor_call down ∷ [])
    × (serials s.log ≡ 1000 ∷ [])
unfolding asm_run marked old monitor_call down
kept_row = (refl, refl, refl)

-- forgotten: each message is looked at
forgotten_row : let s = runs marked (T.pid 7 ∷ []) (old 3 (false ∷ [])) in
    (s.end ≡ over (gives (A (codes "gone")))) × (happenings s.log ≡ taken 3 ∷ asked monitor_call down ∷ [])
    × (serials s.log ≡ 3 ∷ 2 ∷ 1 ∷ 0 ∷ [])
unfolding asm_run marked old monitor_call down
forgotten_row = (refl, refl, refl)

-- the sum of bytes: the context is handed on from call to call
unfoldable pub sum : AsmModule
sum = module_of (
    (codes "sum", 1, move (i 0) x1 ∷ call_only 2 4 ∷ [])
    ∷ (
      codes "loop",
      2,
      bs_start_match4 (Some 5) 2 (r x0) x0 ∷ bs_get_integer2 5 2 x0 (i 8) 1 plain x2 ∷ bs_test_unit 5 x0 8
          ∷ gc_bif L.Add None 3 (r x1 ∷ r x2 ∷ []) x1 ∷ call_only 2 4 ∷ label 5 ∷ move (r x1) x0 ∷ return ∷ [],
    )
    ∷ [])

tail : ℕ → Run.Entry
tail n = record { site = n; tail = true }

sum_row : let s = asm_run sum (key (codes "sum") 1) (T.bits (bytes (1 ∷ 2 ∷ 3 ∷ [])) ∷ []) (script [] []) 100 in
    (s.end ≡ over (gives (I 6))) × (entries s.log ≡ tail 1 ∷ tail 1 ∷ tail 1 ∷ tail 1 ∷ []) × (subs s.log ≡ 0)
unfolding asm_run sum tail
sum_row = (refl, refl, refl)

-- a fun with a capture, sent and called
funs : AsmModule
funs = module_of ((
  codes "f",
  2,
  allocate 1 2 ∷ init_yregs (0 ∷ []) ∷ test_heap 5 2 ∷ make_fun3 4 1 x1 (r x1 ∷ []) ∷ send
      ∷ deallocate 1 ∷ move (a (codes "ok")) x0 ∷ return ∷ [],
)
    ∷ (codes "-fun-1-", 2, test_heap 3 2 ∷ put_tuple2 x0 (r x0 ∷ r x1 ∷ []) ∷ return ∷ [])
    ∷ (codes "g", 2, allocate 0 2 ∷ call_fun 1 ∷ deallocate 0 ∷ return ∷ []) ∷ [])

fun_row : ((asm_run funs (key (codes "f") 2) (T.pid 2 ∷ I 7 ∷ []) (script [] []) 60).end
    ≡ over (waits (W.send (T.pid 2) (T.fun (codes "m") 1 1 (T.more (I 7) T.none)))))
    × ((asm_run funs (key (codes "g") 2) (I 5 ∷ T.fun (codes "m") 1 1 (T.more (I 7) T.none) ∷ []) (script [] []) 60).end
    ≡ over (gives (tup (I 5 ∷ I 7 ∷ []))))
unfolding asm_run funs
fun_row = (refl, refl)

-- the module's own exports are called by the world
own : List Insn
own = move (i 1) x0 ∷ call_ext_only 1 (ext (codes "own") (codes "g") 1) ∷ []

own_row : let s = with_replies own [] (back (I 4) ∷ []) in (s.end ≡ over (gives (I 4))) × (sites s.log ≡ [])
unfolding asm_run own
own_row = (refl, refl)

-- try m:f() of A -> A catch C,E,S -> {C,E}
trying : List Insn
trying =
    allocate 1 0 ∷ try 0 3 ∷ call_ext 0 (ext (codes "m") (codes "f") 0) ∷ try_end 0 ∷ deallocate 1 ∷ return
    ∷ label 3 ∷ try_case 0 ∷ test_heap 3 2 ∷ put_tuple2 x0 (r x0 ∷ r x1 ∷ []) ∷ deallocate 1 ∷ return ∷ []

try_row : ((with_replies trying [] (reply [] W.throw (A (codes "x")) ∷ [])).end
    ≡ over (gives (tup (A (codes "throw") ∷ A (codes "x") ∷ []))))
    × ((with_replies trying [] (back (I 1) ∷ [])).end ≡ over (gives (I 1)))
unfolding asm_run trying
try_row = (refl, refl)

-- a raise in a called function drops its activation
deep : AsmModule
deep = module_of ((
  codes "t",
  0,
  allocate 1 0 ∷ try 0 5 ∷ call 0 4 ∷ try_end 0 ∷ deallocate 1 ∷ return ∷ label 5 ∷ try_case 0
      ∷ move (r x1) x0 ∷ deallocate 1 ∷ return ∷ [],
)
    ∷ (codes "g", 0, allocate 2 0 ∷ move (a (codes "again")) x0 ∷ call_ext 1 (erl (codes "throw") 1) ∷ []) ∷ [])

deep_row : (asm_run deep (key (codes "t") 0) [] (script [] []) 60).end ≡ over (gives (A (codes "again")))
unfolding asm_run deep
deep_row = refl

-- catch m:f()
catching : List Insn
catching = allocate 1 0 ∷ catch 0 3 ∷ call_ext 0 (ext (codes "m") (codes "f") 0) ∷ label 3 ∷ catch_end 0
    ∷ deallocate 1 ∷ return ∷ []

catch_row : ((with_replies catching [] (back (I 1) ∷ [])).end ≡ over (gives (I 1)))
    × ((with_replies catching [] (reply [] W.throw (A (codes "x")) ∷ [])).end ≡ over (gives (A (codes "x"))))
    × ((with_replies catching [] (reply [] W.exit (A (codes "x")) ∷ [])).end
    ≡ over (gives (tup (A (codes "EXIT") ∷ A (codes "x") ∷ []))))
    × ((with_replies catching [] (reply [] W.error (A (codes "x")) ∷ back T.nil ∷ [])).end
    ≡ over (gives (tup (A (codes "EXIT") ∷ tup (A (codes "x") ∷ T.nil ∷ []) ∷ []))))
    × ((with_replies catching [] (reply [] W.error (A (codes "x")) ∷ [])).end ≡ over (waits W.trace))
unfolding asm_run catching
catch_row = (refl, refl, refl, refl, refl)

-- room is 0 after a call
no_room : List Insn
no_room = allocate 0 1 ∷ call_ext 1 (ext (codes "m") (codes "f") 1) ∷ put_list (r x0) (a (codes "n")) x0
    ∷ deallocate 0 ∷ return ∷ []

room_row : ((with_replies no_room (I 1 ∷ []) (back (I 2) ∷ [])).end ≡ is_bad)
    × ((with_replies (allocate 0 1 ∷ call_ext 1 (ext (codes "m") (codes "f") 1) ∷ test_heap 2 1
    ∷ put_list (r x0) (i 0) x0 ∷ deallocate 0 ∷ return ∷ []) (I 1 ∷ []) (back (I 2) ∷ [])).end
    ≡ over (gives (T.cons (I 2) (I 0))))
unfolding asm_run no_room
room_row = (refl, refl)

-- jumps over labels
jumps_row : (end_of (jump 4 ∷ label 3 ∷ move (i 1) x0 ∷ label 4 ∷ jump 5 ∷ label 5 ∷ move (i 2) x0 ∷ return ∷ []) []
    ≡ over (gives (I 2)))
    × (end_of (jump 3 ∷ label 3 ∷ jump 3 ∷ []) [] ≡ unfinished)
    × ((asm_run (module_of ((codes "f", 0, jump 2 ∷ []) ∷ [])) (key (codes "f") 0) [] (script [] []) 10000).end
    ≡ unfinished)
unfolding asm_run
jumps_row = (refl, refl, refl)
