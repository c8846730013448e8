-- Small functions in kernel form, and what they do, computed.
use Rattle.std.proofs.Common.{◌≡◌, ℕ, List, [], ◌∷◌, length, replicate, Bool, true, false, pos, codes, refl}
use Rattle.erl_term.specs.Term as T
use Rattle.erl_term.specs.Term.{Term}
use Rattle.erl_term.specs.Terms.{Values, terms, tagged}
use Rattle.erl_term.specs.Segments.{Shape}
use Rattle.bif_table.specs.Builtins.{Div, Exactly}
use Rattle.world_model.specs.World as W
use Rattle.world_model.specs.World.{Reply, Script, Happening, asked, taken, millis}
use Rattle.world_model.specs.Run.{Entry, Looked, Outcome, gives}
use Rattle.core_meaning.specs.CoreRun.{Result}
use Rattle.kernel_form.specs.Kernel as K
use Rattle.kernel_form.specs.Kernel.{Value, var, lit, Expr, values, simple, let_in, match_in, receive, Tree, body, fall, either_in, switch, segments, step, guarded, Cases, no_case, and_case, case, SegRows, no_row, and_row, seg_row, Segs, no_seg, and_seg, seg, Seg, Fun, Kernel}
use Rattle.pass_contract.specs.InModule.{Mark}
use Rattle.kernel_meaning.specs.Environment.{Setting}
use Rattle.kernel_meaning.specs.KernelRun.{widths, kernel_run}

abbrev int : ℕ → Term
int n = T.int (pos n)

abbrev a : List ℕ → Term
a x = T.atom x

abbrev gives_one : Value → Tree
gives_one v = body (values (v ∷ []))

-- a tuple of a number and a value
abbrev with_number : ℕ → Value → Tree
with_number n v = body (simple (K.tuple (lit (int n) ∷ v ∷ [])))

abbrev function : ℕ → Expr → Fun
function n e = record { key = record { name = codes "f"; arity = 1 }; site = n; params = 0 ∷ []; next = 100; body = e }

abbrev module_of : List Fun → Kernel
module_of fs = record {
  name = codes "m";
  exports = record { name = codes "f"; arity = 1 } ∷ [];
  attributes = [];
  funs = fs;
}

abbrev plain : List Fun → Setting
plain fs = record { widths = widths fs; marks = []; handed = [] }

abbrev script : Values → List Reply → Script
script mailbox replies = record { own = T.pid 1; mailbox = mailbox; replies = replies; choices = [] }

abbrev run_with : List Fun → Term → Script → Result
run_with fs t x = kernel_run (plain fs) (module_of fs) (record { name = codes "f"; arity = 1 }) (t ∷ []) x 10

abbrev of_one : Expr → Term → Result
of_one e t = run_with (function 0 e ∷ []) t (script [] [])

abbrev ended : List Happening → List Entry → List Looked → List ℕ → ℕ → Outcome Term → Result
ended hs es ls ns n end =
    record { happenings = hs; entries = es; looks = ls; marks = []; examined = ns; subs = n; end = end }

abbrev only_gives : Term → Result
only_gives t = ended [] [] [] [] 0 (gives t)

abbrev look : ℕ → Bool → Looked
look n accepted = record { serial = n; accepted = accepted }

abbrev brings : Values → Reply
brings ts = record { arrivals = ts; how = W.return; term = a (codes "ok") }

-- {a,X} gives {1,X}; any Y gives {2,Y}; {b,X} gives {3,X}: the second alternative takes what falls out of the first
abbrev three_clauses : Expr
three_clauses = match_in (either_in 0
    (switch 0 (and_case (case (K.is_tuple 2) (1 ∷ 2 ∷ [])
    (switch 1 (and_case (case (K.is (a (codes "a"))) [] (with_number 1 (var 2))) no_case) (fall 0))) no_case)
    (fall 0))
    (either_in 1 (with_number 2 (var 0)) (with_number 3 (var 0))))

first_clause_wins_second : of_one three_clauses (tagged (codes "b") (int 1))
    ≡ only_gives (T.tuple (terms (int 2 ∷ tagged (codes "b") (int 1) ∷ [])))
unfolding kernel_run
first_clause_wins_second = refl

first_clause_wins_first : of_one three_clauses (tagged (codes "a") (int 5))
    ≡ only_gives (T.tuple (terms (int 1 ∷ int 5 ∷ [])))
unfolding kernel_run
first_clause_wins_first = refl

-- a guard that divides by zero does not hold
abbrev raising_guard : Expr
raising_guard = match_in (guarded
    (let_in (1 ∷ []) (simple (K.bif Div (lit (int 1) ∷ var 0 ∷ [])))
    (simple (K.bif Exactly (var 1 ∷ lit (int 1) ∷ []))))
    (gives_one (lit (a (codes "one")))) (gives_one (lit (a (codes "other")))))

raising_guard_does_not_hold : of_one raising_guard (int 0) ≡ only_gives (a (codes "other"))
unfolding kernel_run
raising_guard_does_not_hold = refl

guard_that_holds : of_one raising_guard (int 1) ≡ only_gives (a (codes "one"))
unfolding kernel_run
guard_that_holds = refl

-- Receives. One that takes {ok,X} and has this timeout.

abbrev takes_ok : Value → Expr
takes_ok timeout = receive 0 1
    (switch 1 (and_case (case (K.is_tuple 2) (2 ∷ 3 ∷ [])
    (switch 2 (and_case (case (K.is (a (codes "ok"))) [] (gives_one (var 3))) no_case) (fall 9))) no_case) (fall 9))
    timeout (values (lit (a (codes "late")) ∷ []))

-- with timeout zero it looks once; a fall with no alternative goes on with the next message
receive_with_timeout_zero : run_with (function 0 (takes_ok (lit (int 0))) ∷ []) (int 0)
    (script (int 7 ∷ []) (brings [] ∷ []))
    ≡ ended (asked W.look (brings []) ∷ []) [] (look 0 false ∷ []) (0 ∷ []) 0 (gives (a (codes "late")))
unfolding kernel_run
receive_with_timeout_zero = refl

-- it waits until a message comes that it accepts; what it passes over stays
receive_that_waits : run_with (function 0 (takes_ok (lit (int 5))) ∷ []) (int 0)
    (script (int 7 ∷ []) (brings [] ∷ brings (int 8 ∷ tagged (codes "ok") (int 9) ∷ []) ∷ []))
    ≡ ended (asked W.look (brings []) ∷ asked (W.wait (millis 5)) (brings (int 8 ∷ tagged (codes "ok") (int 9) ∷ []))
    ∷ taken 2 ∷ [])
    [] (look 0 false ∷ look 1 false ∷ look 2 true ∷ []) (0 ∷ 1 ∷ 2 ∷ []) 0 (gives (int 9))
unfolding kernel_run
receive_that_waits = refl

-- Binaries.

abbrev number_shape : Shape
number_shape = record { unit = 1; is_binary = false; signed = false; little = false; whole = false }

abbrev bytes_shape : Shape
bytes_shape = record { unit = 8; is_binary = true; signed = false; little = false; whole = false }

abbrev rest_shape : Shape
rest_shape = record { unit = 1; is_binary = true; signed = false; little = false; whole = true }

-- four bits as a number n, n bytes, and the rest: the size of a segment is an earlier one's value
abbrev sized : Segs
sized = and_seg (seg (K.bind 1) (lit (int 4)) number_shape)
    (and_seg (seg (K.bind 2) (var 1) bytes_shape) (and_seg (seg (K.bind 3) (lit (a (codes "all"))) rest_shape) no_seg))

abbrev split_by_size : Expr
split_by_size = match_in (segments 0 (and_row (seg_row sized (body (simple (K.tuple (var 2 ∷ var 3 ∷ []))))) no_row)
    (gives_one (lit (a (codes "none")))))

abbrev eight : List Bool
eight = true ∷ true ∷ true ∷ true ∷ false ∷ false ∷ false ∷ false ∷ []

-- 1, the byte, and one bit that is left; both parts are made
segments_with_sizes : of_one split_by_size
    (T.bits (false ∷ false ∷ false ∷ true ∷ true ∷ true ∷ true ∷ true ∷ false ∷ false ∷ false ∷ false ∷ true ∷ []))
    ≡ ended [] [] [] [] 2 (gives (T.tuple (terms (T.bits eight ∷ T.bits (true ∷ []) ∷ []))))
unfolding kernel_run
segments_with_sizes = refl

-- two bytes are wanted, and fewer are there
segments_that_fail : of_one split_by_size (T.bits (false ∷ false ∷ true ∷ false ∷ true ∷ []))
    ≡ only_gives (a (codes "none"))
unfolding kernel_run
segments_that_fail = refl

-- a first byte of 1, or else the whole read again as one number: a fall keeps the contexts as they are, so it goes back
abbrev goes_back : Expr
goes_back = match_in (step (K.start 0 1) (step (K.mark 1 2)
    (either_in 5
    (step (K.integer 1 (seg (K.known (int 1)) (lit (int 8)) number_shape)) (gives_one (lit (a (codes "one")))) (fall 5))
    (step (K.back 1 2)
    (step (K.integer 1 (seg (K.bind 3) (lit (int 8)) number_shape))
    (step (K.done 1) (gives_one (var 3)) (gives_one (lit (a (codes "more"))))) (fall 6))
    (fall 6)))
    (fall 6)) (gives_one (lit (a (codes "no_bits")))))

steps_go_back : of_one goes_back (T.bits eight) ≡ only_gives (int 240)
unfolding kernel_run
steps_go_back = refl

steps_want_bits : of_one goes_back (int 3) ≡ only_gives (a (codes "no_bits"))
unfolding kernel_run
steps_want_bits = refl

-- Falls: out of two alternatives with one number to the nearer one, and past it by the outer number.

abbrev nested_falls : Expr
nested_falls = match_in (either_in 1
    (either_in 1 (switch 0 (and_case (case (K.is (int 1)) [] (fall 1))
    (and_case (case (K.is (int 2)) [] (fall 2)) no_case)) (gives_one (lit (a (codes "last")))))
    (gives_one (lit (a (codes "inner")))))
    (gives_one (lit (a (codes "outer")))))

falls_to_the_nearest : of_one nested_falls (int 1) ≡ only_gives (a (codes "inner"))
unfolding kernel_run
falls_to_the_nearest = refl

abbrev outer_falls : Expr
outer_falls = match_in (either_in 2
    (either_in 1 (switch 0 (and_case (case (K.is (int 2)) [] (fall 2)) no_case) (gives_one (lit (a (codes "last")))))
    (gives_one (lit (a (codes "inner")))))
    (gives_one (lit (a (codes "outer")))))

falls_past_the_inner_one : of_one outer_falls (int 2) ≡ only_gives (a (codes "outer"))
unfolding kernel_run
falls_past_the_inner_one = refl

-- Calls: a tail call of the function at site 1, which calls the fun that it is given; only the first is a tail entry.
abbrev two_functions : List Fun
two_functions =
    function 0 (let_in (1 ∷ []) (simple (K.make_fun 2 (var 0 ∷ []))) (simple (K.local 1 (var 1 ∷ []))))
    ∷ function 1 (simple (K.apply (var 0) (lit (int 7) ∷ [])))
    ∷ record (function 2 (simple (K.cons (var 0) (var 1)))) { params = 0 ∷ 1 ∷ [] } ∷ []

calls_of_functions_and_funs : run_with two_functions (int 3) (script [] [])
    ≡ ended [] (record { site = 1; tail = true } ∷ record { site = 2; tail = false } ∷ []) [] [] 0
    (gives (T.cons (int 7) (int 3)))
unfolding kernel_run
calls_of_functions_and_funs = refl

-- Receives with a guard: of 0 and 1 the second is taken, since 1 div 0 raises; of 0 alone none is.

abbrev divides : Expr
divides = receive 0 1
    (guarded (let_in (2 ∷ []) (simple (K.bif Div (lit (int 1) ∷ var 1 ∷ [])))
    (simple (K.bif Exactly (var 2 ∷ lit (int 1) ∷ []))))
    (gives_one (var 1)) (fall 0))
    (lit (int 0)) (values (lit (a (codes "none")) ∷ []))

guard_in_a_receive : run_with (function 0 divides ∷ []) (int 0) (script (int 0 ∷ int 1 ∷ []) [])
    ≡ ended (taken 1 ∷ []) [] (look 0 false ∷ look 1 true ∷ []) (0 ∷ 1 ∷ []) 0 (gives (int 1))
unfolding kernel_run
guard_in_a_receive = refl

guard_that_takes_nothing : run_with (function 0 divides ∷ []) (int 0) (script (int 0 ∷ []) (brings [] ∷ []))
    ≡ ended (asked W.look (brings []) ∷ []) [] (look 0 false ∷ []) (0 ∷ []) 0 (gives (a (codes "none")))
unfolding kernel_run
guard_that_takes_nothing = refl

-- A monitor, and the receive of its message by the reference: with the receive marked, the 1,000 messages before it are
-- not examined.

abbrev watches : Expr
watches = let_in (1 ∷ [])
    (simple (K.remote (lit (a (codes "erlang"))) (lit (a (codes "monitor"))) (lit (a (codes "process")) ∷ var 0 ∷ [])))
    (receive 0 2
    (switch 2 (and_case (case (K.is_tuple 5) (3 ∷ 4 ∷ 5 ∷ 6 ∷ 7 ∷ [])
    (switch 3 (and_case (case (K.is (a (codes "DOWN"))) []
    (switch 5 (and_case (case (K.is (a (codes "process"))) []
    (guarded (simple (K.bif Exactly (var 4 ∷ var 1 ∷ []))) (gives_one (var 7)) (fall 0))) no_case) (fall 0))) no_case)
    (fall 0))) no_case) (fall 0))
    (lit (a (codes "infinity"))) (values (lit (a (codes "true")) ∷ [])))

abbrev watched : Term
watched = T.pid 7

abbrev down : Reply
down = record {
  arrivals = T.tuple (terms
      (a (codes "DOWN") ∷ T.reference 9 ∷ a (codes "process") ∷ watched ∷ a (codes "gone") ∷ [])) ∷ [];
  how = W.return;
  term = T.reference 9;
}

abbrev watch_run : List Mark → Result
watch_run ms = kernel_run (record { widths = 1 ∷ []; marks = ms; handed = [] }) (module_of (function 0 watches ∷ []))
    (record { name = codes "f"; arity = 1 }) (watched ∷ []) (script (replicate 1000 (a (codes "old"))) (down ∷ [])) 10

marked_receive_examines_one : (watch_run (record { receive = 0; reference = 1 } ∷ [])).examined ≡ 1000 ∷ []
unfolding kernel_run
marked_receive_examines_one = refl

marked_receive_gives : (watch_run (record { receive = 0; reference = 1 } ∷ [])).end ≡ gives (a (codes "gone"))
unfolding kernel_run
marked_receive_gives = refl

unmarked_receive_examines_all : length (watch_run []).examined ≡ 1001
unfolding kernel_run
unmarked_receive_examines_all = refl
