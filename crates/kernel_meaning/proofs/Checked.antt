-- Well-formed and wrong functions in kernel form, judged by computing.
use Rattle.std.proofs.Common.{◌≡◌, ℕ, [], ◌∷◌, replicate, true, false, pos, codes, refl}
use Rattle.erl_term.specs.Term as T
use Rattle.erl_term.specs.Term.{Term}
use Rattle.kernel_form.specs.Kernel as K
use Rattle.kernel_form.specs.Kernel.{Value, var, lit, Expr, values, simple, let_in, match_in, receive, Tree, body, fall, either_in, switch, step, Cases, no_case, and_case, case, no_row}
use Rattle.kernel_meaning.specs.Walks.{receives, let_calls, binders}
use Rattle.kernel_meaning.specs.Windows.{window, window_fits}
use Rattle.kernel_meaning.specs.KernelPredicate.{gives, scoped, calls_fit, everywhere, switch_fits, is_by_steps, has_silent_guard, has_plain_guard}
use Rattle.kernel_meaning.specs.Tested.{sizes_named, tests_made, choices_made}

abbrev int : ℕ → Term
int n = T.int (pos n)

abbrev gives_one : Value → Tree
gives_one v = body (values (v ∷ []))

-- a call, a receive and a switch with two alternatives
abbrev whole : Expr
whole = let_in (1 ∷ []) (simple (K.remote (lit (T.atom (codes "erlang"))) (lit (T.atom (codes "make_ref"))) []))
    (let_in (2 ∷ []) (match_in
    (either_in 0 (switch 0 (and_case (case K.is_cons (3 ∷ 4 ∷ []) (gives_one (var 3))) no_case) (fall 0))
    (gives_one (var 1))))
    (receive 7 5 (switch 5 (and_case (case (K.is (int 1)) [] (gives_one (var 2))) no_case) (fall 0)) (lit (int 0))
    (values (var 1 ∷ []))))

whole_gives_one : gives whole 1 ≡ true
whole_gives_one = refl

whole_is_scoped : scoped whole (0 ∷ []) ≡ true
whole_is_scoped = refl

whole_binds : binders whole ≡ 1 ∷ 2 ∷ 3 ∷ 4 ∷ 5 ∷ []
whole_binds = refl

whole_receives : receives whole ≡ 7 ∷ []
whole_receives = refl

whole_calls : let_calls whole ≡ 1 ∷ []
whole_calls = refl

-- a let binds as many variables as there are values
let_of_two_values : gives (let_in (1 ∷ []) (values (var 0 ∷ var 0 ∷ [])) (values (var 1 ∷ []))) 1 ≡ false
let_of_two_values = refl

-- a match has no fall without an alternative, and none out of the second one
bare_fall : scoped (match_in (fall 3)) [] ≡ false
bare_fall = refl

fall_in_the_second : scoped (match_in (either_in 3 (gives_one (lit T.nil)) (fall 3))) [] ≡ false
fall_in_the_second = refl

-- a variable is read only behind its binder
unbound_variable : scoped (let_in (1 ∷ []) (values (var 1 ∷ [])) (values (var 1 ∷ []))) [] ≡ false
unbound_variable = refl

-- a body reads no context
context_read_as_a_term : scoped (match_in (step (K.start 0 1) (gives_one (var 1)) (gives_one (var 0)))) (0 ∷ []) ≡ false
context_read_as_a_term = refl

-- a position is no context, and belongs to the context that it was taken of
position_read_as_a_context : scoped
    (match_in (step (K.start 0 1)
    (step (K.mark 1 2) (step (K.done 2) (gives_one (var 0)) (gives_one (var 0))) (gives_one (var 0)))
    (gives_one (var 0)))) (0 ∷ []) ≡ false
position_read_as_a_context = refl

back_in_its_context : scoped
    (match_in (step (K.start 0 1)
    (step (K.mark 1 2) (step (K.back 1 2) (gives_one (var 0)) (gives_one (var 0))) (gives_one (var 0)))
    (gives_one (var 0)))) (0 ∷ []) ≡ true
back_in_its_context = refl

back_in_another_context : scoped
    (match_in (step (K.start 0 1)
    (step (K.start 0 3) (step (K.mark 1 2) (step (K.back 3 2) (gives_one (var 0)) (gives_one (var 0)))
    (gives_one (var 0))) (gives_one (var 0))) (gives_one (var 0)))) (0 ∷ []) ≡ false
back_in_another_context = refl

-- segments that are no steps yet
segments_left : everywhere (λ e. true) is_by_steps (match_in (K.segments 0 no_row (gives_one (var 0)))) ≡ false
segments_left = refl

-- guards that call, send and catch
guard_that_calls : everywhere (λ e. true) has_silent_guard
    (match_in (K.guarded (simple (K.local 0 [])) (gives_one (var 0)) (gives_one (var 0)))) ≡ false
guard_that_calls = refl

guard_that_sends : everywhere (λ e. true) has_silent_guard
    (match_in (K.guarded (let_in (1 ∷ []) (simple (K.send (var 0) (var 0))) (values (var 1 ∷ []))) (gives_one (var 0))
    (gives_one (var 0)))) ≡ false
guard_that_sends = refl

guard_that_catches : everywhere (λ e. true) has_silent_guard
    (match_in (K.guarded (K.catch (values (var 0 ∷ []))) (gives_one (var 0)) (gives_one (var 0)))) ≡ false
guard_that_catches = refl

-- a guard that opens a handler, and one that raises, which does not hold then
guard_that_tries : everywhere (λ e. true) has_plain_guard (match_in (K.guarded
    (K.try (values (var 0 ∷ [])) (1 ∷ []) (values (var 1 ∷ [])) (2 ∷ 3 ∷ 4 ∷ []) (values (var 0 ∷ [])))
    (gives_one (var 0)) (gives_one (var 0)))) ≡ false
guard_that_tries = refl

guard_that_raises : everywhere (λ e. true) has_plain_guard
    (match_in (K.guarded (simple (K.failing (var 0))) (gives_one (var 0)) (gives_one (var 0)))) ≡ true
guard_that_raises = refl

-- a receive whose guard puts a pair into the message
abbrev updating : Expr
updating = receive 7 1
    (K.guarded (let_in (2 ∷ []) (simple (K.map_put (var 1)
    (record { key = lit (int 1); value = var 0; exact = true } ∷ [])))
    (values (lit (T.atom (codes "true")) ∷ [])))
    (gives_one (var 1)) (fall 0)) (lit (int 0)) (values (var 0 ∷ []))

updating_guard_is_silent : everywhere (λ e. true) has_silent_guard updating ≡ true
updating_guard_is_silent = refl

updating_guard_is_plain : everywhere (λ e. true) has_plain_guard updating ≡ true
updating_guard_is_plain = refl

updating_is_scoped : scoped updating (0 ∷ []) ≡ true
updating_is_scoped = refl

-- each of the guard's three expressions may be asked what it gives; the update itself is no test
updating_tests : tests_made updating ≡ 3
updating_tests = refl

-- a call in the body behind a guard is none in the guard
body_that_calls : everywhere (λ e. true) has_silent_guard
    (match_in (K.guarded (values (var 0 ∷ [])) (body (simple (K.local 0 []))) (gives_one (var 0)))) ≡ true
body_that_calls = refl

-- a cell has two tests and two parts, a guard the variable of its let and its two steps; what the bodies bind is left
-- out
window_of_a_tree : window (switch 0 (and_case (case K.is_cons (1 ∷ 2 ∷ []) (K.guarded
    (let_in (3 ∷ []) (simple (K.cons (var 1) (var 2))) (simple (K.cons (var 3) (var 3))))
    (body (let_in (4 ∷ []) (values (var 1 ∷ [])) (values (var 4 ∷ [])))) (fall 0))) no_case) (fall 0)) ≡ 7
window_of_a_tree = refl

-- tuples of 1,018 and of 1,019 parts
abbrev receives_tuple : ℕ → Expr
receives_tuple n = receive 0 1
    (switch 1 (and_case (case (K.is_tuple n) (replicate n 2) (gives_one (var 1))) no_case) (fall 0))
    (lit (int 0)) (values [])

window_that_fits : window_fits (receives_tuple 1018) ≡ true
window_that_fits = refl

window_that_does_not_fit : window_fits (receives_tuple 1019) ≡ false
window_that_does_not_fit = refl

-- a call of a function with two parameters
call_with_one_argument : everywhere (calls_fit (2 ∷ [])) (λ t. true) (simple (K.local 0 (var 0 ∷ []))) ≡ false
call_with_one_argument = refl

-- a literal list beside a cell; a second switch on the variable
literal_beside_a_cell : everywhere (λ e. true) switch_fits
    (match_in (switch 0 (and_case (case (K.is (T.cons (int 1) T.nil)) [] (gives_one (var 0)))
    (and_case (case K.is_cons (1 ∷ 2 ∷ []) (gives_one (var 1))) no_case)) (gives_one (var 0)))) ≡ false
literal_beside_a_cell = refl

switch_after_switch : everywhere (λ e. true) switch_fits
    (match_in (switch 0 (and_case (case (K.is (int 1)) [] (gives_one (var 0))) no_case)
    (switch 0 (and_case (case (K.is (int 2)) [] (gives_one (var 0))) no_case) (gives_one (var 0))))) ≡ false
switch_after_switch = refl

switch_after_a_key : everywhere (λ e. true) switch_fits
    (match_in (switch 0 (and_case (case (K.map_has (lit (int 1))) (1 ∷ []) (gives_one (var 1))) no_case)
    (switch 0 (and_case (case (K.map_has (lit (int 2))) (2 ∷ []) (gives_one (var 2))) no_case) (gives_one (var 0)))))
    ≡ true
switch_after_a_key = refl

-- Choices and tests: two literals or more are one choice, and no test; a tuple is two tests, and its size is named.

abbrev literals_chosen : Expr
literals_chosen = match_in (switch 0 (and_case (case (K.is (T.atom (codes "a"))) [] (gives_one (lit (int 1))))
    (and_case (case (K.is (int 2)) [] (gives_one (var 0))) no_case)) (gives_one (lit T.nil)))

literals_are_one_choice : choices_made literals_chosen ≡ 1
literals_are_one_choice = refl

literals_are_no_test : tests_made literals_chosen ≡ 0
literals_are_no_test = refl

tuple_is_two_tests : tests_made (receives_tuple 3) ≡ 2
tuple_is_two_tests = refl

tuple_names_its_size : sizes_named (receives_tuple 3) ≡ 3 ∷ []
tuple_names_its_size = refl
