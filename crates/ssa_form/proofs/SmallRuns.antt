-- Small bodies, run.
use Rattle.std.proofs.Common.{◌≡◌, ℕ, List, [], ◌∷◌, Bool, true, false, ◌||◌, Some, None, refl, codes}
use Rattle.erl_term.specs.Term as T
use Rattle.erl_term.specs.Term.{Term}
use Rattle.erl_term.specs.Terms.{tagged}
use Rattle.bif_table.specs.Builtins as B
use Rattle.world_model.specs.World as W
use Rattle.world_model.specs.World.{asked, millis}
use Rattle.world_model.specs.Run as Run
use Rattle.world_model.specs.Run.{gives, raises, happenings, sub_binaries, State, Outcome, waits}
use Rattle.ssa_form.specs.Ssa.{var, lit, bif, tuple, map_put, call_local, bs_start, bs_integer, bs_tail, peek, take_message, skip_message, wait, set, succeeded, ret, Body}
use Rattle.ssa_form.specs.Storage.{Ended, done, tests}
use Rattle.ssa_form.specs.SetFacts.{may_raise, may_ask}
use Rattle.ssa_form.specs.SsaRun.{all_terms, ssa_run}
use Rattle.ssa_form.proofs.Bodies.{A, I, tup, to, plain_block, body_of, ok, start_with, here0, around0, runs, outcome, gives_term, receive_loop, branch, head_or, tried, caught, calls_once, byte_shape}

abbrev word : List ℕ → Term
word a = T.atom a

receives_late : runs receive_loop (I 5 ∷ []) (ok [] ∷ ok (word (codes "hello") ∷ []) ∷ ok [] ∷ ok [] ∷ [])
    ≡ done (record (start_with []) {
      mailbox = record { serial = 0; term = word (codes "hello") } ∷ [];
      next = 1;
      notes = Run.happened (asked (W.wait (millis 5)) (ok [])) ∷ Run.happened (asked W.look (ok []))
          ∷ Run.looked (record { serial = 0; accepted = false })
          ∷ Run.happened (asked (W.wait (millis 5)) (ok (word (codes "hello") ∷ [])))
          ∷ Run.happened (asked W.look (ok [])) ∷ [];
    }) (gives (word (codes "late")))
unfolding ssa_run
receives_late = refl

receives_second : runs receive_loop (I 5 ∷ []) (ok (I 1 ∷ word (codes "stop") ∷ []) ∷ [])
    ≡ done (record (start_with []) {
      mailbox = record { serial = 0; term = I 1 } ∷ [];
      next = 2;
      notes = Run.happened (W.taken 1) ∷ Run.looked (record { serial = 1; accepted = true })
          ∷ Run.looked (record { serial = 0; accepted = false })
          ∷ Run.happened (asked W.look (ok (I 1 ∷ word (codes "stop") ∷ []))) ∷ [];
    }) (gives (word (codes "stopped")))
unfolding ssa_run
receives_second = refl

-- a timeout of 0 looks once
receives_nothing : outcome (runs receive_loop (I 0 ∷ []) (ok [] ∷ [])) ≡ gives_term (word (codes "late"))
unfolding ssa_run
receives_nothing = refl

waits_for_more : outcome (runs receive_loop (word (codes "infinity") ∷ []) (ok [] ∷ []))
    ≡ done (start_with []) (waits (W.wait W.forever))
unfolding ssa_run
waits_for_more = refl

takes_first_choice : outcome (runs branch (I 1 ∷ []) []) ≡ gives_term (word (codes "one"))
unfolding ssa_run
takes_first_choice = refl

takes_other_way : outcome (runs branch (I 2 ∷ []) []) ≡ gives_term (I 2)
unfolding ssa_run
takes_other_way = refl

head_is_there : outcome (runs head_or (T.cons (I 1) T.nil ∷ []) []) ≡ gives_term (I 1)
unfolding ssa_run
head_is_there = refl

head_is_missing : outcome (runs head_or (T.nil ∷ []) []) ≡ gives_term (word (codes "none"))
unfolding ssa_run
head_is_missing = refl

raise_lands : outcome (runs tried (T.nil ∷ []) [])
    ≡ gives_term (tup (word (codes "error") ∷ word (codes "badarg") ∷ T.raw_trace T.error ∷ []))
unfolding ssa_run
raise_lands = refl

handler_closes : outcome (runs tried (T.cons (I 7) T.nil ∷ []) []) ≡ gives_term (I 7)
unfolding ssa_run
handler_closes = refl

throw_is_caught : outcome (runs caught (I 3 ∷ []) []) ≡ gives_term (I 3)
unfolding ssa_run
throw_is_caught = refl

call_is_noted : runs calls_once (I 4 ∷ []) []
    ≡ done (record (start_with []) { left = 9; notes = Run.entered (record { site = 0; tail = false }) ∷ [] })
    (gives (tup (tup (I 4 ∷ []) ∷ I 4 ∷ [])))
unfolding ssa_run
call_is_noted = refl

-- <<V, Rest/binary>>: the first byte and the rest
abbrev first_byte : Body
first_byte = body_of (0 ∷ []) (
    plain_block (set (Some 1) bs_start (var 0 ∷ []) ∷ []) (succeeded 1 1 3)
    ∷ plain_block (set (Some 2) (bs_integer byte_shape) (var 1 ∷ lit (I 1) ∷ []) ∷ []) (succeeded 2 2 3)
    ∷ plain_block (set (Some 3) bs_tail (var 1 ∷ []) ∷ set (Some 4) tuple (var 2 ∷ var 3 ∷ []) ∷ []) (ret (var 4))
    ∷ plain_block [] (ret (A (codes "none")))
    ∷ [])

abbrev byte_of_five : Term
byte_of_five = T.bits (false ∷ false ∷ false ∷ false ∷ false ∷ true ∷ false ∷ true ∷ true ∷ [])

takes_byte : runs first_byte (byte_of_five ∷ []) []
    ≡ done (record (start_with []) { notes = Run.cut 1 ∷ [] }) (gives (tup (I 5 ∷ T.bits (true ∷ []) ∷ [])))
unfolding ssa_run
takes_byte = refl

no_bits : outcome (runs first_byte (I 5 ∷ []) []) ≡ gives_term (word (codes "none"))
unfolding ssa_run
no_bits = refl

-- Broken rules.

-- a value ends a body while a message is looked at
abbrev ends_in_window : Body
ends_in_window = body_of [] (
    plain_block (set (Some 1) (peek 0) [] ∷ []) (succeeded 1 1 1) ∷ plain_block [] (ret (A (codes "ok"))) ∷ [])

window_is_left_open : runs ends_in_window [] (ok (I 1 ∷ []) ∷ []) ≡ Ended.bad
unfolding ssa_run
window_is_left_open = refl

-- a call while the save place is not at the start
abbrev calls_past_a_message : Body
calls_past_a_message = body_of [] (
    plain_block (set (Some 1) (peek 0) [] ∷ []) (succeeded 1 1 2) ∷ plain_block (set None skip_message [] ∷ []) (to 2)
    ∷ plain_block (set (Some 2) (call_local 0) (A (codes "ok") ∷ []) ∷ []) (ret (var 2)) ∷ [])

save_place_is_kept : runs calls_past_a_message [] (ok (I 1 ∷ []) ∷ []) ≡ Ended.bad
unfolding ssa_run
save_place_is_kept = refl

abbrev peeks_twice : Body
peeks_twice = body_of [] (
    plain_block (set (Some 1) (peek 0) [] ∷ []) (succeeded 1 1 1)
    ∷ plain_block (set (Some 2) (peek 1) [] ∷ []) (succeeded 2 1 1) ∷ [])

second_look_in_the_window : runs peeks_twice [] (ok (I 1 ∷ []) ∷ []) ≡ Ended.bad
unfolding ssa_run
second_look_in_the_window = refl

-- a variable that a failing bif did not set
abbrev reads_failed : Body
reads_failed = body_of (0 ∷ []) (
    plain_block (set (Some 1) (bif B.Hd) (var 0 ∷ []) ∷ []) (succeeded 1 1 1) ∷ plain_block [] (ret (var 1)) ∷ [])

failed_value_is_read : runs reads_failed (T.nil ∷ []) [] ≡ Ended.bad
unfolding ssa_run
failed_value_is_read = refl

raise_in_the_window : runs (body_of [] (
    plain_block (set (Some 1) (peek 0) [] ∷ []) (succeeded 1 1 1)
    ∷ plain_block (set (Some 2) (bif B.Hd) (var 1 ∷ []) ∷ []) (to 1) ∷ []))
    [] (ok (I 1 ∷ []) ∷ []) ≡ Ended.bad
unfolding ssa_run
raise_in_the_window = refl

-- receive M when (M#{'k' := 1}) is a map -> that map: a map update that the last tests does not raise

abbrev updates : Bool → Body
updates exact = body_of [] (
    plain_block [] (to 1)
    ∷ plain_block (set (Some 1) (peek 0) [] ∷ []) (succeeded 1 2 5)
    ∷ plain_block (set (Some 2) (map_put exact) (var 1 ∷ A (codes "k") ∷ lit (I 1) ∷ []) ∷ []) (succeeded 2 3 4)
    ∷ plain_block (set None take_message [] ∷ []) (ret (var 2))
    ∷ plain_block (set None skip_message [] ∷ []) (to 1)
    ∷ plain_block (set None wait (A (codes "infinity") ∷ []) ∷ []) (succeeded 1 1 1)
    ∷ [])

abbrev key_is : ℕ → Term
key_is n = T.map (T.pair (word (codes "k")) (I n) T.no_pair)

guard_updates_a_map : outcome (runs (updates true) [] (ok (I 7 ∷ T.map T.no_pair ∷ key_is 0 ∷ []) ∷ []))
    ≡ gives_term (key_is 1)
unfolding ssa_run
guard_updates_a_map = refl

guard_puts_into_a_map : outcome (runs (updates false) [] (ok (I 7 ∷ T.map T.no_pair ∷ []) ∷ [])) ≡ gives_term (key_is 1)
unfolding ssa_run
guard_puts_into_a_map = refl

-- so it stands in a window
tested_update_is_quiet : (e : ℕ) → (may_raise (tests e) (map_put true) || may_ask (map_put true)) ≡ false
tested_update_is_quiet e = refl

-- an update that is not tested raises
abbrev updated : Body
updated = body_of (0 ∷ [])
    (plain_block (set (Some 1) (map_put true) (var 0 ∷ A (codes "k") ∷ lit (I 1) ∷ []) ∷ []) (ret (var 1)) ∷ [])

update_of_no_map_raises : outcome (runs updated (I 7 ∷ []) [])
    ≡ done (start_with []) (raises T.error (tagged (codes "badmap") (I 7)))
unfolding ssa_run
update_of_no_map_raises = refl

-- a part that is handed on counts as no sub-binary

abbrev splits : Body
splits = body_of (0 ∷ []) (
    plain_block (set (Some 1) bs_start (var 0 ∷ []) ∷ []) (succeeded 1 1 2)
    ∷ plain_block (set (Some 2) bs_tail (var 1 ∷ []) ∷ []) (ret (var 2))
    ∷ plain_block [] (ret (var 0))
    ∷ [])

abbrev cuts_of : Ended → ℕ
cuts_of (done s r) = sub_binaries s.notes
cuts_of _ = 9

abbrev made : List ℕ → ℕ
made vs = cuts_of
    (ssa_run (record around0 { uncounted = vs }) here0 splits 20 (all_terms (T.bits [] ∷ [])) [] (start_with []))

counted_part : made [] ≡ 1
unfolding ssa_run
counted_part = refl

handed_part : made (2 ∷ []) ≡ 0
unfolding ssa_run
handed_part = refl
