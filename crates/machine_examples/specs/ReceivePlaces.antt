-- Where a receive begins to look: the save place (after OTP 25's BEAM).
use Rattle.std.specs.Prelude.{◌≡◌, ℕ, List, [], ◌∷◌}
use Rattle.world_model.specs.World as W
use Rattle.step_machine.specs.Steps.{Ran, End, serials}
use Rattle.beam_table.specs.Code.{Insn, label, allocate, deallocate, return, if_end, compares, try, try_case, loop_rec, remove_message, loop_rec_end, wait_timeout, timeout}
use Rattle.bif_table.specs.TermTests.{is_eq_exact}
use Rattle.machine_examples.specs.Build.{atom, x0, r, a, i, script, back, runs, returns}

-- the messages that a run examined, the latest first, and how it ended
abbrev pub looks_and_end : Ran → List ℕ × End
looks_and_end s = (serials s.log, s.end)

-- the reply to a look that brings nothing
abbrev pub nothing_came : W.Reply
nothing_came = back (atom "ok")

-- takes b, and then the first message
abbrev pub takes_b : List Insn
takes_b =
    label 3 ∷ loop_rec 5 0 ∷ compares is_eq_exact 4 (r x0) (a "b") ∷ remove_message ∷ loop_rec 5 0 ∷ remove_message
    ∷ return ∷ label 4 ∷ loop_rec_end 3 ∷ label 5 ∷ if_end ∷ []

-- passes over all messages, and takes the first one once the timeout has come
abbrev pub takes_after_timeout : List Insn
takes_after_timeout =
    label 3 ∷ loop_rec 5 0 ∷ loop_rec_end 3 ∷ label 5 ∷ wait_timeout 3 (i 0) ∷ timeout
    ∷ loop_rec 6 0 ∷ remove_message ∷ return ∷ label 6 ∷ if_end ∷ []

-- passes over all messages, and takes the first one once a wrong timeout has raised
abbrev pub takes_after_raise : List Insn
takes_after_raise =
    allocate 1 0 ∷ try 0 6 ∷ label 3 ∷ loop_rec 5 0 ∷ loop_rec_end 3 ∷ label 5 ∷ wait_timeout 3 (a "bad")
    ∷ label 6 ∷ try_case 0 ∷ loop_rec 7 0 ∷ remove_message ∷ deallocate 1 ∷ return ∷ label 7 ∷ if_end ∷ []

-- what brings the save place to the start
pub record ReceivePlaces : Type 0 where
  -- a message that is taken brings the save place to the start
  pub after_a_message : looks_and_end (runs takes_b [] (script (atom "a" ∷ atom "b" ∷ []) []))
      ≡ (0 ∷ 1 ∷ 0 ∷ [], returns (atom "a"))
  -- so does a timeout
  pub after_a_timeout : looks_and_end (runs takes_after_timeout [] (script (atom "a" ∷ []) (nothing_came ∷ [])))
      ≡ (0 ∷ 0 ∷ [], returns (atom "a"))
  -- and the raise of a wrong one
  pub after_a_wrong_timeout : looks_and_end (runs takes_after_raise [] (script (atom "a" ∷ []) (nothing_came ∷ [])))
      ≡ (0 ∷ 0 ∷ [], returns (atom "a"))
