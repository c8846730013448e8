-- Functions of small modules as bodies of each form, run: what happens, what is looked at, and the end.
use Rattle.std.proofs.Common.{◌≡◌, ℕ, List, [], ◌∷◌, length, true, false, Bool, Option, Some, None, refl, codes, replicate}
use Rattle.erl_term.specs.Term as T
use Rattle.erl_term.specs.Term.{Term, more, none}
use Rattle.erl_term.specs.Terms.{Values}
use Rattle.bif_table.specs.Builtins as B
use Rattle.world_model.specs.World as W
use Rattle.world_model.specs.World.{Reply, Happening, asked}
use Rattle.world_model.specs.Run.{State, Looked, Outcome, gives, raises, happenings, looks, numbered}
use Rattle.step_machine.specs.Bodies.{Here}
use Rattle.ssa_form.specs.Ssa.{var, lit, is_tagged_tuple, bif, element, check, make_fun, call_fun, call_remote, send, bs_create, peek, take_message, skip_message, wait, reset, reserve, bind, use_marker, FrameAction, allocate, set, br, succeeded, switch, ret, Body}
use Rattle.ssa_form.specs.Storage.{Around, Ended, done}
use Rattle.ssa_form.specs.Spots.{x_reg, y_slot, Spots}
use Rattle.ssa_form.specs.SsaRun.{all_terms, ssa_run}
use Rattle.ssa_form.specs.PlacedRun.{placed_run}
use Rattle.ssa_form.specs.FramedRun.{framed_run}
use Rattle.ssa_form.proofs.Bodies.{A, I, tup, to, plain_block, acting, body_of, ok, start_with, runs, placed, framed, outcome, gives_term, byte_shape}

-- what a run shows, in its order
pub record Shown : Type 0 where
  pub happenings : List Happening
  pub looks : List Looked
  pub end : Outcome Term

abbrev backwards : {A : Type 0} → List A → List A → List A
backwards [] ys = ys
backwards (x ∷ xs) ys = backwards xs (x ∷ ys)

abbrev shown : Ended → Option Shown
shown (done s r) = Some (record {
  happenings = backwards (happenings s.notes) [];
  looks = backwards (looks s.notes) [];
  end = r;
})
shown _ = None

-- let <R> = call 'erlang':'monitor'('process',P) in receive <{'DOWN',M,'process',Q,W}> when M =:= R -> W after
-- 'infinity' -> 'true', with its marker

abbrev marked : Body
marked = body_of (0 ∷ []) (
    plain_block (set (Some 1) reserve []
    ∷ set (Some 2) call_remote (A (codes "erlang") ∷ A (codes "monitor") ∷ A (codes "process") ∷ var 0 ∷ [])
    ∷ set None bind (var 1 ∷ var 2 ∷ []) ∷ []) (to 1)
    ∷ plain_block (set None use_marker (var 2 ∷ []) ∷ []) (to 2)
    ∷ plain_block (set (Some 3) (peek 0) [] ∷ []) (succeeded 3 3 6)
    ∷ plain_block (set None (check (is_tagged_tuple 5 (codes "DOWN"))) (var 3 ∷ []) ∷ []) (succeeded 3 4 5)
    ∷ plain_block (set (Some 4) (element 1) (var 3 ∷ []) ∷ set (Some 5) (bif B.Exactly) (var 4 ∷ var 2 ∷ []) ∷ [])
    (br (var 5) 7 5)
    ∷ plain_block (set None skip_message [] ∷ []) (to 2)
    ∷ plain_block (set None wait (A (codes "infinity") ∷ []) ∷ []) (succeeded 3 2 8)
    ∷ plain_block (set None take_message [] ∷ set (Some 6) (element 4) (var 3 ∷ []) ∷ []) (ret (var 6))
    ∷ plain_block (set None reset [] ∷ []) (ret (A (codes "true")))
    ∷ [])

abbrev marked_spots : Spots
marked_spots = (0, x_reg 0) ∷ (1, y_slot 1) ∷ (2, y_slot 0) ∷ (3, x_reg 0) ∷ (4, x_reg 1) ∷ (5, x_reg 1)
    ∷ (6, x_reg 0) ∷ []

abbrev marked_sizes : List (ℕ × ℕ)
marked_sizes = (0, 2) ∷ (1, 2) ∷ (2, 2) ∷ (3, 2) ∷ (4, 2) ∷ (5, 2) ∷ (6, 2) ∷ (7, 2) ∷ (8, 2) ∷ []

abbrev down : Term
down = tup (T.atom (codes "DOWN") ∷ T.reference 9 ∷ T.atom (codes "process") ∷ T.pid 7 ∷ T.atom (codes "gone") ∷ [])

abbrev monitored : Reply
monitored = record { arrivals = down ∷ []; how = W.return; term = T.reference 9 }

-- a mailbox of a thousand old messages
abbrev waiting : State
waiting = record {
  replies = monitored ∷ [];
  mailbox = numbered 0 (replicate 1000 (T.atom (codes "old")));
  next = 1000;
  left = 0;
  notes = [];
}

abbrev module_w : Here
module_w = record { name = codes "w"; own = T.pid 1; enter = λ n vs s. (s, gives T.nil) }

abbrev with_choices : List Bool → Around
with_choices cs = record { arities = 1 ∷ []; reached = []; choices = cs; uncounted = [] }

abbrev takes_the_thousandth : List Looked → Option Shown
takes_the_thousandth ls = Some (record {
  happenings = asked (W.call (codes "erlang") (codes "monitor") (T.atom (codes "process") ∷ T.pid 7 ∷ [])) monitored
      ∷ W.taken 1000 ∷ [];
  looks = ls;
  end = gives (T.atom (codes "gone"));
})

one_look : List Looked
one_look = record { serial = 1000; accepted = true } ∷ []

marked_in_variables : shown (ssa_run (with_choices []) module_w marked 20 (all_terms (T.pid 7 ∷ [])) [] waiting)
    ≡ takes_the_thousandth one_look
unfolding ssa_run one_look
marked_in_variables = refl

marked_in_spots : shown (placed_run (with_choices []) module_w (record { body = marked; spots = marked_spots }) 20
    (all_terms (T.pid 7 ∷ [])) [] waiting) ≡ takes_the_thousandth one_look
unfolding placed_run one_look
marked_in_spots = refl

marked_in_frames : shown
    (framed_run (with_choices []) module_w
    (record { body = marked; spots = marked_spots; sizes = marked_sizes }) 20
    (all_terms (T.pid 7 ∷ [])) [] waiting) ≡ takes_the_thousandth one_look
unfolding framed_run one_look
marked_in_frames = refl

-- the choice that the marker is forgotten: every message is looked at

abbrev examined : Ended → ℕ
examined (done s r) = length (looks s.notes)
examined _ = 0

forgotten_in_variables : examined
    (ssa_run (with_choices (false ∷ [])) module_w marked 4000 (all_terms (T.pid 7 ∷ [])) [] waiting) ≡ 1001
unfolding ssa_run
forgotten_in_variables = refl

forgotten_in_spots : examined
    (placed_run (with_choices (false ∷ [])) module_w (record { body = marked; spots = marked_spots }) 4000
    (all_terms (T.pid 7 ∷ [])) [] waiting) ≡ 1001
unfolding placed_run
forgotten_in_spots = refl

forgotten_in_frames : examined
    (framed_run (with_choices (false ∷ [])) module_w
    (record { body = marked; spots = marked_spots; sizes = marked_sizes }) 4000
    (all_terms (T.pid 7 ∷ [])) [] waiting) ≡ 1001
unfolding framed_run
forgotten_in_frames = refl

-- 'f'/2 = fun (P,X) -> do call 'erlang':'!'(P,fun (Y) -> {Y,X}) 'ok', where the fun is function 1

abbrev sends : Body
sends = body_of (0 ∷ 1 ∷ []) (
    plain_block (set (Some 2) (make_fun 1) (var 1 ∷ []) ∷ set (Some 3) send (var 0 ∷ var 2 ∷ []) ∷ [])
    (ret (A (codes "ok"))) ∷ [])

abbrev sends_spots : Spots
sends_spots = (0, x_reg 0) ∷ (1, x_reg 1) ∷ (2, x_reg 1) ∷ (3, x_reg 0) ∷ []

abbrev module_snd : Here
module_snd = record { name = codes "snd"; own = T.pid 1; enter = λ n vs s. (s, gives T.nil) }

abbrev around_snd : Around
around_snd = record { arities = 2 ∷ 2 ∷ []; reached = []; choices = []; uncounted = [] }

abbrev sent : Option Shown
sent = Some (record {
  happenings = asked (W.send (T.pid 2) (T.fun (codes "snd") 1 1 (more (I 7) none))) (ok []) ∷ [];
  looks = [];
  end = gives (T.atom (codes "ok"));
})

sends_in_variables : shown
    (ssa_run around_snd module_snd sends 20 (all_terms (T.pid 2 ∷ I 7 ∷ [])) [] (start_with (ok [] ∷ []))) ≡ sent
unfolding ssa_run
sends_in_variables = refl

sends_in_spots : shown (placed_run around_snd module_snd (record { body = sends; spots = sends_spots }) 20
    (all_terms (T.pid 2 ∷ I 7 ∷ [])) [] (start_with (ok [] ∷ []))) ≡ sent
unfolding placed_run
sends_in_spots = refl

sends_in_frames : shown (framed_run around_snd module_snd
    (record { body = sends; spots = sends_spots; sizes = (0, 0) ∷ [] }) 20
    (all_terms (T.pid 2 ∷ I 7 ∷ [])) [] (start_with (ok [] ∷ []))) ≡ sent
unfolding framed_run
sends_in_frames = refl

-- By a literal: a fun is called, which needs a frame there and nowhere else; a bit string is made; else the argument is
-- given back.

abbrev chooses : List FrameAction → Body
chooses first = body_of (0 ∷ 1 ∷ []) (
    plain_block [] (switch (var 0) 3 ((T.atom (codes "call"), 1) ∷ (T.atom (codes "bits"), 2) ∷ []))
    ∷ plain_block (acting first (set (Some 2) call_fun (lit (T.fun (codes "m") 0 1 none) ∷ var 1 ∷ [])) ∷ [])
    (ret (var 2))
    ∷ plain_block (set (Some 3) (bs_create (byte_shape ∷ byte_shape ∷ []))
    (var 1 ∷ lit (I 1) ∷ lit (I 255) ∷ lit (I 1) ∷ []) ∷ []) (ret (var 3))
    ∷ plain_block [] (ret (var 1))
    ∷ [])

abbrev chooses_spots : Spots
chooses_spots = (0, x_reg 0) ∷ (1, x_reg 1) ∷ (2, x_reg 0) ∷ (3, x_reg 0) ∷ []

abbrev in_frames : Values → Ended
in_frames vs = framed (chooses (allocate 0 ∷ [])) chooses_spots [] vs []

abbrev five_and_all : Term
five_and_all = T.bits (false ∷ false ∷ false ∷ false ∷ false ∷ true ∷ false ∷ true ∷ true ∷ true ∷ true ∷ true ∷ true
    ∷ true ∷ true ∷ true ∷ [])

fun_called_in_variables : outcome (runs (chooses []) (T.atom (codes "call") ∷ I 4 ∷ []) [])
    ≡ gives_term (tup (I 4 ∷ []))
unfolding ssa_run
fun_called_in_variables = refl

fun_called_in_spots : outcome (placed (chooses []) chooses_spots (T.atom (codes "call") ∷ I 4 ∷ []) [])
    ≡ gives_term (tup (I 4 ∷ []))
unfolding placed_run
fun_called_in_spots = refl

fun_called_in_frames : outcome (in_frames (T.atom (codes "call") ∷ I 4 ∷ [])) ≡ gives_term (tup (I 4 ∷ []))
unfolding framed_run
fun_called_in_frames = refl

fun_called_without_a_frame : framed (chooses []) chooses_spots [] (T.atom (codes "call") ∷ I 4 ∷ []) [] ≡ Ended.bad
unfolding framed_run
fun_called_without_a_frame = refl

bits_made_in_variables : outcome (runs (chooses []) (T.atom (codes "bits") ∷ I 5 ∷ []) []) ≡ gives_term five_and_all
unfolding ssa_run
bits_made_in_variables = refl

bits_made_in_spots : outcome (placed (chooses []) chooses_spots (T.atom (codes "bits") ∷ I 5 ∷ []) [])
    ≡ gives_term five_and_all
unfolding placed_run
bits_made_in_spots = refl

bits_made_in_frames : outcome (in_frames (T.atom (codes "bits") ∷ I 5 ∷ [])) ≡ gives_term five_and_all
unfolding framed_run
bits_made_in_frames = refl

-- what is no integer makes no bits
no_bits_in_frames : outcome (in_frames (T.atom (codes "bits") ∷ T.nil ∷ []))
    ≡ done (start_with []) (raises T.error (T.atom (codes "badarg")))
unfolding framed_run
no_bits_in_frames = refl

given_back_in_variables : outcome (runs (chooses []) (T.nil ∷ I 5 ∷ []) []) ≡ gives_term (I 5)
unfolding ssa_run
given_back_in_variables = refl

given_back_in_spots : outcome (placed (chooses []) chooses_spots (T.nil ∷ I 5 ∷ []) []) ≡ gives_term (I 5)
unfolding placed_run
given_back_in_spots = refl

given_back_in_frames : outcome (in_frames (T.nil ∷ I 5 ∷ [])) ≡ gives_term (I 5)
unfolding framed_run
given_back_in_frames = refl
