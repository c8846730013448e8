-- Laws of one step.
use Rattle.std.proofs.Common.{◌≡◌, ◌≤◌, ◌+◌, ℕ, zero, suc, List, [], ◌∷◌, ◌++◌, length, take, replicate, true, false, ◌&&◌, Option, Some, None, refl, sym, ap, ap₂, ◌∙◌, arith}
use Rattle.erl_term.specs.Segments.{segment_value}
use Rattle.erl_term.specs.Term.{Term, Class}
use Rattle.world_model.specs.Run.{Entry, raises}
use Rattle.world_model.specs.World.{Reply, asked}
use Rattle.step_machine.specs.Frames.{rest_of, no_frame}
use Rattle.step_machine.specs.Steps.{Event, happened, entered, examined, sub_binary, goes, ends, bad, notes, asks, Ran, perform, run, sites}
use Rattle.beam_table.specs.StepFacts.{Entered, Fine, ByEvents, Untagged, RaiseUnwinds}
use Rattle.beam_table.proofs.Walk.{step_q}
use Rattle.beam_table.specs.Binaries.{starts, takes_segment, number_shape, shape, write_sub, context_in, read_segments, creates}
use Rattle.beam_table.specs.Code.{Insn, allocate, allocate_heap, test_heap, put_map_assoc, put_map_exact, bs_start_match4, bs_get_integer2, bs_get_binary2, bs_get_tail, bs_get_position, bs_create_bin, AsmModule}
use Rattle.beam_table.specs.Data.{read_pairs, put_in}
use Rattle.beam_table.specs.GeneralRules.{is_set, all_set, read, read_cell, write, write_term, needs, outside_window, collects, tag_of, lands, unwinds, frame_set, answers, Effect}
use Rattle.beam_table.specs.Inbox.{inbox}
use Rattle.beam_table.specs.InstructionStep.{act, step}
use Rattle.beam_table.specs.MachineState.{Kind, Cell, unset, position, Activation, Machine}

-- A step enters at most one function, and then goes on there; a tail entry adds no activation, another one adds
-- one. Without an entry no activation is added, and those that stay are as before.
pub step_fine : (a : AsmModule) (m : Machine) → Fine m.callers (step a m)
step_fine a m = step_q a m.callers (λ s w. Fine m.callers s) (λ w. tt) (λ w o. tt) (λ u s. s) (λ e u d. d)
    (λ n u w s e. s) (λ w n s q. q) (λ w s q. q) (λ w q f h. h) m refl

-- No step but an event's changes the mailbox.
pub step_by_events : (a : AsmModule) (m : Machine) → ByEvents (inbox m) (step a m)
step_by_events a m = step_q a m.callers (λ s w. ByEvents w s) (λ w. tt) (λ w o. tt) (λ u s. refl) (λ e u d. refl)
    (λ n u w s e. e) (λ w n s q. q) (λ w s q. q) (λ w q f h. h) m refl

module _ (f : Machine → List Reply → List Event → Ran) (k : ℕ)
    (bound : (m : Machine) (rs : List Reply) (log : List Event) → length (sites
    (f m rs log).log) ≤ k + length (sites log)) where
  entered_bound : (cs : List Activation) (e : Entry) (s : Effect) → Entered cs e s
      → (rs : List Reply) (log : List Event) → length (sites (perform s f rs log).log) ≤ k + length (sites log)
  entered_bound cs e (goes u) h rs log = bound u rs log
  entered_bound cs e (ends o) h rs log = absurd h
  entered_bound cs e bad h rs log = absurd h
  entered_bound cs e (notes n s) h rs log = absurd h
  entered_bound cs e (asks q g) h rs log = absurd h

  perform_bound : (cs : List Activation) (s : Effect) → Fine cs s → (rs : List Reply) (log : List Event)
      → length (sites (perform s f rs log).log) ≤ suc k + length (sites log)
  perform_bound cs (goes u) h rs log = omega (arith, bound u rs log)
  perform_bound cs (ends o) h rs log = omega arith
  perform_bound cs bad h rs log = omega arith
  perform_bound cs (notes (happened n) s) h rs log = perform_bound cs s h rs (happened n ∷ log)
  perform_bound cs (notes (examined n) s) h rs log = perform_bound cs s h rs (examined n ∷ log)
  perform_bound cs (notes sub_binary s) h rs log = perform_bound cs s h rs (sub_binary ∷ log)
  perform_bound cs (notes (entered e) s) h rs log = omega (arith, entered_bound cs e s h rs (entered e ∷ log))
  perform_bound cs (asks q g) h [] log = omega arith
  perform_bound cs (asks q g) h (r ∷ rs) log = perform_bound cs (g r) (h r) rs (happened (asked q r) ∷ log)

-- k steps enter at most k functions
pub entries_bound : (a : AsmModule) (k : ℕ) (m : Machine) (rs : List Reply) (log : List Event)
    → length (sites (run (step a) k m rs log).log) ≤ k + length (sites log)
unfolding run
entries_bound a zero m rs log = omega arith
entries_bound a (suc k) m rs log =
    perform_bound (run (step a) k) k (entries_bound a k) m.callers (step a m) (step_fine a m) rs log

-- What a raise does to the stack: it drops the activations without a tag up to the first that has one.

module _ (a : AsmModule) (c : Class) (r : Term) (m : Machine) where
  found : Option (Kind × ℕ) → Activation → List Activation → Effect
  found o f fs = elim o [
    | Some t ↦ lands a t.0 t.1 c r (record m { frame = f.frame; callers = fs })
    | None ↦ unwinds a fs c r m
  ]

  pub unwinds_past : (fs gs : List Activation) → Untagged fs → unwinds a (fs ++ gs) c r m ≡ unwinds a gs c r m
  unfolding found
  unwinds_past [] gs h = refl
  unwinds_past (f ∷ fs) gs h = ap (λ o. found o f (fs ++ gs)) h.0 ∙ unwinds_past fs gs h.1

  pub unwinds_at : (f : Activation) (fs : List Activation) (t : Kind × ℕ) → tag_of f.frame ≡ Some t
      → unwinds a (f ∷ fs) c r m ≡ lands a t.0 t.1 c r (record m { frame = f.frame; callers = fs })
  unfolding found
  unwinds_at f fs t h = ap (λ o. found o f fs) h

  pub unwinds_all : (fs : List Activation) → Untagged fs → unwinds a fs c r m ≡ ends (raises c r)
  unfolding found
  unwinds_all [] h = refl
  unwinds_all (f ∷ fs) h = ap (λ o. found o f fs) h.0 ∙ unwinds_all fs h.1

pub raise_unwinds : (a : AsmModule) → RaiseUnwinds a
raise_unwinds a = record {
  past = λ c r m fs gs h. unwinds_past a c r m fs gs h;
  at = λ c r m f fs t h. unwinds_at a c r m f fs t h;
  out = λ c r m fs h. unwinds_all a c r m fs h;
}

-- Collecting: nothing at or above Live is read, and room doesn't matter.

take-take : {A : Type 0} (n : ℕ) (xs : List A) → take n (take n xs) ≡ take n xs
take-take zero xs = refl
take-take (suc n) [] = refl
take-take (suc n) (x ∷ xs) = ap (λ l. x ∷ l) (take-take n xs)

all_set-take : (n : ℕ) (cs : List Cell) → all_set n (take n cs) ≡ all_set n cs
all_set-take zero cs = refl
all_set-take (suc n) [] = refl
all_set-take (suc n) (c ∷ cs) = ap (λ b. is_set c && b) (all_set-take n cs)

-- the machine with less: only the X registers below n, and other room
abbrev pub cut : ℕ → ℕ → Machine → Machine
cut n w m = record m { xs = take n m.xs; room = w }

pub collects_cut : (n w : ℕ) (m : Machine) (k : Machine → Effect) → collects n m k ≡ collects n (cut n w m) k
collects_cut n w m k =
    ap₂ (λ b l. needs (b && frame_set m.frame) (k (record m { xs = l; room = 0 })))
    (sym (all_set-take n m.xs)) (sym (take-take n m.xs))

-- the Live of the instructions that collect before they read
abbrev pub live_of : Insn → Option ℕ
live_of (allocate n k) = Some k
live_of (allocate_heap n w k) = Some k
live_of (test_heap w k) = Some k
live_of (put_map_assoc s d k ps) = Some k
live_of (put_map_exact s d k ps) = Some k
live_of (bs_start_match4 l k s d) = Some k
live_of (bs_get_integer2 l k c s u f d) = Some k
live_of (bs_get_binary2 l k c s u f d) = Some k
live_of (bs_get_tail c d k) = Some k
live_of (bs_get_position c d k) = Some k
live_of (bs_create_bin l k u d gs) = Some k
live_of _ = None

abbrev pub cut_for : Option ℕ → ℕ → Machine → Machine
cut_for None w m = m
cut_for (Some n) w m = cut n w m

pub act_cut : (a : AsmModule) (i : Insn) (w : ℕ) (m : Machine) → act a i m ≡ act a i (cut_for (live_of i) w m)
unfolding act
act_cut a (allocate n k) w m = ap (λ s. outside_window m (no_frame bad m.frame s))
    (collects_cut k w m λ u. goes (record u { frame = Some (replicate n unset); room = 0 }))
act_cut a (allocate_heap n v k) w m = ap (λ s. outside_window m (no_frame bad m.frame s))
    (collects_cut k w m λ u. goes (record u { frame = Some (replicate n unset); room = v }))
act_cut a (test_heap v k) w m = collects_cut k w m λ u. goes (record u { room = v })
act_cut a (put_map_assoc s d k ps) w m =
    collects_cut k w m λ u. read u s λ t. read_pairs u ps λ qs. answers a None (put_in false qs t) d u
act_cut a (put_map_exact s d k ps) w m =
    collects_cut k w m λ u. read u s λ t. read_pairs u ps λ qs. answers a None (put_in true qs t) d u
act_cut a (bs_start_match4 l k s d) w m = collects_cut k w m λ u. read_cell u s λ c. starts a l c d u
act_cut a (bs_get_integer2 l k c s j f d) w m = collects_cut k w m λ u.
    takes_segment a (number_shape j f) l c s u λ bs v. write_term v d (segment_value (number_shape j f) bs) goes
act_cut a (bs_get_binary2 l k c s j f d) w m =
    collects_cut k w m λ u. takes_segment a (shape true s j f) l c s u λ bs v. write_sub v d bs
act_cut a (bs_get_tail c d k) w m = collects_cut k w m λ u. context_in u c λ n v. write_sub u d (rest_of v)
act_cut a (bs_get_position c d k) w m = collects_cut k w m λ u. context_in u c λ n v. write u d (position v.at) goes
act_cut a (bs_create_bin l k j d gs) w m = collects_cut k w m λ u. read_segments u gs λ o. creates a o l d u
act_cut a _ w m = refl
