-- What a body does whose variables have spots. Reading a spot that holds no value, or another variable's, is a broken
-- rule.
use Rattle.std.specs.Prelude.{◌≡◌, ℕ, List, [], ◌∷◌, Bool, true, false, not, ltb, Option, Some, None, if◌then◌else◌}
use Rattle.erl_term.specs.Term.{Term}
use Rattle.erl_term.specs.Terms.{Values}
use Rattle.world_model.specs.Run.{State, Outcome}
use Rattle.step_machine.specs.Bodies.{Here}
use Rattle.step_machine.specs.Frames.{MatchContext, with_register, is_tag}
use Rattle.ssa_form.specs.Ssa.{Body}
use Rattle.ssa_form.specs.Storage.{Held, Handler, Leaving, ends_body, Storage, Ended, done, Around}
use Rattle.ssa_form.specs.Spots.{Spot, x_reg, y_slot, Spots, spot_of, Cell, empty, own, tag, nothing, tag_in, is_tag_of, held_in}
use Rattle.ssa_form.specs.SsaRun.{no_handlers, first_handler, without_first, only_if, all_terms, body_run, blocks}

-- a body with the spot of each variable
pub record Placed : Type 0 where
  pub body : Body
  pub spots : Spots

-- X registers and slots of the frame, of which there are as many as are wanted; the handlers from the inside out
pub record Registers : Type 0 where
  pub xs : ℕ → Cell
  pub ys : ℕ → Cell
  pub handlers : List Handler

-- the next, if there is a first
abbrev pub and_then : {A : Type 0} → Option A → (A → Option A) → Option A
and_then None k = None
and_then (Some a) k = k a

module _ (spots : Spots) where
  -- what a spot holds
  abbrev pub cell_of : Registers → Option Spot → Cell
  cell_of st None = empty
  cell_of st (Some (x_reg n)) = st.xs n
  cell_of st (Some (y_slot n)) = st.ys n

  -- no slot is written in the receive window, and no tag is written over
  abbrev pub write_in : Bool → Cell → Option Spot → Registers → Option Registers
  write_in w c None st = None
  write_in w c (Some (x_reg n)) st = Some (record st { xs = with_register n c st.xs })
  write_in true c (Some (y_slot n)) st = None
  write_in false c (Some (y_slot n)) st =
      only_if (not (is_tag tag_in (st.ys n))) (record st { ys = with_register n c st.ys })

  -- a slot above this one
  abbrev pub in_higher : ℕ → Option Spot → Bool
  in_higher n (Some (y_slot m)) = ltb n m
  in_higher n _ = false

  -- all handlers stand in slots above
  abbrev pub all_higher : ℕ → List Handler → Bool
  all_higher n [] = true
  all_higher n (h ∷ hs) = if in_higher n (spot_of spots h.tag) then all_higher n hs else false

  -- an inner handler's tag has a lower slot than an outer one's
  abbrev pub open_in : Handler → Option Spot → Registers → Option Registers
  open_in h (Some (y_slot n)) st =
      only_if (all_higher n st.handlers)
      (record st { ys = with_register n (tag h.tag h.landing) st.ys; handlers = h ∷ st.handlers })
  open_in h _ st = None

  -- with these handlers left
  abbrev pub with_rest : Option (List Handler) → Registers → Option Registers
  with_rest None st = None
  with_rest (Some hs) st = Some (record st { handlers = hs })

  -- the innermost handler closes
  abbrev pub close_in : ℕ → Option Spot → Registers → Option Registers
  close_in v (Some (y_slot n)) st =
      if is_tag_of v (st.ys n)
      then with_rest (without_first v st.handlers) (record st { ys = with_register n empty st.ys }) else None
  close_in v _ st = None

  -- no handler is open where a body ends
  abbrev pub registers_leave : Leaving → Registers → Option Registers
  registers_leave ends_body st = only_if (no_handlers st.handlers) st
  registers_leave _ st = Some st

  -- calls, looks and waits unset the X registers
  abbrev pub in_registers : Storage Registers
  in_registers = record {
    read = λ st v. held_in v (cell_of st (spot_of spots v));
    write = λ w v h st. write_in w (own v h) (spot_of spots v) st;
    collects = λ st. Some st;
    leaves = registers_leave;
    arrives = λ n st. Some st;
    forgets = λ st. record st { xs = nothing };
    opens = λ h st. open_in h (spot_of spots h.tag) st;
    closes = λ v st. close_in v (spot_of spots v) st;
    handler = λ st. first_handler st.handlers;
    acts = λ w a st. None;
  }

  -- the arguments stand in their parameters' spots
  abbrev pub params_in : List ℕ → List Held → Registers → Option Registers
  params_in [] [] st = Some st
  params_in (v ∷ vs) (h ∷ hs) st = and_then (write_in false (own v h) (spot_of spots v) st) (params_in vs hs)
  params_in _ _ st = None

-- nothing is held
abbrev pub no_registers : Registers
no_registers = record { xs = nothing; ys = nothing; handlers = [] }

-- a run, if it can start
abbrev pub run_if : {A : Type 0} → Option A → (A → Ended) → Ended
run_if None k = Ended.bad
run_if (Some a) k = k a

-- the body's run with its arguments in their spots
unfoldable pub placed_run : Around → Here → Placed → ℕ → List Held → List MatchContext → State → Ended
unfolding blocks
placed_run around here p k hs cs s =
    run_if (params_in p.spots p.body.params hs no_registers) λ st.
    body_run (in_registers p.spots) around here p.body k st cs s

-- the body ends so, given these terms
pub record PlacedGives (around : Around) (here : Here) (p : Placed) (vs : Values) (s : State)
    (r : State × Outcome Term) : Type 0 where
  pub within : ℕ
  pub ends : placed_run around here p within (all_terms vs) [] s ≡ done r.0 r.1
