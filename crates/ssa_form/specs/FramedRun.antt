-- What a body does whose variables have spots and whose blocks have stack frames. Beside what is wrong with spots
-- alone, a missing or a wrong frame, and an unset slot where the run may collect, are broken rules.
use Rattle.std.specs.Prelude.{◌≡◌, ℕ, suc, ◌+◌, ◌-◌, List, [], ◌∷◌, length, slice_get, set, take, drop, replicate, Bool, true, false, not, ◌&&◌, ltb, leb, eqb, Option, Some, None, if◌then◌else◌}
use Rattle.erl_term.specs.Term.{Term}
use Rattle.erl_term.specs.Terms.{Values}
use Rattle.world_model.specs.Run.{State, Outcome}
use Rattle.step_machine.specs.Bodies.{Here}
use Rattle.step_machine.specs.Frames.{MatchContext, with_register, in_frame, is_tag, lowest_tag, no_tags}
use Rattle.ssa_form.specs.Ssa.{Body, FrameAction, allocate, deallocate, kill, trim}
use Rattle.ssa_form.specs.Storage.{Held, Handler, Leaving, calls, ends_body, always_raises, Storage, Ended, done, Around}
use Rattle.ssa_form.specs.Spots.{Spot, x_reg, y_slot, Spots, spot_of, slot_count, Cell, empty, killed, own, tag, nothing, tag_in, is_tag_of, held_in}
use Rattle.ssa_form.specs.SsaRun.{only_if, all_terms, body_run, blocks}
use Rattle.ssa_form.specs.PlacedRun.{run_if, and_then}

-- a body with spots, whose sets and lasts carry frame actions, and for blocks the sizes of their frames; a block that
-- isn't named has none
pub record Framed : Type 0 where
  pub body : Body
  pub spots : Spots
  pub sizes : List (ℕ × ℕ)

-- X registers, and the slots of the frame, if there is one
pub record Stack : Type 0 where
  pub xs : ℕ → Cell
  pub frame : Option (List Cell)

-- the size of a block's frame
abbrev pub size_at : List (ℕ × ℕ) → ℕ → Option ℕ
size_at [] n = None
size_at (p ∷ ps) n = if eqb p.0 n then Some p.1 else size_at ps n

-- no slot is empty; killed ones may be there
abbrev pub none_empty : List Cell → Bool
none_empty [] = true
none_empty (empty ∷ cs) = false
none_empty (c ∷ cs) = none_empty cs

-- with this frame, if there is one
abbrev pub with_frame : Stack → Option (List Cell) → Option Stack
with_frame st None = None
with_frame st (Some ys) = Some (record st { frame = Some ys })

-- a frame of this size, or none
abbrev pub frame_is : Option ℕ → Option (List Cell) → Bool
frame_is None None = true
frame_is (Some n) (Some ys) = eqb (length ys) n
frame_is _ _ = false

module _ (spots : Spots) (sizes : List (ℕ × ℕ)) where
  -- the slots of a whole frame
  abbrev pub top : ℕ
  top = slot_count spots

  -- A frame has as many slots as the spots name, less those that were trimmed; slot n stands so much lower.
  abbrev pub index_of : ℕ → List Cell → Option ℕ
  index_of n ys = if leb top (n + length ys) && ltb n top then Some (n + length ys - top) else None

  -- the cell at an index, if there is one
  abbrev pub cell_at : Option ℕ → List Cell → Option Cell
  cell_at None ys = None
  cell_at (Some i) ys = slice_get ys i

  -- a slot that is missing is empty
  abbrev pub or_empty : Option Cell → Cell
  or_empty None = empty
  or_empty (Some c) = c

  -- what a slot of a frame holds
  abbrev pub slot_in : Option (List Cell) → ℕ → Cell
  slot_in None n = empty
  slot_in (Some ys) n = or_empty (cell_at (index_of n ys) ys)

  -- what a spot holds
  abbrev pub cell_of : Stack → Option Spot → Cell
  cell_of st None = empty
  cell_of st (Some (x_reg n)) = st.xs n
  cell_of st (Some (y_slot n)) = slot_in st.frame n

  -- a slot of the frame that holds no tag
  abbrev pub put_slot : Option ℕ → Cell → List Cell → Option (List Cell)
  put_slot None c ys = None
  put_slot (Some i) c ys = only_if (not (is_tag tag_in (or_empty (slice_get ys i)))) (set ys i c)

  -- slots are written outside the window alone
  abbrev pub write_slot : Bool → ℕ → Cell → Stack → Option Stack
  write_slot true n c st = None
  write_slot false n c st = in_frame None st.frame λ ys. with_frame st (put_slot (index_of n ys) c ys)

  -- a spot is written
  abbrev pub write_in : Bool → Cell → Option Spot → Stack → Option Stack
  write_in w c None st = None
  write_in w c (Some (x_reg n)) st = Some (record st { xs = with_register n c st.xs })
  write_in w c (Some (y_slot n)) st = write_slot w n c st

  -- no tag may stand in the slot or below it
  abbrev pub open_slot : Handler → Option ℕ → List Cell → Option (List Cell)
  open_slot h None ys = None
  open_slot h (Some i) ys = only_if (no_tags tag_in (take (suc i) ys)) (set ys i (tag h.tag h.landing))

  -- a handler opens in a slot
  abbrev pub open_in : Handler → Option Spot → Stack → Option Stack
  open_in h (Some (y_slot n)) st = in_frame None st.frame λ ys. with_frame st (open_slot h (index_of n ys) ys)
  open_in h _ st = None

  -- the lowest tag goes, and its slot is killed
  abbrev pub close_slot : ℕ → Option ℕ → List Cell → Option (List Cell)
  close_slot v None ys = None
  close_slot v (Some i) ys =
      only_if (is_tag_of v (or_empty (slice_get ys i)) && no_tags tag_in (take i ys)) (set ys i killed)

  -- the innermost handler closes
  abbrev pub close_in : ℕ → Option Spot → Stack → Option Stack
  close_in v (Some (y_slot n)) st = in_frame None st.frame λ ys. with_frame st (close_slot v (index_of n ys) ys)
  close_in v _ st = None

  -- a call needs a frame; where a body ends its frame goes, whose slots hold no tag
  abbrev pub stack_leaves : Leaving → Stack → Option Stack
  stack_leaves calls st = in_frame None st.frame λ ys. Some st
  stack_leaves ends_body st =
      elim st.frame [ None ↦ Some st | Some ys ↦ only_if (no_tags tag_in ys) (record st { frame = None }) ]
  stack_leaves always_raises st = Some st

  -- no slot is empty where the run collects
  abbrev pub stack_collects : Stack → Option Stack
  stack_collects st = elim st.frame [ None ↦ Some st | Some ys ↦ only_if (none_empty ys) st ]

  -- what a frame action does; it is a broken rule where the frame is another one
  abbrev pub acts_on : FrameAction → Stack → Option Stack
  acts_on (allocate n) st =
      if eqb n top then elim st.frame [ None ↦ Some (record st { frame = Some (replicate n empty) }) | Some ys ↦ None ]
      else None
  acts_on (deallocate n) st =
      in_frame None st.frame λ ys. only_if (eqb (length ys) n && no_tags tag_in ys) (record st { frame = None })
  acts_on (kill n) st = write_slot false n killed st
  acts_on (trim n) st =
      in_frame None st.frame λ ys.
      only_if (leb n (length ys) && no_tags tag_in (take n ys)) (record st { frame = Some (drop n ys) })

  -- the rules of a stack
  abbrev pub in_stack : Storage Stack
  in_stack = record {
    read = λ st v. held_in v (cell_of st (spot_of spots v));
    write = λ w v h st. write_in w (own v h) (spot_of spots v) st;
    collects = stack_collects;
    leaves = stack_leaves;
    arrives = λ n st. only_if (frame_is (size_at sizes n) st.frame) st;
    forgets = λ st. record st { xs = nothing };
    opens = λ h st. open_in h (spot_of spots h.tag) st;
    closes = λ v st. close_in v (spot_of spots v) st;
    handler = λ st. elim st.frame [ None ↦ None | Some ys ↦ lowest_tag tag_in ys ];
    acts = λ w a st. if w then None else acts_on a st;
  }

  -- arguments go into their parameters' spots
  abbrev pub params_in : List ℕ → List Held → Stack → Option Stack
  params_in [] [] st = Some st
  params_in (v ∷ vs) (h ∷ hs) st = and_then (write_in false (own v h) (spot_of spots v) st) (params_in vs hs)
  params_in _ _ st = None

-- the first frame has empty slots
abbrev pub first_frame : Option ℕ → Option (List Cell)
first_frame None = None
first_frame (Some n) = Some (replicate n empty)

-- the first block's frame is there at the start, and the arguments stand in their parameters' spots
unfoldable pub framed_run : Around → Here → Framed → ℕ → List Held → List MatchContext → State → Ended
unfolding blocks
framed_run around here p k hs cs s =
    run_if (params_in p.spots p.sizes p.body.params hs
    (record { xs = nothing; frame = first_frame (size_at p.sizes 0) }))
    λ st. body_run (in_stack p.spots p.sizes) around here p.body k st cs s

-- the body ends so, given these terms
pub record FramedGives (around : Around) (here : Here) (p : Framed) (vs : Values) (s : State)
    (r : State × Outcome Term) : Type 0 where
  pub within : ℕ
  pub ends : framed_run around here p within (all_terms vs) [] s ≡ done r.0 r.1
