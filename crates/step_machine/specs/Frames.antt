-- What frames and matches keep, in every form that has them (this project's own, after Erlang/OTP 25's BEAM).
use Rattle.std.specs.Prelude.{ℕ, zero, suc, List, [], ◌∷◌, drop, Bool, true, false, not, ◌&&◌, eqb, Option, Some, None, if◌then◌else◌}

-- a bit string that is being matched, and how many of its bits were taken
pub record MatchContext : Type 0 where
  pub bits : List Bool
  pub at : ℕ

-- the bits that are left
abbrev pub rest_of : MatchContext → List Bool
rest_of w = drop w.at w.bits

-- context n at another position
abbrev pub moved : ℕ → ℕ → List MatchContext → List MatchContext
moved n p [] = []
moved zero p (w ∷ ws) = record w { at = p } ∷ ws
moved (suc n) p (w ∷ ws) = w ∷ moved n p ws

-- What registers and slots hold, by number. A list says no more of what lies behind its end.
module _ {Cell : Type 0} where
  -- registers with one written anew, where nothing says how many there are
  abbrev pub with_register : ℕ → Cell → (ℕ → Cell) → ℕ → Cell
  with_register n c cs k = if eqb k n then c else cs k

  -- the same of a list of them, which grows up to it; those between hold nothing
  abbrev pub with_cell : Cell → ℕ → Cell → List Cell → List Cell
  with_cell nothing zero c [] = c ∷ []
  with_cell nothing zero c (d ∷ ds) = c ∷ ds
  with_cell nothing (suc n) c [] = nothing ∷ with_cell nothing n c []
  with_cell nothing (suc n) c (d ∷ ds) = d ∷ with_cell nothing n c ds

  -- what follows where a frame is wanted, and what comes where there is none
  abbrev pub in_frame : {A : Type 0} → A → Option (List Cell) → (List Cell → A) → A
  in_frame without None k = without
  in_frame without (Some ys) k = k ys

  -- what follows where no frame is wanted, and what comes where there is one
  abbrev pub no_frame : {A : Type 0} → A → Option (List Cell) → A → A
  no_frame within o a = elim o [ None ↦ a | Some ys ↦ within ]

-- The tags in the slots of a frame, where `tag_in` tells the open handler whose tag a cell holds.
module _ {Cell Handler : Type 0} (tag_in : Cell → Option Handler) where
  -- whether a cell holds a tag
  abbrev pub is_tag : Cell → Bool
  is_tag c = elim (tag_in c) [ None ↦ false | Some h ↦ true ]

  -- no cell holds a tag
  abbrev pub no_tags : List Cell → Bool
  no_tags [] = true
  no_tags (c ∷ cs) = not (is_tag c) && no_tags cs

  -- the tag in the lowest slot that holds one: the innermost handler of the frame
  abbrev pub lowest_tag : List Cell → Option Handler
  lowest_tag [] = None
  lowest_tag (c ∷ cs) = elim (tag_in c) [ None ↦ lowest_tag cs | Some h ↦ Some h ]
