-- Registers and slots of the stack frame, and what they hold.
use Rattle.std.specs.Prelude.{ℕ, suc, List, [], ◌∷◌, max, Bool, false, eqb, Option, Some, None, if◌then◌else◌}
use Rattle.ssa_form.specs.Storage.{Held, unset, Handler}

-- an X register, or a slot of the frame
pub data Spot : Type 0 where
  x_reg y_slot : ℕ → Spot

-- the spot of each variable
abbrev pub Spots : Type 0
Spots = List (ℕ × Spot)

-- a variable's spot
abbrev pub spot_of : Spots → ℕ → Option Spot
spot_of [] v = None
spot_of (p ∷ ps) v = if eqb p.0 v then Some p.1 else spot_of ps v

-- What a spot holds: nothing, nothing any more, the value of this variable, or the tag of an open handler: its
-- variable and the block where raises land.
pub data Cell : Type 0 where
  empty killed : Cell
  own : ℕ → Held → Cell
  tag : ℕ → ℕ → Cell

-- no spot holds anything
abbrev pub nothing : ℕ → Cell
nothing n = empty

-- the handler whose tag a cell holds
abbrev pub tag_in : Cell → Option Handler
tag_in (tag v b) = Some (record { tag = v; landing = b })
tag_in _ = None

-- the tag of this variable's handler
abbrev pub is_tag_of : ℕ → Cell → Bool
is_tag_of v (tag w b) = eqb v w
is_tag_of v _ = false

-- a variable's value where the cell is its own; another variable's value is no value
abbrev pub held_in : ℕ → Cell → Held
held_in v (own w h) = if eqb w v then h else unset
held_in v _ = unset

-- how many slots the spots name
abbrev pub slots_after : Spot → ℕ
slots_after (x_reg n) = 0
slots_after (y_slot n) = suc n

-- how many slots they name in all
abbrev pub slot_count : Spots → ℕ
slot_count [] = 0
slot_count (p ∷ ps) = max (slots_after p.1) (slot_count ps)
