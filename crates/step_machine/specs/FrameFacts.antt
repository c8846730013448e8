-- Registers in a list and registers by number are one, and so are slots: the statements that laws are about.
use Rattle.std.specs.Prelude.{◌≡◌, ◌<◌, ℕ, List, length, get_or, set}
use Rattle.step_machine.specs.Frames.{with_cell, with_register}

-- Written in a list, a register holds what it holds where it is written by its number.
abbrev pub ListedRegistersAgree : Type 0 → Type 0
ListedRegistersAgree Cell = (nothing c : Cell) (n k : ℕ) (cs : List Cell) →
    get_or (with_cell nothing n c cs) k nothing ≡ with_register n c (λ j. get_or cs j nothing) k

-- A slot within its frame is written as a cell of a list that may grow.
abbrev pub SlotsAgree : Type 0 → Type 0
SlotsAgree Cell = (nothing c : Cell) (n : ℕ) (cs : List Cell) →
    n < length cs → set cs n c ≡ with_cell nothing n c cs
