-- Heap room: the words that operations build, and what is asked for before them.
use Rattle.std.specs.Prelude.{ℕ, suc, ◌+◌, ◌≤◌, List, [], ◌∷◌, length, max, Option, Some}
use Rattle.ssa_form.specs.Ssa.{Op, cons, tuple, make_fun, Set}
use Rattle.ssa_form.specs.Spots.{Spot, x_reg, Spots, spot_of}

-- the words that a set builds
abbrev pub words_of : Op → ℕ → ℕ
words_of cons n = 2
words_of tuple n = suc n
words_of (make_fun s) n = 4 + n
words_of op n = 0

-- the words that sets in a row build
abbrev pub built_words : List Set → ℕ
built_words [] = 0
built_words (x ∷ xs) = words_of x.op (length x.args) + built_words xs

-- room that is asked for before a set of a block: at least what the set builds, at most what the block builds
pub record IsRoom (chain : List Set) (x : Set) (words : ℕ) : Type 0 where
  pub enough : words_of x.op (length x.args) ≤ words
  pub no_more : words ≤ built_words chain

-- one more than the highest X register among the spots of these variables
abbrev pub registers_of : Option Spot → ℕ
registers_of (Some (x_reg n)) = suc n
registers_of _ = 0

-- one more than the highest X register of these variables
abbrev pub live_registers : Spots → List ℕ → ℕ
live_registers ps [] = 0
live_registers ps (v ∷ vs) = max (registers_of (spot_of ps v)) (live_registers ps vs)
