-- Small bodies, one with a certificate and some that have none.
use Rattle.std.specs.Prelude.{ℕ, List, [], ◌∷◌, Option, Some, None, codes}
use Rattle.erl_term.specs.Term as T
use Rattle.ssa_form.specs.Ssa.{Arg, var, lit, copy, trace, try_start, catch_end, peek, take_message, reset, set, Last, br, succeeded, ret, Block, block, Body}
use Rattle.ssa_form.specs.WellFormed.{WellFormed}
use Rattle.ssa_check.specs.Certificate.{Certificate}

-- blocks that are there
abbrev pub there : List Block → List (Option Block)
there [] = []
there (x ∷ xs) = Some x ∷ there xs

-- a body with one parameter, 0
abbrev pub body_of : List Block → Body
body_of xs = record { site = 0; params = 0 ∷ []; blocks = there xs; contexts = [] }

-- one atom, and another
abbrev pub a_term : Arg
a_term = lit (T.atom (codes "a"))

-- the other
abbrev pub b_term : Arg
b_term = lit (T.atom (codes "b"))

-- to block n
abbrev pub goes_to : ℕ → Last
goes_to n = br (lit (T.atom (codes "true"))) n n

-- Two ways, and a phi where they meet: variable 1 is one term or the other.
abbrev pub diamond : Body
diamond = body_of
    (block [] [] (br (var 0) 1 2)
    ∷ block [] [] (goes_to 3)
    ∷ block [] [] (goes_to 3)
    ∷ block (record { dst = 1; from = (1, a_term) ∷ (2, b_term) ∷ [] } ∷ []) [] (ret (var 1)) ∷ [])

-- a variable is used that the way around block 1 does not set
abbrev pub set_on_one_way : Body
set_on_one_way = body_of
    (block [] [] (br (var 0) 1 2)
    ∷ block [] (set (Some 1) copy (a_term ∷ []) ∷ []) (goes_to 2)
    ∷ block [] [] (ret (var 1)) ∷ [])

-- the message is used behind what unsets the registers that it is in
abbrev pub message_kept : Body
message_kept = body_of
    (block [] [] (goes_to 1)
    ∷ block [] (set (Some 1) (peek 0) [] ∷ []) (succeeded 1 2 3)
    ∷ block [] (set None take_message [] ∷ set None trace [] ∷ []) (ret (var 1))
    ∷ block [] (set None reset [] ∷ []) (ret a_term) ∷ [])

-- a handler is still open where the body ends
abbrev pub never_closes : Body
never_closes = body_of
    (block [] (set (Some 1) try_start [] ∷ []) (succeeded 1 1 2)
    ∷ block [] [] (ret (var 0))
    ∷ block [] (set None catch_end (var 1 ∷ []) ∷ []) (ret a_term) ∷ [])

-- The first has a certificate, and so is well formed; the others have none.
pub record Examples : Type 0 where
  pub certified : Certificate diamond
  pub formed : WellFormed diamond
  pub one_way : Certificate set_on_one_way → ⊥
  pub kept : Certificate message_kept → ⊥
  pub open_end : Certificate never_closes → ⊥
