-- Small bodies, and what they are run on.
use Rattle.std.proofs.Common.{ℕ, List, [], ◌∷◌, false, Option, Some, None, pos, codes}
use Rattle.erl_term.specs.Term as T
use Rattle.erl_term.specs.Term.{Term}
use Rattle.erl_term.specs.Terms.{Values, terms}
use Rattle.erl_term.specs.Segments.{Shape}
use Rattle.bif_table.specs.Builtins as B
use Rattle.world_model.specs.World as W
use Rattle.world_model.specs.World.{Reply}
use Rattle.world_model.specs.Run.{State, gives}
use Rattle.step_machine.specs.Bodies.{Here}
use Rattle.ssa_form.specs.Ssa.{Arg, var, lit, FrameAction, bif, tuple, call_local, call_remote, try_start, try_end, landing, catch_end, peek, take_message, skip_message, wait, reset, Set, set, Last, br, succeeded, switch, ret, Block, block, Body}
use Rattle.ssa_form.specs.Storage.{Around, Ended, done}
use Rattle.ssa_form.specs.SsaRun.{all_terms, ssa_run}
use Rattle.ssa_form.specs.Spots.{Spots}
use Rattle.ssa_form.specs.PlacedRun.{placed_run}
use Rattle.ssa_form.specs.FramedRun.{framed_run}

abbrev pub A : List ℕ → Arg
A a = lit (T.atom a)

abbrev pub I : ℕ → Term
I n = T.int (pos n)

abbrev pub tup : Values → Term
tup ts = T.tuple (terms ts)

abbrev pub to : ℕ → Last
to n = br (A (codes "true")) n n

abbrev pub plain_block : List Set → Last → Option Block
plain_block xs l = Some (block [] xs l)

abbrev pub body_of : List ℕ → List (Option Block) → Body
body_of ps bs = record { site = 0; params = ps; blocks = bs; contexts = [] }

abbrev pub ok : Values → Reply
ok ts = record { arrivals = ts; how = W.return; term = T.atom (codes "ok") }

abbrev pub start_with : List Reply → State
start_with rs = record { replies = rs; mailbox = []; next = 0; left = 10; notes = [] }

-- function 0 has one parameter and gives it back
abbrev pub here0 : Here
here0 = record { name = codes "m"; own = T.pid 1; enter = λ n vs s. (s, gives (tup vs)) }

abbrev pub around0 : Around
around0 = record { arities = 1 ∷ []; reached = []; choices = []; uncounted = [] }

abbrev pub runs : Body → Values → List Reply → Ended
runs b vs rs = ssa_run around0 here0 b 20 (all_terms vs) [] (start_with rs)

abbrev pub placed : Body → Spots → Values → List Reply → Ended
placed b ps vs rs = placed_run around0 here0 (record { body = b; spots = ps }) 20 (all_terms vs) [] (start_with rs)

abbrev pub framed : Body → Spots → List (ℕ × ℕ) → Values → List Reply → Ended
framed b ps sizes vs rs =
    framed_run around0 here0 (record { body = b; spots = ps; sizes = sizes }) 20 (all_terms vs) [] (start_with rs)

abbrev pub outcome : Ended → Ended
outcome (done s r) = done (start_with []) r
outcome e = e

abbrev pub gives_term : Term → Ended
gives_term t = done (start_with []) (gives t)

-- a set, and a last, after frame actions
abbrev pub acting : List FrameAction → Set → Set
acting as' x = record x { before = as' }

abbrev pub ending : List Set → List FrameAction → Last → Option Block
ending xs as' l = Some (record { phis = []; chain = xs; before = as'; last = l })

-- receive 'stop' -> 'stopped' after v0 -> 'late'
abbrev pub receive_loop : Body
receive_loop = body_of (0 ∷ []) (
    plain_block [] (to 2)
    ∷ None
    ∷ plain_block (set (Some 1) (peek 0) [] ∷ []) (succeeded 1 3 5)
    ∷ plain_block (set (Some 2) (bif B.Exactly) (var 1 ∷ A (codes "stop") ∷ []) ∷ []) (br (var 2) 4 6)
    ∷ plain_block (set None take_message [] ∷ []) (ret (A (codes "stopped")))
    ∷ plain_block (set None wait (var 0 ∷ []) ∷ []) (succeeded 0 2 7)
    ∷ plain_block (set None skip_message [] ∷ []) (to 2)
    ∷ plain_block (set None reset [] ∷ []) (ret (A (codes "late")))
    ∷ [])

-- if v0 is 1, the result is 'one', else v0; a phi chooses
abbrev pub branch : Body
branch = body_of (0 ∷ []) (
    plain_block [] (switch (var 0) 2 ((I 1, 1) ∷ []))
    ∷ plain_block [] (to 3)
    ∷ plain_block [] (to 3)
    ∷ Some (block (record { dst = 1; from = (1, A (codes "one")) ∷ (2, var 0) ∷ [] } ∷ []) [] (ret (var 1)))
    ∷ [])

-- hd(v0), or 'none' where it raises
abbrev pub head_or : Body
head_or = body_of (0 ∷ []) (
    plain_block (set (Some 1) (bif B.Hd) (var 0 ∷ []) ∷ []) (succeeded 1 1 2)
    ∷ plain_block [] (ret (var 1))
    ∷ plain_block [] (ret (A (codes "none")))
    ∷ [])

-- try hd(v0) catch C, R, T -> {C, R, T}
abbrev pub tried : Body
tried = body_of (0 ∷ []) (
    plain_block (set (Some 1) try_start [] ∷ []) (succeeded 1 1 2)
    ∷ plain_block (set (Some 2) (bif B.Hd) (var 0 ∷ []) ∷ set None try_end (var 1 ∷ []) ∷ []) (ret (var 2))
    ∷ plain_block (set (Some 3) landing (var 1 ∷ []) ∷ set (Some 4) landing (var 1 ∷ [])
    ∷ set (Some 5) landing (var 1 ∷ [])
    ∷ set (Some 6) tuple (var 3 ∷ var 4 ∷ var 5 ∷ []) ∷ []) (ret (var 6))
    ∷ [])

-- catch error(v0)
abbrev pub caught : Body
caught = body_of (0 ∷ []) (
    plain_block (set (Some 1) try_start [] ∷ []) (succeeded 1 1 2)
    ∷ plain_block (set (Some 2) call_remote (A (codes "erlang") ∷ A (codes "throw") ∷ var 0 ∷ [])
    ∷ set None try_end (var 1 ∷ []) ∷ []) (ret (var 2))
    ∷ plain_block (set (Some 3) catch_end (var 1 ∷ []) ∷ []) (ret (var 3))
    ∷ [])

-- {v0 called, v0}: a local call that is not the last
abbrev pub calls_once : Body
calls_once = body_of (0 ∷ []) (
    plain_block (set (Some 1) (call_local 0) (var 0 ∷ []) ∷ set (Some 2) tuple (var 1 ∷ var 0 ∷ []) ∷ []) (ret (var 2))
    ∷ [])

abbrev pub byte_shape : Shape
byte_shape = record { unit = 8; is_binary = false; signed = false; little = false; whole = false }
