-- The three forms of a body as the contract of every pass sees them.
use Rattle.std.specs.Prelude.{ℕ, ◌+◌, ◌-◌, List, [], ◌∷◌, ◌++◌, map, length, sum, eqb, if◌then◌else◌, Option, Some, None}
use Rattle.erl_term.specs.Term.{Term}
use Rattle.world_model.specs.Run.{State, Outcome}
use Rattle.pass_contract.specs.InModule.{InModule}
use Rattle.pass_contract.specs.PassContract.{Run, fitting, by_site, IsProper, most, Form}
use Rattle.ssa_form.specs.Ssa.{Arg, var, lit, test_arity, is_tagged_tuple, Op, bif, map_get, element, check, call_local, call_fun, call_remote, bs_start, bs_integer, bs_binary, bs_skip, bs_done, bs_unit, peek, Set, Last, br, succeeded, switch, ret, Phi, Block, Body}
use Rattle.ssa_form.specs.Storage.{Around, Ended, done, unfinished}
use Rattle.ssa_form.specs.SsaRun.{all_terms, ssa_run}
use Rattle.ssa_form.specs.PlacedRun.{Placed, placed_run}
use Rattle.ssa_form.specs.FramedRun.{Framed, framed_run}
use Rattle.ssa_form.specs.SetFacts.{dst_vars}
use Rattle.ssa_form.specs.WellFormed.{blocks_set}

-- what a run came to that is over and broke no rule
abbrev pub result_of : Ended → Option (State × Outcome Term)
result_of (done s q) = Some (s, q)
result_of Ended.bad = None
result_of unfinished = None

-- what bodies mind of what is set for a module
abbrev pub around_in : InModule → Around
around_in m = record { arities = m.widths; reached = m.plan; choices = m.choices; uncounted = m.uncounted }

-- what a body gives with a value for each variable
abbrev pub ssa_does : Body → Around → Run
ssa_does b around =
    fitting (length b.params) λ here vs s k. result_of (ssa_run around here b k (all_terms vs) [] s)

-- with spots
abbrev pub placed_does : Placed → Around → Run
placed_does p around =
    fitting (length p.body.params) λ here vs s k. result_of (placed_run around here p k (all_terms vs) [] s)

-- with frames
abbrev pub framed_does : Framed → Around → Run
framed_does p around =
    fitting (length p.body.params) λ here vs s k. result_of (framed_run around here p k (all_terms vs) [] s)

-- functions by their sites, in each form
abbrev pub ssa_runs : InModule → List Body → ℕ → Run
ssa_runs m bs = by_site (λ b. ssa_does b (around_in m)) bs

-- with spots
abbrev pub placed_runs : InModule → List Placed → ℕ → Run
placed_runs m ps = by_site (λ p. placed_does p (around_in m)) ps

-- with frames
abbrev pub framed_runs : InModule → List Framed → ℕ → Run
framed_runs m ps = by_site (λ p. framed_does p (around_in m)) ps

-- what each set of a body has of its own, in order

-- what a function gives of the sets of a chain
abbrev pub chain_gathers : (Set → List ℕ) → List Set → List ℕ
chain_gathers f [] = []
chain_gathers f (x ∷ xs) = f x ++ chain_gathers f xs

-- of all sets of a body
abbrev pub gathers : (Set → List ℕ) → List (Option Block) → List ℕ
gathers f [] = []
gathers f (None ∷ os) = gathers f os
gathers f (Some x ∷ os) = chain_gathers f x.chain ++ gathers f os

-- a receive by its number
abbrev pub receive_of : Op → List ℕ
receive_of (peek n) = n ∷ []
receive_of _ = []

-- the variable that a call of another module's function is bound to
abbrev pub call_of : Op → Option ℕ → List ℕ
call_of call_remote d = dst_vars d
call_of _ d = []

-- the literals of operands
abbrev pub arg_lits : List Arg → List Term
arg_lits [] = []
arg_lits (var v ∷ as') = arg_lits as'
arg_lits (lit t ∷ as') = t ∷ arg_lits as'

-- of sets in a row
abbrev pub chain_lits : List Set → List Term
chain_lits [] = []
chain_lits (x ∷ xs) = arg_lits x.args ++ chain_lits xs

-- of phis
abbrev pub phi_lits : List Phi → List Term
phi_lits [] = []
phi_lits (p ∷ ps) = arg_lits (map (λ e. e.1) p.from) ++ phi_lits ps

-- of a last
abbrev pub last_lits : Last → List Term
last_lits (br a t e) = arg_lits (a ∷ [])
last_lits (succeeded v t e) = []
last_lits (switch a d cs) = arg_lits (a ∷ []) ++ map (λ c. c.0) cs
last_lits (ret a) = arg_lits (a ∷ [])

-- of blocks
abbrev pub blocks_lits : List (Option Block) → List Term
blocks_lits [] = []
blocks_lits (None ∷ os) = blocks_lits os
blocks_lits (Some x ∷ os) = phi_lits x.phis ++ chain_lits x.chain ++ last_lits x.last ++ blocks_lits os

-- the arguments of a call, beside what is called
abbrev pub arguments_of : Op → ℕ → List ℕ
arguments_of (call_local s) n = n ∷ []
arguments_of call_fun n = (n - 1) ∷ []
arguments_of call_remote n = (n - 2) ∷ []
arguments_of op n = []

-- the numbers of elements and sizes of tuples that an operation names; a switch on a tuple's size names none, since it
-- is a choice among integers
abbrev pub named_by : Op → List ℕ
named_by (element n) = n ∷ []
named_by (check (test_arity n)) = n ∷ []
named_by (check (is_tagged_tuple n a)) = n ∷ []
named_by _ = []

-- How many steps test something: listed functions, tests of terms, reads of a map's key, what begins and takes from a
-- context, and branches that are not plain. The other operations that a last may test build something, or wait.

-- of an operation
abbrev pub tests_of : Op → ℕ
tests_of (bif b) = 1
tests_of map_get = 1
tests_of (check c) = 1
tests_of bs_start = 1
tests_of (bs_integer h) = 1
tests_of (bs_binary h) = 1
tests_of (bs_skip h) = 1
tests_of bs_done = 1
tests_of (bs_unit n) = 1
tests_of _ = 0

-- of a last
abbrev pub last_tests : Last → ℕ
last_tests (br a t e) = if eqb t e then 0 else 1
last_tests _ = 0

-- how many steps choose among terms
abbrev pub last_choices : Last → ℕ
last_choices (switch a d cs) = 1
last_choices _ = 0

-- what a function gives of the lasts of a body, together
abbrev pub sum_lasts : (Last → ℕ) → List (Option Block) → ℕ
sum_lasts f [] = 0
sum_lasts f (None ∷ os) = sum_lasts f os
sum_lasts f (Some x ∷ os) = f x.last + sum_lasts f os

-- What is said beside a body, since it keeps neither: a number above all variables, and how many it may still get, as
-- the mark of each call that may be marked.
pub record Ahead : Type 0 where
  pub next : ℕ
  pub wanted : ℕ

-- a body as passes see it, by what it does
abbrev pub form_of : (Around → Run) → Ahead → Body → Form
form_of does ahead b = record {
  does = λ m. does (around_in m);
  arity = length b.params;
  receives = gathers (λ x. receive_of x.op) b.blocks;
  calls = gathers (λ x. call_of x.op x.dst) b.blocks;
  variables = b.params ++ blocks_set b.blocks;
  wanted = ahead.wanted;
  next = ahead.next;
  literals = blocks_lits b.blocks;
  counts = gathers (λ x. arguments_of x.op (length x.args)) b.blocks;
  highest = most (gathers (λ x. named_by x.op) b.blocks);
  tests = sum (gathers (λ x. tests_of x.op ∷ []) b.blocks) + sum_lasts last_tests b.blocks;
  choices = sum_lasts last_choices b.blocks;
}

-- of a body
abbrev pub ssa_form : Ahead → Body → Form
ssa_form ahead b = form_of (ssa_does b) ahead b

-- of one with spots
abbrev pub placed_form : Ahead → Placed → Form
placed_form ahead p = form_of (placed_does p) ahead p.body

-- of one with frames
abbrev pub framed_form : Ahead → Framed → Form
framed_form ahead p = form_of (framed_does p) ahead p.body

-- the runs of each form have at most one result, which is lawful where what they enter is
pub record BodiesAreProper : Type 0 where
  pub ssa : (b : Body) (around : Around) → IsProper (ssa_does b around)
  pub placed : (p : Placed) (around : Around) → IsProper (placed_does p around)
  pub framed : (p : Framed) (around : Around) → IsProper (framed_does p around)
