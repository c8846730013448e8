-- What is noted of lets that make a reference which some receive waits for (this project's own).
use Rattle.std.specs.Prelude.{ℕ, ◌-◌, List, ◌∷◌, length, take, Bool, true, false, Option, Some, None}
use Rattle.erl_term.specs.Term.{Term}
use Rattle.erl_term.specs.Terms.{Values, only}
use Rattle.world_model.specs.World.{asked}
use Rattle.world_model.specs.Run.{Note, happened, marked, began, cut, noting, State, gives, M, ◌>>=◌}
use Rattle.core_meaning.specs.EvaluationContext.{EvaluationContext, held}

-- the last note is that of the marking call, but for sub-binaries, which a run may note above it; what is no reference
-- is not bound
abbrev pub last_mark : Term → List Note → State → State
last_mark t (happened (asked q r) ∷ ns) s = noting (marked (record {
  reference = t;
  serial = s.next - length r.arrivals;
  before = take (length s.mailbox - length r.arrivals) s.mailbox;
})) s
last_mark t (cut n ∷ ns) s = last_mark t ns s
last_mark t _ s = s

-- a let that marks some receive notes what its call returned
abbrev pub marking : Bool → M Values → M Values
marking false m = m
marking true m = m >>= λ vs s. (last_mark (only vs) s.notes s, gives vs)

-- the value of the variable that marks a receive
abbrev pub awaited : EvaluationContext → Option ℕ → Option Term
awaited c None = None
awaited c (Some n) = held c.env n

-- a receive that has evaluated its timeout begins
abbrev pub beginning : {A : Type 0} → Option Term → M A → M A
beginning o m = λ s. m (noting (began o) s)
