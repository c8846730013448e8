-- How meanings pass values on.
use Rattle.std.specs.Prelude.{[], ◌∷◌, Option, Some, None}
use Rattle.erl_term.specs.Term.{Term, Class}
use Rattle.erl_term.specs.Terms.{Values, only}
use Rattle.world_model.specs.Run.{State, Outcome, gives, raises, waits, spent, M, ◌>>=◌, give}

-- one value or none
abbrev pub as_values : Option Term → Values
as_values None = []
as_values (Some t) = t ∷ []

-- goes on with the value of an expression that has one
abbrev pub one : {B : Type 0} → M Values → (Term → M B) → M B
one m f = m >>= λ vs. f (only vs)

-- gives one value
abbrev pub single : Term → M Values
single t = give (t ∷ [])

-- goes on with the values, or with the class and the reason
abbrev pub ends : {A B : Type 0} → State → Outcome A → (A → M B) → (Class → Term → M B) → State × Outcome B
ends s (gives a) f g = f a s
ends s (raises c r) f g = g c r s
ends s (waits q) f g = (s, waits q)
ends s spent f g = (s, spent)

-- the same, of a state with an outcome
abbrev pub ending : {A B : Type 0} → State × Outcome A → (A → M B) → (Class → Term → M B) → State × Outcome B
ending r f g = ends r.0 r.1 f g

-- goes on with what a meaning gives, or with what it raises
abbrev pub either : {A B : Type 0} → M A → (A → M B) → (Class → Term → M B) → M B
either m f g = λ s. ending (m s) f g
