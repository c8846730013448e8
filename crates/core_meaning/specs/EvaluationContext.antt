-- Where an expression is evaluated: what names mean there, and what the bindings hold.
use Rattle.std.specs.Prelude.{ℕ, ◌+◌, List, [], ◌∷◌, length, Bool, false, eqb, Option, Some, None, if◌then◌else◌}
use Rattle.erl_base.specs.Names.{Name}
use Rattle.erl_term.specs.Term.{Term}
use Rattle.erl_term.specs.Terms.{Values}
use Rattle.core_form.specs.Scope.{Use, Scope, binding, with_names, numbers_from, numbers_of}

-- where an expression stands: what names mean, what the bindings hold, the number of the first site in
-- it, whether it is in tail position, and the bindings by lets around it that make a reference
pub record EvaluationContext : Type 0 where
  pub scope : Scope
  pub env : List (ℕ × Term)
  pub next : ℕ
  pub tail : Bool
  pub lets : List ℕ

-- for a part that is not in tail position
abbrev pub inner : EvaluationContext → EvaluationContext
inner c = record c { tail = false }

-- for what stands behind n sites
abbrev pub past : ℕ → EvaluationContext → EvaluationContext
past n c = record c { next = c.next + n }

-- the value of the binding with a number
abbrev pub held : List (ℕ × Term) → ℕ → Option Term
held [] n = None
held (b ∷ bs) n = if eqb n b.0 then Some b.1 else held bs n

-- the values of bindings
abbrev pub held_all : List (ℕ × Term) → List ℕ → Values
held_all env [] = []
held_all env (n ∷ ns) = elim (held env n) [ None ↦ held_all env ns | Some t ↦ t ∷ held_all env ns ]

-- the values of captured variables, in their order
abbrev pub captured_terms : List (ℕ × Term) → List Use → Values
captured_terms env us = held_all env (numbers_of us)

-- bindings with these numbers and values
abbrev pub holding : List ℕ → Values → List (ℕ × Term) → List (ℕ × Term)
holding [] vs env = env
holding (n ∷ ns) [] env = env
holding (n ∷ ns) (v ∷ vs) env = (n, v) ∷ holding ns vs env

-- under further names, with these values
abbrev pub bind : List Name → Values → EvaluationContext → EvaluationContext
bind xs vs c = record c {
  scope = with_names c.scope xs;
  env = holding (numbers_from (length c.scope) (length xs)) vs c.env;
}

-- the value of a variable, which a name means here
abbrev pub value_of : EvaluationContext → Name → Option Term
value_of c x = elim (binding c.scope x) [ None ↦ None | Some n ↦ held c.env n ]
