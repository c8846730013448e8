-- When a clause accepts, which clause is chosen, and which message a receive takes (Core Erlang 1.0.3, section 5).
use Rattle.std.specs.Prelude.{◌≡◌, ◌↔◌, ◌+◌, ◌∷◌, ◌++◌, List, [], IsTrue, Some, All}
use Rattle.erl_base.specs.declared.ids.Place.{Place}
use Rattle.erl_term.specs.Term.{Term}
use Rattle.erl_term.specs.Terms.{Values, terms}
use Rattle.world_model.specs.World.{Message}
use Rattle.world_model.specs.Run.{State, M}
use Rattle.world_model.specs.Receive.{Timeout, Tried, looking, receiving}
use Rattle.world_model.specs.Laws.{taking_behind, passing}
use Rattle.core_form.specs.Core.{Expr, Patterns, Clauses, and_clause, clause}
use Rattle.core_form.specs.Scope.{bound_all}
use Rattle.core_form.specs.Captures.{sites_in}
use Rattle.core_meaning.specs.PatternMatch.{AllMatch}
use Rattle.core_meaning.specs.Calls.{Invocation}
use Rattle.core_meaning.specs.EvaluationContext.{EvaluationContext, inner, past, bind, value_of}
use Rattle.core_meaning.specs.ClauseChoice.{blank, is_true}
use Rattle.core_meaning.specs.Evaluation.{eval, choose}

-- a clause with these patterns and this guard accepts values: its patterns match them, binding ws, and its guard then
-- gives the atom true
pub record Accepts (here : Invocation) (qs : Patterns) (guard : Expr) (vs : Values) (c : EvaluationContext)
    (ws : Values) : Type 0 where
  pub match : AllMatch (value_of c) qs (terms vs) ws
  pub holds : IsTrue (is_true (eval here guard (inner (bind (bound_all qs) ws c)) blank).1)

-- the first clause that accepts, and what is done then
pub data Chosen (here : Invocation) : Clauses → Values → EvaluationContext → M Values → Type 0 where
  this : {p : Place} {qs : Patterns} {g e : Expr} {cs : Clauses} {vs : Values} {c : EvaluationContext} (ws : Values)
      → Accepts here qs g vs c ws
      → Chosen here (and_clause (clause p qs g e) cs) vs c (eval here e (bind (bound_all qs) ws (past (sites_in g) c)))
  later : {p : Place} {qs : Patterns} {g e : Expr} {cs : Clauses} {vs : Values} {c : EvaluationContext}
      {body : M Values}
      → ((ws : Values) → Accepts here qs g vs c ws → ⊥)
      → Chosen here cs vs (past (sites_in g + sites_in e) c) body
      → Chosen here (and_clause (clause p qs g e) cs) vs c body

-- the clause that `choose` takes is the first that accepts
abbrev pub FirstAcceptingIsChosen : Type 0
FirstAcceptingIsChosen =
    (here : Invocation) (cs : Clauses) (vs : Values) (c : EvaluationContext) (body : M Values)
    → ((choose here cs vs c).body ≡ Some body) ↔ Chosen here cs vs c body

-- no clause accepts
abbrev pub NoneAccepts : Invocation → Clauses → Values → EvaluationContext → Type 0
NoneAccepts here cs vs c = (body : M Values) → Chosen here cs vs c body → ⊥

-- how the clauses of a receive try a message
abbrev pub trying : Invocation → Clauses → EvaluationContext → Term → Tried Values
trying here cs c t = choose here cs (t ∷ []) c

-- A receive takes the first message in the order of the mailbox that a clause accepts, and goes on with that clause's
-- body; the messages before it are passed over.
abbrev pub TakesTheFirst : Type 0
TakesTheFirst =
    (here : Invocation) (cs : Clauses) (c : EvaluationContext) (timeout : Timeout) (late : M Values) (s : State)
    (passed others : List Message) (m : Message) (body : M Values)
    → s.mailbox ≡ passed ++ m ∷ others
    → All (λ w. NoneAccepts here cs (w.term ∷ []) c) passed
    → Chosen here cs (m.term ∷ []) c body
    → receiving (trying here cs c) timeout late s ≡ body (taking_behind (trying here cs c) passed m s)

-- Where no clause accepts any message, all are passed over, and it looks for more.
abbrev pub LooksForMoreMessages : Type 0
LooksForMoreMessages =
    (here : Invocation) (cs : Clauses) (c : EvaluationContext) (timeout : Timeout) (late : M Values) (s : State)
    → All (λ w. NoneAccepts here cs (w.term ∷ []) c) s.mailbox
    → receiving (trying here cs c) timeout late s
    ≡ looking (trying here cs c) timeout late s.replies
    (record s { notes = passing (trying here cs c) s.mailbox s.notes })
