-- The clause that is chosen accepts and is the first that does; the message that is taken likewise.
use Rattle.std.proofs.Common.{◌≡◌, ◌↔◌, Bool, true, false, Option, Some, None, refl, sym, subst, ap, ◌∙◌, ◌+◌}
use Rattle.erl_base.specs.declared.ids.Place.{Place}
use Rattle.erl_term.specs.Term.{Term}
use Rattle.erl_term.specs.Terms.{Values, terms}
use Rattle.world_model.specs.Run.{State, Outcome, M}
use Rattle.world_model.specs.Receive.{Timeout, Tried}
use Rattle.world_model.specs.Laws.{TakesFirst, LooksForMore}
use Rattle.core_form.specs.Core.{Expr, Patterns, Clauses, no_clause, and_clause, clause}
use Rattle.core_form.specs.Captures.{sites_in}
use Rattle.core_form.specs.Scope.{bound_all}
use Rattle.core_meaning.specs.SegmentMatch.{if_there}
use Rattle.core_meaning.specs.PatternMatch.{match_all}
use Rattle.core_meaning.specs.Calls.{Invocation}
use Rattle.core_meaning.specs.EvaluationContext.{EvaluationContext, inner, past, bind, value_of}
use Rattle.core_meaning.specs.ClauseChoice.{blank, is_true, taken_if, guarded}
use Rattle.core_meaning.specs.Evaluation.{eval, choose}
use Rattle.core_meaning.specs.SelectiveReceive.{Accepts, Chosen, this, later, NoneAccepts, trying, TakesTheFirst, LooksForMoreMessages}
use Rattle.core_meaning.proofs.Matching.{all_give, from_all}

some_one : {A : Type 0} {x y : A} → Some x ≡ Some y → x ≡ y
some_one {A} {x} {y} e =
    let take_out : Option A → A = λ o. elim o [ None ↦ x | Some z ↦ z ] in
    ap take_out e

-- what patterns bind, and whether the guard then holds
module _ (here : Invocation) (p : Place) (qs : Patterns) (g e : Expr) (cs : Clauses) (vs : Values)
    (c : EvaluationContext) where
  abbrev body_with : Values → M Values
  body_with ws = eval here e (bind (bound_all qs) ws (past (sites_in g) c))

  abbrev guard_of : Values → State × Outcome Values
  guard_of ws = eval here g (inner (bind (bound_all qs) ws c)) blank

  abbrev rest : Tried Values
  rest = choose here cs vs (past (sites_in g + sites_in e) c)

  abbrev tried : Option Values → Tried Values
  tried o = if_there o (λ ws. guarded (guard_of ws) (body_with ws) rest) rest

  -- by the result of the guard
  by_guard : (ws : Values) (b : Bool) → is_true (guard_of ws).1 ≡ b → match_all (value_of c) qs (terms vs) ≡ Some ws
      → (body : M Values)
      → ((m : M Values) → rest.body ≡ Some m → Chosen here cs vs (past (sites_in g + sites_in e) c) m)
      → (taken_if b (body_with ws) rest).body ≡ Some body → Chosen here (and_clause (clause p qs g e) cs) vs c body
  by_guard ws true t h body k q =
      subst (λ m. Chosen here (and_clause (clause p qs g e) cs) vs c m) (some_one q)
      (this ws (record { match = from_all (value_of c) qs (terms vs) ws h; holds = t }))
  by_guard ws false t h body k q = later (λ us a. never us a) (k body q)
    where
      never : (us : Values) → Accepts here qs g vs c us → ⊥
      never us a =
          let same : us ≡ ws = some_one (sym (all_give a.match) ∙ h) in
          let yes : is_true (guard_of ws).1 ≡ true = subst (λ u. is_true (guard_of u).1 ≡ true) same a.holds in
          let both : true ≡ false = sym yes ∙ t in
          absurd cc

  by_match : (o : Option Values) → match_all (value_of c) qs (terms vs) ≡ o → (body : M Values)
      → ((m : M Values) → rest.body ≡ Some m → Chosen here cs vs (past (sites_in g + sites_in e) c) m)
      → (tried o).body ≡ Some body → Chosen here (and_clause (clause p qs g e) cs) vs c body
  by_match None h body k q = later (λ us a. never us a) (k body q)
    where
      never : (us : Values) → Accepts here qs g vs c us → ⊥
      never us a =
          let both : Some us ≡ None = sym (all_give a.match) ∙ h in
          absurd cc
  by_match (Some ws) h body k q = by_guard ws (is_true (guard_of ws).1) refl h body k q

pub chosen_is_first : (here : Invocation) (cs : Clauses) (vs : Values) (c : EvaluationContext) (body : M Values)
    → (choose here cs vs c).body ≡ Some body → Chosen here cs vs c body
unfolding eval
chosen_is_first here no_clause vs c body e = absurd cc
chosen_is_first here (and_clause (clause p qs g e) cs) vs c body q =
    by_match here p qs g e cs vs c (match_all (value_of c) qs (terms vs)) refl body
    (λ m. chosen_is_first here cs vs (past (sites_in g + sites_in e) c) m) q

-- the other way: the first clause that accepts is chosen
module _ (here : Invocation) where
  unbound : (p : Place) (qs : Patterns) (g e : Expr) (cs : Clauses) (vs : Values) (c : EvaluationContext)
      → ((ws : Values) → Accepts here qs g vs c ws → ⊥)
      → (o : Option Values) → match_all (value_of c) qs (terms vs) ≡ o
      → (tried here p qs g e cs vs c o).body ≡ (rest here p qs g e cs vs c).body
  unbound p qs g e cs vs c never None h = refl
  unbound p qs g e cs vs c never (Some ws) h = go (is_true (guard_of here p qs g e cs vs c ws).1) refl
    where
      go : (b : Bool) → is_true (guard_of here p qs g e cs vs c ws).1 ≡ b
          → (taken_if b (body_with here p qs g e cs vs c ws) (rest here p qs g e cs vs c)).body
          ≡ (rest here p qs g e cs vs c).body
      go true t = absurd (never ws (record { match = from_all (value_of c) qs (terms vs) ws h; holds = t }))
      go false t = refl

  pub first_is_chosen : {cs : Clauses} {vs : Values} {c : EvaluationContext} {body : M Values}
      → Chosen here cs vs c body → (choose here cs vs c).body ≡ Some body
  unfolding eval
  first_is_chosen (this {p} {qs} {g} {e} {cs} {vs} {c} ws a) =
      ap (λ o. (tried here p qs g e cs vs c o).body) (all_give a.match)
      ∙ ap (λ b. (taken_if b (body_with here p qs g e cs vs c ws) (rest here p qs g e cs vs c)).body) a.holds
  first_is_chosen (later {p} {qs} {g} {e} {cs} {vs} {c} {body} never h) =
      unbound p qs g e cs vs c never (match_all (value_of c) qs (terms vs)) refl ∙ first_is_chosen h

pub chosen_exactly : (here : Invocation) (cs : Clauses) (vs : Values) (c : EvaluationContext) (body : M Values)
    → ((choose here cs vs c).body ≡ Some body) ↔ Chosen here cs vs c body
chosen_exactly here cs vs c body = (λ e. chosen_is_first here cs vs c body e, λ h. first_is_chosen here h)

-- Receives.

none_by : (here : Invocation) (cs : Clauses) (vs : Values) (c : EvaluationContext) (o : Option (M Values))
    → (choose here cs vs c).body ≡ o → NoneAccepts here cs vs c → o ≡ None
none_by here cs vs c None e h = refl
none_by here cs vs c (Some body) e h = absurd (h body (chosen_is_first here cs vs c body e))

pub none_chosen : (here : Invocation) (cs : Clauses) (vs : Values) (c : EvaluationContext) → NoneAccepts here cs vs c
    → (choose here cs vs c).body ≡ None
none_chosen here cs vs c h = none_by here cs vs c (choose here cs vs c).body refl h

-- a receive in general takes the first message that is accepted, and so does this one
pub takes_the_first : ((pick : Term → Tried Values) (timeout : Timeout) (late : M Values)
    → TakesFirst pick timeout late) → TakesTheFirst
takes_the_first law here cs c timeout late s passed others m body e all h =
    law (trying here cs c) timeout late s passed others m body e (λ k d l. none_chosen here cs _ c (all k d l))
    (first_is_chosen here h)

pub looks_for_more : ((pick : Term → Tried Values) (timeout : Timeout) (late : M Values)
    → LooksForMore pick timeout late) → LooksForMoreMessages
looks_for_more law here cs c timeout late s all =
    law (trying here cs c) timeout late s (λ k d l. none_chosen here cs _ c (all k d l))
