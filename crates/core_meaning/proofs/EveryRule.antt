-- What every rule keeps holds of every meaning: receives, calls and expressions.
use Rattle.std.proofs.Common.{◌≡◌, ℕ, List, [], ◌∷◌, ◌++◌, length, Bool, true, false, Option, Some, None, cond, refl, codes, subst, ap, ◌+◌}
use Rattle.erl_base.specs.Names.{Name, same_name}
use Rattle.erl_base.specs.declared.ids.FunKey.{FunKey}
use Rattle.erl_term.specs.Term as T
use Rattle.erl_term.specs.Term.{Term, no_pair, Class}
use Rattle.erl_term.specs.Terms.{Values, terms, list_of}
use Rattle.bif_table.specs.BuiltinAnswer.{answer, lookup, Bif}
use Rattle.world_model.specs.World as W
use Rattle.world_model.specs.World.{Delay, forever, millis, Request, Reply, Message}
use Rattle.world_model.specs.Run.{Entry, State, happened, looked, Outcome, M, give, fail, answered, numbered, noting}
use Rattle.world_model.specs.RemoteCalls.{apply_term, call_erlang, call_terms}
use Rattle.world_model.specs.Entries.{counted, enter_site}
use Rattle.world_model.specs.Requests.{call_out, send_or_call, is_send, answers}
use Rattle.world_model.specs.Receive.{Timeout, now, in', wrong, timeout_of, Tried, cutting, taking, take_message, pass_over, try_each, looking, waiting, new_or, receiving}
use Rattle.core_form.specs.Core.{Expr, values, var, fun_name, literal, list, tuple, new_map, map_of, binary, fun, let_in, letrec, case, apply, call, primop, do_then, catch, try, receive, Exprs, no_expr, and_expr, MapParts, no_part, and_part, map_part, Segments, no_segment, and_segment, segment, Clauses, no_clause, and_clause, clause}
use Rattle.core_form.specs.Scope.{Use, function_of}
use Rattle.core_form.specs.Captures.{sites_in, sites_in_all, sites_in_parts, sites_in_clauses}
use Rattle.core_form.specs.Sites.{Site}
use Rattle.core_form.specs.Walks.{expr_count}
use Rattle.core_meaning.specs.SegmentShape.{shape_of}
use Rattle.core_meaning.specs.SegmentMatch.{if_there}
use Rattle.core_meaning.specs.PatternMatch.{match_all}
use Rattle.core_meaning.specs.MarkedReceive.{marked_with}
use Rattle.core_meaning.specs.Calls.{Invocation, own_functions}
use Rattle.core_meaning.specs.EvaluationContext.{EvaluationContext, inner, past, captured_terms, value_of}
use Rattle.core_meaning.specs.ClauseChoice.{case_end, case_tried, taken_if, guarded, and_cuts, none_tried}
use Rattle.core_meaning.specs.MarkingCalls.{awaited}
use Rattle.core_meaning.specs.Evaluation.{build_each, operator_name, if_named, apply_name, eval, eval_all, eval_parts, eval_segments, choose}
use Rattle.core_meaning.specs.CoreRun.{run_site}
use Rattle.core_meaning.proofs.Rules.{move_taken, Quiet, Logic, noting_quiet, answered_quiet, one_ok, single_ok, if_ok, call_out_ok, send_ok, answers_ok, put_all_ok, exit_ok, primitive_ok, badarg_ok, cutting_ok, beginning_ok, marking_ok}

unfoldable pub OptionRel : {A : Type 0} (L : Logic) → Option (M A) → Option (M A) → Type 0
OptionRel L None None = Unit {0}
OptionRel L None (Some n) = ⊥
OptionRel L (Some m) None = ⊥
OptionRel L (Some m) (Some n) = L.Rel m n

pub record TriedRel {A : Type 0} (L : Logic) (t u : Tried A) : Type 0 where
  pub cuts : t.cuts ≡ u.cuts
  pub body : OptionRel L t.body u.body

-- Receives.

take_quiet : (m : Message)
    → Quiet (λ s. record s {
      mailbox = Rattle.world_model.specs.Receive.without m.serial s.mailbox;
      notes = happened (W.taken m.serial) ∷ looked (record { serial = m.serial; accepted = true }) ∷ s.notes;
    })
take_quiet m = record {
  move = move_taken m;
  left = λ s. refl;
  free = λ s k. refl;
  same = λ s. refl;
  grows = λ s. (happened (W.taken m.serial) ∷ looked (record { serial = m.serial; accepted = true }) ∷ [], refl);
}

module _ (L : Logic) where
  taking_ok : {A : Type 0} (m : Message) (o o' : Option (M A)) (r r' : M A) → OptionRel L o o' → L.Rel r r'
      → L.Rel (taking m o r) (taking m o' r')
  unfolding OptionRel
  taking_ok m None None r r' h k =
      L.moved (noting (looked (record { serial = m.serial; accepted = false }))) (noting_quiet _ (λ s. refl)) r r' k
  taking_ok m None (Some n) r r' h k = absurd h
  taking_ok m (Some n) None r r' h k = absurd h
  taking_ok m (Some b) (Some b') r r' h k = L.moved _ (take_quiet m) b b' h

  try_one_ok : {A : Type 0} (pick pick' : Term → Tried A) (m : Message) (t t' : Tried A) (r r' : M A) → TriedRel L t t'
      → L.Rel r r' → L.Rel (cutting t.cuts (taking m t.body r)) (cutting t'.cuts (taking m t'.body r'))
  try_one_ok pick pick' m t t' r r' h k = subst
      (λ n. L.Rel (cutting t.cuts (taking m t.body r)) (cutting n (taking m t'.body r'))) h.cuts
      (cutting_ok L t.cuts _ _ (taking_ok m t.body t'.body r r' h.body k))

  module _ {A : Type 0} (pick pick' : Term → Tried A) (picks : (t : Term) → TriedRel L (pick t) (pick' t)) where
    try_ok : (ms : List Message) (r r' : M A) → L.Rel r r' → L.Rel (try_each pick ms r) (try_each pick' ms r')
    try_ok [] r r' k = k
    try_ok (m ∷ ms) r r' k = try_one_ok pick pick' m (pick m.term) (pick' m.term) _ _ (picks m.term) (try_ok ms r r' k)

    new_ok : (ts : List Term) (a b a' b' : M A) → L.Rel a a' → L.Rel b b' → L.Rel (new_or ts a b) (new_or ts a' b')
    new_ok [] a b a' b' k l = k
    new_ok (t ∷ ts) a b a' b' k l = l

    module _ (timeout : Timeout) (late late' : M A) (lates : L.Rel late late') where
      rest_ok : (t : Timeout) (w w' : Delay → M A) → ((d : Delay) → L.Rel (w d) (w' d)) →
          let m : M A = elim t [ now ↦ late | in' d ↦ w d | wrong ↦ fail T.error (T.atom (codes "timeout_value")) ] in
          let m' : M A = elim t [
            | now ↦ late'
            | in' d ↦ w' d
            | wrong ↦ fail T.error (T.atom (codes "timeout_value"))
          ] in
          L.Rel m m'
      rest_ok now w w' k = lates
      rest_ok (in' d) w w' k = k d
      rest_ok wrong w w' k = L.failed _ _

      delay_ok : (d : Delay) (m m' : M A) → L.Rel m m' →
          let n : M A = elim d [ forever ↦ m | millis n ↦ late ] in
          let n' : M A = elim d [ forever ↦ m' | millis n ↦ late' ] in
          L.Rel n n'
      delay_ok forever m m' k = k
      delay_ok (millis n) m m' k = lates

      mutual
        looking_ok : (rs : List Reply) → L.Rel (looking pick timeout late rs) (looking pick' timeout late' rs)
        looking_ok [] = L.waited _
        looking_ok (r ∷ rs) =
            L.seen (λ s. s.next) (λ s k. refl) _ _ (λ n. L.moved (answered W.look r rs) (answered_quiet W.look r rs) _ _
            (new_ok r.arrivals _ _ _ _
            (rest_ok timeout (waiting pick timeout late rs) (waiting pick' timeout late' rs) (λ d. waiting_ok rs d))
            (try_ok (numbered n r.arrivals) _ _ (looking_ok rs))))

        waiting_ok : (rs : List Reply) (d : Delay)
            → L.Rel (waiting pick timeout late rs d) (waiting pick' timeout late' rs d)
        waiting_ok [] d = L.waited _
        waiting_ok (r ∷ rs) d =
            L.seen (λ s. s.next) (λ s k. refl) _ _
            (λ n. L.moved (answered (W.wait d) r rs) (answered_quiet (W.wait d) r rs) _ _
            (new_ok r.arrivals _ _ _ _
            (delay_ok d (looking pick timeout late rs) (looking pick' timeout late' rs) (looking_ok rs))
            (try_ok (numbered n r.arrivals) _ _ (looking_ok rs))))

      pub receiving_ok : L.Rel (receiving pick timeout late) (receiving pick' timeout late')
      receiving_ok = L.seen (λ s. s.mailbox) (λ s k. refl) _ _
          (λ ms. try_ok ms _ _ (L.seen (λ s. s.replies) (λ s k. refl) _ _ looking_ok))

-- Clauses.

taken_ok : (L : Logic) (b : Bool) (m m' : M Values) (t t' : Tried Values) → L.Rel m m' → TriedRel L t t'
    → TriedRel L (taken_if b m t) (taken_if b m' t')
unfolding OptionRel
taken_ok L true m m' t t' r h = record { cuts = refl; body = r }
taken_ok L false m m' t t' r h = h

more_cuts_ok : {A : Type 0} (L : Logic) (n : ℕ) (t t' : Tried A) → TriedRel L t t'
    → TriedRel L (and_cuts n t) (and_cuts n t')
more_cuts_ok L n t t' h = record { cuts = ap (λ k. n + k) h.cuts; body = h.body }

guarded_ok : (L : Logic) (r r' : State × Outcome Values) (m m' : M Values) (t t' : Tried Values) → r ≡ r' → L.Rel m m'
    → TriedRel L t t' → TriedRel L (guarded r m t) (guarded r' m' t')
guarded_ok L r r' m m' t t' e k h =
    subst (λ q. TriedRel L (guarded r m t) (guarded q m' t')) e (more_cuts_ok L _ _ _ (taken_ok L _ m m' t t' k h))

bound_ok : (L : Logic) (o : Option Values) (f f' : Values → Tried Values) (t t' : Tried Values)
    → ((ws : Values) → TriedRel L (f ws) (f' ws)) → TriedRel L t t' → TriedRel L (if_there o f t) (if_there o f' t')
bound_ok L None f f' t t' h k = k
bound_ok L (Some ws) f f' t t' h k = h ws

no_clause_ok : (L : Logic) → TriedRel {A = Values} L none_tried none_tried
unfolding OptionRel
no_clause_ok L = record { cuts = refl; body = tt }

-- Expressions, evaluated with two ways to enter a function that are related once the entry is noted.

abbrev pub entered_with : Invocation → (ℕ → Values → M Term) → Invocation
entered_with here f = record here { enter = f }

module _ (L : Logic) (here : Invocation) (f : ℕ → Values → M Term)
    (enters : (e : Entry) (n : ℕ) (vs : Values) → L.Rel (counted e (here.enter n vs)) (counted e (f n vs))) where
  abbrev there : Invocation
  there = entered_with here f

  entering_ok : (n : ℕ) (tail : Bool) (vs : Values) → L.Rel (enter_site here.enter n tail vs) (enter_site f n tail vs)
  entering_ok n tail vs = L.bound (counted _ (here.enter n vs)) (counted _ (f n vs)) _ _
      (enters (record { site = n; tail = tail }) n vs) (λ t. single_ok L t)

  apply_ok : (t : Term) (vs : Values)
      → L.Rel (apply_term (own_functions here) t vs) (apply_term (own_functions there) t vs)
  apply_ok (T.fun m s a cs) vs =
      if_ok L _ _ _ _ _ (L.failed _ _) (if_ok L _ _ _ _ _ (entering_ok _ _ _) (call_out_ok L _ _ _))
  apply_ok (T.extern m g a) vs = if_ok L _ _ _ _ _ (L.failed _ _) (call_out_ok L _ _ _)
  apply_ok _ vs = L.failed _ _

  erlang_ok : (g : Name) (vs : Values) → L.Rel (call_erlang here.own g vs) (call_erlang here.own g vs)
  unfolding call_erlang
  erlang_ok g vs = go (lookup g (length vs))
    where
      go : (o : Option Bif) →
          let m : M Values = elim o [
            | Some b ↦ answers (answer b here.own vs)
            | None ↦ cond (is_send g) (send_or_call g vs) (call_out (codes "erlang") g vs)
          ] in
          L.Rel m m
      go None = if_ok L (is_send g) _ _ _ _ (send_ok L g vs) (call_out_ok L (codes "erlang") g vs)
      go (Some b) = answers_ok L (answer b here.own vs)

  call_ok : (t u : Term) (vs : Values) → L.Rel (call_terms here.own t u vs) (call_terms here.own t u vs)
  unfolding call_terms
  call_ok (T.atom m) (T.atom g) vs =
      if_ok L (same_name m (codes "erlang")) _ _ _ _ (erlang_ok g vs) (call_out_ok L m g vs)
  call_ok (T.atom m) _ vs = L.failed _ _
  call_ok _ _ vs = L.failed _ _

  name_ok : (c : EvaluationContext) (k : FunKey) (vs : Values)
      → L.Rel (apply_name here c k vs) (apply_name there c k vs)
  name_ok c k vs = go (function_of c.scope k)
    where
      go : (o : Option (ℕ × List Use)) →
          let m : M Values = elim o [
            | None ↦ give []
            | Some g ↦ enter_site here.enter g.0 c.tail (vs ++ captured_terms c.env g.1)
          ] in
          let m' : M Values = elim o [
            | None ↦ give []
            | Some g ↦ enter_site f g.0 c.tail (vs ++ captured_terms c.env g.1)
          ] in
          L.Rel m m'
      go None = L.given _
      go (Some g) = entering_ok _ _ _

  named_ok : (o : Option FunKey) (n : ℕ) (g g' : FunKey → M Values) (m m' : M Values)
      → ((k : FunKey) → L.Rel (g k) (g' k)) → L.Rel m m' → L.Rel (if_named o n g m) (if_named o n g' m')
  named_ok None n g g' m m' h k = k
  named_ok (Some j) n g g' m m' h k = if_ok L _ _ _ _ _ (h j) k

  end_ok : (e : Expr) (c : EvaluationContext) (vs : Values) (o o' : Option (M Values)) → OptionRel L o o'
      → L.Rel (case_end here e c vs o) (case_end there e c vs o')
  unfolding OptionRel
  end_ok e c vs None None k = cutting_ok L _ _ _ (L.failed _ _)
  end_ok e c vs None (Some n) k = absurd k
  end_ok e c vs (Some m) None k = absurd k
  end_ok e c vs (Some m) (Some n) k = k

  tried_ok : (e : Expr) (c : EvaluationContext) (vs : Values) (t t' : Tried Values) → TriedRel L t t'
      → L.Rel (case_tried here e c vs t) (case_tried there e c vs t')
  tried_ok e c vs t t' h = subst
      (λ n. L.Rel (case_tried here e c vs t) (cutting n (case_end there e c vs t'.body))) h.cuts
      (cutting_ok L t.cuts _ _ (end_ok e c vs t.body t'.body h.body))

  mutual
    unfolding eval

    pub eval_ok : (e : Expr) (c : EvaluationContext) → L.Rel (eval here e c) (eval there e c)
    eval_ok (values p es) c = all_ok es _
    eval_ok (var p x) c = L.given _
    eval_ok (fun_name p g) c = L.given _
    eval_ok (literal p t) c = L.given _
    eval_ok (list p es e) c = L.bound _ _ _ _ (all_ok es _)
        (λ vs. one_ok L _ _ _ _ (eval_ok e (past (sites_in_all es) (inner c))) (λ t. single_ok L (list_of vs t)))
    eval_ok (tuple p es) c = L.bound _ _ _ _ (all_ok es _) (λ vs. single_ok L (T.tuple (terms vs)))
    eval_ok (new_map p ps) c = L.bound _ _ _ _ (parts_ok ps _) (λ qs. put_all_ok L qs (T.map no_pair))
    eval_ok (map_of p ps e) c = L.bound _ _ _ _ (parts_ok ps _)
        (λ qs. one_ok L _ _ _ _ (eval_ok e (past (sites_in_parts ps) (inner c))) (λ t. put_all_ok L qs t))
    eval_ok (binary p ss) c = L.bound _ _ _ _ (segments_ok ss _) (λ xs. badarg_ok L (build_each xs))
    eval_ok (fun p xs e) c = L.given _
    eval_ok (let_in p xs a b) c = L.bound _ _ _ _ (marking_ok L _ _ _ (eval_ok a _)) (λ vs. eval_ok b _)
    eval_ok (letrec p ds b) c = eval_ok b _
    eval_ok (case p e cs) c = L.bound _ _ _ _ (eval_ok e _) (λ vs. tried_ok e c vs _ _ (choose_ok cs vs _))
    eval_ok (apply p e es) c =
        named_ok (operator_name e) (expr_count es) _ _ _ _
        (λ k. L.bound _ _ _ _ (all_ok es (inner c)) (λ vs. name_ok c k vs))
        (one_ok L _ _ _ _ (eval_ok e (inner c))
        (λ t. L.bound _ _ _ _ (all_ok es (past (sites_in e) (inner c))) (λ vs. apply_ok t vs)))
    eval_ok (call p m g es) c =
        one_ok L _ _ _ _ (eval_ok m (inner c))
        (λ t. one_ok L _ _ _ _ (eval_ok g (past (sites_in m) (inner c)))
        (λ u. L.bound _ _ _ _ (all_ok es (past (sites_in m + sites_in g) (inner c))) (λ vs. call_ok t u vs)))
    eval_ok (primop p n es) c = L.bound _ _ _ _ (all_ok es _) (λ vs. primitive_ok L n vs)
    eval_ok (do_then p a b) c = L.bound _ _ _ _ (eval_ok a _) (λ vs. eval_ok b _)
    eval_ok (catch p e) c = L.caught _ _ _ _ _ _ (eval_ok e _) (λ vs. L.given vs) (exit_ok L)
    eval_ok (try p a xs b ys e) c = L.caught _ _ _ _ _ _ (eval_ok a _) (λ vs. eval_ok b _) (λ k r. eval_ok e _)
    eval_ok (receive p cs t b) c =
        one_ok L _ _ _ _ (eval_ok t _) (λ u. beginning_ok L (awaited c (marked_with cs c.scope c.lets)) _ _
        (receiving_ok L (λ x. choose here cs (x ∷ []) c) (λ x. choose there cs (x ∷ []) c)
        (λ x. choose_ok cs (x ∷ []) c) (timeout_of u) _ _ (eval_ok b (past (sites_in_clauses cs + sites_in t) c))))

    all_ok : (es : Exprs) (c : EvaluationContext) → L.Rel (eval_all here es c) (eval_all there es c)
    all_ok no_expr c = L.given _
    all_ok (and_expr e es) c =
        one_ok L _ _ _ _ (eval_ok e c) (λ t. L.bound _ _ _ _ (all_ok es (past (sites_in e) c)) (λ vs. L.given (t ∷ vs)))

    parts_ok : (ps : MapParts) (c : EvaluationContext) → L.Rel (eval_parts here ps c) (eval_parts there ps c)
    parts_ok no_part c = L.given _
    parts_ok (and_part (map_part k v x) ps) c =
        one_ok L _ _ _ _ (eval_ok k c)
        (λ t. one_ok L _ _ _ _ (eval_ok v (past (sites_in k) c))
        (λ u. L.bound _ _ _ _ (parts_ok ps (past (sites_in k + sites_in v) c))
        (λ qs. L.given (record { key = t; value = u; exact = x } ∷ qs))))

    segments_ok : (ss : Segments) (c : EvaluationContext) → L.Rel (eval_segments here ss c) (eval_segments there ss c)
    segments_ok no_segment c = L.given _
    segments_ok (and_segment (segment p v s u k g) ss) c =
        one_ok L _ _ _ _ (eval_ok v c)
        (λ t. one_ok L _ _ _ _ (eval_ok s (past (sites_in v) c))
        (λ n. L.bound _ _ _ _ (segments_ok ss (past (sites_in v + sites_in s) c))
        (λ xs. L.given (record { shape = shape_of s u k g; value = t; size = n } ∷ xs))))

    choose_ok : (cs : Clauses) (vs : Values) (c : EvaluationContext)
        → TriedRel L (choose here cs vs c) (choose there cs vs c)
    choose_ok no_clause vs c = no_clause_ok L
    choose_ok (and_clause (clause p qs g e) cs) vs c =
        more_cuts_ok L _ _ _ (bound_ok L (match_all (value_of c) qs (terms vs)) _ _ _ _
        (λ ws. guarded_ok L _ _ _ _ _ _ (L.guard _ _ (eval_ok g _)) (eval_ok e _) (choose_ok cs vs _))
        (choose_ok cs vs _))

  -- what is done where a function is entered
  pub site_ok : (o : Option Site) (vs : Values) → L.Rel (run_site here o vs) (run_site there o vs)
  unfolding run_site
  site_ok None vs = L.failed _ _
  site_ok (Some x) vs =
      if_ok L _ _ _ _ _ (one_ok L _ _ _ _ (eval_ok x.body _) (λ t. L.given t)) (L.failed _ _)
