-- What an expression does (Core Erlang 1.0.3, section 5, from left to right).
use Rattle.std.specs.Prelude.{ℕ, ◌+◌, List, [], ◌∷◌, ◌++◌, length, Bool, eqb, Option, Some, None, if◌then◌else◌}
use Rattle.erl_base.specs.declared.ids.FunKey.{FunKey}
use Rattle.erl_term.specs.Term as T
use Rattle.erl_term.specs.Term.{Term, no_pair}
use Rattle.erl_term.specs.TermOrder.{same_term}
use Rattle.erl_term.specs.Terms.{Values, terms, list_of, class_word}
use Rattle.erl_term.specs.Segments.{Shape, built, joined}
use Rattle.world_model.specs.Run.{M, ◌>>=◌, give, fail}
use Rattle.world_model.specs.Meaning.{as_values, one, single, either}
use Rattle.world_model.specs.MapUpdate.{Put, put_all}
use Rattle.bif_table.specs.BuiltinAnswer.{badarg}
use Rattle.world_model.specs.Requests.{exit_of}
use Rattle.world_model.specs.RemoteCalls.{apply_term, call_terms}
use Rattle.world_model.specs.Entries.{enter_site}
use Rattle.world_model.specs.Receive.{timeout_of, Tried, receiving}
use Rattle.core_form.specs.Core.{Expr, values, var, fun_name, literal, list, tuple, new_map, map_of, binary, fun, let_in, letrec, case, apply, call, primop, do_then, catch, try, receive, Exprs, no_expr, and_expr, MapParts, no_part, and_part, map_part, Segments, no_segment, and_segment, segment, Clauses, no_clause, and_clause, clause}
use Rattle.core_form.specs.Scope.{Use, function_of, with_names, names_of, bound_all}
use Rattle.core_form.specs.Captures.{sites_in, sites_in_all, sites_in_parts, sites_in_defs, sites_in_clauses, in_group, captures_of}
use Rattle.core_form.specs.Walks.{expr_count, with_let}
use Rattle.core_meaning.specs.SegmentShape.{shape_of}
use Rattle.core_meaning.specs.SegmentMatch.{if_there}
use Rattle.core_meaning.specs.PatternMatch.{match_all}
use Rattle.core_meaning.specs.MarkedReceive.{is_marking, marked_with}
use Rattle.core_meaning.specs.PassedOnTail.{ClauseUse}
use Rattle.core_meaning.specs.SubBinaries.{is_made, all_cuts}
use Rattle.core_meaning.specs.Calls.{Invocation, own_functions, primitive}
use Rattle.core_meaning.specs.EvaluationContext.{EvaluationContext, inner, past, captured_terms, bind, value_of}
use Rattle.core_meaning.specs.ClauseChoice.{blank, none_tried, and_cuts, guarded, case_tried}
use Rattle.core_meaning.specs.MarkingCalls.{marking, awaited, beginning}

-- a segment's shape, value and size
pub record BuiltSegment : Type 0 where
  pub shape : Shape
  pub value : Term
  pub size : Term

-- the bits of all segments, one after the other
abbrev pub build_each : List BuiltSegment → Option (List Bool)
build_each [] = Some []
build_each (x ∷ xs) = joined (built x.shape x.value x.size) (build_each xs)

-- whatever cannot be built raises badarg
abbrev pub bits_or_badarg : Option (List Bool) → M Values
bits_or_badarg None = fail T.error badarg
bits_or_badarg (Some bs) = single (T.bits bs)

-- the function that an operator names
abbrev pub operator_name : Expr → Option FunKey
operator_name (fun_name p f) = Some f
operator_name _ = None

-- an operator that names a function of this arity is called by name, any other one by its value
abbrev pub if_named : {A : Type 0} → Option FunKey → ℕ → (FunKey → A) → A → A
if_named None n f a = a
if_named (Some k) n f a = if eqb k.arity n then f k else a

-- a function's name as a value shows its site and what it captured
abbrev pub fun_value : Invocation → EvaluationContext → Option (ℕ × List Use) → ℕ → Values
fun_value here c None n = []
fun_value here c (Some f) n = T.fun here.name f.0 n (terms (captured_terms c.env f.1)) ∷ []

-- a call by name hands the captured terms on behind the arguments
abbrev pub apply_name : Invocation → EvaluationContext → FunKey → Values → M Values
apply_name here c f vs = elim (function_of c.scope f) [
  | None ↦ give []
  | Some g ↦ enter_site here.enter g.0 c.tail (vs ++ captured_terms c.env g.1)
]

module _ (here : Invocation) where
  unfoldable mutual
    unfolding call_terms put_all same_term

    pub eval : Expr → EvaluationContext → M Values
    eval (values p es) c = eval_all es (inner c)
    eval (var p x) c = give (as_values (value_of c x))
    eval (fun_name p f) c = give (fun_value here c (function_of c.scope f) f.arity)
    eval (literal p t) c = single t
    eval (list p es e) c =
        eval_all es (inner c) >>= λ vs.
        one (eval e (past (sites_in_all es) (inner c))) λ t.
        single (list_of vs t)
    eval (tuple p es) c = eval_all es (inner c) >>= λ vs. single (T.tuple (terms vs))
    eval (new_map p ps) c = eval_parts ps (inner c) >>= λ qs. put_all qs (T.map no_pair)
    eval (map_of p ps e) c =
        eval_parts ps (inner c) >>= λ qs.
        one (eval e (past (sites_in_parts ps) (inner c))) λ t.
        put_all qs t
    eval (binary p ss) c = eval_segments ss (inner c) >>= λ xs. bits_or_badarg (build_each xs)
    eval (fun p xs e) c =
        single (T.fun here.name c.next (length xs) (terms (captured_terms c.env (captures_of (fun p xs e) c.scope))))
    eval (let_in p xs a b) c =
        marking (is_marking a xs b c.scope c.lets) (eval a (inner c)) >>= λ vs.
        eval b (record (bind (names_of xs) vs (past (sites_in a) c)) { lets = with_let a xs c.scope c.lets })
    eval (letrec p ds b) c =
        eval b (past (sites_in_defs ds) (record c { scope = in_group ds c.next c.scope }))
    eval (case p e cs) c =
        eval e (inner c) >>= λ vs.
        case_tried here e c vs (choose cs vs (past (sites_in e) c))
    eval (apply p e es) c =
        if_named (operator_name e) (expr_count es)
        (λ f. eval_all es (inner c) >>= λ vs. apply_name here c f vs)
        (one (eval e (inner c)) λ t.
        eval_all es (past (sites_in e) (inner c)) >>= λ vs.
        apply_term (own_functions here) t vs)
    eval (call p m f es) c =
        one (eval m (inner c)) λ t.
        one (eval f (past (sites_in m) (inner c))) λ u.
        eval_all es (past (sites_in m + sites_in f) (inner c)) >>= λ vs.
        call_terms here.own t u vs
    eval (primop p n es) c = eval_all es (inner c) >>= λ vs. primitive n vs
    eval (do_then p a b) c = eval a (inner c) >>= λ vs. eval b (past (sites_in a) c)
    eval (catch p e) c = either (eval e (inner c)) give exit_of
    eval (try p a xs b ys e) c =
        either (eval a (inner c))
        (λ vs. eval b (bind (names_of xs) vs (past (sites_in a) c)))
        (λ k r. eval e (bind (names_of ys) (class_word k ∷ r ∷ T.raw_trace k ∷ []) (past (sites_in a + sites_in b) c)))
    eval (receive p cs t b) c =
        one (eval t (past (sites_in_clauses cs) (inner c))) λ u.
        beginning (awaited c (marked_with cs c.scope c.lets))
        (receiving (λ x. choose cs (x ∷ []) c) (timeout_of u) (eval b (past (sites_in_clauses cs + sites_in t) c)))

    pub eval_all : Exprs → EvaluationContext → M Values
    eval_all no_expr c = give []
    eval_all (and_expr e es) c =
        one (eval e c) λ t.
        eval_all es (past (sites_in e) c) >>= λ vs.
        give (t ∷ vs)

    pub eval_parts : MapParts → EvaluationContext → M (List Put)
    eval_parts no_part c = give []
    eval_parts (and_part (map_part k v x) ps) c =
        one (eval k c) λ t.
        one (eval v (past (sites_in k) c)) λ u.
        eval_parts ps (past (sites_in k + sites_in v) c) >>= λ qs.
        give (record { key = t; value = u; exact = x } ∷ qs)

    pub eval_segments : Segments → EvaluationContext → M (List BuiltSegment)
    eval_segments no_segment c = give []
    eval_segments (and_segment (segment p v s u k f) ss) c =
        one (eval v c) λ t.
        one (eval s (past (sites_in v) c)) λ n.
        eval_segments ss (past (sites_in v + sites_in s) c) >>= λ xs.
        give (record { shape = shape_of s u k f; value = t; size = n } ∷ xs)

    -- the first clause that matches and holds
    pub choose : Clauses → Values → EvaluationContext → Tried Values
    choose no_clause vs c = none_tried
    choose (and_clause (clause p qs g e) cs) vs c =
        let uses : ClauseUse = record {
          guard = g;
          body = e;
          scope = with_names c.scope (bound_all qs);
          site = c.next + sites_in g;
        } in
        let rest = choose cs vs (past (sites_in g + sites_in e) c) in
        and_cuts (all_cuts (is_made c.tail here.reached uses) (value_of c) qs (terms vs))
        (if_there (match_all (value_of c) qs (terms vs))
        (λ ws.
        guarded (eval g (inner (bind (bound_all qs) ws c)) blank)
        (eval e (bind (bound_all qs) ws (past (sites_in g) c)))
        rest)
        rest)
