-- Agreement at every node: a part may be put for another one wherever it stands, under falls and rests.
use Rattle.std.proofs.Common.{◌≡◌, ℕ, List, [], ◌∷◌, length, Bool, false, Option, Some, None, if◌then◌else◌, sym, subst, codes, arith}
use Rattle.erl_base.specs.Names.{Name}
use Rattle.erl_term.specs.Term as T
use Rattle.erl_term.specs.Term.{Term}
use Rattle.erl_term.specs.Terms.{Values, class_word}
use Rattle.bif_table.specs.BuiltinAnswer.{answer, lookup}
use Rattle.bif_table.specs.Builtins.{Bif}
use Rattle.world_model.specs.Run.{M, ◌>>=◌}
use Rattle.world_model.specs.Requests.{send_or_call, is_send, answers, call_out}
use Rattle.world_model.specs.Receive.{timeout_of}
use Rattle.world_model.specs.RemoteCalls.{call_erlang, call_terms, apply_term}
use Rattle.world_model.specs.Entries.{enter_site}
use Rattle.step_machine.specs.Bodies.{here_of, callees}
use Rattle.core_meaning.specs.SegmentMatch.{match_segs}
use Rattle.core_meaning.specs.ClauseChoice.{blank}
use Rattle.core_meaning.specs.MarkingCalls.{marking}
use Rattle.core_meaning.specs.Evaluation.{build_each}
use Rattle.kernel_form.specs.Kernel.{Value, Simple, value, cons, tuple, map_put, bits, make_fun, bif, local, apply, remote, send, trace, raise, failing, CaseShape, Segs, BinStep, Expr, values, simple, let_in, match_in, try, catch, receive, Tree, body, fall, either_in, switch, segments, step, guarded, case, Cases, no_case, and_case, seg_row, SegRows, no_row, and_row}
use Rattle.kernel_meaning.specs.Environment.{Env, with_value, with_values, no_rests, read, read_all, read_pairs, read_parts, Setting}
use Rattle.kernel_meaning.specs.PatternMatch.{with_bindings, segments_of}
use Rattle.kernel_meaning.specs.Steps.{simply, shape_parts, bin_step}
use Rattle.kernel_meaning.specs.KernelRun.{no_falls, is_marked, meaning}
use Rattle.pass_contract.specs.SameRun.{Compared, Agree, EntersAgree}
use Rattle.kernel_meaning.specs.Agreement.{FallsAgree, ExprAgrees, NodeAgrees, CasesAgree, RowsAgree}
use Rattle.kernel_meaning.proofs.Agreeing.{fail_agrees, noting_agrees, bind_agrees, either_agrees, give_agrees, left_agrees, receiving_agrees, same_state}
use Rattle.kernel_meaning.proofs.SameSteps.{single_agrees, answers_agree, call_out_agrees, send_to_agrees, send_or_call_agrees, trace_agrees, exit_agrees, if_agrees, raise_agrees, badarg_agrees, put_all_agrees, taken_agrees, and_cuts_agrees, holds_agrees, parts_agree, bound_agrees, matched_agrees, no_falls_agree, with_fall_agrees, marking_agrees}

-- The calls of a function, where what it enters agrees.

module _ (what : Compared) (name : Name) (own : Term) (f g : ℕ → Values → M Term) (enters : EntersAgree what f g) where
  pub entering_agrees : (n : ℕ) (tail : Bool) (vs : Values)
      → Agree what (enter_site f n tail vs) (enter_site g n tail vs)
  entering_agrees n tail vs =
      bind_agrees what _ _ _ _ (left_agrees what _ _ _ (enters n vs)) (λ a. single_agrees what a)

  pub apply_agrees : (ws : List ℕ) (t : Term) (vs : Values)
      → Agree what (apply_term (callees ws (here_of name own f)) t vs)
      (apply_term (callees ws (here_of name own g)) t vs)
  apply_agrees ws (T.fun m s a cs) vs = if_agrees what _ _ _ _ _ (fail_agrees what _ _)
      (if_agrees what _ _ _ _ _ (entering_agrees s false _) (call_out_agrees what _ _ _))
  apply_agrees ws (T.extern m h a) vs =
      if_agrees what _ _ _ _ _ (fail_agrees what _ _) (call_out_agrees what m h vs)
  apply_agrees ws _ vs = fail_agrees what _ _

  call_erlang_agrees : (h : Name) (vs : Values) → Agree what (call_erlang own h vs) (call_erlang own h vs)
  unfolding call_erlang
  call_erlang_agrees h vs = go (lookup h (length vs))
    where
      go : (o : Option Bif) → Agree what
          (elim o as (λ _. M Values) [
            | None ↦ if is_send h then send_or_call h vs else call_out (codes "erlang") h vs
            | Some b ↦ answers (answer b own vs)
          ])
          (elim o as (λ _. M Values) [
            | None ↦ if is_send h then send_or_call h vs else call_out (codes "erlang") h vs
            | Some b ↦ answers (answer b own vs)
          ])
      go None = if_agrees what _ _ _ _ _ (send_or_call_agrees what h vs) (call_out_agrees what _ h vs)
      go (Some b) = answers_agree what _

  pub call_terms_agrees : (t u : Term) (vs : Values) → Agree what (call_terms own t u vs) (call_terms own t u vs)
  unfolding call_terms
  call_terms_agrees (T.atom m) (T.atom h) vs =
      if_agrees what _ _ _ _ _ (call_erlang_agrees h vs) (call_out_agrees what m h vs)
  call_terms_agrees _ _ vs = fail_agrees what _ _

  pub simply_agrees : (w : Setting) (s : Simple) (env : Env) (tail : Bool)
      → Agree what (simply w (here_of name own f) s env tail) (simply w (here_of name own g) s env tail)
  unfolding simply
  simply_agrees w (value v) env tail = single_agrees what _
  simply_agrees w (cons v u) env tail = single_agrees what _
  simply_agrees w (tuple vs) env tail = single_agrees what _
  simply_agrees w (map_put v ps) env tail = put_all_agrees what (read_pairs env ps) (read env v)
  simply_agrees w (bits ps) env tail = badarg_agrees what (build_each (read_parts env ps))
  simply_agrees w (make_fun n vs) env tail = single_agrees what _
  simply_agrees w (bif b vs) env tail = answers_agree what (answer b own (read_all env vs))
  simply_agrees w (local n vs) env tail = entering_agrees n tail (read_all env vs)
  simply_agrees w (apply v vs) env tail = apply_agrees w.widths (read env v) (read_all env vs)
  simply_agrees w (remote m h vs) env tail = call_terms_agrees (read env m) (read env h) (read_all env vs)
  simply_agrees w (send t v) env tail = send_to_agrees what _ _
  simply_agrees w trace env tail = trace_agrees what
  simply_agrees w (raise v r) env tail = raise_agrees what (read env v) (read env r)
  simply_agrees w (failing v) env tail = fail_agrees what _ _

-- Nodes.

module _ (what : Compared) (w : Setting) where
  pub values_same : (vs : List Value) → ExprAgrees what w (values vs) (values vs)
  unfolding meaning
  values_same vs name own f g enters env tail = give_agrees what _

  pub simple_same : (s : Simple) → ExprAgrees what w (simple s) (simple s)
  unfolding meaning
  simple_same s name own f g enters env tail = simply_agrees what name own f g enters w s env tail

  pub let_same : (xs : List ℕ) (a b c d : Expr) → is_marked w xs c ≡ is_marked w xs a → ExprAgrees what w a c
      → ExprAgrees what w b d → ExprAgrees what w (let_in xs a b) (let_in xs c d)
  unfolding meaning
  let_same xs a b c d e h i name own f g enters env tail =
      subst (λ m. Agree what (meaning w (here_of name own f) (let_in xs a b) env tail)
      (marking m (meaning w (here_of name own g) c env false)
      >>= λ vs. meaning w (here_of name own g) d (with_values env xs vs) tail)) (sym e)
      (bind_agrees what _ _ _ _ (marking_agrees what (is_marked w xs a) _ _ (h name own f g enters env false))
      (λ vs. i name own f g enters (with_values env xs vs) tail))

  pub match_same : (t u : Tree) → NodeAgrees what w t u → ExprAgrees what w (match_in t) (match_in u)
  unfolding meaning
  match_same t u h name own f g enters env tail =
      matched_agrees what _ _ (h name own f g enters env no_rests tail no_falls no_falls (no_falls_agree what))

  pub try_same : (a b c d e k : Expr) (xs ys : List ℕ) → ExprAgrees what w a d → ExprAgrees what w b e
      → ExprAgrees what w c k → ExprAgrees what w (try a xs b ys c) (try d xs e ys k)
  unfolding meaning
  try_same a b c d e k xs ys h i j name own f g enters env tail =
      either_agrees what _ _ _ _ _ _ (h name own f g enters env false)
      (λ vs. i name own f g enters (with_values env xs vs) tail)
      (λ q r. j name own f g enters (with_values env ys (class_word q ∷ r ∷ T.raw_trace q ∷ [])) tail)

  pub catch_same : (a b : Expr) → ExprAgrees what w a b → ExprAgrees what w (catch a) (catch b)
  unfolding meaning
  catch_same a b h name own f g enters env tail = either_agrees what _ _ _ _ _ _ (h name own f g enters env false)
      (λ vs. give_agrees what vs) (λ c r. exit_agrees what c r)

  pub receive_same : (n x : ℕ) (t u : Tree) (v : Value) (a b : Expr) → NodeAgrees what w t u → ExprAgrees what w a b
      → ExprAgrees what w (receive n x t v a) (receive n x u v b)
  unfolding meaning
  receive_same n x t u v a b h i name own f g enters env tail = noting_agrees what _ _ _
      (receiving_agrees what _ _
      (λ m. h name own f g enters (with_value env x m) no_rests tail no_falls no_falls (no_falls_agree what))
      (timeout_of (read env v)) _ _ (i name own f g enters env tail))

  -- Trees.

  pub body_same : (a b : Expr) → ExprAgrees what w a b → NodeAgrees what w (body a) (body b)
  unfolding meaning
  body_same a b h name own f g enters env r tail fs gs i = taken_agrees what _ _ (h name own f g enters env tail)

  pub fall_same : (k : ℕ) → NodeAgrees what w (fall k) (fall k)
  unfolding meaning FallsAgree
  fall_same k name own f g enters env r tail fs gs i = i k r

  pub either_same : (k : ℕ) (a b c d : Tree) → NodeAgrees what w a c → NodeAgrees what w b d
      → NodeAgrees what w (either_in k a b) (either_in k c d)
  unfolding meaning
  either_same k a b c d h i name own f g enters env r tail fs gs j = h name own f g enters env r tail _ _
      (with_fall_agrees what fs gs k _ _ j (λ q. i name own f g enters env q tail fs gs j))

  pub no_case_same : CasesAgree what w no_case no_case
  unfolding meaning
  no_case_same name own f g enters u env r tail fs gs h a b i = i

  pub case_same : (s : CaseShape) (xs : List ℕ) (t u : Tree) (cs ds : Cases) → NodeAgrees what w t u
      → CasesAgree what w cs ds → CasesAgree what w (and_case (case s xs t) cs) (and_case (case s xs u) ds)
  unfolding meaning
  case_same s xs t u cs ds h i name own f g enters z env r tail fs gs j a b k = parts_agree what (shape_parts s env z) _
      _ _ _
      (λ vs. h name own f g enters (with_values env xs vs) r tail fs gs j)
      (i name own f g enters z env r tail fs gs j a b k)

  pub switch_same : (x : ℕ) (cs ds : Cases) (t u : Tree) → CasesAgree what w cs ds → NodeAgrees what w t u
      → NodeAgrees what w (switch x cs t) (switch x ds u)
  unfolding meaning
  switch_same x cs ds t u h i name own f g enters env r tail fs gs j =
      h name own f g enters (env x) env r tail fs gs j _ _ (i name own f g enters env r tail fs gs j)

  pub no_row_same : RowsAgree what w no_row no_row
  unfolding meaning
  no_row_same name own f g enters u env r tail fs gs h a b i = i

  pub row_same : (ss : Segs) (t u : Tree) (rs qs : SegRows) → NodeAgrees what w t u → RowsAgree what w rs qs
      → RowsAgree what w (and_row (seg_row ss t) rs) (and_row (seg_row ss u) qs)
  unfolding meaning
  row_same ss t u rs qs h i name own f g enters (T.bits bs) env r tail fs gs j a b k =
      and_cuts_agrees what _ _ _ _ (λ c. omega arith)
      (bound_agrees what (match_segs (segments_of ss) env bs) _ _ _ _
      (λ xs. h name own f g enters (with_bindings env xs) r tail fs gs j)
      (i name own f g enters (T.bits bs) env r tail fs gs j a b k))
  row_same ss t u rs qs h i name own f g enters _ env r tail fs gs j a b k = k

  pub segments_same : (x : ℕ) (rs qs : SegRows) (t u : Tree) → RowsAgree what w rs qs → NodeAgrees what w t u
      → NodeAgrees what w (segments x rs t) (segments x qs u)
  unfolding meaning
  segments_same x rs qs t u h i name own f g enters env r tail fs gs j =
      h name own f g enters (env x) env r tail fs gs j _ _ (i name own f g enters env r tail fs gs j)

  pub step_same : (z : BinStep) (a b c d : Tree) → NodeAgrees what w a c → NodeAgrees what w b d
      → NodeAgrees what w (step z a b) (step z c d)
  unfolding meaning
  step_same z a b c d h i name own f g enters env r tail fs gs j =
      and_cuts_agrees what _ _ _ _ (λ k. omega arith)
      (bound_agrees what (bin_step w z env r).bound _ _ _ _ (λ e. h name own f g enters e _ tail fs gs j)
      (i name own f g enters env _ tail fs gs j))

  pub guarded_same : (e k : Expr) (a b c d : Tree) → ExprAgrees what w e k → NodeAgrees what w a c
      → NodeAgrees what w b d → NodeAgrees what w (guarded e a b) (guarded k c d)
  unfolding meaning
  guarded_same e k a b c d h i j name own f g enters env r tail fs gs l = holds_agrees what _ _ _ _ _ _
      (h name own f g enters env false blank blank (same_state what blank))
      (i name own f g enters env r tail fs gs l) (j name own f g enters env r tail fs gs l)
