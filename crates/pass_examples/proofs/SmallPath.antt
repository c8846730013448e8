-- What small functions do in each form, and that each step keeps it.
use Rattle.std.proofs.Common.{◌≡◌, ◌≤◌, ◌⊎◌, inl, inr, ℕ, zero, suc, [], ◌∷◌, length, Bool, true, false, eqb, max, Contains, IsTrue, Some, None, if◌then◌else◌, refl, sym, ap, ◌∙◌, subst, arith}
use Rattle.std.proofs.Math.Nat.{le-max_left}
use Rattle.erl_base.specs.Names.{Name}
use Rattle.erl_base.specs.declared.ids.FunKey.{FunKey}
use Rattle.erl_term.specs.Term as T
use Rattle.erl_term.specs.Term.{Term}
use Rattle.erl_term.specs.Terms.{Values, only}
use Rattle.erl_term.specs.Depth.{depths}
use Rattle.erl_term.specs.WellFormed.{maps_rise}
use Rattle.bif_table.specs.Builtins as B
use Rattle.bif_table.specs.BuiltinAnswer.{Answer, value, raised, answer}
use Rattle.world_model.specs.Requests.{answers}
use Rattle.world_model.specs.RemoteCalls.{call_erlang, call_terms}
use Rattle.world_model.specs.Run.{Entry, State, Outcome, gives, raises, waits, spent, M, ◌>>=◌, going_on, give, entered}
use Rattle.world_model.specs.Meaning.{one, single}
use Rattle.world_model.specs.Entries.{entry_left}
use Rattle.step_machine.specs.Bodies.{Here, here_of, calling}
use Rattle.kernel_form.specs.Kernel as K
use Rattle.kernel_meaning.specs.Environment.{Setting, with_values, no_values}
use Rattle.kernel_meaning.specs.KernelRun.{meaning, fun_does}
use Rattle.kernel_meaning.specs.Forms.{kernel_does}
use Rattle.kernel_meaning.proofs.Agreeing.{bind_agrees, give_agrees, noted_same}
use Rattle.kernel_meaning.proofs.Congruences.{call_terms_agrees}
use Rattle.ssa_form.specs.Ssa as S
use Rattle.ssa_form.specs.Ssa.{Last, ret}
use Rattle.ssa_form.specs.Storage.{term, tail, Around, Storage, Frame, After, go_on}
use Rattle.ssa_form.specs.Operations as Operations
use Rattle.ssa_form.specs.Operations.{ends_with}
use Rattle.ssa_form.specs.SsaRun.{ssa_run, Go, leave, in_vars, blocks, params_hold, chain_does}
use Rattle.ssa_form.specs.Spots as Spot
use Rattle.ssa_form.specs.Spots.{nothing}
use Rattle.ssa_form.specs.PlacedRun.{in_registers, no_registers, placed_run}
use Rattle.ssa_form.specs.FramedRun.{in_stack, framed_run}
use Rattle.ssa_form.specs.PassView.{result_of, around_in, ssa_does, placed_does, framed_does}
use Rattle.pass_contract.specs.InModule.{InModule}
use Rattle.pass_contract.specs.SameRun.{Compared, SameState, SameResult, EntersAgree}
use Rattle.pass_contract.specs.PassContract.{Run, undef, ComesTo, Agrees, Refines, Form, deepest, are_fitting, most_made, most_named, KeepsShape, AddsNoTest}
use Rattle.pass_examples.specs.SmallPath.{Small, gives_term, gives_param, goes_to, takes_length, calls_out, fails, erlang, error, kernel_body, kernel_fun, ssa_body, spots, placed_body, framed_body, Fits, in_kernel_form, in_ssa, in_spots, TestsNoMore, SmallPathsKeep}

-- the end that an answer gives
abbrev pub end_of : Answer → Outcome Term
end_of (value t) = gives t
end_of (raised c r) = raises c r

-- what each does with its argument
abbrev pub result : Small → Here → Term → State → State × Outcome Term
result (gives_term t) here v s = (s, gives t)
result gives_param here v s = (s, gives v)
result (goes_to n) here v s = one (calling here n true (v ∷ []) >>= single) give s
result takes_length here v s = (s, end_of (answer B.Length here.own (v ∷ [])))
result (calls_out t u) here v s = one (call_terms here.own t u (v ∷ [])) give s
result fails here v s = (s, raises T.error v)

-- with any terms
abbrev pub given : Small → Here → Values → State → State × Outcome Term
given q here (v ∷ []) s = result q here v s
given q here _ s = (s, undef)

-- a run that does this, and nothing else
pub record Does (run : Run) (q : Small) : Type 0 where
  pub does : (here : Here) (vs : Values) (s : State) → ComesTo run here vs s (given q here vs s)
  pub alone : (here : Here) (vs : Values) (s : State) (r : State × Outcome Term) → ComesTo run here vs s r
      → r ≡ given q here vs s

-- Runs that do the same agree, and refine one another.

module _ (w : Compared) (name : Name) (own : Term) (f g : ℕ → Values → M Term) (h : EntersAgree w f g) where
  entered_same : (n k : ℕ) (e : Entry) (vs : Values) (s t : State) → SameState w s t
      → SameResult w (entry_left k e (f n vs) s) (entry_left k e (g n vs) t)
  entered_same n zero e vs s t r = record { state = r; end = refl }
  entered_same n (suc k) e vs s t r = h n vs _ _
      (noted_same w (entered e) (record s { left = k }) (record t { left = k }) (record {
        replies = r.replies;
        mailbox = r.mailbox;
        next = r.next;
        left = refl;
        done = r.done;
        sub_binaries = r.sub_binaries;
      }))

  calling_same : (n : ℕ) (vs : Values) (s t : State) → SameState w s t
      → SameResult w (calling (here_of name own f) n true vs s) (calling (here_of name own g) n true vs t)
  calling_same n vs s t r = subst
      (λ k. SameResult w (entry_left s.left e (f n vs) s) (entry_left k e (g n vs) t)) (sym r.left)
      (entered_same n s.left e vs s t r)
    where
      e : Entry
      e = record { site = n; tail = true }

  result_same : (q : Small) (v : Term) (s t : State) → SameState w s t
      → SameResult w (result q (here_of name own f) v s) (result q (here_of name own g) v t)
  result_same (gives_term u) v s t r = record { state = r; end = refl }
  result_same gives_param v s t r = record { state = r; end = refl }
  result_same takes_length v s t r = record { state = r; end = refl }
  result_same (goes_to n) v s t r = bind_agrees w _ _ _ _
      (bind_agrees w _ _ _ _ (λ a b i. calling_same n (v ∷ []) a b i) (λ a. give_agrees w (a ∷ [])))
      (λ vs. give_agrees w (only vs)) s t r
  result_same fails v s t r = record { state = r; end = refl }
  result_same (calls_out t' u) v s t r = bind_agrees w _ _ _ _
      (call_terms_agrees w name own f g h t' u (v ∷ [])) (λ vs. give_agrees w (only vs)) s t r

  pub given_same : (q : Small) (vs : Values) (s t : State) → SameState w s t
      → SameResult w (given q (here_of name own f) vs s) (given q (here_of name own g) vs t)
  given_same q [] s t r = record { state = r; end = refl }
  given_same q (v ∷ []) s t r = result_same q v s t r
  given_same q (v ∷ u ∷ vs) s t r = record { state = r; end = refl }

pub alike_agree : (w : Compared) (old new : Run) (q : Small) → Does old q → Does new q → Agrees w old new
alike_agree w old new q x y name own f g lf lg h vs s t r z e = record {
  result = given q (here_of name own g) vs t;
  gives = y.does (here_of name own g) vs t;
  same = subst (λ a. SameResult w a (given q (here_of name own g) vs t)) (sym (x.alone (here_of name own f) vs s z e))
      (given_same w name own f g h q vs s t r);
}

alike_refine : (old new : Run) (q : Small) → Does old q → Does new q → Refines old new
alike_refine old new q x y here vs s r l e =
    subst (λ z. ComesTo new here vs s z) (sym (x.alone here vs s r e)) (y.does here vs s)

pub some_is : (a b : State × Outcome Term) → Some a ≡ Some b → a ≡ b
some_is a b e = cc

-- Kernel form.

pub answer_then : (a : Answer) (k : Values → M Values) (s : State)
    → ((t : Term) (u : State) → k (t ∷ []) u ≡ (u, gives (t ∷ [])))
    → one (answers a >>= k) give s ≡ (s, end_of a)
answer_then (value t) k s h = ap (λ r. going_on r (λ ws. give (only ws))) (h t s)
answer_then (raised c r) k s h = refl

kernel_result : (w : Setting) (k : FunKey) (n : ℕ) (q : Small) (here : Here) (v : Term) (s : State)
    → fun_does w (kernel_fun k n q) here (v ∷ []) s ≡ result q here v s
unfolding fun_does
kernel_result w k n (gives_term t) here v s = refl
kernel_result w k n gives_param here v s = refl
kernel_result w k n (goes_to m) here v s = refl
kernel_result w k n (calls_out t u) here v s = refl
kernel_result w k n fails here v s = refl
kernel_result w k n takes_length here v s = answer_then (answer B.Length here.own (v ∷ []))
    (λ vs. meaning w here (K.values (K.var 1 ∷ []))
    (with_values (with_values no_values (0 ∷ []) (v ∷ [])) (1 ∷ []) vs) true) s (λ t u. refl)

kernel_given : (w : Setting) (k : FunKey) (n : ℕ) (q : Small) (here : Here) (vs : Values) (s : State)
    → fun_does w (kernel_fun k n q) here vs s ≡ given q here vs s
unfolding fun_does
kernel_given w k n q here [] s = refl
kernel_given w k n q here (v ∷ []) s = kernel_result w k n q here v s
kernel_given w k n q here (v ∷ u ∷ vs) s = by (eqb (length (v ∷ u ∷ vs)) 1) (more_than_one (length vs))
  where
    more_than_one : (i : ℕ) → eqb (suc (suc i)) 1 ≡ false
    more_than_one i = grind arith

    by : (b : Bool) → b ≡ false
        → (if b then one (meaning w here (kernel_body q) (with_values no_values (0 ∷ []) (v ∷ u ∷ vs)) true) give
        else λ z. (z, undef)) s ≡ (s, undef)
    by false e = refl
    by true e = absurd cc

pub kernel_is : (m : InModule) (k : FunKey) (n : ℕ) (q : Small) → Does (kernel_does (kernel_fun k n q) m) q
kernel_is m k n q = record {
  does = λ here vs s. record { within = 0; gives = ap Some (kernel_given _ k n q here vs s) };
  alone = λ here vs s r e. sym (some_is _ _ e.gives) ∙ kernel_given _ k n q here vs s;
}

-- Bodies: what comes with one term in a turn, and nothing in none.

-- with one term
pub record DoesOne (body : Run) (q : Small) : Type 0 where
  pub does : (here : Here) (v : Term) (s : State) → ComesTo body here (v ∷ []) s (result q here v s)
  pub alone : (here : Here) (v : Term) (s : State) (r : State × Outcome Term) (k : ℕ)
      → body here (v ∷ []) s k ≡ Some r → r ≡ result q here v s

pub does_one : (body : Run) (q : Small) → DoesOne body q
    → Does (λ here vs s k. if eqb (length vs) 1 then body here vs s k else Some (s, undef)) q
does_one body q h = record {
  does = does_it;
  alone = λ here vs s r e. alone_so here vs s r e.within e.gives;
}
  where
    others : (here : Here) (vs : Values) (s : State) (k : ℕ) (b : Bool) → b ≡ false
        → (if b then body here vs s k else Some (s, undef)) ≡ Some (s, undef)
    others here vs s k false e = refl
    others here vs s k true e = absurd cc

    more_than_one : (i : ℕ) → eqb (suc (suc i)) 1 ≡ false
    more_than_one i = grind arith

    does_it : (here : Here) (vs : Values) (s : State)
        → ComesTo (λ here vs s k. if eqb (length vs) 1 then body here vs s k else Some (s, undef)) here vs s
        (given q here vs s)
    does_it here [] s = record { within = 1; gives = refl }
    does_it here (v ∷ []) s =
        let c : ComesTo body here (v ∷ []) s (result q here v s) = h.does here v s in
        record { within = c.within; gives = c.gives }
    does_it here (v ∷ u ∷ vs) s = record {
      within = 1;
      gives = others here (v ∷ u ∷ vs) s 1 (eqb (length (v ∷ u ∷ vs)) 1) (more_than_one (length vs));
    }

    alone_so : (here : Here) (vs : Values) (s : State) (r : State × Outcome Term) (k : ℕ)
        → (if eqb (length vs) 1 then body here vs s k else Some (s, undef)) ≡ Some r → r ≡ given q here vs s
    alone_so here [] s r k e = sym (some_is _ _ e)
    alone_so here (v ∷ []) s r k e = h.alone here v s r k e
    alone_so here (v ∷ u ∷ vs) s r k e = some_is _ _
        (sym e ∙ others here (v ∷ u ∷ vs) s k (eqb (length (v ∷ u ∷ vs)) 1) (more_than_one (length vs)))

-- in one turn
pub does_by : (body : Run) (q : Small)
    → ((here : Here) (v : Term) (s : State) (k : ℕ) → body here (v ∷ []) s (suc k) ≡ Some (result q here v s))
    → ((here : Here) (v : Term) (s : State) (r : State × Outcome Term) → body here (v ∷ []) s zero ≡ Some r → ⊥)
    → Does (λ here vs s k. if eqb (length vs) 1 then body here vs s k else Some (s, undef)) q
does_by body q h z =
    does_one body q (record { does = λ here v s. record { within = 1; gives = h here v s 0 }; alone = alone_so })
  where
    alone_so : (here : Here) (v : Term) (s : State) (r : State × Outcome Term) (k : ℕ)
        → body here (v ∷ []) s k ≡ Some r → r ≡ result q here v s
    alone_so here v s r zero e = absurd (z here v s r e)
    alone_so here v s r (suc k) e = some_is _ _ (sym e ∙ h here v s k)

-- a call that raises an error
pub raised_error : (own v : Term) (s : State) → one (call_terms own erlang error (v ∷ [])) give s ≡
    (s, raises T.error v)
unfolding call_terms call_erlang answer
raised_error own v s = refl

-- a call that ends the body
pub ends_over : {X : Type 0} (o : Storage X) (around : Around) (here : Here) (go : Go o around here) (n : ℕ) (l : Last)
    (k : Frame X → State → After X) (x : State × Outcome Values)
    → result_of (leave o around here go n l (go_on (ends_with o around here x) k))
    ≡ Some (going_on x (λ ws. give (only ws)))
ends_over o around here go n l k (s, gives t) = refl
ends_over o around here go n l k (s, raises c r) = refl
ends_over o around here go n l k (s, waits q) = refl
ends_over o around here go n l k (s, spent) = refl

ssa_length : (w : Around) (n : ℕ) (here : Here) (v : Term) (s : State) (k : ℕ) (a : Answer)
    → result_of (leave in_vars w here (blocks in_vars w here (ssa_body n takes_length) k) 0 (ret (S.var 1))
    (go_on (Operations.answers in_vars w here tail (Some 1) a (record {
      store = record { values = params_hold (0 ∷ []) (term v ∷ []); handlers = [] };
      contexts = [];
      save = 0;
      window = None;
    }) s) (chain_does in_vars w here [] (ret (S.var 1)) []))) ≡ Some (s, end_of a)
ssa_length w n here v s k (value t) = refl
ssa_length w n here v s k (raised c r) = refl

ssa_result : (m : InModule) (n : ℕ) (q : Small) → Fits m q → (here : Here) (v : Term) (s : State) (k : ℕ)
    → result_of (ssa_run (around_in m) here (ssa_body n q) (suc k) (term v ∷ []) [] s) ≡ Some (result q here v s)
unfolding ssa_run
ssa_result m n (gives_term t) h here v s k = refl
ssa_result m n gives_param h here v s k = refl
ssa_result m n (goes_to i) h here v s k = rw h
    (ends_over in_vars (around_in m) here (blocks in_vars (around_in m) here (ssa_body n (goes_to i)) k) 0
    (ret (S.var 1)) _
    ((calling here i true (v ∷ []) >>= single) s))
ssa_result m n (calls_out t u) h here v s k =
    ends_over in_vars (around_in m) here (blocks in_vars (around_in m) here (ssa_body n (calls_out t u)) k) 0
    (ret (S.var 1)) _ (call_terms here.own t u (v ∷ []) s)
ssa_result m n fails h here v s k = ends_over in_vars (around_in m) here
    (blocks in_vars (around_in m) here (ssa_body n fails) k) 0 (ret (S.var 1))
    (chain_does in_vars (around_in m) here [] (ret (S.var 1)) [])
    (call_terms here.own erlang error (v ∷ []) s) ∙ ap Some (raised_error here.own v s)
ssa_result m n takes_length h here v s k = ssa_length (around_in m) n here v s k (answer B.Length here.own (v ∷ []))

pub no_turn : (r : State × Outcome Term) → None ≡ Some r → ⊥
no_turn r e = cc

pub ssa_is : (m : InModule) (n : ℕ) (q : Small) → Fits m q → Does (ssa_does (ssa_body n q) (around_in m)) q
unfolding ssa_run
ssa_is m n q h = does_by _ q (ssa_result m n q h) (λ here v s r e. no_turn r e)

placed_length : (w : Around) (n : ℕ) (here : Here) (v : Term) (s : State) (k : ℕ) (a : Answer)
    → result_of (leave (in_registers spots) w here (blocks (in_registers spots) w here (ssa_body n takes_length) k) 0
    (ret (S.var 1)) (go_on (Operations.answers (in_registers spots) w here tail (Some 1) a (record {
      store = record no_registers { ys = λ j. if eqb j 0 then Spot.own 0 (term v) else nothing j };
      contexts = [];
      save = 0;
      window = None;
    }) s) (chain_does (in_registers spots) w here [] (ret (S.var 1)) []))) ≡ Some (s, end_of a)
placed_length w n here v s k (value t) = refl
placed_length w n here v s k (raised c r) = refl

placed_result : (m : InModule) (n : ℕ) (q : Small) → Fits m q → (here : Here) (v : Term) (s : State) (k : ℕ)
    → result_of (placed_run (around_in m) here (placed_body n q) (suc k) (term v ∷ []) [] s) ≡ Some (result q here v s)
unfolding placed_run
placed_result m n (gives_term t) h here v s k = refl
placed_result m n gives_param h here v s k = refl
placed_result m n (goes_to i) h here v s k = rw h (ends_over (in_registers spots) (around_in m) here
    (blocks (in_registers spots) (around_in m) here (ssa_body n (goes_to i)) k) 0 (ret (S.var 1)) _
    ((calling here i true (v ∷ []) >>= single) s))
placed_result m n (calls_out t u) h here v s k = ends_over (in_registers spots) (around_in m) here
    (blocks (in_registers spots) (around_in m) here (ssa_body n (calls_out t u)) k) 0 (ret (S.var 1)) _
    (call_terms here.own t u (v ∷ []) s)
placed_result m n fails h here v s k = ends_over (in_registers spots) (around_in m) here
    (blocks (in_registers spots) (around_in m) here (ssa_body n fails) k) 0 (ret (S.var 1))
    (chain_does (in_registers spots) (around_in m) here [] (ret (S.var 1)) [])
    (call_terms here.own erlang error (v ∷ []) s) ∙ ap Some (raised_error here.own v s)
placed_result m n takes_length h here v s k =
    placed_length (around_in m) n here v s k (answer B.Length here.own (v ∷ []))

placed_is : (m : InModule) (n : ℕ) (q : Small) → Fits m q → Does (placed_does (placed_body n q) (around_in m)) q
unfolding placed_run
placed_is m n q h = does_by _ q (placed_result m n q h) (λ here v s r e. no_turn r e)

framed_length : (w : Around) (n : ℕ) (here : Here) (v : Term) (s : State) (k : ℕ) (a : Answer)
    → result_of (leave (in_stack spots ((0, 1) ∷ [])) w here
    (blocks (in_stack spots ((0, 1) ∷ [])) w here (ssa_body n takes_length) k) 0
    (ret (S.var 1)) (go_on (Operations.answers (in_stack spots ((0, 1) ∷ [])) w here tail (Some 1) a (record {
      store = record { xs = nothing; frame = Some (Spot.own 0 (term v) ∷ []) };
      contexts = [];
      save = 0;
      window = None;
    }) s) (chain_does (in_stack spots ((0, 1) ∷ [])) w here [] (ret (S.var 1)) []))) ≡ Some (s, end_of a)
framed_length w n here v s k (value t) = refl
framed_length w n here v s k (raised c r) = refl

framed_result : (m : InModule) (n : ℕ) (q : Small) → Fits m q → (here : Here) (v : Term) (s : State) (k : ℕ)
    → result_of (framed_run (around_in m) here (framed_body n q) (suc k) (term v ∷ []) [] s) ≡ Some (result q here v s)
unfolding framed_run
framed_result m n (gives_term t) h here v s k = refl
framed_result m n gives_param h here v s k = refl
framed_result m n (goes_to i) h here v s k = rw h (ends_over (in_stack spots ((0, 1) ∷ [])) (around_in m) here
    (blocks (in_stack spots ((0, 1) ∷ [])) (around_in m) here (ssa_body n (goes_to i)) k) 0 (ret (S.var 1)) _
    ((calling here i true (v ∷ []) >>= single) s))
framed_result m n (calls_out t u) h here v s k = ends_over (in_stack spots ((0, 1) ∷ [])) (around_in m) here
    (blocks (in_stack spots ((0, 1) ∷ [])) (around_in m) here (ssa_body n (calls_out t u)) k) 0 (ret (S.var 1)) _
    (call_terms here.own t u (v ∷ []) s)
framed_result m n fails h here v s k = ends_over (in_stack spots ((0, 1) ∷ [])) (around_in m) here
    (blocks (in_stack spots ((0, 1) ∷ [])) (around_in m) here (ssa_body n fails) k) 0 (ret (S.var 1))
    (chain_does (in_stack spots ((0, 1) ∷ [])) (around_in m) here [] (ret (S.var 1)) [])
    (call_terms here.own erlang error (v ∷ []) s) ∙ ap Some (raised_error here.own v s)
framed_result m n takes_length h here v s k =
    framed_length (around_in m) n here v s k (answer B.Length here.own (v ∷ []))

framed_is : (m : InModule) (n : ℕ) (q : Small) → Fits m q → Does (framed_does (framed_body n q) (around_in m)) q
unfolding framed_run
framed_is m n q h = does_by _ q (framed_result m n q h) (λ here v s r e. no_turn r e)

-- Shapes.

pub none_there : {A : Type 0} (x : A) → Contains [] x → ⊥
none_there x (k, l, e) = omega (arith, l)

one_there : (x v : ℕ) → Contains (x ∷ []) v → x ≡ v
one_there x v (zero, l, e) = e
one_there x v (suc k, l, e) = absurd (omega (arith, l))

not_zero : (v : ℕ) → 1 ≡ v → 0 ≡ v → ⊥
not_zero v e f = omega (arith, e, f)

added_one : (v : ℕ) → Contains (0 ∷ 1 ∷ []) v → Contains (0 ∷ []) v ⊎ (1 ≤ v)
added_one v (zero, l, e) = inl (zero, omega arith, e)
added_one v (suc zero, l, e) = let p : 1 ≡ v = e in inr (omega (arith, p))
added_one v (suc (suc k), l, e) = absurd (omega (arith, l))

error_depth : deepest (erlang ∷ error ∷ []) ≤ max (deepest []) most_made
unfolding depths
error_depth = omega arith

error_fits : IsTrue (are_fitting (erlang ∷ error ∷ []))
unfolding maps_rise
error_fits = refl

abbrev Built : FunKey → ℕ → Small → Type 0
Built k n q = KeepsShape (in_kernel_form k n q) (in_ssa n q)

built : (k : FunKey) (n : ℕ) (q : Small) → Built k n q
built k n (gives_term t) = record {
  arity = refl;
  receives = λ v c. c;
  added = λ v c. inl c;
  next = omega arith;
  calls = λ v c d. c;
  stays = λ v c d. c;
  variables = omega arith;
  deepest = le-max_left (deepest (t ∷ [])) most_made;
  fitting = λ e. e;
  widest = omega arith;
  highest = omega arith;
}
built k n gives_param = record {
  arity = refl;
  receives = λ v c. c;
  added = λ v c. inl c;
  next = omega arith;
  calls = λ v c d. c;
  stays = λ v c d. c;
  variables = omega arith;
  deepest = omega arith;
  fitting = λ e. e;
  widest = omega arith;
  highest = omega arith;
}
built k n (goes_to i) = record {
  arity = refl;
  receives = λ v c. c;
  added = added_one;
  next = omega arith;
  calls = λ v c d. c;
  stays = λ v c d. c;
  variables = omega arith;
  deepest = omega arith;
  fitting = λ e. e;
  widest = omega arith;
  highest = omega arith;
}
built k n takes_length = record {
  arity = refl;
  receives = λ v c. c;
  added = λ v c. inl c;
  next = omega arith;
  calls = λ v c d. c;
  stays = λ v c d. c;
  variables = omega arith;
  deepest = omega arith;
  fitting = λ e. e;
  widest = omega arith;
  highest = omega arith;
}
built k n (calls_out t u) = record {
  arity = refl;
  receives = λ v c. c;
  added = added_one;
  next = omega arith;
  calls = λ v c d. absurd (not_zero v (one_there 1 v c) (one_there 0 v d));
  stays = λ v c d. absurd (none_there v c);
  variables = omega arith;
  deepest = le-max_left (deepest (t ∷ u ∷ [])) most_made;
  fitting = λ e. e;
  widest = omega arith;
  highest = omega arith;
}
built k n fails = shape
  where
    shape : Built k n fails
    shape = record {
      arity = refl;
      receives = λ v c. c;
      added = added_one;
      next = omega arith;
      calls = λ v c d. absurd (not_zero v (one_there 1 v c) (one_there 0 v d));
      stays = λ v c d. absurd (none_there v c);
      variables = omega arith;
      deepest = error_depth;
      fitting = λ e. error_fits;
      widest = omega arith;
      highest = omega arith;
    }

-- a form beside another one with the same parts
same_shape : (does' : InModule → Run) (x : Form) → KeepsShape x (record x { does = does' })
same_shape does' x = record {
  arity = refl;
  receives = λ v c. c;
  added = λ v c. inl c;
  next = omega arith;
  calls = λ v c d. c;
  stays = λ v c d. c;
  variables = omega arith;
  deepest = le-max_left (deepest x.literals) most_made;
  fitting = λ e. e;
  widest = omega arith;
  highest = le-max_left x.highest most_named;
}

-- Tests.

built_tests : (k : FunKey) (n : ℕ) (q : Small) → AddsNoTest (in_kernel_form k n q) (in_ssa n q)
built_tests k n (gives_term t) = record { tests = omega arith; choices = omega arith }
built_tests k n gives_param = record { tests = omega arith; choices = omega arith }
built_tests k n (goes_to i) = record { tests = omega arith; choices = omega arith }
built_tests k n takes_length = record { tests = omega arith; choices = omega arith }
built_tests k n (calls_out t u) = record { tests = omega arith; choices = omega arith }
built_tests k n fails = record { tests = omega arith; choices = omega arith }

-- a form beside another one with the same parts
same_tests : (does' : InModule → Run) (x : Form) → AddsNoTest x (record x { does = does' })
same_tests does' x = record { tests = omega arith; choices = omega arith }

tests_no_more : (k : FunKey) (n : ℕ) (q : Small) → TestsNoMore k n q
tests_no_more k n q = record {
  built = built_tests k n q;
  placed = same_tests _ (in_ssa n q);
  framed = same_tests _ (in_spots n q);
}

pub small_paths_keep : SmallPathsKeep
small_paths_keep w m k n q h = record {
  built = record {
    agrees = alike_agree w _ _ q (kernel_is m k n q) (ssa_is m n q h);
    shape = built k n q;
  };
  placed = record {
    refines = alike_refine _ _ q (ssa_is m n q h) (placed_is m n q h);
    shape = same_shape _ (in_ssa n q);
  };
  framed = record {
    refines = alike_refine _ _ q (placed_is m n q h) (framed_is m n q h);
    shape = same_shape _ (in_spots n q);
  };
  tests = tests_no_more k n q;
}
