-- One induction over all operations, for two storages: where the parts of the storages keep these relations, every
-- operation does, as long as the first one breaks no rule; and what it does beside its values is one of the moves.
use Rattle.std.proofs.Common.{◌≡◌, inl, inr, ℕ, List, [], ◌∷◌, length, Bool, true, false, not, ◌%◌, ◌&&◌, ◌||◌, Option, Some, None, refl, eqb, IsTrue, IsFalse, if◌then◌else◌}
use Rattle.erl_term.specs.Term as Tm
use Rattle.erl_term.specs.Term.{Term, Class}
use Rattle.erl_term.specs.Terms.{Values, terms}
use Rattle.erl_term.specs.Segments.{Shape, segment_value}
use Rattle.bif_table.specs.BuiltinAnswer.{Answer, value, raised, answer}
use Rattle.bif_table.specs.Builtins.{Bif, arity_of, is_guard, is_collecting}
use Rattle.world_model.specs.World.{Message}
use Rattle.world_model.specs.Run.{State, noting, cut}
use Rattle.step_machine.specs.Bodies.{Here}
use Rattle.step_machine.specs.Frames.{MatchContext, rest_of}
use Rattle.ssa_form.specs.Ssa as Ssa
use Rattle.ssa_form.specs.Ssa.{Arg, var, lit, Op}
use Rattle.ssa_form.specs.Checks.{check_holds}
use Rattle.ssa_form.specs.Storage.{Held, unset, term, context, position, marker, Leaving, calls, Storage, After, Mode, Around, if_some}
use Rattle.ssa_form.specs.Values.{terms_of, parts_of, part_cuts}
use Rattle.ssa_form.specs.SetFacts.{is_peek, is_try_start, never_raises}
use Rattle.ssa_form.specs.Operations.{put, collected, gives_held, asked, answers, cons_does, map_does, fun_made, start_does, at_context, takes_segment, created, on_terms, does}
use Rattle.ssa_form.proofs.Moves.{at, as_it_was, nowhere, to_note}
use Rattle.ssa_form.proofs.Spending.{answers_value}
use Rattle.ssa_form.proofs.TwoStorages.{lk, leaves_by, is_try_end, is_take, Two, Traits, traits, Steady, Calm, Keeps, Start, Sim, sim_bad}
use Rattle.ssa_form.proofs.TwoRules.{some_sim, when_sim, collected_sim, Permits, put_sim, gives_sim, asked_sim, answers_sim, local_sim, remote_sim, fun_sim, send_sim, trace_sim}
use Rattle.ssa_form.proofs.TwoTerms.{raise_sim, cons_sim, map_sim, key_sim, element_sim, cell_sim, fun_made_sim, start_sim, at_sim, segment_sim, restore_sim, close_sim, open_sim, wait_sim, skip_sim, bind_sim, back_sim, use_sim, take_sim, peek_sim}

-- operations that are no handlers, looks or takings
abbrev is_calm : Op → Bool
is_calm op = not (is_try_start op || is_try_end op || is_peek op || is_take op)

calm_by : (f : Traits) → IsTrue (not (f.opens || f.closes || f.looks || f.takes)) → Calm f
calm_by f e = by f.opens f.closes f.looks f.takes refl refl refl refl e
  where
    by : (a b c d : Bool) → f.opens ≡ a → f.closes ≡ b → f.looks ≡ c → f.takes ≡ d → IsTrue (not (a || b || c || d))
        → Calm f
    by false false false false i j k l h =
        record { steady = record { opens = i; closes = j }; looks = k; takes = l }
    by false false false true i j k l h = absurd cc
    by false false true d i j k l h = absurd cc
    by false true c d i j k l h = absurd cc
    by true b c d i j k l h = absurd cc

steady_by : {f : Traits} → IsFalse f.opens → IsFalse f.closes → Steady f
steady_by e f = record { opens = e; closes = f }

and_first : (a b : Bool) → (a && b) ≡ true → a ≡ true
and_first true b e = refl
and_first false b e = absurd cc

module _ {S T : Type 0} (two : Two S T) (x : S) (y : T) (c : List MatchContext) (n : ℕ) (w : Option Message)
    (r : two.before (lk w) x y) (s : State) where
  abbrev K : Op → Traits
  K op = traits two.mode op

  abbrev o : Storage S
  o = two.o

  abbrev p : Storage T
  p = two.p

  abbrev around : Around
  around = two.around

  abbrev here : Here
  here = two.here

  abbrev m : Mode
  m = two.mode

  abbrev d : Option ℕ
  d = two.dst

  abbrev start : (op : Op) → Keeps two (K op) → Start S T
  start op k = record { two = two; kind = K op; keeps = k; save = n; window = w; state = s }

  abbrev Simulates : Op → After S → After T → Type 0
  Simulates op a z = Sim two (K op) n w s a z

  calm : (op : Op) → IsTrue (is_calm op) → Calm (K op)
  calm op e = calm_by (K op) e

  -- with a sub-binary counted
  abbrev counted : State
  counted = noting (cut (part_cuts around.uncounted d)) s

  abbrev as_integer : Shape → List Bool → Held
  as_integer j bs = term (segment_value (record j { is_binary = false }) bs)

  -- the ways in which it lets control leave are allowed
  abbrev pub Leaves : Op → Type 0
  Leaves op = (l : Leaving) → leaves_by op m l → two.ok l

  -- what it lets be raised
  abbrev P : (op : Op) → Keeps two (K op) → Answer → Type 0
  P op k a = Permits (start op k) m a

  bif_permits : (b : Bif) (k : Keeps two (K (Ssa.bif b))) (vs : Values) → eqb (length vs) (arity_of b) ≡ true
      → P (Ssa.bif b) k (answer b here.own vs)
  bif_permits b k vs h = by (never_raises b) refl
    where
      to_value : (a : Answer) (t : Term) → a ≡ value t → P (Ssa.bif b) k a
      to_value a t e = rw e tt

      to_any : (a : Answer) → never_raises b ≡ false → P (Ssa.bif b) k a
      to_any (value t) e = tt
      to_any (raised q t) e = λ f. simp (f, e) refl

      by : (z : Bool) → never_raises b ≡ z → P (Ssa.bif b) k (answer b here.own vs)
      by true e = let a : (t : Term) × (answer b here.own vs ≡ value t) = answers_value b here.own vs e h
          in to_value _ a.0 a.1
      by false e = to_any (answer b here.own vs) e

  bif_sim : (b : Bif) (k : Keeps two (K (Ssa.bif b))) (a : Answer) → P (Ssa.bif b) k a → (t : Bool)
      → Simulates (Ssa.bif b)
      (if t then collected o around here (at x c n w) (λ g. answers o around here m d a g s)
      else answers o around here m d a (at x c n w) s)
      (if t then collected p around here (at y c n w) (λ g. answers p around here m d a g s)
      else answers p around here m d a (at y c n w) s)
  bif_sim b k a h true = collected_sim (start (Ssa.bif b) k) x y c n w r (λ g. answers o around here m d a g s)
      (λ g. answers p around here m d a g s)
      (λ f z q. answers_sim (start (Ssa.bif b) k) (calm (Ssa.bif b) refl) f z c n w q s (nowhere refl) refl m refl a
      h)
  bif_sim b k a h false = answers_sim (start (Ssa.bif b) k) (calm (Ssa.bif b) refl) x y c n w r s (nowhere refl) refl
      m refl a h

  created_permits : (gs : List Shape) (k : Keeps two (K (Ssa.bs_create gs))) (i : Option (List Bool))
      → P (Ssa.bs_create gs) k (created o around here i)
  created_permits gs k None = λ f. rw f refl
  created_permits gs k (Some bs) = tt

  made : (gs : List Shape) (k : Keeps two (K (Ssa.bs_create gs))) (a : S) (z : T) → two.before (lk w) a z
      → (i : Option (List Bool))
      → Simulates (Ssa.bs_create gs)
      (answers o around here m d (created o around here i) (at a c n w) s)
      (answers p around here m d (created p around here i) (at z c n w) s)
  made gs k a z q None = answers_sim (start (Ssa.bs_create gs) k) (calm (Ssa.bs_create gs) refl) a z c n w q s
      (nowhere refl) refl m refl (created o around here None) (created_permits gs k None)
  made gs k a z q (Some bs) = answers_sim (start (Ssa.bs_create gs) k) (calm (Ssa.bs_create gs) refl) a z c n w q s
      (nowhere refl) refl m refl (value (Tm.bits bs)) (created_permits gs k (Some bs))

  terms_sim : (op : Op) → Keeps two (K op) → Leaves op → (vs : Values)
      → Simulates op (on_terms o around here op m d vs (at x c n w) s)
      (on_terms p around here op m d vs (at y c n w) s)
  unfolding on_terms
  terms_sim (Ssa.bif b) k lv vs = when_sim (start (Ssa.bif b) k) (eqb (length vs) (arity_of b) && is_guard b) _ _
      (λ e. bif_sim b k (answer b here.own vs) (bif_permits b k vs (and_first _ _ e)) (is_collecting b))
  terms_sim Ssa.cons k lv vs = collected_sim (start Ssa.cons k) x y c n w r
      (λ g. cons_does o around here d vs g s)
      (λ g. cons_does p around here d vs g s)
      (λ a z q. cons_sim (start Ssa.cons k) (calm Ssa.cons refl) a z c n w q s (nowhere refl) refl vs)
  terms_sim Ssa.tuple k lv vs = collected_sim (start Ssa.tuple k) x y c n w r
      (λ g. put o around here d (term (Tm.tuple (terms vs))) g s)
      (λ g. put p around here d (term (Tm.tuple (terms vs))) g s)
      (λ a z q. put_sim (start Ssa.tuple k) (calm Ssa.tuple refl) refl (term (Tm.tuple (terms vs))) a z c n w q s
      (nowhere refl))
  terms_sim (Ssa.map_put exact) k lv vs = collected_sim (start (Ssa.map_put exact) k) x y c n w r
      (λ g. map_does o around here exact m d vs g s)
      (λ g. map_does p around here exact m d vs g s)
      (λ a z q. map_sim (start (Ssa.map_put exact) k) (calm (Ssa.map_put exact) refl) a z c n w q s (nowhere refl)
      refl exact m refl (λ f. rw f refl) vs)
  terms_sim Ssa.map_get k lv vs = key_sim (start Ssa.map_get k) (calm Ssa.map_get refl) x y c n w r s (nowhere refl)
      refl m refl vs
  terms_sim (Ssa.element i) k lv vs = element_sim (start (Ssa.element i) k) (calm (Ssa.element i) refl) x y c n w r s
      (nowhere refl) refl i vs
  terms_sim Ssa.hd k lv vs = cell_sim (start Ssa.hd k) (calm Ssa.hd refl) x y c n w r s (nowhere refl) refl true vs
  terms_sim Ssa.tl k lv vs = cell_sim (start Ssa.tl k) (calm Ssa.tl refl) x y c n w r s (nowhere refl) refl false vs
  terms_sim (Ssa.check i) k lv vs = some_sim (start (Ssa.check i) k) (check_holds i vs) _ _
      (λ b. asked_sim (start (Ssa.check i) k) (calm (Ssa.check i) refl) x y c n w r s (nowhere refl) m refl b refl)
  terms_sim (Ssa.make_fun i) k lv vs = collected_sim (start (Ssa.make_fun i) k) x y c n w r
      (λ g. fun_made o around here i d vs g s)
      (λ g. fun_made p around here i d vs g s)
      (λ a z q. fun_made_sim (start (Ssa.make_fun i) k) (calm (Ssa.make_fun i) refl) a z c n w q s (nowhere refl) refl
      i vs)
  terms_sim Ssa.call_fun k lv vs = fun_sim (start Ssa.call_fun k) (calm Ssa.call_fun refl) x y c r refl refl refl (lv
      calls refl) vs
  terms_sim Ssa.call_remote k lv vs = remote_sim (start Ssa.call_remote k) (calm Ssa.call_remote refl) x y c r refl
      refl refl m (lv _ (inl refl)) (lv _ (inr refl)) vs
  terms_sim Ssa.send k lv vs = send_sim (start Ssa.send k) (calm Ssa.send refl) x y c r refl refl refl m (lv _ refl)
      vs
  terms_sim Ssa.trace k lv [] = trace_sim (start Ssa.trace k) (calm Ssa.trace refl) x y c r refl refl (lv calls refl)
  terms_sim Ssa.trace k lv (v ∷ vs) = sim_bad After.bad
  terms_sim Ssa.raise k lv vs = raise_sim (start Ssa.raise k) (calm Ssa.raise refl) x y c n w r s (nowhere refl) refl
      vs
  terms_sim (Ssa.bs_create gs) k lv vs = collected_sim (start (Ssa.bs_create gs) k) x y c n w r
      (λ g. if_some (parts_of gs vs) λ q. answers o around here m d (created o around here q) g s)
      (λ g. if_some (parts_of gs vs) λ q. answers p around here m d (created p around here q) g s)
      (λ a z q. some_sim (start (Ssa.bs_create gs) k) (parts_of gs vs) _ _ (made gs k a z q))
  terms_sim Ssa.take_message k lv [] = take_sim (start Ssa.take_message k) refl refl refl
      (steady_by refl refl) x y c w refl r
  terms_sim Ssa.take_message k lv (v ∷ vs) = sim_bad After.bad
  terms_sim Ssa.skip_message k lv [] = skip_sim (start Ssa.skip_message k) (calm Ssa.skip_message refl) refl x y c
      refl w refl r m
  terms_sim Ssa.skip_message k lv (v ∷ vs) = sim_bad After.bad
  terms_sim Ssa.wait k lv vs = wait_sim (start Ssa.wait k) (calm Ssa.wait refl) refl x y c refl refl w refl r m refl
      vs
  terms_sim Ssa.reset k lv [] = back_sim (start Ssa.reset k) (calm Ssa.reset refl) refl x y c refl r 0 s as_it_was
  terms_sim Ssa.reset k lv (v ∷ vs) = sim_bad After.bad
  terms_sim Ssa.reserve k lv [] = put_sim (start Ssa.reserve k) (calm Ssa.reserve refl) refl (marker s.next) x y c n w
      r s (nowhere refl)
  terms_sim Ssa.reserve k lv (v ∷ vs) = sim_bad After.bad
  terms_sim Ssa.use_marker k lv vs = use_sim (start Ssa.use_marker k) (calm Ssa.use_marker refl) refl x y c refl r vs
  terms_sim _ k lv vs = sim_bad After.bad

  by_terms : (op : Op) → Keeps two (K op) → Leaves op → (xs : List Held)
      → Simulates op
      (if_some (terms_of xs) (λ vs. on_terms o around here op m d vs (at x c n w) s))
      (if_some (terms_of xs) (λ vs. on_terms p around here op m d vs (at y c n w) s))
  by_terms op k lv xs = some_sim (start op k) (terms_of xs) _ _ (λ vs. terms_sim op k lv vs)

  copy_sim : Keeps two (K Ssa.copy) → (h : Held)
      → Simulates Ssa.copy (put o around here d h (at x c n w) s)
      (put p around here d h (at y c n w) s)
  copy_sim k h = put_sim (start Ssa.copy k) (calm Ssa.copy refl) refl h x y c n w r s (nowhere refl)

  pub does_sim : (op : Op) → Keeps two (K op) → (as' : List Arg) → Leaves op → (xs : List Held)
      → Simulates op (does o around here op as' m d xs (at x c n w) s)
      (does p around here op as' m d xs (at y c n w) s)
  unfolding does
  does_sim Ssa.copy k as' lv [] = by_terms Ssa.copy k lv []
  does_sim Ssa.copy k as' lv (unset ∷ []) = sim_bad After.bad
  does_sim Ssa.copy k as' lv (term t ∷ []) = copy_sim k (term t)
  does_sim Ssa.copy k as' lv (context i ∷ []) = copy_sim k (context i)
  does_sim Ssa.copy k as' lv (position i ∷ []) = copy_sim k (position i)
  does_sim Ssa.copy k as' lv (marker i ∷ []) = copy_sim k (marker i)
  does_sim Ssa.copy k as' lv (u ∷ v ∷ xs) = by_terms Ssa.copy k lv (u ∷ v ∷ xs)
  does_sim (Ssa.call_local i) k as' lv xs = local_sim (start (Ssa.call_local i) k) (calm (Ssa.call_local i) refl) x y
      c r refl refl refl i m (lv _ refl) xs
  does_sim Ssa.bs_start k as' lv xs = collected_sim (start Ssa.bs_start k) x y c n w r
      (λ g. start_does o around here m d xs g s)
      (λ g. start_does p around here m d xs g s)
      (λ a z q. start_sim (start Ssa.bs_start k) (calm Ssa.bs_start refl) a z c n w q s (nowhere refl) refl m refl xs)
  does_sim (Ssa.bs_integer j) k as' lv xs = collected_sim (start (Ssa.bs_integer j) k) x y c n w r
      (λ g. takes_segment o around here j m xs g s λ bs u. gives_held o around here m d (as_integer j bs) u s)
      (λ g. takes_segment p around here j m xs g s λ bs u. gives_held p around here m d (as_integer j bs) u s)
      (λ a z q. segment_sim (start (Ssa.bs_integer j) k) (calm (Ssa.bs_integer j) refl) a z c n w q s (nowhere refl) j
      m refl xs
      (λ bs u. gives_held o around here m d (as_integer j bs) u s)
      (λ bs u. gives_held p around here m d (as_integer j bs) u s)
      (λ bs e. gives_sim (start (Ssa.bs_integer j) k) (calm (Ssa.bs_integer j) refl) a z e n w q s (nowhere refl) refl
      m refl (as_integer j bs)))
  does_sim (Ssa.bs_binary j) k as' lv xs = collected_sim (start (Ssa.bs_binary j) k) x y c n w r
      (λ g. takes_segment o around here j m xs g s λ bs u. gives_held o around here m d (term (Tm.bits bs)) u counted)
      (λ g. takes_segment p around here j m xs g s λ bs u. gives_held p around here m d (term (Tm.bits bs)) u counted)
      (λ a z q. segment_sim (start (Ssa.bs_binary j) k) (calm (Ssa.bs_binary j) refl) a z c n w q s (nowhere refl) j m
      refl xs
      (λ bs u. gives_held o around here m d (term (Tm.bits bs)) u counted)
      (λ bs u. gives_held p around here m d (term (Tm.bits bs)) u counted)
      (λ bs e. gives_sim (start (Ssa.bs_binary j) k) (calm (Ssa.bs_binary j) refl) a z e n w q counted (to_note refl
      _) refl m refl (term (Tm.bits bs))))
  does_sim (Ssa.bs_skip j) k as' lv xs = segment_sim (start (Ssa.bs_skip j) k) (calm (Ssa.bs_skip j) refl) x y c n w r
      s (nowhere refl) j m refl xs
      (λ bs u. asked o around here m true u s)
      (λ bs u. asked p around here m true u s)
      (λ bs e. asked_sim (start (Ssa.bs_skip j) k) (calm (Ssa.bs_skip j) refl) x y e n w r s (nowhere refl) m refl
      true refl)
  does_sim Ssa.bs_done k as' lv xs = at_sim (start Ssa.bs_done k) (calm Ssa.bs_done refl) x y c n w r s (nowhere refl)
      xs
      (λ i. asked o around here m (eqb (length (rest_of i)) 0) (at x c n w) s)
      (λ i. asked p around here m (eqb (length (rest_of i)) 0) (at y c n w) s)
      (λ i. asked_sim (start Ssa.bs_done k) (calm Ssa.bs_done refl) x y c n w r s (nowhere refl) m refl (eqb (length
      (rest_of i)) 0) refl)
  does_sim (Ssa.bs_unit j) k as' lv xs = at_sim (start (Ssa.bs_unit j) k) (calm (Ssa.bs_unit j) refl) x y c n w r s
      (nowhere refl) xs
      (λ i. asked o around here m (eqb (length (rest_of i) % j) 0) (at x c n w) s)
      (λ i. asked p around here m (eqb (length (rest_of i) % j) 0) (at y c n w) s)
      (λ i. asked_sim (start (Ssa.bs_unit j) k) (calm (Ssa.bs_unit j) refl) x y c n w r s (nowhere refl) m refl (eqb
      (length (rest_of i) % j) 0) refl)
  does_sim Ssa.bs_tail k as' lv xs = collected_sim (start Ssa.bs_tail k) x y c n w r
      (λ g. at_context o around here g xs λ i. put o around here d (term (Tm.bits (rest_of i))) g counted)
      (λ g. at_context p around here g xs λ i. put p around here d (term (Tm.bits (rest_of i))) g counted)
      (λ a z q. at_sim (start Ssa.bs_tail k) (calm Ssa.bs_tail refl) a z c n w q s (nowhere refl) xs
      (λ i. put o around here d (term (Tm.bits (rest_of i))) (at a c n w) counted)
      (λ i. put p around here d (term (Tm.bits (rest_of i))) (at z c n w) counted)
      (λ i. put_sim (start Ssa.bs_tail k) (calm Ssa.bs_tail refl) refl (term (Tm.bits (rest_of i))) a z c n w q
      counted (to_note refl _)))
  does_sim Ssa.bs_position k as' lv xs = collected_sim (start Ssa.bs_position k) x y c n w r
      (λ g. at_context o around here g xs λ i. put o around here d (position i.at) g s)
      (λ g. at_context p around here g xs λ i. put p around here d (position i.at) g s)
      (λ a z q. at_sim (start Ssa.bs_position k) (calm Ssa.bs_position refl) a z c n w q s (nowhere refl) xs (λ i. put
      o around here d (position i.at) (at a c n w) s)
      (λ i. put p around here d (position i.at) (at z c n w) s)
      (λ i. put_sim (start Ssa.bs_position k) (calm Ssa.bs_position refl) refl (position i.at) a z c n w q s (nowhere
      refl)))
  does_sim Ssa.bs_restore k as' lv xs = restore_sim (start Ssa.bs_restore k) (calm Ssa.bs_restore refl) x y c n w r s
      (nowhere refl) refl xs
  does_sim Ssa.try_start k as' lv [] = open_sim (start Ssa.try_start k) refl refl refl refl x y c r m refl refl d refl
  does_sim Ssa.try_start k as' lv (u ∷ xs) = by_terms Ssa.try_start k lv (u ∷ xs)
  does_sim Ssa.try_end k as' lv xs = close_sim (start Ssa.try_end k) refl refl refl refl x y c r as'
  does_sim (Ssa.peek i) k as' lv [] = peek_sim (start (Ssa.peek i) k) refl refl refl
      (steady_by refl refl) x y c w refl r m refl d refl
  does_sim (Ssa.peek i) k as' lv (u ∷ xs) = by_terms (Ssa.peek i) k lv (u ∷ xs)
  does_sim Ssa.bind k as' lv xs = bind_sim (start Ssa.bind k) (calm Ssa.bind refl) refl x y c r xs
  does_sim op k as' lv xs = by_terms op k lv xs
