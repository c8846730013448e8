-- What meanings in kernel form are made of agrees with itself: requests, answers, clauses, falls and marks.
use Rattle.std.proofs.Common.{◌≡◌, ◌≤◌, ◌+◌, ◌-◌, ℕ, List, [], ◌∷◌, length, take, Bool, true, false, IsTrue, Option, Some, None, if◌then◌else◌, eqb, refl, sym, subst, ◌∙◌, arith}
use Rattle.erl_base.specs.Names.{Name}
use Rattle.erl_term.specs.Term as T
use Rattle.erl_term.specs.Term.{Term, Pairs, Class}
use Rattle.erl_term.specs.Terms.{Values, only}
use Rattle.bif_table.specs.BuiltinAnswer.{Answer, value, raised}
use Rattle.world_model.specs.World as W
use Rattle.world_model.specs.World.{Message}
use Rattle.world_model.specs.Run.{Note, happened, entered, looked, marked, began, cut, sub_binaries, State, Outcome, M, ◌>>=◌, ask}
use Rattle.world_model.specs.Meaning.{single}
use Rattle.world_model.specs.MapUpdate.{Put, put_each, put_all}
use Rattle.world_model.specs.Requests.{send_to, call_out, send_or_call, answers, exit_of}
use Rattle.world_model.specs.Receive.{Tried}
use Rattle.world_model.specs.RemoteCalls.{raise_again}
use Rattle.core_meaning.specs.SegmentMatch.{if_there}
use Rattle.core_meaning.specs.ClauseChoice.{is_true, none_tried, and_cuts}
use Rattle.core_meaning.specs.MarkingCalls.{marking, last_mark}
use Rattle.core_meaning.specs.Evaluation.{bits_or_badarg}
use Rattle.kernel_meaning.specs.Environment.{Rests}
use Rattle.kernel_meaning.specs.KernelRun.{Falls, no_falls, with_fall, taken, select, if_holds, or_stuck, matched}
use Rattle.pass_contract.specs.SameRun.{Compared, done, SameState, SameResult, Agree}
use Rattle.kernel_meaning.specs.Agreement.{OptionAgrees, TriedAgrees, FallsAgree}
use Rattle.kernel_meaning.proofs.Agreeing.{give_agrees, fail_agrees, cutting_agrees, bind_agrees, ask_agrees}

module _ (what : Compared) where
  -- What asks the world, or nobody.

  pub single_agrees : (t : Term) → Agree what (single t) (single t)
  single_agrees t = give_agrees what (t ∷ [])

  pub answers_agree : (a : Answer) → Agree what (answers a) (answers a)
  answers_agree (value t) = single_agrees t
  answers_agree (raised c r) = fail_agrees what c r

  pub how_agrees : (h : W.How) (a b c d : M Values) → Agree what a a → Agree what b b → Agree what c c → Agree what d d
      → Agree what (elim h as (λ _. M Values) [ W.return ↦ a | W.error ↦ b | W.exit ↦ c | W.throw ↦ d ])
      (elim h as (λ _. M Values) [ W.return ↦ a | W.error ↦ b | W.exit ↦ c | W.throw ↦ d ])
  how_agrees W.return a b c d h i j k = h
  how_agrees W.error a b c d h i j k = i
  how_agrees W.exit a b c d h i j k = j
  how_agrees W.throw a b c d h i j k = k

  pub call_out_agrees : (m f : Name) (vs : Values) → Agree what (call_out m f vs) (call_out m f vs)
  call_out_agrees m f vs = bind_agrees what _ _ _ _ (ask_agrees what _)
      (λ r. how_agrees r.how _ _ _ _ (single_agrees r.term) (fail_agrees what _ _) (fail_agrees what _ _)
      (fail_agrees what _ _))

  pub send_to_agrees : (t u : Term) → Agree what (send_to t u) (send_to t u)
  send_to_agrees t u = bind_agrees what _ _ _ _ (ask_agrees what _)
      (λ r. how_agrees r.how _ _ _ _ (single_agrees u) (fail_agrees what _ _) (fail_agrees what _ _)
      (fail_agrees what _ _))

  pub send_or_call_agrees : (f : Name) (vs : Values) → Agree what (send_or_call f vs) (send_or_call f vs)
  send_or_call_agrees f [] = call_out_agrees _ f []
  send_or_call_agrees f (t ∷ []) = call_out_agrees _ f (t ∷ [])
  send_or_call_agrees f (t ∷ u ∷ []) = send_to_agrees t u
  send_or_call_agrees f (t ∷ u ∷ v ∷ vs) = call_out_agrees _ f (t ∷ u ∷ v ∷ vs)

  pub trace_agrees : Agree what (ask W.trace >>= λ r. single r.term) (ask W.trace >>= λ r. single r.term)
  trace_agrees = bind_agrees what _ _ _ _ (ask_agrees what _) (λ r. single_agrees r.term)

  pub exit_agrees : (c : Class) (r : Term) → Agree what (exit_of c r) (exit_of c r)
  exit_agrees T.throw r = single_agrees r
  exit_agrees T.exit r = single_agrees _
  exit_agrees T.error r = bind_agrees what _ _ _ _ (ask_agrees what _) (λ t. single_agrees _)

  pub if_agrees : {A : Type 0} (b : Bool) (m k n l : M A) → Agree what m n → Agree what k l
      → Agree what (if b then m else k) (if b then n else l)
  if_agrees true m k n l h i = h
  if_agrees false m k n l h i = i

  pub raise_agrees : (t r : Term) → Agree what (raise_again t r) (raise_again t r)
  raise_agrees (T.raw_trace c) r = fail_agrees what c r
  raise_agrees _ r = fail_agrees what _ _

  pub badarg_agrees : (o : Option (List Bool)) → Agree what (bits_or_badarg o) (bits_or_badarg o)
  badarg_agrees None = fail_agrees what _ _
  badarg_agrees (Some bs) = single_agrees _

  pub put_each_agrees : (qs : List Put) (ps : Pairs) → Agree what (put_each qs ps) (put_each qs ps)
  unfolding put_each
  put_each_agrees [] ps = single_agrees _
  put_each_agrees (q ∷ qs) ps = if_agrees _ _ _ _ _ (fail_agrees what _ _) (put_each_agrees qs _)

  pub put_all_agrees : (qs : List Put) (t : Term) → Agree what (put_all qs t) (put_all qs t)
  unfolding put_all
  put_all_agrees qs (T.map ps) = put_each_agrees qs ps
  put_all_agrees qs _ = fail_agrees what _ _

  -- Clauses.

  pub both_most : (i j k l : ℕ) → j ≤ i → l ≤ k → j + l ≤ i + k
  both_most i j k l p q = omega arith

  pub none_agrees : TriedAgrees what {A = Values} none_tried none_tried
  unfolding OptionAgrees
  none_agrees = record { cuts = λ c. omega arith; body = tt }

  pub taken_agrees : (m k : M Values) → Agree what m k → TriedAgrees what (taken m) (taken k)
  unfolding OptionAgrees
  taken_agrees m k h = record { cuts = λ c. omega arith; body = h }

  pub and_cuts_agrees : (i j : ℕ) (a b : Tried Values) → (IsTrue what.cuts → j ≤ i) → TriedAgrees what a b
      → TriedAgrees what (and_cuts i a) (and_cuts j b)
  and_cuts_agrees i j a b l h =
      record { cuts = λ c. both_most i j a.cuts b.cuts (l c) (h.cuts c); body = h.body }

  pub select_agrees : (x : Bool) (a b c d : Tried Values) → TriedAgrees what a c → TriedAgrees what b d
      → TriedAgrees what (select x a b) (select x c d)
  select_agrees true a b c d h i = h
  select_agrees false a b c d h i = i

  pub holds_agrees : (r q : State × Outcome Values) (a b c d : Tried Values) → SameResult what r q
      → TriedAgrees what a c
      → TriedAgrees what b d → TriedAgrees what (if_holds r a b) (if_holds q c d)
  holds_agrees r q a b c d e h i =
      and_cuts_agrees (sub_binaries r.0.notes) (sub_binaries q.0.notes) (select (is_true r.1) a b)
      (select (is_true q.1) c d)
      e.state.sub_binaries
      (subst (λ o. TriedAgrees what (select (is_true r.1) a b) (select (is_true o) c d)) (sym e.end)
      (select_agrees (is_true r.1) a b c d h i))

  pub parts_agree : (o : Option Values) (f g : Values → Tried Values) (a b : Tried Values)
      → ((vs : Values) → TriedAgrees what (f vs) (g vs)) → TriedAgrees what a b
      → TriedAgrees what (if_there o f a) (if_there o g b)
  parts_agree None f g a b h i = i
  parts_agree (Some vs) f g a b h i = h vs

  pub bound_agrees : {X : Type 0} (o : Option X) (f g : X → Tried Values) (a b : Tried Values)
      → ((x : X) → TriedAgrees what (f x) (g x)) → TriedAgrees what a b
      → TriedAgrees what (elim o as (λ _. Tried Values) [ None ↦ a | Some x ↦ f x ])
      (elim o as (λ _. Tried Values) [ None ↦ b | Some x ↦ g x ])
  bound_agrees None f g a b h i = i
  bound_agrees (Some x) f g a b h i = h x

  pub matched_agrees : (a b : Tried Values) → TriedAgrees what a b → Agree what (matched a) (matched b)
  unfolding OptionAgrees
  matched_agrees a b h = cutting_agrees what a.cuts b.cuts _ _ h.cuts (go a.body b.body h.body)
    where
      go : (o p : Option (M Values)) → OptionAgrees what o p → Agree what (or_stuck o) (or_stuck p)
      go None None x = fail_agrees what _ _
      go None (Some m) x = absurd x
      go (Some m) None x = absurd x
      go (Some m) (Some k) x = x

  pub no_falls_agree : FallsAgree what no_falls no_falls
  unfolding FallsAgree
  no_falls_agree k r = none_agrees

  pub with_fall_agrees : (fs gs : Falls) (k : ℕ) (f g : Rests → Tried Values) → FallsAgree what fs gs
      → ((r : Rests) → TriedAgrees what (f r) (g r)) → FallsAgree what (with_fall fs k f) (with_fall gs k g)
  unfolding FallsAgree
  with_fall_agrees fs gs k f g h i j r = go (eqb j k)
    where
      go : (b : Bool) → TriedAgrees what ((if b then f else fs j) r) ((if b then g else gs j) r)
      go true = i r
      go false = h j r

  -- Marks: the same call is noted last on both sides, since sub-binaries are passed over.

  -- what is noted of a call that came last
  abbrev front : Term → List Note → ℕ → List Message → List Note → List Note
  front x (happened (W.asked q r) ∷ ns) n ms rest = marked (record {
    reference = x;
    serial = n - length r.arrivals;
    before = take (length ms - length r.arrivals) ms;
  }) ∷ rest
  front x _ n ms rest = rest

  pub mark_done : (x : Term) (ns : List Note) (s : State)
      → done true (last_mark x ns s).notes ≡ front x (done true ns) s.next s.mailbox (done true s.notes)
  mark_done x [] s = refl
  mark_done x (happened (W.asked q r) ∷ ns) s = refl
  mark_done x (happened (W.taken n) ∷ ns) s = refl
  mark_done x (entered n ∷ ns) s = refl
  mark_done x (looked l ∷ ns) s = refl
  mark_done x (marked y ∷ ns) s = refl
  mark_done x (began o ∷ ns) s = refl
  mark_done x (cut n ∷ ns) s = mark_done x ns s

  -- a mark is noted, and nothing else is changed
  pub record OnlyMarks (s u : State) : Type 0 where
    pub replies : u.replies ≡ s.replies
    pub mailbox : u.mailbox ≡ s.mailbox
    pub next : u.next ≡ s.next
    pub left : u.left ≡ s.left
    pub done : done false u.notes ≡ done false s.notes
    pub cuts : sub_binaries u.notes ≡ sub_binaries s.notes

  pub unmarked : (s : State) → OnlyMarks s s
  unmarked s = record { replies = refl; mailbox = refl; next = refl; left = refl; done = refl; cuts = refl }

  pub mark_only : (x : Term) (ns : List Note) (s : State) → OnlyMarks s (last_mark x ns s)
  mark_only x [] s = unmarked s
  mark_only x (happened (W.asked q r) ∷ ns) s =
      record { replies = refl; mailbox = refl; next = refl; left = refl; done = refl; cuts = refl }
  mark_only x (happened (W.taken n) ∷ ns) s = unmarked s
  mark_only x (entered n ∷ ns) s = unmarked s
  mark_only x (looked l ∷ ns) s = unmarked s
  mark_only x (marked y ∷ ns) s = unmarked s
  mark_only x (began o ∷ ns) s = unmarked s
  mark_only x (cut n ∷ ns) s = mark_only x ns s

  pub marks_done : (b : Bool) (x : Term) (s t : State) → t.next ≡ s.next → t.mailbox ≡ s.mailbox
      → done b t.notes ≡ done b s.notes
      → done b (last_mark x t.notes t).notes ≡ done b (last_mark x s.notes s).notes
  marks_done true x s t p q e = mark_done x t.notes t ∙ (λ i. front x (e i) (p i) (q i) (e i)) ∙ sym
      (mark_done x s.notes s)
  marks_done false x s t p q e = (mark_only x t.notes t).done ∙ e ∙ sym (mark_only x s.notes s).done

  pub marked_same : (x : Term) (s t : State) → SameState what s t
      → SameState what (last_mark x s.notes s) (last_mark x t.notes t)
  marked_same x s t e =
      let a : OnlyMarks s (last_mark x s.notes s) = mark_only x s.notes s in
      let b : OnlyMarks t (last_mark x t.notes t) = mark_only x t.notes t in record {
        replies = b.replies ∙ e.replies ∙ sym a.replies;
        mailbox = b.mailbox ∙ e.mailbox ∙ sym a.mailbox;
        next = b.next ∙ e.next ∙ sym a.next;
        left = b.left ∙ e.left ∙ sym a.left;
        done = marks_done what.marks x s t e.next e.mailbox e.done;
        sub_binaries = λ c. let l : sub_binaries t.notes ≤ sub_binaries s.notes = e.sub_binaries c in
            omega (arith, a.cuts, b.cuts, l);
      }

  pub marking_agrees : (b : Bool) (m k : M Values) → Agree what m k → Agree what (marking b m) (marking b k)
  marking_agrees false m k h = h
  marking_agrees true m k h =
      bind_agrees what _ _ _ _ h (λ vs s t e. record { state = marked_same (only vs) s t e; end = refl })
