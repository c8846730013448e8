-- Traces go as runs do.
use Rattle.std.proofs.Common.{◌≡◌, ◌≢◌, ◌<◌, ℕ, zero, suc, List, [], ◌∷◌, Bool, true, false, refl, sym, ap, ◌∙◌, subst, arith}
use Rattle.world_model.specs.World.{Reply, asked}
use Rattle.world_model.specs.Run.{waits}
use Rattle.step_machine.specs.Steps.{Stepped, Event, happened, goes, ends, bad, notes, asks, End, over, unfinished, is_bad, Ran, ran, perform, run, AfterSteps, at, stopped, reach, reach_by, up}
use Rattle.traced_run.specs.Traces.{TraceEnd, ended, beyond, Traced, traced, trace_on, trace_if, trace}
use Rattle.traced_run.specs.TraceLaws.{IsRun, TraceIsRun, StopsAt, BeyondStops, EndedStays}

-- The end of a run that a trace's end is.
end_of : TraceEnd → End
end_of (ended e) = e
end_of beyond = unfinished

same_end : (log : List Event) (d : End) → IsRun (traced log (ended d)) (ran log d)
unfolding end_of
same_end log d e p = ap (λ z. ran log (end_of z)) p

on_is_run : {S : Type 0} (s : Stepped S) (f : S → List Reply → List Event → Traced)
    (g : S → List Reply → List Event → Ran)
    → ((m : S) (rs : List Reply) (log : List Event) → IsRun (f m rs log) (g m rs log))
    → (rs : List Reply) (log : List Event) → IsRun (trace_on s f rs log) (perform s g rs log)
on_is_run (goes m) f g h rs log = h m rs log
on_is_run (ends o) f g h rs log = same_end log (over o)
on_is_run bad f g h rs log = same_end log is_bad
on_is_run (notes n s) f g h rs log = on_is_run s f g h rs (n ∷ log)
on_is_run (asks q k) f g h [] log = same_end log (over (waits q))
on_is_run (asks q k) f g h (r ∷ rs) log = on_is_run (k r) f g h rs (happened (asked q r) ∷ log)

if_is_run : (b : Bool) (log : List Event) (t : Traced) (r : Ran) → IsRun t r → IsRun (trace_if b log t) r
if_is_run true log t r h = h
if_is_run false log t r h = λ e p. absurd cc

-- Where a step that does not end leads: to a state from which everything goes on.
record Leads {S : Type 0} (s : Stepped S) (rs : List Reply) (log : List Event) : Type 0 where
  state : S
  replies : List Reply
  noted : List Event
  traces : (f : S → List Reply → List Event → Traced) → trace_on s f rs log ≡ f state replies noted
  reaches : (g : S → List Reply → List Event → AfterSteps S) → reach_by s g rs log ≡ g state replies noted

leads : {S : Type 0} (s : Stepped S) (f : S → List Reply → List Event → Traced) (rs : List Reply) (log : List Event)
    → (trace_on s f rs log).end ≡ beyond → Leads s rs log
leads (goes m) f rs log e =
    record { state = m; replies = rs; noted = log; traces = λ f. refl; reaches = λ g. refl }
leads (ends o) f rs log e = absurd cc
leads bad f rs log e = absurd cc
leads (notes n s) f rs log e =
    let l = leads s f rs (n ∷ log) e in
    record { state = l.state; replies = l.replies; noted = l.noted; traces = l.traces; reaches = l.reaches }
leads (asks q k) f [] log e = absurd cc
leads (asks q k) f (r ∷ rs) log e =
    let l = leads (k r) f rs (happened (asked q r) ∷ log) e in
    record { state = l.state; replies = l.replies; noted = l.noted; traces = l.traces; reaches = l.reaches }

-- A step that ended ends the same way, whatever would go on.
stays_on : {S : Type 0} (s : Stepped S) (f g : S → List Reply → List Event → Traced)
    → ((m : S) (rs : List Reply) (log : List Event) → (f m rs log).end ≢ ended unfinished → g m rs log ≡ f m rs log)
    → (rs : List Reply) (log : List Event) → (trace_on s f rs log).end ≢ ended unfinished
    → trace_on s g rs log ≡ trace_on s f rs log
stays_on (goes m) f g h rs log n = h m rs log n
stays_on (ends o) f g h rs log n = refl
stays_on bad f g h rs log n = refl
stays_on (notes x s) f g h rs log n = stays_on s f g h rs (x ∷ log) n
stays_on (asks q k) f g h [] log n = refl
stays_on (asks q k) f g h (r ∷ rs) log n = stays_on (k r) f g h rs (happened (asked q r) ∷ log) n

stays_if : (b : Bool) (log : List Event) (t u : Traced) → (t.end ≢ ended unfinished → u ≡ t)
    → (trace_if b log t).end ≢ ended unfinished → trace_if b log u ≡ trace_if b log t
stays_if true log t u h n = h n
stays_if false log t u h n = refl

holds_at : {S : Type 0} (P : S → List Reply → Type 0) → AfterSteps S → Type 0
holds_at P (at m rs log) = P m rs
holds_at P (stopped r) = Unit {0}

at_state : {S : Type 0} {m n : S} {rs ss : List Reply} {l k : List Event}
    → at m rs l ≡ at n ss k → (P : S → List Reply → Type 0) → P m rs → P n ss
unfolding holds_at
at_state e P p = subst (holds_at P) e p

module _ {S : Type 0} (passes : Stepped S → List Reply → Bool) (step : S → Stepped S) where
  pub is_run : (k : ℕ) (m : S) (rs : List Reply) (log : List Event) → TraceIsRun passes step k m rs log
  unfolding run trace
  is_run zero m rs log = same_end log unfinished
  is_run (suc k) m rs log =
      if_is_run (passes (step m) rs) log (trace_on (step m) (trace passes step k) rs log)
      (perform (step m) (run step k) rs log)
      (on_is_run (step m) (trace passes step k) (run step k) (is_run k) rs log)

  -- The first step is refused.
  stops_here : (k : ℕ) (m : S) (rs : List Reply) (log : List Event) → passes (step m) rs ≡ false
      → StopsAt passes step (suc k) m rs log log
  unfolding reach
  stops_here k m rs log e = record {
    steps = 0;
    few = omega (arith);
    state = m;
    replies = rs;
    reached = refl;
    refused = e;
    before = λ i n ss l few p. absurd (omega (arith, few));
  }

  -- The steps before, where the first passes and so do those behind it.
  earlier : (k : ℕ) (m : S) (rs : List Reply) (log noted : List Event) → passes (step m) rs ≡ true
      → (l : Leads (step m) rs log) → (s : StopsAt passes step k l.state l.replies l.noted noted)
      → (i : ℕ) (n : S) (ss : List Reply) (j : List Event) → i < suc s.steps → reach step i m rs log ≡ at n ss j
      → passes (step n) ss ≡ true
  unfolding reach
  earlier k m rs log noted e l s zero n ss j few p = at_state p (λ x xs. passes (step x) xs ≡ true) e
  earlier k m rs log noted e l s (suc i) n ss j few p =
      s.before i n ss j (omega (arith, few)) (sym (l.reaches (reach step i)) ∙ p)

  stops_later : (k : ℕ) (m : S) (rs : List Reply) (log noted : List Event) → passes (step m) rs ≡ true
      → (l : Leads (step m) rs log) → StopsAt passes step k l.state l.replies l.noted noted
      → StopsAt passes step (suc k) m rs log noted
  unfolding reach
  stops_later k m rs log noted e l s = record {
    steps = suc s.steps;
    few = omega (arith, s.few);
    state = s.state;
    replies = s.replies;
    reached = l.reaches (reach step s.steps) ∙ s.reached;
    refused = s.refused;
    before = earlier k m rs log noted e l s;
  }

  stops_if : (k : ℕ) (m : S) (rs : List Reply) (log : List Event) (b : Bool) → passes (step m) rs ≡ b
      → ((n : S) (ss : List Reply) (l : List Event) → BeyondStops passes step k n ss l)
      → (trace_if b log (trace_on (step m) (trace passes step k) rs log)).end ≡ beyond
      → StopsAt passes step (suc k) m rs log
      (trace_if b log (trace_on (step m) (trace passes step k) rs log)).log
  stops_if k m rs log false e h p = stops_here k m rs log e
  stops_if k m rs log true e h p =
      let l = leads (step m) (trace passes step k) rs log p in
      let same = l.traces (trace passes step k) in
      subst (λ t. StopsAt passes step (suc k) m rs log t.log) (sym same)
      (stops_later k m rs log _ e l (h l.state l.replies l.noted (sym (ap (λ t. t.end) same) ∙ p)))

  pub stops : (k : ℕ) (m : S) (rs : List Reply) (log : List Event) → BeyondStops passes step k m rs log
  unfolding trace
  stops zero m rs log p = absurd cc
  stops (suc k) m rs log p = stops_if k m rs log (passes (step m) rs) refl (stops k) p

  -- One step more.
  stays_one : (k : ℕ) (m : S) (rs : List Reply) (log : List Event)
      → (trace passes step k m rs log).end ≢ ended unfinished
      → trace passes step (suc k) m rs log ≡ trace passes step k m rs log
  unfolding trace
  stays_one zero m rs log n = absurd (n refl)
  stays_one (suc k) m rs log n =
      stays_if (passes (step m) rs) log (trace_on (step m) (trace passes step k) rs log)
      (trace_on (step m) (trace passes step (suc k)) rs log)
      (stays_on (step m) (trace passes step k) (trace passes step (suc k)) (stays_one k) rs log) n

  pub stays : (k : ℕ) (m : S) (rs : List Reply) (log : List Event) → EndedStays passes step k m rs log
  stays k m rs log zero n = refl
  stays k m rs log (suc j) n =
      let same = stays k m rs log j n in
      stays_one (up j k) m rs log (λ e. n (sym (ap (λ t. t.end) same) ∙ e)) ∙ same
