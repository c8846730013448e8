-- Functions one by one give the module.
use Rattle.std.proofs.Common.{◌≡◌, ◌≤◌, Bool, true, ℕ, zero, suc, List, ◌∷◌, refl, sym, ap, ◌∙◌, subst, arith}
use Rattle.erl_term.specs.Term.{Term, Class}
use Rattle.erl_term.specs.Terms.{only, Values}
use Rattle.world_model.specs.Run as Run
use Rattle.world_model.specs.Meaning.{one, single}
use Rattle.world_model.specs.Run.{State, Outcome, gives, raises, waits, spent, M, ◌>>=◌, after, going_on, give, noting, Entry}
use Rattle.world_model.specs.World.{Reply}
use Rattle.world_model.specs.Entries.{entry_left}
use Rattle.step_machine.specs.Bodies.{Here, calling}
use Rattle.step_machine.specs.Steps.{Event, Stepped, goes, ends, notes, ran, unfinished, perform, run, sites}
use Rattle.behaviour.specs.Realizes.{Target, Matches, Comes, To, Stands, Realizes, RealizesAll, MeaningRealized}
use Rattle.step_machine.specs.Steps.{up}

module _ (t : Target) where
  pub realized : MeaningRealized t
  realized name own runs enter h means zero n vs a m rs log s l e w = absurd (omega (arith, l))
  realized name own runs enter h means (suc d) n vs a m rs log s l e w =
      h n d (enter d) vs a m rs log s (enter (suc d) n vs s) (means.lawful d)
      (realized name own runs enter h means d) (omega (arith, l)) e w (means.more d n vs s)

  pub up-up : (i j k : ℕ) → up i (up j k) ≡ up (up i j) k
  up-up zero j k = refl
  up-up (suc i) j k = ap suc (up-up i j k)

  pub up-suc : (i k : ℕ) → up i (suc k) ≡ suc (up i k)
  up-suc zero k = refl
  up-suc (suc i) k = ap suc (up-suc i k)

  -- a step to another state, before what that one comes to
  pub step_comes : (m m' : t.state) (rs : List Reply) (log : List Event) (x : Stepped t.state) (rs' : List Reply)
      (log' : List Event) (n : Event) → t.step m ≡ notes n (goes m') → Comes t m' rs (n ∷ log) x rs' log'
      → Comes t m rs log x rs' log'
  unfolding run
  step_comes m m' rs log x rs' log' n e c = record {
    steps = suc c.steps;
    then_same = λ k. ap (λ y. perform y (run t.step (up c.steps (suc k))) rs log) e ∙ c.then_same k;
  }

  pub step_to : (m m' : t.state) (rs : List Reply) (log : List Event) (s : State) (x : t.state → Stepped t.state)
      (n : Event) → t.step m ≡ notes n (goes m') → To t m' rs (n ∷ log) s x → To t m rs log s x
  step_to m m' rs log s x n e w = record {
    state = w.state;
    rs' = w.rs';
    log' = w.log';
    matches = w.matches;
    comes = step_comes m m' rs log (x w.state) w.rs' w.log' n e w.comes;
  }

  pub step_stands : (m m' : t.state) (rs : List Reply) (log : List Event) (s : State) (n : Event)
      → t.step m ≡ notes n (goes m') → Stands t m' rs (n ∷ log) s → Stands t m rs log s
  unfolding run
  step_stands m m' rs log s n e w = record {
    steps = suc w.steps;
    log' = w.log';
    stops = ap (λ y. perform y (run t.step w.steps) rs log) e ∙ w.stops;
    noted = w.noted;
    costs = w.costs;
    site = w.site;
    enters = ap (λ y. sites (perform y (run t.step (suc w.steps)) rs log).log) e ∙ w.enters;
  }

  pub step_realizes : (a : t.above) (m m' : t.state) (rs : List Reply) (log : List Event) (r : State × Outcome Term)
      (n : Event) → t.step m ≡ notes n (goes m') → Realizes t a m' rs (n ∷ log) r → Realizes t a m rs log r
  step_realizes a m m' rs log (s, gives vs) n e w = step_to m m' rs log s (t.returns a vs) n e w
  step_realizes a m m' rs log (s, raises c r) n e w = step_to m m' rs log s (t.unwinds a c r) n e w
  step_realizes a m m' rs log (s, waits q) n e w = step_to m m' rs log s (λ _. ends (waits q)) n e w
  step_realizes a m m' rs log (s, spent) n e w = step_stands m m' rs log s n e w

  -- a call: a step that enters the function, which may be a tail entry though the meaning has none
  pub call_enters : (d site : ℕ) (tail tail' : Bool) → (tail ≡ true → tail' ≡ true)
      → (here : Here) (vs : Values) (a : t.above) (m m' : t.state) (rs : List Reply) (log : List Event) (s : State)
      → RealizesAll t d here.enter → s.left ≤ d →
      t.step m ≡ notes (Event.entered (record { site = site; tail = tail' })) (goes m') → t.at_entry site vs a m' →
      Matches t s m rs log → ((u : State) → t.holds u m → t.holds u m')
      → ((k : ℕ) (n : Run.Note) → t.holds s m → t.holds (record s { left = k; notes = n ∷ s.notes }) m) →
      Realizes t a m rs log (calling here site tail vs s)
  unfolding run
  call_enters d site tail tail' keeps here vs a m m' rs log s all l e at w same free = go s.left refl
    where
      n : Event
      n = Event.entered (record { site = site; tail = tail' })

      go : (k : ℕ) → s.left ≡ k
          → Realizes t a m rs log (entry_left k (record { site = site; tail = tail }) (here.enter site vs) s)
      go zero p = record {
        steps = 0;
        log' = log;
        stops = stop;
        noted = w.noted;
        costs = w.costs;
        site = site;
        enters = enter;
      }
        where
          stop : run t.step 0 m rs log ≡ ran log unfinished
          stop = refl

          enter : sites (run t.step 1 m rs log).log ≡ site ∷ sites log
          enter = ap (λ y. sites (perform y (run t.step 0) rs log).log) e
      go (suc k) p = step_realizes a m m' rs log _ n e
          (all site vs a m' rs (n ∷ log) _ (omega (arith, p, l)) at (record {
            replies = w.replies;
            noted = record {
              happened = w.noted.happened;
              entered = ap (λ z. site ∷ z) w.noted.entered;
              tails = (keeps, w.noted.tails);
              looked = w.noted.looked;
            };
            costs = record { looked = w.costs.looked; subs = w.costs.subs };
            mailbox = same _ (free k _ w.mailbox);
          }))

  -- what a run comes to, before what that one comes to
  pub comes_comes : (m m' : t.state) (rs rs1 rs2 : List Reply) (log log1 log2 : List Event) (x : Stepped t.state)
      → Comes t m rs log (goes m') rs1 log1 → Comes t m' rs1 log1 x rs2 log2 → Comes t m rs log x rs2 log2
  comes_comes m m' rs rs1 rs2 log log1 log2 x c e = record {
    steps = up c.steps (suc e.steps);
    then_same = λ k. ap (λ j. run t.step j m rs log) (sym (up-up c.steps (suc e.steps) (suc k)))
        ∙ c.then_same (up e.steps (suc k)) ∙ e.then_same k;
  }

  pub comes_to : (m m' : t.state) (rs rs1 : List Reply) (log log1 : List Event) (s : State)
      (x : t.state → Stepped t.state) → Comes t m rs log (goes m') rs1 log1 → To t m' rs1 log1 s x → To t m rs log s x
  comes_to m m' rs rs1 log log1 s x c w = record {
    state = w.state;
    rs' = w.rs';
    log' = w.log';
    matches = w.matches;
    comes = comes_comes m m' rs rs1 w.rs' log log1 w.log' (x w.state) c w.comes;
  }

  pub comes_stands : (m m' : t.state) (rs rs1 : List Reply) (log log1 : List Event) (s : State)
      → Comes t m rs log (goes m') rs1 log1 → Stands t m' rs1 log1 s → Stands t m rs log s
  comes_stands m m' rs rs1 log log1 s c w = record {
    steps = up c.steps (suc w.steps);
    log' = w.log';
    stops = c.then_same w.steps ∙ w.stops;
    noted = w.noted;
    costs = w.costs;
    site = w.site;
    enters = ap (λ j. sites (run t.step j m rs log).log) (sym (up-suc c.steps (suc w.steps)))
        ∙ ap (λ r. sites r.log) (c.then_same (suc w.steps)) ∙ w.enters;
  }

  pub comes_realizes : (a : t.above) (m m' : t.state) (rs rs1 : List Reply) (log log1 : List Event)
      (r : State × Outcome Term) → Comes t m rs log (goes m') rs1 log1 → Realizes t a m' rs1 log1 r
      → Realizes t a m rs log r
  comes_realizes a m m' rs rs1 log log1 (s, gives vs) c w = comes_to m m' rs rs1 log log1 s _ c w
  comes_realizes a m m' rs rs1 log log1 (s, raises k r) c w = comes_to m m' rs rs1 log log1 s _ c w
  comes_realizes a m m' rs rs1 log log1 (s, waits q) c w = comes_to m m' rs rs1 log log1 s _ c w
  comes_realizes a m m' rs rs1 log log1 (s, spent) c w = comes_stands m m' rs rs1 log log1 s c w

  -- a meaning and what follows it: the first runs under another activation, and a return from it goes on there
  pub realizes_then : (a b : t.above) (m : t.state) (rs : List Reply) (log : List Event) (r : State × Outcome Term)
      (f : Term → M Term) (resumed : t.state → Term → t.state) →
      Realizes t b m rs log r →
      ((x : Term) (u : t.state) → t.returns b x u ≡ goes (resumed u x)) →
      ((c : Class) (x : Term) (u : t.state) → t.unwinds b c x u ≡ t.unwinds a c x u) →
      ((v : Term) (s : State) (u : t.state) (rs1 : List Reply) (log1 : List Event) → Matches t s u rs1 log1
      → Realizes t a (resumed u v) rs1 log1 (f v s)) →
      Realizes t a m rs log (after r.0 r.1 f)
  realizes_then a b m rs log (s, gives vs) f resumed w back up' next =
      comes_realizes a m (resumed w.state vs) rs w.rs' log w.log' (f vs s)
      (subst (λ x. Comes t m rs log x w.rs' w.log') (back vs w.state) w.comes)
      (next vs s w.state w.rs' w.log' w.matches)
  realizes_then a b m rs log (s, raises c r) f resumed w back up' next = record {
    state = w.state;
    rs' = w.rs';
    log' = w.log';
    matches = w.matches;
    comes = subst (λ x. Comes t m rs log x w.rs' w.log') (up' c r w.state) w.comes;
  }
  realizes_then a b m rs log (s, waits q) f resumed w back up' next = w
  realizes_then a b m rs log (s, spent) f resumed w back up' next = w

-- a call in tail position: the body gives what the call gives
pub tail_gives : (here : Here) (site : ℕ) (tail : Bool) (vs : Values) (s : State)
    → one (calling here site tail vs >>= single) give s ≡ calling here site tail vs s
tail_gives here site tail vs s = go (calling here site tail vs s)
  where
    go : (r : State × Outcome Term) → (going_on (going_on r single) λ ws. give (only ws)) ≡ r
    go (u, gives t) = refl
    go (u, raises c x) = refl
    go (u, waits q) = refl
    go (u, spent) = refl
