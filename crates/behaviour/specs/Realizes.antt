-- A machine realizes a meaning.
use Rattle.std.specs.Prelude.{◌≡◌, ◌≤◌, ◌<◌, ℕ, suc, List, ◌∷◌, map}
use Rattle.erl_base.specs.Names.{Name}
use Rattle.erl_term.specs.Term.{Term, Class}
use Rattle.erl_term.specs.Terms.{Values}
use Rattle.world_model.specs.Run.{Note, looks, sub_binaries, State, Outcome, gives, raises, waits, spent, M}
use Rattle.world_model.specs.World.{Reply}
use Rattle.step_machine.specs.Bodies.{here_of}
use Rattle.pass_contract.specs.Lawful.{IsLawful}
use Rattle.pass_contract.specs.PassContract.{Run, ComesTo, IsMeaning}
use Rattle.step_machine.specs.Follows.{Noted}
use Rattle.step_machine.specs.Steps.{Event, Stepped, ends, ran, unfinished, up, perform, run, sites, serials, subs}

-- a log costs what a meaning noted: it looked at the very same messages, and made no more sub-binaries
pub record CostsNoted (ns : List Note) (log : List Event) : Type 0 where
  pub looked : serials log ≡ map (λ l. l.serial) (looks ns)
  pub subs : subs log ≤ sub_binaries ns

-- a machine: its steps; what stands above an activation; when a state is at a function's entry; when it has the
-- mailbox of a process; and what a return and a raise out of an activation lead to
pub record Target : Type 1 where
  pub state : Type 0
  pub step : state → Stepped state
  pub above : Type 0
  pub at_entry : ℕ → Values → above → state → Type 0
  pub holds : State → state → Type 0
  pub returns : above → Term → state → Stepped state
  pub unwinds : above → Class → Term → state → Stepped state

module _ (t : Target) where
  -- the notes and the replies left are those of the process
  pub record Matches (s : State) (m : t.state) (rs : List Reply) (log : List Event) : Type 0 where
    pub replies : rs ≡ s.replies
    pub noted : Noted s.notes log
    pub costs : CostsNoted s.notes log
    pub mailbox : t.holds s m

  -- from m the run comes to a step that leads there, which takes one more step
  pub record Comes (m : t.state) (rs : List Reply) (log : List Event) (x : Stepped t.state) (rs' : List Reply)
      (log' : List Event) : Type 0 where
    pub steps : ℕ
    pub then_same : (k : ℕ) → run t.step (up steps (suc k)) m rs log ≡ perform x (run t.step k) rs' log'

  -- some steps lead there, and note what the meaning noted
  pub record To (m : t.state) (rs : List Reply) (log : List Event) (s : State)
      (x : t.state → Stepped t.state) : Type 0 where
    pub state : t.state
    pub rs' : List Reply
    pub log' : List Event
    pub matches : Matches s state rs' log'
    pub comes : Comes m rs log (x state) rs' log'

  -- the run stands before one entry too many
  pub record Stands (m : t.state) (rs : List Reply) (log : List Event) (s : State) : Type 0 where
    pub steps : ℕ
    pub log' : List Event
    pub stops : run t.step steps m rs log ≡ ran log' unfinished
    pub noted : Noted s.notes log'
    pub costs : CostsNoted s.notes log'
    pub site : ℕ
    pub enters : sites (run t.step (suc steps) m rs log).log ≡ site ∷ sites log'

  -- the machine does what a meaning does
  abbrev pub Realizes : t.above → t.state → List Reply → List Event → State × Outcome Term → Type 0
  Realizes a m rs log (s, gives v) = To m rs log s (t.returns a v)
  Realizes a m rs log (s, raises c r) = To m rs log s (t.unwinds a c r)
  Realizes a m rs log (s, waits q) = To m rs log s (λ _. ends (waits q))
  Realizes a m rs log (s, spent) = Stands m rs log s

  -- with fewer than d entries left, whatever stands above
  abbrev pub RealizesAll : ℕ → (ℕ → Values → M Term) → Type 0
  RealizesAll d enter =
      (n : ℕ) (vs : Values) (a : t.above) (m : t.state) (rs : List Reply) (log : List Event) (s : State) →
      s.left < d → t.at_entry n vs a m → Matches s m rs log → Realizes a m rs log (enter n vs s)

  -- what is to be proved of the function at a site, in whatever form, of the module with this name, run by this
  -- process: the others are left open, and are lawful
  abbrev pub RunRealized : Name → Term → ℕ → Run → Type 0
  RunRealized name own n run =
      (d : ℕ) (enter : ℕ → Values → M Term) (vs : Values) (a : t.above) (m : t.state) (rs : List Reply)
      (log : List Event) (s : State) (r : State × Outcome Term) →
      IsLawful enter → RealizesAll d enter → s.left ≤ d → t.at_entry n vs a m → Matches s m rs log →
      ComesTo run (here_of name own enter) vs s r → Realizes a m rs log r

  -- of all functions of a module
  abbrev pub RunsRealized : Name → Term → (ℕ → Run) → Type 0
  RunsRealized name own runs = (n : ℕ) → RunRealized name own n (runs n)

  -- then it realizes what the module means, at every depth
  abbrev pub MeaningRealized : Type 0
  MeaningRealized =
      (name : Name) (own : Term) (runs : ℕ → Run) (enter : ℕ → ℕ → Values → M Term) →
      RunsRealized name own runs → IsMeaning name own runs enter → (d : ℕ) → RealizesAll d (enter d)
