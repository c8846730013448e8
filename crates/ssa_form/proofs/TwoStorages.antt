-- Two storages side by side: how they are related around one operation, and what has to be shown of them.
use Rattle.std.proofs.Common.{◌≡◌, ◌⊎◌, ℕ, List, Bool, true, false, not, ◌&&◌, ◌||◌, Option, Some, None, IsTrue, IsFalse}
use Rattle.erl_term.specs.Term.{Term, Class}
use Rattle.world_model.specs.World.{Message}
use Rattle.world_model.specs.Run.{State, Outcome}
use Rattle.step_machine.specs.Bodies.{Here}
use Rattle.step_machine.specs.Frames.{MatchContext}
use Rattle.ssa_form.specs.Ssa as Ssa
use Rattle.ssa_form.specs.Ssa.{Arg, var, lit, Op}
use Rattle.ssa_form.specs.Storage.{Held, Handler, Leaving, calls, ends_body, always_raises, Storage, After, next, choose, raise, finish, Mode, tail, tests, Around}
use Rattle.ssa_form.specs.SetFacts.{gives_nothing, is_peek, is_tests, is_try_start, unsets_registers, may_raise}
use Rattle.ssa_form.proofs.Moves.{at, Came, Went}

-- two answers of the rules of storages: where the first is no broken rule, the second isn't, and they are related
pub data Opt {A B : Type 0} (R : A → B → Type 0) : Option A → Option B → Type 0 where
  opt_none : (y : Option B) → Opt R None y
  opt_some : (a : A) (b : B) → R a b → Opt R (Some a) (Some b)

-- whether a message is looked at
abbrev pub lk : Option Message → Bool
lk w = elim w [ None ↦ false | Some m ↦ true ]

-- how control leaves by a call, where its block takes it so
abbrev pub left_by : Mode → Leaving → Leaving
left_by tail l = ends_body
left_by _ l = l

-- the ways in which an operation may let control leave
abbrev pub leaves_by : Op → Mode → Leaving → Type 0
leaves_by (Ssa.call_local n) m l = l ≡ left_by m calls
leaves_by Ssa.call_remote m l = (l ≡ left_by m calls) ⊎ (l ≡ left_by m always_raises)
leaves_by Ssa.call_fun m l = l ≡ calls
leaves_by Ssa.send m l = l ≡ left_by m calls
leaves_by Ssa.trace m l = l ≡ calls
leaves_by op m l = ⊥

abbrev pub is_try_end : Op → Bool
is_try_end Ssa.try_end = true
is_try_end _ = false

abbrev pub is_take : Op → Bool
is_take Ssa.take_message = true
is_take _ = false

abbrev pub is_back : Op → Bool
is_back Ssa.reset = true
is_back Ssa.use_marker = true
is_back _ = false

-- whether an operation writes its variable
abbrev pub writes : Op → Bool
writes op = not (gives_nothing op || is_try_start op)

-- Two storages, the setting in which both run, and what holds between them around one operation with this destination
-- that its block takes so: before it, told whether a message is looked at; where it unset the X registers; after it,
-- told whether it gave its variable a value and whether a message is looked at; and where it raised. ok: how it may let
-- control leave.
pub record Two (S T : Type 0) : Type 1 where
  pub o : Storage S
  pub p : Storage T
  pub around : Around
  pub here : Here
  pub ok : Leaving → Type 0
  pub mode : Mode
  pub dst : Option ℕ
  pub before : Bool → S → T → Type 0
  pub cleared : S → T → Type 0
  pub done : Bool → Bool → S → T → Type 0
  pub rose : S → T → Type 0

-- whether an operation writes its variable, unsets the X registers, is a look, takes the message, opens or closes a
-- handler, moves the save place back, may raise, and is tested
pub record Traits : Type 0 where
  pub writes : Bool
  pub clears : Bool
  pub looks : Bool
  pub takes : Bool
  pub opens : Bool
  pub closes : Bool
  pub back : Bool
  pub raises : Bool
  pub tested : Bool

abbrev pub traits : Mode → Op → Traits
traits m op = record {
  writes = writes op;
  clears = unsets_registers op;
  looks = is_peek op;
  takes = is_take op;
  opens = is_try_start op;
  closes = is_try_end op;
  back = is_back op;
  raises = may_raise m op;
  tested = is_tests m;
}

-- it is no handler's beginning or end
pub record Steady (f : Traits) : Type 0 where
  pub opens : IsFalse f.opens
  pub closes : IsFalse f.closes

-- nor a look, nor does it take the message
pub record Calm (f : Traits) : Type 0 where
  pub steady : Steady f
  pub looks : IsFalse f.looks
  pub takes : IsFalse f.takes

-- where a body ends, nothing is looked at afterwards
abbrev pub left_so : {S T : Type 0} → (S → T → Type 0) → Leaving → S → T → Type 0
left_so r calls x y = r x y
left_so r ends_body x y = Unit {0}
left_so r always_raises x y = r x y

-- what has to be shown of the two storages for an operation with these traits
pub record Keeps {S T : Type 0} (two : Two S T) (f : Traits) : Type 0 where
  pub collects : (w : Bool) (x : S) (y : T) → two.before w x y
      → Opt (two.before w) (two.o.collects x) (two.p.collects y)
  pub leaves : (l : Leaving) → two.ok l → (x : S) (y : T) → two.before false x y
      → Opt (left_so (two.before false) l) (two.o.leaves l x) (two.p.leaves l y)
  pub forgets : IsTrue f.clears → (w : Bool) (x : S) (y : T) → two.before w x y
      → two.cleared (two.o.forgets x) (two.p.forgets y)
  pub puts : IsTrue f.writes → (w : Bool) (v : ℕ) (h : Held) → two.dst ≡ Some v → (x : S) (y : T) → two.before w x y
      → Opt (two.done true w) (two.o.write w v h x) (two.p.write w v h y)
  pub puts_cleared : IsTrue f.writes → (v : ℕ) (h : Held) → two.dst ≡ Some v → (x : S) (y : T) → two.cleared x y
      → Opt (two.done true f.looks) (two.o.write f.looks v h x) (two.p.write f.looks v h y)
  pub drops : IsTrue f.writes → (w : Bool) → two.dst ≡ None → (x : S) (y : T) → two.before w x y
      → two.done true w x y
  pub drops_cleared : IsTrue f.writes → two.dst ≡ None → (x : S) (y : T) → two.cleared x y → two.done true f.looks x y
  pub stays : Steady f → (w : Bool) (x : S) (y : T) → two.before w x y → two.done false (w && not f.takes) x y
  pub stays_cleared : Steady f → (x : S) (y : T) → two.cleared x y → two.done false false x y
  pub rises : (w : Bool) (x : S) (y : T) → two.before w x y → two.rose x y
  pub rises_cleared : (x : S) (y : T) → two.cleared x y → two.rose x y
  pub opens : IsTrue f.opens → (h : Handler) → two.dst ≡ Some h.tag → two.mode ≡ tests h.landing → (x : S) (y : T)
      → two.before false x y → Opt (two.done false false) (two.o.opens h x) (two.p.opens h y)
  pub closes : IsTrue f.closes → (v : ℕ) (x : S) (y : T) → two.before false x y
      → Opt (two.done false false) (two.o.closes v x) (two.p.closes v y)

-- where an operation begins: the two storages, its traits, the save place, the message that is looked at, and the state
pub record Start (S T : Type 0) : Type 1 where
  pub two : Two S T
  pub kind : Traits
  pub keeps : Keeps two kind
  pub save : ℕ
  pub window : Option Message
  pub state : State

-- What comes of an operation on both sides: the same, with stores that are related, or a broken rule on the first side.
-- Beside the stores it says what the run did to the rest, from this save place, message that is looked at and state on.
module _ {S T : Type 0} (two : Two S T) (kind : Traits) (i : ℕ) (v : Option Message) (u : State) where
  pub data Sim : After S → After T → Type 0 where
    sim_on : IsFalse kind.looks → IsFalse kind.opens → (x : S) (y : T) (c : List MatchContext) (n : ℕ)
        (w : Option Message) (s : State)
        → two.done kind.writes (lk w) x y → Went two.around two.here kind.looks kind.back i v u n w s
        → Sim (next (at x c n w) s) (next (at y c n w) s)
    sim_pick : (b : Bool) → IsTrue kind.tested → IsFalse kind.closes → (b ≡ false → IsFalse kind.opens) → (x : S)
        (y : T) (c : List MatchContext) (n : ℕ) (w : Option Message) (s : State)
        → two.done (kind.writes && b) (lk w) x y
        → Went two.around two.here kind.looks kind.back i v u n w s
        → Sim (choose b (at x c n w) s) (choose b (at y c n w) s)
    sim_up : IsTrue kind.raises → (k : Class) (r : Term) (x : S) (y : T) (c : List MatchContext) (n : ℕ)
        (w : Option Message) (s : State) → two.rose x y → Came two.around two.here u s
        → Sim (raise k r (at x c n w) s) (raise k r (at y c n w) s)
    sim_over : (s : State) (q : Outcome Term) → Came two.around two.here u s → Sim (finish s q) (finish s q)
    sim_bad : (z : After T) → Sim After.bad z
