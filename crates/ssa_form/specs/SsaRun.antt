-- What a body does: its blocks, wherever the variables' values are kept, and then with a value for each variable.
use Rattle.std.specs.Prelude.{◌≡◌, ℕ, zero, suc, List, [], ◌∷◌, Bool, true, false, ◌&&◌, eqb, Option, Some, None, if◌then◌else◌}
use Rattle.erl_term.specs.Term as T
use Rattle.erl_term.specs.Term.{Term, Class}
use Rattle.erl_term.specs.TermOrder.{same_term}
use Rattle.erl_term.specs.Terms.{Values, class_word}
use Rattle.bif_table.specs.Kinds.{truth_of}
use Rattle.world_model.specs.World.{Message}
use Rattle.world_model.specs.Run.{State, Outcome, gives, raises}
use Rattle.world_model.specs.Requests.{exit_of}
use Rattle.step_machine.specs.Bodies.{Here}
use Rattle.step_machine.specs.Frames.{MatchContext}
use Rattle.ssa_form.specs.Ssa.{Arg, var, Op, landing, catch_end, FrameAction, Set, Last, br, succeeded, switch, ret, Phi, Block, Body, block_at}
use Rattle.ssa_form.specs.Storage.{Held, unset, term, Handler, Leaving, ends_body, Storage, Frame, After, next, choose, raise, finish, Ended, done, unfinished, Mode, plain, tail, jump, tests, Around, in_window, go_on, when, if_some, outside, kept}
use Rattle.ssa_form.specs.Operations.{held, all_held, put, forgotten, follows, leaving, does}

-- what was raised, and the handler that takes it
pub record Raised : Type 0 where
  pub tag : ℕ
  pub class : Class
  pub reason : Term

-- the operand is the variable that was set
abbrev pub is_dst : Option ℕ → Arg → Bool
is_dst (Some v) (var w) = eqb v w
is_dst _ _ = false

-- how the last takes a set with this destination, which these sets and actions follow
abbrev pub mode_of : Option ℕ → List Set → List FrameAction → Last → Mode
mode_of d [] [] (succeeded v pass fail) = tests fail
mode_of d [] [] (ret a) = if is_dst d a then tail else plain
mode_of d [] [] (br a pass fail) = if eqb pass fail then jump else plain
mode_of d xs as' l = plain

-- The first sets of a block where a raise lands: three `landing`, for class, reason and trace, or a `catch_end`.

-- the only operand is the variable that names a handler
abbrev pub reads_tag : ℕ → List Arg → Bool
reads_tag v (var w ∷ []) = eqb v w
reads_tag v _ = false

-- takes a part of what was raised
abbrev pub is_landing : Op → Bool
is_landing landing = true
is_landing _ = false

-- takes the value of a catch
abbrev pub is_catch_end : Op → Bool
is_catch_end catch_end = true
is_catch_end _ = false

-- no frame action
abbrev pub none_before : List FrameAction → Bool
none_before [] = true
none_before (a ∷ as') = false

-- a landing of this handler
abbrev pub lands : ℕ → Set → Bool
lands v x = is_landing x.op && reads_tag v x.args && none_before x.before

-- the end of this catch
abbrev pub ends_catch : ℕ → Set → Bool
ends_catch v x = is_catch_end x.op && reads_tag v x.args && none_before x.before

-- Lasts.

-- the truth value that is held
abbrev pub truth_in : Held → Option Bool
truth_in (term t) = truth_of t
truth_in _ = None

-- one of two blocks
abbrev pub picked : Bool → ℕ → ℕ → ℕ
picked true pass fail = pass
picked false pass fail = fail

-- the block of the first term that is equal, or the other one
unfoldable pub choice_of : List (Term × ℕ) → Term → ℕ → ℕ
unfolding same_term
choice_of [] t d = d
choice_of (c ∷ cs) t d = if same_term c.0 t then c.1 else choice_of cs t d

-- the argument that comes along the edge from block n
abbrev pub from_edge : List (ℕ × Arg) → ℕ → Option Arg
from_edge [] n = None
from_edge (p ∷ ps) n = if eqb n p.0 then Some p.1 else from_edge ps n

-- what is set
abbrev pub if_set : Held → Option Held
if_set unset = None
if_set h = Some h

-- values in a row, if all are set
abbrev pub with_phi : ℕ → Option Held → Option (List (ℕ × Held)) → Option (List (ℕ × Held))
with_phi v (Some h) (Some hs) = Some ((v, h) ∷ hs)
with_phi v _ _ = None

-- one of two ends
abbrev pub either_end : Bool → Ended → Ended → Ended
either_end true a b = a
either_end false a b = b

-- a broken rule while a message is looked at
abbrev pub unless_looking : Option Message → Ended → Ended
unless_looking None r = r
unless_looking (Some m) r = Ended.bad

module _ {S : Type 0} (o : Storage S) (around : Around) (here : Here) where
  -- frame actions in a row
  abbrev pub acts_do : List FrameAction → Frame S → State → After S
  acts_do [] f s = next f s
  acts_do (a ∷ as') f s = go_on (if_some (o.acts (in_window f) a f.store) λ st. next (kept f st) s) (acts_do as')

  -- a set, its frame actions first
  abbrev pub set_does : Mode → Set → Frame S → State → After S
  set_does mode x f s =
      go_on (acts_do x.before f s) λ g u.
      does o around here x.op x.args mode x.dst (all_held o around here g x.args) g u

  -- sets in a row, then the actions before the last
  abbrev pub chain_does : List FrameAction → Last → List Set → Frame S → State → After S
  chain_does acts l [] f s = acts_do acts f s
  chain_does acts l (x ∷ xs) f s = go_on (set_does (mode_of x.dst xs acts l) x f s) (chain_does acts l xs)

  -- Phis: each reads the variables as they were along the edge, then all are written.

  -- the value along an edge
  abbrev pub arg_held : Frame S → Option Arg → Option Held
  arg_held f None = None
  arg_held f (Some a) = if_set (held o around here f a)

  -- the values of all phis
  abbrev pub phi_values : List Phi → ℕ → Frame S → Option (List (ℕ × Held))
  phi_values [] n f = Some []
  phi_values (p ∷ ps) n f = with_phi p.dst (arg_held f (from_edge p.from n)) (phi_values ps n f)

  -- written one after the other
  abbrev pub put_each : List (ℕ × Held) → Frame S → State → After S
  put_each [] f s = next f s
  put_each (p ∷ ps) f s = go_on (put o around here (Some p.0) p.1 f s) (put_each ps)

  -- Landings. The handler closes first.

  -- the handler closes
  abbrev pub closed : ℕ → Frame S → (Frame S → After S) → After S
  closed v f k = outside f (if_some (o.closes v f.store) λ st. k (kept f st))

  -- the value of a catch goes on
  abbrev pub catches : List FrameAction → Last → List Set → Raised → Frame S → State → After S
  catches acts l [] e f s = After.bad
  catches acts l (x ∷ xs) e f s = when (ends_catch e.tag x) (closed e.tag f λ g.
      go_on (follows o around here x.dst g (exit_of e.class e.reason s)) (chain_does acts l xs))

  -- class, reason and trace go on
  abbrev pub landed : List FrameAction → Last → List Set → Raised → Frame S → State → After S
  landed acts l (x ∷ y ∷ z ∷ xs) e f s =
      if lands e.tag x && lands e.tag y && lands e.tag z
      then closed e.tag f (λ g.
      go_on (put o around here x.dst (term (class_word e.class)) g s) λ h u.
      go_on (put o around here y.dst (term e.reason) h u) λ j v.
      go_on (put o around here z.dst (term (T.raw_trace e.class)) j v) (chain_does acts l xs))
      else catches acts l (x ∷ y ∷ z ∷ xs) e f s
  landed acts l xs e f s = catches acts l xs e f s

  -- the sets of a block, or its landing
  abbrev pub begins : Block → Option Raised → Frame S → State → After S
  begins b None f s = chain_does b.before b.last b.chain f s
  begins b (Some e) f s = landed b.before b.last b.chain e f s

  -- From one block to the next: what was raised, the block that is left, and the one that comes.

  -- how the run goes on
  abbrev pub Go : Type 0
  Go = Option Raised → ℕ → ℕ → Frame S → State → Ended

  -- to one of two blocks
  abbrev pub goes_by : Option Bool → Go → ℕ → ℕ → ℕ → Frame S → State → Ended
  goes_by None go n pass fail f s = Ended.bad
  goes_by (Some b) go n pass fail f s = go None n (picked b pass fail) f s

  -- to the block of a choice
  unfoldable pub switched : Held → Go → ℕ → ℕ → List (Term × ℕ) → Frame S → State → Ended
  unfolding choice_of
  switched (term t) go n d cs f s = go None n (choice_of cs t d) f s
  switched _ go n d cs f s = Ended.bad

  -- a body that is over
  abbrev pub ended : After S → Ended
  ended (finish s r) = done s r
  ended _ = Ended.bad

  -- a body ends outside the window, with the save place at the mailbox's start
  abbrev pub returned : Held → Frame S → State → Ended
  returned (term t) f s = ended (leaving o around here ends_body f λ g. finish s (gives t))
  returned _ f s = Ended.bad

  -- a branch whose targets are one does not look at its argument
  abbrev pub leave_next : Go → ℕ → Last → Frame S → State → Ended
  leave_next go n (br a pass fail) f s =
      either_end (eqb pass fail) (go None n pass f s) (goes_by (truth_in (held o around here f a)) go n pass fail f s)
  leave_next go n (succeeded v pass fail) f s = Ended.bad
  leave_next go n (switch a d cs) f s = switched (held o around here f a) go n d cs f s
  leave_next go n (ret a) f s = returned (held o around here f a) f s

  -- the last set succeeded or failed
  abbrev pub leave_choose : Go → ℕ → Last → Bool → Frame S → State → Ended
  leave_choose go n (succeeded v pass fail) b f s = go None n (picked b pass fail) f s
  leave_choose go n _ b f s = Ended.bad

  -- to the innermost handler, or out of the body
  abbrev pub raised_to : Option Handler → Go → ℕ → Class → Term → Frame S → State → Ended
  raised_to (Some h) go n c r f s =
      go (Some (record { tag = h.tag; class = c; reason = r })) n h.landing (forgotten o around here f) s
  raised_to None go n c r f s = if eqb f.save 0 then done s (raises c r) else Ended.bad

  -- a raise comes outside the window
  abbrev pub leave : Go → ℕ → Last → After S → Ended
  leave go n l (next f s) = leave_next go n l f s
  leave go n l (choose b f s) = leave_choose go n l b f s
  leave go n l (raise c r f s) = unless_looking f.window (raised_to (o.handler f.store) go n c r f s)
  leave go n l (finish s r) = done s r
  leave go n l After.bad = Ended.bad

  -- a block begins: its phis first
  abbrev pub entered_by : ℕ → ℕ → Block → Option Raised → Frame S → State → After S
  entered_by from n b e f s =
      if_some (o.arrives n f.store) λ st.
      if_some (phi_values b.phis from (kept f st)) λ hs. go_on (put_each hs (kept f st) s) (begins b e)

  -- a block, if it is there
  abbrev pub block_does : Option Block → Go → Option Raised → ℕ → ℕ → Frame S → State → Ended
  block_does None go e from n f s = Ended.bad
  block_does (Some b) go e from n f s = leave go n b.last (entered_by from n b e f s)

  -- at most k blocks, from block n on, which is reached from another one
  unfoldable pub blocks : Body → ℕ → Go
  unfolding does switched
  blocks b zero e from n f s = unfinished
  blocks b (suc k) e from n f s = block_does (block_at b n) (blocks b k) e from n f s

  -- from block 0 on
  abbrev pub body_run : Body → ℕ → S → List MatchContext → State → Ended
  body_run b k st cs s = blocks b k None 0 0 (record { store = st; contexts = cs; save = 0; window = None }) s

-- With a value for each variable. Handlers from the inside out.
pub record Vars : Type 0 where
  pub values : ℕ → Held
  pub handlers : List Handler

-- none is open
abbrev pub no_handlers : List Handler → Bool
no_handlers [] = true
no_handlers (h ∷ hs) = false

-- only under a condition
abbrev pub only_if : {A : Type 0} → Bool → A → Option A
only_if true a = Some a
only_if false a = None

-- the innermost handler
abbrev pub first_handler : List Handler → Option Handler
first_handler [] = None
first_handler (h ∷ hs) = Some h

-- without it, if it is this one
abbrev pub without_first : ℕ → List Handler → Option (List Handler)
without_first v [] = None
without_first v (h ∷ hs) = if eqb h.tag v then Some hs else None

-- with these handlers left
abbrev pub with_handlers : Vars → Option (List Handler) → Option Vars
with_handlers st None = None
with_handlers st (Some hs) = Some (record st { handlers = hs })

-- a body ends with no handler open
abbrev pub vars_leave : Leaving → Vars → Option Vars
vars_leave ends_body st = only_if (no_handlers st.handlers) st
vars_leave _ st = Some st

-- the rules of variables
abbrev pub in_vars : Storage Vars
in_vars = record {
  read = λ st v. st.values v;
  write = λ w v h st. Some (record st { values = λ x. if eqb x v then h else st.values x });
  collects = λ st. Some st;
  leaves = vars_leave;
  arrives = λ n st. Some st;
  forgets = λ st. st;
  opens = λ h st. Some (record st { handlers = h ∷ st.handlers });
  closes = λ v st. with_handlers st (without_first v st.handlers);
  handler = λ st. first_handler st.handlers;
  acts = λ w a st. None;
}

-- parameters hold their arguments
abbrev pub params_hold : List ℕ → List Held → ℕ → Held
params_hold [] hs y = unset
params_hold (x ∷ xs) [] y = unset
params_hold (x ∷ xs) (h ∷ hs) y = if eqb y x then h else params_hold xs hs y

-- terms as values
abbrev pub all_terms : Values → List Held
all_terms [] = []
all_terms (t ∷ ts) = term t ∷ all_terms ts

-- with these arguments, at most k blocks
unfoldable pub ssa_run : Around → Here → Body → ℕ → List Held → List MatchContext → State → Ended
unfolding blocks
ssa_run around here b k hs cs s =
    body_run in_vars around here b k (record { values = params_hold b.params hs; handlers = [] }) cs s

-- the body ends so, given these terms
pub record SsaGives (around : Around) (here : Here) (b : Body) (vs : Values) (s : State)
    (r : State × Outcome Term) : Type 0 where
  pub within : ℕ
  pub ends : ssa_run around here b within (all_terms vs) [] s ≡ done r.0 r.1
