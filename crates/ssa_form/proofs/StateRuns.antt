-- What the states of a body's run keep: they are lawful, and have no more entries left, where what is entered does.
use Rattle.std.proofs.Common.{◌≡◌, ◌≤◌, ℕ, zero, suc, List, [], ◌∷◌, Bool, true, false, ◌&&◌, Option, Some, None, subst, eqb, if◌then◌else◌}
use Rattle.erl_term.specs.Term as T
use Rattle.erl_term.specs.Term.{Term, Class}
use Rattle.erl_term.specs.Terms.{class_word}
use Rattle.world_model.specs.World.{Message}
use Rattle.world_model.specs.Run.{State, Outcome, gives, raises}
use Rattle.world_model.specs.Requests.{exit_of}
use Rattle.step_machine.specs.Bodies.{Here}
use Rattle.step_machine.specs.Frames.{MatchContext}
use Rattle.pass_contract.specs.Lawful.{Lawful, IsLawful}
use Rattle.ssa_form.specs.Ssa.{FrameAction, Set, Last, br, succeeded, switch, ret, Block, Body, block_at}
use Rattle.ssa_form.specs.Storage.{Held, unset, term, context, position, marker, Handler, ends_body, Storage, Frame, After, next, choose, raise, finish, Ended, done, unfinished, Around, in_window, go_on, if_some, kept}
use Rattle.ssa_form.specs.Operations.{held, all_held, put, forgotten, leaving}
use Rattle.ssa_form.specs.SsaRun.{Raised, mode_of, lands, ends_catch, truth_in, picked, either_end, acts_do, chain_does, phi_values, put_each, closed, catches, landed, begins, Go, goes_by, choice_of, switched, ended, returned, leave_next, leave_choose, raised_to, leave, entered_by, block_does, blocks, body_run}
use Rattle.step_machine.specs.EntryBound.{Lowers}
use Rattle.ssa_form.proofs.Moves.{by_meaning, of_exit, Kept, lawful_kept, LeftLess, lowers_kept}
use Rattle.ssa_form.proofs.StateOps.{Ends, some_ends, when_ends, outside_ends, then_ends, put_ends, follows_ends, leaving_ends, does_ends}

module _ {S : Type 0} (o : Storage S) (around : Around) (here : Here) (R : State → State → Type 0)
    (kept_so : Kept around here R) (s0 : State) where
  abbrev E : After S → Type 0
  E a = Ends o around here R kept_so s0 a

  acts_end : (as' : List FrameAction) (f : Frame S) (s : State) → R s0 s → E (acts_do o around here as' f s)
  acts_end [] f s l = l
  acts_end (a ∷ as') f s l = then_ends o around here R kept_so s0
      (if_some (o.acts (in_window f) a f.store) (λ st. next (kept f st) s)) _
      (some_ends o around here R kept_so s0 (o.acts (in_window f) a f.store) _ (λ st. l)) (λ g u i. acts_end as' g u i)

  chain_ends : (as' : List FrameAction) (z : Last) (xs : List Set) (f : Frame S) (s : State) → R s0 s
      → E (chain_does o around here as' z xs f s)
  chain_ends as' z [] f s l = acts_end as' f s l
  chain_ends as' z (x ∷ xs) f s l = then_ends o around here R kept_so s0 _ _
      (then_ends o around here R kept_so s0 (acts_do o around here x.before f s) _ (acts_end x.before f s l)
      (λ g u i. does_ends o around here R kept_so s0 x.op x.args (mode_of x.dst xs as' z) x.dst
      (all_held o around here g x.args) g u i))
      (λ g u i. chain_ends as' z xs g u i)

  each_ends : (hs : List (ℕ × Held)) (f : Frame S) (s : State) → R s0 s → E (put_each o around here hs f s)
  each_ends [] f s l = l
  each_ends (p ∷ ps) f s l = then_ends o around here R kept_so s0 _ _
      (put_ends o around here R kept_so s0 (Some p.0) p.1 f s l) (λ g u i. each_ends ps g u i)

  closed_ends : (v : ℕ) (f : Frame S) (k : Frame S → After S) → ((g : Frame S) → E (k g))
      → E (closed o around here v f k)
  closed_ends v f k h = outside_ends o around here R kept_so s0 f _
      (some_ends o around here R kept_so s0 (o.closes v f.store) _ (λ st. h (kept f st)))

  catches_end : (as' : List FrameAction) (z : Last) (xs : List Set) (e : Raised) (f : Frame S) (s : State) → R s0 s
      → E (catches o around here as' z xs e f s)
  catches_end as' z [] e f s l = tt
  catches_end as' z (x ∷ xs) e f s l = when_ends o around here R kept_so s0 (ends_catch e.tag x) _
      (closed_ends e.tag f _ (λ g. then_ends o around here R kept_so s0 _ _
      (follows_ends o around here R kept_so s0 x.dst g (exit_of e.class e.reason s)
      (kept_so.twice s0 s _ l
      (kept_so.comes s _ (by_meaning (exit_of e.class e.reason) (of_exit e.class e.reason)))))
      (λ h u i. chain_ends as' z xs h u i)))

  landed_ends : (as' : List FrameAction) (z : Last) (xs : List Set) (e : Raised) (f : Frame S) (s : State) → R s0 s
      → E (landed o around here as' z xs e f s)
  landed_ends as' z [] e f s l = tt
  landed_ends as' z (x ∷ []) e f s l = catches_end as' z (x ∷ []) e f s l
  landed_ends as' z (x ∷ y ∷ []) e f s l = catches_end as' z (x ∷ y ∷ []) e f s l
  landed_ends as' z (x ∷ y ∷ w ∷ xs) e f s l = by (lands e.tag x && lands e.tag y && lands e.tag w)
    where
      by : (b : Bool)
          → E (if b
          then closed o around here e.tag f (λ g.
          go_on (put o around here x.dst (term (class_word e.class)) g s) λ h u.
          go_on (put o around here y.dst (term e.reason) h u) λ j v.
          go_on (put o around here w.dst (term (T.raw_trace e.class)) j v) (chain_does o around here as' z xs))
          else catches o around here as' z (x ∷ y ∷ w ∷ xs) e f s)
      by true = closed_ends e.tag f _ (λ g. then_ends o around here R kept_so s0 _ _
          (put_ends o around here R kept_so s0 x.dst (term (class_word e.class)) g s l)
          (λ h u i. then_ends o around here R kept_so s0 _ _
          (put_ends o around here R kept_so s0 y.dst (term e.reason) h u i)
          (λ j v k. then_ends o around here R kept_so s0 _ _
          (put_ends o around here R kept_so s0 w.dst (term (T.raw_trace e.class)) j v k)
          (λ q t m. chain_ends as' z xs q t m))))
      by false = catches_end as' z (x ∷ y ∷ w ∷ xs) e f s l

  begins_end : (b : Block) (e : Option Raised) (f : Frame S) (s : State) → R s0 s
      → E (begins o around here b e f s)
  begins_end b None f s l = chain_ends b.before b.last b.chain f s l
  begins_end b (Some e) f s l = landed_ends b.before b.last b.chain e f s l

  entered_ends : (from n : ℕ) (b : Block) (e : Option Raised) (f : Frame S) (s : State) → R s0 s
      → E (entered_by o around here from n b e f s)
  entered_ends from n b e f s l = some_ends o around here R kept_so s0 (o.arrives n f.store) _
      (λ st. some_ends o around here R kept_so s0 (phi_values o around here b.phis from (kept f st)) _
      (λ hs. then_ends o around here R kept_so s0 _ _ (each_ends hs (kept f st) s l) (λ g u i. begins_end b e g u i)))

  -- whole runs

  abbrev EndsSo : Ended → Type 0
  EndsSo (done s q) = R s0 s
  EndsSo Ended.bad = Unit {0}
  EndsSo unfinished = Unit {0}

  abbrev GoesOn : Go o around here → Type 0
  GoesOn go = (e : Option Raised) (from n : ℕ) (f : Frame S) (s : State) → R s0 s → EndsSo (go e from n f s)

  either_ends : (b : Bool) (x y : Ended) → EndsSo x → EndsSo y → EndsSo (either_end b x y)
  either_ends true x y h i = h
  either_ends false x y h i = i

  by_ends : (t : Option Bool) (go : Go o around here) (n pass fail : ℕ) (f : Frame S) (s : State) → GoesOn go
      → R s0 s → EndsSo (goes_by o around here t go n pass fail f s)
  by_ends None go n pass fail f s h l = tt
  by_ends (Some b) go n pass fail f s h l = h None n (picked b pass fail) f s l

  switched_ends : (h : Held) (go : Go o around here) (n d : ℕ) (cs : List (Term × ℕ)) (f : Frame S) (s : State)
      → GoesOn go → R s0 s → EndsSo (switched o around here h go n d cs f s)
  unfolding switched
  switched_ends (term t) go n d cs f s h l = h None n (choice_of cs t d) f s l
  switched_ends unset go n d cs f s h l = tt
  switched_ends (context i) go n d cs f s h l = tt
  switched_ends (position i) go n d cs f s h l = tt
  switched_ends (marker i) go n d cs f s h l = tt

  ended_ends : (a : After S) → E a → EndsSo (ended o around here a)
  ended_ends (finish s r) h = h
  ended_ends (next f s) h = tt
  ended_ends (choose b f s) h = tt
  ended_ends (raise c r f s) h = tt
  ended_ends After.bad h = tt

  returned_ends : (h : Held) (f : Frame S) (s : State) → R s0 s → EndsSo (returned o around here h f s)
  returned_ends (term t) f s l = ended_ends (leaving o around here ends_body f (λ g. finish s (gives t)))
      (leaving_ends o around here R kept_so s0 ends_body f (λ g. finish s (gives t)) (λ g. l))
  returned_ends unset f s l = tt
  returned_ends (context i) f s l = tt
  returned_ends (position i) f s l = tt
  returned_ends (marker i) f s l = tt

  next_ends : (go : Go o around here) (n : ℕ) (z : Last) (f : Frame S) (s : State) → GoesOn go → R s0 s
      → EndsSo (leave_next o around here go n z f s)
  next_ends go n (br a pass fail) f s h l = either_ends (eqb pass fail) _ _ (h None n pass f s l)
      (by_ends (truth_in (held o around here f a)) go n pass fail f s h l)
  next_ends go n (succeeded v pass fail) f s h l = tt
  next_ends go n (switch a d cs) f s h l = switched_ends (held o around here f a) go n d cs f s h l
  next_ends go n (ret a) f s h l = returned_ends (held o around here f a) f s l

  choose_ends : (go : Go o around here) (n : ℕ) (z : Last) (b : Bool) (f : Frame S) (s : State) → GoesOn go
      → R s0 s → EndsSo (leave_choose o around here go n z b f s)
  choose_ends go n (succeeded v pass fail) b f s h l = h None n (picked b pass fail) f s l
  choose_ends go n (br a pass fail) b f s h l = tt
  choose_ends go n (switch a d cs) b f s h l = tt
  choose_ends go n (ret a) b f s h l = tt

  raised_ends : (p : Option Handler) (go : Go o around here) (n : ℕ) (c : Class) (r : Term) (f : Frame S) (s : State)
      → GoesOn go → R s0 s → EndsSo (raised_to o around here p go n c r f s)
  raised_ends (Some x) go n c r f s h l = h (Some (record { tag = x.tag; class = c; reason = r })) n x.landing
      (forgotten o around here f) s l
  raised_ends None go n c r f s h l = by (eqb f.save 0)
    where
      by : (b : Bool) → EndsSo (if b then done s (raises c r) else Ended.bad)
      by true = l
      by false = tt

  leave_ends : (go : Go o around here) (n : ℕ) (z : Last) (a : After S) → GoesOn go → E a
      → EndsSo (leave o around here go n z a)
  leave_ends go n z (next f s) h l = next_ends go n z f s h l
  leave_ends go n z (choose b f s) h l = choose_ends go n z b f s h l
  leave_ends go n z (raise c r f s) h l = by f.window
    where
      by : (v : Option Message)
          → EndsSo (Rattle.ssa_form.specs.SsaRun.unless_looking v
          (raised_to o around here (o.handler f.store) go n c r f s))
      by None = raised_ends (o.handler f.store) go n c r f s h l
      by (Some m) = tt
  leave_ends go n z (finish s r) h l = l
  leave_ends go n z After.bad h l = tt

  block_ends : (x : Option Block) (go : Go o around here) (e : Option Raised) (from n : ℕ) (f : Frame S) (s : State)
      → GoesOn go → R s0 s → EndsSo (block_does o around here x go e from n f s)
  block_ends None go e from n f s h l = tt
  block_ends (Some b) go e from n f s h l = leave_ends go n b.last _ h (entered_ends from n b e f s l)

  pub blocks_end : (b : Body) (k : ℕ) → GoesOn (blocks o around here b k)
  unfolding blocks
  blocks_end b zero e from n f s l = tt
  blocks_end b (suc k) e from n f s l =
      block_ends (block_at b n) (blocks o around here b k) e from n f s (blocks_end b k) l

  so_done : (x : Ended) (u : State) (q : Outcome Term) → EndsSo x → x ≡ done u q → R s0 u
  so_done x u q h e = subst EndsSo e h

  pub body_keeps : (b : Body) (k : ℕ) (st : S) (cs : List MatchContext) (u : State) (q : Outcome Term)
      → body_run o around here b k st cs s0 ≡ done u q → R s0 u
  body_keeps b k st cs u q e = so_done (body_run o around here b k st cs s0) u q
      (blocks_end b k None 0 0 (record { store = st; contexts = cs; save = 0; window = None }) s0 (kept_so.itself s0)) e

module _ {S : Type 0} (o : Storage S) (around : Around) (here : Here) (s : State) (b : Body) (k : ℕ) (st : S)
    (cs : List MatchContext) (u : State) (q : Outcome Term) (over : body_run o around here b k st cs s ≡ done u q) where
  pub body_lawful : IsLawful here.enter → Lawful s u
  body_lawful l = body_keeps o around here Lawful (lawful_kept around here l) s b k st cs u q over

  pub body_lowers : Lowers here.enter → u.left ≤ s.left
  body_lowers l = body_keeps o around here (LeftLess around here) (lowers_kept around here l) s b k st cs u q over
