-- What a block leaves: from where it is entered, by a raise too, to the end of its chain.
use Rattle.std.proofs.Common.{◌≡◌, ℕ, List, [], ◌∷◌, Bool, true, false, ◌&&◌, ◌||◌, Option, Some, None, refl, sym, subst, ◌∙◌, IsTrue, IsFalse, if◌then◌else◌, codes}
use Rattle.erl_term.specs.Term as T
use Rattle.erl_term.specs.Term.{Term, Class}
use Rattle.erl_term.specs.Terms.{class_word, tagged}
use Rattle.world_model.specs.World as W
use Rattle.world_model.specs.World.{Reply}
use Rattle.world_model.specs.Run.{State, Outcome, answered, ask_from, going_on}
use Rattle.world_model.specs.Meaning.{single}
use Rattle.world_model.specs.Requests.{exit_of}
use Rattle.step_machine.specs.Bodies.{Here}
use Rattle.step_machine.specs.EntryBound.{Lowers}
use Rattle.ssa_form.specs.Ssa as Ssa
use Rattle.ssa_form.specs.Ssa.{Op, FrameAction, Set, Last, Phi, Block, Body, block_at}
use Rattle.ssa_form.specs.Storage.{Held, term, Handler, Storage, Frame, After, next, choose, raise, finish, Around, go_on, if_some, kept}
use Rattle.ssa_form.specs.SetFacts.{breaks_cycle}
use Rattle.ssa_form.specs.Flow.{point, after_op, Reached}
use Rattle.ssa_form.specs.WellFormed.{any_op, lands_for}
use Rattle.ssa_form.specs.Operations.{put, follows}
use Rattle.ssa_form.specs.SsaRun.{Raised, is_landing, is_catch_end, lands, ends_catch, chain_does, phi_values, put_each, closed, catches, landed, begins, entered_by}
use Rattle.ssa_form.proofs.Rank.{most_twice, then_most, same, Fits}
use Rattle.ssa_form.proofs.OpenHandlers.{Tracks}
use Rattle.ssa_form.proofs.Eases.{some_holds, when_holds, outside_holds, Eases, eased, OnlyOn, uses_eased, put_only, and_first, answered_uses}
use Rattle.ssa_form.proofs.ChainSteps.{From, all_from, tail_from, At, at_next, Chained, chain_steps}

pub and_second : (a b : Bool) → (a && b) ≡ true → b ≡ true
and_second true b e = e
and_second false b e = absurd cc

pub only_then : {S : Type 0} (open_in : S → List Handler) (P : After S → Type 0) → P After.bad
    → (f : Frame S) (s : State) (a : After S) (k : Frame S → State → After S) → OnlyOn open_in f s a
    → ((g : Frame S) (u : State) → Eases open_in f s g u → P (k g u)) → P (go_on a k)
only_then open_in P q f s (next g u) k h i = i g u h
only_then open_in P q f s After.bad k h i = q
only_then open_in P q f s (choose c g u) k h i = absurd h
only_then open_in P q f s (raise c x g u) k h i = absurd h
only_then open_in P q f s (finish u z) k h i = absurd h

pub landing_after : (op : Op) (hs : List Handler) → IsTrue (is_landing op) → after_op op hs ≡ hs
landing_after Ssa.try_end hs e = absurd cc
landing_after _ hs e = refl

landing_breaks : (op : Op) → IsTrue (is_landing op) → IsTrue (breaks_cycle op)
landing_breaks Ssa.landing e = refl
landing_breaks _ e = absurd cc

pub catch_after : (op : Op) (hs : List Handler) → IsTrue (is_catch_end op) → after_op op hs ≡ hs
catch_after Ssa.try_end hs e = absurd cc
catch_after _ hs e = refl

catch_breaks : (op : Op) → IsTrue (is_catch_end op) → IsTrue (breaks_cycle op)
catch_breaks Ssa.catch_end e = refl
catch_breaks _ e = absurd cc

first_breaks : (y : Set) (ys : List Set) → IsTrue (breaks_cycle y.op) → IsTrue (any_op breaks_cycle (y ∷ ys))
first_breaks y ys e = simp e refl

true_not : (b : Bool) → IsTrue b → IsFalse b → ⊥
true_not b e f = let g : true ≡ false = sym e ∙ f in cc

pub lands_op : (v : ℕ) (x : Set) → IsTrue (lands v x) → IsTrue (is_landing x.op)
lands_op v x e = and_first _ _ (and_first _ _ e)

pub catches_op : (v : ℕ) (x : Set) → IsTrue (ends_catch v x) → IsTrue (is_catch_end x.op)
catches_op v x e = and_first _ _ (and_first _ _ e)

either_of : {P : Type 0} (a b : Bool) → IsTrue (a || b) → (IsTrue a → P) → (IsTrue b → P) → P
either_of true b e h i = h refl
either_of false b e h i = i e

pub lands_breaks : (v : ℕ) (ys : List Set) → IsTrue (lands_for v ys) → IsTrue (any_op breaks_cycle ys)
lands_breaks v [] e = absurd cc
lands_breaks v (x ∷ []) e = first_breaks x [] (catch_breaks x.op (catches_op v x e))
lands_breaks v (x ∷ y ∷ []) e = first_breaks x (y ∷ []) (catch_breaks x.op (catches_op v x e))
lands_breaks v (x ∷ y ∷ z ∷ xs) e =
    first_breaks x (y ∷ z ∷ xs) (either_of (lands v x && lands v y && lands v z) (ends_catch v x) e
    (λ h. landing_breaks x.op (lands_op v x (and_first _ _ (and_first _ _ h))))
    (λ h. catch_breaks x.op (catches_op v x h)))

-- a block is entered by the way there, or by a raise that a handler takes
abbrev pub Came : Body → ℕ → Option Raised → List Handler → Type 0
Came b n None hs = Reached b (point n 0) hs
Came b n (Some e) hs = (h : Handler) × (is' : List Handler) × (hs ≡ h ∷ is') × Reached b (point n 0) is'

module _ {S : Type 0} (o : Storage S) (around : Around) (here : Here) (lowers : Lowers here.enter)
    (open_in : S → List Handler) (tracks : Tracks o open_in) where
  put_in : (dst : Option ℕ) (h : Held) (f0 : Frame S) (s0 : State) (f : Frame S) (s : State) → Eases open_in f0 s0 f s
      → OnlyOn open_in f0 s0 (put o around here dst h f s)
  put_in dst h f0 s0 f s e = put_only
      (record { o = o; around = around; here = here; open_in = open_in; tracks = tracks; f0 = f0; s0 = s0 }) dst h f s e

  pub puts_only : (ps : List (ℕ × Held)) (f0 : Frame S) (s0 : State) (f : Frame S) (s : State) → Eases open_in f0 s0 f s
      → OnlyOn open_in f0 s0 (put_each o around here ps f s)
  puts_only [] f0 s0 f s e = e
  puts_only (p ∷ ps) f0 s0 f s e = only_then open_in (OnlyOn open_in f0 s0) tt f0 s0
      (put o around here (Some p.0) p.1 f s) (put_each o around here ps) (put_in (Some p.0) p.1 f0 s0 f s e)
      (λ g u j. puts_only ps f0 s0 g u j)

  module _ (b : Body) (n : ℕ) (x : Block) (there : block_at b n ≡ Some x) where
    abbrev pub Leaves : List Set → Frame S → State → After S → Type 0
    Leaves ys f s a = Chained b n x there open_in ys f s a

    -- behind a quiet beginning

    chained_eased : (ys : List Set) (f : Frame S) (s : State) (g : Frame S) (u : State) (a : After S)
        → Eases open_in f s g u → Leaves ys g u a → Leaves ys f s a
    chained_eased ys f s g u (next h v) e p = record {
      fits = p.fits;
      reached = p.reached;
      falls = λ r. most_twice _ _ _ (p.falls r) e.falls;
      looks = λ r t. then_most _ _ _ (p.looks r t) e.falls;
    }
    chained_eased ys f s g u (choose c h v) e p = record {
      fits = p.fits;
      at = p.at;
      by = p.by;
      tested = p.tested;
      is_there = p.is_there;
      before = p.before;
      reached = p.reached;
      handlers = p.handlers;
      starts = p.starts;
      last = p.last;
      falls = λ r. most_twice _ _ _ (p.falls r) e.falls;
      looks = λ r t. then_most _ _ _ (p.looks r t) e.falls;
    }
    chained_eased ys f s g u (raise c z h v) e p = record {
      at = p.at;
      by = p.by;
      mode = p.mode;
      is_there = p.is_there;
      reached = p.reached;
      may = p.may;
    }
    chained_eased ys f s g u (finish v z) e p = tt
    chained_eased ys f s g u After.bad e p = tt

    -- behind a landing, where no cycle passes

    chained_landed : (ys zs : List Set) (f : Frame S) (s : State) (g : Frame S) (u : State) (a : After S)
        → IsTrue (any_op breaks_cycle ys) → Leaves zs g u a → Leaves ys f s a
    chained_landed ys zs f s g u (next h v) t p = record {
      fits = p.fits;
      reached = p.reached;
      falls = λ r. absurd (true_not _ t r);
      looks = λ r i. absurd (true_not _ t r);
    }
    chained_landed ys zs f s g u (choose c h v) t p = record {
      fits = p.fits;
      at = p.at;
      by = p.by;
      tested = p.tested;
      is_there = p.is_there;
      before = p.before;
      reached = p.reached;
      handlers = p.handlers;
      starts = p.starts;
      last = p.last;
      falls = λ r. absurd (true_not _ t r);
      looks = λ r i. absurd (true_not _ t r);
    }
    chained_landed ys zs f s g u (raise c z h v) t p = record {
      at = p.at;
      by = p.by;
      mode = p.mode;
      is_there = p.is_there;
      reached = p.reached;
      may = p.may;
    }
    chained_landed ys zs f s g u (finish v z) t p = tt
    chained_landed ys zs f s g u After.bad t p = tt

    heads_are : (h k : Handler) (hs is' : List Handler) → h ∷ hs ≡ k ∷ is' → hs ≡ is'
    heads_are h k hs is' e = cc

    -- the handler that takes a raise closes
    closed_holds : (P : After S → Type 0) → P After.bad
        → (v : ℕ) (f : Frame S) (s : State) (k : Frame S → After S) (h : Handler) (hs : List Handler)
        → open_in f.store ≡ h ∷ hs
        → ((st : S) → f.window ≡ None → open_in st ≡ hs → P (k (kept f st))) → P (closed o around here v f k)
    closed_holds P q v f s k h hs e i = outside_holds P q f _ (λ w. some_holds P q (o.closes v f.store) _ (λ st p.
        let c : (j : Handler) × (open_in f.store ≡ j ∷ open_in st) = tracks.closes v f.store st p in
        i st w (heads_are _ _ _ _ (sym c.1 ∙ e))))

    -- the value of a catch, where the trace may be asked for
    caught_holds : (P : After S → Type 0) → P After.bad
        → (dst : Option ℕ) (f : Frame S) (s : State) (c : Class) (r : Term) (k : Frame S → State → After S)
        → f.window ≡ None
        → ((u : State) (q : Outcome Term) → P (finish u q))
        → ((g : Frame S) (u : State) → Eases open_in f s g u → P (k g u))
        → P (go_on (follows o around here dst f (exit_of c r s)) k)
    caught_holds P q dst f s T.throw r k w i j =
        only_then open_in P q f s _ k (put_in dst _ f s f s (eased open_in f s)) j
    caught_holds P q dst f s T.exit r k w i j =
        only_then open_in P q f s _ k (put_in dst _ f s f s (eased open_in f s)) j
    caught_holds P q dst f s T.error r k w i j = asked_for s.replies refl
      where
        asked_for : (rs : List Reply) → rs ≡ s.replies
            → P (go_on (follows o around here dst f
            (going_on (ask_from W.trace rs s)
            (λ t. single (tagged (codes "EXIT") (T.tuple (T.more r (T.more t.term T.none))))))) k)
        asked_for [] e = i s _
        asked_for (t ∷ ts) e = only_then open_in P q f s _ k
            (put_in dst _ f s f (answered W.trace t ts s)
            (uses_eased (record {
              o = o;
              around = around;
              here = here;
              open_in = open_in;
              tracks = tracks;
              f0 = f;
              s0 = s;
            }) f s _ (eased open_in f s) w (answered_uses W.trace t ts s e))) j

    -- Landings.

    rest_after : (ys : List Set) (k : ℕ) (zs : List Set) (f : Frame S) (s : State) (g : Frame S) (u : State)
        (hs : List Handler) → IsTrue (any_op breaks_cycle zs) → open_in g.store ≡ hs → Fits g u
        → From b n x there ys k → At b n x there ys k hs
        → Leaves zs f s (chain_does o around here x.before x.last ys g u)
    rest_after ys k zs f s g u hs t e i h r = chained_landed zs ys f s g u _ t
        (chain_steps b n x there o around here lowers open_in tracks ys k g u h
        (subst (At b n x there ys k) (sym e) r) i)

    catch_steps : (y : Set) (ys : List Set) (e : Raised) (f : Frame S) (s : State) (h : Handler) (hs : List Handler)
        → open_in f.store ≡ h ∷ hs → Reached b (point n 0) hs → Fits f s → From b n x there (y ∷ ys) 0
        → Leaves (y ∷ ys) f s (catches o around here x.before x.last (y ∷ ys) e f s)
    catch_steps y ys e f s h hs p r i from = when_holds (Leaves (y ∷ ys) f s) tt (ends_catch e.tag y) _ (λ t.
        closed_holds (Leaves (y ∷ ys) f s) tt e.tag f s
        (λ g. go_on (follows o around here y.dst g (exit_of e.class e.reason s))
        (chain_does o around here x.before x.last ys)) h hs p (λ st w q.
        caught_holds (Leaves (y ∷ ys) f s) tt y.dst (kept f st) s e.class e.reason
        (chain_does o around here x.before x.last ys) w (λ u z. tt) (λ g u j.
        rest_after ys 1 (y ∷ ys) f s g u hs (first_breaks y ys (catch_breaks y.op (catches_op e.tag y t)))
        (j.handlers ∙ q) (j.fits i) (tail_from b n x there y ys 0 from)
        (subst (At b n x there ys 1) (catch_after y.op hs (catches_op e.tag y t))
        (at_next b n x there y ys 0 hs from r)))))

    -- Three values.

    abbrev third : Set → List Set → Raised → Frame S → State → After S
    third v ys e f s = go_on (put o around here v.dst (term (T.raw_trace e.class)) f s)
        (chain_does o around here x.before x.last ys)

    abbrev second : Set → Set → List Set → Raised → Frame S → State → After S
    second z v ys e f s = go_on (put o around here z.dst (term e.reason) f s) (third v ys e)

    abbrev three : Set → Set → Set → List Set → Raised → Frame S → State → After S
    three y z v ys e f s = closed o around here e.tag f
        (λ g. go_on (put o around here y.dst (term (class_word e.class)) g s) (second z v ys e))

    three_land : (y z v : Set) (ys : List Set) (e : Raised) (f : Frame S) (s : State) (h : Handler) (hs : List Handler)
        → open_in f.store ≡ h ∷ hs → Reached b (point n 0) hs → Fits f s → From b n x there (y ∷ z ∷ v ∷ ys) 0
        → IsTrue (lands e.tag y) → IsTrue (lands e.tag z) → IsTrue (lands e.tag v)
        → Leaves (y ∷ z ∷ v ∷ ys) f s (three y z v ys e f s)
    three_land y z v ys e f s h hs p r i from t1 t2 t3 =
        closed_holds P tt e.tag f s
        (λ g. go_on (put o around here y.dst (term (class_word e.class)) g s) (second z v ys e)) h hs p (λ st w q.
        only_then open_in P tt (kept f st) s (put o around here y.dst (term (class_word e.class)) (kept f st) s)
        (second z v ys e) (put_in y.dst (term (class_word e.class)) (kept f st) s (kept f st) s
        (eased open_in (kept f st) s)) (λ g1 u1 e1.
        only_then open_in P tt (kept f st) s (put o around here z.dst (term e.reason) g1 u1) (third v ys e)
        (put_in z.dst (term e.reason) (kept f st) s g1 u1 e1) (λ g2 u2 e2.
        only_then open_in P tt (kept f st) s (put o around here v.dst (term (T.raw_trace e.class)) g2 u2)
        (chain_does o around here x.before x.last ys)
        (put_in v.dst (term (T.raw_trace e.class)) (kept f st) s g2 u2 e2) (λ g3 u3 e3.
        rest_after ys 3 (y ∷ z ∷ v ∷ ys) f s g3 u3 hs
        (first_breaks y (z ∷ v ∷ ys) (landing_breaks y.op (lands_op e.tag y t1))) (e3.handlers ∙ q)
        (e3.fits i) from3
        (subst (At b n x there ys 3) (landing_after v.op hs (lands_op e.tag v t3))
        (at_next b n x there v ys 2 hs from2 at2))))))
      where
        P : After S → Type 0
        P = Leaves (y ∷ z ∷ v ∷ ys) f s

        from1 : From b n x there (z ∷ v ∷ ys) 1
        from1 = tail_from b n x there y (z ∷ v ∷ ys) 0 from

        from2 : From b n x there (v ∷ ys) 2
        from2 = tail_from b n x there z (v ∷ ys) 1 from1

        from3 : From b n x there ys 3
        from3 = tail_from b n x there v ys 2 from2

        at1 : Reached b (point n 1) hs
        at1 = subst (Reached b (point n 1)) (landing_after y.op hs (lands_op e.tag y t1))
            (at_next b n x there y (z ∷ v ∷ ys) 0 hs from r)

        at2 : Reached b (point n 2) hs
        at2 = subst (Reached b (point n 2)) (landing_after z.op hs (lands_op e.tag z t2))
            (at_next b n x there z (v ∷ ys) 1 hs from1 at1)

    landed_steps : (ys : List Set) (e : Raised) (f : Frame S) (s : State) (h : Handler) (hs : List Handler)
        → open_in f.store ≡ h ∷ hs → Reached b (point n 0) hs → Fits f s → From b n x there ys 0
        → Leaves ys f s (landed o around here x.before x.last ys e f s)
    landed_steps [] e f s h hs p r i from = tt
    landed_steps (y ∷ []) e f s h hs p r i from = catch_steps y [] e f s h hs p r i from
    landed_steps (y ∷ z ∷ []) e f s h hs p r i from = catch_steps y (z ∷ []) e f s h hs p r i from
    landed_steps (y ∷ z ∷ v ∷ ys) e f s h hs p r i from =
        by_first (lands e.tag y && lands e.tag z && lands e.tag v) refl
      where
        by_first : (c : Bool) → (lands e.tag y && lands e.tag z && lands e.tag v) ≡ c
            → Leaves (y ∷ z ∷ v ∷ ys) f s (if c then three y z v ys e f s
            else catches o around here x.before x.last (y ∷ z ∷ v ∷ ys) e f s)
        by_first true t = three_land y z v ys e f s h hs p r i from (and_first _ _ (and_first _ _ t))
            (and_second _ _ (and_first _ _ t)) (and_second _ _ t)
        by_first false t = catch_steps y (z ∷ v ∷ ys) e f s h hs p r i from

    -- From the block's entry.

    at_any : (ys : List Set) (k : ℕ) (hs : List Handler) → Reached b (point n k) hs → At b n x there ys k hs
    at_any [] k hs r = λ t. r
    at_any (y ∷ ys) k hs r = r

    begins_steps : (e : Option Raised) (f : Frame S) (s : State) → Came b n e (open_in f.store) → Fits f s
        → Leaves x.chain f s (begins o around here x e f s)
    begins_steps None f s r i = chain_steps b n x there o around here lowers open_in tracks x.chain 0 f s
        (all_from b n x there) (at_any x.chain 0 _ r) i
    begins_steps (Some e) f s (h, is', p, r) i = landed_steps x.chain e f s h is' p r i (all_from b n x there)

    pub entered_steps : (from : ℕ) (e : Option Raised) (f : Frame S) (s : State) → Came b n e (open_in f.store)
        → Fits f s → Leaves x.chain f s (entered_by o around here from n x e f s)
    entered_steps from e f s r i =
        some_holds (Leaves x.chain f s) tt (o.arrives n f.store)
        (λ st. if_some (phi_values o around here x.phis from (kept f st))
        (λ hs. go_on (put_each o around here hs (kept f st) s) (begins o around here x e))) (λ st p.
        some_holds (Leaves x.chain f s) tt (phi_values o around here x.phis from (kept f st))
        (λ hs. go_on (put_each o around here hs (kept f st) s) (begins o around here x e)) (λ hs q.
        only_then open_in (Leaves x.chain f s) tt f s (put_each o around here hs (kept f st) s)
        (begins o around here x e)
        (puts_only hs f s (kept f st) s
        (record {
          handlers = tracks.arrives n f.store st p;
          fits = λ h. h;
          falls = same refl refl refl refl;
        })) (λ g u j.
        chained_eased x.chain f s g u (begins o around here x e g u) j
        (begins_steps e g u (subst (Came b n e) (sym j.handlers) r) (j.fits i)))))
