-- Under the cycle rule a run is over after some blocks: each time that it comes back to a block, its rank is lower.
use Rattle.std.proofs.Common.{◌≡◌, ◌≢◌, ◌≤◌, ◌⊎◌, inl, inr, ⊎_elim, ℕ, zero, suc, List, [], ◌∷◌, ◌++◌, length, Bool, true, false, ◌||◌, refl, sym, ap, subst, ◌∙◌, arith, IsTrue, IsFalse}
use Rattle.std.proofs.lemmas.Option.{slice_get_past}
use Rattle.step_machine.specs.Bodies.{Here}
use Rattle.step_machine.specs.EntryBound.{Lowers}
use Rattle.ssa_form.specs.Ssa.{Op, Body, block_at, or_none}
use Rattle.ssa_form.specs.Storage.{Handler, Storage, Ended, unfinished, Around}
use Rattle.ssa_form.specs.SetFacts.{is_peek, breaks_cycle}
use Rattle.ssa_form.specs.Flow.{Passing, one, more}
use Rattle.ssa_form.specs.WellFormed.{block_has, any_has, KeepsCycle, CycleRule}
use Rattle.ssa_form.specs.SsaRun.{block_does, blocks}
use Rattle.ssa_form.proofs.Rank.{Rank, Lower, then_most, most_then, most_twice, by_rank, rank}
use Rattle.ssa_form.proofs.OpenHandlers.{Tracks}
use Rattle.ssa_form.proofs.Turns.{Config, over_and, Good, Goes, Turn, ends, turns, turn}

-- Blocks of one way after another.

passing_twice : (b : Body) (n m l : ℕ) (ns ms : List ℕ) → Passing b n m ns → Passing b m l ms → Passing b n l (ns ++ ms)
passing_twice b _ _ l _ ms (one n m h) p = more n m l ms h p
passing_twice b _ _ l _ ms (more n m k ns h q) p = more n m l (ns ++ ms) h (passing_twice b m k l ns ms q p)

split_or : (a b : Bool) → IsFalse (a || b) → IsFalse a × IsFalse b
split_or true b e = absurd cc
split_or false b e = (refl, e)

or_split : (a b c : Bool) → ((a || b) || c) ≡ (a || (b || c))
or_split true b c = refl
or_split false b c = refl

has_twice : (f : Op → Bool) (b : Body) (ns ms : List ℕ) → any_has f b (ns ++ ms) ≡ (any_has f b ns || any_has f b ms)
has_twice f b [] ms = refl
has_twice f b (n ∷ ns) ms = ap (λ x. block_has f (block_at b n) || x) (has_twice f b ns ms)
    ∙ sym (or_split (block_has f (block_at b n)) (any_has f b ns) (any_has f b ms))

first_passed : (f : Op → Bool) (b : Body) (n m : ℕ) (ns : List ℕ) → Passing b n m ns → IsFalse (any_has f b ns)
    → IsFalse (block_has f (block_at b n))
first_passed f b _ _ _ (one n m h) e = (split_or _ _ e).0
first_passed f b _ _ _ (more n m l ns h p) e = (split_or _ _ e).0

over_twice : (i j k : ℕ) → over_and (over_and i j) k ≡ over_and i (over_and j k)
over_twice zero j k = refl
over_twice (suc i) j k = ap suc (over_twice i j k)

less_or_same : (a b : ℕ) → a ≤ b → (suc a ≤ b) ⊎ (a ≡ b)
less_or_same zero zero l = inr refl
less_or_same zero (suc b) l = inl (omega arith)
less_or_same (suc a) zero l = inr (omega (arith, l))
less_or_same (suc a) (suc b) l =
    ⊎_elim (λ h. inl (omega (arith, h))) (λ e. inr (omega (arith, e))) (less_or_same a b (omega (arith, l)))

module _ {S : Type 0} (o : Storage S) (around : Around) (here : Here) (lowers : Lowers here.enter)
    (open_in : S → List Handler) (tracks : Tracks o open_in) (b : Body) where
  abbrev Goes' : Config S → Config S → Type 0
  Goes' c d = Goes o around here lowers open_in tracks b c d

  abbrev Good' : Config S → Type 0
  Good' c = Good o around here lowers open_in tracks b c

  abbrev run : ℕ → Config S → Ended
  run k c = blocks o around here b k c.raised c.from c.at c.frame c.state

  goes_twice : (c d e : Config S) → Goes' c d → Goes' d e → Goes' c e
  goes_twice c d e p q = record {
    through = p.through ++ q.through;
    passing = passing_twice b c.at d.at e.at p.through q.through p.passing q.passing;
    falls = λ r h. let s : IsFalse (any_has breaks_cycle b p.through) × IsFalse (any_has breaks_cycle b q.through) =
        parts r in
        most_twice _ _ _ (q.falls s.1 h) (p.falls s.0 (first_passed breaks_cycle b d.at e.at q.through q.passing s.1));
    looks = λ r h t. let s : IsFalse (any_has breaks_cycle b p.through) × IsFalse (any_has breaks_cycle b q.through) =
        parts r in
        by_look s h (any_has is_peek b p.through) refl t;
  }
    where
      parts : IsFalse (any_has breaks_cycle b (p.through ++ q.through)) → IsFalse (any_has breaks_cycle b p.through)
          × IsFalse (any_has breaks_cycle b q.through)
      parts r = split_or _ _ (sym (has_twice breaks_cycle b p.through q.through) ∙ r)

      second : (a z : Bool) → a ≡ false → (a || z) ≡ true → z ≡ true
      second true z f g = absurd cc
      second false z f g = g

      by_look : IsFalse (any_has breaks_cycle b p.through) × IsFalse (any_has breaks_cycle b q.through)
          → IsFalse (block_has breaks_cycle (block_at b e.at)) → (a : Bool) → any_has is_peek b p.through ≡ a
          → IsTrue (any_has is_peek b (p.through ++ q.through)) → Lower (rank e.frame e.state) (rank c.frame c.state)
      by_look s h true i t = most_then _ _ _ (q.falls s.1 h)
          (p.looks s.0 (first_passed breaks_cycle b d.at e.at q.through q.passing s.1) i)
      by_look s h false i t = then_most _ _ _
          (q.looks s.1 h (second _ _ i (sym (has_twice is_peek b p.through q.through) ∙ t)))
          (p.falls s.0 (first_passed breaks_cycle b d.at e.at q.through q.passing s.1))

  -- A run is over, or stands before a block with a number of at least a.
  data Reach (a : ℕ) (c : Config S) : Type 0 where
    is_over : (j : ℕ) (r : Ended) → ((k : ℕ) → run (over_and j k) c ≡ r) → r ≢ unfinished → Reach a c
    stays : a ≤ c.at → Reach a c
    comes : (d : Config S) (j : ℕ) → ((k : ℕ) → run (over_and j k) c ≡ run k d) → Good' d → Goes' c d
        → a ≤ d.at → Reach a c

  reach_after : (a : ℕ) (c d : Config S) (i : ℕ) → ((k : ℕ) → run (over_and i k) c ≡ run k d) → Good' d → Goes' c d
      → Reach a d → Reach a c
  reach_after a c d i h g p (is_over j r q u) = is_over (over_and i j) r
      (λ k. ap (λ n. run n c) (over_twice i j k) ∙ h (over_and j k) ∙ q k) u
  reach_after a c d i h g p (stays l) = comes d i h g p l
  reach_after a c d i h g p (comes e j q f r l) = comes e (over_and i j)
      (λ k. ap (λ n. run n c) (over_twice i j k) ∙ h (over_and j k) ∙ q k) f (goes_twice c d e p r) l

  module _ (rule : CycleRule b) where
    cycle_falls : (c d : Config S) → Goes' c d → c.at ≡ d.at → Lower (rank d.frame d.state) (rank c.frame c.state)
    cycle_falls c d p e = p.looks keeps.goes_on
        (subst (λ n. IsFalse (block_has breaks_cycle (block_at b n))) e
        (first_passed breaks_cycle b c.at d.at p.through p.passing keeps.goes_on)) keeps.looks
      where
        keeps : KeepsCycle b p.through
        keeps = rule c.at p.through (subst (λ n. Passing b c.at n p.through) (sym e) p.passing)

    module _ (a : ℕ) (below : (c : Config S) → Good' c → Reach a c) where
      abbrev Loops : Rank → Type 0
      Loops r = (c : Config S) → Good' c → rank c.frame c.state ≡ r → c.at ≡ a → Reach (suc a) c

      behind : (r : Rank) → ((q : Rank) → Lower q r → Loops q) → (c : Config S) → rank c.frame c.state ≡ r → c.at ≡ a
          → (d : Config S) (j : ℕ) → ((k : ℕ) → run (over_and j k) c ≡ run k d) → Good' d → Goes' c d → a ≤ d.at
          → Reach (suc a) c
      behind r ih c e at d j h g p l = ⊎_elim
          (λ m. comes d j h g p m)
          (λ q. reach_after (suc a) c d j h g p
          (ih (rank d.frame d.state) (subst (Lower (rank d.frame d.state)) e (cycle_falls c d p (at ∙ q))) d g refl
          (sym q)))
          (less_or_same a d.at l)

      next : (r : Rank) → ((q : Rank) → Lower q r → Loops q) → (c : Config S) → rank c.frame c.state ≡ r → c.at ≡ a
          → (d : Config S) → ((k : ℕ) → run (suc k) c ≡ run k d) → Good' d → Goes' c d → Reach a d → Reach (suc a) c
      next r ih c e at d h g p (is_over j q i u) = is_over (suc j) q (λ k. h (over_and j k) ∙ i k) u
      next r ih c e at d h g p (stays l) = behind r ih c e at d 1 h g p l
      next r ih c e at d h g p (comes f j i k m l) =
          behind r ih c e at f (suc j) (λ n. h (over_and j n) ∙ i n) k (goes_twice c d f p m) l

      looped : (r : Rank) → ((q : Rank) → Lower q r → Loops q) → Loops r
      looped r ih c g e at = by_turn (turn o around here lowers open_in tracks b c g)
        where
          by_turn : Turn o around here lowers open_in tracks b c → Reach (suc a) c
          by_turn (ends j q h u) = is_over j q h u
          by_turn (turns d h i p) = next r ih c e at d h i p (below d i)

      loops : (c : Config S) → Good' c → c.at ≡ a → Reach (suc a) c
      loops c g at = by_rank Loops looped (rank c.frame c.state) c g refl at

      further : (c : Config S) → Good' c → Reach a c → Reach (suc a) c
      further c g (is_over j r h u) = is_over j r h u
      further c g (stays l) = ⊎_elim (λ m. stays m) (λ q. loops c g (sym q)) (less_or_same a c.at l)
      further c g (comes d j h i p l) = ⊎_elim (λ m. comes d j h i p m)
          (λ q. reach_after (suc a) c d j h i p (loops d i (sym q))) (less_or_same a d.at l)

    reach : (a : ℕ) (c : Config S) → Good' c → Reach a c
    reach zero c g = stays (omega arith)
    reach (suc a) c g = further a (reach a) c g (reach a c g)

    past_all : (c : Config S) (k : ℕ) → length b.blocks ≤ c.at → run (suc k) c ≡ Ended.bad
    unfolding blocks
    past_all c k l = ap (λ y. block_does o around here (or_none y)
        (blocks o around here b k) c.raised c.from c.at c.frame c.state) (slice_get_past b.blocks c.at l)

    bad_over : (r : Ended) → r ≡ Ended.bad → r ≢ unfinished
    bad_over r e f = let g : Ended.bad ≡ unfinished = sym e ∙ f in cc

    pub is_over_soon : (c : Config S) → Good' c → (k : ℕ) × (run k c ≢ unfinished)
    is_over_soon c g = by_reach (reach (length b.blocks) c g)
      where
        by_reach : Reach (length b.blocks) c → (k : ℕ) × (run k c ≢ unfinished)
        by_reach (is_over j r h u) = (over_and j 0, λ e. u (sym (h 0) ∙ e))
        by_reach (stays l) = (1, bad_over _ (past_all c 0 l))
        by_reach (comes d j h i p l) = (over_and j 1, bad_over _ (h 1 ∙ past_all d 0 l))
