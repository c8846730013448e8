-- One way suffices: a machine whose runs reach what a meaning gives with each bound follows it both ways.
use Rattle.std.proofs.Common.{◌≡◌, ◌≢◌, ◌≤◌, ◌<◌, ◌⊎◌, inl, inr, ⊎_elim, ℕ, zero, suc, List, [], ◌∷◌, ◌++◌, length, refl, sym, ap, ◌∙◌, subst, arith, append_assoc, length-append}
use Rattle.erl_term.specs.Term.{Term}
use Rattle.world_model.specs.Run as Run
use Rattle.world_model.specs.Run.{Entry, Outcome, gives, raises, waits, spent}
use Rattle.world_model.specs.World.{Reply, asked}
use Rattle.step_machine.specs.Follows.{Meant, EndsAs, IsSuffix, Follows, Next, OneWay, site_list}
use Rattle.step_machine.specs.RunFacts.{Later}
use Rattle.step_machine.specs.Steps.{Event, happened, entered, Stepped, goes, ends, bad, notes, asks, End, over, unfinished, is_bad, Ran, perform, run, happenings, sites}

later_trans : (a b c : List Event) → Later a b → Later b c → Later a c
later_trans a b c (f, p) (g, q) = (g ++ f, q ∙ ap (λ l. g ++ l) p ∙ sym (append_assoc g f a))

-- the second run is the first, or goes on from it
abbrev pub Once : Ran → Ran → Type 0
Once r s = (s ≡ r) ⊎ ((r.end ≡ unfinished) × Later r.log s.log)

pub once_trans : (a b c : Ran) → Once a b → Once b c → Once a c
once_trans a b c (inl p) (inl q) = inl (q ∙ p)
once_trans a b c (inl p) (inr q) = inr (subst (λ r. (r.end ≡ unfinished) × Later r.log c.log) p q)
once_trans a b c (inr p) (inl q) = inr (subst (λ r. (a.end ≡ unfinished) × Later a.log r.log) (sym q) p)
once_trans a b c (inr p) (inr q) = inr (p.0, later_trans a.log b.log c.log p.1 q.1)

module _ {S : Type 0} (step : S → Stepped S) where
  pub perform_grows : (s : Stepped S) (f : S → List Reply → List Event → Ran)
      → ((m : S) (rs : List Reply) (log : List Event) → Later log (f m rs log).log)
      → (rs : List Reply) (log : List Event) → Later log (perform s f rs log).log
  perform_grows (goes m) f h rs log = h m rs log
  perform_grows (ends o) f h rs log = ([], refl)
  perform_grows bad f h rs log = ([], refl)
  perform_grows (notes n s) f h rs log = later_trans log (n ∷ log) _ (n ∷ [], refl) (perform_grows s f h rs (n ∷ log))
  perform_grows (asks q a) f h [] log = ([], refl)
  perform_grows (asks q a) f h (r ∷ rs) log =
      later_trans log _ _ (happened (asked q r) ∷ [], refl) (perform_grows (a r) f h rs _)

  perform_once : (s : Stepped S) (f g : S → List Reply → List Event → Ran)
      → ((m : S) (rs : List Reply) (log : List Event) → Once (f m rs log) (g m rs log))
      → (rs : List Reply) (log : List Event) → Once (perform s f rs log) (perform s g rs log)
  perform_once (goes m) f g h rs log = h m rs log
  perform_once (ends o) f g h rs log = inl refl
  perform_once bad f g h rs log = inl refl
  perform_once (notes n s) f g h rs log = perform_once s f g h rs (n ∷ log)
  perform_once (asks q a) f g h [] log = inl refl
  perform_once (asks q a) f g h (r ∷ rs) log = perform_once (a r) f g h rs _

  pub run_once : (k : ℕ) (m : S) (rs : List Reply) (log : List Event)
      → Once (run step k m rs log) (run step (suc k) m rs log)
  unfolding run
  run_once zero m rs log = inr (refl, perform_grows (step m) (run step zero) (λ n ss l. ([], refl)) rs log)
  run_once (suc k) m rs log = perform_once (step m) (run step k) (run step (suc k)) (run_once k) rs log

no_front : (f l : List ℕ) (n : ℕ) → length (f ++ l) ≤ n → length l ≡ n → f ≡ []
no_front [] l n h e = refl
no_front (x ∷ f) l n h e = absurd (omega (arith, length-append f l, h, e))

pub happenings-append : (a b : List Event) → happenings (a ++ b) ≡ happenings a ++ happenings b
happenings-append [] b = refl
happenings-append (happened h ∷ a) b = ap (λ l. h ∷ l) (happenings-append a b)
happenings-append (_ ∷ a) b = happenings-append a b

pub sites-append : (a b : List Event) → sites (a ++ b) ≡ sites a ++ sites b
sites-append [] b = refl
sites-append (entered e ∷ a) b = ap (λ l. e.site ∷ l) (sites-append a b)
sites-append (_ ∷ a) b = sites-append a b

module _ (R : ℕ → Ran) (E : ℕ → Meant) (once : (k : ℕ) → Once (R k) (R (suc k))) (way : OneWay R E) where
  far : (k j : ℕ) → k ≤ j → Once (R k) (R j)
  far k zero le = inl (ap R (omega (arith, le)))
  far k (suc j) le = ⊎_elim (λ l. once_trans _ _ _ (far k j l) (once j)) (λ e. inl (ap R e)) (split k j le)
    where
      split : (a b : ℕ) → a ≤ suc b → (a ≤ b) ⊎ (suc b ≡ a)
      split zero b l = inl (omega arith)
      split (suc a) zero l = inr (omega (arith, l))
      split (suc a) (suc b) l =
          ⊎_elim (λ h. inl (omega (arith, h))) (λ e. inr (omega (arith, e))) (split a b (omega (arith, l)))

  order : (a b : ℕ) → (a ≤ b) ⊎ (b < a)
  order zero b = inl (omega arith)
  order (suc a) zero = inr (omega arith)
  order (suc a) (suc b) = ⊎_elim (λ h. inl (omega (arith, h))) (λ h. inr (omega (arith, h))) (order a b)

  count : ℕ → ℕ
  count k = length (sites (R k).log)

  at : ℕ → ℕ
  at k = (way.reaches (count k)).0

  more_sites : (a b : Ran) → Once a b → length (sites a.log) ≤ length (sites b.log)
  more_sites a b (inl e) = omega (arith, ap (λ r. length (sites r.log)) e)
  more_sites a b (inr h) = omega (
    arith,
    ap (λ l. length (sites l)) h.1.1 ∙ ap length (sites-append h.1.0 a.log)
        ∙ length-append (sites h.1.0) (sites a.log),
  )

  -- a run that goes on past a spent meaning has entered once more
  not_past : (k : ℕ) → at k < k → (R (at k)).end ≡ unfinished → ⊥
  unfolding at count
  not_past k lt e = go (E (count k)).end refl way-ends way-next
    where
      way-ends : EndsAs (R (at k)).end (E (count k)).end
      way-ends = (way.reaches (count k)).1.end

      way-next : Next R (at k) (E (count k)).end
      way-next = (way.reaches (count k)).2

      go : (o : Outcome Term) → (E (count k)).end ≡ o → EndsAs (R (at k)).end o → Next R (at k) o → ⊥
      go (gives t) p h n = let d : over (gives t) ≡ unfinished = sym h ∙ e in cc
      go (raises c r) p h n = let d : over (raises c r) ≡ unfinished = sym h ∙ e in cc
      go (waits q) p h n = let d : over (waits q) ≡ unfinished = sym h ∙ e in cc
      go spent p h n =
          let a = more_sites (R (suc (at k))) (R k) (far (suc (at k)) k lt) in
          let b = ap length n.1 in
          let c = ap length (way.reaches (count k)).1.noted.entered in
          let d = way.met (count k) p in
          omega (arith, a, b, c, d)

  core : (k : ℕ) → Once (R k) (R (at k))
  core k = ⊎_elim (λ l. far k (at k) l)
      (λ l. ⊎_elim (λ e. inl (sym e)) (λ h. absurd (not_past k l h.0)) (far (at k) k (omega (arith, l))))
      (order k (at k))

  meant : ℕ → List Run.Note
  meant k = (E (count k)).notes

  within_of : (k : ℕ) → Once (R k) (R (at k)) → IsSuffix (happenings (R k).log) (Run.happenings (meant k))
      × (sites (R k).log ≡ site_list (Run.entries (meant k)))
  unfolding at count meant
  within_of k (inl e) =
      let w = (way.reaches (count k)).1.noted in
      (([], sym w.happened ∙ ap (λ r. happenings r.log) e), sym (ap (λ r. sites r.log) e) ∙ w.entered)
  within_of k (inr h) =
      let w = (way.reaches (count k)).1.noted in
      let s : sites (R (at k)).log ≡ sites h.1.0 ++ sites (R k).log = ap sites h.1.1 ∙ sites-append h.1.0 (R k).log in
      let l : length (sites h.1.0 ++ sites (R k).log) ≤ count k =
      subst (λ z. length z ≤ count k) (sym w.entered ∙ s) (way.bounded (count k)) in
      let f : sites h.1.0 ≡ [] = no_front (sites h.1.0) (sites (R k).log) (count k) l refl in (
        (happenings h.1.0, sym w.happened ∙ ap happenings h.1.1 ∙ happenings-append h.1.0 (R k).log),
        sym (ap (λ z. z ++ sites (R k).log) f) ∙ sym s ∙ w.entered,
      )

  same_end : (e : End) (o p : Outcome Term) → EndsAs e o → e ≡ over p → o ≡ p
  same_end e (gives t) p h q = let d : over (gives t) ≡ over p = sym h ∙ q in cc
  same_end e (raises c r) p h q = let d : over (raises c r) ≡ over p = sym h ∙ q in cc
  same_end e (waits t) p h q = let d : over (waits t) ≡ over p = sym h ∙ q in cc
  same_end e spent p h q = let d : unfinished ≡ over p = sym h ∙ q in absurd cc

  bad_end : (e : End) (o : Outcome Term) → EndsAs e o → e ≡ is_bad → ⊥
  bad_end e (gives t) h q = let d : over (gives t) ≡ is_bad = sym h ∙ q in cc
  bad_end e (raises c r) h q = let d : over (raises c r) ≡ is_bad = sym h ∙ q in cc
  bad_end e (waits t) h q = let d : over (waits t) ≡ is_bad = sym h ∙ q in cc
  bad_end e spent h q = let d : unfinished ≡ is_bad = sym h ∙ q in cc

  ends_of : (k : ℕ) (o : Outcome Term) → (R k).end ≡ over o → Once (R k) (R (at k))
      → (happenings (R k).log ≡ Run.happenings (meant k)) × ((E (count k)).end ≡ o)
  unfolding at count meant
  ends_of k o q (inl e) =
      let w = (way.reaches (count k)).1 in
      (sym (ap (λ r. happenings r.log) e) ∙ w.noted.happened, same_end _ _ o w.end (ap (λ r. r.end) e ∙ q))
  ends_of k o q (inr h) = let d : unfinished ≡ over o = sym h.0 ∙ q in absurd cc

  never_of : (k : ℕ) → Once (R k) (R (at k)) → (R k).end ≢ is_bad
  unfolding at count
  never_of k (inl e) q = bad_end _ _ (way.reaches (count k)).1.end (ap (λ r. r.end) e ∙ q)
  never_of k (inr h) q = let d : unfinished ≡ is_bad = sym h.0 ∙ q in cc

  pub both_ways : Follows R E
  unfolding at count meant
  both_ways = record {
    reaches = λ n. let w = way.reaches n in (w.0, w.1);
    within = λ k. within_of k (core k);
    ends = λ k o q. ends_of k o q (core k);
    never_bad = λ k. never_of k (core k);
  }
