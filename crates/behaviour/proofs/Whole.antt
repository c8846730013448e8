-- From functions that are realized to a run that follows, one way, a meaning which the functions' meaning shows.
use Rattle.std.proofs.Common.{◌≡◌, ◌≤◌, ℕ, suc, List, [], ◌∷◌, length, map, Bool, true, false, refl, sym, ap, ◌∙◌, subst, arith}
use Rattle.erl_base.specs.Names.{Name}
use Rattle.erl_term.specs.Term.{Term, Class}
use Rattle.erl_term.specs.Terms.{Values}
use Rattle.world_model.specs.Run as Run
use Rattle.world_model.specs.Run.{Note, State, Outcome, gives, raises, waits, spent, M}
use Rattle.world_model.specs.World.{Reply}
use Rattle.step_machine.specs.Follows.{Meant, Noted, EndsAs, Reaches, Next, OneWay, KeepsTails, LeavesOut, site_list}
use Rattle.step_machine.specs.Steps as Steps
use Rattle.step_machine.specs.Steps.{Event, ends, Ran, ran, over, perform, run, sites, up}
use Rattle.pass_contract.specs.SameRun.{done, if_compared}
use Rattle.pass_contract.specs.PassContract as Pass
use Rattle.pass_contract.specs.PassContract.{IsMeaning}
use Rattle.behaviour.proofs.Realizing.{realized}
use Rattle.behaviour.specs.Realizes.{CostsNoted, Target, Matches, To, Realizes, RunsRealized}
use Rattle.behaviour.specs.FunctionsGiveModule.{Shown, ShowsCosts, SameResultsShow}

abbrev pub meant : State × Outcome Term → Meant
meant r = record { notes = r.0.notes; end = r.1 }

-- What was done settles what a log is compared with.

module _ (A : Type 0) (f : List Note → List A) where
  -- a reading of notes that does not see marks
  pub record Blind : Type 0 where
    pub mark : (x : Run.Marked) (ns : List Note) → f (Run.marked x ∷ ns) ≡ f ns
    pub begin : (o : _) (ns : List Note) → f (Run.began o ∷ ns) ≡ f ns

  pub unseen : Blind → (b : Bool) (n : Note) → ((ns : List Note) → f (n ∷ ns) ≡ f ns) → (ns : List Note)
      → f (if_compared b n ns) ≡ f ns
  unseen h true n e ns = e ns
  unseen h false n e ns = refl

happenings_blind : Blind _ Run.happenings
happenings_blind = record { mark = λ x ns. refl; begin = λ o ns. refl }

entries_blind : Blind _ Run.entries
entries_blind = record { mark = λ x ns. refl; begin = λ o ns. refl }

looks_blind : Blind _ Run.looks
looks_blind = record { mark = λ x ns. refl; begin = λ o ns. refl }

module _ (b : Bool) where
  happened_done : (ns : List Note) → Run.happenings (done b ns) ≡ Run.happenings ns
  happened_done [] = refl
  happened_done (Run.happened h ∷ ns) = ap (λ l. h ∷ l) (happened_done ns)
  happened_done (Run.entered e ∷ ns) = happened_done ns
  happened_done (Run.looked l ∷ ns) = happened_done ns
  happened_done (Run.marked x ∷ ns) = unseen _ Run.happenings happenings_blind b (Run.marked x)
      (happenings_blind.mark x) (done b ns) ∙ happened_done ns
  happened_done (Run.began o ∷ ns) = unseen _ Run.happenings happenings_blind b (Run.began o)
      (happenings_blind.begin o) (done b ns) ∙ happened_done ns
  happened_done (Run.cut n ∷ ns) = happened_done ns

  entered_done : (ns : List Note) → Run.entries (done b ns) ≡ Run.entries ns
  entered_done [] = refl
  entered_done (Run.happened h ∷ ns) = entered_done ns
  entered_done (Run.entered e ∷ ns) = ap (λ l. e ∷ l) (entered_done ns)
  entered_done (Run.looked l ∷ ns) = entered_done ns
  entered_done (Run.marked x ∷ ns) = unseen _ Run.entries entries_blind b (Run.marked x)
      (entries_blind.mark x) (done b ns) ∙ entered_done ns
  entered_done (Run.began o ∷ ns) = unseen _ Run.entries entries_blind b (Run.began o)
      (entries_blind.begin o) (done b ns) ∙ entered_done ns
  entered_done (Run.cut n ∷ ns) = entered_done ns

  looked_done : (ns : List Note) → Run.looks (done b ns) ≡ Run.looks ns
  looked_done [] = refl
  looked_done (Run.happened h ∷ ns) = looked_done ns
  looked_done (Run.entered e ∷ ns) = looked_done ns
  looked_done (Run.looked l ∷ ns) = ap (λ z. l ∷ z) (looked_done ns)
  looked_done (Run.marked x ∷ ns) = unseen _ Run.looks looks_blind b (Run.marked x)
      (looks_blind.mark x) (done b ns) ∙ looked_done ns
  looked_done (Run.began o ∷ ns) = unseen _ Run.looks looks_blind b (Run.began o)
      (looks_blind.begin o) (done b ns) ∙ looked_done ns
  looked_done (Run.cut n ∷ ns) = looked_done ns

  noted_as_done : (ns ms : List Note) (log : List Event) → done b ms ≡ done b ns → Noted ms log → Noted ns log
  noted_as_done ns ms log e w =
      let h : Run.happenings ms ≡ Run.happenings ns =
      sym (happened_done ms) ∙ ap Run.happenings e ∙ happened_done ns in
      let i : Run.entries ms ≡ Run.entries ns = sym (entered_done ms) ∙ ap Run.entries e ∙ entered_done ns in
      let l : Run.looks ms ≡ Run.looks ns = sym (looked_done ms) ∙ ap Run.looks e ∙ looked_done ns in
      record {
        happened = w.happened ∙ h;
        entered = w.entered ∙ ap site_list i;
        tails = subst (λ z. KeepsTails z (Steps.entries log)) i w.tails;
        looked = subst (λ z. LeavesOut z (Steps.serials log)) l w.looked;
      }

  costs_as_done : (ns ms : List Note) (log : List Event) → done b ms ≡ done b ns
      → Run.sub_binaries ms ≤ Run.sub_binaries ns → CostsNoted ms log → CostsNoted ns log
  costs_as_done ns ms log e l w = record {
    looked = w.looked
        ∙ ap (λ z. map (λ x. x.serial) z) (sym (looked_done ms) ∙ ap Run.looks e ∙ looked_done ns);
    subs = omega (arith, w.subs, l);
  }

pub same_results_show : SameResultsShow
same_results_show w old new h = (
  record {
    noted = λ log z. noted_as_done w.marks old.0.notes new.0.notes log h.state.done z;
    end = h.end;
  },
  λ c log z. costs_as_done w.marks old.0.notes new.0.notes log h.state.done (h.state.sub_binaries c) z,
)

pub shown_itself : (r : State × Outcome Term) → Shown r r
shown_itself r = record { noted = λ log z. z; end = refl }

-- One way.

module _ (t : Target) (name : Name) (own : Term) (runs : ℕ → Pass.Run) (meaning : ℕ → ℕ → Values → M Term)
    (h : RunsRealized t name own runs) (means : IsMeaning name own runs meaning)
    (bottom : t.above)
    (ret : (x : Term) (m : t.state) → t.returns bottom x m ≡ ends (gives x))
    (unw : (c : Class) (x : Term) (m : t.state) → t.unwinds bottom c x m ≡ ends (raises c x))
    (site : ℕ) (vs : Values) (m0 : t.state) (rs0 : List Reply) (at : t.at_entry site vs bottom m0)
    (start : ℕ → State) (left_is : (n : ℕ) → (start n).left ≡ n)
    (begins : (n : ℕ) → Matches t (start n) m0 rs0 []) where
  abbrev ran_to : ℕ → Ran
  ran_to k = run t.step k m0 rs0 []

  abbrev Reached : State × Outcome Term → Type 0
  Reached r =
      (k : ℕ) × Reaches (ran_to k) (meant r) × Next ran_to k (meant r).end × CostsNoted r.0.notes (ran_to k).log

  over_at : (s : State) (x : t.state → Steps.Stepped t.state) (o : Outcome Term) (w : To t m0 rs0 [] s x)
      → x w.state ≡ ends o → ran_to (up w.comes.steps 1) ≡ ran w.log' (over o)
  unfolding run
  over_at s x o w e = w.comes.then_same 0 ∙ ap (λ y. perform y (run t.step 0) w.rs' w.log') e

  reaches_with : (r r' : Ran) (e : Meant) → r ≡ r' → Noted e.notes r'.log → EndsAs r'.end e.end → Reaches r e
  reaches_with r r' e p n x = record {
    noted = subst (λ z. Noted e.notes z.log) (sym p) n;
    end = subst (λ z. EndsAs z.end e.end) (sym p) x;
  }

  costs_with : (r r' : Ran) (ns : List Note) → r ≡ r' → CostsNoted ns r'.log → CostsNoted ns r.log
  costs_with r r' ns p n = subst (λ z. CostsNoted ns z.log) (sym p) n

  -- where the step that the run comes to ends it
  ended : (s : State) (x : t.state → Steps.Stepped t.state) (o : Outcome Term) (w : To t m0 rs0 [] s x)
      → x w.state ≡ ends o → EndsAs (over o) o → Next ran_to (up w.comes.steps 1) o → Reached (s, o)
  ended s x o w e z y = (
    up w.comes.steps 1,
    reaches_with _ _ _ (over_at s x o w e) w.matches.noted z,
    y,
    costs_with _ _ _ (over_at s x o w e) w.matches.costs,
  )

  reached : (r : State × Outcome Term) → Realizes t bottom m0 rs0 [] r → Reached r
  reached (s, gives ws) w = ended s (t.returns bottom ws) (gives ws) w (ret _ _) refl tt
  reached (s, raises c x) w = ended s (t.unwinds bottom c x) (raises c x) w (unw _ _ _) refl tt
  reached (s, waits q) w = ended s (λ _. ends (waits q)) (waits q) w refl refl tt
  reached (s, spent) w = (
    w.steps,
    reaches_with _ _ _ w.stops w.noted refl,
    (w.site, w.enters ∙ ap (λ l. w.site ∷ l) (sym (ap (λ r. sites r.log) w.stops))),
    costs_with _ _ _ w.stops w.costs,
  )

  as_old : (q r : State × Outcome Term) → Shown q r → (w : Reached r) → Reaches (ran_to w.0) (meant q)
  as_old q r e w = record {
    noted = e.noted (ran_to w.0).log w.1.noted;
    end = subst (λ o. EndsAs (ran_to w.0).end o) e.end w.1.end;
  }

  module _ (old : ℕ → State × Outcome Term) (shown : (n : ℕ) → Shown (old n) (meaning (suc n) site vs (start n)))
      (bounded : (n : ℕ) → length (site_list (Run.entries (old n).0.notes)) ≤ n)
      (met : (n : ℕ) → (old n).1 ≡ spent → length (site_list (Run.entries (old n).0.notes)) ≡ n) where
    comes_to : (n : ℕ) → Reached (meaning (suc n) site vs (start n))
    comes_to n = reached (meaning (suc n) site vs (start n))
        (realized t name own runs meaning h means (suc n) site vs bottom m0 rs0 [] (start n)
        (omega (arith, left_is n)) at (begins n))

    pub one_way : OneWay (λ k. run t.step k m0 rs0 []) (λ n. meant (old n))
    one_way = record {
      reaches = λ n. (
        (comes_to n).0,
        as_old (old n) (meaning (suc n) site vs (start n)) (shown n) (comes_to n),
        subst (λ o. Next ran_to (comes_to n).0 o) (shown n).end (comes_to n).2,
      );
      bounded = bounded;
      met = met;
    }

    pub cheap_way : ((n : ℕ) → ShowsCosts (old n) (meaning (suc n) site vs (start n)))
        → (n : ℕ) → (k : ℕ) × Reaches (ran_to k) (meant (old n)) × CostsNoted (old n).0.notes (ran_to k).log
    cheap_way c n = (
      (comes_to n).0,
      as_old (old n) (meaning (suc n) site vs (start n)) (shown n) (comes_to n),
      c n (ran_to (comes_to n).0).log (comes_to n).3,
    )

pub length_sites : (es : List Run.Entry) → length (site_list es) ≡ length es
length_sites [] = refl
length_sites (e ∷ es) = ap suc (length_sites es)
