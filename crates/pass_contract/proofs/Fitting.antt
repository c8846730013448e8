-- Functions entered with another number of terms than they have parameters agree, refine and are proper by themselves.
use Rattle.std.proofs.Common.{◌≡◌, ℕ, Bool, true, false, eqb, length, Some, refl, sym, subst, if◌then◌else◌}
use Rattle.std.proofs.lemmas.Bool.{eqb-true}
use Rattle.erl_base.specs.Names.{Name}
use Rattle.erl_term.specs.Term.{Term}
use Rattle.erl_term.specs.Terms.{Values}
use Rattle.world_model.specs.Run.{State, Outcome, M}
use Rattle.step_machine.specs.Bodies.{Here, here_of}
use Rattle.pass_contract.specs.SameRun.{Compared, SameState, SameResult}
use Rattle.pass_contract.specs.Lawful.{Lawful, IsLawful}
use Rattle.pass_contract.specs.PassContract.{Run, undef, fitting, ComesTo, IsProper, GivesSame, FittingSuffices}
use Rattle.pass_contract.proofs.Modules.{lawful_itself}

-- with as many terms, and with another number
abbrev by_number : Bool → Run → Run
by_number b run here vs s k = if b then run here vs s k else Some (s, undef)

some_is : (a b : State × Outcome Term) → Some a ≡ Some b → a ≡ b
some_is a b i = cc

module _ (n : ℕ) (run : Run) (here : Here) (vs : Values) (s : State) (r : State × Outcome Term) where
  -- what comes of it, either way
  fits : eqb (length vs) n ≡ true → ComesTo run here vs s r → ComesTo (fitting n run) here vs s r
  fits e c = record {
    within = c.within;
    gives = subst (λ b. by_number b run here vs s c.within ≡ Some r) (sym e) c.gives;
  }

  fitted : eqb (length vs) n ≡ true → ComesTo (fitting n run) here vs s r → ComesTo run here vs s r
  fitted e c = record {
    within = c.within;
    gives = subst (λ b. by_number b run here vs s c.within ≡ Some r) e c.gives;
  }

  refused : eqb (length vs) n ≡ false → ComesTo (fitting n run) here vs s r → (s, undef) ≡ r
  refused e c = some_is (s, undef) r (subst (λ b. by_number b run here vs s c.within ≡ Some r) e c.gives)

refuses : (n : ℕ) (run : Run) (here : Here) (vs : Values) (s : State) → eqb (length vs) n ≡ false
    → ComesTo (fitting n run) here vs s (s, undef)
refuses n run here vs s e = record {
  within = 0;
  gives = subst (λ b. by_number b run here vs s 0 ≡ Some (s, undef)) (sym e) refl;
}

agree_so : (w : Compared) (n : ℕ) (old new : Run) (name : Name) (own : Term) (f g : ℕ → Values → M Term) (vs : Values)
    (s t : State) → SameState w s t → (r : State × Outcome Term)
    → (length vs ≡ n → ComesTo old (here_of name own f) vs s r → GivesSame w new (here_of name own g) vs t r)
    → ComesTo (fitting n old) (here_of name own f) vs s r
    → GivesSame w (fitting n new) (here_of name own g) vs t r
agree_so w n old new name own f g vs s t p r h c = by (eqb (length vs) n) refl
  where
    by : (b : Bool) → eqb (length vs) n ≡ b → GivesSame w (fitting n new) (here_of name own g) vs t r
    by true e = let z : GivesSame w new (here_of name own g) vs t r =
        h (eqb-true (length vs) n e) (fitted n old (here_of name own f) vs s r e c) in record {
          result = z.result;
          gives = fits n new (here_of name own g) vs t z.result e z.gives;
          same = z.same;
        }
    by false e = record {
      result = (t, undef);
      gives = refuses n new (here_of name own g) vs t e;
      same = subst (λ z. SameResult w z (t, undef)) (refused n old (here_of name own f) vs s r e c)
          (record { state = p; end = refl });
    }

refine_so : (n : ℕ) (old new : Run) (here : Here) (vs : Values) (s : State) (r : State × Outcome Term)
    → (length vs ≡ n → ComesTo old here vs s r → ComesTo new here vs s r)
    → ComesTo (fitting n old) here vs s r → ComesTo (fitting n new) here vs s r
refine_so n old new here vs s r h c = by (eqb (length vs) n) refl
  where
    by : (b : Bool) → eqb (length vs) n ≡ b → ComesTo (fitting n new) here vs s r
    by true e = fits n new here vs s r e (h (eqb-true (length vs) n e) (fitted n old here vs s r e c))
    by false e = subst (λ z. ComesTo (fitting n new) here vs s z) (refused n old here vs s r e c)
        (refuses n new here vs s e)

one_so : (n : ℕ) (run : Run) → IsProper run → (here : Here) (vs : Values) (s : State) (r q : State × Outcome Term)
    → ComesTo (fitting n run) here vs s r → ComesTo (fitting n run) here vs s q → r ≡ q
one_so n run h here vs s r q c d = by (eqb (length vs) n) refl
  where
    by : (b : Bool) → eqb (length vs) n ≡ b → r ≡ q
    by true e = h.one_result here vs s r q (fitted n run here vs s r e c) (fitted n run here vs s q e d)
    by false e = subst (λ z. z ≡ q) (refused n run here vs s r e c) (refused n run here vs s q e d)

lawful_so : (n : ℕ) (run : Run) → IsProper run → (here : Here) (vs : Values) (s : State) (r : State × Outcome Term)
    → IsLawful here.enter → ComesTo (fitting n run) here vs s r → Lawful s r.0
lawful_so n run h here vs s r l c = by (eqb (length vs) n) refl
  where
    by : (b : Bool) → eqb (length vs) n ≡ b → Lawful s r.0
    by true e = h.lawful here vs s r l (fitted n run here vs s r e c)
    by false e = subst (λ z. Lawful s z.0) (refused n run here vs s r e c) (lawful_itself s)

pub fitting_suffices : FittingSuffices
fitting_suffices = record {
  agrees = λ w n old new h name own f g lf lg e vs s t p r c. agree_so w n old new name own f g vs s t p r
      (λ l d. h name own f g lf lg e vs l s t p r d) c;
  refines = λ n old new h here vs s r l c. refine_so n old new here vs s r (λ i d. h here vs i s r l d) c;
  proper = λ n run h. record { one_result = one_so n run h; lawful = lawful_so n run h };
}
