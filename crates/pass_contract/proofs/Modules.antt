-- Agreement of functions makes agreement of modules, refinement keeps their meaning, and both compose.
use Rattle.std.proofs.Common.{◌≡◌, ◌≤◌, ℕ, zero, suc, [], Some, IsTrue, refl, sym, subst, ◌∙◌, arith}
use Rattle.erl_base.specs.Names.{Name}
use Rattle.erl_term.specs.Term.{Term}
use Rattle.erl_term.specs.Terms.{Values}
use Rattle.world_model.specs.Run.{State, Outcome, spent, M, sub_binaries}
use Rattle.step_machine.specs.Bodies.{here_of}
use Rattle.pass_contract.specs.SameRun.{Compared, SameState, SameResult, EntersAgree}
use Rattle.pass_contract.specs.Lawful.{Lawful, IsLawful}
use Rattle.pass_contract.specs.PassContract.{Run, IsProper, GivesSame, Agrees, IsMeaning, MeansSame, ModuleAgrees, FunctionsMakeModules, RefinedMeaning, ends, agreed, refined, RowsMeanSame, ModulesCompose, AtOnceAgrees}

module _ (w : Compared) where
  pub same_itself : (s : State) → SameState w s s
  same_itself s = record {
    replies = refl;
    mailbox = refl;
    next = refl;
    left = refl;
    done = refl;
    sub_binaries = λ c. omega arith;
  }

  fewer_twice : (s t u : State) → SameState w s t → SameState w t u → IsTrue w.cuts
      → sub_binaries u.notes ≤ sub_binaries s.notes
  fewer_twice s t u p q c = let a : sub_binaries u.notes ≤ sub_binaries t.notes = q.sub_binaries c in
      let b : sub_binaries t.notes ≤ sub_binaries s.notes = p.sub_binaries c in omega (arith, a, b)

  pub same_twice : (s t u : State) → SameState w s t → SameState w t u → SameState w s u
  same_twice s t u p q = record {
    replies = q.replies ∙ p.replies;
    mailbox = q.mailbox ∙ p.mailbox;
    next = q.next ∙ p.next;
    left = q.left ∙ p.left;
    done = q.done ∙ p.done;
    sub_binaries = fewer_twice s t u p q;
  }

  pub result_itself : {A : Type 0} (r : State × Outcome A) → SameResult w r r
  result_itself r = record { state = same_itself r.0; end = refl }

  pub result_twice : {A : Type 0} (r q p : State × Outcome A) → SameResult w r q → SameResult w q p → SameResult w r p
  result_twice r q p h k = record { state = same_twice r.0 q.0 p.0 h.state k.state; end = k.end ∙ h.end }

-- nothing done is lawful
pub lawful_itself : (s : State) → Lawful s s
lawful_itself s = record { left = omega arith; notes = ([], refl); next = omega arith; below = λ m c l. c }

-- The new module's meaning, depth by depth.

pub record Entered (w : Compared) (enter : ℕ → Values → M Term) : Type 0 where
  pub does : ℕ → Values → M Term
  pub agrees : EntersAgree w enter does
  pub lawful : IsLawful does

module _ (w : Compared) (old new : ℕ → Run) (proper : (n : ℕ) → IsProper (new n))
    (agrees : (n : ℕ) → Agrees w (old n) (new n)) (name : Name) (own : Term) (enter : ℕ → ℕ → Values → M Term)
    (means : IsMeaning name own old enter) where
  given : (d : ℕ) (x : Entered w (enter d)) (n : ℕ) (vs : Values) (s t : State) → SameState w s t
      → GivesSame w (new n) (here_of name own x.does) vs t (enter (suc d) n vs s)
  given d x n vs s t h = agrees n name own (enter d) x.does (means.lawful d) x.lawful x.agrees vs s t h
      (enter (suc d) n vs s) (means.more d n vs s)

  next : (d : ℕ) → Entered w (enter d) → Entered w (enter (suc d))
  next d x = record {
    does = λ n vs t. (given d x n vs t t (same_itself w t)).result;
    agrees = λ n vs s t h.
        let p : GivesSame w (new n) (here_of name own x.does) vs t (enter (suc d) n vs s) = given d x n vs s t h in
        let q : GivesSame w (new n) (here_of name own x.does) vs t (enter (suc d) n vs t) =
        given d x n vs t t (same_itself w t) in
        subst (SameResult w (enter (suc d) n vs s))
        ((proper n).one_result (here_of name own x.does) vs t p.result q.result p.gives q.gives) p.same;
    lawful = λ n vs s.
        let q : GivesSame w (new n) (here_of name own x.does) vs s (enter (suc d) n vs s) =
        given d x n vs s s (same_itself w s) in
        (proper n).lawful (here_of name own x.does) vs s q.result x.lawful q.gives;
  }

  nothing_entered : (n : ℕ) (vs : Values) (s t : State) → SameState w s t → SameResult w (enter zero n vs s) (t, spent)
  nothing_entered n vs s t h =
      subst (λ r. SameResult w r (t, spent)) (sym (means.none n vs s)) (record { state = h; end = refl })

  all_entered : (d : ℕ) → Entered w (enter d)
  all_entered zero =
      record { does = λ n vs s. (s, spent); agrees = nothing_entered; lawful = λ n vs s. lawful_itself s }
  all_entered (suc d) = next d (all_entered d)

  is_meaning : IsMeaning name own new (λ d. (all_entered d).does)
  unfolding all_entered next
  is_meaning = record {
    none = λ n vs s. refl;
    more = λ d n vs s. (given d (all_entered d) n vs s s (same_itself w s)).gives;
    lawful = λ d. (all_entered d).lawful;
  }

  means_same : MeansSame w name own new enter
  means_same = record {
    meaning = λ d. (all_entered d).does;
    means = is_meaning;
    same = λ d n vs s. (all_entered d).agrees n vs s s (same_itself w s);
  }

pub functions_make : FunctionsMakeModules
functions_make w old new proper agrees name own enter means = means_same w old new proper agrees name own enter means

pub refined_meaning : RefinedMeaning
refined_meaning old new refines name own enter means = record {
  none = means.none;
  more = λ d n vs s. refines n (here_of name own (enter d)) vs s (enter (suc d) n vs s) (means.lawful d)
      (means.more d n vs s);
  lawful = means.lawful;
}

-- a meaning is the same as itself
itself : (w : Compared) (a : ℕ → Run) → ModuleAgrees w a a
itself w a name own enter means =
    record { meaning = enter; means = means; same = λ d n vs s. result_itself w (enter d n vs s) }

refined_agrees : (w : Compared) (a b : ℕ → Run)
    → ((name : Name) (own : Term) (enter : ℕ → ℕ → Values → M Term)
    → IsMeaning name own a enter → IsMeaning name own b enter)
    → ModuleAgrees w a b
refined_agrees w a b h name own enter means = record {
  meaning = enter;
  means = h name own enter means;
  same = λ d n vs s. result_itself w (enter d n vs s);
}

pub compose : ModulesCompose
compose w a b c p q name own enter means =
    let x : MeansSame w name own b enter = p name own enter means in
    let y : MeansSame w name own c x.meaning = q name own x.meaning x.means in
    record {
      meaning = y.meaning;
      means = y.means;
      same = λ d n vs s. result_twice w (enter d n vs s) (x.meaning d n vs s) (y.meaning d n vs s) (x.same d n vs s)
          (y.same d n vs s);
    }

pub rows_mean : RowsMeanSame
rows_mean w _ _ (ends a) = itself w a
rows_mean w _ _ (agreed a b c proper agrees r) =
    compose w a b c (functions_make w a b proper agrees) (rows_mean w b c r)
rows_mean w _ _ (refined a b c refines r) =
    compose w a b c (refined_agrees w a b (refined_meaning a b refines)) (rows_mean w b c r)

pub at_once_agrees : AtOnceAgrees
at_once_agrees w old new h name own f g lf lg e vs s t p r q = record {
  result = new (here_of name own g) vs t;
  gives = record { within = 0; gives = refl };
  same = subst (λ z. SameResult w z (new (here_of name own g) vs t)) (some_is _ _ q.gives)
      (h name own f g e vs s t p);
}
  where
    some_is : (a b : State × Outcome Term) → Some a ≡ Some b → a ≡ b
    some_is a b i = cc
