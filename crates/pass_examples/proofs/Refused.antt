-- Wrong bodies are refused.
use Rattle.std.proofs.Common.{◌≡◌, ◌≤◌, inl, ℕ, zero, suc, List, [], ◌∷◌, Bool, false, true, Some, None, IsTrue, refl, sym, ap, ◌∙◌, subst, arith}
use Rattle.erl_base.specs.declared.ids.FunKey.{FunKey}
use Rattle.erl_term.specs.Term as T
use Rattle.erl_term.specs.Term.{Term}
use Rattle.erl_term.specs.Terms.{Values}
use Rattle.erl_term.specs.Depth.{depths}
use Rattle.erl_term.specs.WellFormed.{maps_rise}
use Rattle.world_model.specs.World as World
use Rattle.world_model.specs.Run as Run
use Rattle.world_model.specs.Run.{State, Outcome, Note, gives, spent, cut, noting, sub_binaries, M}
use Rattle.step_machine.specs.Bodies.{Here, here_of}
use Rattle.kernel_meaning.specs.Forms.{kernel_does}
use Rattle.ssa_form.specs.Ssa.{Body}
use Rattle.ssa_form.specs.Storage.{Around, Frame}
use Rattle.ssa_form.specs.Storage as Held
use Rattle.ssa_form.specs.SsaRun.{Vars, in_vars, blocks, all_terms, ssa_run}
use Rattle.ssa_form.specs.PassView.{result_of, around_in, ssa_does, ssa_form}
use Rattle.ssa_form.proofs.OneResult.{proper_each}
use Rattle.pass_contract.specs.InModule.{InModule}
use Rattle.pass_contract.specs.Lawful.{IsLawful}
use Rattle.pass_contract.specs.SameRun.{Compared, SameState, EntersAgree, done}
use Rattle.pass_contract.specs.PassContract.{Run, ComesTo, GivesSame, Agrees, most_named, KeepsShape}
use Rattle.pass_contract.proofs.Modules.{same_itself, lawful_itself}
use Rattle.pass_examples.specs.SmallPath.{gives_term, gives_param, kernel_fun, ssa_body, in_kernel_form, ahead}
use Rattle.pass_examples.specs.Refused.{endless, two_params, looks_at, names_much, asks_more, chooses_more, OneMore, cutting, giving_back, goes_by_marker, bare, Made, WrongPassesRefused}
use Rattle.pass_examples.proofs.SmallPath.{Does, DoesOne, does_one, alike_agree, some_is, none_there, no_turn, kernel_is, ssa_is}

abbrev empty : State
empty = record { replies = []; mailbox = []; next = 0; left = 0; notes = [] }

abbrev never : ℕ → Values → M Term
never n vs s = (s, spent)

never_lawful : IsLawful never
never_lawful n vs s = lawful_itself s

never_agrees : (w : Compared) → EntersAgree w never never
never_agrees w n vs s t r = record { state = r; end = refl }

abbrev here : Here
here = here_of [] T.nil never

-- a run that agrees with another one, from there
from_there : (w : Compared) (old new : Run) → Agrees w old new → (vs : Values) (s t : State) → SameState w s t
    → (r : State × Outcome Term) → ComesTo old here vs s r → GivesSame w new here vs t r
from_there w old new h vs s t e r c =
    h [] T.nil never never never_lawful never_lawful (never_agrees w) vs s t e r c

abbrev other : Term
other = T.atom []

values_differ : gives T.nil ≡ gives other → ⊥
values_differ e = cc

-- from the function that gives its parameter
given : (w : Compared) (m : InModule) (k : FunKey) (n : ℕ) (new : Run)
    → Agrees w (kernel_does (kernel_fun k n gives_param) m) new
    → GivesSame w new here (other ∷ []) empty (empty, gives other)
given w m k n new h = from_there w _ new h (other ∷ []) empty empty (same_itself w empty) (empty, gives other)
    ((kernel_is m k n gives_param).does here (other ∷ []) empty)

value : (w : Compared) (m : InModule) (k : FunKey) (n : ℕ) → Made w m k n (ssa_body n (gives_term T.nil)) → ⊥
value w m k n h = differs (given w m k n _ h.agrees)
  where
    differs : GivesSame w (ssa_does (ssa_body n (gives_term T.nil)) (around_in m)) here (other ∷ []) empty
        (empty, gives other) → ⊥
    differs g = values_differ
        (sym (ap (λ r. r.1) ((ssa_is m n (gives_term T.nil) tt).alone here (other ∷ []) empty g.result g.gives)) ∙
        g.same.end)

no_end : (w : Around) (n k i : ℕ) (f : Frame Vars) (s : State)
    → result_of (blocks in_vars w here (endless n) k None i 0 f s) ≡ None
unfolding ssa_run
no_end w n zero i f s = refl
no_end w n (suc k) i f s = no_end w n k 0 f s

end : (w : Compared) (m : InModule) (k : FunKey) (n : ℕ) → Made w m k n (endless n) → ⊥
unfolding ssa_run
end w m k n h = never_over (given w m k n _ h.agrees)
  where
    never_over : GivesSame w (ssa_does (endless n) (around_in m)) here (other ∷ []) empty (empty, gives other) → ⊥
    never_over g = no_turn g.result (sym (no_end (around_in m) n g.gives.within 0 _ empty) ∙ g.gives.gives)

arity : (w : Compared) (m : InModule) (k : FunKey) (n : ℕ) → Made w m k n (two_params n) → ⊥
arity w m k n h = let e : 2 ≡ 1 = h.shape.arity in omega (arith, e)

receive : (w : Compared) (m : InModule) (k : FunKey) (n : ℕ) → Made w m k n (looks_at n) → ⊥
receive w m k n h = none_there 5 (h.shape.receives 5 (0, omega arith, refl))

-- Numbers, tests and choices: bodies that do the same in two turns.

two_turns : (m : InModule) (n : ℕ) (b : Body)
    → ((here : Here) (v : Term) (s : State) (k : ℕ)
    → result_of (ssa_run (around_in m) here b (suc (suc k)) (Held.term v ∷ []) [] s) ≡ Some (s, gives v))
    → ((here : Here) (v : Term) (s : State) (r : State × Outcome Term)
    → result_of (ssa_run (around_in m) here b 0 (Held.term v ∷ []) [] s) ≡ Some r → ⊥)
    → ((here : Here) (v : Term) (s : State) (r : State × Outcome Term)
    → result_of (ssa_run (around_in m) here b 1 (Held.term v ∷ []) [] s) ≡ Some r → ⊥)
    → DoesOne (λ here vs s k. result_of (ssa_run (around_in m) here b k (all_terms vs) [] s)) gives_param
two_turns m n b h z o =
    record { does = λ here v s. record { within = 2; gives = h here v s 0 }; alone = alone_so }
  where
    alone_so : (here : Here) (v : Term) (s : State) (r : State × Outcome Term) (k : ℕ)
        → result_of (ssa_run (around_in m) here b k (all_terms (v ∷ [])) [] s) ≡ Some r → r ≡ (s, gives v)
    alone_so here v s r zero e = absurd (z here v s r e)
    alone_so here v s r (suc zero) e = absurd (o here v s r e)
    alone_so here v s r (suc (suc k)) e = some_is _ _ (sym e ∙ h here v s k)

asks_is : (m : InModule) (n : ℕ) → Does (ssa_does (asks_more n) (around_in m)) gives_param
unfolding ssa_run
asks_is m n = does_one _ gives_param
    (two_turns m n (asks_more n) (λ here v s k. refl) (λ here v s r e. no_turn r e) (λ here v s r e. no_turn r e))

chooses_is : (m : InModule) (n : ℕ) → Does (ssa_does (chooses_more n) (around_in m)) gives_param
unfolding ssa_run
chooses_is m n = does_one _ gives_param
    (two_turns m n (chooses_more n) (λ here v s k. refl) (λ here v s r e. no_turn r e) (λ here v s r e. no_turn r e))

number : (w : Compared) (m : InModule) (k : FunKey) (n : ℕ) → Made w m k n (names_much n) → ⊥
number w m k n h = let e : suc most_named ≤ most_named = h.shape.highest in omega (arith, e)

shape_of_asks : (k : FunKey) (n : ℕ) → KeepsShape (in_kernel_form k n gives_param) (ssa_form ahead (asks_more n))
unfolding depths maps_rise
shape_of_asks k n = record {
  arity = refl;
  receives = λ v c. c;
  added = λ v c. inl c;
  next = omega arith;
  calls = λ v c d. c;
  stays = λ v c d. c;
  variables = omega arith;
  deepest = omega arith;
  fitting = λ e. refl;
  widest = omega arith;
  highest = omega arith;
}

shape_of_chooses : (k : FunKey) (n : ℕ) → KeepsShape (in_kernel_form k n gives_param) (ssa_form ahead (chooses_more n))
unfolding depths maps_rise
shape_of_chooses k n = record {
  arity = refl;
  receives = λ v c. c;
  added = λ v c. inl c;
  next = omega arith;
  calls = λ v c d. c;
  stays = λ v c d. c;
  variables = omega arith;
  deepest = omega arith;
  fitting = λ e. refl;
  widest = omega arith;
  highest = omega arith;
}

one_test : (w : Compared) (m : InModule) (k : FunKey) (n : ℕ) → OneMore w m k n (asks_more n)
one_test w m k n = record {
  kept = record {
    agrees = alike_agree w _ _ gives_param (kernel_is m k n gives_param) (asks_is m n);
    shape = shape_of_asks k n;
  };
  adds = λ h. let e : 1 ≤ 0 = h.tests in omega (arith, e);
}

one_choice : (w : Compared) (m : InModule) (k : FunKey) (n : ℕ) → OneMore w m k n (chooses_more n)
one_choice w m k n = record {
  kept = record {
    agrees = alike_agree w _ _ gives_param (kernel_is m k n gives_param) (chooses_is m n);
    shape = shape_of_chooses k n;
  };
  adds = λ h. let e : 1 ≤ 0 = h.choices in omega (arith, e);
}

-- Sub-binaries.

cutting_gives : (n : ℕ) (h : Here) (vs : Values) (s : State) (r : State × Outcome Term) → ComesTo (cutting n) h vs s r
    → (noting (cut n) s, gives T.nil) ≡ r
cutting_gives n h vs s r c = some_is _ _ c.gives

more : (w : Compared) → IsTrue w.cuts → Agrees w (cutting 0) (cutting 1) → ⊥
more w i h = too_many (from_there w _ _ h [] empty empty (same_itself w empty) (noting (cut 0) empty, gives T.nil)
    (record { within = 0; gives = refl }))
  where
    too_many : GivesSame w (cutting 1) here [] empty (noting (cut 0) empty, gives T.nil) → ⊥
    too_many g =
        let m : sub_binaries g.result.0.notes ≤ 0 = g.same.state.sub_binaries i in
        let k : 1 ≡ sub_binaries g.result.0.notes =
        ap (λ r. sub_binaries r.0.notes) (cutting_gives 1 here [] empty g.result g.gives) in
        omega (arith, m, k)

cut_state : (w : Compared) (i j : ℕ) (s t : State) → SameState w s t → (IsTrue w.cuts → j ≤ i)
    → SameState w (noting (cut i) s) (noting (cut j) t)
cut_state w i j s t r l = record {
  replies = r.replies;
  mailbox = r.mailbox;
  next = r.next;
  left = r.left;
  done = r.done;
  sub_binaries = λ e. omega (arith, r.sub_binaries e, l e);
}

cuts_agree : (w : Compared) (i j : ℕ) → (IsTrue w.cuts → j ≤ i) → Agrees w (cutting i) (cutting j)
cuts_agree w i j l name own f g lf lg h vs s t r q c = subst (λ z. GivesSame w (cutting j) (here_of name own g) vs t z)
    (cutting_gives i (here_of name own f) vs s q c) (record {
      result = (noting (cut j) t, gives T.nil);
      gives = record { within = 0; gives = refl };
      same = record { state = cut_state w i j s t r l; end = refl };
    })

not_both : (b : Bool) → b ≡ false → IsTrue b → ⊥
not_both b e i = let p : false ≡ true = sym e ∙ i in cc

not_compared : (w : Compared) → w.cuts ≡ false → Agrees w (cutting 0) (cutting 1)
not_compared w e = cuts_agree w 0 1 (λ i. absurd (not_both w.cuts e i))

fewer : (w : Compared) → Agrees w (cutting 1) (cutting 0)
fewer w = cuts_agree w 1 0 (λ i. omega arith)

-- Marks.

abbrev reference : Term
reference = T.reference 7

abbrev two : List Note → State
two ns = record {
  replies = [];
  mailbox = record { serial = 0; term = T.nil } ∷ record { serial = 1; term = T.nil } ∷ [];
  next = 2;
  left = 0;
  notes = ns;
}

abbrev mark : Note
mark = Run.marked (record { reference = reference; serial = 1; before = [] })

unmarked_same : (w : Compared) → w.marks ≡ false → SameState w (two (mark ∷ [])) (two [])
unmarked_same w e = record {
  replies = refl;
  mailbox = refl;
  next = refl;
  left = refl;
  done = subst (λ b. done b [] ≡ done b (mark ∷ []))
      (sym e) refl;
  sub_binaries = λ i. omega arith;
}

abbrev took : ℕ → ℕ → List Note → State × Outcome Term
took n left ns = (
  record {
    replies = [];
    mailbox = record { serial = left; term = T.nil } ∷ [];
    next = 2;
    left = 0;
    notes = Run.happened (World.taken n) ∷ Run.looked (record { serial = n; accepted = true })
        ∷ Run.began (Some reference) ∷ ns;
  },
  gives T.nil,
)

marked_takes : ComesTo (ssa_does goes_by_marker (around_in bare)) here (reference ∷ []) (two (mark ∷ []))
    (took 1 0 (mark ∷ []))
unfolding ssa_run
marked_takes = record { within = 2; gives = refl }

unmarked_takes : ComesTo (ssa_does goes_by_marker (around_in bare)) here (reference ∷ []) (two []) (took 0 1 [])
unfolding ssa_run
unmarked_takes = record { within = 2; gives = refl }

abbrev first_serial : List World.Message → ℕ
first_serial [] = 9
first_serial (m ∷ ms) = m.serial

marks : (w : Compared) → w.marks ≡ false
    → Agrees w (ssa_does goes_by_marker (around_in bare)) (ssa_does goes_by_marker (around_in bare)) → ⊥
marks w e h = other_message (from_there w _ _ h (reference ∷ []) (two (mark ∷ [])) (two []) (unmarked_same w e)
    (took 1 0 (mark ∷ [])) marked_takes)
  where
    other_message : GivesSame w (ssa_does goes_by_marker (around_in bare)) here (reference ∷ []) (two [])
        (took 1 0 (mark ∷ [])) → ⊥
    other_message g =
        let z : g.result ≡ took 0 1 [] = (proper_each.ssa goes_by_marker (around_in bare)).one_result here
        (reference ∷ []) (two []) g.result (took 0 1 []) g.gives unmarked_takes in
        let m : 1 ≡ 0 = sym (ap (λ r. first_serial r.0.mailbox) z) ∙ ap first_serial g.same.state.mailbox in
        omega (arith, m)

entered : IsLawful giving_back → ⊥
entered h = let e : 1 ≤ 0 = (h 0 [] empty).left in omega (arith, e)

pub wrong_passes_refused : WrongPassesRefused
wrong_passes_refused w m k n = record {
  value = value w m k n;
  end = end w m k n;
  arity = arity w m k n;
  receive = receive w m k n;
  number = number w m k n;
  test = one_test w m k n;
  choice = one_choice w m k n;
  more = more w;
  not_compared = not_compared w;
  fewer = fewer w;
  entered = entered;
  marks = marks w;
}
