-- The small module does the same in each form, and its assembly realizes it.
use mathlib.Core.List.{reverse}
use Rattle.std.proofs.Common.{◌≡◌, ◌≤◌, ℕ, zero, suc, List, [], ◌∷◌, length, Bool, true, false, eqb, slice_get, Contains, codes, Option, Some, None, if◌then◌else◌, refl, sym, ap, ◌∙◌, subst, arith}
use Rattle.erl_base.specs.declared.ids.FunKey.{FunKey}
use Rattle.erl_term.specs.Term as T
use Rattle.erl_term.specs.Term.{Term}
use Rattle.erl_term.specs.Terms.{Values, only}
use Rattle.bif_table.specs.Builtins as B
use Rattle.bif_table.specs.BuiltinAnswer.{Answer, value, raised, answer}
use Rattle.world_model.specs.RemoteCalls.{call_terms}
use Rattle.world_model.specs.Run.{Entry, entered, noting, marks, State, Outcome, gives, raises, waits, spent, M, ◌>>=◌, going_on, give}
use Rattle.world_model.specs.World.{Reply, Script}
use Rattle.world_model.specs.Entries.{entry_left}
use Rattle.world_model.specs.Meaning.{one, single}
use Rattle.core_form.specs.Core.{Expr, literal, var, call, and_expr, no_expr}
use Rattle.core_form.specs.Captures.{sites_in}
use Rattle.core_form.specs.Scope.{with_names}
use Rattle.core_form.specs.Sites.{module_scope}
use Rattle.core_form.specs.Walks.{with_let}
use Rattle.core_meaning.specs.Calls.{Invocation}
use Rattle.core_meaning.specs.CoreRun.{known, apart_of, run_site, deep, known_export, start, evaluated}
use Rattle.core_meaning.specs.Evaluation.{eval}
use Rattle.core_meaning.specs.EvaluationContext.{EvaluationContext, bind, past}
use Rattle.step_machine.specs.Bodies.{Here, here_of, calling}
use Rattle.step_machine.specs.Steps as Steps
use Rattle.step_machine.specs.Steps.{perform, run}
use Rattle.beam_table.specs.Code.{Reg, Source, Insn, move, return, call_only, gc_bif, AsmFun}
use Rattle.beam_table.specs.GeneralRules as GeneralRules
use Rattle.beam_table.specs.GeneralRules.{returns_to, cells}
use Rattle.beam_table.specs.InstructionStep.{step}
use Rattle.beam_table.specs.MachineState.{Activation, Machine}
use Rattle.kernel_form.specs.Kernel as K
use Rattle.kernel_meaning.specs.Forms.{core_body, core_runs, kernel_runs}
use Rattle.kernel_meaning.proofs.Proper as Kernel
use Rattle.ssa_form.specs.Ssa as S
use Rattle.ssa_form.specs.Ssa.{Body, ret}
use Rattle.ssa_form.specs.Storage.{term, tail, Around, go_on}
use Rattle.ssa_form.specs.Operations as Operations
use Rattle.ssa_form.specs.SsaRun.{leave, blocks, chain_does}
use Rattle.ssa_form.specs.Spots as Spot
use Rattle.ssa_form.specs.Spots.{nothing}
use Rattle.step_machine.specs.Frames.{with_register}
use Rattle.ssa_form.specs.PlacedRun.{Placed, in_registers, no_registers, placed_run}
use Rattle.ssa_form.specs.FramedRun.{Framed, in_stack, framed_run}
use Rattle.ssa_form.specs.PassView.{result_of, around_in, placed_does, framed_does, ssa_runs, placed_runs, framed_runs}
use Rattle.ssa_form.proofs.OneResult.{proper_each}
use Rattle.pass_contract.specs.SameRun.{Compared, SameResult}
use Rattle.pass_contract.specs.Lawful.{Lawful}
use Rattle.pass_contract.specs.PassContract.{Run, undef, missing, ComesTo, IsProper, Agrees, Refines, MeansSame, Row, ends, agreed, refined}
use Rattle.pass_contract.proofs.Modules.{rows_mean, lawful_itself}
use Rattle.behaviour.specs.Called.{export_keys}
use Rattle.behaviour.specs.FunctionsGiveModule.{Finds, BindsNone, CompiledBy}
use Rattle.behaviour.specs.SameBehaviour.{SameInterface, SameBehaviour, TailCalls}
use Rattle.behaviour.specs.MachineTarget.{AtEntry, target}
use Rattle.behaviour.specs.Realizes.{Matches, Comes, Realizes, RealizesAll, RunRealized, RunsRealized}
use Rattle.behaviour.proofs.Calling.{ready, entry_ready, ready_matches, call_only_realizes}
use Rattle.behaviour.proofs.Bridge.{marks-reverse}
use Rattle.behaviour.proofs.Modules.{passes_give_module, passes_give_costs}
use Rattle.pass_examples.specs.SmallPath.{Small, gives_term, gives_param, goes_to, takes_length, calls_out, fails, erlang, error, kernel_fun, ssa_body, Fits}
use Rattle.pass_examples.specs.WholePath.{here_in_text, key, x, core, bodies, set_so, register, in_register, without_frame, asm, WholePath}
use Rattle.pass_examples.proofs.SmallPath.{raised_error, end_of, result, given, given_same, answer_then, Does, does_by, ends_over, no_turn, kernel_is, ssa_is}

-- With spots, and without a frame.

placed_length : (w : Around) (n : ℕ) (here : Here) (v : Term) (s : State) (k : ℕ) (a : Answer)
    → result_of (leave (in_registers register) w here (blocks (in_registers register) w here (ssa_body n takes_length)
    k)
    0 (ret (S.var 1)) (go_on (Operations.answers (in_registers register) w here tail (Some 1) a (record {
      store = record no_registers { xs = with_register 0 (Spot.own 0 (term v)) nothing };
      contexts = [];
      save = 0;
      window = None;
    }) s) (chain_does (in_registers register) w here [] (ret (S.var 1)) []))) ≡ Some (s, end_of a)
placed_length w n here v s k (value t) = refl
placed_length w n here v s k (raised c r) = refl

placed_result : (n : ℕ) (q : Small) → Fits set_so q → (here : Here) (v : Term) (s : State) (k : ℕ)
    → result_of (placed_run (around_in set_so) here (in_register n q) (suc k) (term v ∷ []) [] s)
    ≡ Some (result q here v s)
unfolding placed_run
placed_result n (gives_term t) h here v s k = refl
placed_result n gives_param h here v s k = refl
placed_result n (goes_to i) h here v s k = rw h (ends_over (in_registers register) (around_in set_so) here
    (blocks (in_registers register) (around_in set_so) here (ssa_body n (goes_to i)) k) 0 (ret (S.var 1)) _
    ((calling here i true (v ∷ []) >>= single) s))
placed_result n (calls_out t u) h here v s k = ends_over (in_registers register) (around_in set_so) here
    (blocks (in_registers register) (around_in set_so) here (ssa_body n (calls_out t u)) k) 0 (ret (S.var 1)) _
    (call_terms here.own t u (v ∷ []) s)
placed_result n fails h here v s k = ends_over (in_registers register) (around_in set_so) here
    (blocks (in_registers register) (around_in set_so) here (ssa_body n fails) k) 0 (ret (S.var 1))
    (chain_does (in_registers register) (around_in set_so) here [] (ret (S.var 1)) [])
    (call_terms here.own erlang error (v ∷ []) s) ∙ ap Some (raised_error here.own v s)
placed_result n takes_length h here v s k =
    placed_length (around_in set_so) n here v s k (answer B.Length here.own (v ∷ []))

placed_is : (n : ℕ) (q : Small) → Fits set_so q → Does (placed_does (in_register n q) (around_in set_so)) q
unfolding placed_run
placed_is n q h = does_by _ q (placed_result n q h) (λ here v s r e. no_turn r e)

framed_length : (w : Around) (n : ℕ) (here : Here) (v : Term) (s : State) (k : ℕ) (a : Answer)
    → result_of (leave (in_stack register []) w here (blocks (in_stack register []) w here (ssa_body n takes_length) k)
    0 (ret (S.var 1)) (go_on (Operations.answers (in_stack register []) w here tail (Some 1) a (record {
      store = record { xs = with_register 0 (Spot.own 0 (term v)) nothing; frame = None };
      contexts = [];
      save = 0;
      window = None;
    }) s) (chain_does (in_stack register []) w here [] (ret (S.var 1)) []))) ≡ Some (s, end_of a)
framed_length w n here v s k (value t) = refl
framed_length w n here v s k (raised c r) = refl

framed_result : (n : ℕ) (q : Small) → Fits set_so q → (here : Here) (v : Term) (s : State) (k : ℕ)
    → result_of (framed_run (around_in set_so) here (without_frame n q) (suc k) (term v ∷ []) [] s)
    ≡ Some (result q here v s)
unfolding framed_run
framed_result n (gives_term t) h here v s k = refl
framed_result n gives_param h here v s k = refl
framed_result n (goes_to i) h here v s k = rw h (ends_over (in_stack register []) (around_in set_so) here
    (blocks (in_stack register []) (around_in set_so) here (ssa_body n (goes_to i)) k) 0 (ret (S.var 1)) _
    ((calling here i true (v ∷ []) >>= single) s))
framed_result n (calls_out t u) h here v s k = ends_over (in_stack register []) (around_in set_so) here
    (blocks (in_stack register []) (around_in set_so) here (ssa_body n (calls_out t u)) k) 0 (ret (S.var 1)) _
    (call_terms here.own t u (v ∷ []) s)
framed_result n fails h here v s k = ends_over (in_stack register []) (around_in set_so) here
    (blocks (in_stack register []) (around_in set_so) here (ssa_body n fails) k) 0 (ret (S.var 1))
    (chain_does (in_stack register []) (around_in set_so) here [] (ret (S.var 1)) [])
    (call_terms here.own erlang error (v ∷ []) s) ∙ ap Some (raised_error here.own v s)
framed_result n takes_length h here v s k =
    framed_length (around_in set_so) n here v s k (answer B.Length here.own (v ∷ []))

framed_is : (n : ℕ) (q : Small) → Fits set_so q → Does (framed_does (without_frame n q) (around_in set_so)) q
unfolding framed_run
framed_is n q h = does_by _ q (framed_result n q h) (λ here v s r e. no_turn r e)

-- The module's functions by their sites.

abbrev at_site : ℕ → Option Small
at_site n = slice_get bodies n

abbrev given_at : Option Small → Here → Values → State → State × Outcome Term
given_at None here vs s = (s, undef)
given_at (Some q) here vs s = given q here vs s

pub record DoesAt (run : Run) (o : Option Small) : Type 0 where
  pub does : (here : Here) (vs : Values) (s : State) → ComesTo run here vs s (given_at o here vs s)
  pub alone : (here : Here) (vs : Values) (s : State) (r : State × Outcome Term) → ComesTo run here vs s r
      → r ≡ given_at o here vs s

there_is : (run : Run) (q : Small) → Does run q → DoesAt run (Some q)
there_is run q h = record { does = h.does; alone = h.alone }

some_is : (a b : State × Outcome Term) → Some a ≡ Some b → a ≡ b
some_is a b e = cc

none_there : DoesAt missing None
none_there = record {
  does = λ here vs s. record { within = 0; gives = refl };
  alone = λ here vs s r e. sym (some_is _ _ e.gives);
}

agree_at : (w : Compared) (old new : Run) (o : Option Small) → DoesAt old o → DoesAt new o → Agrees w old new
agree_at w old new o p q name own f g lf lg h vs s t r z e = record {
  result = given_at o (here_of name own g) vs t;
  gives = q.does (here_of name own g) vs t;
  same = subst (λ a. SameResult w a (given_at o (here_of name own g) vs t))
      (sym (p.alone (here_of name own f) vs s z e)) (same o);
}
  where
    same : (o : Option Small)
        → SameResult w (given_at o (here_of name own f) vs s) (given_at o (here_of name own g) vs t)
    same None = record { state = r; end = refl }
    same (Some k) = given_same w name own f g h k vs s t r

refine_at : (old new : Run) (o : Option Small) → DoesAt old o → DoesAt new o → Refines old new
refine_at old new o p q here vs s r l e =
    subst (λ z. ComesTo new here vs s z) (sym (p.alone here vs s r e)) (q.does here vs s)

abbrev funs : List K.Fun
funs = kernel_fun (key []) 0 gives_param ∷ kernel_fun (key []) 1 (goes_to 0) ∷ kernel_fun (key []) 2 takes_length
    ∷ kernel_fun (key []) 3 (gives_term T.nil) ∷ []

abbrev ssa : List Body
ssa = ssa_body 0 gives_param ∷ ssa_body 1 (goes_to 0) ∷ ssa_body 2 takes_length ∷ ssa_body 3 (gives_term T.nil) ∷ []

abbrev placed : List Placed
placed = in_register 0 gives_param ∷ in_register 1 (goes_to 0) ∷ in_register 2 takes_length
    ∷ in_register 3 (gives_term T.nil) ∷ []

abbrev framed : List Framed
framed = without_frame 0 gives_param ∷ without_frame 1 (goes_to 0) ∷ without_frame 2 takes_length
    ∷ without_frame 3 (gives_term T.nil) ∷ []

kernel_at : (n : ℕ) → DoesAt (kernel_runs set_so funs n) (at_site n)
kernel_at zero = there_is _ _ (kernel_is set_so (key []) 0 gives_param)
kernel_at (suc zero) = there_is _ _ (kernel_is set_so (key []) 1 (goes_to 0))
kernel_at (suc (suc zero)) = there_is _ _ (kernel_is set_so (key []) 2 takes_length)
kernel_at (suc (suc (suc zero))) = there_is _ _ (kernel_is set_so (key []) 3 (gives_term T.nil))
kernel_at (suc (suc (suc (suc n)))) = none_there

ssa_at : (n : ℕ) → DoesAt (ssa_runs set_so ssa n) (at_site n)
ssa_at zero = there_is _ _ (ssa_is set_so 0 gives_param tt)
ssa_at (suc zero) = there_is _ _ (ssa_is set_so 1 (goes_to 0) refl)
ssa_at (suc (suc zero)) = there_is _ _ (ssa_is set_so 2 takes_length tt)
ssa_at (suc (suc (suc zero))) = there_is _ _ (ssa_is set_so 3 (gives_term T.nil) tt)
ssa_at (suc (suc (suc (suc n)))) = none_there

placed_at : (n : ℕ) → DoesAt (placed_runs set_so placed n) (at_site n)
placed_at zero = there_is _ _ (placed_is 0 gives_param tt)
placed_at (suc zero) = there_is _ _ (placed_is 1 (goes_to 0) refl)
placed_at (suc (suc zero)) = there_is _ _ (placed_is 2 takes_length tt)
placed_at (suc (suc (suc zero))) = there_is _ _ (placed_is 3 (gives_term T.nil) tt)
placed_at (suc (suc (suc (suc n)))) = none_there

framed_at : (n : ℕ) → DoesAt (framed_runs set_so framed n) (at_site n)
framed_at zero = there_is _ _ (framed_is 0 gives_param tt)
framed_at (suc zero) = there_is _ _ (framed_is 1 (goes_to 0) refl)
framed_at (suc (suc zero)) = there_is _ _ (framed_is 2 takes_length tt)
framed_at (suc (suc (suc zero))) = there_is _ _ (framed_is 3 (gives_term T.nil) tt)
framed_at (suc (suc (suc (suc n)))) = none_there

missing_proper : IsProper missing
missing_proper = record {
  one_result = λ here vs s r q c d. sym (some_is _ _ c.gives) ∙ some_is _ _ d.gives;
  lawful = λ here vs s r l c. subst (λ z. Lawful s z.0) (some_is _ _ c.gives)
      (lawful_itself s);
}

kernel_proper : (n : ℕ) → IsProper (kernel_runs set_so funs n)
kernel_proper zero = Kernel.forms_are_proper.kernel set_so _
kernel_proper (suc zero) = Kernel.forms_are_proper.kernel set_so _
kernel_proper (suc (suc zero)) = Kernel.forms_are_proper.kernel set_so _
kernel_proper (suc (suc (suc zero))) = Kernel.forms_are_proper.kernel set_so _
kernel_proper (suc (suc (suc (suc n)))) = missing_proper

ssa_proper : (n : ℕ) → IsProper (ssa_runs set_so ssa n)
ssa_proper zero = proper_each.ssa (ssa_body 0 gives_param) (around_in set_so)
ssa_proper (suc zero) = proper_each.ssa (ssa_body 1 (goes_to 0)) (around_in set_so)
ssa_proper (suc (suc zero)) = proper_each.ssa (ssa_body 2 takes_length) (around_in set_so)
ssa_proper (suc (suc (suc zero))) = proper_each.ssa (ssa_body 3 (gives_term T.nil)) (around_in set_so)
ssa_proper (suc (suc (suc (suc n)))) = missing_proper

-- The Core module.

abbrev there : Term → ℕ → Here → Invocation
there own n here = record {
  name = here.name;
  own = here.own;
  sites = (known core own).sites;
  reached = (known core own).reached;
  apart = apart_of (known core own).reached n (slice_get (known core own).sites n);
  enter = here.enter;
}

abbrev measured : Expr
measured = call here_in_text (literal here_in_text (T.atom (codes "erlang")))
    (literal here_in_text (T.atom (codes "length")))
    (and_expr (var here_in_text (codes "X")) no_expr)

abbrev started : Term → EvaluationContext
started v = record {
  scope = with_names (module_scope core.defs 0 []) (x.name ∷ []);
  env = (length (module_scope core.defs 0 []), v) ∷ [];
  next = 4;
  tail = true;
  lets = [];
}

abbrev bound : Term → Values → EvaluationContext
bound v vs = record (bind (codes "Y" ∷ []) vs (past (sites_in measured) (started v))) {
  lets = with_let measured (record { name = codes "Y"; place = here_in_text } ∷ [])
      (started v).scope [];
}

core_one : (own : Term) (n : ℕ) (q : Small) → at_site n ≡ Some q → (here : Here) (v : Term) (s : State)
    → core_body (known core own) n here (v ∷ []) s ≡ given_at (at_site n) here (v ∷ []) s
unfolding run_site
core_one own zero q e here v s = refl
core_one own (suc zero) q e here v s = refl
core_one own (suc (suc zero)) q e here v s = answer_then (answer B.Length here.own (v ∷ []))
    (λ vs. eval (there own 2 here) (var here_in_text (codes "Y")) (bound v vs)) s (λ t u. refl)
core_one own (suc (suc (suc zero))) q e here v s = refl
core_one own (suc (suc (suc (suc n)))) q e here v s = refl

more_than_one : (i : ℕ) → eqb (suc (suc i)) 1 ≡ false
more_than_one i = grind arith

if_false : {A : Type 0} (b : Bool) (m k : M A) (s : State) → b ≡ false → (if b then m else k) s ≡ k s
if_false true m k s e = absurd cc
if_false false m k s e = refl

core_many : (own : Term) (n : ℕ) (here : Here) (v u : Term) (vs : Values) (s : State)
    → core_body (known core own) n here (v ∷ u ∷ vs) s ≡ given_at (at_site n) here (v ∷ u ∷ vs) s
unfolding run_site
core_many own zero here v u vs s = if_false _ _ _ s (more_than_one (length vs))
core_many own (suc zero) here v u vs s = if_false _ _ _ s (more_than_one (length vs))
core_many own (suc (suc zero)) here v u vs s = if_false _ _ _ s (more_than_one (length vs))
core_many own (suc (suc (suc zero))) here v u vs s = if_false _ _ _ s (more_than_one (length vs))
core_many own (suc (suc (suc (suc n)))) here v u vs s = refl

core_none : (own : Term) (n : ℕ) (here : Here) (s : State)
    → core_body (known core own) n here [] s ≡ given_at (at_site n) here [] s
unfolding run_site
core_none own zero here s = refl
core_none own (suc zero) here s = refl
core_none own (suc (suc zero)) here s = refl
core_none own (suc (suc (suc zero))) here s = refl
core_none own (suc (suc (suc (suc n)))) here s = refl

core_single : (own : Term) (n : ℕ) (here : Here) (v : Term) (s : State)
    → core_body (known core own) n here (v ∷ []) s ≡ given_at (at_site n) here (v ∷ []) s
unfolding run_site
core_single own zero here v s = core_one own 0 gives_param refl here v s
core_single own (suc zero) here v s = core_one own 1 (goes_to 0) refl here v s
core_single own (suc (suc zero)) here v s = core_one own 2 takes_length refl here v s
core_single own (suc (suc (suc zero))) here v s = core_one own 3 (gives_term T.nil) refl here v s
core_single own (suc (suc (suc (suc n)))) here v s = refl

core_given : (own : Term) (n : ℕ) (here : Here) (vs : Values) (s : State)
    → core_body (known core own) n here vs s ≡ given_at (at_site n) here vs s
core_given own n here [] s = core_none own n here s
core_given own n here (v ∷ []) s = core_single own n here v s
core_given own n here (v ∷ u ∷ vs) s = core_many own n here v u vs s

core_at : (own : Term) (n : ℕ) → DoesAt (core_runs core own n) (at_site n)
core_at own n = record {
  does = λ here vs s. record { within = 0; gives = ap Some (core_given own n here vs s) };
  alone = λ here vs s r e. sym (some_is _ _ e.gives) ∙ core_given own n here vs s;
}

-- In a row: sub-binaries are compared, marks are not.

abbrev sub_binaries_too : Compared
sub_binaries_too = record { marks = false; cuts = true }

row : (own : Term) → Row sub_binaries_too (core_runs core own) (framed_runs set_so framed)
row own = agreed _ (kernel_runs set_so funs) _ kernel_proper
    (λ n. agree_at sub_binaries_too _ _ (at_site n) (core_at own n) (kernel_at n))
    (agreed _ (ssa_runs set_so ssa) _ ssa_proper
    (λ n. agree_at sub_binaries_too _ _ (at_site n) (kernel_at n) (ssa_at n))
    (refined _ (placed_runs set_so placed) _ (λ n. refine_at _ _ (at_site n) (ssa_at n) (placed_at n))
    (refined _ (framed_runs set_so framed) _ (λ n. refine_at _ _ (at_site n) (placed_at n) (framed_at n))
    (ends (framed_runs set_so framed)))))

same : (own : Term) → MeansSame sub_binaries_too core.name own (framed_runs set_so framed) (deep (known core own))
same own = rows_mean sub_binaries_too _ _ (row own) core.name own (deep (known core own))
    (Kernel.core_runs_mean core own)

-- The assembly.

module _ (own : Term) where
  moved : (t v : Term) (above : List Activation) (m : Machine) (rs : List Reply) (log : List Steps.Event)
      → Comes (target asm own) (ready (move (Source.literal t) (Reg.x_reg 0) ∷ return ∷ []) (cells (v ∷ [])) None above
      m)
      rs log (returns_to above t (ready [] (cells (t ∷ [])) None above m)) rs log
  unfolding step run
  moved t v above m rs log = record { steps = 1; then_same = λ k. refl }

  returned : (v : Term) (above : List Activation) (m : Machine) (rs : List Reply) (log : List Steps.Event)
      → Comes (target asm own) (ready (return ∷ []) (cells (v ∷ [])) None above m) rs log
      (returns_to above v (ready [] (cells (v ∷ [])) None above m)) rs log
  unfolding step run
  returned v above m rs log = record { steps = 0; then_same = λ k. refl }

  -- after the function was asked
  abbrev asked : Term → List Activation → Machine → Machine
  asked v above m = record (ready (return ∷ []) (cells (v ∷ [])) None above m) { room = 0 }

  measures : (v : Term) (above : List Activation) (m : Machine) (rs : List Reply) (log : List Steps.Event) (s : State)
      → Matches (target asm own) s m rs log → (r : Answer) → answer B.Length m.own (v ∷ []) ≡ r
      → Realizes (target asm own) above
      (ready (gc_bif B.Length None 1 (Source.reg (Reg.x_reg 0) ∷ []) (Reg.x_reg 0) ∷ return ∷ []) (cells (v ∷ [])) None
      above m) rs log (s, end_of r)
  unfolding step run
  measures v above m rs log s w (value t) e = record {
    state = record (ready [] (cells (t ∷ [])) None above m) { room = 0 };
    rs' = rs;
    log' = log;
    matches = ready_matches asm own s (record m { room = 0 }) [] (cells (t ∷ [])) None above rs log (record {
      replies = w.replies;
      noted = w.noted;
      costs = w.costs;
      mailbox = record {
        own = w.mailbox.own;
        mailbox = w.mailbox.mailbox;
        next_serial = w.mailbox.next_serial;
        save = w.mailbox.save;
        window = w.mailbox.window;
        landing = w.mailbox.landing;
      };
    });
    comes = record {
      steps = 1;
      then_same = λ k. ap
          (λ z. perform (GeneralRules.answers asm None z (Reg.x_reg 0) (asked v above m)) (run (step asm) (suc k)) rs
          log)
          e;
    };
  }
  measures v above m rs log s w (raised c r) e = record {
    state = asked v above m;
    rs' = rs;
    log' = log;
    matches = ready_matches asm own s (record m { room = 0 }) (return ∷ []) (cells (v ∷ [])) None above rs log (record {
      replies = w.replies;
      noted = w.noted;
      costs = w.costs;
      mailbox = record {
        own = w.mailbox.own;
        mailbox = w.mailbox.mailbox;
        next_serial = w.mailbox.next_serial;
        save = w.mailbox.save;
        window = w.mailbox.window;
        landing = w.mailbox.landing;
      };
    });
    comes = record {
      steps = 0;
      then_same = λ k. ap
          (λ z. perform (GeneralRules.answers asm None z (Reg.x_reg 0) (asked v above m)) (run (step asm) k) rs log) e;
    };
  }

  -- the code of each, entered with one term
  abbrev Coded : ℕ → List Insn → Type 0
  Coded n is = (d : ℕ) (enter : ℕ → Values → M Term) (v : Term) (above : List Activation) (m : Machine)
      (rs : List Reply) (log : List Steps.Event) (s : State) → RealizesAll (target asm own) d enter → s.left ≤ d
      → Matches (target asm own) s m rs log
      → Realizes (target asm own) above (ready is (cells (v ∷ [])) None above m) rs log
      (given_at (at_site n) (here_of core.name own enter) (v ∷ []) s)

  code_same : Coded 0 (return ∷ [])
  code_same d enter v above m rs log s all l w = record {
    state = ready [] (cells (v ∷ [])) None above m;
    rs' = rs;
    log' = log;
    matches = ready_matches asm own s m [] (cells (v ∷ [])) None above rs log w;
    comes = returned v above m rs log;
  }

  again : (r : State × Outcome Term) → going_on
      (going_on r single) (λ ws. give (only ws)) ≡ r
  again (u, gives t) = refl
  again (u, raises c t) = refl
  again (u, waits q) = refl
  again (u, spent) = refl

  code_other : Coded 1 (call_only 1 2 ∷ [])
  code_other d enter v above m rs log s all l w = subst
      (λ z. Realizes (target asm own) above (ready (call_only 1 2 ∷ []) (cells (v ∷ [])) None above m) rs log z)
      (sym (again (calling (here_of core.name own enter) 0 true (v ∷ []) s)))
      (call_only_realizes asm own 2 0 _ (v ∷ []) refl refl d (here_of core.name own enter) all above [] m rs log s l w)

  code_size : Coded 2 (gc_bif B.Length None 1 (Source.reg (Reg.x_reg 0) ∷ []) (Reg.x_reg 0) ∷ return ∷ [])
  code_size d enter v above m rs log s all l w =
      measures v above m rs log s w (answer B.Length own (v ∷ []))
      (ap (λ z. answer B.Length z (v ∷ [])) w.mailbox.own)

  code_none : Coded 3 (move (Source.literal T.nil) (Reg.x_reg 0) ∷ return ∷ [])
  code_none d enter v above m rs log s all l w = record {
    state = ready [] (cells (T.nil ∷ [])) None above m;
    rs' = rs;
    log' = log;
    matches = ready_matches asm own s m [] (cells (T.nil ∷ [])) None above rs log w;
    comes = moved T.nil v above m rs log;
  }

  module _ (n : ℕ) (f : AsmFun) (found : slice_get asm.funs n ≡ Some f) (arity : f.key.arity ≡ 1)
      (coded : Coded n f.code)
    where
      fun_is : (g : AsmFun) → slice_get asm.funs n ≡ Some g → f ≡ g
      fun_is g e = let z : Some f ≡ Some g = sym found ∙ e in cc

      one_term : (vs : Values) (d : ℕ) (enter : ℕ → Values → M Term) (above : List Activation) (m : Machine)
          (rs : List Reply) (log : List Steps.Event) (s : State) → RealizesAll (target asm own) d enter → s.left ≤ d
          → length vs ≡ 1 → (e : AtEntry asm n vs above m) → Matches (target asm own) s m rs log
          → Realizes (target asm own) above m rs log (given_at (at_site n) (here_of core.name own enter) vs s)
      one_term [] d enter above m rs log s all l one e w = absurd (omega (arith, one))
      one_term (v ∷ []) d enter above m rs log s all l one e w = subst
          (λ z. Realizes (target asm own) above z rs log
          (given_at (at_site n) (here_of core.name own enter) (v ∷ []) s))
          (sym (entry_ready asm own n (v ∷ []) f.code above m s e w.mailbox
          (ap (λ g. g.code) (sym (fun_is e.function e.found)))))
          (coded d enter v above m rs log s all l w)
      one_term (v ∷ u ∷ vs) d enter above m rs log s all l one e w = absurd (omega (arith, one))

      site_realized : DoesAt (framed_runs set_so framed n) (at_site n)
          → RunRealized (target asm own) core.name own n (framed_runs set_so framed n)
      site_realized h d enter vs above m rs log s r low all l e w c = subst
          (λ z. Realizes (target asm own) above m rs log z) (sym (h.alone (here_of core.name own enter) vs s r c))
          (one_term vs d enter above m rs log s all l
          (e.arity ∙ ap (λ g. g.key.arity) (sym (fun_is e.function e.found)) ∙ arity) e w)

  realized : RunsRealized (target asm own) core.name own (framed_runs set_so framed)
  realized zero = site_realized 0 _ refl refl code_same (framed_at 0)
  realized (suc zero) = site_realized 1 _ refl refl code_other (framed_at 1)
  realized (suc (suc zero)) = site_realized 2 _ refl refl code_size (framed_at 2)
  realized (suc (suc (suc zero))) = site_realized 3 _ refl refl code_none (framed_at 3)
  realized (suc (suc (suc (suc n)))) = λ d enter vs above m rs log s r low all l e w c. absurd
      (nothing_found e.function e.found)
    where
      nothing_found : (g : AsmFun) → None ≡ Some g → ⊥
      nothing_found g e = cc

-- The exports.

finds : (f : FunKey) → Contains (export_keys core) f → Finds core asm f
finds f (zero, l, e) =
    subst (λ g. Finds core asm g) e (record { function = _; found = refl; arity = refl; code = refl })
finds f (suc zero, l, e) =
    subst (λ g. Finds core asm g) e (record { function = _; found = refl; arity = refl; code = refl })
finds f (suc (suc zero), l, e) =
    subst (λ g. Finds core asm g) e (record { function = _; found = refl; arity = refl; code = refl })
finds f (suc (suc (suc zero)), l, e) =
    subst (λ g. Finds core asm g) e (record { function = _; found = refl; arity = refl; code = refl })
finds f (suc (suc (suc (suc k))), l, e) = absurd (omega (arith, l))

-- No call binds a reference.

abbrev LeavesMarks : {A : Type 0} → State → State × Outcome A → Type 0
LeavesMarks s r = marks r.0.notes ≡ marks s.notes

keeps_on : {A B : Type 0} (s : State) (r : State × Outcome A) (k : A → M B) → LeavesMarks s r
    → ((a : A) (u : State) → LeavesMarks u (k a u)) → LeavesMarks s (going_on r k)
keeps_on s (u, gives a) k h i = i a u ∙ h
keeps_on s (u, raises c t) k h i = h
keeps_on s (u, waits q) k h i = h
keeps_on s (u, spent) k h i = h

given_leaves : (q : Small) (here : Here) → ((v : Term) (s : State) → LeavesMarks s (result q here v s)) → (vs : Values)
    (s : State) → LeavesMarks s (given q here vs s)
given_leaves q here h [] s = refl
given_leaves q here h (v ∷ []) s = h v s
given_leaves q here h (v ∷ u ∷ vs) s = refl

module _ (here : Here) (kept : (n : ℕ) (vs : Values) (s : State) → LeavesMarks s (here.enter n vs s)) where
  enters : (e : Entry) (n k : ℕ) (vs : Values) (s : State) → LeavesMarks s (entry_left k e (here.enter n vs) s)
  enters e n zero vs s = refl
  enters e n (suc k) vs s = kept n vs (noting (entered e) (record s { left = k }))

  calls_leave : (v : Term) (s : State) → LeavesMarks s (result (goes_to 0) here v s)
  calls_leave v s =
      let e : Entry = record { site = 0; tail = true } in
      let r : State × Outcome Term = entry_left s.left e (here.enter 0 (v ∷ [])) s in
      keeps_on s (going_on r single) (λ ws. give (only ws))
      (keeps_on s r single (enters e 0 s.left (v ∷ []) s) (λ a u. refl)) (λ ws u. refl)

  site_leaves : (n : ℕ) (vs : Values) (s : State) → LeavesMarks s (given_at (at_site n) here vs s)
  site_leaves zero vs s = given_leaves gives_param here (λ v u. refl) vs s
  site_leaves (suc zero) vs s = given_leaves (goes_to 0) here calls_leave vs s
  site_leaves (suc (suc zero)) vs s = given_leaves takes_length here (λ v u. refl) vs s
  site_leaves (suc (suc (suc zero))) vs s = given_leaves (gives_term T.nil) here (λ v u. refl) vs s
  site_leaves (suc (suc (suc (suc n)))) vs s = refl

deep_leaves : (own : Term) (d n : ℕ) (vs : Values) (s : State) → LeavesMarks s (deep (known core own) d n vs s)
unfolding deep
deep_leaves own zero n vs s = refl
deep_leaves own (suc d) n vs s = subst (λ r. LeavesMarks s r)
    (sym (core_given own n (here_of core.name own (deep (known core own) d)) vs s))
    (site_leaves (here_of core.name own (deep (known core own) d)) (deep_leaves own d) n vs s)

binds_none : (f : FunKey) (vs : Values) (x : Script) → BindsNone core f vs x
unfolding evaluated
binds_none f vs x n = let r : State × Outcome Term = deep (known core x.own) (suc n) (known_export core f) vs
    (start x n) in
    marks-reverse r.0.notes ∙ ap reverse (deep_leaves x.own (suc n) (known_export core f) vs (start x n))

pub whole_path : WholePath
whole_path =
    let i : SameInterface core asm = record { name = refl; attributes = refl; exports = refl } in
    let c : CompiledBy sub_binaries_too core asm (λ own. framed_runs set_so framed) =
    record { same = same; realized = realized } in
    let b : SameBehaviour core asm × TailCalls core asm =
    passes_give_module sub_binaries_too core asm (λ own. framed_runs set_so framed) i finds c in (
      b.0,
      b.1,
      passes_give_costs sub_binaries_too refl core asm (λ own. framed_runs set_so framed) finds c
          (λ f vs x d. binds_none f vs x),
    )
