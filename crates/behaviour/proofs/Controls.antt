-- Controls of same behaviour: a module of one literal and its assembly behave the same over all scripts and bounds;
-- another literal, a silent loop, a local call more, and a read of an unset register do not.
use Rattle.std.proofs.Common.{◌≡◌, ◌≢◌, ℕ, zero, suc, List, [], ◌∷◌, length, pos, refl, sym, ap, ◌∙◌, subst, arith, codes, All, Contains, None, Some, slice_get}
use Rattle.erl_base.specs.declared.ids.FunKey.{FunKey}
use Rattle.erl_base.specs.declared.ids.Place.{Place}
use Rattle.erl_term.specs.Term as T
use Rattle.erl_term.specs.Term.{Term}
use Rattle.world_model.specs.Run.{gives}
use Rattle.world_model.specs.World.{Script}
use Rattle.core_form.specs.declared.module.FunName.{FunName}
use Rattle.core_form.specs.Core.{Module, literal, fun, no_def, and_def, def}
use Rattle.core_meaning.specs.CoreRun.{Result, evaluated, deep}
use Rattle.step_machine.specs.Bodies.{entered_deep}
use Rattle.step_machine.specs.Steps.{Ran, ran, over, unfinished, is_bad}
use Rattle.beam_table.specs.Code.{Reg, Source, Insn, move, return, jump, call_only, AsmFun, AsmModule}
use Rattle.beam_table.specs.MachineRun.{asm_run}
use Rattle.pass_contract.specs.PassContract.{at_once}
use Rattle.behaviour.proofs.Modules.{functions_give_module}
use Rattle.behaviour.proofs.Small.{code, bodies, literals_realized, literals_mean}
use Rattle.behaviour.specs.Called.{Called, export_keys}
use Rattle.behaviour.specs.Matched.{FollowsCosts, StaysWithin, sites_in}
use Rattle.behaviour.specs.FunctionsGiveModule.{Finds, Compiled}
use Rattle.behaviour.specs.SameBehaviour.{SameBehaviour, TailCalls, CheapCalls, FollowsResults}

abbrev pub at1 : Place
at1 = record { line = 1; column = 1 }

abbrev pub one : FunKey
one = record { name = codes "one"; arity = 0 }

abbrev pub one_name : FunName
one_name = record { key = one; place = at1 }

abbrev pub core : Module
core = record {
  name = codes "one";
  exports = one_name ∷ [];
  attributes = [];
  defs = and_def (def at1 one (fun at1 [] (literal at1 (T.int (pos 1))))) no_def;
  floats = None;
  wide = None;
  long = None;
}

abbrev pub function : ℕ → AsmFun
function n = record { key = one; info = 1; entry = 2; code = code (T.int (pos n)) }

abbrev pub asm : ℕ → AsmModule
asm n = record {
  name = codes "one";
  exports = one ∷ [];
  attributes = [];
  funs = function n ∷ [];
}

meant : (x : Script) (n : ℕ)
    → evaluated core one [] x n
    ≡ record {
      happenings = [];
      entries = [];
      looks = [];
      marks = [];
      examined = [];
      subs = 0;
      end = gives (T.int (pos 1));
    }
unfolding evaluated
meant x n = refl

module _ (x : Script) where
  run : ℕ → Ran
  run k = asm_run (asm 1) one [] x k

  result : Result
  result = record {
    happenings = [];
    entries = [];
    looks = [];
    marks = [];
    examined = [];
    subs = 0;
    end = gives (T.int (pos 1));
  }

  within : (k : ℕ) → StaysWithin (run k) result
  unfolding run asm_run result
  within zero = record { happenings = ([], refl); sites = refl; ends = λ o e. absurd cc }
  within (suc zero) = record { happenings = ([], refl); sites = refl; ends = λ o e. absurd cc }
  within (suc (suc k)) = record { happenings = ([], refl); sites = refl; ends = λ o e. (refl, cc) }

  bound_zero : (k : ℕ) → evaluated core one [] x (length (sites_in (run k))) ≡ result
  unfolding evaluated run asm_run result
  bound_zero k = refl

  never_bad : (k : ℕ) → (run k).end ≢ is_bad
  unfolding run asm_run
  never_bad zero e = cc
  never_bad (suc zero) e = cc
  never_bad (suc (suc k)) e = cc

  follows : FollowsResults (asm_run (asm 1) one [] x) (evaluated core one [] x)
  unfolding evaluated asm_run run result
  follows = record {
    core_run_is_matched = λ n. (2, record { happenings = refl; sites = refl; end = refl; examined = tt });
    machine_run_is_matched = λ k. subst (λ r. StaysWithin (run k) r) (sym (bound_zero k)) (within k);
    never_bad = never_bad;
  }

no_arguments : (vs : List Term) → length vs ≡ 0 → vs ≡ []
no_arguments [] e = refl
no_arguments (v ∷ vs) e = absurd (omega (arith, e))

only_one : (f : FunKey) → Contains (export_keys core) f → one ≡ f
only_one f (zero, h, e) = e
only_one f (suc k, h, e) = absurd (omega (arith, h))

-- a call of an export is a call of the one function, without arguments
called : (f : FunKey) (vs : List Term) (x : Script) → Called core f vs x → (one ≡ f) × ([] ≡ vs)
called f vs x c =
    let e = only_one f c.exported in
    (e, sym (no_arguments vs (c.arity ∙ ap (λ g. g.arity) (sym e))))

pub one_same : SameBehaviour core (asm 1)
one_same = record {
  interface = record { name = refl; attributes = refl; exports = refl };
  follows = λ f vs x c.
      let e = called f vs x c in
      subst (λ g. FollowsResults (asm_run (asm 1) g vs x) (evaluated core g vs x)) e.0
      (subst (λ us. FollowsResults (asm_run (asm 1) one us x) (evaluated core one us x)) e.1 (follows x));
}

-- The same from its function alone: what the function does gives the module, and its tail calls.

found_one : (n : ℕ) (f : AsmFun) → slice_get (asm 1).funs n ≡ Some f → f.code ≡ code (T.int (pos 1))
found_one zero f e = ap (λ g. g.code) (sym (only_some e))
  where
    only_some : Some (function 1) ≡ Some f → function 1 ≡ f
    only_some q = cc
found_one (suc n) f e = absurd cc

one_found : (f : FunKey) → Contains (export_keys core) f → Finds core (asm 1) f
one_found f c = subst (λ g. Finds core (asm 1) g) (only_one f c) found
  where
    found : Finds core (asm 1) one
    found = record { function = function 1; found = refl; arity = refl; code = refl }

one_compiled : (f : FunKey) (vs : List Term) (x : Script) → Called core f vs x → Compiled core (asm 1) f vs x
unfolding entered_deep deep
one_compiled f vs x c =
    let e = called f vs x c in
    subst (λ g. Compiled core (asm 1) g vs x) e.0 (subst (λ us. Compiled core (asm 1) one us x) e.1 compiled)
  where
    compiled : Compiled core (asm 1) one [] x
    compiled = record {
      runs = λ n. at_once (bodies (T.int (pos 1)) n);
      realized = literals_realized (asm 1) (T.int (pos 1)) x.own found_one (codes "one");
      meaning = entered_deep (codes "one") x.own (bodies (T.int (pos 1)));
      means = literals_mean (T.int (pos 1)) (codes "one") x.own;
      shown = λ n. record { noted = λ log z. z; end = refl };
    }

one_module : SameBehaviour core (asm 1) × TailCalls core (asm 1)
one_module =
    functions_give_module core (asm 1) (record { name = refl; attributes = refl; exports = refl }) one_found
    one_compiled

pub one_same_too : SameBehaviour core (asm 1)
one_same_too = one_module.0

pub one_tails : TailCalls core (asm 1)
one_tails = one_module.1

-- Nor does it cost more.
pub one_cheap : CheapCalls core (asm 1)
unfolding evaluated asm_run
one_cheap f vs x c =
    let e = called f vs x c in
    subst (λ g. FollowsCosts (asm_run (asm 1) g vs x) (evaluated core g vs x)) e.0
    (subst (λ us. FollowsCosts (asm_run (asm 1) one us x) (evaluated core one us x)) e.1 costs)
  where
    costs : FollowsCosts (asm_run (asm 1) one [] x) (evaluated core one [] x)
    costs n = (
      2,
      record { happenings = refl; sites = refl; end = refl; examined = tt },
      record { examined = refl; passed = tt; subs = omega arith },
    )

-- Code with another literal doesn't do the same.

script : Script
script = record { own = T.pid 1; mailbox = []; replies = []; choices = [] }

nothing : {A : Type 0} (P : A → Type 0) → All P []
nothing P k d h = absurd (omega (arith, h))

is_called : Called core one [] script
unfolding script evaluated
is_called = record {
  exported = (0, omega arith, refl);
  arity = refl;
  own = (1, refl);
  fresh = λ n. nothing _;
}

other_end : (k : ℕ) → (asm_run (asm 2) one [] script k).end ≢ over (gives (T.int (pos 1)))
unfolding asm_run script
other_end zero e = cc
other_end (suc zero) e = cc
other_end (suc (suc k)) e = let d : over (gives (T.int (pos 2))) ≡ over (gives (T.int (pos 1))) = e in cc

pub other_not_same : SameBehaviour core (asm 2) → ⊥
unfolding evaluated
other_not_same s =
    let r = (s.follows one [] script is_called).core_run_is_matched 0 in
    other_end r.0 r.1.end

-- Nor does code that loops, that calls another function on its way, or that reads what isn't set.

abbrev pub with_code : List Insn → AsmModule
with_code is = record {
  name = codes "one";
  exports = one ∷ [];
  attributes = [];
  funs = record { key = one; info = 1; entry = 2; code = is }
      ∷ record {
        key = record { name = codes "two"; arity = 0 };
        info = 3;
        entry = 4;
        code = move (Source.integer (pos 1)) (Reg.x_reg 0) ∷ return ∷ [];
      } ∷ [];
}

looping : (k : ℕ) → asm_run (with_code (jump 2 ∷ [])) one [] script k ≡ ran [] unfinished
unfolding asm_run
looping zero = refl
looping (suc k) = looping k

pub looping_not_same : SameBehaviour core (with_code (jump 2 ∷ [])) → ⊥
unfolding evaluated
looping_not_same s =
    let r = (s.follows one [] script is_called).core_run_is_matched 0 in
    let d : unfinished ≡ over (gives (T.int (pos 1))) = sym (ap (λ z. z.end) (looping r.0)) ∙ r.1.end in
    absurd cc

pub calling_not_same : SameBehaviour core (with_code (call_only 0 4 ∷ [])) → ⊥
unfolding evaluated asm_run script
calling_not_same s = absurd
    (omega (arith, ap length ((s.follows one [] script is_called).machine_run_is_matched 1).sites))

pub reading_not_same : SameBehaviour core (with_code (move (Source.reg (Reg.x_reg 3)) (Reg.x_reg 0) ∷ return ∷ [])) → ⊥
unfolding asm_run script
reading_not_same s = (s.follows one [] script is_called).never_bad 1 refl

-- the same with the other function beside it
pub beside_same : (f : FunKey) (vs : List Term) (x : Script) → Called core f vs x → (k : ℕ)
    → asm_run (with_code (move (Source.integer (pos 1)) (Reg.x_reg 0) ∷ return ∷ [])) one [] x k
    ≡ asm_run (asm 1) one [] x k
unfolding asm_run
beside_same f vs x c zero = refl
beside_same f vs x c (suc zero) = refl
beside_same f vs x c (suc (suc k)) = refl
