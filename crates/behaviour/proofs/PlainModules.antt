-- The assembly of a plain module behaves as the module, and costs no more: shown function by function.
use Rattle.std.proofs.Common.{◌≡◌, ℕ, zero, suc, List, [], ◌∷◌, map, slice_get, Bool, true, Some, Contains, refl, sym, ap, ◌∙◌, subst, arith}
use Rattle.erl_base.specs.Names.{is_key}
use Rattle.erl_base.specs.declared.ids.FunKey.{FunKey}
use Rattle.erl_term.specs.Term.{Term}
use Rattle.erl_term.specs.Terms.{Values}
use Rattle.world_model.specs.World.{Script}
use Rattle.world_model.specs.Run.{State, Outcome}
use Rattle.core_form.specs.Core.{Module}
use Rattle.core_meaning.specs.CoreRun as E
use Rattle.core_meaning.specs.CoreRun.{apart_of, deep, known, known_export, site_named, ended, evaluated}
use Rattle.beam_table.specs.Code.{AsmFun}
use Rattle.beam_table.specs.ValidModule.{every}
use Rattle.pass_contract.specs.Lawful.{Lawful, IsLawful}
use Rattle.pass_contract.specs.PassContract.{IsMeaning}
use Rattle.pass_contract.proofs.Modules.{lawful_itself}
use Rattle.behaviour.specs.Called.{export_keys}
use Rattle.behaviour.specs.FunctionsGiveModule.{Finds, Compiled, BindsNone, CompiledCheaply}
use Rattle.behaviour.specs.SameBehaviour.{SameBehaviour, TailCalls}
use Rattle.behaviour.specs.PlainModules.{PlainFun, plain_asm, plain_assembly, IsPlainModule, PlainModulesBehave}
use Rattle.behaviour.proofs.Keys.{and_true}
use Rattle.behaviour.proofs.Modules.{functions_give_module, functions_give_costs}
use Rattle.behaviour.proofs.PlainMeaning.{IsPlain, plain_each, all_given, module_does, found_scope, key_found}
use Rattle.behaviour.proofs.PlainRuns.{plain_end, plain_runs, StandsFor, asm_at, plain_realized, Found, found_at, code_found}
use Rattle.behaviour.proofs.Whole.{shown_itself}

-- what holds of every item holds of one that is there
every_at : {A : Type 0} (p : A → Bool) (xs : List A) (x : A) → every p xs ≡ true → Contains xs x → p x ≡ true
every_at p [] x e (k, l, q) = absurd (omega (arith, l))
every_at p (y ∷ ys) x e (zero, l, q) = subst (λ z. p z ≡ true) q (and_true (p y) (every p ys) e).0
every_at p (y ∷ ys) x e (suc k, l, q) = every_at p ys x (and_true (p y) (every p ys) e).1 (k, omega (arith, l), q)

module _ (m : Module) (hs : List PlainFun) (w : IsPlainModule m hs) where
  plain : IsPlain m.defs hs
  plain = plain_each m.defs hs w.plain

  -- What the module means.

  deep_is : (own : Term) (d n : ℕ) (vs : Values) (s : State)
      → deep (known m own) (suc d) n vs s ≡ (s, plain_end (slice_get hs n) vs)
  unfolding deep
  deep_is own d n vs s = module_does m hs n vs s (record {
    name = m.name;
    own = own;
    sites = (known m own).sites;
    reached = (known m own).reached;
    apart = apart_of (known m own).reached n (slice_get (known m own).sites n);
    enter = deep (known m own) d;
  }) plain

  deep_lawful : (own : Term) (d : ℕ) → IsLawful (deep (known m own) d)
  unfolding deep
  deep_lawful own zero n vs s = lawful_itself s
  deep_lawful own (suc d) n vs s = subst (λ r. Lawful s r.0) (sym (deep_is own d n vs s)) (lawful_itself s)

  none_is : (own : Term) (n : ℕ) (vs : Values) (s : State) → deep (known m own) zero n vs s ≡ (s, Outcome.spent)
  unfolding deep
  none_is own n vs s = refl

  means : (own : Term) → IsMeaning m.name own (plain_runs hs) (deep (known m own))
  means own = record {
    none = none_is own;
    more = λ d n vs s. record { within = 0; gives = ap Some (sym (deep_is own d n vs s)) };
    lawful = deep_lawful own;
  }

  -- Its exports.

  there : (f : FunKey) → Contains (export_keys m) f → (i : ℕ) × (h : PlainFun) × Found hs f i h
  there f c = key_found hs f (every_at (λ g. is_key g (map (λ h. h.key) hs)) (export_keys m) f w.exports c)

  finds : (f : FunKey) → Contains (export_keys m) f → Finds m (plain_assembly m hs) f
  finds f c =
      let t : (i : ℕ) × (h : PlainFun) × Found hs f i h = there f c in
      let p : (slice_get hs t.0 ≡ Some t.1) × (t.1.key ≡ f) = found_at hs f t.0 t.1 t.2 in
      let g : (g : AsmFun) × (slice_get (plain_asm 0 hs) t.0 ≡ Some g) × StandsFor g t.1 = asm_at hs 0 t.0 t.1 p.0 in
      let n : known_export m f ≡ t.0 =
      ap site_named (found_scope m.defs hs f t.0 t.1 0 [] plain w.distinct t.2) ∙ omega arith in
      record {
        function = g.0;
        found = ap (λ k. slice_get (plain_asm 0 hs) k) n ∙ g.1;
        arity = ap (λ k. k.arity) (sym p.1 ∙ sym g.2.key);
        code = code_found hs 0 f t.0 t.1 t.2 ∙ sym g.2.code;
      }

  -- Each call.

  compiled : (f : FunKey) (vs : Values) (x : Script) → Compiled m (plain_assembly m hs) f vs x
  compiled f vs x = record {
    runs = plain_runs hs;
    realized = plain_realized (plain_assembly m hs) hs refl (all_given m.defs hs plain) x.own m.name;
    meaning = deep (known m x.own);
    means = means x.own;
    shown = λ n. shown_itself _;
  }

  binds_none : (f : FunKey) (vs : Values) (x : Script) → BindsNone m f vs x
  unfolding evaluated
  binds_none f vs x n = ap (λ r. (ended x.choices r).marks) (deep_is x.own n (known_export m f) vs (E.start x n))

  cheaply : (f : FunKey) (vs : Values) (x : Script) → CompiledCheaply m (plain_assembly m hs) f vs x
  unfolding compiled
  cheaply f vs x =
      record { compiled = compiled f vs x; costs = λ n log z. z; unmarked = binds_none f vs x }

pub plain_modules_behave : PlainModulesBehave
plain_modules_behave m hs w =
    let b : SameBehaviour m (plain_assembly m hs) × TailCalls m (plain_assembly m hs) =
    functions_give_module m (plain_assembly m hs) (record { name = refl; attributes = refl; exports = refl })
    (finds m hs w) (λ f vs x c. compiled m hs w f vs x) in
    (b.0, b.1, functions_give_costs m (plain_assembly m hs) (finds m hs w) (λ f vs x c. cheaply m hs w f vs x))
