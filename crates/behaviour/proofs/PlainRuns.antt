-- Plain functions as runs, and what their code does: it realizes them.
use Rattle.std.proofs.Common.{◌≡◌, ◌≢◌, ◌+◌, ◌*◌, ℕ, ℤ, zero, suc, List, [], ◌∷◌, length, get_or, slice_get, eqb, if◌then◌else◌, true, Option, None, Some, refl, sym, ap, ◌∙◌, subst}
use Rattle.std.proofs.lemmas.Bool.{eq-eqb}
use Rattle.erl_base.specs.declared.ids.FunKey.{FunKey}
use Rattle.erl_base.specs.Names.{Name, same_key}
use Rattle.erl_term.specs.Term as T
use Rattle.erl_term.specs.Term.{Term}
use Rattle.erl_term.specs.Terms.{Values}
use Rattle.world_model.specs.World.{Reply}
use Rattle.world_model.specs.Run.{State, Outcome, gives}
use Rattle.step_machine.specs.Frames.{with_cell}
use Rattle.step_machine.specs.Steps.{Event, goes, perform, run}
use Rattle.beam_table.specs.Code.{x_reg, AsmFun, AsmModule, return}
use Rattle.beam_table.specs.MachineState.{Activation, Machine, term, unset}
use Rattle.beam_table.specs.GeneralRules.{needs, cells, write, returns_to}
use Rattle.beam_table.specs.Data.{is_movable}
use Rattle.beam_table.specs.InstructionStep.{step}
use Rattle.beam_table.specs.MachineRun.{code_of}
use Rattle.pass_contract.specs.PassContract.{Run, undef, at_once}
use Rattle.behaviour.specs.MachineTarget.{AtEntry, target}
use Rattle.behaviour.specs.PlainModules.{PlainBody, number, atom, parameter, PlainFun, plain_code, plain_asm}
use Rattle.behaviour.specs.Realizes.{Comes, Matches, Realizes, RunsRealized}
use Rattle.behaviour.proofs.Calling.{ready, entry_ready, ready_matches}
use Rattle.behaviour.proofs.Keys.{same_key_itself, other_key, some_is}

-- what a plain function gives
abbrev pub given : PlainBody → List Term → Option Term
given (number z) vs = Some (T.int z)
given (atom a) vs = Some (T.atom a)
given (parameter j) vs = slice_get vs j

abbrev pub end_given : Option Term → Outcome Term
end_given None = undef
end_given (Some t) = gives t

-- with any terms
abbrev pub plain_end : Option PlainFun → Values → Outcome Term
plain_end None vs = undef
plain_end (Some h) vs = if eqb (length vs) h.key.arity then end_given (given h.body vs) else undef

-- a module of them
abbrev pub plain_runs : List PlainFun → ℕ → Run
plain_runs hs n = at_once (λ here vs s. (s, plain_end (slice_get hs n) vs))

pub plain_end_is : (h : PlainFun) (vs : Values) (t : Term) → length vs ≡ h.key.arity → given h.body vs ≡ Some t
    → plain_end (Some h) vs ≡ gives t
plain_end_is h vs t l q =
    ap (λ b. if b then end_given (given h.body vs) else undef) (eq-eqb (length vs) h.key.arity l) ∙ ap end_given q

-- Their code.

cell_at : (vs : List Term) (j : ℕ) (t : Term) → slice_get vs j ≡ Some t → get_or (cells vs) j unset ≡ term t
cell_at [] j t e = absurd cc
cell_at (v ∷ vs) zero t e = ap (λ u. term u) (some_is v t e)
cell_at (v ∷ vs) (suc j) t e = cell_at vs j t e

module _ (a : AsmModule) (own : Term) (above : List Activation) (m : Machine) (rs : List Reply) (log : List Event) where
  -- the value stands in x0
  abbrev valued : Term → Values → Machine
  valued t vs = ready [] (with_cell unset 0 (term t) (cells vs)) None above m

  -- code comes to the return of a term
  abbrev ComesBack : PlainBody → Values → Term → Type 0
  ComesBack b vs t =
      Comes (target a own) (ready (plain_code b) (cells vs) None above m) rs log
      (returns_to above t (valued t vs)) rs log

  number_comes : (z : ℤ) (vs : Values) → ComesBack (number z) vs (T.int z)
  unfolding step run
  number_comes z [] = record { steps = 1; then_same = λ k. refl }
  number_comes z (v ∷ vs) = record { steps = 1; then_same = λ k. refl }

  atom_comes : (c : Name) (vs : Values) → ComesBack (atom c) vs (T.atom c)
  unfolding step run
  atom_comes c [] = record { steps = 1; then_same = λ k. refl }
  atom_comes c (v ∷ vs) = record { steps = 1; then_same = λ k. refl }

  first_comes : (v : Term) (vs : Values) → ComesBack (parameter 0) (v ∷ vs) v
  unfolding step run
  first_comes v vs = record { steps = 0; then_same = λ k. refl }

  move_steps : (j : ℕ) (t v : Term) (vs : Values) → slice_get vs j ≡ Some t
      → step a (ready (plain_code (parameter (suc j))) (cells (v ∷ vs)) None above m)
      ≡ goes (ready (return ∷ []) (term t ∷ cells vs) None above m)
  unfolding step
  move_steps j t v vs e = ap
      (λ c. needs (is_movable c) (write (ready (return ∷ []) (cells (v ∷ vs)) None above m) (x_reg 0) c goes))
      (cell_at vs j t e)

  later_comes : (j : ℕ) (t v : Term) (vs : Values) → slice_get vs j ≡ Some t → ComesBack (parameter (suc j)) (v ∷ vs) t
  unfolding step run
  later_comes j t v vs e = record {
    steps = 1;
    then_same = λ k. ap (λ z. perform z (run (step a) (suc k)) rs log) (move_steps j t v vs e);
  }

  code_comes : (b : PlainBody) (vs : Values) (t : Term) → given b vs ≡ Some t → ComesBack b vs t
  code_comes (number z) vs t e = subst (λ u. ComesBack (number z) vs u) (some_is (T.int z) t e) (number_comes z vs)
  code_comes (atom c) vs t e = subst (λ u. ComesBack (atom c) vs u) (some_is (T.atom c) t e) (atom_comes c vs)
  code_comes (parameter zero) [] t e = absurd cc
  code_comes (parameter zero) (v ∷ vs) t e =
      subst (λ u. ComesBack (parameter 0) (v ∷ vs) u) (some_is v t e) (first_comes v vs)
  code_comes (parameter (suc j)) [] t e = absurd cc
  code_comes (parameter (suc j)) (v ∷ vs) t e = later_comes j t v vs e

  code_realizes : (b : PlainBody) (vs : Values) (t : Term) (s : State) → given b vs ≡ Some t
      → Matches (target a own) s m rs log
      → Realizes (target a own) above (ready (plain_code b) (cells vs) None above m) rs log (s, gives t)
  code_realizes b vs t s e w = record {
    state = valued t vs;
    rs' = rs;
    log' = log;
    matches = ready_matches a own s m [] (with_cell unset 0 (term t) (cells vs)) None above rs log w;
    comes = code_comes b vs t e;
  }

-- Functions of the assembly and of the module, at the same places.

pub record StandsFor (g : AsmFun) (h : PlainFun) : Type 0 where
  pub key : g.key ≡ h.key
  pub code : g.code ≡ plain_code h.body

pub asm_at : (hs : List PlainFun) (k n : ℕ) (h : PlainFun) → slice_get hs n ≡ Some h → (g : AsmFun)
    × (slice_get (plain_asm k hs) n ≡ Some g) × StandsFor g h
asm_at [] k n h e = absurd cc
asm_at (x ∷ hs) k zero h e = (
  record { key = h.key; info = 2 * k + 1; entry = 2 * k + 2; code = plain_code h.body },
  ap (λ (z : PlainFun). Some (made z)) (some_is x h e),
  record { key = refl; code = refl },
)
  where
    made : PlainFun → AsmFun
    made z = record { key = z.key; info = 2 * k + 1; entry = 2 * k + 2; code = plain_code z.body }
asm_at (x ∷ hs) k (suc n) h e = asm_at hs (suc k) n h e

pub plain_at : (hs : List PlainFun) (k n : ℕ) (g : AsmFun) → slice_get (plain_asm k hs) n ≡ Some g → (h : PlainFun)
    × (slice_get hs n ≡ Some h) × StandsFor g h
plain_at [] k n g e = absurd cc
plain_at (x ∷ hs) k zero g e =
    (x, refl, record { key = ap (λ z. z.key) (sym (some_is _ g e)); code = ap (λ z. z.code) (sym (some_is _ g e)) })
plain_at (x ∷ hs) k (suc n) g e = plain_at hs (suc k) n g e

-- each function has a value for its parameters
abbrev pub AllGiven : List PlainFun → Type 0
AllGiven hs = (n : ℕ) (h : PlainFun) (vs : Values) → slice_get hs n ≡ Some h → length vs ≡ h.key.arity
    → (t : Term) × (given h.body vs ≡ Some t)

result_is : (x y : State × Outcome Term) → Some x ≡ Some y → x ≡ y
result_is x y i = cc

module _ (a : AsmModule) (hs : List PlainFun) (funs : a.funs ≡ plain_asm 0 hs) (all : AllGiven hs) (own : Term) where
  entered : (n : ℕ) (vs : Values) (above : List Activation) (m : Machine) (rs : List Reply) (log : List Event)
      (s : State) (h : PlainFun) (e : AtEntry a n vs above m) → slice_get hs n ≡ Some h → StandsFor e.function h
      → Matches (target a own) s m rs log
      → Realizes (target a own) above m rs log (s, plain_end (slice_get hs n) vs)
  entered n vs above m rs log s h e there w z =
      let l : length vs ≡ h.key.arity = e.arity ∙ ap (λ k. k.arity) w.key in
      let v : (t : Term) × (given h.body vs ≡ Some t) = all n h vs there l in
      subst (λ o. Realizes (target a own) above m rs log (s, plain_end o vs)) (sym there)
      (subst (λ o. Realizes (target a own) above m rs log (s, o)) (sym (plain_end_is h vs v.0 l v.1))
      (subst (λ i. Realizes (target a own) above i rs log (s, gives v.0))
      (sym (entry_ready a own n vs (plain_code h.body) above m s e z.mailbox w.code))
      (code_realizes a own above m rs log h.body vs v.0 s v.1 z)))

  pub plain_realized : (name : Name) → RunsRealized (target a own) name own (plain_runs hs)
  plain_realized name n d enter vs above m rs log s r low calls l e w c =
      let p : (h : PlainFun) × (slice_get hs n ≡ Some h) × StandsFor e.function h =
      plain_at hs 0 n e.function (ap (λ fs. slice_get fs n) (sym funs) ∙ e.found) in
      subst (λ z. Realizes (target a own) above m rs log z) (result_is (s, plain_end (slice_get hs n) vs) r c.gives)
      (entered n vs above m rs log s p.0 e p.1 p.2 w)

-- function i of these is the first with this key
abbrev pub Found : List PlainFun → FunKey → ℕ → PlainFun → Type 0
Found [] f i h = ⊥
Found (g ∷ gs) f zero h = (g ≡ h) × (g.key ≡ f)
Found (g ∷ gs) f (suc i) h = (g.key ≢ f) × Found gs f i h

pub found_at : (hs : List PlainFun) (f : FunKey) (i : ℕ) (h : PlainFun) → Found hs f i h → (slice_get hs i ≡ Some h)
    × (h.key ≡ f)
found_at [] f i h w = absurd w
found_at (g ∷ gs) f zero h w = (ap Some w.0, ap (λ z. z.key) (sym w.0) ∙ w.1)
found_at (g ∷ gs) f (suc i) h w = found_at gs f i h w.1

pub code_found : (hs : List PlainFun) (k : ℕ) (f : FunKey) (i : ℕ) (h : PlainFun) → Found hs f i h
    → code_of (plain_asm k hs) f ≡ plain_code h.body
code_found [] k f i h w = absurd w
code_found (g ∷ gs) k f zero h w =
    ap (λ b. if b then plain_code g.body else code_of (plain_asm (suc k) gs) f)
    (subst (λ l. same_key f l ≡ true) (sym w.1) (same_key_itself f))
    ∙ ap (λ z. plain_code z.body) w.0
code_found (g ∷ gs) k f (suc i) h w =
    ap (λ b. if b then plain_code g.body else code_of (plain_asm (suc k) gs) f) (other_key f g.key (λ e. w.0 (sym e)))
    ∙ code_found gs (suc k) f i h w.1
