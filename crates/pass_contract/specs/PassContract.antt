-- The contracts of every pass over one function, whatever the forms before and after it (this project's own).
use Rattle.std.specs.Prelude.{◌≡◌, ◌≤◌, ◌+◌, ◌-◌, ◌^◌, ◌⊎◌, max, ℕ, zero, suc, List, [], ◌∷◌, map, length, slice_get, Contains, Bool, true, ◌&&◌, eqb, if◌then◌else◌, Option, Some, None, IsTrue, codes}
use Rattle.erl_base.specs.Names.{Name}
use Rattle.erl_term.specs.Term as T
use Rattle.erl_term.specs.Term.{Term}
use Rattle.erl_term.specs.Terms.{Values, word}
use Rattle.erl_term.specs.Depth.{depth}
use Rattle.erl_term.specs.Ranges.{fits}
use Rattle.erl_term.specs.WellFormed.{maps_rise}
use Rattle.world_model.specs.Run.{State, Outcome, raises, spent, M}
use Rattle.step_machine.specs.Bodies.{Here, here_of, BodyMeaning}
use Rattle.pass_contract.specs.SameRun.{Compared, SameState, SameResult, EntersAgree}
use Rattle.pass_contract.specs.Lawful.{Lawful, IsLawful}
use Rattle.pass_contract.specs.InModule.{InModule}

-- What a function does with arguments, where the others are entered so: where a run comes to in so many turns, if it is
-- over by then and broke no rule. A form whose meaning needs no turns is over at once.
abbrev pub Run : Type 0
Run = Here → Values → State → ℕ → Option (State × Outcome Term)

-- a meaning without turns
abbrev pub at_once : BodyMeaning → Run
at_once m = λ here vs s k. Some (m here vs s)

-- what comes of a function that is not there
abbrev pub undef : Outcome Term
undef = raises T.error (word (codes "undef"))

-- where there is no function
abbrev pub missing : Run
missing here vs s k = Some (s, undef)

-- a function of n parameters: entered with another number of terms it raises undef, as one that is not there does
abbrev pub fitting : ℕ → Run → Run
fitting n run here vs s k = if eqb (length vs) n then run here vs s k else Some (s, undef)

-- functions by their sites
abbrev pub by_site : {F : Type 0} → (F → Run) → List F → ℕ → Run
by_site f fs n = elim (slice_get fs n) as (λ _. Run) [ None ↦ missing | Some x ↦ f x ]

-- a run is over after some turns, with this result
pub record ComesTo (run : Run) (here : Here) (vs : Values) (s : State) (r : State × Outcome Term) : Type 0 where
  pub within : ℕ
  pub gives : run here vs s within ≡ Some r

-- whatever comes of a run is the one result that it has
abbrev pub HasOneResult : Run → Type 0
HasOneResult run =
    (here : Here) (vs : Values) (s : State) (r q : State × Outcome Term)
    → ComesTo run here vs s r → ComesTo run here vs s q → r ≡ q

-- what holds of the runs of every form: they have one result, which is lawful where what they enter is
pub record IsProper (run : Run) : Type 0 where
  pub one_result : HasOneResult run
  pub lawful : (here : Here) (vs : Values) (s : State) (r : State × Outcome Term)
      → IsLawful here.enter → ComesTo run here vs s r → Lawful s r.0

-- Agreement: the new function gives what the old one does, up to what is not compared.

-- from here
pub record GivesSame (w : Compared) (new : Run) (here : Here) (vs : Values) (t : State)
    (r : State × Outcome Term) : Type 0 where
  pub result : State × Outcome Term
  pub gives : ComesTo new here vs t result
  pub same : SameResult w r result

-- for every lawful way in which functions are entered, as long as these agree
abbrev pub Agrees : Compared → Run → Run → Type 0
Agrees w old new =
    (name : Name) (own : Term) (f g : ℕ → Values → M Term) → IsLawful f → IsLawful g → EntersAgree w f g →
    (vs : Values) (s t : State) → SameState w s t → (r : State × Outcome Term) →
    ComesTo old (here_of name own f) vs s r → GivesSame w new (here_of name own g) vs t r

-- Refinement: what the old function gives the new one gives too, from every state. It is no agreement: that would ask
-- states that differ in notes to lead to the same, which a body that uses a marker does not.
abbrev pub Refines : Run → Run → Type 0
Refines old new =
    (here : Here) (vs : Values) (s : State) (r : State × Outcome Term)
    → IsLawful here.enter → ComesTo old here vs s r → ComesTo new here vs s r

-- What a contract sees of a function in some form: what it does in each setting of its module; how many parameters it
-- has; the numbers of its receives; the variables that its calls of other modules' functions are bound to, and all
-- variables that it binds; how many variables more a body made of it will set; a number above all variables; its
-- literals; how many arguments its calls have; the greatest number of an element or size of a tuple that it names; and
-- how many steps test something, and choose among terms, in it or in a body made of it.
pub record Form : Type 0 where
  pub does : InModule → Run
  pub arity : ℕ
  pub receives : List ℕ
  pub calls : List ℕ
  pub variables : List ℕ
  pub wanted : ℕ
  pub next : ℕ
  pub literals : List Term
  pub counts : List ℕ
  pub highest : ℕ
  pub tests : ℕ
  pub choices : ℕ

-- the greatest number
abbrev pub most : List ℕ → ℕ
most [] = 0
most (n ∷ ns) = max n (most ns)

-- the depth of the deepest literal
abbrev pub deepest : List Term → ℕ
deepest ts = most (map depth ts)

-- whether all integers of literals are within 128 bits and the keys of their maps rise
abbrev pub are_fitting : List Term → Bool
are_fitting [] = true
are_fitting (t ∷ ts) = fits t && maps_rise t && are_fitting ts

-- how deep the literals nest that a pass may make
abbrev pub most_made : ℕ
most_made = 10

-- the greatest number of an element, or size of a tuple, that a pass may name on its own: that of the machine's
-- instructions
abbrev pub most_named : ℕ
most_named = 2 ^ 24 - 1

-- what is in the new list was in the old one
abbrev pub IsLeft : List ℕ → List ℕ → Type 0
IsLeft old new = (n : ℕ) → Contains new n → Contains old n

-- What every pass keeps beside what its function does. Its result is a form of its own or of another kind.
pub record KeepsShape (old new : Form) : Type 0 where
  pub arity : new.arity ≡ old.arity
  -- each receive that is left keeps its number
  pub receives : IsLeft old.receives new.receives
  -- what a pass adds has numbers of its own
  pub added : (v : ℕ) → Contains new.variables v → Contains old.variables v ⊎ (old.next ≤ v)
  pub next : old.next ≤ new.next
  -- a call whose variable the old function binds is its call of that variable, and one whose variable is left stays; a
  -- call whose value had no name gets a new one
  pub calls : (v : ℕ) → Contains new.calls v → Contains old.variables v → Contains old.calls v
  pub stays : (v : ℕ) → Contains old.calls v → Contains new.variables v → Contains new.calls v
  -- variables, and those that are still to be set, do not become more
  pub variables : length new.variables + new.wanted ≤ length old.variables + old.wanted
  -- literals stay literals of a text, and calls calls of one
  pub deepest : deepest new.literals ≤ max (deepest old.literals) most_made
  pub fitting : IsTrue (are_fitting old.literals) → IsTrue (are_fitting new.literals)
  pub widest : most new.counts ≤ most old.counts
  -- what instructions name stays within them
  pub highest : new.highest ≤ max old.highest most_named

-- What most passes keep besides: the new function tests no more, and chooses no more. So a choice among literals stays
-- one step.
pub record AddsNoTest (old new : Form) : Type 0 where
  pub tests : new.tests ≤ old.tests
  pub choices : new.choices ≤ old.choices

-- a pass that agrees, with this compared, from one setting of its module to another: what is handed on as a context is
-- no sub-binary before it is, and nothing is left out of the count behind it
pub record KeepsAcross (w : Compared) (m n : InModule) (old new : Form) : Type 0 where
  pub agrees : Agrees w (old.does m) (new.does n)
  pub shape : KeepsShape old new

-- in one setting
abbrev pub Keeps : Compared → InModule → Form → Form → Type 0
Keeps w m old new = KeepsAcross w m m old new

-- a pass that refines, in this setting of its module
pub record KeepsResults (m : InModule) (old new : Form) : Type 0 where
  pub refines : Refines (old.does m) (new.does m)
  pub shape : KeepsShape old new

-- Modules.

-- functions entered at most d deep, for each d, whose results are what these runs give
pub record IsMeaning (name : Name) (own : Term) (runs : ℕ → Run) (enter : ℕ → ℕ → Values → M Term) : Type 0 where
  pub none : (n : ℕ) (vs : Values) (s : State) → enter zero n vs s ≡ (s, spent)
  pub more : (d n : ℕ) (vs : Values) (s : State)
      → ComesTo (runs n) (here_of name own (enter d)) vs s (enter (suc d) n vs s)
  pub lawful : (d : ℕ) → IsLawful (enter d)

-- the new module has a meaning where the old one has, which comes from equal states to the same results at every depth
pub record MeansSame (w : Compared) (name : Name) (own : Term) (new : ℕ → Run)
    (enter : ℕ → ℕ → Values → M Term) : Type 0 where
  pub meaning : ℕ → ℕ → Values → M Term
  pub means : IsMeaning name own new meaning
  pub same : (d n : ℕ) (vs : Values) (s : State) → SameResult w (enter d n vs s) (meaning d n vs s)

-- of modules, whatever their name and the process are
abbrev pub ModuleAgrees : Compared → (ℕ → Run) → (ℕ → Run) → Type 0
ModuleAgrees w old new =
    (name : Name) (own : Term) (enter : ℕ → ℕ → Values → M Term)
    → IsMeaning name own old enter → MeansSame w name own new enter

-- functions that agree make modules that agree
abbrev pub FunctionsMakeModules : Type 0
FunctionsMakeModules =
    (w : Compared) (old new : ℕ → Run)
    → ((n : ℕ) → IsProper (new n)) → ((n : ℕ) → Agrees w (old n) (new n)) → ModuleAgrees w old new

-- a module's meaning stays its meaning where each function is refined
abbrev pub RefinedMeaning : Type 0
RefinedMeaning =
    (old new : ℕ → Run) → ((n : ℕ) → Refines (old n) (new n))
    → (name : Name) (own : Term) (enter : ℕ → ℕ → Values → M Term)
    → IsMeaning name own old enter → IsMeaning name own new enter

-- passes in a row: the functions of each module agree with those of the next one, or are refined by them
pub data Row (w : Compared) : (ℕ → Run) → (ℕ → Run) → Type 0 where
  ends : (a : ℕ → Run) → Row w a a
  agreed : (a b c : ℕ → Run)
      → ((n : ℕ) → IsProper (b n)) → ((n : ℕ) → Agrees w (a n) (b n)) → Row w b c → Row w a c
  refined : (a b c : ℕ → Run) → ((n : ℕ) → Refines (a n) (b n)) → Row w b c → Row w a c

-- any such row gives the last module a meaning where the first one has one
abbrev pub RowsMeanSame : Type 0
RowsMeanSame = (w : Compared) (a c : ℕ → Run) → Row w a c → ModuleAgrees w a c

-- and so do modules that agree in a row
abbrev pub ModulesCompose : Type 0
ModulesCompose =
    (w : Compared) (a b c : ℕ → Run) → ModuleAgrees w a b → ModuleAgrees w b c → ModuleAgrees w a c

-- for functions whose meanings need no turns, agreement is that of their results
abbrev pub AtOnceAgrees : Type 0
AtOnceAgrees = (w : Compared) (old new : BodyMeaning) →
    ((name : Name) (own : Term) (f g : ℕ → Values → M Term) → EntersAgree w f g → (vs : Values) (s t : State)
    → SameState w s t → SameResult w (old (here_of name own f) vs s) (new (here_of name own g) vs t))
    → Agrees w (at_once old) (at_once new)

-- on functions of n parameters both contracts need to be shown for that many terms alone
pub record FittingSuffices : Type 0 where
  pub agrees : (w : Compared) (n : ℕ) (old new : Run) →
      ((name : Name) (own : Term) (f g : ℕ → Values → M Term) → IsLawful f → IsLawful g → EntersAgree w f g →
      (vs : Values) → length vs ≡ n → (s t : State) → SameState w s t → (r : State × Outcome Term) →
      ComesTo old (here_of name own f) vs s r → GivesSame w new (here_of name own g) vs t r)
      → Agrees w (fitting n old) (fitting n new)
  pub refines : (n : ℕ) (old new : Run) →
      ((here : Here) (vs : Values) → length vs ≡ n → (s : State) (r : State × Outcome Term)
      → IsLawful here.enter → ComesTo old here vs s r → ComesTo new here vs s r)
      → Refines (fitting n old) (fitting n new)
  pub proper : (n : ℕ) (run : Run) → IsProper run → IsProper (fitting n run)
