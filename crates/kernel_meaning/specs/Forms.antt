-- Core modules and functions in kernel form as the contract of passes sees them.
use Rattle.std.specs.Prelude.{ℕ, List, ◌++◌, length, slice_get}
use Rattle.erl_term.specs.Term.{Term}
use Rattle.core_form.specs.Core.{Module}
use Rattle.core_meaning.specs.CoreRun.{Known, apart_of, run_site, deep, known}
use Rattle.step_machine.specs.Bodies.{BodyMeaning}
use Rattle.pass_contract.specs.InModule.{InModule}
use Rattle.pass_contract.specs.PassContract.{Run, at_once, by_site, IsProper, most, Form, IsMeaning}
use Rattle.kernel_form.specs.Kernel.{Fun}
use Rattle.kernel_meaning.specs.Environment.{Setting}
use Rattle.kernel_meaning.specs.KernelRun.{fun_does}
use Rattle.kernel_meaning.specs.Walks.{binders, receives, let_calls}
use Rattle.kernel_meaning.specs.Wanted.{wanted}
use Rattle.kernel_meaning.specs.Literals.{literals, argument_counts}
use Rattle.kernel_meaning.specs.Tested.{sizes_named, tests_made, choices_made}

-- what kernel form minds of what is set for a module
abbrev pub setting_in : InModule → Setting
setting_in m = record { widths = m.widths; marks = m.marks; handed = m.uncounted }

-- what a function does
abbrev pub kernel_does : Fun → InModule → Run
kernel_does f m = at_once (fun_does (setting_in m) f)

-- what the contract of passes sees of a function
abbrev pub form_of : Fun → Form
form_of f = record {
  does = kernel_does f;
  arity = length f.params;
  receives = receives f.body;
  calls = let_calls f.body;
  variables = f.params ++ binders f.body;
  wanted = wanted f.body;
  next = f.next;
  literals = literals f.body;
  counts = argument_counts f.body;
  highest = most (sizes_named f.body);
  tests = tests_made f.body;
  choices = choices_made f.body;
}

-- functions by their sites
abbrev pub kernel_runs : InModule → List Fun → ℕ → Run
kernel_runs m fs = by_site (λ f. kernel_does f m) fs

-- what the function of a Core module at a site does, however the others are entered
abbrev pub core_body : Known → ℕ → BodyMeaning
core_body k n here vs = run_site (record {
  name = here.name;
  own = here.own;
  sites = k.sites;
  reached = k.reached;
  apart = apart_of k.reached n (slice_get k.sites n);
  enter = here.enter;
}) (slice_get k.sites n) vs

-- the functions of a Core module
abbrev pub core_runs : Module → Term → ℕ → Run
core_runs m own n = at_once (core_body (known m own) n)

-- they mean what the module means
abbrev pub CoreRunsMean : Type 0
CoreRunsMean = (m : Module) (own : Term) → IsMeaning m.name own (core_runs m own) (deep (known m own))

-- the runs of both forms have one result, which is lawful where what they enter is
pub record MeaningsAreProper : Type 0 where
  pub core : (m : Module) (own : Term) (n : ℕ) → IsProper (core_runs m own n)
  pub kernel : (m : InModule) (f : Fun) → IsProper (kernel_does f m)
