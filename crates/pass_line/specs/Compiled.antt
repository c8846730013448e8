-- What compiling bytes gives, and what it refuses.
use Rattle.std.specs.Prelude.{◌≡◌, ℕ, List, ⊤}
use Rattle.erl_base.specs.declared.refusal.Fault.{Fault}
use Rattle.erl_base.specs.declared.refusal.Fault.TheVariants.{Refused, NoMemory as OutOfMemory}
use Rattle.erl_base.specs.declared.refusal.Kind.TheVariants.{Profile}
use Rattle.erl_base.specs.declared.refusal.Outside.TheVariants.{NotBuilt}
use Rattle.erl_base.specs.declared.refusal.Refusal.{Refusal}
use Rattle.core_form.specs.Core.{Module}
use Rattle.beam_table.specs.Code.{AsmModule}
use Rattle.behaviour.specs.PlainModules.{PlainFun, IsPlainModule, plain_assembly}
use Rattle.pass_line.specs.PlainText.{PlainText}

-- the assembly of the plain module whose text the bytes are
pub record HasCode (bytes : List ℕ) (a : AsmModule) : Type 0 where
  pub tree : Module
  pub funs : List PlainFun
  pub text : PlainText bytes tree
  pub plain : IsPlainModule tree funs
  pub code : a ≡ plain_assembly tree funs

-- the bytes are the text of no plain module
abbrev pub IsNoPlainText : List ℕ → Type 0
IsNoPlainText bytes = (m : Module) → PlainText bytes m → ⊥

-- the refusal of what no pass compiles yet
abbrev pub not_built : Refusal
not_built = record { kind = Profile NotBuilt; place = record { line = 1; column = 1 } }

-- the only refusal; want of memory has no cause
abbrev pub IsNotBuilt : List ℕ → Fault → Type 0
IsNotBuilt bytes (Refused refusal) = (refusal ≡ not_built) × IsNoPlainText bytes
IsNotBuilt bytes OutOfMemory = ⊤
