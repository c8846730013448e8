-- The promise of the compiler, whole.
use Rattle.std.specs.Prelude.{◌≡◌, ℕ, List, encode_utf8_all}
use Rattle.core_form.specs.Core.{Module}
use Rattle.beam_table.specs.Code.{AsmModule}
use Rattle.behaviour.specs.SameBehaviour.{SameBehaviour, TailCalls, CheapCalls}
use Rattle.asm_forms.specs.ModuleOfText.{AssemblyText}
use Rattle.asm_text.specs.PrintedModule.{module_text}
use Rattle.pass_line.specs.PlainText.{PlainText}

-- which module texts are accepted, with their trees; so far those of plain modules
abbrev pub AcceptedText : List ℕ → Module → Type 0
AcceptedText = PlainText

-- a has the exports of the text's module, each once; for each call of one, each script of the world and each bound it
-- makes what the module makes, both ways, and is never bad; tail entries stay tail entries; and it costs no more
pub record IsCorrect (text : List ℕ) (a : AsmModule) : Type 0 where
  pub tree : Module
  pub accepted : AcceptedText text tree
  pub same : SameBehaviour tree a
  pub tail_calls : TailCalls tree a
  pub costs : CheapCalls tree a

-- the bytes are the text of such a module and of no other, as it is printed
pub record IsCompiled (text bytes : List ℕ) : Type 0 where
  pub code : AsmModule
  pub printed : bytes ≡ encode_utf8_all (module_text code)
  pub written : AssemblyText bytes code
  pub no_other : (b : AsmModule) → AssemblyText bytes b → b ≡ code
  pub correct : IsCorrect text code
