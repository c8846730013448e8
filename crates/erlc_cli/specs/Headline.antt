-- The theorem of the program: what `compile IN OUT` does over a store that tells its files.
use Rattle.std.specs.Prelude.{◌≡◌, ◌⊎◌, ℕ, List, Some}
use Rattle.store_io.specs.Files.{Files, OthersStay}
use Rattle.core_form.specs.Core.{Module}
use Rattle.pass_line.specs.CompileCorrect.{AcceptedText, IsCompiled}
use Rattle.erlc_cli.specs.declared.status.Status.{Status}
use Rattle.erlc_cli.specs.declared.status.Status.TheVariants.{Done, ReadFault, WriteFault, NoMemory}
use Rattle.erlc_cli.specs.CompileAnswers.{HasText}

-- done, want of memory, or a fault whose count rose
abbrev pub IsExcused : Status → Type 0 → Type 0 → Type 0
IsExcused status reads writes =
    (status ≡ Done) ⊎ (status ≡ NoMemory) ⊎ ((status ≡ ReadFault) × reads) ⊎ ((status ≡ WriteFault) × writes)

-- reads and writes: the counts of faults of reading and of writing rose
pub record Headline (input output : List ℕ) (status : Status) (reads writes : Type 0) (old new : Files) : Type 0 where
  -- done, IN was an accepted module text, OUT holds the text of one assembly module, which behaves as IN's module
  -- does, and other files are as before
  pub done : status ≡ Done → OthersStay output old new
      × ((text : List ℕ) × (asm : List ℕ) × HasText (old input) text × (new output ≡ Some asm) × IsCompiled text asm)
  -- and an accepted text is compiled, but for want of memory and counted faults
  pub accepted : (text : List ℕ) (m : Module) → HasText (old input) text → AcceptedText text m
      → IsExcused status reads writes
