-- What `compile IN OUT` may answer, and what it leaves of files that are told, by its answer.
use Rattle.std.specs.Prelude.{◌≡◌, ◌⊎◌, ℕ, ◌<◌, ◌≤◌, List, length, take, Option, None, Some}
use Rattle.erl_base.specs.declared.refusal.Refusal.{Refusal}
use Rattle.erl_base.specs.declared.refusal.Kind.{Kind}
use Rattle.erl_base.specs.declared.refusal.Kind.TheVariants.{TooLarge, Profile}
use Rattle.erl_base.specs.declared.refusal.Outside.TheVariants.{NotBuilt}
use Rattle.store_io.specs.Files.{Files, Rooms, Same, OthersStay, LacksRoom}
use Rattle.erlc_cli.specs.declared.status.Status.{Status}
use Rattle.erlc_cli.specs.declared.status.Status.TheVariants.{Done, Refused, Usage, WriteFault, Unsafe, Unfinished, Beyond}
use Rattle.core_form.specs.Core.{Module}
use Rattle.pass_line.specs.CompileCorrect.{AcceptedText, IsCompiled}

-- the file is longer than the limit
abbrev pub too_large : Refusal
too_large = record { kind = TooLarge; place = record { line = 0; column = 0 } }

-- the text holds what is not compiled yet
abbrev pub not_built : Refusal
not_built = record { kind = Profile NotBuilt; place = record { line = 1; column = 1 } }

-- what `compile` may answer
abbrev pub IsCompileAnswer : Status → Type 0
IsCompileAnswer (Refused r) = (r ≡ too_large) ⊎ (r ≡ not_built)
IsCompileAnswer Usage = ⊥
IsCompileAnswer Unsafe = ⊥
IsCompileAnswer Unfinished = ⊥
IsCompileAnswer Beyond = ⊥
IsCompileAnswer status = Unit {0}

-- the most bytes of a module's text
abbrev pub most_bytes : ℕ
most_bytes = 16777216

-- the file has this text, which is no longer than the limit
abbrev pub HasText : Option (List ℕ) → List ℕ → Type 0
HasText file text = (file ≡ Some text) × (length text ≤ most_bytes)

-- a file past the limit, or a text that is not accepted
abbrev pub IsCause : Kind → List ℕ → Files → Type 0
IsCause TooLarge input old = (text : List ℕ) × (old input ≡ Some text) × (most_bytes < length text)
IsCause _ input old = (text : List ℕ) × HasText (old input) text × ((m : Module) → AcceptedText text m → ⊥)

-- after a failed write OUT is as before, absent, or holds a prefix of the compiled text
abbrev pub HasPrefix : List ℕ → Option (List ℕ) → Option (List ℕ) → Type 0
HasPrefix asm old new = (new ≡ old) ⊎ (new ≡ None) ⊎ (n : ℕ) × (new ≡ Some (take n asm))

-- only OUT changes, and only once the whole compiled text is there
abbrev pub CompileLeaves : List ℕ → List ℕ → Status → Files → Files → Type 0
CompileLeaves input output Done old new =
    OthersStay output old new
    × (text : List ℕ) × (asm : List ℕ) × HasText (old input) text × IsCompiled text asm × (new output ≡ Some asm)
CompileLeaves input output WriteFault old new =
    OthersStay output old new
    × (text : List ℕ) × (asm : List ℕ) × HasText (old input) text × IsCompiled text asm
    × HasPrefix asm (old output) (new output)
CompileLeaves input output (Refused r) old new = Same old new × IsCause r.kind input old
CompileLeaves input output status old new = Same old new

-- the compiled text doesn't fit: OUT isn't known, or its room is smaller
abbrev pub NoRoom : List ℕ → List ℕ → Files → Rooms → Type 0
NoRoom input output files rooms =
    (text : List ℕ) × (asm : List ℕ) × HasText (files input) text × IsCompiled text asm × LacksRoom (rooms output) asm
