-- The answers of the top call and their codes; and what an action may answer, reads, leaves and puts out, by actions:
-- an action more is a case more of each definition. Of words that ask for nothing all is left as it was.
use Rattle.std.specs.Prelude.{◌≡◌, ◌⊎◌, ℕ, List, Option, None, Some, IfSome}
use Rattle.std.specs.Option.{IsSomeAnd}
use Rattle.store_io.specs.Causes.{Rose}
use Rattle.store_io.specs.Files.{Told, Alike, Same}
use Rattle.erlc_cli.specs.declared.status.Status.{Status}
use Rattle.erlc_cli.specs.declared.status.Status.TheVariants.{Done, Refused, Usage, ReadFault, WriteFault, NoMemory, Unsafe, Unfinished, Beyond}
use Rattle.erlc_cli.specs.Actions.{Action, compile}
use Rattle.erlc_cli.specs.CompileAnswers.{IsCompileAnswer, CompileLeaves, NoRoom}
use Rattle.erlc_cli.specs.Headline.{Headline}

-- the exit code of the program
abbrev pub code_of : Status → ℕ
code_of Done = 0
code_of (Refused r) = 1
code_of Usage = 2
code_of ReadFault = 3
code_of WriteFault = 4
code_of NoMemory = 5
code_of Unsafe = 6
code_of Unfinished = 7
code_of Beyond = 8

-- the count of faults of reading rose
abbrev pub ReadsFailed : Told → Told → Type 0
ReadsFailed old new = Rose old.read_faults new.read_faults

-- the count of faults of writing rose
abbrev pub WritesFailed : Told → Told → Type 0
WritesFailed old new = Rose old.write_faults new.write_faults

-- the answers that an action may give; to read the words takes memory
abbrev pub IsAnswer : Option Action → Status → Type 0
IsAnswer None status = (status ≡ Usage) ⊎ (status ≡ NoMemory)
IsAnswer (Some (compile input output)) status = IsCompileAnswer status

-- what an action leaves of files that are told
abbrev pub Leaves : Option Action → Status → Told → Told → Type 0
Leaves None status old new = Alike old.files new.files Same
Leaves (Some (compile input output)) status old new = Alike old.files new.files (CompileLeaves input output status)

-- files are told, and one that the action reads is not there
abbrev pub LacksFile : Option Action → Told → Type 0
LacksFile None told = ⊥
LacksFile (Some (compile input output)) told = IsSomeAnd told.files (λ f. f input ≡ None)

-- the count of faults of reading rose, or a file that the action reads is not there
abbrev pub CannotRead : Option Action → Told → Told → Type 0
CannotRead action old new = ReadsFailed old new ⊎ LacksFile action old

-- files and rooms, if both are told, lack the room for what the action writes
abbrev pub LacksRoomToWrite : Option Action → Told → Type 0
LacksRoomToWrite None told = Unit {0}
LacksRoomToWrite (Some (compile input output)) told =
    IfSome told.rooms (λ r. IfSome told.files (λ f. NoRoom input output f r))

-- the theorem on an action, over a store that tells its files
abbrev pub IsRight : Option Action → Status → Told → Told → Type 0
IsRight None status old new = Unit {0}
IsRight (Some (compile input output)) status old new =
    Alike old.files new.files (Headline input output status (ReadsFailed old new) (WritesFailed old new))

-- what an action puts out, by what the bytes of out and the count of its faults tell, before and after
abbrev pub PutsOut : {O : Type 0} → (O → Option (List ℕ)) → (O → ℕ) → Option Action → O → O → Type 0
PutsOut bytes faults None old new = (bytes new ≡ bytes old) × (faults new ≡ faults old)
PutsOut bytes faults (Some (compile input output)) old new = (bytes new ≡ bytes old) × (faults new ≡ faults old)
