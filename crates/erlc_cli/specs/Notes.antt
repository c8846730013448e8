-- What an answer puts into the notes.
use Rattle.std.specs.Prelude.{◌≡◌, ◌⊎◌, ℕ, List, [], ◌++◌, take, Option, None, Some}
use Rattle.store_io.specs.Causes.{Rose}
use Rattle.store_io.specs.Files.{Alike}
use Rattle.erlc_cli.specs.declared.status.Status.{Status}
use Rattle.erlc_cli.specs.Actions.{Action, compile}
use Rattle.erlc_cli.specs.Lines.{line_of}

-- the line of an answer to an action; where there is none, no file is named
abbrev pub note_of : Option Action → Status → List ℕ
note_of None status = line_of status [] []
note_of (Some (compile input output)) status = line_of status input output

-- bytes have the line at their end; where the count of their faults rose, at least a prefix of it
abbrev pub HasLine : List ℕ → ℕ → ℕ → List ℕ → List ℕ → Type 0
HasLine line faults now old new = (new ≡ old ++ line) ⊎ ((n : ℕ) × (new ≡ old ++ take n line)) × Rose faults now

-- a sink was given the line: what its bytes and the count of its faults tell, before and after
abbrev pub Noted : {N : Type 0} → (N → Option (List ℕ)) → (N → ℕ) → List ℕ → N → N → Type 0
Noted bytes faults line old new = Alike (bytes old) (bytes new) (HasLine line (faults old) (faults new))
