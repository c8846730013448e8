-- What a store tells: its files and its rooms, by their names.
use Rattle.std.specs.Prelude.{◌≡◌, ◌≢◌, ◌⊎◌, ◌↔◌, ℕ, ◌<◌, ◌≤◌, List, [], ◌++◌, length, take, drop, Option, None, Some, Result, Ok, Err}

-- the bytes under each name that has a file
abbrev pub Files : Type 0
Files = List ℕ → Option (List ℕ)

-- the greatest number of bytes under each known name
abbrev pub Rooms : Type 0
Rooms = List ℕ → Option ℕ

-- what a store tells: its files and rooms, if it tells them, and how many faults of reading and of writing it counted
pub record Told : Type 0 where
  pub files : Option Files
  pub rooms : Option Rooms
  pub read_faults : ℕ
  pub write_faults : ℕ

-- what is told before is told after, and stands so
abbrev pub Alike : {A : Type 0} → Option A → Option A → (A → A → Type 0) → Type 0
Alike None None P = Unit {0}
Alike None (Some y) P = ⊥
Alike (Some x) None P = ⊥
Alike (Some x) (Some y) P = P x y

-- each name has what it had
abbrev pub Same : {A : Type 0} → (List ℕ → Option A) → (List ℕ → Option A) → Type 0
Same old new = (n : List ℕ) → new n ≡ old n

-- each other name has what it had
abbrev pub OthersStay : {A : Type 0} → List ℕ → (List ℕ → Option A) → (List ℕ → Option A) → Type 0
OthersStay name old new = (n : List ℕ) → n ≢ name → new n ≡ old n

-- the bytes of a file, none where there is no file
abbrev pub content : Option (List ℕ) → List ℕ
content None = []
content (Some bytes) = bytes

-- the first n bytes of the piece are those of the file from that place on, and there are none exactly at its end
abbrev pub IsPartAt : List ℕ → ℕ → List ℕ → ℕ → Type 0
IsPartAt bytes at piece n =
    (n ≤ length bytes) × (take n piece ≡ take n (drop at bytes)) × (0 < length piece → (n ≡ 0) ↔ (length bytes ≤ at))

-- a part of the file was loaded, and there is one; after a refusal nothing is said
abbrev pub Loads : {E : Type 0} → Option (List ℕ) → ℕ → List ℕ → Result ℕ E → Type 0
Loads None at piece (Ok n) = ⊥
Loads (Some bytes) at piece (Ok n) = IsPartAt bytes at piece n
Loads file at piece (Err e) = Unit {0}

-- the file is empty; after a refusal it is as before, absent or empty
abbrev pub Creates : {E : Type 0} → Result (Unit {0}) E → Option (List ℕ) → Option (List ℕ) → Type 0
Creates (Ok done) old new = new ≡ Some []
Creates (Err e) old new = (new ≡ old) ⊎ (new ≡ None) ⊎ (new ≡ Some [])

-- the file has more bytes at its end; after a refusal it has a part of them, or an absent one stays absent
abbrev pub Appends : {E : Type 0} → List ℕ → Result ℕ E → Option (List ℕ) → Option (List ℕ) → Type 0
Appends piece (Ok n) old new = new ≡ Some (content old ++ take n piece)
Appends piece (Err e) old new = (new ≡ old) ⊎ (n : ℕ) × (new ≡ Some (content old ++ take n piece))

-- what a whole write leaves: the bytes; after a refusal the file is as before, absent, or a prefix of them
abbrev pub Stores : {E : Type 0} → List ℕ → Result (Unit {0}) E → Option (List ℕ) → Option (List ℕ) → Type 0
Stores bytes (Ok done) old new = new ≡ Some bytes
Stores bytes (Err e) old new = (new ≡ old) ⊎ (new ≡ None) ⊎ (n : ℕ) × (new ≡ Some (take n bytes))

-- no room for a part of the piece: the name isn't known, or the piece has bytes and its room is full
abbrev pub HasNoRoom : Option ℕ → Option (List ℕ) → List ℕ → Type 0
HasNoRoom None file piece = Unit {0}
HasNoRoom (Some room) file piece = (piece ≢ []) × (room ≤ length (content file))

-- not all of the bytes fit: the name isn't known, or its room is smaller
abbrev pub LacksRoom : Option ℕ → List ℕ → Type 0
LacksRoom None bytes = Unit {0}
LacksRoom (Some room) bytes = room < length bytes

-- the sink has more bytes at its end; after a refusal a part of them
abbrev pub Puts : {E : Type 0} → List ℕ → Result ℕ E → List ℕ → List ℕ → Type 0
Puts piece (Ok n) old new = new ≡ old ++ take n piece
Puts piece (Err e) old new = (n : ℕ) × (new ≡ old ++ take n piece)

-- all bytes; after a refusal the first of them
abbrev pub PutsAll : {E : Type 0} → List ℕ → Result (Unit {0}) E → List ℕ → List ℕ → Type 0
PutsAll bytes (Ok done) old new = new ≡ old ++ bytes
PutsAll bytes (Err e) old new = (n : ℕ) × (new ≡ old ++ take n bytes)
