-- Which bytes are UTF-8 text, where they stop being one, and what is refused.
use Rattle.std.specs.Prelude.{◌≡◌, ℕ, List, ◌++◌, take, chars, IsUtf8, ⊤}
use Rattle.std.specs.Str.Lossy.{utf8_valid_len}
use Rattle.erl_base.specs.declared.ids.Place.{Place}
use Rattle.erl_base.specs.declared.refusal.Fault.{Fault}
use Rattle.erl_base.specs.declared.refusal.Fault.TheVariants.{Refused, NoMemory as OutOfMemory}
use Rattle.erl_base.specs.declared.refusal.Refusal.{Refusal}
use Rattle.erl_base.specs.declared.refusal.Kind.TheVariants.{NotUtf8}
use Rattle.utf8_text.specs.Places.{start, place_after}

-- some text begins with the bytes
abbrev pub BeginsText : List ℕ → Type 0
BeginsText bytes = (more : List ℕ) × IsUtf8 (bytes ++ more)

-- just after the longest front of the bytes that is UTF-8 text
abbrev pub text_end : List ℕ → Place
text_end bytes = place_after (chars (take (utf8_valid_len bytes) bytes)) start

-- the refusal of bytes that begin no text
abbrev pub not_utf8 : List ℕ → Refusal
not_utf8 bytes = record { kind = NotUtf8; place = text_end bytes }

-- however the bytes go on, they are no text, and this is their refusal
abbrev pub IsRefused : List ℕ → Refusal → Type 0
IsRefused bytes refusal = (more : List ℕ) → (IsUtf8 (bytes ++ more) → ⊥) × (refusal ≡ not_utf8 (bytes ++ more))

-- a fault of the bytes so far; want of memory has no cause
abbrev pub RefusesStart : List ℕ → Fault → Type 0
RefusesStart bytes (Refused refusal) = IsRefused bytes refusal
RefusesStart bytes OutOfMemory = ⊤

-- what a fault leaves: want of memory changes nothing, and a refusal comes again
abbrev pub Leaves : (old new : List ℕ) → Fault → Type 0
Leaves old new (Refused refusal) = IsRefused new refusal
Leaves old new OutOfMemory = (new ≡ old) × BeginsText old

-- a fault of the whole bytes; want of memory comes only where they are text
abbrev pub RefusesWhole : List ℕ → Fault → Type 0
RefusesWhole bytes (Refused refusal) = (IsUtf8 bytes → ⊥) × (refusal ≡ not_utf8 bytes)
RefusesWhole bytes OutOfMemory = IsUtf8 bytes

-- the same of bytes that come in pieces, where want of memory has no cause
abbrev pub RefusesPieces : List ℕ → Fault → Type 0
RefusesPieces bytes (Refused refusal) = (IsUtf8 bytes → ⊥) × (refusal ≡ not_utf8 bytes)
RefusesPieces bytes OutOfMemory = ⊤
