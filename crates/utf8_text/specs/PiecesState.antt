-- What is kept of a text that comes in pieces.
use Rattle.std.specs.Prelude.{◌≡◌, ℕ, List, drop, Option, Some, None, is_some, if◌then◌else◌}
use Rattle.std.specs.Str.Lossy.{utf8_valid_len, utf8_error_len}
use Rattle.erl_base.specs.declared.ids.Place.{Place}
use Rattle.utf8_text.specs.Utf8Text.{text_end}

-- where the bytes stopped beginning a text
abbrev pub fault_place : List ℕ → Option Place
fault_place bytes = if is_some (utf8_error_len (drop (utf8_valid_len bytes) bytes)) then Some (text_end bytes) else None

-- what is known of the bytes so far: how many of them are whole characters, and where they stopped being a text
pub record IsFed (bytes : List ℕ) (whole : ℕ) (broken : Option Place) : Type 0 where
  pub whole_is : whole ≡ utf8_valid_len bytes
  pub broken_is : broken ≡ fault_place bytes
