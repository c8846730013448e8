-- Places in a text: a line and a column, both from 1. LF ends a line; a column counts characters.
use Rattle.std.specs.Prelude.{ℕ, ◌+◌, ◌==◌, List, [], ◌∷◌, if◌then◌else◌}
use Rattle.std.specs.Char.{len_utf8}
use Rattle.erl_base.specs.declared.ids.Place.{Place}

-- where a text begins
abbrev pub start : Place
start = record { line = 1; column = 1 }

-- the place after the character c, which stands at p
abbrev pub past : ℕ → Place → Place
past c p = if c == 10 then record { line = p.line + 1; column = 1 } else record { line = p.line; column = p.column + 1 }

-- the place after the characters, of which the first stands at p
abbrev pub place_after : List ℕ → Place → Place
place_after [] p = p
place_after (c ∷ cs) p = place_after cs (past c p)

-- how many bytes the characters take in UTF-8
abbrev pub byte_len : List ℕ → ℕ
byte_len [] = 0
byte_len (c ∷ cs) = len_utf8 c + byte_len cs
