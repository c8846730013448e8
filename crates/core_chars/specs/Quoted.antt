-- Texts between quotes, as atoms and strings have them (Core Erlang 1.0.3, lexical definitions).
use Rattle.std.specs.Prelude.{ℕ, zero, suc, ◌+◌, ◌-◌, ◌==◌, List, [], ◌∷◌, if◌then◌else◌, Option, Some, None}
use Rattle.core_chars.specs.Escapes.{quoted_char}

-- a character that was read before a text, and how many characters write it
abbrev pub with_char : Option (ℕ × ℕ) → Option (List ℕ × ℕ) → Option (List ℕ × ℕ)
with_char None later = None
with_char (Some c) None = None
with_char (Some c) (Some text) = Some (c.0 ∷ text.0, text.1 + 1)

-- the same text, one character later
abbrev pub one_longer : Option (List ℕ × ℕ) → Option (List ℕ × ℕ)
one_longer None = None
one_longer (Some text) = Some (text.0, text.1 + 1)

-- how many more characters belong to the one that was read
abbrev pub more_of : Option (ℕ × ℕ) → ℕ
more_of None = 0
more_of (Some c) = c.1 - 1

-- The text up to the closing quote, and how many characters write it, that quote counted; None where no quote closes it
-- or an escape is none. The first `skip` characters belong to an escape that was read.
abbrev pub quoted_text : (quote : ℕ) → List ℕ → (skip : ℕ) → Option (List ℕ × ℕ)
quoted_text quote [] skip = None
quoted_text quote (c ∷ cs) (suc skip) = one_longer (quoted_text quote cs skip)
quoted_text quote (c ∷ cs) zero =
    if c == quote then Some ([], 1)
    else with_char (quoted_char (c ∷ cs)) (quoted_text quote cs (more_of (quoted_char (c ∷ cs))))
