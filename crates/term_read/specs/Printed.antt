-- What the law on printed texts asks of what follows a term.
use Rattle.std.specs.Prelude.{◌≡◌, ℕ, false, List, [], ◌∷◌}
use Rattle.term_text.specs.Atoms.{is_name_character}

-- what follows goes on neither a word nor a number
abbrev pub Ends : List ℕ → Type 0
Ends [] = Unit {0}
Ends (c ∷ cs) = is_name_character c ≡ false
