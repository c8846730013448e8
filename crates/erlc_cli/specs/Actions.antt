-- What the words of the command line ask for.
use Rattle.std.specs.Prelude.{ℕ, Bool, false, ◌==◌, List, [], ◌∷◌, Option, Some, None, option_map, option_and_then, if◌then◌else◌, codes}
use Rattle.std.specs.Str.{bytes_eq}

-- an action with the names of its files: `compile IN OUT`
pub data Action : Type 0 where
  compile : List ℕ → List ℕ → Action

-- the character `-`
abbrev pub hyphen : ℕ
hyphen = 45

-- the word begins with `-` and is longer
abbrev pub is_flag : List ℕ → Bool
is_flag (first ∷ second ∷ rest) = first == hyphen
is_flag word = false

-- the words that are taken: the first `--` is left out, and all words behind it are taken as they are; a flag before it
-- is refused
abbrev pub taken : List (List ℕ) → Option (List (List ℕ))
taken [] = Some []
taken (word ∷ words) =
    if bytes_eq word (codes "--") then Some words
    else (if is_flag word then None else option_map (λ rest. word ∷ rest) (taken words))

-- the action that words name: their number is exact, and the first is the name of an action that is built
abbrev pub named : List (List ℕ) → Option Action
named (action ∷ input ∷ output ∷ []) = if bytes_eq action (codes "compile") then Some (compile input output) else None
named words = None

-- what the words ask for
abbrev pub action_of : List (List ℕ) → Option Action
action_of words = option_and_then named (taken words)
