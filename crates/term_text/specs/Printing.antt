-- How a text grows while it is printed.
use Rattle.std.specs.Prelude.{◌≡◌, ℕ, List, ◌++◌}

-- old has grown to new by what `on` gives, whatever comes next
abbrev pub Adds : List ℕ → List ℕ → (List ℕ → List ℕ) → Type 0
Adds old new on = (r : List ℕ) → new ++ r ≡ old ++ on r
