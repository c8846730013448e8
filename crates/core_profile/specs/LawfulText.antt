-- Which texts of modules are lawful: all that is compiled in the end.
use Rattle.std.specs.Prelude.{◌≡◌, ◌≤◌, ℕ, List, [], length, chars, IsUtf8}
use Rattle.core_lex.specs.Tokens.{tokens}
use Rattle.core_form.specs.Core.{Module}
use Rattle.core_grammar.specs.Texts.{ModuleText, NestsWithin, most_depth}
use Rattle.core_scope.specs.ScopeFaults.{scope_faults}
use Rattle.core_profile.specs.ProfileFaults.{profile_faults}
use Rattle.core_profile.specs.LimitFaults.{limit_faults}

-- bytes of a text
abbrev pub most_bytes : ℕ
most_bytes = 16777216

-- the bytes are a text of this module within all limits, whose names and degrees are right and which has nothing that
-- is not compiled
pub record LawfulText (bytes : List ℕ) (m : Module) : Type 0 where
  pub small : length bytes ≤ most_bytes
  pub utf8 : IsUtf8 bytes
  pub text : ModuleText (tokens (chars bytes)) m
  pub within : NestsWithin most_depth (tokens (chars bytes))
  pub scoped : scope_faults m ≡ []
  pub compiled : profile_faults m ≡ []
  pub bounded : limit_faults m ≡ []

-- bytes are the text of at most one
abbrev pub OneLawfulModule : Type 0
OneLawfulModule = (bytes : List ℕ) (m n : Module) → LawfulText bytes m → LawfulText bytes n → m ≡ n
