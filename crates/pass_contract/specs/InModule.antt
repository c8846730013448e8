-- What is set for a whole module, as every form of its functions sees it (this project's own).
use Rattle.std.specs.Prelude.{ℕ, List, Bool}

-- a receive, by its number, and the variable whose reference its messages hold
pub record Mark : Type 0 where
  pub receive : ℕ
  pub reference : ℕ

-- How many parameters each function has, by its site, captures included; which receives are marked; the parameters, as
-- site and number, at which a context may come; whether each marker that is used is still kept; and the variables whose
-- part of a binary is handed on and counts as no sub-binary.
pub record InModule : Type 0 where
  pub widths : List ℕ
  pub marks : List Mark
  pub plan : List (ℕ × ℕ)
  pub choices : List Bool
  pub uncounted : List ℕ
