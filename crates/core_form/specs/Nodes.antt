-- How many nodes a piece of a module has: its expressions, patterns, clauses and segments, and the variables that
-- `fun`, `let` and `try` bind. A constant is one node, and so is the empty tail of a list (this project's own measure).
use Rattle.std.specs.Prelude.{ℕ, suc, ◌+◌, ◌≤◌, List, [], ◌∷◌, length}
use Rattle.std.specs.List.{sum, All}
use Rattle.core_form.specs.Core.{Expr, fun, let_in, try, Patterns, Clauses, no_clause, and_clause, clause}
use Rattle.core_form.specs.Walks.{Asked, all_in, all_patterns}

-- the variables that an expression itself binds
abbrev pub bound_count : Expr → ℕ
bound_count (fun p xs e) = length xs
bound_count (let_in p xs a b) = length xs
bound_count (try p a xs b ys c) = length xs + length ys
bound_count _ = 0

-- what each counts for
abbrev pub node : Asked ℕ
node = record {
  at_expr = λ e. suc (bound_count e) ∷ [];
  at_pattern = λ r. 1 ∷ [];
  at_clause = λ p. 1 ∷ [];
  at_segment = λ p s u k f. 1 ∷ [];
}

-- the nodes of an expression, its own one among them
abbrev pub nodes : Expr → ℕ
nodes e = sum (all_in node e)

-- the nodes of the patterns of a clause
abbrev pub pattern_nodes : Patterns → ℕ
pattern_nodes qs = sum (all_patterns node qs)

-- the nodes in the patterns and guards of clauses
abbrev pub head_nodes : Clauses → ℕ
head_nodes no_clause = 0
head_nodes (and_clause (clause p qs g e) cs) = pattern_nodes qs + nodes g + head_nodes cs

-- asks for the expressions themselves
abbrev pub itself : Asked Expr
itself = record {
  at_expr = λ e. e ∷ [];
  at_pattern = λ r. [];
  at_clause = λ p. [];
  at_segment = λ p s u k f. [];
}

-- each expression that stands in an expression, the whole one too, in the order of the text
abbrev pub parts_of : Expr → List Expr
parts_of e = all_in itself e

-- a part has no more nodes than the whole
abbrev pub PartsHaveNoMoreNodes : Type 0
PartsHaveNoMoreNodes = (whole : Expr) → All (λ part. nodes part ≤ nodes whole) (parts_of whole)
