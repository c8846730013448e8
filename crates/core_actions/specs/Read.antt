-- What a reader keeps of a tree that it has read. A list is kept as its items and what is behind them, since it may be
-- another list's tail, whose items it then adds to; a number says what it is, since a segment may ask for it.
use Rattle.std.specs.Prelude.{ℕ, ℤ, pos, List, Option, None, Some}
use Rattle.erl_base.specs.declared.ids.Place.{Place}
use Rattle.core_form.specs.Core as C
use Rattle.core_grammar.specs.WrittenTree.{Tree, number, wide, character, string, noted, list, list_on}
use Rattle.core_grammar.specs.ModuleOf.{expr_of, exprs_of, tail_items, pattern_of, patterns_of, tail_patterns}

-- an expression
pub data ReadExpr : Type 0 where
  whole : C.Expr → ReadExpr
  integer : Place → ℤ → ReadExpr
  -- past 128 signed bits
  wide_integer : Place → ReadExpr
  characters : Place → List ℕ → ReadExpr
  -- items, and what is behind them but a proper list's end
  items : Place → C.Exprs → Option C.Expr → ReadExpr

-- what is behind the last item of a tail; nothing where it is a proper list
abbrev pub tail_end : Tree → Option C.Expr
tail_end (noted p t n) = tail_end t
tail_end (string p cs) = None
tail_end (list p ts) = None
tail_end (list_on p t ts u) = tail_end u
tail_end t = Some (expr_of t)

-- what is kept of an expression
abbrev pub read_expr : Tree → ReadExpr
read_expr (number p g z) = integer p z
read_expr (wide p n) = wide_integer p
read_expr (character p c) = integer p (pos c)
read_expr (string p cs) = characters p cs
read_expr (noted p t n) = read_expr t
read_expr (list p ts) = items p (exprs_of ts C.no_expr) None
read_expr (list_on p t ts u) = items p (C.and_expr (expr_of t) (exprs_of ts (tail_items u))) (tail_end u)
read_expr t = whole (expr_of t)

-- a pattern
pub data ReadPattern : Type 0 where
  whole_pattern : C.Pattern → ReadPattern
  pattern_characters : Place → List ℕ → ReadPattern
  pattern_items : Place → C.Patterns → Option C.Pattern → ReadPattern

-- what is behind the last item of a tail
abbrev pub pattern_end : Tree → Option C.Pattern
pattern_end (noted p t n) = pattern_end t
pattern_end (string p cs) = None
pattern_end (list p ts) = None
pattern_end (list_on p t ts u) = pattern_end u
pattern_end t = Some (pattern_of t)

-- what is kept of a pattern
abbrev pub read_pattern : Tree → ReadPattern
read_pattern (string p cs) = pattern_characters p cs
read_pattern (noted p t n) = read_pattern t
read_pattern (list p ts) = pattern_items p (patterns_of ts C.no_pattern) None
read_pattern (list_on p t ts u) =
    pattern_items p (C.and_pattern (pattern_of t) (patterns_of ts (tail_patterns u))) (pattern_end u)
read_pattern t = whole_pattern (pattern_of t)
