-- What is kept of a tree gives its expression, its pattern and its numbers.
use Rattle.std.specs.Prelude.{◌≡◌, List, Bool, true, false, Option}
use Rattle.erl_base.specs.declared.ids.Place.{Place}
use Rattle.core_form.specs.Core as C
use Rattle.core_grammar.specs.WrittenTree.{Tree, list_on, tuple, new_map, binary, Row, Pairs, segment, Segments}
use Rattle.core_grammar.specs.ConstantTerms.{integer_value, count_value, constant_of, bits_of, bits_of_segments}
use Rattle.core_grammar.specs.ModuleOf as M
use Rattle.core_grammar.specs.ModuleOf.{atom_name, expr_of, exprs_of, parts_of, pattern_of, patterns_of}
use Rattle.core_actions.specs.Read.{read_expr, read_pattern}
use Rattle.erl_term.specs.Segments as Bits
use Rattle.core_actions.specs.Binaries.{SegmentParts, segment_of, bits_in, seg_of, binary_of}
use Rattle.core_actions.specs.Joining.{literal_term, closed, joined, integer_in, count_in, tuple_of_items, map_of_parts, known_term, closed_pattern, joined_patterns, tuple_of_patterns}

-- expressions
pub record ReadsExpressions : Type 0 where
  pub closed_read : (t : Tree) → closed (read_expr t) ≡ expr_of t
  pub constants : (t : Tree) → literal_term (expr_of t) ≡ constant_of false t
  pub integers : (t : Tree) → integer_in (read_expr t) ≡ integer_value t
  pub counts : (t : Tree) → count_in (read_expr t) ≡ count_value t
  pub lists : (p : Place) (t : Tree) (ts : Row) (u : Tree)
      → read_expr (list_on p t ts u) ≡ joined p (C.and_expr (expr_of t) (exprs_of ts C.no_expr)) (read_expr u)
  pub tuples : (p : Place) (ts : Row) → tuple_of_items p (exprs_of ts C.no_expr) ≡ expr_of (tuple p ts)
  pub maps : (p : Place) (ps : Pairs) → map_of_parts p (parts_of ps) ≡ expr_of (new_map p ps)

-- patterns
pub record ReadsPatterns : Type 0 where
  pub closed_read : (t : Tree) → closed_pattern (read_pattern t) ≡ pattern_of t
  pub constants : (t : Tree) → known_term (pattern_of t) ≡ constant_of true t
  pub lists : (p : Place) (t : Tree) (ts : Row) (u : Tree) → read_pattern (list_on p t ts u)
      ≡ joined_patterns p (C.and_pattern (pattern_of t) (patterns_of ts C.no_pattern)) (read_pattern u)
  pub tuples : (p : Place) (ts : Row) → tuple_of_patterns p (patterns_of ts C.no_pattern) ≡ pattern_of (tuple p ts)

-- what a segment says beside its value
abbrev pub parts_read : (size unit kind flags : Tree) → SegmentParts
parts_read u n k f = record {
  size = read_expr u;
  unit = read_expr n;
  kind = atom_name k;
  flags = read_expr f;
}

-- segments and binaries
pub record ReadsBinaries : Type 0 where
  pub segments : (p : Place) (t u n k f : Tree)
      → segment_of p (read_expr t) (parts_read u n k f) ≡ M.segment_of (segment p t u n k f)
  pub bits : (p : Place) (t u n k f : Tree)
      → bits_in (read_expr t) (parts_read u n k f) ≡ bits_of false (segment p t u n k f)
  pub patterns : (p : Place) (t u n k f : Tree)
      → seg_of p (read_pattern t) (parts_read u n k f) ≡ M.seg_of (segment p t u n k f)
  pub binaries : (p : Place) (gs : Segments)
      → binary_of p (M.segments_of gs) (bits_of_segments gs) ≡ expr_of (binary p gs)
  -- bits may be joined from the front
  pub together : (a b c : Option (List Bool)) → Bits.joined (Bits.joined a b) c ≡ Bits.joined a (Bits.joined b c)
