-- The plain tree that a value of the program's types stands for: a fold, which joins each node's place and form.
use Rattle.std.specs.Prelude.{List, [], ◌∷◌, map, Option, None, Some}
use Rattle.erl_base.specs.declared.ids.Place.{Place}
use Rattle.erl_term.specs.View as Terms
use Rattle.core_form.specs.declared.module.Module.{Module}
use Rattle.core_form.specs.declared.tree.ExprForm.{ExprForm, fold-ExprForm}
use Rattle.core_form.specs.declared.tree.PatternForm.{PatternForm, fold-PatternForm}
use Rattle.core_form.specs.declared.tree.Clause.{Clause, fold-Clause}
use Rattle.core_form.specs.declared.tree.Def.{Def, fold-Def}
use Rattle.core_form.specs.declared.tree.Expr.{Expr, fold-Expr}
use Rattle.core_form.specs.declared.tree.MapPart.{MapPart, fold-MapPart}
use Rattle.core_form.specs.declared.tree.Pattern.{Pattern, fold-Pattern}
use Rattle.core_form.specs.declared.tree.Segment.{Segment, fold-Segment}
use Rattle.core_form.specs.declared.tree.ExprForm.TheOpen.{ExprForm-F, PatternForm-F, Clause-F, Def-F, Expr-F, KeyPattern-F, MapPart-F, Pattern-F, SegPattern-F, Segment-F}
use Rattle.core_form.specs.declared.tree.ExprForm.TheOpen as form
use Rattle.core_form.specs.Core as Plain

-- expressions as a family of their own
abbrev pub exprs : List Plain.Expr → Plain.Exprs
exprs [] = Plain.no_expr
exprs (x ∷ xs) = Plain.and_expr x (exprs xs)

-- parts of a map likewise
abbrev pub parts : List Plain.MapPart → Plain.MapParts
parts [] = Plain.no_part
parts (x ∷ xs) = Plain.and_part x (parts xs)

-- segments
abbrev pub segments : List Plain.Segment → Plain.Segments
segments [] = Plain.no_segment
segments (x ∷ xs) = Plain.and_segment x (segments xs)

-- definitions
abbrev pub defs : List Plain.Def → Plain.Defs
defs [] = Plain.no_def
defs (x ∷ xs) = Plain.and_def x (defs xs)

-- clauses
abbrev pub clauses : List Plain.Clause → Plain.Clauses
clauses [] = Plain.no_clause
clauses (x ∷ xs) = Plain.and_clause x (clauses xs)

-- patterns
abbrev pub patterns : List Plain.Pattern → Plain.Patterns
patterns [] = Plain.no_pattern
patterns (x ∷ xs) = Plain.and_pattern x (patterns xs)

-- parts of a map pattern
abbrev pub keys : List Plain.KeyPattern → Plain.KeyPatterns
keys [] = Plain.no_key
keys (x ∷ xs) = Plain.and_key x (keys xs)

-- segments of a binary pattern
abbrev pub segs : List Plain.SegPattern → Plain.SegPatterns
segs [] = Plain.no_seg
segs (x ∷ xs) = Plain.and_seg x (segs xs)

-- a form that waits for its place
abbrev pub ExprAt : Type 0
ExprAt = Place → Plain.Expr

-- a pattern that waits for its place
abbrev pub PatternAt : Type 0
PatternAt = Place → Plain.Pattern

-- a node whose children are read
module _ (F : Type 0 → Type 0 → Type 0 → Type 0 → Type 0 → Type 0 → Type 0 → Type 0 → Type 0 → Type 0 → Type 0) where
  abbrev pub Read : Type 0
  Read = F ExprAt PatternAt Plain.Clause Plain.Def Plain.Expr Plain.KeyPattern Plain.MapPart Plain.Pattern
      Plain.SegPattern Plain.Segment

-- a map that is made, or one that is changed
abbrev pub map_step : Place → Plain.MapParts → Option Plain.Expr → Plain.Expr
map_step at ps None = Plain.new_map at ps
map_step at ps (Some base) = Plain.map_of at ps base

-- an expression whose parts were read
abbrev pub form_step : Read ExprForm-F → ExprAt
form_step (form.Values es) at = Plain.values at (exprs es)
form_step (form.ExprForm::Var x) at = Plain.var at x
form_step (form.FunName f) at = Plain.fun_name at f
form_step (form.ExprForm::Literal t) at = Plain.literal at (Terms.view t)
form_step (form.ExprForm::List es e) at = Plain.list at (exprs es) e
form_step (form.ExprForm::Tuple es) at = Plain.tuple at (exprs es)
form_step (form.ExprForm::Map ps o) at = map_step at (parts ps) o
form_step (form.ExprForm::Binary ss) at = Plain.binary at (segments ss)
form_step (form.Fun xs e) at = Plain.fun at xs e
form_step (form.Let xs a b) at = Plain.let_in at xs a b
form_step (form.Letrec ds b) at = Plain.letrec at (defs ds) b
form_step (form.Case e cs) at = Plain.case at e (clauses cs)
form_step (form.Apply e es) at = Plain.apply at e (exprs es)
form_step (form.Call m f es) at = Plain.call at m f (exprs es)
form_step (form.Primop x es) at = Plain.primop at x (exprs es)
form_step (form.Do a b) at = Plain.do_then at a b
form_step (form.Catch e) at = Plain.catch at e
form_step (form.Try a xs b ys c) at = Plain.try at a xs b ys c
form_step (form.Receive cs t b) at = Plain.receive at (clauses cs) t b

-- a pattern whose parts were read
abbrev pub pattern_form_step : Read PatternForm-F → PatternAt
pattern_form_step (form.PatternForm::Var x) at = Plain.any at x
pattern_form_step (form.Alias x p) at = Plain.alias at x p
pattern_form_step (form.PatternForm::Literal t) at = Plain.known at (Terms.view t)
pattern_form_step (form.PatternForm::List ps p) at = Plain.list_like at (patterns ps) p
pattern_form_step (form.PatternForm::Tuple ps) at = Plain.tuple_like at (patterns ps)
pattern_form_step (form.PatternForm::Map ks) at = Plain.map_like at (keys ks)
pattern_form_step (form.PatternForm::Binary ss) at = Plain.bits_like at (segs ss)

-- a clause likewise
abbrev pub clause_step : Read Clause-F → Plain.Clause
clause_step c = Plain.clause c.place (patterns c.patterns) c.guard c.body

-- a definition
abbrev pub def_step : Read Def-F → Plain.Def
def_step d = Plain.def d.place d.key d.fun

-- an expression with its place
abbrev pub expr_step : Read Expr-F → Plain.Expr
expr_step e = e.form e.place

-- a part of a map pattern
abbrev pub key_step : Read KeyPattern-F → Plain.KeyPattern
key_step k = Plain.key_pattern k.key k.pattern

-- a part of a map
abbrev pub part_step : Read MapPart-F → Plain.MapPart
part_step p = Plain.map_part p.key p.value p.exact

-- a pattern with its place
abbrev pub pattern_step : Read Pattern-F → Plain.Pattern
pattern_step p = p.form p.place

-- a segment of a binary pattern
abbrev pub seg_step : Read SegPattern-F → Plain.SegPattern
seg_step s = Plain.seg_pattern s.place s.value s.size (Terms.view s.unit) s.kind (Terms.view s.flags)

-- a segment
abbrev pub segment_step : Read Segment-F → Plain.Segment
segment_step s = Plain.segment s.place s.value s.size (Terms.view s.unit) s.kind (Terms.view s.flags)

-- the plain expression
abbrev pub view : Expr → Plain.Expr
view = fold-Expr ExprAt PatternAt Plain.Clause Plain.Def Plain.Expr Plain.KeyPattern Plain.MapPart Plain.Pattern
    Plain.SegPattern Plain.Segment
    form_step pattern_form_step clause_step def_step expr_step key_step part_step pattern_step seg_step segment_step

-- the same without its place
abbrev pub form_view : ExprForm → ExprAt
form_view = fold-ExprForm ExprAt PatternAt Plain.Clause Plain.Def Plain.Expr Plain.KeyPattern Plain.MapPart
    Plain.Pattern Plain.SegPattern Plain.Segment
    form_step pattern_form_step clause_step def_step expr_step key_step part_step pattern_step seg_step segment_step

-- the plain part of a map
abbrev pub part_view : MapPart → Plain.MapPart
part_view = fold-MapPart ExprAt PatternAt Plain.Clause Plain.Def Plain.Expr Plain.KeyPattern Plain.MapPart Plain.Pattern
    Plain.SegPattern Plain.Segment
    form_step pattern_form_step clause_step def_step expr_step key_step part_step pattern_step seg_step segment_step

-- the plain segment
abbrev pub segment_view : Segment → Plain.Segment
segment_view = fold-Segment ExprAt PatternAt Plain.Clause Plain.Def Plain.Expr Plain.KeyPattern Plain.MapPart
    Plain.Pattern Plain.SegPattern Plain.Segment
    form_step pattern_form_step clause_step def_step expr_step key_step part_step pattern_step seg_step segment_step

-- the plain definition
abbrev pub def_view : Def → Plain.Def
def_view = fold-Def ExprAt PatternAt Plain.Clause Plain.Def Plain.Expr Plain.KeyPattern Plain.MapPart Plain.Pattern
    Plain.SegPattern Plain.Segment
    form_step pattern_form_step clause_step def_step expr_step key_step part_step pattern_step seg_step segment_step

-- the plain clause
abbrev pub clause_view : Clause → Plain.Clause
clause_view = fold-Clause ExprAt PatternAt Plain.Clause Plain.Def Plain.Expr Plain.KeyPattern Plain.MapPart
    Plain.Pattern Plain.SegPattern Plain.Segment
    form_step pattern_form_step clause_step def_step expr_step key_step part_step pattern_step seg_step segment_step

-- the plain pattern
abbrev pub pattern_view : Pattern → Plain.Pattern
pattern_view = fold-Pattern ExprAt PatternAt Plain.Clause Plain.Def Plain.Expr Plain.KeyPattern Plain.MapPart
    Plain.Pattern Plain.SegPattern Plain.Segment
    form_step pattern_form_step clause_step def_step expr_step key_step part_step pattern_step seg_step segment_step

-- the same without its place
abbrev pub pattern_form_view : PatternForm → PatternAt
pattern_form_view = fold-PatternForm ExprAt PatternAt Plain.Clause Plain.Def Plain.Expr Plain.KeyPattern Plain.MapPart
    Plain.Pattern Plain.SegPattern Plain.Segment
    form_step pattern_form_step clause_step def_step expr_step key_step part_step pattern_step seg_step segment_step

-- the plain module
abbrev pub module_view : Module → Plain.Module
module_view m = record {
  name = m.name;
  exports = m.exports;
  attributes = map Terms.attribute_view m.attributes;
  defs = defs (map def_view m.defs);
  floats = m.floats;
  wide = m.wide;
  long = m.long;
}
