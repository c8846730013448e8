-- Trees whose terms are all well formed.
use Rattle.std.specs.Prelude.{List, [], ◌∷◌, Bool, true, ◌&&◌, Option, None, Some}
use Rattle.erl_term.specs.declared.term.Term.{Term}
use Rattle.erl_term.specs.View as Terms
use Rattle.erl_term.specs.WellFormed.{layout, maps_rise}
use Rattle.core_form.specs.declared.tree.Expr.{Expr, fold-Expr}
use Rattle.core_form.specs.declared.tree.Pattern.{Pattern, fold-Pattern}
use Rattle.core_form.specs.declared.tree.MapPart.{MapPart, fold-MapPart}
use Rattle.core_form.specs.declared.tree.Segment.{Segment, fold-Segment}
use Rattle.core_form.specs.declared.tree.SegPattern.{SegPattern, fold-SegPattern}
use Rattle.core_form.specs.declared.tree.ExprForm.TheOpen.{ExprForm-F, PatternForm-F, Clause-F, Def-F, Expr-F, KeyPattern-F, MapPart-F, Pattern-F, SegPattern-F, Segment-F}
use Rattle.core_form.specs.declared.tree.ExprForm.TheOpen as form

-- a node of whose parts it is known
module _ (F : Type 0 → Type 0 → Type 0 → Type 0 → Type 0 → Type 0 → Type 0 → Type 0 → Type 0 → Type 0 → Type 0) where
  abbrev pub Known : Type 0
  Known = F Bool Bool Bool Bool Bool Bool Bool Bool Bool Bool

-- a term
abbrev pub term_sound : Term → Bool
term_sound t = (layout t).normal && maps_rise (Terms.view t)

-- all of them
abbrev pub all_sound : List Bool → Bool
all_sound [] = true
all_sound (b ∷ bs) = b && all_sound bs

-- one, or none
abbrev pub base_sound : Option Bool → Bool
base_sound None = true
base_sound (Some b) = b

-- a form whose parts are known
abbrev pub form_sound : Known ExprForm-F → Bool
form_sound (form.Values es) = all_sound es
form_sound (form.ExprForm::Var x) = true
form_sound (form.FunName f) = true
form_sound (form.ExprForm::Literal t) = term_sound t
form_sound (form.ExprForm::List es e) = all_sound es && e
form_sound (form.ExprForm::Tuple es) = all_sound es
form_sound (form.ExprForm::Map ps o) = all_sound ps && base_sound o
form_sound (form.ExprForm::Binary ss) = all_sound ss
form_sound (form.Fun xs e) = e
form_sound (form.Let xs a b) = a && b
form_sound (form.Letrec ds b) = all_sound ds && b
form_sound (form.Case e cs) = e && all_sound cs
form_sound (form.Apply e es) = e && all_sound es
form_sound (form.Call m f es) = m && f && all_sound es
form_sound (form.Primop x es) = all_sound es
form_sound (form.Do a b) = a && b
form_sound (form.Catch e) = e
form_sound (form.Try a xs b ys c) = a && b && c
form_sound (form.Receive cs t b) = all_sound cs && t && b

-- the same, of patterns
abbrev pub pattern_form_sound : Known PatternForm-F → Bool
pattern_form_sound (form.PatternForm::Var x) = true
pattern_form_sound (form.Alias x p) = p
pattern_form_sound (form.PatternForm::Literal t) = term_sound t
pattern_form_sound (form.PatternForm::List ps p) = all_sound ps && p
pattern_form_sound (form.PatternForm::Tuple ps) = all_sound ps
pattern_form_sound (form.PatternForm::Map ks) = all_sound ks
pattern_form_sound (form.PatternForm::Binary ss) = all_sound ss

-- a clause
abbrev pub clause_sound : Known Clause-F → Bool
clause_sound c = all_sound c.patterns && c.guard && c.body

-- a definition
abbrev pub def_sound : Known Def-F → Bool
def_sound d = d.fun

-- an expression of a known form
abbrev pub expr_node_sound : Known Expr-F → Bool
expr_node_sound e = e.form

-- a part of a map pattern
abbrev pub key_sound : Known KeyPattern-F → Bool
key_sound k = k.key && k.pattern

-- a part of a map whose parts are known
abbrev pub part_node_sound : Known MapPart-F → Bool
part_node_sound p = p.key && p.value

-- a pattern of a known form
abbrev pub pattern_node_sound : Known Pattern-F → Bool
pattern_node_sound p = p.form

-- a segment of a pattern whose parts are known
abbrev pub seg_node_sound : Known SegPattern-F → Bool
seg_node_sound s = s.value && s.size && term_sound s.unit && term_sound s.flags

-- a segment whose parts are known
abbrev pub segment_node_sound : Known Segment-F → Bool
segment_node_sound s = s.value && s.size && term_sound s.unit && term_sound s.flags

-- an expression
abbrev pub expr_sound : Expr → Bool
expr_sound = fold-Expr Bool Bool Bool Bool Bool Bool Bool Bool Bool Bool
    form_sound pattern_form_sound clause_sound def_sound expr_node_sound key_sound part_node_sound pattern_node_sound
    seg_node_sound segment_node_sound

-- a part of a map
abbrev pub part_sound : MapPart → Bool
part_sound = fold-MapPart Bool Bool Bool Bool Bool Bool Bool Bool Bool Bool
    form_sound pattern_form_sound clause_sound def_sound expr_node_sound key_sound part_node_sound pattern_node_sound
    seg_node_sound segment_node_sound

-- a pattern
abbrev pub pattern_sound : Pattern → Bool
pattern_sound = fold-Pattern Bool Bool Bool Bool Bool Bool Bool Bool Bool Bool
    form_sound pattern_form_sound clause_sound def_sound expr_node_sound key_sound part_node_sound pattern_node_sound
    seg_node_sound segment_node_sound

-- a segment
abbrev pub segment_sound : Segment → Bool
segment_sound = fold-Segment Bool Bool Bool Bool Bool Bool Bool Bool Bool Bool
    form_sound pattern_form_sound clause_sound def_sound expr_node_sound key_sound part_node_sound pattern_node_sound
    seg_node_sound segment_node_sound

-- a segment of a pattern
abbrev pub seg_sound : SegPattern → Bool
seg_sound = fold-SegPattern Bool Bool Bool Bool Bool Bool Bool Bool Bool Bool
    form_sound pattern_form_sound clause_sound def_sound expr_node_sound key_sound part_node_sound pattern_node_sound
    seg_node_sound segment_node_sound
