-- What the program keeps of a tree that it has read, as the plain words of what is read have it.
use Rattle.std.specs.Prelude.{List, [], ◌∷◌, ◌++◌, map, Bool, true, ◌&&◌, Option, None, Some}
use Rattle.std.specs.Option.{option_map}
use Rattle.core_form.specs.declared.tree.Expr.{Expr}
use Rattle.core_form.specs.declared.tree.Pattern.{Pattern}
use Rattle.core_form.specs.View.{view, pattern_view, exprs, patterns}
use Rattle.core_actions.specs.declared.exprs.ReadExpr.{ReadExpr}
use Rattle.core_actions.specs.declared.exprs.ReadExpr.TheVariants.{Whole, Integer, WideInteger, Characters, Items}
use Rattle.core_actions.specs.declared.patterns.ReadPattern.{ReadPattern}
use Rattle.core_actions.specs.declared.patterns.ReadPattern.TheVariants as P
use Rattle.core_actions.specs.declared.binaries.SegmentParts.{SegmentParts}
use Rattle.core_actions.specs.Binaries as B
use Rattle.core_actions.specs.Read as Plain
use Rattle.core_actions.specs.SoundTerms.{all_sound, expr_sound, pattern_sound}

-- the items of rows, the last row first
abbrev pub all_items : {A : Type 0} → List (List A) → List A
all_items [] = []
all_items (xs ∷ xss) = all_items xss ++ xs

-- what is read
abbrev pub read_view : ReadExpr → Plain.ReadExpr
read_view (Whole e) = Plain.whole (view e)
read_view (Integer p z) = Plain.integer p z
read_view (WideInteger p) = Plain.wide_integer p
read_view (Characters p cs) = Plain.characters p cs
read_view (Items p rows o) = Plain.items p (exprs (map view (all_items rows))) (option_map view o)

-- whether its terms are well formed
abbrev pub end_sound : Option Expr → Bool
end_sound None = true
end_sound (Some e) = expr_sound e

-- the same, of what is read
abbrev pub read_sound : ReadExpr → Bool
read_sound (Whole e) = expr_sound e
read_sound (Items p rows o) = all_sound (map expr_sound (all_items rows)) && end_sound o
read_sound _ = true

-- a pattern that is read
abbrev pub pattern_read_view : ReadPattern → Plain.ReadPattern
pattern_read_view (P.Whole q) = Plain.whole_pattern (pattern_view q)
pattern_read_view (P.Characters p cs) = Plain.pattern_characters p cs
pattern_read_view (P.Items p rows o) =
    Plain.pattern_items p (patterns (map pattern_view (all_items rows))) (option_map pattern_view o)

-- whether the terms of what is behind its items are well formed
abbrev pub pattern_end_sound : Option Pattern → Bool
pattern_end_sound None = true
pattern_end_sound (Some q) = pattern_sound q

-- the same, of the pattern
abbrev pub pattern_read_sound : ReadPattern → Bool
pattern_read_sound (P.Whole q) = pattern_sound q
pattern_read_sound (P.Items p rows o) = all_sound (map pattern_sound (all_items rows)) && pattern_end_sound o
pattern_read_sound (P.Characters p cs) = true

-- what a segment says beside its value
abbrev pub parts_view : SegmentParts → B.SegmentParts
parts_view s = record {
  size = read_view s.size;
  unit = read_view s.unit;
  kind = s.kind;
  flags = read_view s.flags;
}

-- whether its terms are well formed
abbrev pub parts_sound : SegmentParts → Bool
parts_sound s = read_sound s.size && read_sound s.unit && read_sound s.flags
