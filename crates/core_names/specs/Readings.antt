-- Readings of parts of the tree that only walks speak of.
use Rattle.std.specs.Prelude.{[]}
use Rattle.erl_base.specs.Names.{Name}
use Rattle.erl_term.specs.Term as T
use Rattle.erl_term.specs.Term.{Term}
use Rattle.core_form.specs.declared.tree.KeyPattern.{KeyPattern, fold-KeyPattern}
use Rattle.core_form.specs.declared.tree.SegPattern.{SegPattern, fold-SegPattern}
use Rattle.core_form.specs.Core as Plain
use Rattle.core_form.specs.View.{ExprAt, PatternAt, form_step, pattern_form_step, clause_step, def_step, expr_step, key_step, part_step, pattern_step, seg_step, segment_step}

-- the atom that a term is
abbrev pub atom_in : Term → Name
atom_in (T.atom a) = a
atom_in _ = []

-- the plain part of a map pattern
abbrev pub key_view : KeyPattern → Plain.KeyPattern
key_view = fold-KeyPattern ExprAt PatternAt Plain.Clause Plain.Def Plain.Expr Plain.KeyPattern Plain.MapPart
    Plain.Pattern Plain.SegPattern Plain.Segment
    form_step pattern_form_step clause_step def_step expr_step key_step part_step pattern_step seg_step segment_step

-- the plain segment of a binary pattern
abbrev pub seg_view : SegPattern → Plain.SegPattern
seg_view = fold-SegPattern ExprAt PatternAt Plain.Clause Plain.Def Plain.Expr Plain.KeyPattern Plain.MapPart
    Plain.Pattern Plain.SegPattern Plain.Segment
    form_step pattern_form_step clause_step def_step expr_step key_step part_step pattern_step seg_step segment_step
