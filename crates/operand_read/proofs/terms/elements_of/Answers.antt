use Rattle.std.proofs.Common.{refl, sym, ap, ◌∙◌, subst, map, Some}
use Rattle.erl_term.specs.View.{view}
use Rattle.erl_term.specs.Comparing.{AllNormal}
use Rattle.operand_read.proofs.TermForms.{no_tuple, tuple_elements, tuple_normal}
use Rattle.operand_read.proofs.terms.elements_of.Goals as goal

pub returns-in_default : goal.returns-in_default
returns-in_default c = record {
  value = no_tuple _ c.requires c.in_default.not-Tuple;
  syntax = refl;
  normal = tt;
}

pub returns-clause-value : goal.returns-clause-value
returns-clause-value c = tuple_elements _ _ c.in-Tuple.is ∙ ap (λ ts. Some (map view ts)) (sym c.as_slice.ensures)

pub returns-clause-normal : goal.returns-clause-normal
returns-clause-normal c = subst AllNormal (sym c.as_slice.ensures) (tuple_normal _ _ c.in-Tuple.is c.requires)
