use Rattle.std.proofs.Common.{sym, ap, ◌∙◌, subst, map, Some}
use Rattle.erl_term.specs.View.{view}
use Rattle.erl_term.specs.Comparing.{AllNormal}
use Rattle.operand_read.proofs.TermForms.{list_without_end, list_items_read, list_normal}
use Rattle.operand_read.proofs.terms.items_of.Goals as goal

pub returns-in_default-get : goal.returns-in_default-get
returns-in_default-get c = record {
  value = list_without_end _ _ _ c.in-List.is c.requires (λ e. c.in_default-get.not-Nil (c.get.ensures ∙ e));
  normal = tt;
}

pub returns : goal.returns
returns c = record {
  value = list_items_read _ _ _ c.in-List.is (sym c.get.ensures ∙ c.in-Nil-get.is)
      ∙ ap (λ ts. Some (map view ts)) (sym c.as_slice.ensures);
  normal = subst AllNormal (sym c.as_slice.ensures) (list_normal _ _ _ c.in-List.is c.requires);
}
