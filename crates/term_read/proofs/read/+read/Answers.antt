use Rattle.std.proofs.Common.{◌≡◌, ◌∙◌, sym, ap, subst, [], map, Some, arith}
use Rattle.erl_term.specs.View.{view}
use Rattle.erl_term.specs.WellRows.{AreWellFormed}
use Rattle.term_read.specs.Reading.{before, items_of, read_by, pair_by}
use Rattle.term_read.proofs.ItemRows.{before_none, loop_ended, loop_goes_on}
use Rattle.term_read.proofs.WellRows.{term_pushed, views_pushed, no_terms, pair_pushed, pair_views_pushed}
use Rattle.term_read.proofs.FunForm.{fun_read}
use Rattle.term_read.proofs.Tails.{gives_same, items_then_end, end_proper, end_with_tail, list_closed, list_open, first_and_rest, bracket_form, no_form}
use Rattle.term_read.proofs.Consuming.{consumes, pair_consumes}
use Rattle.term_read.proofs.read.+read.Goals as goal

pub items-returns-in-None-clause-value : goal.items-returns-in-None-clause-value
items-returns-in-None-clause-value t c =
    loop_ended (read_by c.args.depth) (consumes c.args.depth) _ _ _ _ _ _ c.in_ok-term.ensures.value
    (sym c.in-None.ensures.value) (views_pushed _ _ _ c.in_ok-push.ensures.ok)
    c.loop-terms.invariant.read

pub items-returns-in-None-clause-well_formed : goal.items-returns-in-None-clause-well_formed
items-returns-in-None-clause-well_formed t c =
    term_pushed _ _ _ c.in_ok-push.ensures.ok c.loop-terms.invariant.well_formed c.in_ok-term.ensures.well_formed

pub items-loop-terms-preserved : goal.items-loop-terms-preserved
items-loop-terms-preserved t c = record {
  read = loop_goes_on (read_by c.args.depth) (consumes c.args.depth) _ _ _ _ _ _ _ c.in_ok-term.ensures.value
      (sym c.in-Some.ensures.value) (views_pushed _ _ _ c.in_ok-push.ensures.ok)
      c.loop-terms.invariant.read;
  well_formed = term_pushed _ _ _ c.in_ok-push.ensures.ok c.loop-terms.invariant.well_formed
      c.in_ok-term.ensures.well_formed;
  fits = omega (arith, c.in_ok-term.ensures.fits, c.in-Some.ensures.fits);
}

pub pairs-returns-in-None-clause-value : goal.pairs-returns-in-None-clause-value
pairs-returns-in-None-clause-value t c =
    loop_ended (pair_by (read_by c.args.depth)) (pair_consumes c.args.depth) _ _ _ _ _ _ c.in_ok-one.ensures.value
    (sym c.in-None.ensures.value) (pair_views_pushed _ _ _ c.in_ok-push.ensures.ok)
    c.loop-found.invariant.read

pub pairs-returns-in-None-clause-well_formed : goal.pairs-returns-in-None-clause-well_formed
pairs-returns-in-None-clause-well_formed t c =
    pair_pushed _ _ _ c.in_ok-push.ensures.ok c.loop-found.invariant.well_formed c.in_ok-one.ensures.well_formed

pub pairs-loop-found-preserved : goal.pairs-loop-found-preserved
pairs-loop-found-preserved t c = record {
  read = loop_goes_on (pair_by (read_by c.args.depth))
      (pair_consumes c.args.depth) _ _ _ _ _ _ _ c.in_ok-one.ensures.value (sym c.in-Some.ensures.value)
      (pair_views_pushed _ _ _ c.in_ok-push.ensures.ok)
      c.loop-found.invariant.read;
  well_formed = pair_pushed _ _ _ c.in_ok-push.ensures.ok c.loop-found.invariant.well_formed
      c.in_ok-one.ensures.well_formed;
  fits = omega (arith, c.in_ok-one.ensures.fits, c.in-Some.ensures.fits);
}

pub fun_form-returns-clause-value : goal.fun_form-returns-clause-value
fun_form-returns-clause-value t c =
    fun_read (read_by c.args.depth) _ _ _ _ _ _ c.in_ok-head.ensures.value c.in_ok-captured.ensures.value
    c.in_ok-rest.ensures.value
    ∙ ap (λ u. Some (u, c.in_ok-rest.rest.now)) (sym c.fun_of.ensures.value)

pub list_end-returns-in_default-clause-value : goal.list_end-returns-in_default-clause-value
list_end-returns-in_default-clause-value t c =
    end_proper (read_by c.args.depth) _ _ _ _ c.in_default.ensures.value c.in_ok-rest.ensures.value
    c.in_ok-proper.ensures.value

pub list_end-returns-clause-value : goal.list_end-returns-clause-value
list_end-returns-clause-value t c =
    end_with_tail (read_by c.args.depth) _ _ _ _ _ _ c.in-Some.ensures.value c.in_ok-term.ensures.value
    c.in_ok-rest-2.ensures.value

pub list_from-returns-clause-value : goal.list_from-returns-clause-value
list_from-returns-clause-value t c =
    gives_same _ c.list_end.result _ _
    (items_then_end (read_by c.args.depth) _ _ _ _ c.in_ok-terms.ensures.value) c.list_end.ensures.value

pub tail_form-returns-in_default-clause-value : goal.tail_form-returns-in_default-clause-value
tail_form-returns-in_default-clause-value t c = no_form c.args.depth (read_by c.args.depth) _ _ c.in_default.len_below

pub tail_form-returns-in-Some-clause-value : goal.tail_form-returns-in-Some-clause-value
tail_form-returns-in-Some-clause-value t c =
    sym (bracket_form c.args.depth (read_by c.args.depth) _ _ _ _
    (first_and_rest _ _ c.in-len1-up.len_at_least c.first-item.is) c.if-first-ne91.false)
    ∙ list_closed (read_by c.args.depth) _ _ _ _ c.in-Some.ensures.value c.in_ok-proper.ensures.value

pub tail_form-returns-clause-value : goal.tail_form-returns-clause-value
tail_form-returns-clause-value t c =
    gives_same _ c.list_from.result _ _
    (list_open (read_by c.args.depth) _ _ c.in_default-mark_at.ensures.value
    ∙ bracket_form c.args.depth (read_by c.args.depth) _ _ _ _
    (first_and_rest _ _ c.in-len1-up.len_at_least c.first-item.is) c.if-first-ne91.false)
    c.list_from.ensures.value
