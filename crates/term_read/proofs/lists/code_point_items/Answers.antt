use Rattle.std.proofs.Common.{◌≡◌, ◌∙◌, sym, ap, subst, [], ◌∷◌, ◌+◌, ◌++◌, drop, map, length}
use Rattle.std.proofs.lemmas.List.{drop_more}
use Rattle.erl_term.specs.View.{view}
use Rattle.term_read.specs.TermGrammar.{code_point}
use Rattle.erl_term.specs.WellRows.{AreWellFormed}
use Rattle.term_read.proofs.WellRows.{no_terms, code_point_step, term_pushed, number_pushed}
use Rattle.term_read.proofs.lists.code_point_items.Goals as goal

pub loop-c-init : goal.loop-c-init
loop-c-init c =
    let nothing : c.new-items.result ≡ [] = c.new-items.ensures in
    record {
      read = ap (λ ts. map view ts ++ map code_point c.args.text.now) nothing;
      well_formed = subst AreWellFormed (sym nothing) no_terms;
      number = ap length nothing;
    }

pub loop-c-preserved : goal.loop-c-preserved
loop-c-preserved c =
    let cons = drop_more c.args.text.now c.loop-c.c-index c.c-item.result c.loop-c-test.true
    ∙ ap (λ y. y ∷ drop (c.loop-c.c-index + 1) c.args.text.now) (sym c.c-item.is) in
    record {
      read = code_point_step _ _ _ _ _ _ _ cons c.in_ok-push.ensures.ok c.code_point.ensures.value
          c.loop-c.invariant.read;
      well_formed = term_pushed _ _ _ c.in_ok-push.ensures.ok c.loop-c.invariant.well_formed
          c.code_point.ensures.well_formed;
      number = number_pushed _ _ _ _ c.in_ok-push.ensures.ok c.loop-c.invariant.number;
    }
