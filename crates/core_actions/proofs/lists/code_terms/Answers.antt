use Rattle.std.proofs.Common.{◌≡◌, sym, ap, subst, ◌++◌, [], map}
use Rattle.std.proofs.lemmas.List.{drop_more}
use Rattle.erl_term.specs.View as Terms
use Rattle.erl_term.specs.WellRows.{AreWellFormed}
use Rattle.core_grammar.specs.ConstantTerms.{character_terms}
use Rattle.term_read.proofs.WellRows.{no_terms, term_pushed}
use Rattle.core_actions.proofs.Appending.{code_term_pushed}
use Rattle.core_actions.proofs.lists.code_terms.Goals as goal

pub loop-code-init : goal.loop-code-init
loop-code-init c =
    let nothing : c.new-items.result ≡ [] = c.new-items.ensures in
    record {
      read = ap (λ ts. map Terms.view ts ++ character_terms c.args.codes.now) nothing;
      well_formed = subst AreWellFormed (sym nothing) no_terms;
    }

pub loop-code-preserved : goal.loop-code-preserved
loop-code-preserved c =
    let cons = drop_more c.args.codes.now c.loop-code.code-index _ c.loop-code-test.true in
    record {
      read = code_term_pushed _ _ _ _ _ _ _ cons c.in_ok-push.ensures.ok c.code_term.ensures.value
          c.loop-code.invariant.read;
      well_formed = term_pushed _ _ _ c.in_ok-push.ensures.ok c.loop-code.invariant.well_formed
          c.code_term.ensures.well_formed;
    }
