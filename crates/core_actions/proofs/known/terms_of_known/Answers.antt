use Rattle.std.proofs.Common.{rules, ◌≡◌, ◌∙◌, sym, ap, subst, [], ◌∷◌, Some, map}
use Rattle.erl_term.specs.View as Terms
use Rattle.erl_term.specs.WellRows.{AreWellFormed}
use Rattle.core_form.specs.View.{pattern_view, patterns}
use Rattle.core_actions.specs.Joining.{known_terms}
use Rattle.core_actions.proofs.OptionRows.{both_rows, none_before}
use Rattle.core_actions.proofs.KnownRows.{known_moved, rest_known, rest_sound}
use Rattle.term_read.proofs.WellRows.{no_terms, term_pushed}
use Rattle.core_actions.proofs.known.terms_of_known.Goals as goal

pub loop-item-init : goal.loop-item-init
loop-item-init c =
    let nothing : c.new-terms.result ≡ [] = c.new-terms.ensures in
    let all : c.from_vec-left.result.items ≡ c.args.items = c.from_vec-left.ensures.items ∙ c.into_vec.ensures in
    record {
      value = ap (λ ts. both_rows (Some (map Terms.view ts)) (known_terms (patterns
          (map pattern_view c.from_vec-left.result.items)))) nothing
          ∙ sym (none_before _) ∙ ap (λ es. known_terms (patterns (map pattern_view es))) all;
      known = search (rules, all, c.requires.known);
      sound = search (rules, all, c.requires.sound);
      well_formed = subst AreWellFormed (sym nothing) no_terms;
    }

pub loop-item-preserved : goal.loop-item-preserved
loop-item-preserved c =
    let cons : c.loop-item.left.items ≡ c.in-Some.item ∷ c.pop_front.new.self.items = search rules in
    record {
      value = known_moved _ _ _ _ _ _ _ cons c.in_ok-push.ensures.ok c.term_of_known.ensures.value
          c.loop-item.invariant.value;
      known = rest_known _ _ _ cons c.loop-item.invariant.known;
      sound = rest_sound _ _ _ cons c.loop-item.invariant.sound;
      well_formed = term_pushed _ _ _ c.in_ok-push.ensures.ok c.loop-item.invariant.well_formed
          c.term_of_known.ensures.well_formed;
    }
