use Rattle.std.proofs.Common.{rules, ◌≡◌, ◌∙◌, sym, ap, subst, [], ◌∷◌, Some, map}
use Rattle.erl_term.specs.View as Terms
use Rattle.erl_term.specs.WellRows.{PairsWellFormed}
use Rattle.core_form.specs.View.{part_view, parts}
use Rattle.core_actions.specs.Joining.{literal_pairs}
use Rattle.core_actions.proofs.OptionRows.{both_rows, none_before}
use Rattle.core_actions.proofs.PairRows.{pair_moved, rest_constant, rest_parts_sound, no_pairs}
use Rattle.term_read.proofs.WellRows.{pair_pushed}
use Rattle.core_actions.proofs.tuples.pairs_of.Goals as goal

pub loop-part-init : goal.loop-part-init
loop-part-init c =
    let nothing : c.new-found.result ≡ [] = c.new-found.ensures in
    let all : c.from_vec-left.result.items ≡ c.args.pairs = c.from_vec-left.ensures.items ∙ c.into_vec.ensures in
    record {
      value = ap (λ ts. both_rows (Some (map Terms.pair_view ts)) (literal_pairs (parts
          (map part_view c.from_vec-left.result.items)))) nothing
          ∙ sym (none_before _) ∙ ap (λ es. literal_pairs (parts (map part_view es))) all;
      constant = search (rules, all, c.requires.constant);
      sound = search (rules, all, c.requires.sound);
      well_formed = subst PairsWellFormed (sym nothing) no_pairs;
    }

pub loop-part-preserved : goal.loop-part-preserved
loop-part-preserved c =
    let cons : c.loop-part.left.items ≡ c.in-Some.part ∷ c.pop_front.new.self.items = search rules in
    record {
      value = pair_moved _ _ _ _ _ _ _ cons c.in_ok-push.ensures.ok c.pair_of.ensures.value
          c.loop-part.invariant.value;
      constant = rest_constant _ _ _ cons c.loop-part.invariant.constant;
      sound = rest_parts_sound _ _ _ cons c.loop-part.invariant.sound;
      well_formed = pair_pushed _ _ _ c.in_ok-push.ensures.ok c.loop-part.invariant.well_formed
          c.pair_of.ensures.well_formed;
    }
