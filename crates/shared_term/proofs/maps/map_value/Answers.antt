use Rattle.std.proofs.Common.{◌∙◌, rules, ap}
use Rattle.erl_term.specs.Depth.{deepest_pair}
use Rattle.shared_term.specs.View.{pair_row, pairs_of}
use Rattle.shared_term.specs.declared.value.MapPairs.{MapPairs, out-MapPairs}
use Rattle.shared_term.specs.declared.value.Value.{the_lemmas}
use Rattle.shared_term.proofs.Pairs.{IsMapOf, made_map, made_map_whole}
use Rattle.shared_term.proofs.maps.map_value.Goals as goal

is_map : (c : goal.In-Ok) → IsMapOf c.in-Ok.map.value c.args.pairs
is_map c = record {
  pairs_are = ap pairs_of c.in-Ok.ensures.ok ∙ search (rules, the_lemmas);
  deepest_is =
      ap (λ (m : MapPairs). (out-MapPairs m).deepest) c.in-Ok.ensures.ok ∙ (search (rules, the_lemmas))
      ∙ c.in_ok-deepest.ensures ∙ c.deepest_of_pairs.ensures ∙ ap (λ ps. deepest_pair (pair_row ps)) c.as_slice.ensures;
  whole = c.requires;
}

pub returns-in-Ok-clause-map : goal.returns-in-Ok-clause-map
returns-in-Ok-clause-map c = made_map c.in-Ok.map c.args.pairs (is_map c)

pub returns-in-Ok-clause-whole : goal.returns-in-Ok-clause-whole
returns-in-Ok-clause-whole c = made_map_whole c.in-Ok.map c.args.pairs (is_map c)
