use Rattle.std.proofs.Common.{◌≡◌}
use Rattle.erl_term.specs.Terms.{put}
use Rattle.shared_term.specs.View.{view, pair_row}
use Rattle.shared_term.proofs.KeyPlaces.{between_pushed, put_whole, put_is_whole}
use Rattle.shared_term.proofs.maps.put_pair.Goals as goal

as_put : (c : goal.In_ok-share_pairs-2)
    → pair_row c.share_pairs-2.new.all ≡ put (view c.args.pair.key) (view c.args.pair.value) (pair_row c.args.pairs.now)
as_put c =
    put_whole (view c.args.pair.key)
    (view c.args.pair.value) c.args.pairs.now c.share_pairs-2.new.all _ _ c.room-first.ensures
    (between_pushed _ _ _ _ c.args.pairs.now _ _ c.args.pair c.new-all.ensures c.in_ok-share_pairs.ensures.added
    c.in_ok-push.ensures.ok c.in_ok-share_pairs-2.ensures.added)

pub map_value-requires : goal.map_value-requires
map_value-requires c =
    put_is_whole (view c.args.pair.key) (view c.args.pair.value) c.args.pairs.now c.share_pairs-2.new.all (as_put c)
    c.requires.pair.key.rising c.requires.pair.value.rising c.requires.pairs c.in_ok-share_pairs-2.ensures.whole
