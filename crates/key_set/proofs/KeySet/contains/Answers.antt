use Rattle.std.proofs.Common.{ap, ◌∙◌}
use Rattle.erl_base.specs.Names.{is_key}
use Rattle.key_set.proofs.Keys.{list_any-key_eq}
use Rattle.key_set.proofs.KeySet.contains.Goals as goal

pub returns : goal.returns
returns c =
    c.contains.ensures ∙ list_any-key_eq c.args.key.now c.self.inside.set.keys
    ∙ ap (is_key c.args.key.now) c.self.view_is
