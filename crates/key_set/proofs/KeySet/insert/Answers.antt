use Rattle.std.proofs.Common.{[], ◌∷◌, ◌++◌, not, if◌then◌else◌, ap, ap₂, ◌∙◌}
use Rattle.erl_base.specs.Names.{is_key}
use Rattle.key_set.proofs.Keys.{list_any-key_eq}
use Rattle.key_set.proofs.KeySet.insert.Goals as goal

pub returns-clause-added : goal.returns-clause-added
returns-clause-added c =
    c.in_ok-insert.ensures.added
    ∙ ap not (list_any-key_eq c.in_ok-key.key c.self.inside.set.keys ∙ ap₂ is_key c.in_ok-key.ensures c.self.view_is)

pub returns-clause-keys : goal.returns-clause-keys
returns-clause-keys c =
    c.in_ok-insert.ensures.keys
    ∙ ap (λ b. if b then c.self.inside.set.keys else c.self.inside.set.keys ++ c.in_ok-key.key ∷ [])
    (list_any-key_eq c.in_ok-key.key c.self.inside.set.keys)
    ∙ ap₂ (λ k ks. if is_key k ks then ks else ks ++ k ∷ []) c.in_ok-key.ensures c.self.view_is
