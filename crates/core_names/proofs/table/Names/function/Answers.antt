use Rattle.std.proofs.Common.{ap, ◌∙◌, option_map}
use Rattle.core_names.specs.Table.{function_known}
use Rattle.core_names.proofs.Rows.{known_site}
use Rattle.core_names.proofs.table.Names.function.Goals as goal

pub returns-clause-site : goal.returns-clause-site
returns-clause-site c =
    ap (option_map (λ x. x.site)) (c.copied.ensures ∙ c.get.ensures.value ∙ c.self.invariant.functions c.args.key.now
    ∙ ap (λ g. function_known g c.args.key.now) c.self.view_is)
    ∙ known_site c.args.self.now c.args.key.now
