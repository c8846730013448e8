use Rattle.std.proofs.Common.{rules, ◌≡◌, ◌∙◌, sym, map, false}
use Rattle.core_form.specs.declared.tree.ExprForm.{the_lemmas}
use Rattle.core_form.specs.Core as C
use Rattle.core_form.specs.SourceTree.{are_literals}
use Rattle.core_form.specs.View.{view, exprs}
use Rattle.core_actions.proofs.LiteralRows.{tuple_kept}
use Rattle.core_actions.proofs.tuples.tuple_of.Goals as goal

pub returns-then-not-constant-clause-value : goal.returns-then-not-constant-clause-value
returns-then-not-constant-clause-value c =
    let e : are_literals (exprs (map view c.args.items)) ≡ false = search rules in
    let v : view _ ≡ C.tuple c.args.place (exprs (map view c.args.items)) = search (rules, the_lemmas) in
    v ∙ sym (tuple_kept c.args.place (exprs (map view c.args.items)) e)
