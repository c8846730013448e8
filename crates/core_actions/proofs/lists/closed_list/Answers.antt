use Rattle.std.proofs.Common.{rules, ◌≡◌, ◌∙◌, sym, ap, map, false, ◌&&◌}
use Rattle.core_form.specs.declared.tree.ExprForm.{the_lemmas}
use Rattle.core_form.specs.Core as C
use Rattle.core_form.specs.SourceTree.{is_literal, are_literals}
use Rattle.core_form.specs.View.{view, exprs}
use Rattle.core_actions.specs.Joining.{list_of_items}
use Rattle.core_actions.proofs.LiteralRows.{list_kept}
use Rattle.core_actions.proofs.lists.closed_list.Goals as goal

pub returns-then-not-constant-clause-value : goal.returns-then-not-constant-clause-value
returns-then-not-constant-clause-value c =
    let e : (is_literal (view c.in_ok-end.end) && are_literals (exprs (map view c.args.items)))
    ≡ false = search rules in
    let v : view _ ≡ C.list c.args.place (exprs (map view c.args.items)) (view c.in_ok-end.end) = search
    (rules, the_lemmas) in
    v ∙ sym (list_kept c.args.place (exprs (map view c.args.items)) (view c.in_ok-end.end) e)
    ∙ ap (λ x. list_of_items c.args.place (exprs (map view c.args.items)) x) c.in_ok-end.ensures.value
