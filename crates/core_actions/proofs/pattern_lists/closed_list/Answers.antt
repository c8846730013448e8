use Rattle.std.proofs.Common.{rules, ◌≡◌, ◌∙◌, sym, ap, map, false, ◌&&◌}
use Rattle.core_form.specs.declared.tree.PatternForm.{the_lemmas}
use Rattle.core_form.specs.Core as C
use Rattle.core_form.specs.SourceTree.{is_known, are_known}
use Rattle.core_form.specs.View.{pattern_view, patterns}
use Rattle.core_actions.specs.Joining.{list_of_patterns}
use Rattle.core_actions.proofs.KnownRows.{list_kept}
use Rattle.core_actions.proofs.pattern_lists.closed_list.Goals as goal

pub returns-then-not-constant-clause-value : goal.returns-then-not-constant-clause-value
returns-then-not-constant-clause-value c =
    let e : (is_known (pattern_view c.in_ok-end.end) && are_known (patterns (map pattern_view c.args.items)))
    ≡ false = search rules in
    let v : pattern_view _
    ≡ C.list_like c.args.place (patterns (map pattern_view c.args.items))
    (pattern_view c.in_ok-end.end) = search (rules, the_lemmas) in
    v ∙ sym (list_kept c.args.place (patterns (map pattern_view c.args.items)) (pattern_view c.in_ok-end.end) e)
    ∙ ap (λ x. list_of_patterns c.args.place (patterns (map pattern_view c.args.items)) x) c.in_ok-end.ensures.value
