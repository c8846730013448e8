use Rattle.std.proofs.Common.{rules, ◌≡◌, ◌∙◌, sym, map, false}
use Rattle.core_form.specs.declared.tree.ExprForm.{the_lemmas}
use Rattle.core_form.specs.Core as C
use Rattle.core_form.specs.SourceTree.{are_known}
use Rattle.core_form.specs.View.{pattern_view, patterns}
use Rattle.core_actions.proofs.KnownRows.{tuple_kept}
use Rattle.core_actions.proofs.patterns.tuple_of_patterns.Goals as goal

pub returns-then-not-constant-clause-value : goal.returns-then-not-constant-clause-value
returns-then-not-constant-clause-value c =
    let e : are_known (patterns (map pattern_view c.args.items)) ≡ false = search rules in
    let v : pattern_view _
    ≡ C.tuple_like c.args.place (patterns (map pattern_view c.args.items)) = search (rules, the_lemmas) in
    v ∙ sym (tuple_kept c.args.place (patterns (map pattern_view c.args.items)) e)
