use Rattle.std.proofs.Common.{rules, ◌≡◌, ◌∙◌, sym, map, false}
use Rattle.core_form.specs.declared.tree.ExprForm.{the_lemmas}
use Rattle.core_form.specs.Core as C
use Rattle.core_form.specs.SourceTree.{are_constant_pairs}
use Rattle.core_form.specs.View.{view, part_view, parts}
use Rattle.core_actions.proofs.LiteralRows.{map_kept}
use Rattle.core_actions.proofs.tuples.map_of_pairs.Goals as goal

pub returns-then-not-constant-clause-value : goal.returns-then-not-constant-clause-value
returns-then-not-constant-clause-value c =
    let e : are_constant_pairs (parts (map part_view c.args.pairs)) ≡ false = search rules in
    let v : view _ ≡ C.new_map c.args.place (parts (map part_view c.args.pairs)) = search (rules, the_lemmas) in
    v ∙ sym (map_kept c.args.place (parts (map part_view c.args.pairs)) e)
