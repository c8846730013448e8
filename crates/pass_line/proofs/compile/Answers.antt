use Rattle.std.proofs.Common.{rules}
use Rattle.core_form.specs.View.{module_view}
use Rattle.pass_line.specs.PlainText.{PlainText}
use Rattle.pass_line.proofs.Correct.{is_correct}
use Rattle.pass_line.proofs.Plainness.{small}
use Rattle.pass_line.proofs.Printable.{has_code, nests_of, well_formed_of, is_valid}
use Rattle.pass_line.proofs.compile.Goals as goal

pub assembly-requires : goal.assembly-requires
assembly-requires c =
    let t : PlainText c.args.bytes.now (module_view c.in-Some.tree) = search rules in small c.in-Some.tree t.plain

pub returns-clause-ok : goal.returns-clause-ok
returns-clause-ok c =
    let t : PlainText c.args.bytes.now (module_view c.in-Some.tree) = search rules in
    has_code c.args.bytes.now (module_view c.in-Some.tree) _ t c.in_ok-made.ensures

pub returns-clause-nests : goal.returns-clause-nests
returns-clause-nests c =
    let t : PlainText c.args.bytes.now (module_view c.in-Some.tree) = search rules in
    nests_of c.args.bytes.now (module_view c.in-Some.tree) _ t c.in_ok-made.ensures

pub returns-clause-well_formed : goal.returns-clause-well_formed
returns-clause-well_formed c =
    let t : PlainText c.args.bytes.now (module_view c.in-Some.tree) = search rules in
    well_formed_of c.args.bytes.now (module_view c.in-Some.tree) c.in_ok-made.made t c.in_ok-made.ensures

pub returns-clause-valid : goal.returns-clause-valid
returns-clause-valid c =
    let t : PlainText c.args.bytes.now (module_view c.in-Some.tree) = search rules in
    is_valid c.args.bytes.now (module_view c.in-Some.tree) _ t c.in_ok-made.ensures c.plain_assembly_is_valid.ensures

pub returns-clause-correct : goal.returns-clause-correct
returns-clause-correct c =
    let t : PlainText c.args.bytes.now (module_view c.in-Some.tree) = search rules in
    is_correct c.args.bytes.now _
    (has_code c.args.bytes.now (module_view c.in-Some.tree) _ t c.in_ok-made.ensures)
    c.plain_modules_behave_the_same.ensures
