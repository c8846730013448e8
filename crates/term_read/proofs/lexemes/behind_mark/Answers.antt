use Rattle.std.proofs.Common.{◌≡◌, ◌∙◌, sym, ap₂, [], arith}
use Rattle.std.proofs.lemmas.Grind.{common_steps}
use Rattle.std.proofs.lemmas.List.{drop_more}
use Rattle.term_read.specs.Lexemes.{behind_mark}
use Rattle.term_read.proofs.lexemes.behind_mark.Goals as goal

pub returns-in_default-clause-value : goal.returns-in_default-clause-value
returns-in_default-clause-value c =
    let nothing : c.loop-m.rest.now ≡ [] = grind (arith, common_steps) in
    let cons = drop_more c.args.mark.now c.loop-m.m-index 0 c.loop-m-test.true in
    sym (ap₂ behind_mark cons nothing) ∙ c.loop-m.invariant.left
