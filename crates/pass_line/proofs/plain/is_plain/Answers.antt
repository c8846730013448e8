use Rattle.std.proofs.Common.{rules, arith, ap, ◌∙◌}
use Rattle.pass_line.specs.PlainModule.{are_known}
use Rattle.pass_line.proofs.Plainness.{too_many, doubled, attributed, told}
use Rattle.pass_line.proofs.plain.is_plain.Goals as goal

pub returns-then-len-gt-MOST_FUNCTIONS : goal.returns-then-len-gt-MOST_FUNCTIONS
returns-then-len-gt-MOST_FUNCTIONS c = (λ t. absurd cc, λ p. absurd (too_many c.args.tree.now.defs (omega arith) p.few_functions))

pub returns-then-not-is_empty : goal.returns-then-not-is_empty
returns-then-not-is_empty c = (λ t. absurd cc, λ p. absurd (attributed c.args.tree.now (λ e. search (rules, e)) p))

pub returns-in-None : goal.returns-in-None
returns-in-None c = (λ t. absurd cc, λ p. absurd (doubled c.args.tree.now.defs (search rules) p.distinct_functions))

pub returns-in-Some : goal.returns-in-Some
returns-in-Some c =
    told c.args.tree.now c.in-Some.known c.are_known.result (omega arith) (search rules) (search rules) (search rules)
    (search rules) (search rules)
    (c.are_known.ensures ∙ ap (are_known c.in-Some.known) c.as_slice-in-Some.ensures)
