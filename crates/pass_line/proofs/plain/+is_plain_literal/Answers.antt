use Rattle.std.proofs.Common.{sym, rules}
use Rattle.pass_line.proofs.Literals.{is_plain_literal-list}
use Rattle.pass_line.proofs.plain.+is_plain_literal.Goals as goal

pub returns-else-is_empty : goal.returns-else-is_empty
returns-else-is_empty t c = sym (is_plain_literal-list _ _ _ c.in-List.is (λ e. search (rules, e)))
