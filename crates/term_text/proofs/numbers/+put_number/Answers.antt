use Rattle.std.proofs.Common.{rules}
use Rattle.term_text.proofs.Growth.{digit_added, last_digit_added}
use Rattle.term_text.proofs.numbers.+put_number.Goals as goal

pub returns-then-number-lt10 : goal.returns-then-number-lt10
returns-then-number-lt10 t c = digit_added _ _ _ c.if-number-lt10.true (search rules)

pub returns : goal.returns
returns t c = last_digit_added _ _ _ _ c.if-number-lt10.false c.in_ok-put_number.ensures (search rules)
