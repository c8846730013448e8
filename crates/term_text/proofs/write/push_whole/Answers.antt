use Rattle.std.proofs.Common.{rules}
use Rattle.term_text.specs.Decimal.{integer_on}
use Rattle.term_text.specs.Printing.{Adds}
use Rattle.term_text.proofs.write.push_whole.Goals as goal

pub returns : goal.returns
returns c r =
    let written : Adds c.args.out.now c.put_integer.new.out (integer_on c.args.number.now) = search rules in
    written r
