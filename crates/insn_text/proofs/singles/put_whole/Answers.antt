use Rattle.std.proofs.Common.{◌∙◌}
use Rattle.std.specs.Str.{chars}
use Rattle.term_text.specs.TermText.{texts}
use Rattle.std.proofs.Common.{rules}
use Rattle.term_text.specs.Decimal.{integer_on}
use Rattle.term_text.specs.Printing.{Adds}
use Rattle.term_text.proofs.Growth.{on_ok}
use Rattle.insn_text.proofs.singles.put_whole.Goals as goal

pub returns : goal.returns
unfolding chars texts
returns c =
    let written : Adds c.put_str.new.out c.put_integer.new.out (integer_on c.args.integer.now) = search rules in
    on_ok c.put_str-2.result (λ e r. e r ∙ written _ ∙ c.in_ok-put_str.ensures _) c.put_str-2.ensures
