use Rattle.std.specs.Str.{chars}
use Rattle.term_text.specs.TermText.{texts}
use Rattle.insn_text.proofs.singles.put_flags.Goals as goal

pub returns-in-true-true : goal.returns-in-true-true
unfolding chars texts
returns-in-true-true c = rw (c.in-true-true.is-0, c.in-true-true.is-1) c.put_str.ensures

pub returns-in-true-false : goal.returns-in-true-false
unfolding chars texts
returns-in-true-false c = rw (c.in-true-false.is-0, c.in-true-false.is-1) c.put_str-in-true-false.ensures

pub returns-in-false-true : goal.returns-in-false-true
unfolding chars texts
returns-in-false-true c = rw (c.in-false-true.is-0, c.in-false-true.is-1) c.put_str-in-false-true.ensures

pub returns-in-false-false : goal.returns-in-false-false
unfolding chars texts
returns-in-false-false c = rw (c.in-false-false.is-0, c.in-false-false.is-1) c.put_str-in-false-false.ensures
