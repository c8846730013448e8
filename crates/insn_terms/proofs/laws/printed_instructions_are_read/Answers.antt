use Rattle.insn_terms.proofs.PrintedRead.{printed_is_read}
use Rattle.insn_terms.proofs.laws.printed_instructions_are_read.Goals as goal

pub returns : goal.returns
returns c = printed_is_read
