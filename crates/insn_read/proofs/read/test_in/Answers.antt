use Rattle.operand_read.proofs.ListRows.{behind_first}
use Rattle.insn_read.proofs.read.test_in.Goals as goal

pub insn_by-requires : goal.insn_by-requires
insn_by-requires c = behind_first _ c.args.terms.now c.requires
