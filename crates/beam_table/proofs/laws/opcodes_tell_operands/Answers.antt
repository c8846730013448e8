use Rattle.beam_table.proofs.OpcodeRows.{has_its_row}
use Rattle.beam_table.proofs.laws.opcodes_tell_operands.Goals as goal

pub returns : goal.returns
returns c = has_its_row
