use Rattle.std.proofs.Common.{◌≡◌, drop}
use Rattle.insn_terms.specs.Reading as Plain
use Rattle.insn_read.proofs.opcodes.named.Given as goal

abbrev pub invariant-loop-opcode : goal.invariant-loop-opcode
invariant-loop-opcode l = Plain.named (drop l.opcode-index l.opcodes) l.name ≡ Plain.named l.opcodes l.name
