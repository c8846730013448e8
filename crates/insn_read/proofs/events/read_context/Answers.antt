use Rattle.std.proofs.Common.{refl}
use Rattle.beam_table.specs.declared.opcode.Opcode.TheVariants as O
use Rattle.insn_read.proofs.OpcodeArms.{made, unmade}
use Rattle.insn_read.proofs.events.read_context.Goals as goal

pub returns-in-Ok : goal.returns-in-Ok
returns-in-Ok c = made _ O.BsStartMatch4 _ _ _ c.in-BsStartMatch4.is c.in-Ok.ensures refl

pub returns-in-Err : goal.returns-in-Err
returns-in-Err c = unmade _ O.BsStartMatch4 _ _ c.in-BsStartMatch4.is c.in-Err.ensures

pub returns-in-Ok-read : goal.returns-in-Ok-read
returns-in-Ok-read c = made _ O.BsTestTail2 _ _ _ c.in-BsTestTail2.is c.in-Ok-read.ensures refl

pub returns-in-Err-read : goal.returns-in-Err-read
returns-in-Err-read c = unmade _ O.BsTestTail2 _ _ c.in-BsTestTail2.is c.in-Err-read.ensures

pub returns-in-Ok-read-2 : goal.returns-in-Ok-read-2
returns-in-Ok-read-2 c = made _ O.BsTestUnit _ _ _ c.in-BsTestUnit.is c.in-Ok-read-2.ensures refl

pub returns-in-Err-read-2 : goal.returns-in-Err-read-2
returns-in-Err-read-2 c = unmade _ O.BsTestUnit _ _ c.in-BsTestUnit.is c.in-Err-read-2.ensures

pub returns-in-Ok-read-3 : goal.returns-in-Ok-read-3
returns-in-Ok-read-3 c = made _ O.BsGetTail _ _ _ c.in-BsGetTail.is c.in-Ok-read-3.ensures refl

pub returns-in-Err-read-3 : goal.returns-in-Err-read-3
returns-in-Err-read-3 c = unmade _ O.BsGetTail _ _ c.in-BsGetTail.is c.in-Err-read-3.ensures

pub returns-in-Ok-read-4 : goal.returns-in-Ok-read-4
returns-in-Ok-read-4 c = made _ O.BsGetPosition _ _ _ c.in-BsGetPosition.is c.in-Ok-read-4.ensures refl

pub returns-in-Err-read-4 : goal.returns-in-Err-read-4
returns-in-Err-read-4 c = unmade _ O.BsGetPosition _ _ c.in-BsGetPosition.is c.in-Err-read-4.ensures

pub returns-in-Ok-read-5 : goal.returns-in-Ok-read-5
returns-in-Ok-read-5 c = made _ O.BsSetPosition _ _ _ c.in-BsSetPosition.is c.in-Ok-read-5.ensures refl

pub returns-in-Err-read-5 : goal.returns-in-Err-read-5
returns-in-Err-read-5 c = unmade _ O.BsSetPosition _ _ c.in-BsSetPosition.is c.in-Err-read-5.ensures
