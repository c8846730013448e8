use Rattle.std.proofs.Common.{refl}
use Rattle.beam_table.specs.declared.opcode.Opcode.TheVariants as O
use Rattle.insn_read.proofs.OpcodeArms.{made, unmade}
use Rattle.insn_read.proofs.events.read_segments.Goals as goal

pub returns-in-Ok : goal.returns-in-Ok
returns-in-Ok c = made _ O.BsGetInteger2 _ _ _ c.in-BsGetInteger2.is c.in-Ok.ensures refl

pub returns-in-Err : goal.returns-in-Err
returns-in-Err c = unmade _ O.BsGetInteger2 _ _ c.in-BsGetInteger2.is c.in-Err.ensures

pub returns-in-Ok-read : goal.returns-in-Ok-read
returns-in-Ok-read c = made _ O.BsGetBinary2 _ _ _ c.in-BsGetBinary2.is c.in-Ok-read.ensures refl

pub returns-in-Err-read : goal.returns-in-Err-read
returns-in-Err-read c = unmade _ O.BsGetBinary2 _ _ c.in-BsGetBinary2.is c.in-Err-read.ensures

pub returns-in-Ok-read-2 : goal.returns-in-Ok-read-2
returns-in-Ok-read-2 c = made _ O.BsSkipBits2 _ _ _ c.in-BsSkipBits2.is c.in-Ok-read-2.ensures refl

pub returns-in-Err-read-2 : goal.returns-in-Err-read-2
returns-in-Err-read-2 c = unmade _ O.BsSkipBits2 _ _ c.in-BsSkipBits2.is c.in-Err-read-2.ensures

pub returns-in-Ok-read-3 : goal.returns-in-Ok-read-3
returns-in-Ok-read-3 c = made _ O.BsCreateBin _ _ _ c.in-BsCreateBin.is c.in-Ok-read-3.ensures refl

pub returns-in-Err-read-3 : goal.returns-in-Err-read-3
returns-in-Err-read-3 c = unmade _ O.BsCreateBin _ _ c.in-BsCreateBin.is c.in-Err-read-3.ensures
