use Rattle.std.proofs.Common.{refl}
use Rattle.beam_table.specs.declared.opcode.Opcode.TheVariants as O
use Rattle.insn_read.proofs.OpcodeArms.{made, passed, unmade}
use Rattle.insn_read.proofs.control.read_choice.Goals as goal

pub returns-in-Ok : goal.returns-in-Ok
returns-in-Ok c = made _ O.SelectVal _ _ _ c.in-SelectVal.is c.in-Ok.ensures refl

pub returns-in-Err : goal.returns-in-Err
returns-in-Err c = unmade _ O.SelectVal _ _ c.in-SelectVal.is c.in-Err.ensures

pub returns-in-Ok-read : goal.returns-in-Ok-read
returns-in-Ok-read c = made _ O.SelectTupleArity _ _ _ c.in-SelectTupleArity.is c.in-Ok-read.ensures refl

pub returns-in-Err-read : goal.returns-in-Err-read
returns-in-Err-read c = unmade _ O.SelectTupleArity _ _ c.in-SelectTupleArity.is c.in-Err-read.ensures

pub returns-in-Ok-read-2 : goal.returns-in-Ok-read-2
returns-in-Ok-read-2 c = passed _ O.Bif _ _ _ c.in-Bif.is c.in-Ok-read-2.ensures c.bif.ensures

pub returns-in-Err-read-2 : goal.returns-in-Err-read-2
returns-in-Err-read-2 c = unmade _ O.Bif _ _ c.in-Bif.is c.in-Err-read-2.ensures

pub returns-in-Ok-read-3 : goal.returns-in-Ok-read-3
returns-in-Ok-read-3 c = passed _ O.GcBif _ _ _ c.in-GcBif.is c.in-Ok-read-3.ensures c.gc_bif.ensures

pub returns-in-Err-read-3 : goal.returns-in-Err-read-3
returns-in-Err-read-3 c = unmade _ O.GcBif _ _ c.in-GcBif.is c.in-Err-read-3.ensures
