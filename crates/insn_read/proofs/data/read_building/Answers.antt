use Rattle.std.proofs.Common.{refl}
use Rattle.beam_table.specs.declared.opcode.Opcode.TheVariants as O
use Rattle.insn_read.proofs.OpcodeArms.{made, unmade}
use Rattle.insn_read.proofs.data.read_building.Goals as goal

pub returns-in-Ok : goal.returns-in-Ok
returns-in-Ok c = made _ O.PutList _ _ _ c.in-PutList.is c.in-Ok.ensures refl

pub returns-in-Err : goal.returns-in-Err
returns-in-Err c = unmade _ O.PutList _ _ c.in-PutList.is c.in-Err.ensures

pub returns-in-Ok-read : goal.returns-in-Ok-read
returns-in-Ok-read c = made _ O.PutTuple2 _ _ _ c.in-PutTuple2.is c.in-Ok-read.ensures refl

pub returns-in-Err-read : goal.returns-in-Err-read
returns-in-Err-read c = unmade _ O.PutTuple2 _ _ c.in-PutTuple2.is c.in-Err-read.ensures

pub returns-in-Ok-read-2 : goal.returns-in-Ok-read-2
returns-in-Ok-read-2 c = made _ O.MakeFun3 _ _ _ c.in-MakeFun3.is c.in-Ok-read-2.ensures refl

pub returns-in-Err-read-2 : goal.returns-in-Err-read-2
returns-in-Err-read-2 c = unmade _ O.MakeFun3 _ _ c.in-MakeFun3.is c.in-Err-read-2.ensures

pub returns-in-Ok-read-3 : goal.returns-in-Ok-read-3
returns-in-Ok-read-3 c = made _ O.PutMapAssoc _ _ _ c.in-PutMapAssoc.is c.in-Ok-read-3.ensures refl

pub returns-in-Err-read-3 : goal.returns-in-Err-read-3
returns-in-Err-read-3 c = unmade _ O.PutMapAssoc _ _ c.in-PutMapAssoc.is c.in-Err-read-3.ensures

pub returns-in-Ok-read-4 : goal.returns-in-Ok-read-4
returns-in-Ok-read-4 c = made _ O.PutMapExact _ _ _ c.in-PutMapExact.is c.in-Ok-read-4.ensures refl

pub returns-in-Err-read-4 : goal.returns-in-Err-read-4
returns-in-Err-read-4 c = unmade _ O.PutMapExact _ _ c.in-PutMapExact.is c.in-Err-read-4.ensures
