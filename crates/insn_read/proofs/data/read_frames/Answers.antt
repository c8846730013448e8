use Rattle.std.proofs.Common.{refl}
use Rattle.beam_table.specs.declared.opcode.Opcode.TheVariants as O
use Rattle.insn_read.proofs.OpcodeArms.{made, unmade}
use Rattle.insn_read.proofs.data.read_frames.Goals as goal

pub returns-in-Ok : goal.returns-in-Ok
returns-in-Ok c = made _ O.Label _ _ _ c.in-Label.is c.in-Ok.ensures refl

pub returns-in-Err : goal.returns-in-Err
returns-in-Err c = unmade _ O.Label _ _ c.in-Label.is c.in-Err.ensures

pub returns-in-Ok-read : goal.returns-in-Ok-read
returns-in-Ok-read c = made _ O.Move _ _ _ c.in-Move.is c.in-Ok-read.ensures refl

pub returns-in-Err-read : goal.returns-in-Err-read
returns-in-Err-read c = unmade _ O.Move _ _ c.in-Move.is c.in-Err-read.ensures

pub returns-in-Ok-read-2 : goal.returns-in-Ok-read-2
returns-in-Ok-read-2 c = made _ O.Swap _ _ _ c.in-Swap.is c.in-Ok-read-2.ensures refl

pub returns-in-Err-read-2 : goal.returns-in-Err-read-2
returns-in-Err-read-2 c = unmade _ O.Swap _ _ c.in-Swap.is c.in-Err-read-2.ensures

pub returns-in-Ok-read-3 : goal.returns-in-Ok-read-3
returns-in-Ok-read-3 c = made _ O.InitYregs _ _ _ c.in-InitYregs.is c.in-Ok-read-3.ensures refl

pub returns-in-Err-read-3 : goal.returns-in-Err-read-3
returns-in-Err-read-3 c = unmade _ O.InitYregs _ _ c.in-InitYregs.is c.in-Err-read-3.ensures

pub returns-in-Ok-read-4 : goal.returns-in-Ok-read-4
returns-in-Ok-read-4 c = made _ O.Allocate _ _ _ c.in-Allocate.is c.in-Ok-read-4.ensures refl

pub returns-in-Err-read-4 : goal.returns-in-Err-read-4
returns-in-Err-read-4 c = unmade _ O.Allocate _ _ c.in-Allocate.is c.in-Err-read-4.ensures

pub returns-in-Ok-read-5 : goal.returns-in-Ok-read-5
returns-in-Ok-read-5 c = made _ O.AllocateHeap _ _ _ c.in-AllocateHeap.is c.in-Ok-read-5.ensures refl

pub returns-in-Err-read-5 : goal.returns-in-Err-read-5
returns-in-Err-read-5 c = unmade _ O.AllocateHeap _ _ c.in-AllocateHeap.is c.in-Err-read-5.ensures

pub returns-in-Ok-read-6 : goal.returns-in-Ok-read-6
returns-in-Ok-read-6 c = made _ O.Deallocate _ _ _ c.in-Deallocate.is c.in-Ok-read-6.ensures refl

pub returns-in-Err-read-6 : goal.returns-in-Err-read-6
returns-in-Err-read-6 c = unmade _ O.Deallocate _ _ c.in-Deallocate.is c.in-Err-read-6.ensures

pub returns-in-Ok-read-7 : goal.returns-in-Ok-read-7
returns-in-Ok-read-7 c = made _ O.Trim _ _ _ c.in-Trim.is c.in-Ok-read-7.ensures refl

pub returns-in-Err-read-7 : goal.returns-in-Err-read-7
returns-in-Err-read-7 c = unmade _ O.Trim _ _ c.in-Trim.is c.in-Err-read-7.ensures

pub returns-in-Ok-read-8 : goal.returns-in-Ok-read-8
returns-in-Ok-read-8 c = made _ O.TestHeap _ _ _ c.in-TestHeap.is c.in-Ok-read-8.ensures refl

pub returns-in-Err-read-8 : goal.returns-in-Err-read-8
returns-in-Err-read-8 c = unmade _ O.TestHeap _ _ c.in-TestHeap.is c.in-Err-read-8.ensures
