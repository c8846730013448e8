use Rattle.std.proofs.Common.{refl}
use Rattle.beam_table.specs.declared.opcode.Opcode.TheVariants as O
use Rattle.insn_read.proofs.OpcodeArms.{made, unmade}
use Rattle.insn_read.proofs.events.read_receive.Goals as goal

pub returns-in-Ok : goal.returns-in-Ok
returns-in-Ok c = made _ O.LoopRec _ _ _ c.in-LoopRec.is c.in-Ok.ensures refl

pub returns-in-Err : goal.returns-in-Err
returns-in-Err c = unmade _ O.LoopRec _ _ c.in-LoopRec.is c.in-Err.ensures

pub returns-in-Ok-read : goal.returns-in-Ok-read
returns-in-Ok-read c = made _ O.RemoveMessage _ _ _ c.in-RemoveMessage.is c.in-Ok-read.ensures refl

pub returns-in-Err-read : goal.returns-in-Err-read
returns-in-Err-read c = unmade _ O.RemoveMessage _ _ c.in-RemoveMessage.is c.in-Err-read.ensures

pub returns-in-Ok-read-2 : goal.returns-in-Ok-read-2
returns-in-Ok-read-2 c = made _ O.LoopRecEnd _ _ _ c.in-LoopRecEnd.is c.in-Ok-read-2.ensures refl

pub returns-in-Err-read-2 : goal.returns-in-Err-read-2
returns-in-Err-read-2 c = unmade _ O.LoopRecEnd _ _ c.in-LoopRecEnd.is c.in-Err-read-2.ensures

pub returns-in-Ok-read-3 : goal.returns-in-Ok-read-3
returns-in-Ok-read-3 c = made _ O.Wait _ _ _ c.in-Wait.is c.in-Ok-read-3.ensures refl

pub returns-in-Err-read-3 : goal.returns-in-Err-read-3
returns-in-Err-read-3 c = unmade _ O.Wait _ _ c.in-Wait.is c.in-Err-read-3.ensures

pub returns-in-Ok-read-4 : goal.returns-in-Ok-read-4
returns-in-Ok-read-4 c = made _ O.WaitTimeout _ _ _ c.in-WaitTimeout.is c.in-Ok-read-4.ensures refl

pub returns-in-Err-read-4 : goal.returns-in-Err-read-4
returns-in-Err-read-4 c = unmade _ O.WaitTimeout _ _ c.in-WaitTimeout.is c.in-Err-read-4.ensures

pub returns-in-Ok-read-5 : goal.returns-in-Ok-read-5
returns-in-Ok-read-5 c = made _ O.Timeout _ _ _ c.in-Timeout.is c.in-Ok-read-5.ensures refl

pub returns-in-Err-read-5 : goal.returns-in-Err-read-5
returns-in-Err-read-5 c = unmade _ O.Timeout _ _ c.in-Timeout.is c.in-Err-read-5.ensures

pub returns-in-Ok-read-6 : goal.returns-in-Ok-read-6
returns-in-Ok-read-6 c = made _ O.RecvMarkerReserve _ _ _ c.in-RecvMarkerReserve.is c.in-Ok-read-6.ensures refl

pub returns-in-Err-read-6 : goal.returns-in-Err-read-6
returns-in-Err-read-6 c = unmade _ O.RecvMarkerReserve _ _ c.in-RecvMarkerReserve.is c.in-Err-read-6.ensures

pub returns-in-Ok-read-7 : goal.returns-in-Ok-read-7
returns-in-Ok-read-7 c = made _ O.RecvMarkerBind _ _ _ c.in-RecvMarkerBind.is c.in-Ok-read-7.ensures refl

pub returns-in-Err-read-7 : goal.returns-in-Err-read-7
returns-in-Err-read-7 c = unmade _ O.RecvMarkerBind _ _ c.in-RecvMarkerBind.is c.in-Err-read-7.ensures

pub returns-in-Ok-read-8 : goal.returns-in-Ok-read-8
returns-in-Ok-read-8 c = made _ O.RecvMarkerUse _ _ _ c.in-RecvMarkerUse.is c.in-Ok-read-8.ensures refl

pub returns-in-Err-read-8 : goal.returns-in-Err-read-8
returns-in-Err-read-8 c = unmade _ O.RecvMarkerUse _ _ c.in-RecvMarkerUse.is c.in-Err-read-8.ensures

pub returns-in-Ok-read-9 : goal.returns-in-Ok-read-9
returns-in-Ok-read-9 c = made _ O.RecvMarkerClear _ _ _ c.in-RecvMarkerClear.is c.in-Ok-read-9.ensures refl

pub returns-in-Err-read-9 : goal.returns-in-Err-read-9
returns-in-Err-read-9 c = unmade _ O.RecvMarkerClear _ _ c.in-RecvMarkerClear.is c.in-Err-read-9.ensures
