use Rattle.std.proofs.Common.{refl}
use Rattle.beam_table.specs.declared.opcode.Opcode.TheVariants as O
use Rattle.insn_read.proofs.OpcodeArms.{made, passed, unmade}
use Rattle.insn_read.proofs.control.read_call.Goals as goal

pub returns-in-Ok : goal.returns-in-Ok
returns-in-Ok c = made _ O.Return _ _ _ c.in-Return.is c.in-Ok.ensures refl

pub returns-in-Err : goal.returns-in-Err
returns-in-Err c = unmade _ O.Return _ _ c.in-Return.is c.in-Err.ensures

pub returns-in-Ok-read : goal.returns-in-Ok-read
returns-in-Ok-read c = made _ O.Call _ _ _ c.in-Call.is c.in-Ok-read.ensures refl

pub returns-in-Err-read : goal.returns-in-Err-read
returns-in-Err-read c = unmade _ O.Call _ _ c.in-Call.is c.in-Err-read.ensures

pub returns-in-Ok-read-2 : goal.returns-in-Ok-read-2
returns-in-Ok-read-2 c = made _ O.CallOnly _ _ _ c.in-CallOnly.is c.in-Ok-read-2.ensures refl

pub returns-in-Err-read-2 : goal.returns-in-Err-read-2
returns-in-Err-read-2 c = unmade _ O.CallOnly _ _ c.in-CallOnly.is c.in-Err-read-2.ensures

pub returns-in-Ok-read-3 : goal.returns-in-Ok-read-3
returns-in-Ok-read-3 c = made _ O.CallLast _ _ _ c.in-CallLast.is c.in-Ok-read-3.ensures refl

pub returns-in-Err-read-3 : goal.returns-in-Err-read-3
returns-in-Err-read-3 c = unmade _ O.CallLast _ _ c.in-CallLast.is c.in-Err-read-3.ensures

pub returns-in-Ok-read-4 : goal.returns-in-Ok-read-4
returns-in-Ok-read-4 c = passed _ O.CallExt _ _ _ c.in-CallExt.is c.in-Ok-read-4.ensures c.call_ext.ensures

pub returns-in-Err-read-4 : goal.returns-in-Err-read-4
returns-in-Err-read-4 c = unmade _ O.CallExt _ _ c.in-CallExt.is c.in-Err-read-4.ensures

pub returns-in-Ok-read-5 : goal.returns-in-Ok-read-5
returns-in-Ok-read-5 c = passed _ O.CallExtOnly _ _ _ c.in-CallExtOnly.is c.in-Ok-read-5.ensures c.call_ext_only.ensures

pub returns-in-Err-read-5 : goal.returns-in-Err-read-5
returns-in-Err-read-5 c = unmade _ O.CallExtOnly _ _ c.in-CallExtOnly.is c.in-Err-read-5.ensures

pub returns-in-Ok-read-6 : goal.returns-in-Ok-read-6
returns-in-Ok-read-6 c = passed _ O.CallExtLast _ _ _ c.in-CallExtLast.is c.in-Ok-read-6.ensures c.call_ext_last.ensures

pub returns-in-Err-read-6 : goal.returns-in-Err-read-6
returns-in-Err-read-6 c = unmade _ O.CallExtLast _ _ c.in-CallExtLast.is c.in-Err-read-6.ensures

pub returns-in-Ok-read-7 : goal.returns-in-Ok-read-7
returns-in-Ok-read-7 c = made _ O.CallFun _ _ _ c.in-CallFun.is c.in-Ok-read-7.ensures refl

pub returns-in-Err-read-7 : goal.returns-in-Err-read-7
returns-in-Err-read-7 c = unmade _ O.CallFun _ _ c.in-CallFun.is c.in-Err-read-7.ensures

pub returns-in-Ok-read-8 : goal.returns-in-Ok-read-8
returns-in-Ok-read-8 c = made _ O.Apply _ _ _ c.in-Apply.is c.in-Ok-read-8.ensures refl

pub returns-in-Err-read-8 : goal.returns-in-Err-read-8
returns-in-Err-read-8 c = unmade _ O.Apply _ _ c.in-Apply.is c.in-Err-read-8.ensures

pub returns-in-Ok-read-9 : goal.returns-in-Ok-read-9
returns-in-Ok-read-9 c = made _ O.ApplyLast _ _ _ c.in-ApplyLast.is c.in-Ok-read-9.ensures refl

pub returns-in-Err-read-9 : goal.returns-in-Err-read-9
returns-in-Err-read-9 c = unmade _ O.ApplyLast _ _ c.in-ApplyLast.is c.in-Err-read-9.ensures

pub returns-in-Ok-read-10 : goal.returns-in-Ok-read-10
returns-in-Ok-read-10 c = made _ O.Send _ _ _ c.in-Send.is c.in-Ok-read-10.ensures refl

pub returns-in-Err-read-10 : goal.returns-in-Err-read-10
returns-in-Err-read-10 c = unmade _ O.Send _ _ c.in-Send.is c.in-Err-read-10.ensures
