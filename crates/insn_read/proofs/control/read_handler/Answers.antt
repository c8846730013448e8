use Rattle.std.proofs.Common.{refl}
use Rattle.beam_table.specs.declared.opcode.Opcode.TheVariants as O
use Rattle.insn_read.proofs.OpcodeArms.{made, unmade}
use Rattle.insn_read.proofs.control.read_handler.Goals as goal

pub returns-in-Ok : goal.returns-in-Ok
returns-in-Ok c = made _ O.BuildStacktrace _ _ _ c.in-BuildStacktrace.is c.in-Ok.ensures refl

pub returns-in-Err : goal.returns-in-Err
returns-in-Err c = unmade _ O.BuildStacktrace _ _ c.in-BuildStacktrace.is c.in-Err.ensures

pub returns-in-Ok-read : goal.returns-in-Ok-read
returns-in-Ok-read c = made _ O.Raise _ _ _ c.in-Raise.is c.in-Ok-read.ensures refl

pub returns-in-Err-read : goal.returns-in-Err-read
returns-in-Err-read c = unmade _ O.Raise _ _ c.in-Raise.is c.in-Err-read.ensures

pub returns-in-Ok-read-2 : goal.returns-in-Ok-read-2
returns-in-Ok-read-2 c = made _ O.Badmatch _ _ _ c.in-Badmatch.is c.in-Ok-read-2.ensures refl

pub returns-in-Err-read-2 : goal.returns-in-Err-read-2
returns-in-Err-read-2 c = unmade _ O.Badmatch _ _ c.in-Badmatch.is c.in-Err-read-2.ensures

pub returns-in-Ok-read-3 : goal.returns-in-Ok-read-3
returns-in-Ok-read-3 c = made _ O.CaseEnd _ _ _ c.in-CaseEnd.is c.in-Ok-read-3.ensures refl

pub returns-in-Err-read-3 : goal.returns-in-Err-read-3
returns-in-Err-read-3 c = unmade _ O.CaseEnd _ _ c.in-CaseEnd.is c.in-Err-read-3.ensures

pub returns-in-Ok-read-4 : goal.returns-in-Ok-read-4
returns-in-Ok-read-4 c = made _ O.TryCaseEnd _ _ _ c.in-TryCaseEnd.is c.in-Ok-read-4.ensures refl

pub returns-in-Err-read-4 : goal.returns-in-Err-read-4
returns-in-Err-read-4 c = unmade _ O.TryCaseEnd _ _ c.in-TryCaseEnd.is c.in-Err-read-4.ensures

pub returns-in-Ok-read-5 : goal.returns-in-Ok-read-5
returns-in-Ok-read-5 c = made _ O.IfEnd _ _ _ c.in-IfEnd.is c.in-Ok-read-5.ensures refl

pub returns-in-Err-read-5 : goal.returns-in-Err-read-5
returns-in-Err-read-5 c = unmade _ O.IfEnd _ _ c.in-IfEnd.is c.in-Err-read-5.ensures

pub returns-in-Ok-read-6 : goal.returns-in-Ok-read-6
returns-in-Ok-read-6 c = made _ O.Try _ _ _ c.in-Try.is c.in-Ok-read-6.ensures refl

pub returns-in-Err-read-6 : goal.returns-in-Err-read-6
returns-in-Err-read-6 c = unmade _ O.Try _ _ c.in-Try.is c.in-Err-read-6.ensures

pub returns-in-Ok-read-7 : goal.returns-in-Ok-read-7
returns-in-Ok-read-7 c = made _ O.Catch _ _ _ c.in-Catch.is c.in-Ok-read-7.ensures refl

pub returns-in-Err-read-7 : goal.returns-in-Err-read-7
returns-in-Err-read-7 c = unmade _ O.Catch _ _ c.in-Catch.is c.in-Err-read-7.ensures

pub returns-in-Ok-read-8 : goal.returns-in-Ok-read-8
returns-in-Ok-read-8 c = made _ O.TryEnd _ _ _ c.in-TryEnd.is c.in-Ok-read-8.ensures refl

pub returns-in-Err-read-8 : goal.returns-in-Err-read-8
returns-in-Err-read-8 c = unmade _ O.TryEnd _ _ c.in-TryEnd.is c.in-Err-read-8.ensures

pub returns-in-Ok-read-9 : goal.returns-in-Ok-read-9
returns-in-Ok-read-9 c = made _ O.TryCase _ _ _ c.in-TryCase.is c.in-Ok-read-9.ensures refl

pub returns-in-Err-read-9 : goal.returns-in-Err-read-9
returns-in-Err-read-9 c = unmade _ O.TryCase _ _ c.in-TryCase.is c.in-Err-read-9.ensures

pub returns-in-Ok-read-10 : goal.returns-in-Ok-read-10
returns-in-Ok-read-10 c = made _ O.CatchEnd _ _ _ c.in-CatchEnd.is c.in-Ok-read-10.ensures refl

pub returns-in-Err-read-10 : goal.returns-in-Err-read-10
returns-in-Err-read-10 c = unmade _ O.CatchEnd _ _ c.in-CatchEnd.is c.in-Err-read-10.ensures
