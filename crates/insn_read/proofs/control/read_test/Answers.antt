use Rattle.std.proofs.Common.{refl}
use Rattle.beam_table.specs.declared.opcode.Opcode.TheVariants as O
use Rattle.insn_read.proofs.OpcodeArms.{made, unmade}
use Rattle.insn_read.proofs.control.read_test.Goals as goal

pub returns-in-Ok : goal.returns-in-Ok
returns-in-Ok c = made _ O.HasMapFields _ _ _ c.in-HasMapFields.is c.in-Ok.ensures refl

pub returns-in-Err : goal.returns-in-Err
returns-in-Err c = unmade _ O.HasMapFields _ _ c.in-HasMapFields.is c.in-Err.ensures

pub returns-in-Ok-read : goal.returns-in-Ok-read
returns-in-Ok-read c = made _ O.Jump _ _ _ c.in-Jump.is c.in-Ok-read.ensures refl

pub returns-in-Err-read : goal.returns-in-Err-read
returns-in-Err-read c = unmade _ O.Jump _ _ c.in-Jump.is c.in-Err-read.ensures

pub returns-in-Ok-read-2 : goal.returns-in-Ok-read-2
returns-in-Ok-read-2 c = made _ (O.Test c.in-Test.test) _ _ _ c.in-Test.is c.in-Ok-read-2.ensures refl

pub returns-in-Err-read-2 : goal.returns-in-Err-read-2
returns-in-Err-read-2 c = unmade _ (O.Test c.in-Test.test) _ _ c.in-Test.is c.in-Err-read-2.ensures

pub returns-in-Ok-read-3 : goal.returns-in-Ok-read-3
returns-in-Ok-read-3 c = made _ (O.Compare c.in-Compare.test) _ _ _ c.in-Compare.is c.in-Ok-read-3.ensures refl

pub returns-in-Err-read-3 : goal.returns-in-Err-read-3
returns-in-Err-read-3 c = unmade _ (O.Compare c.in-Compare.test) _ _ c.in-Compare.is c.in-Err-read-3.ensures

pub returns-in-Ok-read-4 : goal.returns-in-Ok-read-4
returns-in-Ok-read-4 c = made _ O.TestArity _ _ _ c.in-TestArity.is c.in-Ok-read-4.ensures refl

pub returns-in-Err-read-4 : goal.returns-in-Err-read-4
returns-in-Err-read-4 c = unmade _ O.TestArity _ _ c.in-TestArity.is c.in-Err-read-4.ensures

pub returns-in-Ok-read-5 : goal.returns-in-Ok-read-5
returns-in-Ok-read-5 c = made _ O.IsTaggedTuple _ _ _ c.in-IsTaggedTuple.is c.in-Ok-read-5.ensures refl

pub returns-in-Err-read-5 : goal.returns-in-Err-read-5
returns-in-Err-read-5 c = unmade _ O.IsTaggedTuple _ _ c.in-IsTaggedTuple.is c.in-Err-read-5.ensures
