use Rattle.std.proofs.Common.{◌∙◌, ◌<◌, length, arith}
use Rattle.core_names.proofs.Rows.{left_on, left_enough}
use Rattle.core_names.proofs.table.Names.leave.Goals as goal

pub loop-self-preserved : goal.loop-self-preserved
loop-self-preserved c =
    let n = c.len.ensures.value in
    let t = c.loop-self-test.true in
    let l : c.args.outer < length c.loop-self.self = omega (arith, n, t) in
    record {
      rest = left_on c.loop-self.self c.leave_one.new.self c.args.outer c.leave_one.ensures l
          ∙ c.loop-self.invariant.rest;
      enough = left_enough c.loop-self.self c.leave_one.new.self c.args.outer c.leave_one.ensures l;
    }
