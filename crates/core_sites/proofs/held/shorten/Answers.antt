use Rattle.std.proofs.Common.{◌<◌, length, arith}
use Rattle.core_sites.proofs.Outside.{popped}
use Rattle.core_sites.proofs.held.shorten.Goals as goal

pub loop-i-preserved : goal.loop-i-preserved
loop-i-preserved c =
    let t = c.loop-i-test.true in
    let m = c.saturating_sub-more.ensures in
    let n = c.len.ensures.value in
    let k : c.loop-i.i < length c.args.held.now = omega (arith, t, m, n) in
    popped c.pop.result c.args.held.now c.loop-i.held c.pop.new.self c.loop-i.i c.pop.ensures c.loop-i.invariant k
