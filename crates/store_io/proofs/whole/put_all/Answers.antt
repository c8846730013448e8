use Rattle.std.proofs.Common.{rules, ◌≡◌, Err, arith}
use Rattle.store_io.specs.declared.store.Failed.{Failed}
use Rattle.store_io.proofs.Put.{put_more, put_part, rest_is}
use Rattle.store_io.proofs.whole.put_all.Goals as goal

pub loop-done-preserved : goal.loop-done-preserved
loop-done-preserved g c = record {
  within = omega (arith, c.in_ok-done.ensures.within);
  bytes =
      put_more Failed c.args.bytes.now _ c.loop-done.done c.in_ok-done.field-0 (g.O.Sink.bytes c.args.sink.now)
      (g.O.Sink.bytes c.loop-done.sink)
      (g.O.Sink.bytes c.put.new.self)
      (rest_is c.loop-done.done c.args.bytes.now) c.loop-done.invariant.bytes c.in_ok-done.ensures.bytes;
  faults = omega (arith, c.in_ok-done.ensures.faults);
}

pub returns-in_err-done-clause-bytes : goal.returns-in_err-done-clause-bytes
returns-in_err-done-clause-bytes g c =
    let e : (x : Failed) × (c.from_residual.result ≡ Err x) = search rules in
    put_part c.from_residual.result e.0 e.1 c.args.bytes.now _ c.loop-done.done (g.O.Sink.bytes c.args.sink.now)
    (g.O.Sink.bytes c.loop-done.sink)
    (g.O.Sink.bytes c.put.new.self)
    (rest_is c.loop-done.done c.args.bytes.now) c.loop-done.invariant.bytes c.in_err-done.ensures.bytes
