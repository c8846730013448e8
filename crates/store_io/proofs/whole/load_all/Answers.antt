use Rattle.std.proofs.Common.{rules, arith, ◌∙◌, ◌≡◌, ◌++◌, List, ℕ, length, take, IfSome, subst, sym}
use Rattle.store_io.specs.declared.store.Failed.{Failed}
use Rattle.store_io.proofs.Loaded.{HasRead, same_then, more_loaded}
use Rattle.store_io.proofs.Rooms.{rooms_then, kept_then}
use Rattle.store_io.proofs.whole.load_all.Goals as goal

pub loop-count-preserved : goal.loop-count-preserved
loop-count-preserved g c =
    let more : c.extend_from_slice.new.self.items ≡ c.loop-count.bytes.items ++ take c.in-Ok.count c.load.new.piece =
    search rules in
    let place : c.len.result ≡ length c.loop-count.bytes.items = search rules in record {
      size = search rules;
      files = search (rules, same_then);
      read =
          subst (λ (bytes : List ℕ). IfSome (g.S.Store.told c.args.store.now).files
          (λ f. HasRead bytes (f c.args.name.now)))
          (sym more) (more_loaded Failed _ _ _ c.args.name.now _ _ c.in-Ok.count c.loop-count.invariant.files
          (rw place at c.in-Ok.ensures.files) c.loop-count.invariant.read c.in-Ok.ensures.within);
      rooms = rooms_then _ _ _ c.loop-count.invariant.rooms c.in-Ok.ensures.rooms;
      count =
          kept_then _ _ _ _ _ c.loop-count.invariant.rooms c.loop-count.invariant.count c.in-Ok.ensures.count;
      reads = omega (arith, c.in-Ok.ensures.reads, c.loop-count.invariant.reads);
      writes = c.in-Ok.ensures.writes ∙ c.loop-count.invariant.writes;
    }
