use Rattle.std.proofs.Common.{◌≡◌, ◌≤◌, ◌-◌, IfSome, vec_len}
use Rattle.store_io.specs.Files.{Alike, Same}
use Rattle.store_io.proofs.Loaded.{HasRead}
use Rattle.store_io.proofs.whole.load_all.Given as goal

abbrev pub invariant-loop-count : goal.invariant-loop-count
invariant-loop-count g l =
    record {
      size : vec_len l.bytes ≤ 16777216;
      files : Alike (g.S.Store.told l.fn.store).files (g.S.Store.told l.store).files Same;
      read : IfSome (g.S.Store.told l.fn.store).files (λ f. HasRead l.bytes.items (f l.name));
      rooms : Alike (g.S.Store.told l.fn.store).rooms (g.S.Store.told l.store).rooms Same;
      count : IfSome (g.S.Store.told l.fn.store).rooms
          (λ r. (g.S.Store.told l.store).read_faults ≡ (g.S.Store.told l.fn.store).read_faults);
      reads : (g.S.Store.told l.fn.store).read_faults ≤ (g.S.Store.told l.store).read_faults;
      writes : (g.S.Store.told l.store).write_faults ≡ (g.S.Store.told l.fn.store).write_faults;
    }

abbrev pub decreases-loop-count : goal.decreases-loop-count
decreases-loop-count g l = 16777216 - vec_len l.bytes
