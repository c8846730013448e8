use Rattle.std.proofs.Common.{◌≡◌, ◌≤◌, ◌-◌, length, take, Some}
use Rattle.store_io.specs.Files.{Alike, Same, OthersStay}
use Rattle.store_io.proofs.whole.store_all.Given as goal

abbrev pub invariant-loop-done : goal.invariant-loop-done
invariant-loop-done g l =
    record {
      within : l.done ≤ length l.bytes;
      files : Alike (g.S.Store.told l.fn.store).files (g.S.Store.told l.store).files
          (λ old new. OthersStay l.name old new × (new l.name ≡ Some (take l.done l.bytes)));
      rooms : Alike (g.S.Store.told l.fn.store).rooms (g.S.Store.told l.store).rooms Same;
      reads : (g.S.Store.told l.store).read_faults ≡ (g.S.Store.told l.fn.store).read_faults;
      writes : (g.S.Store.told l.fn.store).write_faults ≤ (g.S.Store.told l.store).write_faults;
    }

abbrev pub decreases-loop-done : goal.decreases-loop-done
decreases-loop-done g l = length l.bytes - l.done
