use Rattle.std.proofs.Common.{rules, ◌≡◌, Some, ◌∙◌, ap}
use Rattle.std.specs.BTreeMap.{get_by_text}
use Rattle.store_io.specs.Slots.{file_of}
use Rattle.store_io.proofs.Changed.{others_stay, named_has, all_stay}
use Rattle.store_io.proofs.memory.MemoryStoreStore.create.Goals as goal

pub returns-in-Some-clause-files : goal.returns-in-Some-clause-files
returns-in-Some-clause-files c =
    let u = (c.get_mut.follows.holds c.create.new.self).3 (search rules) in
    let name = c.args.name.now in
    let m = c.args.self.now.slots in
    let m' = c.get_mut.follows.lender c.create.new.self in (
      others_stay file_of name m m' c.create.new.self u,
      named_has file_of name m m' c.create.new.self u
          ∙ c.create.ensures.file,
    )

pub returns-in-Some-clause-rooms : goal.returns-in-Some-clause-rooms
returns-in-Some-clause-rooms c =
    let u = (c.get_mut.follows.holds c.create.new.self).3 (search rules) in
    let name = c.args.name.now in
    let m = c.args.self.now.slots in
    let was : get_by_text m name ≡ Some c.in-Some.slot.now = search rules in
    all_stay (λ s. Some s.room) name m
    (c.get_mut.follows.lender c.create.new.self) c.in-Some.slot.now c.create.new.self u was
    (ap Some c.create.ensures.room)
