use Rattle.std.proofs.Common.{rules, Some, ◌∙◌}
use Rattle.store_io.specs.Slots.{file_of}
use Rattle.store_io.proofs.Changed.{others_stay}
use Rattle.store_io.proofs.memory.MemoryStore.add.Goals as goal

pub returns-in-Some-clause-others : goal.returns-in-Some-clause-others
returns-in-Some-clause-others c n other =
    let u = (c.get_mut.follows.holds c.fill.new.self).3 (search rules) in
    others_stay file_of c.args.name.now c.reserve.new.self.slots
    (c.get_mut.follows.lender c.fill.new.self) c.fill.new.self u n other
    ∙ c.in_ok-reserve.ensures.files n

pub returns-in-Some-clause-other_rooms : goal.returns-in-Some-clause-other_rooms
returns-in-Some-clause-other_rooms c n other =
    let u = (c.get_mut.follows.holds c.fill.new.self).3 (search rules) in
    others_stay (λ s. Some s.room) c.args.name.now c.reserve.new.self.slots
    (c.get_mut.follows.lender c.fill.new.self) c.fill.new.self u n other
    ∙ c.in_ok-reserve.ensures.others n other
