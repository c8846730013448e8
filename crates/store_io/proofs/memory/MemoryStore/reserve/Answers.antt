use Rattle.std.proofs.Common.{rules, ◌≡◌, Some, ap}
use Rattle.std.specs.BTreeMap.{get_by_text}
use Rattle.store_io.specs.Slots.{file_of}
use Rattle.store_io.proofs.Changed.{others_stay, all_stay, on_err_then}
use Rattle.store_io.proofs.memory.MemoryStore.reserve.Goals as goal

pub returns-in-Some-clause-files : goal.returns-in-Some-clause-files
returns-in-Some-clause-files c =
    let u = (c.get_mut.follows.holds c.reserve.new.self).3 (search rules) in
    let was : get_by_text c.args.self.now.slots c.args.name.now ≡ Some c.in-Some.slot.now = search rules in
    all_stay file_of c.args.name.now c.args.self.now.slots
    (c.get_mut.follows.lender c.reserve.new.self) c.in-Some.slot.now c.reserve.new.self u was
    c.reserve.ensures.file

pub returns-in-Some-clause-others : goal.returns-in-Some-clause-others
returns-in-Some-clause-others c =
    let u = (c.get_mut.follows.holds c.reserve.new.self).3 (search rules) in
    others_stay (λ s. Some s.room) c.args.name.now c.args.self.now.slots
    (c.get_mut.follows.lender c.reserve.new.self) c.reserve.new.self u

pub returns-in-Some-clause-err : goal.returns-in-Some-clause-err
returns-in-Some-clause-err c =
    let u = (c.get_mut.follows.holds c.reserve.new.self).3 (search rules) in
    let was : get_by_text c.args.self.now.slots c.args.name.now ≡ Some c.in-Some.slot.now = search rules in
    on_err_then c.reserve.result _ _
    (λ same. all_stay (λ s. Some s.room) c.args.name.now c.args.self.now.slots
    (c.get_mut.follows.lender c.reserve.new.self) c.in-Some.slot.now
    c.reserve.new.self u was (ap Some same))
    c.reserve.ensures.err
