use Rattle.std.proofs.Common.{◌≡◌, Some, None, sym, ◌∙◌}
use Rattle.std.specs.BTreeMap.{get_by_text}
use Rattle.store_io.specs.Slots.{file_of, in_slot}
use Rattle.store_io.proofs.Changed.{others_stay, stays_if, unknown_has, updates_at}
use Rattle.store_io.proofs.memory.MemoryStore.know.Goals as goal

pub returns-clause-files : goal.returns-clause-files
returns-clause-files c =
    let m = c.args.self.now.slots in
    let name = c.args.name.now in
    let u = updates_at name c.in_ok-key.key m c.insert.new.self c.reserve.new.self c.in_ok-key.ensures.ok
    c.in_ok-insert.ensures.updates in
    let empty : file_of c.reserve.new.self ≡ None = c.in_ok-reserve.ensures.file ∙ c.new-slot.ensures.file in
    let absent : in_slot file_of (get_by_text m name) ≡ None = unknown_has file_of (get_by_text m name) c.requires in
    stays_if file_of name m c.insert.new.self c.reserve.new.self u (empty ∙ sym absent)

pub returns-clause-others : goal.returns-clause-others
returns-clause-others c =
    let m = c.args.self.now.slots in
    let name = c.args.name.now in
    let u = updates_at name c.in_ok-key.key m c.insert.new.self c.reserve.new.self c.in_ok-key.ensures.ok
    c.in_ok-insert.ensures.updates in
    others_stay (λ s. Some s.room) name m c.insert.new.self c.reserve.new.self u
