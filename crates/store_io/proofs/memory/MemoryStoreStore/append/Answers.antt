use Rattle.std.proofs.Common.{rules, ◌≡◌, ◌++◌, Some, take, sym, ◌∙◌, ap, inl}
use Rattle.std.specs.BTreeMap.{get_by_text}
use Rattle.store_io.specs.Files.{content}
use Rattle.store_io.specs.Slots.{file_of, in_slot}
use Rattle.store_io.proofs.Changed.{others_stay, named_has, all_stay}
use Rattle.store_io.proofs.memory.MemoryStoreStore.append.Goals as goal

pub returns-in-Ok-clause-files : goal.returns-in-Ok-clause-files
returns-in-Ok-clause-files c =
    let u = (c.get_mut.follows.holds c.append.new.self).3 (search rules) in
    let name = c.args.name.now in
    let m = c.args.self.now.slots in
    let m' = c.get_mut.follows.lender c.append.new.self in
    let was : get_by_text m name ≡ Some c.in-Some.slot.now = search rules in (
      others_stay file_of name m m' c.append.new.self u,
      named_has file_of name m m' c.append.new.self u ∙ c.in-Ok.ensures.file
          ∙ ap (λ x. Some (content x ++ take c.in-Ok.count c.args.piece.now)) (sym (ap (in_slot file_of) was)),
    )

pub returns-in-Ok-clause-rooms : goal.returns-in-Ok-clause-rooms
returns-in-Ok-clause-rooms c =
    let u = (c.get_mut.follows.holds c.append.new.self).3 (search rules) in
    let name = c.args.name.now in
    let m = c.args.self.now.slots in
    let was : get_by_text m name ≡ Some c.in-Some.slot.now = search rules in
    all_stay (λ s. Some s.room) name m
    (c.get_mut.follows.lender c.append.new.self) c.in-Some.slot.now c.append.new.self u was
    (ap Some c.append.ensures.room)

pub returns-in-Err-clause-files : goal.returns-in-Err-clause-files
returns-in-Err-clause-files c =
    let u = (c.get_mut.follows.holds c.append.new.self).3 (search rules) in
    let name = c.args.name.now in
    let m = c.args.self.now.slots in
    let m' = c.get_mut.follows.lender c.append.new.self in
    let was : get_by_text m name ≡ Some c.in-Some.slot.now = search rules in (
      others_stay file_of name m m' c.append.new.self u,
      inl (named_has file_of name m m' c.append.new.self u ∙ c.in-Err.ensures.err ∙ sym (ap (in_slot file_of) was)),
    )

pub returns-in-Err-clause-rooms : goal.returns-in-Err-clause-rooms
returns-in-Err-clause-rooms c =
    let u = (c.get_mut.follows.holds c.append.new.self).3 (search rules) in
    let name = c.args.name.now in
    let m = c.args.self.now.slots in
    let was : get_by_text m name ≡ Some c.in-Some.slot.now = search rules in
    all_stay (λ s. Some s.room) name m
    (c.get_mut.follows.lender c.append.new.self) c.in-Some.slot.now c.append.new.self u was
    (ap Some c.append.ensures.room)

pub returns-in-Err-clause-err : goal.returns-in-Err-clause-err
returns-in-Err-clause-err c =
    let u = (c.get_mut.follows.holds c.append.new.self).3 (search rules) in
    let name = c.args.name.now in
    let m = c.args.self.now.slots in
    let was : get_by_text m name ≡ Some c.in-Some.slot.now = search rules in
    all_stay file_of name m (c.get_mut.follows.lender c.append.new.self) c.in-Some.slot.now c.append.new.self u was
    c.in-Err.ensures.err
