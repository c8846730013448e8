-- What a run costs in messages that its receives examine (this project's own).
use Rattle.std.specs.Prelude.{ℕ, List, [], ◌∷◌, ltb, if◌then◌else◌}
use Rattle.world_model.specs.Run.{Note, looked}
use Rattle.world_model.specs.References.{Standing, after_note}

-- the messages that are looked at and not passed over, along the notes of a run, the earliest first
unfoldable pub examined : List Note → Standing → List ℕ
unfolding after_note
examined [] a = []
examined (looked l ∷ ns) a = if ltb l.serial a.low then examined ns a else l.serial ∷ examined ns a
examined (n ∷ ns) a = examined ns (after_note n a)
