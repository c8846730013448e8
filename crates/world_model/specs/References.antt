-- Which references are bound to which serials along a run, and which messages its receives may pass over (this
-- project's own, after Erlang/OTP 25's receive markers).
use Rattle.std.specs.Prelude.{ℕ, suc, List, [], ◌∷◌, Bool, true, false, leb, Option, Some, None, if◌then◌else◌}
use Rattle.erl_term.specs.Term.{Term}
use Rattle.erl_term.specs.TermOrder.{same_term}
use Rattle.bif_table.specs.BuiltinAnswer.{is_reference}
use Rattle.world_model.specs.World.{Message}
use Rattle.world_model.specs.Run.{Note, marked, began}

-- a reference and the serial number that it is bound to
pub record Bound : Type 0 where
  pub reference : Term
  pub serial : ℕ

-- the serial that a reference is bound to
unfoldable pub serial_of : List Bound → Term → Option ℕ
unfolding same_term
serial_of [] r = None
serial_of (b ∷ bs) r = if same_term b.reference r then Some b.serial else serial_of bs r

-- without the binding of a reference
unfoldable pub unbound : List Bound → Term → List Bound
unfolding same_term
unbound [] r = []
unbound (b ∷ bs) r = if same_term b.reference r then unbound bs r else b ∷ unbound bs r

-- only references are bound, in place of an older binding
unfoldable pub bound_to : List Bound → Term → ℕ → List Bound
unfolding unbound
bound_to bs r n = if is_reference r then record { reference = r; serial = n } ∷ unbound bs r else bs

-- where a run stands: what is bound, the choices left, and the serial below which its receive passes messages over
pub record Standing : Type 0 where
  pub bound : List Bound
  pub choices : List Bool
  pub low : ℕ

-- a receive begins that waits for a reference, bound to this serial if it is bound; the next choice says whether the
-- binding is kept, and where none is left it is
unfoldable pub used : Option ℕ → Term → List Bound → List Bool → Standing
unfolding unbound
used None r bs cs = record { bound = bs; choices = cs; low = 0 }
used (Some n) r bs [] = record { bound = bs; choices = []; low = n }
used (Some n) r bs (true ∷ cs) = record { bound = bs; choices = cs; low = n }
used (Some n) r bs (false ∷ cs) = record { bound = unbound bs r; choices = cs; low = 0 }

-- where a run stands after a note
unfoldable pub after_note : Note → Standing → Standing
unfolding serial_of bound_to used
after_note (marked x) a = record a { bound = bound_to a.bound x.reference x.serial }
after_note (began None) a = record a { low = 0 }
after_note (began (Some r)) a = used (serial_of a.bound r) r a.bound a.choices
after_note _ a = a

-- along notes, the latest first, from all choices on
unfoldable pub standing : List Bool → List Note → Standing
unfolding after_note
standing cs [] = record { bound = []; choices = cs; low = 0 }
standing cs (n ∷ ns) = after_note n (standing cs ns)

-- how many messages stand before the first one with at least this serial
abbrev pub save_place : ℕ → List Message → ℕ
save_place n [] = 0
save_place n (m ∷ ms) = if leb n m.serial then 0 else suc (save_place n ms)
