-- What one more note keeps.
use Rattle.std.proofs.Common.{◌≡◌, inl, inr, ℕ, List, [], ◌∷◌, Bool, true, Option, IsFalse, refl, ap}
use Rattle.erl_term.specs.Term.{Term}
use Rattle.world_model.specs.Run as Run
use Rattle.world_model.specs.Run.{Entry, Looked, Marked}
use Rattle.world_model.specs.World.{Happening}
use Rattle.step_machine.specs.Follows.{Noted, LeavesOut}
use Rattle.step_machine.specs.Steps.{Event, happened, entered, examined, sub_binary, serials}

module _ (ns : List Run.Note) (log : List Event) (h : Noted ns log) where
  -- a request with its reply, or a message that is taken
  pub notes_happening : (x : Happening) → Noted (Run.happened x ∷ ns) (happened x ∷ log)
  notes_happening x = record {
    happened = ap (λ l. x ∷ l) h.happened;
    entered = h.entered;
    tails = h.tails;
    looked = h.looked;
  }

  pub notes_entry : (e : Entry) (tail : Bool) → (e.tail ≡ true → tail ≡ true)
      → Noted (Run.entered e ∷ ns) (entered (record { site = e.site; tail = tail }) ∷ log)
  notes_entry e tail keeps = record {
    happened = h.happened;
    entered = ap (λ l. e.site ∷ l) h.entered;
    tails = (keeps, h.tails);
    looked = h.looked;
  }

  pub notes_look : (l : Looked) → Noted (Run.looked l ∷ ns) (examined l.serial ∷ log)
  notes_look l = record { happened = h.happened; entered = h.entered; tails = h.tails; looked = inl (refl, h.looked) }

  left_out : (l : Looked) (ls : List Looked) (ms : List ℕ) → IsFalse l.accepted → LeavesOut ls ms
      → LeavesOut (l ∷ ls) ms
  left_out l ls [] e g = (e, g)
  left_out l ls (m ∷ ms) e g = inr (e, g)

  -- a look that isn't accepted may be left out
  pub leaves_look : (l : Looked) → IsFalse l.accepted → Noted (Run.looked l ∷ ns) log
  leaves_look l e = record {
    happened = h.happened;
    entered = h.entered;
    tails = h.tails;
    looked = left_out l (Run.looks ns) (serials log) e h.looked;
  }

  pub notes_mark : (x : Marked) → Noted (Run.marked x ∷ ns) log
  notes_mark x = record { happened = h.happened; entered = h.entered; tails = h.tails; looked = h.looked }

  -- the language also notes where a receive begins and what trying clauses may cut
  pub notes_began : (o : Option Term) → Noted (Run.began o ∷ ns) log
  notes_began o = record { happened = h.happened; entered = h.entered; tails = h.tails; looked = h.looked }

  pub notes_cut : (n : ℕ) → Noted (Run.cut n ∷ ns) log
  notes_cut n = record { happened = h.happened; entered = h.entered; tails = h.tails; looked = h.looked }

  pub notes_sub : Noted ns (sub_binary ∷ log)
  notes_sub = record { happened = h.happened; entered = h.entered; tails = h.tails; looked = h.looked }
