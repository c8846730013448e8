-- When two runs are the same: they do the same, and beside that what is asked to be compared (this project's own).
use Rattle.std.specs.Prelude.{◌≡◌, ◌≤◌, ℕ, List, [], ◌∷◌, Bool, true, false, IsTrue}
use Rattle.erl_term.specs.Term.{Term}
use Rattle.erl_term.specs.Terms.{Values}
use Rattle.world_model.specs.Run.{Note, happened, entered, looked, marked, began, cut, sub_binaries, State, Outcome, M}

-- What is compared beside what a run does: the notes of references that are bound and of receives that begin; and
-- sub-binaries, of which the new run makes no more.
pub record Compared : Type 0 where
  pub marks : Bool
  pub cuts : Bool

-- neither
abbrev pub nothing_more : Compared
nothing_more = record { marks = false; cuts = false }

-- a note, if such notes are compared
abbrev pub if_compared : Bool → Note → List Note → List Note
if_compared true n ns = n ∷ ns
if_compared false n ns = ns

-- what a run does: what happens, which functions are entered and which messages are looked at, in their order; and its
-- marks, if they are compared
abbrev pub done : Bool → List Note → List Note
done m [] = []
done m (happened h ∷ ns) = happened h ∷ done m ns
done m (entered e ∷ ns) = entered e ∷ done m ns
done m (looked l ∷ ns) = looked l ∷ done m ns
done m (marked x ∷ ns) = if_compared m (marked x) (done m ns)
done m (began o ∷ ns) = if_compared m (began o) (done m ns)
done m (cut n ∷ ns) = done m ns

-- two states that differ only in what is not compared, where the new one may have fewer sub-binaries
pub record SameState (w : Compared) (old new : State) : Type 0 where
  pub replies : new.replies ≡ old.replies
  pub mailbox : new.mailbox ≡ old.mailbox
  pub next : new.next ≡ old.next
  pub left : new.left ≡ old.left
  pub done : done w.marks new.notes ≡ done w.marks old.notes
  pub sub_binaries : IsTrue w.cuts → sub_binaries new.notes ≤ sub_binaries old.notes

-- results that differ no more than their states
pub record SameResult (w : Compared) {A : Type 0} (old new : State × Outcome A) : Type 0 where
  pub state : SameState w old.0 new.0
  pub end : new.1 ≡ old.1

-- from states that are the same, results that are the same
abbrev pub Agree : Compared → {A : Type 0} → M A → M A → Type 0
Agree w old new = (s t : State) → SameState w s t → SameResult w (old s) (new t)

-- for each function and its arguments
abbrev pub EntersAgree : Compared → (ℕ → Values → M Term) → (ℕ → Values → M Term) → Type 0
EntersAgree w old new = (n : ℕ) (vs : Values) → Agree w (old n vs) (new n vs)
