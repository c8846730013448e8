-- A receive takes the first message that a clause accepts.
use Rattle.std.proofs.Common.{◌≡◌, ℕ, ◌+◌, ◌≤◌, List, [], ◌∷◌, ◌++◌, if◌then◌else◌, Some, None, refl, ap, ◌∙◌, subst, arith}
use Rattle.std.proofs.lemmas.List.Elements.{All-head, All-tail}
use borrow.Author.Tests.{eq-eqb, ne_eqb}
use Rattle.erl_term.specs.Term.{Term}
use Rattle.erl_term.specs.Terms.{Values}
use Rattle.world_model.specs.World.{Message}
use Rattle.world_model.specs.Run.{State, M}
use Rattle.world_model.specs.Receive.{Tried, Timeout, without, taking, cutting, try_one, try_each, looking}
use Rattle.world_model.specs.Laws.{AllRejected, passing, taking_behind, TakesFirst, LooksForMore, RiseFrom, SerialsRise, TakesOneOut}

module _ {A : Type 0} (pick : Term → Tried A) where
  -- the state once the message m is passed over
  abbrev behind : Message → State → State
  behind m s = record s { notes = passing pick (m ∷ []) s.notes }

  one_passed : (m : Message) (rest : M A) (s : State) → (pick m.term).body ≡ None
      → try_one pick m (pick m.term) rest s ≡ rest (behind m s)
  one_passed m rest s e = ap (λ b. cutting (pick m.term).cuts (taking m b rest) s) e

  pub passed_over : (ms : List Message) (rest : M A) (s : State) → AllRejected pick ms
      → try_each pick ms rest s ≡ rest (record s { notes = passing pick ms s.notes })
  passed_over [] rest s h = refl
  passed_over (m ∷ ms) rest s h =
      one_passed m (try_each pick ms rest) s (All-head (λ m. (pick m.term).body ≡ None) m ms h)
      ∙ passed_over ms rest (behind m s) (All-tail (λ m. (pick m.term).body ≡ None) m ms h)

  pub taken_behind : (passed later : List Message) (m : Message) (body rest : M A) (s : State) → AllRejected pick passed
      → (pick m.term).body ≡ Some body
      → try_each pick (passed ++ m ∷ later) rest s ≡ body (taking_behind pick passed m s)
  taken_behind [] later m body rest s h e =
      ap (λ b. cutting (pick m.term).cuts (taking m b (try_each pick later rest)) s) e
  taken_behind (p ∷ ps) later m body rest s h e =
      one_passed p (try_each pick (ps ++ m ∷ later) rest) s (All-head (λ m. (pick m.term).body ≡ None) p ps h)
      ∙ taken_behind ps later m body rest (behind p s) (All-tail (λ m. (pick m.term).body ≡ None) p ps h) e

pub takes_first : (pick : Term → Tried Values) (timeout : Timeout) (late : M Values) → TakesFirst pick timeout late
takes_first pick timeout late s passed later m body e h b =
    ap (λ ms. try_each pick ms (λ u. looking pick timeout late u.replies u) s) e
    ∙ taken_behind pick passed later m body (λ u. looking pick timeout late u.replies u) s h b

pub looks_for_more : (pick : Term → Tried Values) (timeout : Timeout) (late : M Values) → LooksForMore pick timeout late
looks_for_more pick timeout late s h = passed_over pick s.mailbox (λ u. looking pick timeout late u.replies u) s h

-- a message is taken out alone, and the others keep their order
one_out_from : (n : ℕ) (passed later : List Message) (m : Message) (next : ℕ) → RiseFrom n (passed ++ m ∷ later) next
    → without m.serial (passed ++ m ∷ later) ≡ passed ++ later
one_out_from n [] later m next r =
    ap (λ b. if b then later else (m ∷ without m.serial later)) (eq-eqb m.serial m.serial refl)
one_out_from n (p ∷ ps) later m next r =
    ap (λ b. if b then (ps ++ m ∷ later) else (p ∷ without m.serial (ps ++ m ∷ later)))
    (ne_eqb m.serial p.serial (λ e. absurd (omega (arith, e, later_rise (p.serial + 1) ps later m next r.1))))
    ∙ ap (λ ms. p ∷ ms) (one_out_from (p.serial + 1) ps later m next r.1)
  where
    later_rise : (n : ℕ) (passed later : List Message) (m : Message) (next : ℕ)
        → RiseFrom n (passed ++ m ∷ later) next → n ≤ m.serial
    later_rise n [] later m next r = r.0
    later_rise n (p ∷ ps) later m next r = omega (arith, r.0, later_rise (p.serial + 1) ps later m next r.1)

pub one_out : (s : State) → SerialsRise s → TakesOneOut s.mailbox
one_out s h passed later m e =
    ap (without m.serial) e ∙ one_out_from 0 passed later m s.next (subst (λ ms. RiseFrom 0 ms s.next) e h)
