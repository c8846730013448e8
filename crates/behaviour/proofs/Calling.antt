-- Calls of the module's own functions, under what holds at each entry and return.
use Rattle.std.proofs.Common.{◌≡◌, ◌≤◌, ℕ, List, [], ◌∷◌, length, slice_get, eqb, eqb→eq, true, false, Option, Some, None, refl, sym, ap, ◌∙◌, subst, arith}
use Rattle.erl_term.specs.Term.{Term}
use Rattle.erl_term.specs.Terms.{Values}
use Rattle.world_model.specs.Run.{State, M, going_on}
use Rattle.world_model.specs.World.{Reply}
use Rattle.step_machine.specs.Steps
use Rattle.step_machine.specs.Bodies.{Here, calling}
use Rattle.step_machine.specs.Steps.{goes, notes}
use Rattle.beam_table.specs.Code.{Insn, call, call_only, AsmFun, AsmModule}
use Rattle.beam_table.specs.GeneralRules.{cells, tag_of, lands, unwinds, entry_at}
use Rattle.beam_table.specs.InstructionStep.{step}
use Rattle.beam_table.specs.MachineState.{Cell, term, Activation, Machine}
use Rattle.behaviour.proofs.Entering
use Rattle.behaviour.proofs.Entering.{entry_found, call_only_enters}
use Rattle.behaviour.proofs.Realizing.{call_enters, realizes_then}
use Rattle.behaviour.specs.MachineTarget.{AtEntry, Holds, target}
use Rattle.behaviour.specs.Realizes.{Matches, Realizes, RealizesAll}

-- a machine between two instructions outside a window
abbrev pub ready : List Insn → List Cell → Option (List Cell) → List Activation → Machine → Machine
ready is cs f a m = record m { xs = cs; frame = f; callers = a; save = 0; window = None; code = is; landing = None }

-- what holds doesn't speak of registers, frames, room and code
pub holds_ready : (own : Term) (s : State) (m : Machine) (is : List Insn) (cs : List Cell) (f : Option (List Cell))
    (a : List Activation) → Holds own s m → Holds own s (ready is cs f a m)
holds_ready own s m is cs f a h = record {
  own = h.own;
  mailbox = h.mailbox;
  next_serial = h.next_serial;
  save = refl;
  window = refl;
  landing = refl;
}

-- a machine at the entry of a function with this code
pub entry_ready : (a : AsmModule) (own : Term) (n : ℕ) (vs : Values) (is : List Insn) (above : List Activation)
    (m : Machine) (s : State) (e : AtEntry a n vs above m) → Holds own s m → e.function.code ≡ is
    → m ≡ ready is (cells vs) None above m
entry_ready a own n vs is above m s e h c = λ i. record m {
  xs = e.xs i;
  frame = e.frame i;
  callers = e.callers i;
  save = h.save i;
  window = h.window i;
  code = (e.code ∙ c) i;
  landing = h.landing i;
}

-- and with what it notes
pub ready_matches : (a : AsmModule) (own : Term) (s : State) (m : Machine) (is : List Insn) (cs : List Cell)
    (f : Option (List Cell)) (above : List Activation) (rs : List Reply) (log : List Steps.Event)
    → Matches (target a own) s m rs log → Matches (target a own) s (ready is cs f above m) rs log
ready_matches a own s m is cs f above rs log w = record {
  replies = w.replies;
  noted = w.noted;
  costs = w.costs;
  mailbox = holds_ready own s m is cs f above w.mailbox;
}

module _ (a : AsmModule) (own : Term) (l s : ℕ) (f : AsmFun) (vs : Values) (found : entry_at a.funs l 0 ≡ Some (s, f))
    (arity : eqb f.key.arity (length vs) ≡ true) where
  function_is : slice_get a.funs s ≡ Some f
  function_is = let w = entry_found a.funs l 0 s f found
      in subst (λ k. slice_get a.funs k ≡ Some f) (omega (arith, w.2)) w.1

  arity_is : length vs ≡ f.key.arity
  arity_is = sym (eqb→eq f.key.arity (length vs) (rw arity tt))

  entry_is : (above : List Activation) (m : Machine)
      → AtEntry a s vs above (record m { xs = cells vs; frame = None; callers = above; code = f.code })
  entry_is above m = record {
    function = f;
    found = function_is;
    arity = arity_is;
    code = refl;
    xs = refl;
    frame = refl;
    callers = refl;
  }

  module _ (d : ℕ) (here : Here) (all : RealizesAll (target a own) d here.enter) (above : List Activation)
      (rest : List Insn) (m : Machine) (rs : List Reply) (log : List Steps.Event) (st : State) (le : st.left ≤ d)
      (w : Matches (target a own) st m rs log) where
    only_step : (let u = ready (call_only (length vs) l ∷ rest) (cells vs) None above m in
        step a u ≡ notes (Steps.entered (record { site = s; tail = true }))
        (goes (record u { xs = cells vs; frame = None; code = f.code; room = 0 })))
    unfolding step
    only_step = call_only_enters a l s f vs found arity (record (ready rest [] None above m) { xs = [] })

    pub call_only_realizes : Realizes (target a own) above
        (ready (call_only (length vs) l ∷ rest) (cells vs) None above m) rs log (calling here s true vs st)
    call_only_realizes =
        call_enters (target a own) d s true true (λ e. e) here vs above _ _ rs log st all le only_step
        (entry_is above (record (ready f.code [] None above m) { room = 0 }))
        (record {
          replies = w.replies;
          noted = w.noted;
          costs = w.costs;
          mailbox = holds_ready own st m _ _ _ _ w.mailbox;
        })
        (λ u h. record {
          own = h.own;
          mailbox = h.mailbox;
          next_serial = h.next_serial;
          save = h.save;
          window = h.window;
          landing = h.landing;
        })
        (λ k n h. record {
          own = h.own;
          mailbox = h.mailbox;
          next_serial = h.next_serial;
          save = h.save;
          window = h.window;
          landing = h.landing;
        })

    -- with a frame: its activation waits
    module _ (ys : List Cell) where
      abbrev waiting : Activation
      waiting = record { frame = Some ys; back = rest }

      call_step : (let u = ready (call (length vs) l ∷ rest) (cells vs) (Some ys) above m in
          step a u ≡ notes (Steps.entered (record { site = s; tail = false }))
          (goes (record u { xs = cells vs; frame = None; callers = waiting ∷ above; code = f.code; room = 0 })))
      unfolding step
      call_step = Entering.call_enters a l s f vs found arity ys (record (ready rest [] None above m) { xs = [] })

      called : Realizes (target a own) (waiting ∷ above)
          (ready (call (length vs) l ∷ rest) (cells vs) (Some ys) above m) rs log (calling here s false vs st)
      called =
          call_enters (target a own) d s false false (λ e. e) here vs (waiting ∷ above) _ _ rs log st all le call_step
          (entry_is (waiting ∷ above) (record (ready f.code [] None above m) { room = 0 }))
          (record {
            replies = w.replies;
            noted = w.noted;
            costs = w.costs;
            mailbox = holds_ready own st m _ _ _ _ w.mailbox;
          })
          (λ u h. record {
            own = h.own;
            mailbox = h.mailbox;
            next_serial = h.next_serial;
            save = h.save;
            window = h.window;
            landing = h.landing;
          })
          (λ k n h. record {
            own = h.own;
            mailbox = h.mailbox;
            next_serial = h.next_serial;
            save = h.save;
            window = h.window;
            landing = h.landing;
          })

      abbrev resumed : Machine → Term → Machine
      resumed u t = record u { xs = term t ∷ []; room = 0; frame = Some ys; callers = above; code = rest }

      -- what comes after the call goes on with its value alone in x0; a raise goes further up, where the frame has no
      -- tag
      pub call_realizes : (after : Term → M Term) → tag_of (Some ys) ≡ None →
          ((t : Term) (s' : State) (u : Machine) (rs1 : List Reply) (log1 : List Steps.Event)
          → Matches (target a own) s' u rs1 log1 → Realizes (target a own) above (resumed u t) rs1 log1 (after t s'))
          →
          Realizes (target a own) above (ready (call (length vs) l ∷ rest) (cells vs) (Some ys) above m) rs log
          (going_on (calling here s false vs st) after)
      call_realizes after none next =
          realizes_then (target a own) above (waiting ∷ above) _ rs log
          (calling here s false vs st) after resumed called
          (λ t u. refl)
          (λ c t u. ap (λ o. elim o [
            | Some z ↦ lands a z.0 z.1 c t (record u { frame = Some ys; callers = above })
            | None ↦ unwinds a above c t u
          ]) none)
          next
