-- What each operation does, wherever the variables' values are kept: what the machine's instruction of that purpose
-- does. (This project's own, after Erlang/OTP 25's BEAM.)
use Rattle.std.specs.Prelude.{ℕ, suc, ◌+◌, ◌-◌, ◌%◌, List, [], ◌∷◌, ◌++◌, length, slice_get, take, min, Bool, true, false, ◌&&◌, eqb, leb, Option, Some, None, if◌then◌else◌, codes}
use Rattle.erl_term.specs.Term as T
use Rattle.erl_term.specs.Term.{Term}
use Rattle.erl_term.specs.TermOrder.{same_term}
use Rattle.erl_term.specs.Terms.{Values, terms, listed, word, only, value_at}
use Rattle.erl_term.specs.Segments.{Shape, taken_size, segment_value}
use Rattle.bif_table.specs.BuiltinAnswer.{Answer, value, raised, answer, badarg}
use Rattle.bif_table.specs.Builtins.{arity_of, is_guard, is_collecting}
use Rattle.world_model.specs.World as W
use Rattle.world_model.specs.World.{Reply, Message, Delay, forever, millis}
use Rattle.world_model.specs.Run.{State, Outcome, gives, raises, waits, spent, M, ◌>>=◌, ask, answered, noting, happened, looked, marked, began, cut}
use Rattle.world_model.specs.Meaning.{single}
use Rattle.world_model.specs.MapUpdate.{put_all}
use Rattle.world_model.specs.Receive.{Timeout, now, in', wrong, timeout_of, without, new_or}
use Rattle.world_model.specs.References.{Standing, after_note, standing, save_place}
use Rattle.world_model.specs.RemoteCalls.{takes, call_terms, apply_term, raise_again}
use Rattle.world_model.specs.Requests.{send_to}
use Rattle.step_machine.specs.Bodies.{Here, calling, callees}
use Rattle.step_machine.specs.Frames.{MatchContext, moved, rest_of}
use Rattle.ssa_form.specs.Ssa as Ssa
use Rattle.ssa_form.specs.Ssa.{Arg, var, lit, Op}
use Rattle.bif_table.specs.TermTests.{compare_holds}
use Rattle.ssa_form.specs.Checks.{check_holds, has_keys}
use Rattle.ssa_form.specs.Storage.{Held, unset, term, context, position, marker, Leaving, calls, ends_body, always_raises, Storage, Frame, After, next, choose, raise, finish, bad, Mode, plain, tail, jump, tests, Around, in_window, go_on, when, if_some, outside, inside, kept}
use Rattle.ssa_form.specs.Values.{terms_of, handed, raises_for_sure, puts_of, parts_of, is_tail, part_cuts}

module _ {S : Type 0} (o : Storage S) (around : Around) (here : Here) where
  -- what an operand holds
  abbrev pub held : Frame S → Arg → Held
  held f (var v) = o.read f.store v
  held f (lit t) = term t

  -- operands in a row
  abbrev pub all_held : Frame S → List Arg → List Held
  all_held f [] = []
  all_held f (a ∷ as') = held f a ∷ all_held f as'

  -- a value without a destination is dropped
  abbrev pub put : Option ℕ → Held → Frame S → State → After S
  put None h f s = next f s
  put (Some v) h f s = if_some (o.write (in_window f) v h f.store) λ st. next (kept f st) s

  -- where the run may collect
  abbrev pub collected : Frame S → (Frame S → After S) → After S
  collected f k = if_some (o.collects f.store) λ st. k (kept f st)

  -- what calls, looks and waits unset
  abbrev pub forgotten : Frame S → Frame S
  forgotten f = kept f (o.forgets f.store)

  -- A value; where the block's last tests the set, it succeeded.
  abbrev pub gives_held : Mode → Option ℕ → Held → Frame S → State → After S
  gives_held (tests e) dst h f s = go_on (put dst h f s) (choose true)
  gives_held _ dst h f s = put dst h f s

  -- A test without a value, which only the block's last can ask for.
  abbrev pub asked : Mode → Bool → Frame S → State → After S
  asked (tests e) b f s = choose b f s
  asked _ b f s = bad

  -- A value, or none where the test fails.
  abbrev pub found : Mode → Option ℕ → Option Held → Frame S → State → After S
  found (tests e) dst None f s = choose false f s
  found (tests e) dst (Some h) f s = go_on (put dst h f s) (choose true)
  found _ dst h f s = bad

  -- An answer; under a test a raise is no raise.
  abbrev pub answers : Mode → Option ℕ → Answer → Frame S → State → After S
  answers (tests e) dst (value t) f s = go_on (put dst (term t) f s) (choose true)
  answers (tests e) dst (raised c r) f s = choose false f s
  answers _ dst (value t) f s = put dst (term t) f s
  answers _ dst (raised c r) f s = raise c r f s

  -- Calls and requests.

  -- control leaves outside the window, with the save place at the start
  abbrev pub leaving : Leaving → Frame S → (Frame S → After S) → After S
  leaving l f k = outside f (when (eqb f.save 0) (if_some (o.leaves l f.store) λ st. k (kept f (o.forgets st))))

  -- a meaning gives a value, raises, waits or is spent
  abbrev pub follows : Option ℕ → Frame S → State × Outcome Values → After S
  follows dst f (s, gives vs) = put dst (term (only vs)) f s
  follows dst f (s, raises c r) = raise c r f s
  follows dst f (s, waits q) = finish s (waits q)
  follows dst f (s, spent) = finish s spent

  -- the same where the last tests it: a raise is no raise
  abbrev pub succeeds : Option ℕ → Frame S → State × Outcome Values → After S
  succeeds dst f (s, gives vs) = go_on (put dst (term (only vs)) f s) (choose true)
  succeeds dst f (s, raises c r) = choose false f s
  succeeds dst f (s, waits q) = finish s (waits q)
  succeeds dst f (s, spent) = finish s spent

  -- by the mode
  abbrev pub follows_by : Mode → Option ℕ → Frame S → State × Outcome Values → After S
  follows_by (tests e) dst f r = succeeds dst f r
  follows_by _ dst f r = follows dst f r

  -- the same where it ends the body
  abbrev pub ends_with : State × Outcome Values → After S
  ends_with (s, gives vs) = finish s (gives (only vs))
  ends_with (s, raises c r) = finish s (raises c r)
  ends_with (s, waits q) = finish s (waits q)
  ends_with (s, spent) = finish s spent

  -- a call, or one that is the body's result
  abbrev pub calls_by : Mode → Leaving → Option ℕ → M Values → Frame S → State → After S
  calls_by tail l dst m f s = leaving ends_body f λ g. ends_with (m s)
  calls_by _ l dst m f s = leaving l f λ g. follows dst g (m s)

  -- a call that always raises needs no frame
  abbrev pub leaving_of : Bool → Leaving
  leaving_of true = always_raises
  leaving_of false = calls

  -- a call of a function of the module
  abbrev pub local_does : ℕ → Mode → Option ℕ → List Held → Frame S → State → After S
  local_does n mode dst hs f s =
      when (takes (slice_get around.arities n) (length hs))
      (if_some (handed (is_tail mode) f.contexts around.reached n hs) λ vs.
      calls_by mode calls dst (calling here n (is_tail mode) vs >>= single) f s)

  -- a call by module and name
  abbrev pub remote_does : Mode → Option ℕ → Values → Frame S → State → After S
  remote_does mode dst (m ∷ g ∷ vs) f s =
      calls_by mode (leaving_of (raises_for_sure m g (length vs))) dst (call_terms here.own m g vs) f s
  remote_does mode dst _ f s = bad

  -- a call of a term
  abbrev pub fun_does : Option ℕ → Values → Frame S → State → After S
  fun_does dst (t ∷ vs) f s = calls_by plain calls dst (apply_term (callees around.arities here) t vs) f s
  fun_does dst [] f s = bad

  -- a message is sent
  abbrev pub send_does : Mode → Option ℕ → Values → Frame S → State → After S
  send_does mode dst (to ∷ message ∷ []) f s = calls_by mode calls dst (send_to to message) f s
  send_does mode dst _ f s = bad

  -- an earlier raise goes on
  abbrev pub raise_does : Values → Frame S → State → After S
  raise_does (t ∷ r ∷ []) f s = follows None f (raise_again t r s)
  raise_does _ f s = bad

  -- Terms.

  -- a list with an item before it
  abbrev pub cons_does : Option ℕ → Values → Frame S → State → After S
  cons_does dst (t ∷ u ∷ []) f s = put dst (term (T.cons t u)) f s
  cons_does dst _ f s = bad

  -- pairs are put into a map; under a test what is no map, or a key that is wanted and missing, is no raise
  abbrev pub map_does : Bool → Mode → Option ℕ → Values → Frame S → State → After S
  map_does exact mode dst (t ∷ vs) f s = if_some (puts_of exact vs) λ qs. follows_by mode dst f (put_all qs t s)
  map_does exact mode dst [] f s = bad

  -- a value, if there is one
  abbrev pub option_held : Option Term → Option Held
  option_held None = None
  option_held (Some t) = Some (term t)

  -- the value of a key
  abbrev pub key_does : Mode → Option ℕ → Values → Frame S → State → After S
  key_does mode dst (T.map ps ∷ k ∷ []) f s = found mode dst (option_held (value_at ps k)) f s
  key_does mode dst _ f s = bad

  -- an element, counted from 0
  abbrev pub element_does : ℕ → Option ℕ → Values → Frame S → State → After S
  element_does n dst (T.tuple ts ∷ []) f s = if_some (slice_get (listed ts) n) λ t. put dst (term t) f s
  element_does n dst _ f s = bad

  -- the first item, or the rest
  abbrev pub cell_does : Bool → Option ℕ → Values → Frame S → State → After S
  cell_does first dst (T.cons t u ∷ []) f s = put dst (term (if first then t else u)) f s
  cell_does first dst _ f s = bad

  -- a fun of the module with captured terms
  abbrev pub fun_made : ℕ → Option ℕ → Values → Frame S → State → After S
  fun_made n dst vs f s = if_some (slice_get around.arities n) λ a.
      when (leb (length vs) a) (put dst (term (T.fun here.name n (a - length vs) (terms vs))) f s)

  -- Bit strings.

  -- a context stays one, bits become a new one, another term does not match
  abbrev pub start_does : Mode → Option ℕ → List Held → Frame S → State → After S
  start_does mode dst (context n ∷ []) f s = gives_held mode dst (context n) f s
  start_does mode dst (term (T.bits bs) ∷ []) f s =
      gives_held mode dst (context (length f.contexts))
      (record f { contexts = f.contexts ++ record { bits = bs; at = 0 } ∷ [] }) s
  start_does mode dst (term t ∷ []) f s = asked mode false f s
  start_does mode dst _ f s = bad

  -- a context is wanted
  abbrev pub with_context : Frame S → Held → (ℕ → MatchContext → After S) → After S
  with_context f (context n) k = if_some (slice_get f.contexts n) (k n)
  with_context f _ k = bad

  -- of a context alone
  abbrev pub at_context : Frame S → List Held → (MatchContext → After S) → After S
  at_context f (h ∷ []) k = with_context f h λ n w. k w
  at_context f _ k = bad

  -- so many bits are taken, if there are so many
  abbrev pub took : Mode → ℕ → MatchContext → Option ℕ → Frame S → State → (List Bool → Frame S → After S) → After S
  took mode n w None f s k = asked mode false f s
  took mode n w (Some j) f s k = k (take j (rest_of w)) (record f { contexts = moved n (w.at + j) f.contexts })

  -- takes a segment from a context, or leaves the context as it is
  abbrev pub takes_segment : Shape → Mode → List Held → Frame S → State → (List Bool → Frame S → After S) → After S
  takes_segment h mode (c ∷ term size ∷ []) f s k =
      with_context f c λ n w. took mode n w (taken_size h (Some size) (length (rest_of w))) f s k
  takes_segment h mode _ f s k = bad

  -- a context goes to a position, or to its end
  abbrev pub restore_does : List Held → Frame S → State → After S
  restore_does (c ∷ position p ∷ []) f s =
      with_context f c λ n w. next (record f { contexts = moved n (min p (length w.bits)) f.contexts }) s
  restore_does _ f s = bad

  -- bits, or badarg
  abbrev pub created : Option (List Bool) → Answer
  created None = raised T.error badarg
  created (Some bs) = value (T.bits bs)

  -- Handlers.

  -- a handler opens
  abbrev pub open_does : Mode → Option ℕ → Frame S → State → After S
  open_does (tests e) (Some v) f s =
      outside f (if_some (o.opens (record { tag = v; landing = e }) f.store) λ st. choose true (kept f st) s)
  open_does _ _ f s = bad

  -- the innermost handler closes
  abbrev pub close_does : List Arg → Frame S → State → After S
  close_does (var v ∷ []) f s = outside f (if_some (o.closes v f.store) λ st. next (kept f st) s)
  close_does _ f s = bad

  -- Receives.

  -- the window opens at this message
  abbrev pub seen : ℕ → Message → Frame S → State → After S
  seen v m f s = go_on (put (Some v) (term m.term) (record (forgotten f) { window = Some m }) s) (choose true)

  -- if a message stands at the save place
  abbrev pub seen_or : ℕ → Frame S → State → After S → After S
  seen_or v f s a = elim (slice_get s.mailbox f.save) [ Some m ↦ seen v m f s | None ↦ a ]

  -- else the world is asked for more
  abbrev pub looks : ℕ → List Reply → Frame S → State → After S
  looks v [] f s = finish s (waits W.look)
  looks v (r ∷ rs) f s = seen_or v f (answered W.look r rs s) (choose false (forgotten f) (answered W.look r rs s))

  -- looks at the message at the save place
  abbrev pub peek_does : Mode → Option ℕ → Frame S → State → After S
  peek_does (tests e) (Some v) f s = outside f (seen_or v f s (looks v s.replies f s))
  peek_does _ _ f s = bad

  -- the message leaves the mailbox
  abbrev pub take_does : Frame S → State → After S
  take_does f s = inside f λ m. next (record f { save = 0; window = None }) (record s {
    mailbox = without m.serial s.mailbox;
    notes = happened (W.taken m.serial) ∷ looked (record { serial = m.serial; accepted = true }) ∷ s.notes;
  })

  -- the save place goes past it
  abbrev pub skip_does : Mode → Frame S → State → After S
  skip_does jump f s = inside f λ m. next (record (forgotten f) { save = suc f.save; window = None })
      (noting (looked (record { serial = m.serial; accepted = false })) s)
  skip_does _ f s = bad

  -- the world is asked to wait
  abbrev pub waited : Delay → List Reply → Frame S → State → After S
  waited d [] f s = finish s (waits (W.wait d))
  waited forever (r ∷ rs) f s = choose true f (answered (W.wait forever) r rs s)
  waited (millis n) (r ∷ rs) f s = choose (new_or r.arrivals false true) f (answered (W.wait (millis n)) r rs s)

  -- what a timeout leads to
  abbrev pub waits_for : Timeout → Frame S → State → After S
  waits_for now f s = choose false f s
  waits_for (in' d) f s = waited d s.replies f s
  waits_for wrong f s = raise T.error (word (codes "timeout_value")) (record f { save = 0 }) s

  -- waits for messages
  abbrev pub wait_does : Mode → Values → Frame S → State → After S
  wait_does (tests e) (t ∷ []) f s = outside f (waits_for (timeout_of t) (forgotten f) s)
  wait_does _ _ f s = bad

  -- Markers.

  -- a reference is bound to the serial of a marker
  abbrev pub bind_does : List Held → Frame S → State → After S
  bind_does (marker n ∷ term (T.reference r) ∷ []) f s =
      next f (noting (marked (record { reference = T.reference r; serial = n; before = [] })) s)
  bind_does _ f s = bad

  -- a receive for a reference begins: the save place is that of the serial below which it passes messages over
  abbrev pub begins : Term → Standing → Frame S → State → After S
  begins r a f s =
      next (record f { save = save_place (after_note (began (Some r)) a).low s.mailbox }) (noting (began (Some r)) s)

  -- a receive for a reference begins
  abbrev pub use_does : Values → Frame S → State → After S
  use_does (T.reference r ∷ []) f s = outside f (begins (T.reference r) (standing around.choices s.notes) f s)
  use_does _ f s = bad

  -- Operations on terms alone.
  unfoldable pub on_terms : Op → Mode → Option ℕ → Values → Frame S → State → After S
  unfolding answer put_all same_term after_note standing call_terms compare_holds has_keys
  on_terms (Ssa.bif b) mode dst vs f s = when (eqb (length vs) (arity_of b) && is_guard b)
      (if is_collecting b then collected f (λ g. answers mode dst (answer b here.own vs) g s)
      else answers mode dst (answer b here.own vs) f s)
  on_terms Ssa.cons mode dst vs f s = collected f λ g. cons_does dst vs g s
  on_terms Ssa.tuple mode dst vs f s = collected f λ g. put dst (term (T.tuple (terms vs))) g s
  on_terms (Ssa.map_put exact) mode dst vs f s = collected f λ g. map_does exact mode dst vs g s
  on_terms Ssa.map_get mode dst vs f s = key_does mode dst vs f s
  on_terms (Ssa.element n) mode dst vs f s = element_does n dst vs f s
  on_terms Ssa.hd mode dst vs f s = cell_does true dst vs f s
  on_terms Ssa.tl mode dst vs f s = cell_does false dst vs f s
  on_terms (Ssa.check c) mode dst vs f s = if_some (check_holds c vs) λ b. asked mode b f s
  on_terms (Ssa.make_fun n) mode dst vs f s = collected f λ g. fun_made n dst vs g s
  on_terms Ssa.call_fun mode dst vs f s = fun_does dst vs f s
  on_terms Ssa.call_remote mode dst vs f s = remote_does mode dst vs f s
  on_terms Ssa.send mode dst vs f s = send_does mode dst vs f s
  on_terms Ssa.trace mode dst [] f s = calls_by plain calls dst (ask W.trace >>= λ r. single r.term) f s
  on_terms Ssa.raise mode dst vs f s = raise_does vs f s
  on_terms (Ssa.bs_create hs) mode dst vs f s =
      collected f λ g. if_some (parts_of hs vs) λ p. answers mode dst (created p) g s
  on_terms Ssa.take_message mode dst [] f s = take_does f s
  on_terms Ssa.skip_message mode dst [] f s = skip_does mode f s
  on_terms Ssa.wait mode dst vs f s = wait_does mode vs f s
  on_terms Ssa.reset mode dst [] f s = outside f (next (record f { save = 0 }) s)
  on_terms Ssa.reserve mode dst [] f s = put dst (marker s.next) f s
  on_terms Ssa.use_marker mode dst vs f s = use_does vs f s
  on_terms _ mode dst vs f s = bad

  -- Operations on values of any kind; the others read terms.
  unfoldable pub does : Op → List Arg → Mode → Option ℕ → List Held → Frame S → State → After S
  unfolding on_terms
  does Ssa.copy as' mode dst (unset ∷ []) f s = bad
  does Ssa.copy as' mode dst (h ∷ []) f s = put dst h f s
  does (Ssa.call_local n) as' mode dst hs f s = local_does n mode dst hs f s
  does Ssa.bs_start as' mode dst hs f s = collected f λ g. start_does mode dst hs g s
  does (Ssa.bs_integer h) as' mode dst hs f s = collected f λ g. takes_segment h mode hs g s λ bs u.
      gives_held mode dst (term (segment_value (record h { is_binary = false }) bs)) u s
  does (Ssa.bs_binary h) as' mode dst hs f s = collected f λ g. takes_segment h mode hs g s λ bs u.
      gives_held mode dst (term (T.bits bs)) u (noting (cut (part_cuts around.uncounted dst)) s)
  does (Ssa.bs_skip h) as' mode dst hs f s = takes_segment h mode hs f s λ bs u. asked mode true u s
  does Ssa.bs_done as' mode dst hs f s = at_context f hs λ w. asked mode (eqb (length (rest_of w)) 0) f s
  does (Ssa.bs_unit n) as' mode dst hs f s = at_context f hs λ w. asked mode (eqb (length (rest_of w) % n) 0) f s
  does Ssa.bs_tail as' mode dst hs f s =
      collected f λ g. at_context g hs λ w.
      put dst (term (T.bits (rest_of w))) g (noting (cut (part_cuts around.uncounted dst)) s)
  does Ssa.bs_position as' mode dst hs f s = collected f λ g. at_context g hs λ w. put dst (position w.at) g s
  does Ssa.bs_restore as' mode dst hs f s = restore_does hs f s
  does Ssa.try_start as' mode dst [] f s = open_does mode dst f s
  does Ssa.try_end as' mode dst hs f s = close_does as' f s
  does (Ssa.peek n) as' mode dst [] f s = peek_does mode dst f s
  does Ssa.bind as' mode dst hs f s = bind_does hs f s
  does op as' mode dst hs f s = if_some (terms_of hs) λ vs. on_terms op mode dst vs f s
