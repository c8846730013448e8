-- A step notes at most one entry, and what stands above the running activation stays.
use Rattle.std.proofs.Common.{◌≡◌, ◌-◌, slice_get, get_or, take, replicate, not, eqb, ◌+◌, ℕ, zero, suc, List, [], ◌∷◌, ◌++◌, length, Bool, true, false, if◌then◌else◌, Option, Some, None, refl, sym, ap, ◌∙◌, append_assoc, codes}
use Rattle.erl_base.specs.Names.{Name, same_name}
use Rattle.erl_term.specs.Term as T
use Rattle.erl_term.specs.Segments.{Shape, segment_value}
use Rattle.erl_term.specs.Term.{Term, Pairs, Class}
use Rattle.erl_term.specs.Terms.{terms, word, tagged}
use Rattle.bif_table.specs.Builtins.{lookup, never_returns, Bif}
use Rattle.bif_table.specs.BuiltinAnswer.{Answer, value, raised, answer, badarg}
use Rattle.world_model.specs.World as W
use Rattle.world_model.specs.Receive.{Timeout, now, in', wrong, new_or}
use Rattle.world_model.specs.Requests.{is_send}
use Rattle.world_model.specs.Run.{Entry, Outcome}
use Rattle.world_model.specs.World.{taken, Request, Reply, Happening, Message, Delay, forever, millis}
use Rattle.step_machine.specs.Frames.{MatchContext, is_tag, rest_of, with_cell, in_frame, no_frame}
use Rattle.step_machine.specs.Steps.{happened, entered, examined, sub_binary, goes, ends, bad, notes, asks}
use Rattle.beam_table.specs.Code
use Rattle.beam_table.specs.Binaries.{shape, number_shape, do_get_integer, if_context, if_position, context_in, write_sub, read_segments, or_no_match, starts, takes, takes_segment, creates}
use Rattle.beam_table.specs.Calls.{suspended, frame_unless, enters, function_at, do_call, do_call_only, replied, calls_out, sent, sends, sends_or_calls, answered, erlang_answers, answers_call, call_any, returns, do_call_ext, do_call_ext_only, do_send, do_make_fun, enters_fun, applies, do_call_fun, calls_named, do_apply}
use Rattle.bif_table.specs.TermTests.{Comparison}
use Rattle.beam_table.specs.Code.{Reg, x_reg, y_reg, Source, reg, Extern, Flags, Segment, Insn, label, func_info, move, swap, init_yregs, allocate, allocate_heap, deallocate, trim, test_heap, return, put_list, put_tuple2, make_fun3, put_map_assoc, put_map_exact, get_list, get_hd, get_tl, get_tuple_element, get_map_elements, has_map_fields, jump, test, compares, test_arity, is_tagged_tuple, select_val, select_tuple_arity, bif, gc_bif, call, call_only, call_last, call_ext, call_ext_only, call_ext_last, call_fun, apply, apply_last, send, build_stacktrace, raise, badmatch, case_end, try_case_end, if_end, try, catch, try_end, try_case, catch_end, loop_rec, remove_message, loop_rec_end, wait, wait_timeout, timeout, recv_marker_reserve, recv_marker_bind, recv_marker_use, recv_marker_clear, bs_start_match4, bs_get_integer2, bs_get_binary2, bs_skip_bits2, bs_test_tail2, bs_test_unit, bs_get_tail, bs_get_position, bs_set_position, bs_create_bin, AsmFun, AsmModule}
use Rattle.beam_table.specs.Data.{do_init, do_allocate, drops, if_cons, if_tuple, if_map, read_pairs, write_all, firsts, seconds, put_in, do_put_map, all_or_jumps, do_get_elements}
use Rattle.beam_table.specs.GeneralRules.{tag_in, needs, if_some, read_reg, read_cell, if_term, read, read_all, arguments, outside_window, write, write_term, alone, collects, leaves, builds, tag_of, entry_at, jumps, lands, unwinds, returns_to, or_jumps, or_raises, answers, Effect, raising, with_arrivals, asking}
use Rattle.beam_table.specs.Handlers.{do_tag, if_tag, ends_tag, do_try_case, if_catch, caught, do_catch_end, do_stacktrace, raises_again, fails}
use Rattle.beam_table.specs.Inbox.{Inbox, inbox, arrived, taken_out}
use Rattle.beam_table.specs.InstructionStep.{act, step, step_at, past_labels}
use Rattle.beam_table.specs.MachineState.{Kind, a_try, a_catch, Cell, unset, killed, term, context, position, marker, tag, Activation, Machine}
use Rattle.beam_table.specs.Receives.{look_at, look_or, in_window, do_loop_rec, waits_for, waits_until, if_reference, if_marker}
use Rattle.beam_table.specs.StepFacts.{Suffix, Deeper}
use Rattle.beam_table.specs.Tests.{do_has_fields, do_compare, do_select, do_bif, do_gc_bif}

-- what holds of all ways on which a step can go; cs: what stands above the running activation
module _ (a : AsmModule) (cs : List Activation) (Q : Effect → Inbox → Type 0)
    (qbad_at : (w : Inbox) → Q bad w)
    (qends_at : (w : Inbox) (o : Outcome Term) → Q (ends o) w)
    (qgoes : (u : Machine) → Suffix cs u.callers → Q (goes u) (inbox u))
    (qentered : (e : Entry) (u : Machine) → Deeper e.tail cs u.callers → Q (notes (entered e) (goes u)) (inbox u))
    (qtaken : (n : ℕ) (u : Machine) (w : Inbox) → Suffix cs u.callers → inbox u ≡ taken_out n w → Q (notes
    (happened (taken n)) (goes u)) w)
    (qexamined_at : (w : Inbox) (n : ℕ) (s : Effect) → Q s w → Q (notes (examined n) s) w)
    (qsub_at : (w : Inbox) (s : Effect) → Q s w → Q (notes sub_binary s) w)
    (qasks_at : (w : Inbox) (q : Request) (f : Reply → Effect) → ((r : Reply)
    → Q (f r) (arrived r w)) → Q (asks q f) w) where
  abbrev At : Machine → Type 0
  At m = m.callers ≡ cs

  qbad : {w : Inbox} → Q bad w
  qbad {w} = qbad_at w

  qends : {w : Inbox} (o : Outcome Term) → Q (ends o) w
  qends {w} o = qends_at w o

  qexamined : {w : Inbox} (n : ℕ) (s : Effect) → Q s w → Q (notes (examined n) s) w
  qexamined {w} n s h = qexamined_at w n s h

  qsub : {w : Inbox} (s : Effect) → Q s w → Q (notes sub_binary s) w
  qsub {w} s h = qsub_at w s h

  qasks : {w : Inbox} (q : Request) (f : Reply → Effect) → ((r : Reply) → Q (f r) (arrived r w)) → Q (asks q f) w
  qasks {w} q f h = qasks_at w q f h

  -- Rules that only refuse.

  if_needs : {w : Inbox} → (b : Bool) (s : Effect) → Q s w → Q (needs b s) w
  if_needs true s h = h
  if_needs false s h = qbad

  frame_q : {w : Inbox} → (o : Option (List Cell)) (k : List Cell → Effect) → ((ys : List Cell) → Q (k ys) w)
      → Q (in_frame bad o k) w
  frame_q None k h = qbad
  frame_q (Some ys) k h = h ys

  some_q : {w : Inbox} {A : Type 0} (o : Option A) (k : A → Effect) → ((a : A) → Q (k a) w) → Q (if_some o k) w
  some_q None k h = qbad
  some_q (Some a) k h = h a

  none_q : {w : Inbox} {A : Type 0} (o : Option A) (s : Effect) → Q s w → Q (elim o [ None ↦ s | Some w ↦ bad ]) w
  none_q None s h = h
  none_q (Some w) s h = qbad

  no_frame_q : (m : Machine) (s : Effect) → Q s (inbox m) → Q (no_frame bad m.frame s) (inbox m)
  no_frame_q m s h = none_q m.frame s h

  outside_q : (m : Machine) (s : Effect) → Q s (inbox m) → Q (outside_window m s) (inbox m)
  outside_q m s h = none_q m.window s h

  reg_q : (m : Machine) (r : Reg) (k : Cell → Effect) → ((c : Cell) → Q (k c) (inbox m)) → Q (read_reg m r k) (inbox m)
  reg_q m (x_reg n) k h = h _
  reg_q m (y_reg n) k h = frame_q m.frame _ λ ys. some_q _ k h

  cell_q : (m : Machine) (s : Source) (k : Cell → Effect) → ((c : Cell) → Q (k c) (inbox m))
      → Q (read_cell m s k) (inbox m)
  cell_q m (reg r) k h = reg_q m r k h
  cell_q m (Code.atom a) k h = h _
  cell_q m (Code.integer z) k h = h _
  cell_q m Code.nil k h = h _
  cell_q m (Code.literal t) k h = h _

  term_q : {w : Inbox} → (c : Cell) (k : Term → Effect) → ((t : Term) → Q (k t) w) → Q (if_term c k) w
  term_q (term t) k h = h t
  term_q _ k h = qbad

  read_q : (m : Machine) (s : Source) (k : Term → Effect) → ((t : Term) → Q (k t) (inbox m)) → Q (read m s k) (inbox m)
  read_q m s k h = cell_q m s _ λ c. term_q c k h

  read_all_q : (m : Machine) (ss : List Source) (k : List Term → Effect) → ((ts : List Term) → Q (k ts) (inbox m))
      → Q (read_all m ss k) (inbox m)
  read_all_q m [] k h = h []
  read_all_q m (s ∷ ss) k h = read_q m s _ λ t. read_all_q m ss _ λ ts. h (t ∷ ts)

  arguments_q : {w : Inbox} → (n : ℕ) (ds : List Cell) (k : List Term → Effect) → ((ts : List Term) → Q (k ts) w)
      → Q (arguments n ds k) w
  arguments_q zero ds k h = h []
  arguments_q (suc n) [] k h = qbad
  arguments_q (suc n) (c ∷ ds) k h = term_q c _ λ t. arguments_q n ds _ λ ts. h (t ∷ ts)

  -- Rules that change the state.

  here : (m : Machine) → At m → Q (goes m) (inbox m)
  here m e = qgoes m ([], sym e)

  write_q : (m : Machine) (r : Reg) (c : Cell) (k : Machine → Effect) → At m
      → ((u : Machine) → At u → Q (k u) (inbox u)) → Q (write m r c k) (inbox m)
  write_q m (x_reg n) c k e h = h _ e
  write_q m (y_reg n) c k e h = outside_q m (in_frame bad m.frame λ ys. if_some (slice_get ys n) λ old. put ys old)
      (frame_q m.frame _ λ ys. some_q (slice_get ys n) (λ old. put ys old) λ old. if_needs (not (is_tag tag_in old)) _
      (h (with_frame ys) e))
    where
      with_frame : List Cell → Machine
      with_frame ys = record m { frame = Some (with_cell unset n c ys) }

      put : List Cell → Cell → Effect
      put ys old = needs (not (is_tag tag_in old)) (k (with_frame ys))

  collects_q : (n : ℕ) (m : Machine) (k : Machine → Effect) → At m → ((u : Machine) → At u → Q (k u) (inbox u))
      → Q (collects n m k) (inbox m)
  collects_q n m k e h = if_needs _ _ (h _ e)

  leaves_q : (n : ℕ) (m : Machine) (k : Machine → Effect) → At m → ((u : Machine) → At u → Q (k u) (inbox u))
      → Q (leaves n m k) (inbox m)
  leaves_q n m k e h = outside_q m _ (if_needs _ _ (h _ e))

  builds_q : (n : ℕ) (m : Machine) (k : Machine → Effect) → At m → ((u : Machine) → At u → Q (k u) (inbox u))
      → Q (builds n m k) (inbox m)
  builds_q n m k e h = if_needs _ _ (h _ e)

  jumps_q : (l : ℕ) (m : Machine) → At m → Q (jumps a l m) (inbox m)
  jumps_q l m e = some_q _ _ λ is. qgoes _ ([], sym e)

  lands_q : (k : Kind) (l : ℕ) (c : Class) (r : Term) (m : Machine) → Suffix cs m.callers
      → Q (lands a k l c r m) (inbox m)
  lands_q k l c r m e = some_q _ _ λ is. qgoes _ e

  one_more : (front : List Activation) (f : Activation) (fs : List Activation) → cs ≡ front ++ (f ∷ fs) → Suffix cs fs
  one_more front f fs e = (front ++ (f ∷ []), e ∙ sym (append_assoc front (f ∷ []) fs))

  tag_q : {w : Inbox} {A : Type 0} (o : Option A) (f : A → Effect) (s : Effect) → ((a : A) → Q (f a) w) → Q s w
      → Q (elim o [ Some t ↦ f t | None ↦ s ]) w
  tag_q None f s h g = g
  tag_q (Some t) f s h g = h t

  unwinds_q : (fs : List Activation) (c : Class) (r : Term) (m : Machine) → Suffix cs fs
      → Q (unwinds a fs c r m) (inbox m)
  unwinds_q [] c r m e = qends _
  unwinds_q (f ∷ fs) c r m e =
      tag_q (tag_of f.frame) (λ t. lands a t.0 t.1 c r (record m { frame = f.frame; callers = fs }))
      (unwinds a fs c r m)
      (λ t. lands_q t.0 t.1 c r (record m { frame = f.frame; callers = fs }) (one_more e.0 f fs e.1))
      (unwinds_q fs c r m (one_more e.0 f fs e.1))

  raises_q : (c : Class) (r : Term) (m : Machine) → At m → Q (raising a c r m) (inbox m)
  raises_q c r m e = outside_q m _
      (tag_q (tag_of m.frame) (λ t. lands a t.0 t.1 c r m) (unwinds a m.callers c r m)
      (λ t. lands_q t.0 t.1 c r m ([], sym e)) (unwinds_q m.callers c r m ([], sym e)))

  asks_q : (q : Request) (m : Machine) (k : Reply → Machine → Effect) → At m
      → ((r : Reply) (u : Machine) → At u → Q (k r u) (inbox u)) → Q (asking q m k) (inbox m)
  asks_q q m k e h = qasks q _ λ r. h r (with_arrivals r m) e

  returns_q : (fs : List Activation) (t : Term) (m : Machine) → cs ≡ fs → Q (returns_to fs t m) (inbox m)
  returns_q [] t m e = qends _
  returns_q (f ∷ fs) t m e = qgoes _ (f ∷ [], e)

  -- Each instruction.

  init_q : (ns : List ℕ) (m : Machine) → At m → Q (do_init ns m) (inbox m)
  init_q [] m e = here m e
  init_q (n ∷ ns) m e = write_q m (y_reg n) killed _ e λ u f. init_q ns u f

  drops_q : (n : ℕ) (m : Machine) (k : Machine → Effect) → At m → ((u : Machine) → At u → Q (k u) (inbox u))
      → Q (drops n m k) (inbox m)
  drops_q n m k e h = outside_q m _ (frame_q m.frame _ λ ys. if_needs _ _ (h _ e))

  allocate_q : (n w live : ℕ) (m : Machine) → At m → Q (do_allocate n w live m) (inbox m)
  allocate_q n w live m e =
      outside_q m _ (no_frame_q m _ (collects_q live m (λ u. goes (framed u)) e λ u f. here (framed u) f))
    where
      framed : Machine → Machine
      framed u = record u { frame = Some (replicate n unset); room = w }

  cons_q : {w : Inbox} → (t : Term) (k : Term → Term → Effect) → ((u v : Term) → Q (k u v) w) → Q (if_cons t k) w
  cons_q (T.cons u v) k h = h u v
  cons_q _ k h = qbad

  tuple_q : {w : Inbox} → (t : Term) (k : List Term → Effect) → ((ts : List Term) → Q (k ts) w) → Q (if_tuple t k) w
  tuple_q (T.tuple ts) k h = h _
  tuple_q _ k h = qbad

  map_q : {w : Inbox} → (t : Term) (k : Pairs → Effect) → ((ps : Pairs) → Q (k ps) w) → Q (if_map t k) w
  map_q (T.map ps) k h = h ps
  map_q _ k h = qbad

  read_pairs_q : (m : Machine) (ps : List (Source × Source)) (k : List (Term × Term) → Effect)
      → ((qs : List (Term × Term)) → Q (k qs) (inbox m)) → Q (read_pairs m ps k) (inbox m)
  read_pairs_q m [] k h = h []
  read_pairs_q m (p ∷ ps) k h = read_q m p.0 _ λ t. read_q m p.1 _ λ u. read_pairs_q m ps _ λ qs. h ((t, u) ∷ qs)

  write_all_q : (m : Machine) (ds : List Reg) (ts : List Term) (k : Machine → Effect) → At m
      → ((u : Machine) → At u → Q (k u) (inbox u)) → Q (write_all m ds ts k) (inbox m)
  write_all_q m [] ts k e h = h m e
  write_all_q m (d ∷ ds) [] k e h = h m e
  write_all_q m (d ∷ ds) (t ∷ ts) k e h = write_q m d (term t) _ e λ u f. write_all_q u ds ts k f h

  or_jumps_q : (b : Bool) (l : ℕ) (m : Machine) → At m → Q (or_jumps a b l m) (inbox m)
  or_jumps_q true l m e = here m e
  or_jumps_q false l m e = jumps_q l m e

  or_raises_q : (o : Option ℕ) (c : Class) (r : Term) (m : Machine) → At m → Q (or_raises a o c r m) (inbox m)
  or_raises_q None c r m e = raises_q c r m e
  or_raises_q (Some l) c r m e = jumps_q l m e

  answers_q : (o : Option ℕ) (w : Answer) (d : Reg) (m : Machine) → At m → Q (answers a o w d m) (inbox m)
  answers_q o (value t) d m e = write_q m d (term t) _ e here
  answers_q o (raised c r) d m e = or_raises_q o c r m e

  put_map_q : (b : Bool) (s : Source) (d : Reg) (n : ℕ) (ps : List (Source × Source)) (m : Machine) → At m
      → Q (do_put_map a b s d n ps m) (inbox m)
  unfolding do_put_map
  put_map_q b s d n ps m e =
      collects_q n m (λ u. read u s λ t. read_pairs u ps λ qs. answers a None (put_in b qs t) d u) e
      λ u f. read_q u s _ λ t. read_pairs_q u ps _ λ qs. answers_q None (put_in b qs t) d u f

  all_or_jumps_q : (o : Option (List Term)) (ds : List Reg) (l : ℕ) (m : Machine) → At m
      → Q (all_or_jumps a o ds l m) (inbox m)
  all_or_jumps_q None ds l m e = jumps_q l m e
  all_or_jumps_q (Some ts) ds l m e = write_all_q m ds ts _ e here

  get_elements_q : (l : ℕ) (s : Source) (ps : List (Source × Reg)) (m : Machine) → At m
      → Q (do_get_elements a l s ps m) (inbox m)
  unfolding do_get_elements
  get_elements_q l s ps m e =
      read_q m s _ λ t. map_q t _ λ qs. read_all_q m (firsts ps) _ λ ks. all_or_jumps_q _ (seconds ps) l m e

  has_fields_q : (l : ℕ) (s : Source) (ss : List Source) (m : Machine) → At m → Q (do_has_fields a l s ss m) (inbox m)
  unfolding do_has_fields
  has_fields_q l s ss m e = read_q m s _ λ t. map_q t _ λ qs. read_all_q m ss _ λ ks. or_jumps_q _ l m e

  compare_q : (t : Comparison) (l : ℕ) (r s : Source) (m : Machine) → At m → Q (do_compare a t l r s m) (inbox m)
  unfolding do_compare
  compare_q t l r s m e = read_q m r _ λ u. read_q m s _ λ v. or_jumps_q _ l m e

  select_q : (s : Source) (l : ℕ) (ws : List (Source × ℕ)) (m : Machine) → At m → Q (do_select a s l ws m) (inbox m)
  unfolding do_select
  select_q s l ws m e = read_q m s _ λ t. read_all_q m (firsts ws) _ λ us. jumps_q _ m e

  bif_q : (b : Bif) (o : Option ℕ) (ss : List Source) (d : Reg) (m : Machine) → At m → Q (do_bif a b o ss d m) (inbox m)
  unfolding do_bif
  bif_q b o ss d m e = read_all_q m ss _ λ ts. answers_q o _ d m e

  gc_bif_q : (b : Bif) (o : Option ℕ) (n : ℕ) (ss : List Source) (d : Reg) (m : Machine) → At m
      → Q (do_gc_bif a b o n ss d m) (inbox m)
  unfolding do_gc_bif
  gc_bif_q b o n ss d m e = read_all_q m ss _ λ ts. collects_q n m (λ u. answers a o (answer b u.own ts) d u) e λ u f.
      answers_q o (answer b u.own ts) d u f

  -- Calls.

  alone_q : (t : Term) (m : Machine) → At m → Q (alone t m) (inbox m)
  alone_q t m e = here _ e

  returns_here : (t : Term) (m : Machine) → At m → Q (returns a t m) (inbox m)
  returns_here t m e = returns_q m.callers t m (sym e)

  -- goes on with a term
  abbrev Next : (Term → Machine → Effect) → Type 0
  Next k = (t : Term) (u : Machine) → At u → Q (k t u) (inbox u)

  how_q : {w : Inbox} → (r : W.How) (p q s t : Effect) → Q p w → Q q w → Q s w → Q t w
      → Q (elim r [ W.return ↦ p | W.error ↦ q | W.exit ↦ s | W.throw ↦ t ]) w
  how_q W.return p q s t h i j k = h
  how_q W.error p q s t h i j k = i
  how_q W.exit p q s t h i j k = j
  how_q W.throw p q s t h i j k = k

  replied_q : (r : Reply) (m : Machine) (k : Term → Machine → Effect) → At m → Next k → Q (replied a r m k) (inbox m)
  replied_q r m k e h = how_q r.how _ _ _ _ (h _ m e) (raises_q T.error r.term m e) (raises_q T.exit r.term m e)
      (raises_q T.throw r.term m e)

  sent_q : (v : Term) (r : Reply) (m : Machine) (k : Term → Machine → Effect) → At m → Next k
      → Q (sent a v r m k) (inbox m)
  sent_q v r m k e h = how_q r.how _ _ _ _ (h v m e) (raises_q T.error badarg m e) (raises_q T.error badarg m e)
      (raises_q T.error badarg m e)

  calls_out_q : (f g : Name) (ts : List Term) (m : Machine) (k : Term → Machine → Effect) → At m → Next k
      → Q (calls_out a f g ts m k) (inbox m)
  calls_out_q f g ts m k e h = asks_q _ m (λ r u. replied a r u k) e λ r u e'. replied_q r u k e' h

  sends_q : (t v : Term) (m : Machine) (k : Term → Machine → Effect) → At m → Next k → Q (sends a t v m k) (inbox m)
  sends_q t v m k e h = asks_q _ m (λ r u. sent a v r u k) e λ r u e'. sent_q v r u k e' h

  either_q : {w : Inbox} → (b : Bool) (p q : Effect) → Q p w → Q q w → Q (if b then p else q) w
  either_q true p q h g = h
  either_q false p q h g = g

  sends_or_calls_q : (g : Name) (ts : List Term) (m : Machine) (k : Term → Machine → Effect) → At m → Next k
      → Q (sends_or_calls a g ts m k) (inbox m)
  sends_or_calls_q g [] m k e h = calls_out_q _ g _ m k e h
  sends_or_calls_q g (t ∷ []) m k e h = calls_out_q _ g _ m k e h
  sends_or_calls_q g (t ∷ v ∷ []) m k e h = either_q (is_send g) _ _ (sends_q t v m k e h) (calls_out_q _ g _ m k e h)
  sends_or_calls_q g (t ∷ v ∷ w ∷ ts) m k e h = calls_out_q _ g _ m k e h

  answered_q : (w : Answer) (m : Machine) (k : Term → Machine → Effect) → At m → Next k → Q (answered a w m k) (inbox m)
  answered_q (value t) m k e h = h t m e
  answered_q (raised c r) m k e h = raises_q c r m e

  some_bif_q : {w : Inbox} → (o : Option Bif) (f : Bif → Effect) (s : Effect) → ((b : Bif) → Q (f b) w) → Q s w
      → Q (elim o [ Some b ↦ f b | None ↦ s ]) w
  some_bif_q None f s h g = g
  some_bif_q (Some b) f s h g = h b

  erlang_q : (g : Name) (ts : List Term) (m : Machine) (k : Term → Machine → Effect) → At m → Next k
      → Q (erlang_answers a g ts m k) (inbox m)
  unfolding erlang_answers
  erlang_q g ts m k e h = some_bif_q (lookup g (length ts)) (λ b. answered a (answer b m.own ts) m k) _
      (λ b. answered_q (answer b m.own ts) m k e h) (sends_or_calls_q g ts m k e h)

  answers_call_q : (f g : Name) (ts : List Term) (m : Machine) (k : Term → Machine → Effect) → At m → Next k
      → Q (answers_call a f g ts m k) (inbox m)
  unfolding answers_call
  answers_call_q f g ts m k e h =
      either_q (same_name f (codes "erlang")) _ _ (erlang_q g ts m k e h) (calls_out_q f g ts m k e h)

  call_any_q : (n : ℕ) (z : Extern) (m : Machine) (k : Term → Machine → Effect) → At m → Next k
      → Q (call_any a n z m k) (inbox m)
  unfolding call_any
  call_any_q n z m k e h = leaves_q n m (λ u. arguments n u.xs λ ts. answers_call a z.mod_name z.name ts u k) e λ u f.
      arguments_q n u.xs _ λ ts. answers_call_q z.mod_name z.name ts u k f h

  frame_unless_q : (b : Bool) (m : Machine) (s : Effect) → Q s (inbox m) → Q (frame_unless b m s) (inbox m)
  frame_unless_q true m s h = h
  frame_unless_q false m s h = frame_q m.frame (λ ys. s) λ ys. h

  call_ext_q : (n : ℕ) (z : Extern) (m : Machine) → At m → Q (do_call_ext a n z m) (inbox m)
  unfolding do_call_ext
  call_ext_q n z m e = frame_unless_q (never_returns z.mod_name z.name z.arity) m _ (call_any_q n z m alone e alone_q)

  call_ext_only_q : (n : ℕ) (z : Extern) (m : Machine) → At m → Q (do_call_ext_only a n z m) (inbox m)
  unfolding do_call_ext_only
  call_ext_only_q n z m e = no_frame_q m _ (call_any_q n z m (returns a) e returns_here)

  function_q : {w : Inbox} → (l n : ℕ) (k : ℕ → AsmFun → Effect) → ((s : ℕ) (f : AsmFun) → Q (k s f) w)
      → Q (function_at a l n k) w
  function_q l n k h = some_q (entry_at a.funs l 0) _ λ f. if_needs _ _ (h f.0 f.1)

  enters_below : (s : ℕ) (f : AsmFun) (ds : List Cell) (m : Machine) → At m
      → Q (enters a false s f ds (suspended m)) (inbox m)
  enters_below s f ds m e = qentered _ _ (_, ap (λ z. record { frame = m.frame; back = m.code } ∷ z) e)

  call_q : (n l : ℕ) (m : Machine) → At m → Q (do_call a n l m) (inbox m)
  call_q n l m e = frame_q m.frame _ λ ys. leaves_q n m _ e λ u f. function_q l n
      (λ s g. enters a false s g (take n u.xs) (suspended u)) λ s g. enters_below s g (take n u.xs) u f

  call_only_q : (n l : ℕ) (m : Machine) → At m → Q (do_call_only a n l m) (inbox m)
  call_only_q n l m e = no_frame_q m _
      (leaves_q n m _ e λ u f. function_q l n (λ s g. enters a true s g (take n u.xs) u) λ s g. qentered _ _ f)

  make_fun_q : (l s : ℕ) (d : Reg) (ss : List Source) (m : Machine) → At m → Q (do_make_fun a l s d ss m) (inbox m)
  make_fun_q l s d ss m e = some_q (slice_get a.funs s) _ λ f. if_needs _ _ (builds_q (4 + length ss) m
      (λ u. read_all u ss λ ts. write_term u d (T.fun a.name s (f.key.arity - length ss) (terms ts)) goes) e
      λ u g. read_all_q u ss _ λ ts. write_q u d (term (T.fun a.name s (f.key.arity - length ss) (terms ts))) _ g here)

  enters_fun_q : (o : Option AsmFun) (t : Term) (s : ℕ) (ts us : List Term) (m : Machine) → At m
      → Q (enters_fun a o t s ts us m) (inbox m)
  enters_fun_q None t s ts us m e = calls_out_q _ _ _ m alone e alone_q
  enters_fun_q (Some f) t s ts us m e = enters_below s f _ m e

  applies_q : (t : Term) (ts : List Term) (m : Machine) → At m → Q (applies a t ts m) (inbox m)
  applies_q (T.fun b s n us) ts m e =
      either_q (eqb n (length ts)) _ _ (enters_fun_q _ _ s ts _ m e) (raises_q T.error _ m e)
  applies_q (T.extern f g n) ts m e =
      either_q (eqb n (length ts)) _ _ (calls_out_q f g ts m alone e alone_q) (raises_q T.error _ m e)
  applies_q _ ts m e = raises_q T.error _ m e

  call_fun_q : (n : ℕ) (m : Machine) → At m → Q (do_call_fun a n m) (inbox m)
  call_fun_q n m e = frame_q m.frame _ λ ys. leaves_q (suc n) m _ e λ u f. arguments_q n u.xs _ λ ts. read_q u
      (reg (x_reg n)) _ λ t. applies_q t ts u f

  calls_named_q : (t v : Term) (n : ℕ) (m : Machine) (k : Term → Machine → Effect) → At m → Next k
      → Q (calls_named a t v n m k) (inbox m)
  unfolding calls_named
  calls_named_q (T.atom f) (T.atom g) n m k e h = arguments_q n m.xs _ λ ts. answers_call_q f g ts m k e h
  calls_named_q _ _ n m k e h = raises_q T.error badarg m e

  apply_q : (n : ℕ) (m : Machine) (k : Term → Machine → Effect) → At m → Next k → Q (do_apply a n m k) (inbox m)
  unfolding do_apply
  apply_q n m k e h = leaves_q (suc (suc n)) m _ e λ u f. read_q u (reg (x_reg n)) _ λ t. read_q u
      (reg (x_reg (suc n))) _ λ v. calls_named_q t v n u k f h

  send_q : (m : Machine) → At m → Q (do_send a m) (inbox m)
  send_q m e = frame_q m.frame _ λ ys. leaves_q 2 m _ e λ u f. read_q u (reg (x_reg 0)) _ λ t. read_q u
      (reg (x_reg 1)) _ λ v. sends_q t v u alone f alone_q

  -- Handlers.

  if_tag_q : {w : Inbox} → (c : Cell) (k : Kind → Effect) → ((j : Kind) → Q (k j) w) → Q (if_tag c k) w
  if_tag_q (tag j l) k h = h j
  if_tag_q _ k h = qbad

  ends_tag_q : (n : ℕ) (m : Machine) (k : Kind → Machine → Effect) → At m
      → ((j : Kind) (u : Machine) → At u → Q (k j u) (inbox u)) → Q (ends_tag n m k) (inbox m)
  ends_tag_q n m k e h = outside_q m _
      (frame_q m.frame _ λ ys. if_tag_q (get_or ys n unset) _ λ j. if_needs _ _ (h j _ e))

  do_tag_q : (j : Kind) (n l : ℕ) (m : Machine) → At m → Q (do_tag j n l m) (inbox m)
  do_tag_q j n l m e = outside_q m _ (frame_q m.frame _ λ ys. if_needs _ _ (here _ e))

  landing_q : {w : Inbox} → (o : Option Kind) (s : Effect) (k : Kind → Effect) → Q s w → ((j : Kind) → Q (k j) w)
      → Q (elim o [ None ↦ s | Some j ↦ k j ]) w
  landing_q None s k h g = h
  landing_q (Some j) s k h g = g j

  try_case_q : (n : ℕ) (m : Machine) → At m → Q (do_try_case n m) (inbox m)
  try_case_q n m e = landing_q m.landing bad (λ k. ends_tag n m λ j u. goes (record u { landing = None })) qbad λ k.
      ends_tag_q n m (λ j u. goes (record u { landing = None })) e λ j u f. here (record u { landing = None }) f

  if_catch_q : {w : Inbox} → (j : Kind) (s : Effect) → Q s w → Q (if_catch j s) w
  if_catch_q a_catch s h = h
  if_catch_q a_try s h = qbad

  caught_q : (t r : Term) (m : Machine) → At m → Q (caught t r m) (inbox m)
  caught_q (T.raw_trace T.throw) r m e = here _ e
  caught_q (T.raw_trace T.exit) r m e = here _ e
  caught_q (T.raw_trace T.error) r m e = asks_q W.trace m
      (λ q u. alone (tagged (codes "EXIT") (T.tuple (T.more r (T.more q.term T.none)))) u) e λ q u f. here _ f
  caught_q _ r m e = qbad

  caught_here : (u : Machine) → Kind → Effect
  caught_here u j = read u (reg (x_reg 1)) λ r. read u (reg (x_reg 2)) λ t. caught t r (record u { landing = None })

  catch_end_q : (n : ℕ) (m : Machine) → At m → Q (do_catch_end n m) (inbox m)
  unfolding caught_here
  catch_end_q n m e = ends_tag_q n m _ e λ k u f. if_catch_q k _
      (landing_q m.landing (goes u) (caught_here u) (here u f)
      λ j. read_q u (reg (x_reg 1)) _ λ r. read_q u (reg (x_reg 2)) _ λ t. caught_q t r (record u { landing = None }) f)

  stacktrace_q : (m : Machine) → At m → Q (do_stacktrace m) (inbox m)
  stacktrace_q m e = frame_q m.frame _ λ ys. leaves_q 1 m _ e λ u f. asks_q W.trace u
      (λ r v. alone r.term v) f λ r v g. here _ g

  again_q : (t r : Term) (m : Machine) → At m → Q (raises_again a t r m) (inbox m)
  again_q (T.raw_trace c) r m e = raises_q c r m e
  again_q _ r m e = raises_q T.error badarg m e

  fails_q : (w : List ℕ) (s : Source) (m : Machine) → At m → Q (fails a w s m) (inbox m)
  fails_q w s m e = read_q m s _ λ t. raises_q T.error _ m e

  -- Receives.

  look_at_q : (n : ℕ) (w : Message) (m : Machine) → At m → Q (look_at n w m) (inbox m)
  look_at_q n w m e = qexamined w.serial _ (here _ e)

  look_or_q : (n : ℕ) (o : Option Message) (m : Machine) (k : Machine → Effect) → At m → Q (k m) (inbox m)
      → Q (look_or n o m k) (inbox m)
  look_or_q n None m k e h = h
  look_or_q n (Some w) m k e h = look_at_q n w m e

  after_look : (l n : ℕ) (u : Machine) → Effect
  after_look l n u = look_or n (slice_get u.mailbox u.save) u λ v. jumps a l (record v { xs = [] })

  after_look_q : (l n : ℕ) (u : Machine) → At u → Q (after_look l n u) (inbox u)
  unfolding after_look
  after_look_q l n u f = look_or_q n (slice_get u.mailbox u.save) u _ f (jumps_q l (record u { xs = [] }) f)

  loop_rec_q : (l n : ℕ) (m : Machine) → At m → Q (do_loop_rec a l n m) (inbox m)
  unfolding after_look
  loop_rec_q l n m e = outside_q m _
      (look_or_q n (slice_get m.mailbox m.save) m _ e
      (asks_q W.look m (λ r u. after_look l n u) e λ r u f. after_look_q l n u f))

  window_q : (m : Machine) (k : Message → Effect) → ((w : Message) → Q (k w) (inbox m)) → Q (in_window m k) (inbox m)
  window_q m k h = go m.window
    where
      go : (o : Option Message) → Q (elim o [ None ↦ bad | Some w ↦ k w ]) (inbox m)
      go None = qbad
      go (Some w) = h w

  new_or_q : {w : Inbox} → (ts : List Term) (p q : Effect) → Q p w → Q q w → Q (new_or ts p q) w
  new_or_q [] p q h g = h
  new_or_q (t ∷ ts) p q h g = g

  waits_for_q : (l : ℕ) (d : Delay) (m : Machine) → At m → Q (waits_for a l d m) (inbox m)
  waits_for_q l forever m e = asks_q (W.wait forever) m (λ r u. jumps a l u) e λ r u f. jumps_q l u f
  waits_for_q l (millis n) m e = asks_q (W.wait (millis n)) m
      (λ r u. new_or r.arrivals (goes u) (jumps a l u)) e λ r u f. new_or_q r.arrivals _ _ (here u f) (jumps_q l u f)

  waits_until_q : (l : ℕ) (t : Timeout) (m : Machine) → At m → Q (waits_until a l t m) (inbox m)
  waits_until_q l now m e = here m e
  waits_until_q l (in' d) m e = waits_for_q l d m e
  waits_until_q l wrong m e = raises_q T.error (word (codes "timeout_value")) (record m { save = 0 }) e

  reference_q : {w : Inbox} → (t : Term) (k : ℕ → Effect) → ((n : ℕ) → Q (k n) w) → Q (if_reference t k) w
  reference_q (T.reference n) k h = h n
  reference_q _ k h = qbad

  marker_q : {w : Inbox} → (c : Cell) (k : ℕ → Effect) → ((n : ℕ) → Q (k n) w) → Q (if_marker c k) w
  marker_q (marker n) k h = h n
  marker_q _ k h = qbad

  -- Bit strings.

  context_q : (m : Machine) (c : Reg) (k : ℕ → MatchContext → Effect)
      → ((n : ℕ) (w : MatchContext) → Q (k n w) (inbox m)) → Q (context_in m c k) (inbox m)
  context_q m c k h = reg_q m c _ λ v. if_context_q v _ λ n. some_q (slice_get m.contexts n) _ λ w. h n w
    where
      if_context_q : {w : Inbox} → (v : Cell) (f : ℕ → Effect) → ((n : ℕ) → Q (f n) w) → Q (if_context v f) w
      if_context_q (context n) f g = g n
      if_context_q _ f g = qbad

  position_q : {w : Inbox} → (c : Cell) (k : ℕ → Effect) → ((n : ℕ) → Q (k n) w) → Q (if_position c k) w
  position_q (position n) k h = h n
  position_q _ k h = qbad

  write_sub_q : (m : Machine) (d : Reg) (bs : List Bool) → At m → Q (write_sub m d bs) (inbox m)
  write_sub_q m d bs e = write_q m d (term (T.bits bs)) _ e λ u f. qsub _ (here u f)

  segments_q : (m : Machine) (gs : List Segment) (k : Option (List Bool) → Effect)
      → ((o : Option (List Bool)) → Q (k o) (inbox m)) → Q (read_segments m gs k) (inbox m)
  segments_q m [] k h = h _
  segments_q m (g ∷ gs) k h = read_q m g.value _ λ t. read_q m g.size _ λ u. segments_q m gs _ λ o. h _

  no_match_q : (o : Option ℕ) (m : Machine) → At m → Q (or_no_match a o m) (inbox m)
  no_match_q None m e = qbad
  no_match_q (Some l) m e = jumps_q l m e

  starts_term : (o : Option ℕ) (t : Term) (d : Reg) (m : Machine) → At m → Q (starts a o (term t) d m) (inbox m)
  starts_term o (T.bits bs) d m e = write_q m d (context (length m.contexts))
      (λ u. goes (record u { contexts = u.contexts ++ record { bits = bs; at = 0 } ∷ [] })) e λ u f. here
      (record u { contexts = u.contexts ++ record { bits = bs; at = 0 } ∷ [] }) f
  starts_term o _ d m e = no_match_q o m e

  starts_q : (o : Option ℕ) (c : Cell) (d : Reg) (m : Machine) → At m → Q (starts a o c d m) (inbox m)
  starts_q o (context n) d m e = write_q m d (context n) _ e here
  starts_q o (term t) d m e = starts_term o t d m e
  starts_q o _ d m e = qbad

  takes_q : (o : Option ℕ) (l n : ℕ) (w : MatchContext) (m : Machine) (k : List Bool → Machine → Effect) → At m
      → ((bs : List Bool) (u : Machine) → At u → Q (k bs u) (inbox u)) → Q (takes a o l n w m k) (inbox m)
  takes_q None l n w m k e h = jumps_q l m e
  takes_q (Some j) l n w m k e h = h _ _ e

  takes_segment_q : (z : Shape) (l : ℕ) (c : Reg) (s : Source) (m : Machine) (k : List Bool → Machine → Effect) → At m
      → ((bs : List Bool) (u : Machine) → At u → Q (k bs u) (inbox u)) → Q (takes_segment a z l c s m k) (inbox m)
  takes_segment_q z l c s m k e h = context_q m c _ λ n w. read_q m s _ λ t. takes_q _ l n w m k e h

  get_integer_q : (l n : ℕ) (c : Reg) (s : Source) (w : ℕ) (z : Flags) (d : Reg) (m : Machine) → At m
      → Q (do_get_integer a l n c s w z d m) (inbox m)
  get_integer_q l n c s w z d m e = collects_q n m
      (λ u. takes_segment a (number_shape w z) l c s u λ bs v. write_term v d
      (segment_value (number_shape w z) bs) goes) e
      λ u f. takes_segment_q (number_shape w z) l c s u _ f λ bs v g. write_q v d
      (term (segment_value (number_shape w z) bs)) _ g here

  creates_q : (b : Option (List Bool)) (o : Option ℕ) (d : Reg) (m : Machine) → At m → Q (creates a b o d m) (inbox m)
  creates_q None o d m e = or_raises_q o T.error badarg m e
  creates_q (Some bs) o d m e = write_q m d (term (T.bits bs)) _ e here

  act_q : (i : Insn) (m : Machine) → At m → Q (act a i m) (inbox m)
  unfolding act
  act_q (label l) m e = qbad
  act_q (func_info f) m e = raises_q T.error _ m e
  act_q (move s d) m e = cell_q m s _ λ c. if_needs _ _ (write_q m d c _ e here)
  act_q (swap r s) m e = reg_q m r _ λ c. reg_q m s _ λ d. if_needs _ _
      (write_q m r d _ e λ u f. write_q u s c _ f here)
  act_q (init_yregs ns) m e = init_q ns m e
  act_q (allocate n k) m e = allocate_q n 0 k m e
  act_q (allocate_heap n w k) m e = allocate_q n w k m e
  act_q (deallocate n) m e = drops_q n m _ e here
  act_q (trim n r) m e = outside_q m _ (frame_q m.frame _ λ ys. if_needs _ _ (here _ e))
  act_q (test_heap w k) m e = collects_q k m (λ u. goes (record u { room = w })) e λ u f. here (record u { room = w }) f
  act_q return m e = outside_q m _ (no_frame_q m _ (term_q (get_or m.xs 0 unset) _ λ t. returns_here t m e))
  act_q (put_list s r d) m e = builds_q 2 m (λ u. read u s λ t. read u r λ v. write_term u d (T.cons t v) goes) e λ u f.
      read_q u s _ λ t. read_q u r _ λ v. write_q u d (term (T.cons t v)) _ f here
  act_q (put_tuple2 d ss) m e = builds_q (suc (length ss)) m
      (λ u. read_all u ss λ ts. write_term u d (T.tuple (terms ts)) goes) e λ u f. read_all_q u ss _ λ ts. write_q u d
      (term (T.tuple (terms ts))) _ f here
  act_q (make_fun3 l s d ss) m e = make_fun_q l s d ss m e
  act_q (put_map_assoc s d k ps) m e = put_map_q false s d k ps m e
  act_q (put_map_exact s d k ps) m e = put_map_q true s d k ps m e
  act_q (get_list s d r) m e = read_q m s _ λ l. cons_q l _ λ t v. write_q m d _ _ e λ u f. write_q u r _ _ f here
  act_q (get_hd s d) m e = read_q m s _ λ l. cons_q l _ λ t v. write_q m d _ _ e here
  act_q (get_tl s d) m e = read_q m s _ λ l. cons_q l _ λ t v. write_q m d _ _ e here
  act_q (get_tuple_element s n d) m e =
      read_q m s _ λ t. tuple_q t _ λ ts. some_q (slice_get ts n) _ λ v. write_q m d _ _ e here
  act_q (get_map_elements l s ps) m e = get_elements_q l s ps m e
  act_q (has_map_fields l s ss) m e = has_fields_q l s ss m e
  act_q (jump l) m e = jumps_q l m e
  act_q (test t l s) m e = read_q m s _ λ u. or_jumps_q _ l m e
  act_q (compares t l r s) m e = compare_q t l r s m e
  act_q (test_arity l s n) m e = read_q m s _ λ t. tuple_q t _ λ ts. or_jumps_q _ l m e
  act_q (is_tagged_tuple l s n b) m e = read_q m s _ λ t. or_jumps_q _ l m e
  act_q (select_val s l ws) m e = select_q s l ws m e
  act_q (select_tuple_arity s l ws) m e = read_q m s _ λ t. jumps_q _ m e
  act_q (bif b o ss d) m e = bif_q b o ss d m e
  act_q (gc_bif b o n ss d) m e = gc_bif_q b o n ss d m e
  act_q (call n l) m e = call_q n l m e
  act_q (call_only n l) m e = call_only_q n l m e
  act_q (call_last n l k) m e = drops_q k m _ e λ u f. call_only_q n l u f
  act_q (call_ext n z) m e = call_ext_q n z m e
  act_q (call_ext_only n z) m e = call_ext_only_q n z m e
  act_q (call_ext_last n z k) m e = drops_q k m _ e λ u f. call_ext_only_q n z u f
  act_q (call_fun n) m e = call_fun_q n m e
  act_q (apply n) m e = apply_q n m alone e alone_q
  act_q (apply_last n k) m e = drops_q k m _ e λ u f. apply_q n u (returns a) f returns_here
  act_q send m e = send_q m e
  act_q build_stacktrace m e = stacktrace_q m e
  act_q (raise s r) m e = read_q m s _ λ t. read_q m r _ λ u. again_q t u m e
  act_q (badmatch s) m e = fails_q _ s m e
  act_q (case_end s) m e = fails_q _ s m e
  act_q (try_case_end s) m e = fails_q _ s m e
  act_q if_end m e = raises_q T.error _ m e
  act_q (try n l) m e = do_tag_q a_try n l m e
  act_q (catch n l) m e = do_tag_q a_catch n l m e
  act_q (try_end n) m e = ends_tag_q n m _ e λ j u f. here u f
  act_q (try_case n) m e = try_case_q n m e
  act_q (catch_end n) m e = catch_end_q n m e
  act_q (loop_rec l n) m e = loop_rec_q l n m e
  act_q remove_message m e = window_q m _ λ w. qtaken w.serial _ (inbox m) ([], sym e) refl
  act_q (loop_rec_end l) m e = window_q m _ λ w. jumps_q l (record m { save = suc m.save; window = None; xs = [] }) e
  act_q (wait l) m e = outside_q m _ (waits_for_q l forever (record m { xs = [] }) e)
  act_q (wait_timeout l s) m e = outside_q m _ (read_q m s _ λ t. waits_until_q l _ (record m { xs = [] }) e)
  act_q timeout m e = outside_q m _ (here _ e)
  act_q (recv_marker_reserve d) m e = write_q m d _ _ e here
  act_q (recv_marker_bind d s) m e = reg_q m d _ λ c. marker_q c _ λ n. read_q m s _ λ t. reference_q t _ λ r. here _ e
  act_q (recv_marker_use s) m e = outside_q m _ (read_q m s _ λ t. reference_q t _ λ r. here _ e)
  act_q (recv_marker_clear s) m e = read_q m s _ λ t. here _ e
  act_q (bs_start_match4 o n s d) m e = collects_q n m _ e λ u f. cell_q u s _ λ c. starts_q o c d u f
  act_q (bs_get_integer2 l n c s w z d) m e = get_integer_q l n c s w z d m e
  act_q (bs_get_binary2 l n c s w z d) m e = collects_q n m
      (λ u. takes_segment a (shape true s w z) l c s u λ bs v. write_sub v d bs) e λ u f. takes_segment_q
      (shape true s w z) l c s u _ f λ bs v g. write_sub_q v d bs g
  act_q (bs_skip_bits2 l c s w z) m e = takes_segment_q (shape true s w z) l c s m (λ bs u. goes u) e λ bs u f. here u f
  act_q (bs_test_tail2 l c n) m e = context_q m c _ λ j w. or_jumps_q _ l m e
  act_q (bs_test_unit l c n) m e = context_q m c _ λ j w. or_jumps_q _ l m e
  act_q (bs_get_tail c d n) m e = collects_q n m (λ u. context_in u c λ j w. write_sub u d (rest_of w)) e λ u f.
      context_q u c _ λ j w. write_sub_q u d (rest_of w) f
  act_q (bs_get_position c d n) m e = collects_q n m
      (λ u. context_in u c λ j w. write u d (position w.at) goes) e λ u f. context_q u c _ λ j w. write_q u d
      (position w.at) _ f here
  act_q (bs_set_position c r) m e = context_q m c _ λ j w. reg_q m r _ λ v. position_q v _ λ n. here _ e
  act_q (bs_create_bin o n w d gs) m e = collects_q n m _ e λ u f. segments_q u gs _ λ b. creates_q b o d u f

  -- the whole step
  pub step_q : (m : Machine) → At m → Q (step a m) (inbox m)
  unfolding step
  step_q m e = at_q (past_labels a m.code)
    where
      at_q : (is : List Insn) → Q (step_at a is m) (inbox m)
      at_q [] = qbad
      at_q (i ∷ is) = if_needs _ _ (act_q i (record m { code = is }) e)
