-- Registers and stack frames keep track of the handlers that are open.
use Rattle.std.proofs.Common.{◌≡◌, ◌≤◌, ◌<◌, ℕ, zero, suc, ◌+◌, ◌-◌, List, [], ◌∷◌, length, take, drop, replicate, set, Bool, true, false, not, ◌&&◌, Option, Some, None, refl, sym, ap, ◌∙◌, arith, eqb, ltb, leb, leb-true, ltb-true, slice_get, if◌then◌else◌}
use Rattle.step_machine.specs.Frames.{is_tag, lowest_tag, no_tags, with_register, in_frame}
use Rattle.ssa_form.specs.Ssa.{FrameAction, allocate, deallocate, kill, trim}
use Rattle.ssa_form.specs.Storage.{Held, Handler, Leaving, calls, ends_body, always_raises}
use Rattle.ssa_form.specs.Spots.{Spot, x_reg, y_slot, Spots, spot_of, slot_count, Cell, empty, killed, own, tag, tag_in, is_tag_of}
use Rattle.ssa_form.specs.SsaRun.{first_handler, without_first, only_if}
use Rattle.ssa_form.specs.PlacedRun as Placed
use Rattle.ssa_form.specs.PlacedRun.{Registers, in_registers}
use Rattle.ssa_form.specs.FramedRun as Framed
use Rattle.ssa_form.specs.FramedRun.{Stack, in_stack, size_at, frame_is, none_empty}
use Rattle.ssa_form.proofs.OpenHandlers.{Tracks, some_is, none_is}

-- what stands behind a condition
pub only_some : {A : Type 0} (b : Bool) (a u : A) → only_if b a ≡ Some u → (b ≡ true) × (a ≡ u)
only_some true a u e = (refl, some_is a u e)
only_some false a u e = absurd (none_is u e)

if_some_else : {A : Type 0} (b : Bool) (x : Option A) (u : A) → (if b then x else None) ≡ Some u
    → (b ≡ true) × (x ≡ Some u)
if_some_else true x u e = (refl, e)
if_some_else false x u e = absurd (none_is u e)

-- Registers and slots without frames.

module _ (spots : Spots) where
  registers_write : (w : Bool) (c : Cell) (p : Option Spot) (st u : Registers) → Placed.write_in spots w c p st ≡ Some u
      → u.handlers ≡ st.handlers
  registers_write w c None st u e = absurd (none_is u e)
  registers_write w c (Some (x_reg n)) st u e = ap (λ z. z.handlers) (sym (some_is _ u e))
  registers_write true c (Some (y_slot n)) st u e = absurd (none_is u e)
  registers_write false c (Some (y_slot n)) st u e = ap (λ z. z.handlers) (sym (only_some _ _ u e).1)

  registers_leave : (l : Leaving) (st u : Registers) → Placed.registers_leave spots l st ≡ Some u
      → u.handlers ≡ st.handlers
  registers_leave calls st u e = ap (λ z. z.handlers) (sym (some_is st u e))
  registers_leave ends_body st u e = ap (λ z. z.handlers) (sym (only_some _ st u e).1)
  registers_leave always_raises st u e = ap (λ z. z.handlers) (sym (some_is st u e))

  registers_open : (h : Handler) (p : Option Spot) (st u : Registers) → Placed.open_in spots h p st ≡ Some u
      → u.handlers ≡ h ∷ st.handlers
  registers_open h None st u e = absurd (none_is u e)
  registers_open h (Some (x_reg n)) st u e = absurd (none_is u e)
  registers_open h (Some (y_slot n)) st u e = ap (λ z. z.handlers) (sym (only_some _ _ u e).1)

  rest_closes : (v : ℕ) (hs : List Handler) (st u : Registers) → Placed.with_rest spots (without_first v hs) st ≡ Some u
      → (h : Handler) × (hs ≡ h ∷ u.handlers)
  rest_closes v [] st u e = absurd (none_is u e)
  rest_closes v (h ∷ hs) st u e = closing (eqb h.tag v) e
    where
      closing : (b : Bool) → Placed.with_rest spots (if b then Some hs else None) st ≡ Some u
          → (k : Handler) × (h ∷ hs ≡ k ∷ u.handlers)
      closing true e = (h, ap (λ z. h ∷ z.handlers) (some_is _ u e))
      closing false e = absurd (none_is u e)

  registers_close : (v : ℕ) (p : Option Spot) (st u : Registers) → Placed.close_in spots v p st ≡ Some u
      → (h : Handler) × (st.handlers ≡ h ∷ u.handlers)
  registers_close v None st u e = absurd (none_is u e)
  registers_close v (Some (x_reg n)) st u e = absurd (none_is u e)
  registers_close v (Some (y_slot n)) st u e =
      rest_closes v st.handlers (record st { ys = with_register n empty st.ys }) u
      (if_some_else (is_tag_of v (st.ys n)) _ u e).1

  pub registers_track : Tracks (in_registers spots) (λ st. st.handlers)
  registers_track = record {
    first = λ st. refl;
    writes = λ w v h st u e. registers_write w (own v h) (spot_of spots v) st u e;
    collects = λ st u e. ap (λ z. z.handlers) (sym (some_is st u e));
    leaves = registers_leave;
    arrives = λ n st u e. ap (λ z. z.handlers) (sym (some_is st u e));
    forgets = λ st. refl;
    opens = λ h st u e. registers_open h (spot_of spots h.tag) st u e;
    closes = λ v st u e. registers_close v (spot_of spots v) st u e;
    acts = λ w a st u e. absurd (none_is u e);
  }

  pub params_keep : (vs : List ℕ) (hs : List Held) (st u : Registers) → Placed.params_in spots vs hs st ≡ Some u
      → u.handlers ≡ st.handlers
  params_keep [] [] st u e = ap (λ z. z.handlers) (sym (some_is st u e))
  params_keep (v ∷ vs) (h ∷ hs) st u e = written (Placed.write_in spots false (own v h) (spot_of spots v) st)
      (λ z i. registers_write false (own v h) (spot_of spots v) st z i) (λ z i. params_keep vs hs z u i) e
    where
      written : (x : Option Registers) → ((z : Registers) → x ≡ Some z → z.handlers ≡ st.handlers)
          → ((z : Registers) → Placed.params_in spots vs hs z ≡ Some u → u.handlers ≡ z.handlers)
          → Placed.and_then x (Placed.params_in spots vs hs) ≡ Some u → u.handlers ≡ st.handlers
      written None k i e = absurd (none_is u e)
      written (Some z) k i e = i z e ∙ k z refl
  params_keep [] (h ∷ hs) st u e = absurd (none_is u e)
  params_keep (v ∷ vs) [] st u e = absurd (none_is u e)

-- Frames: the tags in the slots, the lowest slot first.

abbrev pub tags : List Cell → List Handler
tags [] = []
tags (tag v b ∷ cs) = record { tag = v; landing = b } ∷ tags cs
tags (c ∷ cs) = tags cs

abbrev pub frame_tags : Option (List Cell) → List Handler
frame_tags None = []
frame_tags (Some ys) = tags ys

tags_untagged : (c : Cell) (cs : List Cell) → is_tag tag_in c ≡ false → tags (c ∷ cs) ≡ tags cs
tags_untagged (tag v b) cs e = absurd cc
tags_untagged empty cs e = refl
tags_untagged killed cs e = refl
tags_untagged (own v h) cs e = refl

tags_behind : (c : Cell) (cs ds : List Cell) → tags cs ≡ tags ds → tags (c ∷ cs) ≡ tags (c ∷ ds)
tags_behind (tag v b) cs ds e = ap (λ hs. record { tag = v; landing = b } ∷ hs) e
tags_behind empty cs ds e = e
tags_behind killed cs ds e = e
tags_behind (own v h) cs ds e = e

lowest_first : (ys : List Cell) → lowest_tag tag_in ys ≡ first_handler (tags ys)
lowest_first [] = refl
lowest_first (tag v b ∷ cs) = refl
lowest_first (empty ∷ cs) = lowest_first cs
lowest_first (killed ∷ cs) = lowest_first cs
lowest_first (own v h ∷ cs) = lowest_first cs

not_true : (b : Bool) → not b ≡ true → b ≡ false
not_true true e = absurd cc
not_true false e = refl

both_true : (a b : Bool) → (a && b) ≡ true → (a ≡ true) × (b ≡ true)
both_true true b e = (refl, e)
both_true false b e = absurd cc

none_tagged : (cs : List Cell) → no_tags tag_in cs ≡ true → tags cs ≡ []
none_tagged [] e = refl
none_tagged (c ∷ cs) e = let p : (not (is_tag tag_in c) ≡ true) × (no_tags tag_in cs ≡ true) =
    both_true _ _ e in tags_untagged c cs (not_true _ p.0) ∙ none_tagged cs p.1

replicated : (n : ℕ) → tags (replicate n empty) ≡ []
replicated zero = refl
replicated (suc n) = replicated n

dropped_tags : (n : ℕ) (cs : List Cell) → no_tags tag_in (take n cs) ≡ true → tags (drop n cs) ≡ tags cs
dropped_tags zero cs e = refl
dropped_tags (suc n) [] e = refl
dropped_tags (suc n) (c ∷ cs) e = let p : (not (is_tag tag_in c) ≡ true) × (no_tags tag_in (take n cs) ≡ true) =
    both_true _ _ e in dropped_tags n cs p.1 ∙ sym (tags_untagged c cs (not_true _ p.0))

module _ (spots : Spots) (sizes : List (ℕ × ℕ)) where
  put_same : (ys : List Cell) (i : ℕ) (c : Cell) → is_tag tag_in c ≡ false
      → not (is_tag tag_in (Framed.or_empty spots sizes (slice_get ys i))) ≡ true → tags (set ys i c) ≡ tags ys
  put_same [] i c e f = refl
  put_same (d ∷ ds) zero c e f = tags_untagged c ds e ∙ sym (tags_untagged d ds (not_true _ f))
  put_same (d ∷ ds) (suc i) c e f = tags_behind d (set ds i c) ds (put_same ds i c e f)

  tag_put : (ys : List Cell) (i : ℕ) (h : Handler) → i < length ys → no_tags tag_in (take (suc i) ys) ≡ true
      → tags (set ys i (tag h.tag h.landing)) ≡ h ∷ tags ys
  tag_put [] i h l e = absurd (omega (arith, l))
  tag_put (d ∷ ds) zero h l e = ap (λ z. h ∷ z) (sym (tags_untagged d ds (not_true _ (both_true _ _ e).0)))
  tag_put (d ∷ ds) (suc i) h l e =
      let p : (not (is_tag tag_in d) ≡ true) × (no_tags tag_in (take (suc i) ds) ≡ true) = both_true _ _ e in
      tags_untagged d (set ds i (tag h.tag h.landing)) (not_true _ p.0) ∙ tag_put ds i h (omega (arith, l)) p.1
      ∙ ap (λ z. h ∷ z) (sym (tags_untagged d ds (not_true _ p.0)))

  tag_taken : (ys : List Cell) (i v : ℕ) → is_tag_of v (Framed.or_empty spots sizes (slice_get ys i)) ≡ true
      → no_tags tag_in (take i ys) ≡ true → (h : Handler) × (tags ys ≡ h ∷ tags (set ys i killed))
  tag_taken [] i v e f = absurd cc
  tag_taken (tag w b ∷ ds) zero v e f = (record { tag = w; landing = b }, refl)
  tag_taken (empty ∷ ds) zero v e f = absurd cc
  tag_taken (killed ∷ ds) zero v e f = absurd cc
  tag_taken (own w h ∷ ds) zero v e f = absurd cc
  tag_taken (d ∷ ds) (suc i) v e f =
      let p : (not (is_tag tag_in d) ≡ true) × (no_tags tag_in (take i ds) ≡ true) = both_true _ _ f in
      let r : (h : Handler) × (tags ds ≡ h ∷ tags (set ds i killed)) = tag_taken ds i v e p.1 in (
        r.0,
        tags_untagged d ds (not_true _ p.0) ∙ r.1
            ∙ ap (λ z. r.0 ∷ z) (sym (tags_untagged d (set ds i killed) (not_true _ p.0))),
      )

  index_within : (n i : ℕ) (ys : List Cell) → Framed.index_of spots sizes n ys ≡ Some i → i < length ys
  index_within n i ys e = let p : ((leb (slot_count spots) (n + length ys) && ltb n (slot_count spots)) ≡ true)
      × (Some (n + length ys - slot_count spots) ≡ Some i) = if_some_else _ _ i e in
      let q : (leb (slot_count spots) (n + length ys) ≡ true) × (ltb n (slot_count spots) ≡ true) = both_true _ _ p.0 in
      let j : n + length ys - slot_count spots ≡ i = some_is _ i p.1 in
      let k : slot_count spots ≤ n + length ys = leb-true _ _ q.0 in
      let l : n < slot_count spots = ltb-true _ _ q.1 in
      omega (arith, j, k, l)

  abbrev pub open_tags : Stack → List Handler
  open_tags st = frame_tags st.frame

  with_kept : (st u : Stack) (x : Option (List Cell)) (hs : List Handler)
      → ((ys : List Cell) → x ≡ Some ys → tags ys ≡ hs) → Framed.with_frame st x ≡ Some u → open_tags u ≡ hs
  with_kept st u None hs h e = absurd (none_is u e)
  with_kept st u (Some ys) hs h e = ap open_tags (sym (some_is _ u e)) ∙ h ys refl

  slot_put : (i : Option ℕ) (c : Cell) (ys zs : List Cell) → is_tag tag_in c ≡ false
      → Framed.put_slot spots sizes i c ys ≡ Some zs → tags zs ≡ tags ys
  slot_put None c ys zs e f = absurd (none_is zs f)
  slot_put (Some i) c ys zs e f = let p : (not (is_tag tag_in (Framed.or_empty spots sizes (slice_get ys i))) ≡ true)
      × (set ys i c ≡ zs) = only_some _ _ zs f in ap tags (sym p.1) ∙ put_same ys i c e p.0

  slot_written : (f : Option (List Cell)) (n : ℕ) (c : Cell) (st u : Stack) → f ≡ st.frame → is_tag tag_in c ≡ false
      → in_frame None f (λ ys. Framed.with_frame st
      (Framed.put_slot spots sizes (Framed.index_of spots sizes n ys) c ys)) ≡ Some u → open_tags u ≡ open_tags st
  slot_written None n c st u p e h = absurd (none_is u h)
  slot_written (Some ys) n c st u p e h = with_kept st u _ (open_tags st)
      (λ zs q. slot_put (Framed.index_of spots sizes n ys) c ys zs e q ∙ ap frame_tags p) h

  stack_write : (w : Bool) (c : Cell) (p : Option Spot) (st u : Stack) → is_tag tag_in c ≡ false
      → Framed.write_in spots sizes w c p st ≡ Some u → open_tags u ≡ open_tags st
  stack_write w c None st u t e = absurd (none_is u e)
  stack_write w c (Some (x_reg n)) st u t e = ap open_tags (sym (some_is _ u e))
  stack_write true c (Some (y_slot n)) st u t e = absurd (none_is u e)
  stack_write false c (Some (y_slot n)) st u t e = slot_written st.frame n c st u refl t e

  in_any_frame : (f : Option (List Cell)) (st u : Stack) → in_frame None f (λ ys. Some st) ≡ Some u
      → open_tags u ≡ open_tags st
  in_any_frame None st u e = absurd (none_is u e)
  in_any_frame (Some ys) st u e = ap open_tags (sym (some_is st u e))

  frame_goes : (f : Option (List Cell)) (st u : Stack) → f ≡ st.frame
      → elim f [ None ↦ Some st | Some ys ↦ only_if (no_tags tag_in ys) (record st { frame = None }) ] ≡ Some u
      → open_tags u ≡ open_tags st
  frame_goes None st u p e = ap open_tags (sym (some_is st u e))
  frame_goes (Some ys) st u p e = let q : (no_tags tag_in ys ≡ true) × (record st { frame = None } ≡ u) =
      only_some _ _ u e in
      ap open_tags (sym q.1) ∙ sym (none_tagged ys q.0) ∙ ap frame_tags p

  stack_leave : (l : Leaving) (st u : Stack) → Framed.stack_leaves spots sizes l st ≡ Some u
      → open_tags u ≡ open_tags st
  stack_leave calls st u e = in_any_frame st.frame st u e
  stack_leave ends_body st u e = frame_goes st.frame st u refl e
  stack_leave always_raises st u e = ap open_tags (sym (some_is st u e))

  slot_opened : (h : Handler) (n : ℕ) (ys zs : List Cell)
      → Framed.open_slot spots sizes h (Framed.index_of spots sizes n ys) ys ≡ Some zs → tags zs ≡ h ∷ tags ys
  slot_opened h n ys zs e = at_index (Framed.index_of spots sizes n ys) (λ i q. index_within n i ys q) e
    where
      at_index : (x : Option ℕ) → ((i : ℕ) → x ≡ Some i → i < length ys) → Framed.open_slot spots sizes h x ys ≡ Some zs
          → tags zs ≡ h ∷ tags ys
      at_index None l e = absurd (none_is zs e)
      at_index (Some i) l e = let p : (no_tags tag_in (take (suc i) ys) ≡ true)
          × (set ys i (tag h.tag h.landing) ≡ zs) =
          only_some _ _ zs e in ap tags (sym p.1) ∙ tag_put ys i h (l i refl) p.0

  stack_open : (h : Handler) (p : Option Spot) (st u : Stack) → Framed.open_in spots sizes h p st ≡ Some u
      → open_tags u ≡ h ∷ open_tags st
  stack_open h None st u e = absurd (none_is u e)
  stack_open h (Some (x_reg n)) st u e = absurd (none_is u e)
  stack_open h (Some (y_slot n)) st u e = in_slots st.frame refl e
    where
      in_slots : (f : Option (List Cell)) → f ≡ st.frame
          → in_frame None f (λ ys. Framed.with_frame st
          (Framed.open_slot spots sizes h (Framed.index_of spots sizes n ys) ys)) ≡ Some u
          → open_tags u ≡ h ∷ open_tags st
      in_slots None p e = absurd (none_is u e)
      in_slots (Some ys) p e =
          with_kept st u _ (h ∷ open_tags st) (λ zs q. slot_opened h n ys zs q ∙ ap (λ f. h ∷ frame_tags f) p) e

  slot_closed : (v : ℕ) (x : Option ℕ) (ys zs : List Cell) → Framed.close_slot spots sizes v x ys ≡ Some zs
      → (h : Handler) × (tags ys ≡ h ∷ tags zs)
  slot_closed v None ys zs e = absurd (none_is zs e)
  slot_closed v (Some i) ys zs e =
      let p : ((is_tag_of v (Framed.or_empty spots sizes (slice_get ys i)) && no_tags tag_in (take i ys)) ≡ true)
      × (set ys i killed ≡ zs) = only_some _ _ zs e in
      let q : (is_tag_of v (Framed.or_empty spots sizes (slice_get ys i)) ≡ true)
      × (no_tags tag_in (take i ys) ≡ true) = both_true _ _ p.0 in
      let r : (h : Handler) × (tags ys ≡ h ∷ tags (set ys i killed)) = tag_taken ys i v q.0 q.1 in
      (r.0, r.1 ∙ ap (λ z. r.0 ∷ tags z) p.1)

  stack_close : (v : ℕ) (p : Option Spot) (st u : Stack) → Framed.close_in spots sizes v p st ≡ Some u
      → (h : Handler) × (open_tags st ≡ h ∷ open_tags u)
  stack_close v None st u e = absurd (none_is u e)
  stack_close v (Some (x_reg n)) st u e = absurd (none_is u e)
  stack_close v (Some (y_slot n)) st u e = in_slots st.frame refl e
    where
      in_slots : (f : Option (List Cell)) → f ≡ st.frame
          → in_frame None f (λ ys. Framed.with_frame st
          (Framed.close_slot spots sizes v (Framed.index_of spots sizes n ys) ys)) ≡ Some u
          → (h : Handler) × (open_tags st ≡ h ∷ open_tags u)
      in_slots None p e = absurd (none_is u e)
      in_slots (Some ys) p e = with_slots (Framed.close_slot spots sizes v (Framed.index_of spots sizes n ys) ys)
          (λ zs q. slot_closed v (Framed.index_of spots sizes n ys) ys zs q) e
        where
          with_slots : (x : Option (List Cell))
              → ((zs : List Cell) → x ≡ Some zs → (h : Handler) × (tags ys ≡ h ∷ tags zs))
              → Framed.with_frame st x ≡ Some u → (h : Handler) × (open_tags st ≡ h ∷ open_tags u)
          with_slots None k e = absurd (none_is u e)
          with_slots (Some zs) k e = let r : (h : Handler) × (tags ys ≡ h ∷ tags zs) =
              k zs refl in (r.0, ap frame_tags (sym p) ∙ r.1 ∙ ap (λ z. r.0 ∷ open_tags z) (some_is _ u e))

  stack_collect : (f : Option (List Cell)) (st u : Stack)
      → elim f [ None ↦ Some st | Some ys ↦ only_if (none_empty ys) st ] ≡ Some u → open_tags u ≡ open_tags st
  stack_collect None st u e = ap open_tags (sym (some_is st u e))
  stack_collect (Some ys) st u e = ap open_tags (sym (only_some _ st u e).1)

  allocated : (f : Option (List Cell)) (n : ℕ) (st u : Stack) → f ≡ st.frame
      → elim f [ None ↦ Some (record st { frame = Some (replicate n empty) }) | Some ys ↦ None ] ≡ Some u
      → open_tags u ≡ open_tags st
  allocated None n st u p e = ap open_tags (sym (some_is _ u e)) ∙ replicated n ∙ ap frame_tags p
  allocated (Some ys) n st u p e = absurd (none_is u e)

  deallocated : (f : Option (List Cell)) (n : ℕ) (st u : Stack) → f ≡ st.frame
      → in_frame None f (λ ys. only_if (eqb (length ys) n && no_tags tag_in ys) (record st { frame = None }))
      ≡ Some u
      → open_tags u ≡ open_tags st
  deallocated None n st u p e = absurd (none_is u e)
  deallocated (Some ys) n st u p e = let q : ((eqb (length ys) n && no_tags tag_in ys) ≡ true)
      × (record st { frame = None } ≡ u) = only_some _ _ u e in
      ap open_tags (sym q.1) ∙ sym (none_tagged ys (both_true _ _ q.0).1) ∙ ap frame_tags p

  trimmed : (f : Option (List Cell)) (n : ℕ) (st u : Stack) → f ≡ st.frame
      → in_frame None f (λ ys. only_if (leb n (length ys) && no_tags tag_in (take n ys))
      (record st { frame = Some (drop n ys) })) ≡ Some u → open_tags u ≡ open_tags st
  trimmed None n st u p e = absurd (none_is u e)
  trimmed (Some ys) n st u p e = let q : ((leb n (length ys) && no_tags tag_in (take n ys)) ≡ true)
      × (record st { frame = Some (drop n ys) } ≡ u) = only_some _ _ u e in
      ap open_tags (sym q.1) ∙ dropped_tags n ys (both_true _ _ q.0).1 ∙ ap frame_tags p

  stack_act : (a : FrameAction) (st u : Stack) → Framed.acts_on spots sizes a st ≡ Some u → open_tags u ≡ open_tags st
  stack_act (allocate n) st u e = allocated st.frame n st u refl (if_some_else (eqb n (slot_count spots)) _ u e).1
  stack_act (deallocate n) st u e = deallocated st.frame n st u refl e
  stack_act (kill n) st u e = slot_written st.frame n killed st u refl refl e
  stack_act (trim n) st u e = trimmed st.frame n st u refl e

  acts_in : (w : Bool) (a : FrameAction) (st u : Stack) → (if w then None else Framed.acts_on spots sizes a st) ≡ Some u
      → open_tags u ≡ open_tags st
  acts_in true a st u e = absurd (none_is u e)
  acts_in false a st u e = stack_act a st u e

  lowest_handler : (f : Option (List Cell)) → elim f [ None ↦ None | Some ys ↦ lowest_tag tag_in ys ]
      ≡ first_handler (frame_tags f)
  lowest_handler None = refl
  lowest_handler (Some ys) = lowest_first ys

  pub stack_track : Tracks (in_stack spots sizes) open_tags
  stack_track = record {
    first = λ st. lowest_handler st.frame;
    writes = λ w v h st u e. stack_write w (own v h) (spot_of spots v) st u refl e;
    collects = λ st u e. stack_collect st.frame st u e;
    leaves = stack_leave;
    arrives = λ n st u e. ap open_tags (sym (only_some (frame_is (size_at sizes n) st.frame) st u e).1);
    forgets = λ st. refl;
    opens = λ h st u e. stack_open h (spot_of spots h.tag) st u e;
    closes = λ v st u e. stack_close v (spot_of spots v) st u e;
    acts = acts_in;
  }

  pub stack_params_keep : (vs : List ℕ) (hs : List Held) (st u : Stack) → Framed.params_in spots sizes vs hs st ≡ Some u
      → open_tags u ≡ open_tags st
  stack_params_keep [] [] st u e = ap open_tags (sym (some_is st u e))
  stack_params_keep (v ∷ vs) (h ∷ hs) st u e = written
      (Framed.write_in spots sizes false (own v h) (spot_of spots v) st)
      (λ z i. stack_write false (own v h) (spot_of spots v) st z refl i) (λ z i. stack_params_keep vs hs z u i) e
    where
      written : (x : Option Stack) → ((z : Stack) → x ≡ Some z → open_tags z ≡ open_tags st)
          → ((z : Stack) → Framed.params_in spots sizes vs hs z ≡ Some u → open_tags u ≡ open_tags z)
          → Placed.and_then x (Framed.params_in spots sizes vs hs) ≡ Some u → open_tags u ≡ open_tags st
      written None k i e = absurd (none_is u e)
      written (Some z) k i e = i z e ∙ k z refl
  stack_params_keep [] (h ∷ hs) st u e = absurd (none_is u e)
  stack_params_keep (v ∷ vs) [] st u e = absurd (none_is u e)

pub first_untagged : (x : Option ℕ) → frame_tags (Framed.first_frame x) ≡ []
first_untagged None = refl
first_untagged (Some n) = replicated n
