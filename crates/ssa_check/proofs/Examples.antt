-- The certificate of a diamond, and why faulty bodies have none.
use Rattle.std.proofs.Common.{◌≡◌, ◌≢◌, ◌<◌, ℕ, zero, suc, List, [], ◌∷◌, ◌++◌, Bool, true, false, eqb, if◌then◌else◌, Some, None, Contains, refl, sym, ap, ◌∙◌, subst, arith, IsTrue, IsFalse}
use Rattle.std.proofs.lemmas.Bool.{eqb-true}
use Rattle.ssa_form.specs.Ssa.{var, try_start, peek, take_message, trace, Set, Last, br, ret, set, block_at}
use Rattle.ssa_form.specs.Storage.{Handler, Mode, plain, tests}
use Rattle.ssa_form.specs.SetFacts.{all_among, none_among, breaks_cycle}
use Rattle.ssa_form.specs.Flow.{Point, point, set_at, last_at, phis_at, phi_vars, phi_reads, targets, Effect, setting, along_edge, Step, passes, leads, succeeds, fails, raises, Way, begins, goes}
use Rattle.ssa_form.specs.Liveness.{end_vars, used_at, values_at, lands_first, used, live, Across, over}
use Rattle.ssa_form.specs.ReceiveWindow.{Look, message}
use Rattle.ssa_form.specs.WellFormed.{block_has, tests_nothing, tags_in, have_edges}
use Rattle.ssa_check.specs.Certificate.{Notes, FitsStep, FitsEdge, FitsPoint, Certificate}
use Rattle.ssa_check.specs.Examples as E
use Rattle.ssa_check.specs.Examples.{diamond, set_on_one_way, message_kept, never_closes, goes_to}
use Rattle.ssa_check.proofs.Certified.{well_formed}

-- A way that does not set variable 1.

is_first : {A : Type 0} (x : A) (xs : List A) → Contains (x ∷ xs) x
is_first x xs = (0, omega arith, refl)

is_second : {A : Type 0} (x y : A) (xs : List A) → Contains (x ∷ y ∷ xs) y
is_second x y xs = (1, omega arith, refl)

around_block : Way set_on_one_way (point 2 0) (0 ∷ []) []
around_block = goes (point 0 0) (point 2 0) (0 ∷ []) [] [] (along_edge set_on_one_way 0 2 []) begins
    (leads (point 0 0) [] (br (var 0) 1 2) 2 refl (is_second 1 2 []))

one_way_refused : Certificate set_on_one_way → ⊥
one_way_refused c = let e : IsTrue false =
    (well_formed set_on_one_way refl c).available (point 2 0) (0 ∷ []) [] around_block in cc

-- A handler that stays open.

abbrev the_handler : Handler
the_handler = record { tag = 1; landing = 2 }

to_its_end : Way never_closes (point 1 0) (1 ∷ 0 ∷ []) (the_handler ∷ [])
to_its_end = goes (point 0 0) (point 1 0) (0 ∷ []) [] (the_handler ∷ []) (along_edge never_closes 0 1 (1 ∷ [])) begins
    (succeeds (point 0 0) [] (set (Some 1) try_start []) 1 1 2 refl refl)

open_refused : Certificate never_closes → ⊥
open_refused c = let e : the_handler ∷ [] ≡ [] = (well_formed never_closes refl c).ends (point 1 0) (the_handler ∷ [])
    (ret (var 0)) (1 ∷ 0 ∷ [], to_its_end) refl refl in cc

-- A message behind what unsets registers.

abbrev the_look : Look message_kept 1
the_look = record {
  at = 0;
  set = set (Some 1) (peek 0) [];
  var = 1;
  none = 3;
  found = 2;
  is_there = refl;
  looks = refl;
  leads = refl;
}

to_its_look : Way message_kept (point 1 0) (0 ∷ []) []
to_its_look = goes (point 0 0) (point 1 0) (0 ∷ []) [] [] (along_edge message_kept 0 1 []) begins
    (leads (point 0 0) [] (goes_to 1) 1 refl (is_first 1 (1 ∷ [])))

to_its_message : Way message_kept (point 2 0) (1 ∷ 0 ∷ []) []
to_its_message = goes (point 1 0) (point 2 0) (0 ∷ []) [] [] (along_edge message_kept 1 2 (1 ∷ [])) to_its_look
    (succeeds (point 1 0) [] (set (Some 1) (peek 0) []) 1 2 3 refl refl)

past_its_window : Way message_kept (point 2 1) (1 ∷ 0 ∷ []) []
past_its_window = goes (point 2 0) (point 2 1) (1 ∷ 0 ∷ []) [] [] (setting []) to_its_message
    (passes (point 2 0) [] (set None take_message []) plain refl refl)

past_the_call : Step message_kept (point 2 1) [] (point 2 2) [] (setting [])
past_the_call = passes (point 2 1) [] (set None trace []) plain refl refl

message_across : Across message_kept 1
message_across = over (point 2 1) (set None trace []) plain refl refl
    (live (point 2 1) (point 2 2) [] [] (setting []) (1 ∷ 0 ∷ [], past_its_window) past_the_call refl refl
    (used (point 2 2) [] refl))

kept_refused : Certificate message_kept → ⊥
kept_refused c =
    ((well_formed message_kept refl c).windows 1 the_look).registers 1 (message the_look refl) message_across

-- The diamond: its four edges fit, one by one.

abbrev available_at : ℕ → List ℕ
available_at (suc (suc (suc zero))) = 1 ∷ 0 ∷ []
available_at n = 0 ∷ []

abbrev to_end : ℕ → ℕ
to_end zero = 2
to_end (suc zero) = 1
to_end (suc (suc zero)) = 1
to_end n = 0

abbrev notes : Notes
notes = record {
  available = λ p. available_at p.block;
  handlers = λ p. [];
  inside = λ p. None;
  set_inside = λ w. [];
  rank = to_end;
  level = λ n. 0;
}

none_is : {A : Type 0} (x : A) → None ≡ Some x → ⊥
none_is x e = cc

no_set : (n k : ℕ) (x : Set × Mode) → set_at diamond (point n k) ≡ Some x → ⊥
no_set zero k x e = none_is x e
no_set (suc zero) k x e = none_is x e
no_set (suc (suc zero)) k x e = none_is x e
no_set (suc (suc (suc zero))) k x e = none_is x e
no_set (suc (suc (suc (suc n)))) k x e = none_is x e

record Fits (p q : Point) (is' : List Handler) (e : Effect) : Type 0 where
  pub step : FitsStep diamond notes p q is' e
  pub edge : FitsEdge diamond notes p q.block is'

abbrev Along : ℕ → ℕ → List Handler → Type 0
Along n m hs = Fits (point n 0) (point m 0) hs (along_edge diamond n m [])

-- what is computed of an edge
record Edge (n m : ℕ) : Type 0 where
  pub kept : IsTrue (all_among (available_at m) ((phi_vars (phis_at diamond m) ++ []) ++ available_at n))
  pub reads : IsTrue (all_among (phi_reads (phis_at diamond m) n) ([] ++ available_at n))
  pub values : IsTrue (none_among (phi_reads (phis_at diamond m) n) (tags_in diamond.blocks))
  pub tested : IsTrue (tests_nothing (last_at diamond (point m 0)))
  pub there : block_at diamond m ≢ None
  pub phis : IsTrue (have_edges (phis_at diamond m) n)
  pub nears : to_end m < to_end n
  pub breaks : IsFalse (block_has breaks_cycle (block_at diamond n))
  pub lands : IsFalse (lands_first (set_at diamond (point m 0)))

clashes : (x : Bool) → IsTrue x → IsFalse x → ⊥
clashes true e f = cc
clashes false e f = cc

along : (n m : ℕ) (hs : List Handler) → hs ≡ [] → Edge n m → Along n m hs
along n m hs h g = record {
  step = record {
    handlers = h;
    kept = g.kept;
    reads = g.reads;
    values = g.values;
    tested = g.tested;
    comes = λ w e. absurd (none_is w e);
    stays = λ w e f. absurd (none_is w e);
    short = λ x o w v e f i. absurd (clashes false i refl);
  };
  edge = record {
    there = g.there;
    phis = g.phis;
    nears = λ f. g.nears;
    sinks = omega arith;
    breaks = λ f. absurd (clashes _ f g.breaks);
    lands = λ f. absurd (clashes _ f g.lands);
  };
}

some_not : {A : Type 0} (x : A) → Some x ≡ None → ⊥
some_not x e = cc

chosen : (P : ℕ → Type 0) (x y m : ℕ) → P x → P y → Contains (x ∷ y ∷ []) m → P m
chosen P x y m f g (zero, l, e) = subst P e f
chosen P x y m f g (suc zero, l, e) = subst P e g
chosen P x y m f g (suc (suc k), l, e) = absurd (omega (arith, l))

none_in : (m : ℕ) → Contains [] m → ⊥
none_in m c = omega (arith, c.1)

no_last : (l : Last) (k : ℕ) → (if eqb (suc k) 0 then Some l else None) ≡ None
no_last l k = ap (λ t. if t then Some l else None) (by (eqb (suc k) 0) refl)
  where
    by : (t : Bool) → eqb (suc k) 0 ≡ t → eqb (suc k) 0 ≡ false
    by true e = let f : suc k ≡ 0 = eqb-true (suc k) 0 e in absurd (omega (arith, f))
    by false e = e

last_is : (l r : Last) (m : ℕ) → Some l ≡ Some r → Contains (targets r) m → Contains (targets l) m
last_is l r m e c = let f : l ≡ r = cc in subst (λ z. Contains (targets z) m) (sym f) c

leads_fit : (n k m : ℕ) (l : Last) (hs : List Handler) → hs ≡ [] → last_at diamond (point n k) ≡ Some l
    → Contains (targets l) m → Fits (point n k) (point m 0) hs (along_edge diamond n m [])
leads_fit zero zero m l hs h e c = chosen (λ z. Along 0 z hs) 1 2 m
    (along 0 1 hs h (record {
      kept = refl;
      reads = refl;
      values = refl;
      tested = refl;
      there = some_not _;
      phis = refl;
      nears = omega arith;
      breaks = refl;
      lands = refl;
    }))
    (along 0 2 hs h (record {
      kept = refl;
      reads = refl;
      values = refl;
      tested = refl;
      there = some_not _;
      phis = refl;
      nears = omega arith;
      breaks = refl;
      lands = refl;
    })) (last_is (br (var 0) 1 2) l m e c)
leads_fit (suc zero) zero m l hs h e c = chosen (λ z. Along 1 z hs) 3 3 m from_first from_first
    (last_is (goes_to 3) l m e c)
  where
    from_first : Along 1 3 hs
    from_first = along 1 3 hs h (record {
      kept = refl;
      reads = refl;
      values = refl;
      tested = refl;
      there = some_not _;
      phis = refl;
      nears = omega arith;
      breaks = refl;
      lands = refl;
    })
leads_fit (suc (suc zero)) zero m l hs h e c = chosen (λ z. Along 2 z hs) 3 3 m from_second from_second
    (last_is (goes_to 3) l m e c)
  where
    from_second : Along 2 3 hs
    from_second = along 2 3 hs h (record {
      kept = refl;
      reads = refl;
      values = refl;
      tested = refl;
      there = some_not _;
      phis = refl;
      nears = omega arith;
      breaks = refl;
      lands = refl;
    })
leads_fit (suc (suc (suc zero))) zero m l hs h e c = absurd (none_in m (last_is (ret (var 1)) l m e c))
leads_fit zero (suc k) m l hs h e c = absurd (none_is l (sym (no_last (br (var 0) 1 2) k) ∙ e))
leads_fit (suc zero) (suc k) m l hs h e c = absurd (none_is l (sym (no_last (goes_to 3) k) ∙ e))
leads_fit (suc (suc zero)) (suc k) m l hs h e c = absurd (none_is l (sym (no_last (goes_to 3) k) ∙ e))
leads_fit (suc (suc (suc zero))) (suc k) m l hs h e c = absurd (none_is l (sym (no_last (ret (var 1)) k) ∙ e))
leads_fit (suc (suc (suc (suc n)))) k m l hs h e c = absurd (none_is l e)

step_fits : (p q : Point) (hs is' : List Handler) (e : Effect) → hs ≡ [] → Step diamond p hs q is' e → Fits p q is' e
step_fits _ _ _ _ _ h (passes p hs x m f t) = absurd (no_set p.block p.done (x, m) f)
step_fits _ _ _ _ _ h (leads p hs l n f t) = leads_fit p.block p.done n l hs h f t
step_fits _ _ _ _ _ h (succeeds p hs x v t e f g) = absurd (no_set p.block p.done (x, tests e) f)
step_fits _ _ _ _ _ h (fails p hs x e f g) = absurd (no_set p.block p.done (x, tests e) f)
step_fits _ _ _ _ _ h (raises p i hs x m f g) = absurd (no_set p.block p.done (x, m) f)

used_behind : (l : Last) (k : ℕ) (ws : List ℕ)
    → IsTrue (all_among (end_vars (if eqb (suc k) 0 then Some l else None)) ws)
used_behind l k ws = subst (λ o. IsTrue (all_among (end_vars o) ws)) (sym (no_last l k)) refl

uses : (n k : ℕ) → IsTrue (all_among (used_at diamond (point n k)) (available_at n))
uses zero zero = refl
uses zero (suc k) = used_behind (br (var 0) 1 2) k (0 ∷ [])
uses (suc zero) zero = refl
uses (suc zero) (suc k) = used_behind (goes_to 3) k (0 ∷ [])
uses (suc (suc zero)) zero = refl
uses (suc (suc zero)) (suc k) = used_behind (goes_to 3) k (0 ∷ [])
uses (suc (suc (suc zero))) zero = refl
uses (suc (suc (suc zero))) (suc k) = used_behind (ret (var 1)) k (1 ∷ 0 ∷ [])
uses (suc (suc (suc (suc n)))) k = refl

no_tag : (vs : List ℕ) → IsTrue (none_among vs [])
no_tag [] = refl
no_tag (v ∷ vs) = no_tag vs

no_landing : (n : ℕ) → IsFalse (lands_first (set_at diamond (point n 0)))
no_landing zero = refl
no_landing (suc zero) = refl
no_landing (suc (suc zero)) = refl
no_landing (suc (suc (suc zero))) = refl
no_landing (suc (suc (suc (suc n)))) = refl

point_fits : (n k : ℕ) → FitsPoint diamond notes (point n k)
point_fits n k = record {
  used = uses n k;
  values = no_tag (values_at diamond (point n k));
  ends = λ l e t. refl;
  set = λ x m e. absurd (no_set n k (x, m) e);
  steps = λ q is' e s. (step_fits (point n k) q [] is' e refl s).step;
  edges = λ m is' e s. (step_fits (point n k) (point m 0) [] is' e refl s).edge;
}

diamond_certificate : Certificate diamond
diamond_certificate = record {
  notes = notes;
  starts = some_not _;
  no_phis = refl;
  tested = refl;
  params = refl;
  none_open = refl;
  outside = refl;
  local = λ n. record {
    at = point_fits n;
    bare = λ e. absurd (clashes _ e (no_landing n));
    short = λ e. absurd (clashes _ e (no_landing n));
    counted = λ w e. absurd (none_is w e);
  };
  looks = λ w l. absurd (no_set w l.at (l.set, tests l.none) l.is_there);
  few = λ w. omega arith;
}

pub examples : E.Examples
examples = record {
  certified = diamond_certificate;
  formed = well_formed diamond refl diamond_certificate;
  one_way = one_way_refused;
  kept = kept_refused;
  open_end = open_refused;
}
