-- What a stretch of the walk for limits does: the limits that it meets, the functions that it passes, the nodes that it
-- counts.
use Rattle.std.proofs.Common.{◌≡◌, inl, inr, ℕ, suc, ◌+◌, ◌<◌, List, [], ◌∷◌, ◌++◌, length, get_or, Bool, true, false, ltb, if◌then◌else◌, refl, sym, ap, ◌∙◌, subst, arith, append_assoc, length-append}
use Rattle.std.specs.List.{sum}
use Rattle.std.proofs.lemmas.Bool.{lt-ltb, le-ltb, cases_lt}
use Rattle.std.proofs.Math.Nat.{add-zero}
use Rattle.std.proofs.Math.Seq.{get_or-append_seam}
use Rattle.std.proofs.lemmas.List.{append-nil}
use Rattle.std.proofs.lemmas.List.Sums.{sum_by-cons, sum_by-append}
use Rattle.erl_base.specs.declared.ids.Place.{Place}
use Rattle.erl_base.specs.declared.refusal.Refusal.{Refusal}
use Rattle.erl_base.specs.declared.refusal.LimitName.{LimitName}
use Rattle.erl_base.specs.declared.refusal.Kind.TheVariants.{Limit}
use Rattle.first_fault.specs.FirstFault.{first_with, fault_if}
use Rattle.first_fault.proofs.First.{first_with_both}
use Rattle.core_form.specs.Sites.{Site}
use Rattle.core_profile.specs.declared.progress.Progress.{Progress}
use Rattle.core_profile.specs.LimitFaults.{capped, most_count, over, over_arity, site_limits, capture_counts}
use Rattle.core_profile.specs.LimitWalk.{meeting, with_nodes, nodes_from, function_if}
use Rattle.core_profile.proofs.Same.{Same, itself, through, both, other_way, crossed, swapped, grouped, equal}

-- what is told of functions
abbrev pub seen : Bool → List Site → List Refusal
seen false xs = []
seen true xs = site_limits xs

-- how many functions are passed
abbrev pub passed : Bool → List Site → ℕ
passed false xs = 0
passed true xs = length xs

seen_both : (b : Bool) (xs ys : List Site) → seen b (xs ++ ys) ≡ seen b xs ++ seen b ys
seen_both false xs ys = refl
seen_both true [] ys = refl
seen_both true (x ∷ xs) ys =
    ap (λ l. over_arity x.fun_place (length x.params + length x.captures) ++ l) (seen_both true xs ys)
    ∙ sym (append_assoc (over_arity x.fun_place (length x.params + length x.captures))
    (site_limits xs) (site_limits ys))

-- what functions pass, in two stretches
pub sites_both : (xs ys : List Site) → site_limits (xs ++ ys) ≡ site_limits xs ++ site_limits ys
sites_both xs ys = seen_both true xs ys

passed_both : (b : Bool) (xs ys : List Site) → passed b (xs ++ ys) ≡ passed b xs + passed b ys
passed_both false xs ys = omega arith
passed_both true xs ys = length-append xs ys

pub counts_both : (xs ys : List Site) → capture_counts (xs ++ ys) ≡ capture_counts xs ++ capture_counts ys
counts_both [] ys = refl
counts_both (x ∷ xs) ys = ap (λ l. length x.captures ∷ l) (counts_both xs ys)

pub counts_length : (xs : List Site) → length (capture_counts xs) ≡ length xs
counts_length [] = refl
counts_length (x ∷ xs) = ap suc (counts_length xs)

pub none_seen : (b : Bool) → seen b [] ≡ []
none_seen false = refl
none_seen true = refl

pub none_passed : (b : Bool) → passed b [] ≡ 0
none_passed false = refl
none_passed true = refl

ltb_capped : (most n : ℕ) → most < most_count → ltb most n ≡ ltb most (capped n)
ltb_capped most n h = elim (cases_lt most n) [
  | inl k ↦ lt-ltb most n k ∙ sym (lt-ltb most (capped n) (omega (arith, h, k)))
  | inr k ↦ le-ltb most n k ∙ sym (le-ltb most (capped n) (omega (arith, h, k)))
]

-- a count over a limit is told from its cap
pub over_same : (name : LimitName) (most : ℕ) (p : Place) (m n : ℕ) → most < most_count → capped m ≡ capped n
    → over name most p m ≡ over name most p n
over_same name most p m n h e =
    ap (λ b. fault_if b p (Limit name (capped m))) (ltb_capped most m h)
    ∙ ap (λ k. fault_if (ltb most k) p (Limit name k)) e
    ∙ sym (ap (λ b. fault_if b p (Limit name (capped n))) (ltb_capped most n h))

module _ (counts : List ℕ) where
  -- the captures of these functions stand from the ith on
  pub record Placed (i : ℕ) (xs : List Site) : Type 0 where
    pub before : List ℕ
    pub behind : List ℕ
    pub is : counts ≡ before ++ (capture_counts xs ++ behind)
    pub here : length before ≡ i

  -- where functions are told
  abbrev pub Stand : Bool → ℕ → List Site → Type 0
  Stand false i xs = Unit {0}
  Stand true i xs = Placed i xs

  pub placed_front : (i : ℕ) (xs ys : List Site) → Placed i (xs ++ ys) → Placed i xs
  placed_front i xs ys h = record {
    before = h.before;
    behind = capture_counts ys ++ h.behind;
    is = h.is ∙ ap (λ l. h.before ++ (l ++ h.behind)) (counts_both xs ys)
        ∙ ap (λ l. h.before ++ l) (append_assoc (capture_counts xs) (capture_counts ys) h.behind);
    here = h.here;
  }

  pub placed_back : (i : ℕ) (xs ys : List Site) → Placed i (xs ++ ys) → Placed (i + length xs) ys
  placed_back i xs ys h = record {
    before = h.before ++ capture_counts xs;
    behind = h.behind;
    is = h.is ∙ ap (λ l. h.before ++ (l ++ h.behind)) (counts_both xs ys)
        ∙ ap (λ l. h.before ++ l) (append_assoc (capture_counts xs) (capture_counts ys) h.behind)
        ∙ sym (append_assoc h.before (capture_counts xs) (capture_counts ys ++ h.behind));
    here = length-append h.before (capture_counts xs) ∙ (λ j. h.here j + counts_length xs j);
  }

  pub stand_front : (b : Bool) (i : ℕ) (xs ys : List Site) → Stand b i (xs ++ ys) → Stand b i xs
  stand_front false i xs ys h = tt
  stand_front true i xs ys h = placed_front i xs ys h

  stand_back : (b : Bool) (i : ℕ) (xs ys : List Site) → Stand b i (xs ++ ys) → Stand b (i + passed b xs) ys
  stand_back false i xs ys h = tt
  stand_back true i xs ys h = placed_back i xs ys h

  -- from s to t these limits of forms are met, these functions passed, these nodes counted
  pub record Goes (b : Bool) (s t : Progress) (asked : List Refusal) (xs : List Site) (ns : List ℕ) : Type 0 where
    pub met : List Refusal
    pub first : t.first ≡ first_with s.first met
    pub same : Same met (asked ++ seen b xs)
    pub nodes : capped t.nodes ≡ capped (s.nodes + sum ns)
    pub site : t.site ≡ s.site + passed b xs

  -- if the captures stand there
  abbrev pub Walks : Bool → Progress → Progress → List Refusal → List Site → List ℕ → Type 0
  Walks b s t asked xs ns = Stand b s.site xs → Goes b s t asked xs ns

  joined : {b : Bool} {s t u : Progress} {fs gs : List Refusal} {xs ys : List Site} {ms ns : List ℕ}
      → Goes b s t fs xs ms → Goes b t u gs ys ns → Goes b s u (fs ++ gs) (xs ++ ys) (ms ++ ns)
  joined {b} {s} {t} {u} {fs} {gs} {xs} {ys} {ms} {ns} v w = record {
    met = v.met ++ w.met;
    first = w.first ∙ ap (λ o. first_with o w.met) v.first ∙ sym (first_with_both s.first v.met w.met);
    same = through (both v.same w.same) (through (crossed fs (seen b xs) gs (seen b ys))
        (equal _ _ (ap (λ l. (fs ++ gs) ++ l) (sym (seen_both b xs ys)))));
    nodes = let h = v.nodes in let k = w.nodes in let e = sum_by-append (λ n. n) ms ns in omega (arith, h, k, e);
    site = let h = v.site in let k = w.site in let e = passed_both b xs ys in omega (arith, h, k, e);
  }

  -- the captures behind a stretch stand where it ends
  pub stand_on : {b : Bool} {s t : Progress} {fs : List Refusal} {xs : List Site} {ms : List ℕ}
      → Walks b s t fs xs ms → (ys : List Site) → Stand b s.site (xs ++ ys) → Stand b t.site ys
  stand_on {b} {s} {t} {fs} {xs} {ms} v ys h =
      subst (λ i. Stand b i ys) (sym (v (stand_front b s.site xs ys h)).site) (stand_back b s.site xs ys h)

  -- one stretch behind the other
  pub onward : {b : Bool} {s t u : Progress} {fs gs : List Refusal} {xs ys : List Site} {ms ns : List ℕ}
      → Walks b s t fs xs ms → Walks b t u gs ys ns → Walks b s u (fs ++ gs) (xs ++ ys) (ms ++ ns)
  onward {b} {s} {t} {u} {fs} {gs} {xs} {ys} {ms} {ns} v w h =
      joined (v (stand_front b s.site xs ys h)) (w (stand_on v ys h))

  -- nodes are counted
  pub counting : (b : Bool) (n : ℕ) (s : Progress) → Walks b s (with_nodes n s) [] [] (n ∷ [])
  counting b n s h = record {
    met = [];
    first = refl;
    same = equal [] (seen b []) (sym (none_seen b));
    nodes = let e = sum_by-cons (λ n. n) n [] in omega (arith, e);
    site = let e = none_passed b in omega (arith, e);
  }

  -- a node with the variables that it binds
  pub binding : (b : Bool) (n : ℕ) (s : Progress) → Walks b s (with_nodes (1 + n) s) [] [] (suc n ∷ [])
  binding b n s h = record {
    met = [];
    first = refl;
    same = equal [] (seen b []) (sym (none_seen b));
    nodes = let e = sum_by-cons (λ n. n) (suc n) [] in omega (arith, e);
    site = let e = none_passed b in omega (arith, e);
  }

  -- limits are met
  pub meets : {b : Bool} {s t : Progress} {fs : List Refusal} {xs : List Site} {ns : List ℕ} (faults : List Refusal)
      → Walks b s t fs xs ns → Walks b s (meeting faults t) (faults ++ fs) xs ns
  meets {b} {s} {t} {fs} {xs} {ns} faults v h =
      let w = v h in
      record {
        met = w.met ++ faults;
        first = ap (λ o. first_with o faults) w.first ∙ sym (first_with_both s.first w.met faults);
        same = through (swapped w.met faults) (through (both (itself faults) w.same)
            (other_way (grouped faults fs (seen b xs))));
        nodes = w.nodes;
        site = w.site;
      }

  -- the same limits of forms, in another order
  pub asked_as : {b : Bool} {s t : Progress} {fs gs : List Refusal} {xs : List Site} {ns : List ℕ}
      → Same fs gs → Walks b s t fs xs ns → Walks b s t gs xs ns
  asked_as {b} {s} {t} {fs} {gs} {xs} {ns} same v h =
      let w = v h in
      record {
        met = w.met;
        first = w.first;
        same = through w.same (both same (itself (seen b xs)));
        nodes = w.nodes;
        site = w.site;
      }

  -- functions that are not told are fs none
  pub quiet : {s t : Progress} {fs : List Refusal} {xs : List Site} {ns : List ℕ} (b : Bool)
      → Walks false s t fs xs ns → Walks b s t fs [] ns
  quiet {s} {t} {fs} {xs} {ns} b v h =
      let w = v tt in
      record {
        met = w.met;
        first = w.first;
        same = through w.same (equal _ _ (ap (λ l. fs ++ l) (sym (none_seen b))));
        nodes = w.nodes;
        site = let k = w.site in let e = none_passed b in omega (arith, k, e);
      }

  -- nothing is done
  pub idle : (b : Bool) (s : Progress) → Walks b s s [] [] []
  idle b s h = record {
    met = [];
    first = refl;
    same = equal [] (seen b []) (sym (none_seen b));
    nodes = ap capped (sym (add-zero s.nodes));
    site = let e = none_passed b in omega (arith, e);
  }

  count_here : (i : ℕ) (x : Site) → Placed i (x ∷ []) → get_or counts i 0 ≡ length x.captures
  count_here i x h = ap (λ l. get_or l i 0) h.is
      ∙ ap (λ k. get_or (h.before ++ length x.captures ∷ h.behind) k 0) (sym h.here)
      ∙ get_or-append_seam h.before (length x.captures) h.behind 0

  here_within : (i : ℕ) (x : Site) → Placed i (x ∷ []) → i < length counts
  here_within i x h =
      let e = ap length h.is ∙ length-append h.before (length x.captures ∷ h.behind) in
      let k = h.here in
      omega (arith, e, k)

  -- a function is passed
  pub passing : (b : Bool) (x : Site) (s : Progress)
      → Walks b s (function_if counts b x.fun_place (length x.params) s) [] (x ∷ []) []
  passing false x s h = record {
    met = [];
    first = refl;
    same = itself [];
    nodes = ap capped (sym (add-zero s.nodes));
    site = omega arith;
  }
  passing true x s h = record {
    met = over_arity x.fun_place (length x.params + get_or counts s.site 0);
    first = refl;
    same = equal _ _ (ap (λ k. over_arity x.fun_place (length x.params + k)) (count_here s.site x h)
        ∙ sym (append-nil (over_arity x.fun_place (length x.params + length x.captures))));
    nodes = ap capped (sym (add-zero s.nodes));
    site = ap (λ t. if t then s.site + 1 else s.site) (lt-ltb s.site (length counts) (here_within s.site x h));
  }

  -- the patterns and guard of a clause, whose nodes are counted on their own
  pub clause_head : {b : Bool} {s t : Progress} {fs : List Refusal} {xs : List Site} {ns : List ℕ}
      → Walks b (nodes_from 0 s) t fs xs ns
      → Walks b s (nodes_from (capped (s.nodes + capped (1 + t.nodes))) t) fs xs (1 ∷ ns)
  clause_head {b} {s} {t} {fs} {xs} {ns} v h =
      let w = v h in
      record {
        met = w.met;
        first = w.first;
        same = w.same;
        nodes = let k = w.nodes in let e = sum_by-cons (λ n. n) 1 ns in omega (arith, k, e);
        site = w.site;
      }
