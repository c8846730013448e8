-- The function that matches gives exactly what the relation says.
use Rattle.std.proofs.Common.{◌≡◌, ◌↔◌, ℕ, List, [], ◌∷◌, ◌++◌, length, take, drop, Bool, true, false, Option, Some, None, cond, refl, subst, ap, ◌∙◌}
use Rattle.erl_base.specs.Names.{Name}
use Rattle.erl_term.specs.Term as T
use Rattle.erl_term.specs.Term.{Term, Terms, none, more, Pairs}
use Rattle.erl_term.specs.TermOrder.{same_term}
use Rattle.erl_term.specs.Terms.{Values, value_at}
use Rattle.erl_term.specs.Segments.{taken_size, segment_value}
use Rattle.core_form.specs.Core.{Pattern, any, alias, known, list_like, tuple_like, map_like, bits_like, Patterns, no_pattern, and_pattern, KeyPatterns, no_key, and_key, key_pattern, SegPatterns, no_seg, and_seg, seg_pattern}
use Rattle.core_meaning.specs.SegmentShape.{shape_of}
use Rattle.core_meaning.specs.SegmentMatch.{if_there, both, also, match_segs}
use Rattle.core_meaning.specs.PatternMatch.{key_value, known_name, SegsMatch, none_left, seg_variable, seg_literal, Matches, variable, aliased, equal, cells, elements, pairs, bits, CellsMatch, the_rest, a_cell, AllMatch, no_term, a_term, KeysMatch, no_more, a_key, at_key, match_segment, matches, match_items, match_all, match_keys, segments_in}

-- Options.

some_one : {A : Type 0} {x y : A} → Some x ≡ Some y → x ≡ y
some_one {A} {x} {y} e =
    let take_out : Option A → A = λ o. elim o [ None ↦ x | Some z ↦ z ] in
    ap take_out e

both_some : (a b : Option Values) (us ws : Values) → a ≡ Some us → b ≡ Some ws → both a b ≡ Some (us ++ ws)
both_some a b us ws e h = λ i. both (e i) (h i)

both_parts : (a b : Option Values) (ws : Values) → both a b ≡ Some ws → (us : Values) × (vs : Values) × (a ≡ Some us)
    × (b ≡ Some vs) × (us ++ vs ≡ ws)
both_parts None b ws e = absurd cc
both_parts (Some us) None ws e = absurd cc
both_parts (Some us) (Some vs) ws e = (us, vs, refl, refl, some_one e)

also_part : (t : Term) (o : Option Values) (ws : Values) → also t o ≡ Some ws → (vs : Values) × (o ≡ Some vs)
    × (t ∷ vs ≡ ws)
also_part t None ws e = absurd cc
also_part t (Some vs) ws e = (vs, refl, some_one e)

some_part : {A : Type 0} (o : Option A) (f : A → Option Values) (ws : Values) → if_there o f None ≡ Some ws
    → (a : A) × (o ≡ Some a) × (f a ≡ Some ws)
some_part None f ws e = absurd cc
some_part (Some a) f ws e = (a, refl, e)

key_part : (ps : Pairs) (o : Option Term) (t : Term) → at_key ps o ≡ Some t → (k : Term) × (o ≡ Some k)
    × (value_at ps k ≡ Some t)
key_part ps None t e = absurd cc
key_part ps (Some k) t e = (k, refl, e)

test_part : (b : Bool) (ws : Values) → cond b (Some []) None ≡ Some ws → (b ≡ true) × ([] ≡ ws)
test_part true ws e = (refl, some_one e)
test_part false ws e = absurd cc

-- From the relation to the function.

segs_give : {env : Name → Option Term} {ss : SegPatterns} {bs : List Bool} {ws : Values} → SegsMatch env ss bs ws
    → match_segs (segments_in ss) env bs ≡ Some ws
segs_give none_left = refl
segs_give {env} (seg_variable {p} {r} {x} {size} {unit} {flags} {kind} {ss} {bs} {ws} n e h) =
    let s = shape_of size unit kind flags in
    let t = segment_value s (take n bs) in
    ap (λ o. if_there o (λ k. both (match_segment (any r x) (segment_value s (take k bs)))
    (match_segs (segments_in ss) (known_name (any r x) (segment_value s (take k bs)) env) (drop k bs))) None) e
    ∙ both_some (Some (t ∷ [])) _ (t ∷ []) ws refl (segs_give h)
segs_give {env} (seg_literal {p} {r} {u} {size} {unit} {flags} {kind} {ss} {bs} {ws} n e t h) =
    let s = shape_of size unit kind flags in
    ap (λ o. if_there o (λ k. both (match_segment (known r u) (segment_value s (take k bs)))
    (match_segs (segments_in ss) env (drop k bs))) None) e
    ∙ both_some _ _ [] ws (ap (λ b. cond b (Some []) None) t) (segs_give h)

mutual
  pub give_matches : {env : Name → Option Term} {q : Pattern} {t : Term} {ws : Values} → Matches env q t ws
      → matches env q t ≡ Some ws
  give_matches variable = refl
  give_matches (aliased {t} h) = ap (also t) (give_matches h)
  give_matches (equal e) = ap (λ b. cond b (Some []) None) e
  give_matches (cells h) = cells_give h
  give_matches (elements h) = all_give h
  give_matches (pairs h) = keys_give h
  give_matches (bits h) = segs_give h

  cells_give : {env : Name → Option Term} {qs : Patterns} {q : Pattern} {t : Term} {ws : Values}
      → CellsMatch env qs q t ws → match_items env qs (λ r. matches env q r) t ≡ Some ws
  cells_give (the_rest h) = give_matches h
  cells_give (a_cell h k) = both_some _ _ _ _ (give_matches h) (cells_give k)

  pub all_give : {env : Name → Option Term} {qs : Patterns} {ts : Terms} {ws : Values} → AllMatch env qs ts ws
      → match_all env qs ts ≡ Some ws
  all_give no_term = refl
  all_give (a_term h k) = both_some _ _ _ _ (give_matches h) (all_give k)

  keys_give : {env : Name → Option Term} {ks : KeyPatterns} {ps : Pairs} {ws : Values} → KeysMatch env ks ps ws
      → match_keys env ks ps ≡ Some ws
  keys_give no_more = refl
  keys_give {env} (a_key {e} {q} {ks} {ps} {us} {ws} k t a b h i) =
      both_some _ _ us ws (ap (λ o. if_there (at_key ps o) (λ u. matches env q u) None) a
      ∙ ap (λ o. if_there o (λ u. matches env q u) None) b ∙ give_matches h) (keys_give i)

-- From the function to the relation.

both_rest : (us : Values) (b : Option Values) (ws : Values) → both (Some us) b ≡ Some ws → (vs : Values) × (b ≡ Some vs)
    × (us ++ vs ≡ ws)
both_rest us None ws e = absurd cc
both_rest us (Some vs) ws e = (vs, refl, some_one e)

from_segs : (ss : SegPatterns) (env : Name → Option Term) (bs : List Bool) (ws : Values)
    → match_segs (segments_in ss) env bs ≡ Some ws → SegsMatch env ss bs ws
from_segs no_seg env [] ws e = subst (λ v. SegsMatch env no_seg [] v) (some_one e) none_left
from_segs no_seg env (b ∷ bs) ws e = absurd cc
from_segs (and_seg (seg_pattern p (any r x) size unit kind flags) ss) env bs ws e =
    let s = shape_of size unit kind flags in
    let f : ℕ → Option Values = λ n. both (Some (segment_value s (take n bs) ∷ []))
    (match_segs (segments_in ss) (known_name (any r x) (segment_value s (take n bs)) env) (drop n bs)) in
    let (n, a, g) = some_part (taken_size s (key_value env size) (length bs)) f ws e in
    let (vs, b, c) = both_rest (segment_value s (take n bs) ∷ [])
    (match_segs (segments_in ss) (known_name (any r x) (segment_value s (take n bs)) env) (drop n bs)) ws g in
    subst (λ v. SegsMatch env (and_seg (seg_pattern p (any r x) size unit kind flags) ss) bs v) c
    (seg_variable n a (from_segs ss (known_name (any r x) (segment_value s (take n bs)) env) (drop n bs) vs b))
from_segs (and_seg (seg_pattern p (known r u) size unit kind flags) ss) env bs ws e =
    let s = shape_of size unit kind flags in
    let f : ℕ → Option Values = λ n. both (cond (same_term u (segment_value s (take n bs))) (Some []) None)
    (match_segs (segments_in ss) env (drop n bs)) in
    let (n, a, g) = some_part (taken_size s (key_value env size) (length bs)) f ws e in
    let (us, vs, t, b, c) = both_parts (cond (same_term u (segment_value s (take n bs))) (Some []) None)
    (match_segs (segments_in ss) env (drop n bs)) ws g in
    let (y, z) = test_part (same_term u (segment_value s (take n bs))) us t in
    subst (λ v. SegsMatch env (and_seg (seg_pattern p (known r u) size unit kind flags) ss) bs v)
    (ap (λ v. v ++ vs) z ∙ c)
    (seg_literal n a y (from_segs ss env (drop n bs) vs b))
from_segs (and_seg (seg_pattern p q size unit kind flags) ss) env bs ws e =
    let s = shape_of size unit kind flags in
    let f : ℕ → Option Values = λ n. None in
    let (n, a, g) = some_part (taken_size s (key_value env size) (length bs)) f ws e in
    absurd cc

module _ (env : Name → Option Term) where
  mutual
    pub from_matches : (q : Pattern) (t : Term) (ws : Values) → matches env q t ≡ Some ws → Matches env q t ws
    from_matches (any p x) t ws e = subst (λ v. Matches env (any p x) t v) (some_one e) variable
    from_matches (alias p x q) t ws e =
        let (vs, a, c) = also_part t (matches env q t) ws e in
        subst (λ v. Matches env (alias p x q) t v) c (aliased (from_matches q t vs a))
    from_matches (known p u) t ws e =
        let (a, c) = test_part (same_term u t) ws e in
        subst (λ v. Matches env (known p u) t v) c (equal a)
    from_matches (list_like p qs q) t ws e = cells (from_cells qs q (λ u vs h. from_matches q u vs h) t ws e)
    from_matches (tuple_like p qs) (T.tuple ts) ws e = elements (from_all qs ts ws e)
    from_matches (tuple_like p qs) _ ws e = absurd cc
    from_matches (map_like p ks) (T.map ps) ws e = pairs (from_keys ks ps ws e)
    from_matches (map_like p ks) _ ws e = absurd cc
    from_matches (bits_like p ss) (T.bits bs) ws e = bits (from_segs ss env bs ws e)
    from_matches (bits_like p ss) _ ws e = absurd cc

    from_cells : (qs : Patterns) (q : Pattern)
        → ((u : Term) (vs : Values) → matches env q u ≡ Some vs → Matches env q u vs) → (t : Term) (ws : Values)
        → match_items env qs (λ r. matches env q r) t ≡ Some ws → CellsMatch env qs q t ws
    from_cells no_pattern q h t ws e = the_rest (h t ws e)
    from_cells (and_pattern r qs) q h (T.cons x y) ws e =
        let (us, vs, a, b, c) = both_parts (matches env r x) (match_items env qs (λ r. matches env q r) y) ws e in
        subst (λ v. CellsMatch env (and_pattern r qs) q (T.cons x y) v) c
        (a_cell (from_matches r x us a) (from_cells qs q h y vs b))
    from_cells (and_pattern r qs) q h _ ws e = absurd cc

    pub from_all : (qs : Patterns) (ts : Terms) (ws : Values) → match_all env qs ts ≡ Some ws → AllMatch env qs ts ws
    from_all no_pattern none ws e = subst (λ v. AllMatch env no_pattern none v) (some_one e) no_term
    from_all no_pattern (more t ts) ws e = absurd cc
    from_all (and_pattern q qs) none ws e = absurd cc
    from_all (and_pattern q qs) (more t ts) ws e =
        let (us, vs, a, b, c) = both_parts (matches env q t) (match_all env qs ts) ws e in
        subst (λ v. AllMatch env (and_pattern q qs) (more t ts) v) c
        (a_term (from_matches q t us a) (from_all qs ts vs b))

    from_keys : (ks : KeyPatterns) (ps : Pairs) (ws : Values) → match_keys env ks ps ≡ Some ws → KeysMatch env ks ps ws
    from_keys no_key ps ws e = subst (λ v. KeysMatch env no_key ps v) (some_one e) no_more
    from_keys (and_key (key_pattern k q) ks) ps ws e =
        let (us, vs, a, b, c) = both_parts (if_there (at_key ps (key_value env k)) (λ t. matches env q t) None)
        (match_keys env ks ps) ws e in
        let (t, f, g) = some_part (at_key ps (key_value env k)) (λ t. matches env q t) us a in
        let (key, i, j) = key_part ps (key_value env k) t f in
        subst (λ v. KeysMatch env (and_key (key_pattern k q) ks) ps v) c
        (a_key key t i j (from_matches q t us g) (from_keys ks ps vs b))

pub one_and_the_same : (env : Name → Option Term) (q : Pattern) (t : Term) (ws : Values)
    → Matches env q t ws ↔ (matches env q t ≡ Some ws)
one_and_the_same env q t ws = (λ h. give_matches h, λ e. from_matches env q t ws e)

pub all_the_same : (env : Name → Option Term) (qs : Patterns) (ts : Terms) (ws : Values)
    → AllMatch env qs ts ws ↔ (match_all env qs ts ≡ Some ws)
all_the_same env qs ts ws = (λ h. all_give h, λ e. from_all env qs ts ws e)
