-- When a pattern matches a term, and what it binds (Core Erlang 1.0.3, section 5: pattern matching; binaries as
-- OTP 25).
use Rattle.std.specs.Prelude.{◌≡◌, ◌↔◌, ℕ, List, [], ◌∷◌, ◌++◌, length, take, drop, Bool, IsTrue, Option, Some, None, if◌then◌else◌}
use Rattle.erl_base.specs.Names.{Name, same_name}
use Rattle.erl_base.specs.declared.ids.Place.{Place}
use Rattle.erl_term.specs.Term as T
use Rattle.erl_term.specs.Term.{Term, Terms, none, more, Pairs}
use Rattle.erl_term.specs.TermOrder.{same_term}
use Rattle.erl_term.specs.Terms.{Values, value_at}
use Rattle.erl_term.specs.Segments.{taken_size, segment_value}
use Rattle.core_form.specs.Core.{Expr, var, literal, Pattern, any, alias, known, list_like, tuple_like, map_like, bits_like, Patterns, no_pattern, and_pattern, KeyPatterns, no_key, and_key, key_pattern, SegPatterns, no_seg, and_seg, seg_pattern}
use Rattle.core_meaning.specs.SegmentShape.{shape_of}
use Rattle.core_meaning.specs.SegmentMatch.{if_there, both, also, Segment, match_segs}

-- The relation. Keys and sizes are looked up in env, which is what stands outside of the clause, but for a size that an
-- earlier segment of its binary names.

-- the value that a variable has, if it has one
abbrev pub Lookup : Type 0
Lookup = Name → Option Term

-- the value of a key or size, which is a variable or a literal
abbrev pub key_value : Lookup → Expr → Option Term
key_value env (var p x) = env x
key_value env (literal p t) = Some t
key_value env _ = None

-- what a size may name once a segment has this value
abbrev pub known_name : Pattern → Term → Lookup → Lookup
known_name (any p x) t env y = if same_name y x then Some t else env y
known_name _ t env y = env y

-- a segment takes its bits from the front: a variable binds what they hold, a literal has to equal it; in the end
-- nothing is left
pub data SegsMatch : Lookup → SegPatterns → List Bool → Values → Type 0 where
  none_left : {env : Lookup} → SegsMatch env no_seg [] []
  seg_variable : {env : Lookup} {p r : Place} {x : Name} {size : Expr} {unit flags : Term} {kind : Name}
      {ss : SegPatterns} {bs : List Bool} {ws : Values}
      → (n : ℕ) → taken_size (shape_of size unit kind flags) (key_value env size) (length bs) ≡ Some n
      → SegsMatch (known_name (any r x) (segment_value (shape_of size unit kind flags) (take n bs)) env) ss (drop n bs)
      ws
      → SegsMatch env (and_seg (seg_pattern p (any r x) size unit kind flags) ss) bs
      (segment_value (shape_of size unit kind flags) (take n bs) ∷ ws)
  seg_literal : {env : Lookup} {p r : Place} {u : Term} {size : Expr} {unit flags : Term} {kind : Name}
      {ss : SegPatterns} {bs : List Bool} {ws : Values}
      → (n : ℕ) → taken_size (shape_of size unit kind flags) (key_value env size) (length bs) ≡ Some n
      → IsTrue (same_term u (segment_value (shape_of size unit kind flags) (take n bs)))
      → SegsMatch env ss (drop n bs) ws
      → SegsMatch env (and_seg (seg_pattern p (known r u) size unit kind flags) ss) bs ws

-- a pattern matches a term and binds these values, in the order of the text
mutual
  pub data Matches : Lookup → Pattern → Term → Values → Type 0 where
    variable : {env : Lookup} {p : Place} {x : Name} {t : Term} → Matches env (any p x) t (t ∷ [])
    aliased : {env : Lookup} {p : Place} {x : Name} {q : Pattern} {t : Term} {ws : Values}
        → Matches env q t ws → Matches env (alias p x q) t (t ∷ ws)
    equal : {env : Lookup} {p : Place} {u t : Term} → IsTrue (same_term u t) → Matches env (known p u) t []
    cells : {env : Lookup} {p : Place} {qs : Patterns} {q : Pattern} {t : Term} {ws : Values}
        → CellsMatch env qs q t ws → Matches env (list_like p qs q) t ws
    elements : {env : Lookup} {p : Place} {qs : Patterns} {ts : Terms} {ws : Values}
        → AllMatch env qs ts ws → Matches env (tuple_like p qs) (T.tuple ts) ws
    pairs : {env : Lookup} {p : Place} {ks : KeyPatterns} {ps : Pairs} {ws : Values}
        → KeysMatch env ks ps ws → Matches env (map_like p ks) (T.map ps) ws
    bits : {env : Lookup} {p : Place} {ss : SegPatterns} {bs : List Bool} {ws : Values}
        → SegsMatch env ss bs ws → Matches env (bits_like p ss) (T.bits bs) ws

  -- items, and what the rest matches
  pub data CellsMatch : Lookup → Patterns → Pattern → Term → Values → Type 0 where
    the_rest : {env : Lookup} {q : Pattern} {t : Term} {ws : Values}
        → Matches env q t ws → CellsMatch env no_pattern q t ws
    a_cell : {env : Lookup} {r : Pattern} {qs : Patterns} {q : Pattern} {x y : Term} {us ws : Values}
        → Matches env r x us → CellsMatch env qs q y ws
        → CellsMatch env (and_pattern r qs) q (T.cons x y) (us ++ ws)

  -- as many terms as patterns
  pub data AllMatch : Lookup → Patterns → Terms → Values → Type 0 where
    no_term : {env : Lookup} → AllMatch env no_pattern none []
    a_term : {env : Lookup} {q : Pattern} {qs : Patterns} {t : Term} {ts : Terms} {us ws : Values}
        → Matches env q t us → AllMatch env qs ts ws → AllMatch env (and_pattern q qs) (more t ts) (us ++ ws)

  -- each key is there; the map may hold more
  pub data KeysMatch : Lookup → KeyPatterns → Pairs → Values → Type 0 where
    no_more : {env : Lookup} {ps : Pairs} → KeysMatch env no_key ps []
    a_key : {env : Lookup} {e : Expr} {q : Pattern} {ks : KeyPatterns} {ps : Pairs} {us ws : Values}
        → (k t : Term) → key_value env e ≡ Some k → value_at ps k ≡ Some t
        → Matches env q t us → KeysMatch env ks ps ws → KeysMatch env (and_key (key_pattern e q) ks) ps (us ++ ws)

-- The function: what a pattern that matches binds.

-- the value of a key, if the map has it
abbrev pub at_key : Pairs → Option Term → Option Term
at_key ps None = None
at_key ps (Some k) = value_at ps k

-- a segment's value is a variable or a literal
abbrev pub match_segment : Pattern → Term → Option Values
match_segment (any p x) t = Some (t ∷ [])
match_segment (known p u) t = if same_term u t then Some [] else None
match_segment _ t = None

-- the segments of a pattern
abbrev pub segments_in : SegPatterns → List (Segment Lookup Term)
segments_in no_seg = []
segments_in (and_seg (seg_pattern p q size unit kind flags) ss) = record {
  shape = shape_of size unit kind flags;
  size = λ env. key_value env size;
  binds = match_segment q;
  shows = known_name q;
} ∷ segments_in ss

module _ (env : Lookup) where
  abbrev mutual
    pub matches : Pattern → Term → Option Values
    matches (any p x) t = Some (t ∷ [])
    matches (alias p x q) t = also t (matches q t)
    matches (known p u) t = if same_term u t then Some [] else None
    matches (list_like p qs q) t = match_items qs (λ r. matches q r) t
    matches (tuple_like p qs) (T.tuple ts) = match_all qs ts
    matches (tuple_like p qs) _ = None
    matches (map_like p ks) (T.map ps) = match_keys ks ps
    matches (map_like p ks) _ = None
    matches (bits_like p ss) (T.bits bs) = match_segs (segments_in ss) env bs
    matches (bits_like p ss) _ = None

    -- items, and what is asked of the rest
    pub match_items : Patterns → (Term → Option Values) → Term → Option Values
    match_items no_pattern rest t = rest t
    match_items (and_pattern q qs) rest (T.cons x y) = both (matches q x) (match_items qs rest y)
    match_items (and_pattern q qs) rest _ = None

    pub match_all : Patterns → Terms → Option Values
    match_all no_pattern none = Some []
    match_all no_pattern (more t ts) = None
    match_all (and_pattern q qs) none = None
    match_all (and_pattern q qs) (more t ts) = both (matches q t) (match_all qs ts)

    pub match_keys : KeyPatterns → Pairs → Option Values
    match_keys no_key ps = Some []
    match_keys (and_key (key_pattern e q) ks) ps =
        both (if_there (at_key ps (key_value env e)) (λ t. matches q t) None) (match_keys ks ps)

-- the function gives exactly what the relation says
abbrev pub MatchingIsTheRelation : Type 0
MatchingIsTheRelation =
    (env : Lookup) (q : Pattern) (t : Term) (ws : Values) → Matches env q t ws ↔ (matches env q t ≡ Some ws)

-- of patterns and terms
abbrev pub AllMatchingIsTheRelation : Type 0
AllMatchingIsTheRelation =
    (env : Lookup) (qs : Patterns) (ts : Terms) (ws : Values) → AllMatch env qs ts ws ↔ (match_all env qs ts ≡ Some ws)
