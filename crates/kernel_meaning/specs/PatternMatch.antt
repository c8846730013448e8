-- When a pattern matches a term, what it binds, and how many sub-binaries the trying may make (Core Erlang 1.0.3,
-- section 5: pattern matching; binaries as OTP 25; the count is this project's own).
use Rattle.std.specs.Prelude.{ℕ, ◌+◌, List, [], ◌∷◌, not, ◌&&◌, eqb, Option, Some, None, if◌then◌else◌}
use Rattle.erl_base.specs.Lists.{among}
use Rattle.erl_term.specs.Term as T
use Rattle.erl_term.specs.Term.{Term, Terms, none, more, Pairs}
use Rattle.erl_term.specs.TermOrder.{same_term, count}
use Rattle.erl_term.specs.Terms.{value_at}
use Rattle.erl_term.specs.Segments.{Shape}
use Rattle.core_meaning.specs.SegmentMatch.{if_there, both, also, Segment, match_segs, seg_cuts}
use Rattle.kernel_form.specs.Kernel.{Pattern, any, bind, known, cons_like, tuple_like, map_like, bits_like, alias, Patterns, no_pattern, and_pattern, key_pattern, KeyPatterns, no_key, and_key, seg, Segs, no_seg, and_seg}
use Rattle.kernel_meaning.specs.Environment.{Env, with_value, read}

-- variables with their terms
abbrev pub Bindings : Type 0
Bindings = List (ℕ × Term)

-- binds them from left to right
abbrev pub with_bindings : Env → Bindings → Env
with_bindings env [] = env
with_bindings env (b ∷ bs) = with_bindings (with_value env b.0 b.1) bs

-- a segment's value is anything, a variable or a literal
abbrev pub segment_binds : Pattern → Term → Option Bindings
segment_binds any t = Some []
segment_binds (bind x) t = Some ((x, t) ∷ [])
segment_binds (known u) t = if same_term u t then Some [] else None
segment_binds _ t = None

-- what later sizes of the same binary see
abbrev pub with_segment : Env → Pattern → Term → Env
with_segment env (bind x) t = with_value env x t
with_segment env _ t = env

-- the segments of a pattern
abbrev pub segments_of : Segs → List (Segment Env (ℕ × Term))
segments_of no_seg = []
segments_of (and_seg (seg q v h) ss) = record {
  shape = h;
  size = λ env. Some (read env v);
  binds = segment_binds q;
  shows = λ t env. with_segment env q t;
} ∷ segments_of ss

-- keys and sizes are read outside the pattern, but for a size that an earlier segment of its binary binds
module _ (env : Env) where
  abbrev mutual
    pub matches : Pattern → Term → Option Bindings
    matches any t = Some []
    matches (bind x) t = Some ((x, t) ∷ [])
    matches (known u) t = if same_term u t then Some [] else None
    matches (cons_like p q) (T.cons x y) = both (matches p x) (matches q y)
    matches (tuple_like ps) (T.tuple ts) = match_all ps ts
    matches (map_like ks) (T.map ps) = match_keys ks ps
    matches (bits_like ss) (T.bits bs) = match_segs (segments_of ss) env bs
    matches (alias x q) t = also (x, t) (matches q t)
    matches _ t = None

    pub match_all : Patterns → Terms → Option Bindings
    match_all no_pattern none = Some []
    match_all no_pattern (more t ts) = None
    match_all (and_pattern q qs) none = None
    match_all (and_pattern q qs) (more t ts) = both (matches q t) (match_all qs ts)

    pub match_keys : KeyPatterns → Pairs → Option Bindings
    match_keys no_key ps = Some []
    match_keys (and_key (key_pattern v q) ks) ps =
        both (if_there (value_at ps (read env v)) (λ t. matches q t) None) (match_keys ks ps)

-- A segment of bits that is bound to a variable is made as a sub-binary, unless the variable is handed on.

-- of a pattern for a segment of this shape, where the parts of these variables are handed on
abbrev pub made : List ℕ → Shape → Pattern → ℕ
made hs h (bind x) = if h.is_binary && not (among x hs) then 1 else 0
made hs h _ = 0

-- how many patterns there are
abbrev pub patterns_in : Patterns → ℕ
patterns_in no_pattern = 0
patterns_in (and_pattern q qs) = 1 + patterns_in qs

module _ (hs : List ℕ) where
  -- of each segment
  abbrev pub each_made : Segs → List ℕ
  each_made no_seg = []
  each_made (and_seg (seg q v h) ss) = made hs h q ∷ each_made ss

  module _ (env : Env) where
    abbrev mutual
      pub cuts : Pattern → Term → ℕ
      cuts (cons_like p q) (T.cons x y) = cuts p x + cuts q y
      cuts (tuple_like ps) (T.tuple ts) = if eqb (patterns_in ps) (count ts) then all_cuts ps ts else 0
      cuts (map_like ks) (T.map ps) = key_cuts ks ps
      cuts (bits_like ss) (T.bits bs) = seg_cuts (each_made ss) (segments_of ss) env bs
      cuts (alias x q) t = cuts q t
      cuts _ t = 0

      pub all_cuts : Patterns → Terms → ℕ
      all_cuts (and_pattern q qs) (more t ts) = cuts q t + all_cuts qs ts
      all_cuts _ _ = 0

      pub key_cuts : KeyPatterns → Pairs → ℕ
      key_cuts no_key ps = 0
      key_cuts (and_key (key_pattern v q) ks) ps =
          if_there (value_at ps (read env v)) (λ t. cuts q t) 0 + key_cuts ks ps
