-- How many sub-binaries it may take to try a clause (this project's own).
use Rattle.std.specs.Prelude.{ℕ, suc, ◌+◌, List, [], ◌∷◌, Bool, true, false, not, ◌&&◌, ◌||◌, eqb, ltb, if◌then◌else◌}
use Rattle.erl_base.specs.Names.{Name, same_name}
use Rattle.erl_term.specs.Term as T
use Rattle.erl_term.specs.Term.{Term, Terms, more, Pairs}
use Rattle.erl_term.specs.TermOrder.{count}
use Rattle.erl_term.specs.Segments.{Shape}
use Rattle.core_form.specs.Core.{Expr, var, Pattern, any, alias, list_like, tuple_like, map_like, bits_like, Patterns, no_pattern, and_pattern, KeyPatterns, no_key, and_key, key_pattern, SegPatterns, no_seg, and_seg, seg_pattern}
use Rattle.core_form.specs.Scope.{binding}
use Rattle.core_meaning.specs.SegmentShape.{shape_of}
use Rattle.core_meaning.specs.SegmentMatch.{if_there, seg_cuts}
use Rattle.core_meaning.specs.PatternMatch.{Lookup, key_value, at_key, segments_in}
use Rattle.core_meaning.specs.PassedOnTail.{Param, is_param_of, ClauseUse, uses_in, handed_in, number_or_zero}

-- whether a size is this variable
abbrev pub names_size : Name → Expr → Bool
names_size x (var p y) = same_name x y
names_size x _ = false

-- whether a later segment of the binary has this variable as its size
abbrev pub is_size : Name → SegPatterns → Bool
is_size x no_seg = false
is_size x (and_seg (seg_pattern p q e u k f) ss) = if names_size x e then true else is_size x ss

-- whether no segment is left
abbrev pub is_last : SegPatterns → Bool
is_last no_seg = true
is_last (and_seg s ss) = false

-- whether one of these parameters is reached
abbrev pub any_reached : List Param → List Param → Bool
any_reached rs [] = false
any_reached rs (a ∷ as') = if is_param_of rs a then true else any_reached rs as'

-- whether the variable of a binary segment is used and not passed on: in a clause, in tail position or not, where
-- variables reach these parameters; `rest` says whether the segment is all that is left
abbrev pub is_made : Bool → List Param → ClauseUse → Bool → Name → Bool
is_made tail rs c rest x =
    let n = number_or_zero (binding c.scope x) in
    let m = uses_in n c in
    ltb 0 m && not (rest && tail && eqb m 1 && any_reached rs (handed_in n c))

-- how many patterns there are
abbrev pub pattern_count : Patterns → ℕ
pattern_count no_pattern = 0
pattern_count (and_pattern q qs) = suc (pattern_count qs)

-- made says whether a variable's part is made: of a last segment that is the rest, or of another one
module _ (made : Bool → Name → Bool) where
  abbrev pub segment_cuts : Shape → Pattern → SegPatterns → ℕ
  segment_cuts h (any p x) rest =
      if h.is_binary && (is_size x rest || made (h.whole && is_last rest) x) then 1 else 0
  segment_cuts h _ rest = 0

  -- of each segment
  abbrev pub each_cuts : SegPatterns → List ℕ
  each_cuts no_seg = []
  each_cuts (and_seg (seg_pattern p q size unit kind flags) rest) =
      segment_cuts (shape_of size unit kind flags) q rest ∷ each_cuts rest

  module _ (env : Lookup) where
    abbrev mutual
      pub cuts : Pattern → Term → ℕ
      cuts (alias p x q) t = cuts q t
      cuts (list_like p qs q) t = item_cuts qs (λ r. cuts q r) t
      cuts (tuple_like p qs) (T.tuple ts) = if eqb (pattern_count qs) (count ts) then all_cuts qs ts else 0
      cuts (map_like p ks) (T.map ps) = key_cuts ks ps
      cuts (bits_like p ss) (T.bits bs) = seg_cuts (each_cuts ss) (segments_in ss) env bs
      cuts _ _ = 0

      pub item_cuts : Patterns → (Term → ℕ) → Term → ℕ
      item_cuts no_pattern rest t = rest t
      item_cuts (and_pattern q qs) rest (T.cons x y) = cuts q x + item_cuts qs rest y
      item_cuts (and_pattern q qs) rest _ = 0

      pub all_cuts : Patterns → Terms → ℕ
      all_cuts (and_pattern q qs) (more t ts) = cuts q t + all_cuts qs ts
      all_cuts _ _ = 0

      pub key_cuts : KeyPatterns → Pairs → ℕ
      key_cuts no_key ps = 0
      key_cuts (and_key (key_pattern e q) ks) ps =
          if_there (at_key ps (key_value env e)) (λ t. cuts q t) 0 + key_cuts ks ps
