-- A part of an expression has no more nodes than the expression.
use Rattle.std.proofs.Common.{◌≡◌, ℕ, ◌+◌, ◌≤◌, List, [], ◌∷◌, ◌++◌, refl, arith}
use Rattle.std.specs.List.{sum, All}
use Rattle.std.proofs.lemmas.List.Sums.{sum_by-cons, sum_by-append}
use Rattle.std.proofs.lemmas.List.Elements.{All-nil, All-cons, All-append, All-weaker}
use Rattle.core_form.specs.Core.{Expr, values, var, fun_name, literal, list, tuple, new_map, map_of, binary, fun, let_in, letrec, case, apply, call, primop, do_then, catch, try, receive, Exprs, no_expr, and_expr, MapParts, no_part, and_part, map_part, Segments, no_segment, and_segment, segment, Defs, no_def, and_def, def, Clauses, no_clause, and_clause, clause, Pattern, any, alias, known, list_like, tuple_like, map_like, bits_like, Patterns, no_pattern, and_pattern, KeyPatterns, no_key, and_key, key_pattern, SegPatterns, no_seg, and_seg, seg_pattern}
use Rattle.core_form.specs.Walks.{Asked, all_in, all_exprs, all_parts, all_segments, all_defs, all_clauses, all_pattern, all_patterns, all_keys, all_segs}
use Rattle.core_form.specs.Nodes.{node, nodes, itself, PartsHaveNoMoreNodes}

-- each of these expressions has at most as many nodes as the numbers sum to
pub record Within (ns : List ℕ) (xs : List Expr) : Type 0 where
  pub at : All (λ p. nodes p ≤ sum ns) xs

none : (ns : List ℕ) → Within ns []
none ns = record { at = All-nil (λ p. nodes p ≤ sum ns) }

wider : (ms ns : List ℕ) (xs : List Expr) → sum ms ≤ sum ns → Within ms xs → Within ns xs
wider ms ns xs h w = record {
  at = All-weaker (λ p. nodes p ≤ sum ms) (λ p. nodes p ≤ sum ns)
      (λ p k. omega (arith, h, k)) xs w.at;
}

-- one part behind the other
both : {ms ns : List ℕ} {xs ys : List Expr} → Within ms xs → Within ns ys → Within (ms ++ ns) (xs ++ ys)
both {ms} {ns} {xs} {ys} v w =
    let h = sum_by-append (λ n. n) ms ns in
    record {
      at = All-append (λ p. nodes p ≤ sum (ms ++ ns)) xs ys (wider ms (ms ++ ns) xs (omega (arith, h)) v).at
          (wider ns (ms ++ ns) ys (omega (arith, h)) w).at;
    }

-- a node that is no expression
more : {ns : List ℕ} {xs : List Expr} (k : ℕ) → Within ns xs → Within (k ∷ ns) xs
more {ns} {xs} k w = let h = sum_by-cons (λ n. n) k ns in wider ns (k ∷ ns) xs (omega (arith, h)) w

-- an expression and its parts
whole : {ns : List ℕ} {xs : List Expr} (e : Expr) (k : ℕ) → nodes e ≡ sum (k ∷ ns) → Within ns xs
    → Within (k ∷ ns) (e ∷ xs)
whole {ns} {xs} e k h w = record { at = All-cons (λ p. nodes p ≤ sum (k ∷ ns)) e xs (omega (arith, h)) (more k w).at }

mutual
  pub in_expr : (e : Expr) → Within (all_in node e) (all_in itself e)
  in_expr (values p es) = whole (values p es) _ refl (in_exprs es)
  in_expr (var p x) = whole (var p x) _ refl (none [])
  in_expr (fun_name p f) = whole (fun_name p f) _ refl (none [])
  in_expr (literal p t) = whole (literal p t) _ refl (none [])
  in_expr (list p es e) = whole (list p es e) _ refl (both (in_exprs es) (in_expr e))
  in_expr (tuple p es) = whole (tuple p es) _ refl (in_exprs es)
  in_expr (new_map p ps) = whole (new_map p ps) _ refl (in_parts ps)
  in_expr (map_of p ps e) = whole (map_of p ps e) _ refl (both (in_parts ps) (in_expr e))
  in_expr (binary p ss) = whole (binary p ss) _ refl (in_segments ss)
  in_expr (fun p xs e) = whole (fun p xs e) _ refl (in_expr e)
  in_expr (let_in p xs a b) = whole (let_in p xs a b) _ refl (both (in_expr a) (in_expr b))
  in_expr (letrec p ds b) = whole (letrec p ds b) _ refl (both (in_defs ds) (in_expr b))
  in_expr (case p e cs) = whole (case p e cs) _ refl (both (in_expr e) (in_clauses cs))
  in_expr (apply p e es) = whole (apply p e es) _ refl (both (in_expr e) (in_exprs es))
  in_expr (call p m f es) = whole (call p m f es) _ refl (both (both (in_expr m) (in_expr f)) (in_exprs es))
  in_expr (primop p n es) = whole (primop p n es) _ refl (in_exprs es)
  in_expr (do_then p a b) = whole (do_then p a b) _ refl (both (in_expr a) (in_expr b))
  in_expr (catch p e) = whole (catch p e) _ refl (in_expr e)
  in_expr (try p a xs b ys c) = whole (try p a xs b ys c) _ refl (both (both (in_expr a) (in_expr b)) (in_expr c))
  in_expr (receive p cs t b) = whole (receive p cs t b) _ refl (both (both (in_clauses cs) (in_expr t)) (in_expr b))

  in_exprs : (es : Exprs) → Within (all_exprs node es) (all_exprs itself es)
  in_exprs no_expr = none []
  in_exprs (and_expr e es) = both (in_expr e) (in_exprs es)

  in_parts : (ps : MapParts) → Within (all_parts node ps) (all_parts itself ps)
  in_parts no_part = none []
  in_parts (and_part (map_part k v x) ps) = both (both (in_expr k) (in_expr v)) (in_parts ps)

  in_segments : (ss : Segments) → Within (all_segments node ss) (all_segments itself ss)
  in_segments no_segment = none []
  in_segments (and_segment (segment p v s u k f) ss) = more 1 (both (both (in_expr v) (in_expr s)) (in_segments ss))

  in_defs : (ds : Defs) → Within (all_defs node ds) (all_defs itself ds)
  in_defs no_def = none []
  in_defs (and_def (def p f e) ds) = both (in_expr e) (in_defs ds)

  in_clauses : (cs : Clauses) → Within (all_clauses node cs) (all_clauses itself cs)
  in_clauses no_clause = none []
  in_clauses (and_clause (clause p qs g e) cs) =
      more 1 (both (both (both (in_patterns qs) (in_expr g)) (in_expr e)) (in_clauses cs))

  in_pattern : (r : Pattern) → Within (all_pattern node r) (all_pattern itself r)
  in_pattern (any p x) = none _
  in_pattern (alias p x r) = more 1 (in_pattern r)
  in_pattern (known p t) = none _
  in_pattern (list_like p qs r) = more 1 (both (in_patterns qs) (in_pattern r))
  in_pattern (tuple_like p qs) = more 1 (in_patterns qs)
  in_pattern (map_like p ks) = more 1 (in_keys ks)
  in_pattern (bits_like p ss) = more 1 (in_segs ss)

  in_patterns : (qs : Patterns) → Within (all_patterns node qs) (all_patterns itself qs)
  in_patterns no_pattern = none []
  in_patterns (and_pattern r qs) = both (in_pattern r) (in_patterns qs)

  in_keys : (ks : KeyPatterns) → Within (all_keys node ks) (all_keys itself ks)
  in_keys no_key = none []
  in_keys (and_key (key_pattern e r) ks) = both (both (in_expr e) (in_pattern r)) (in_keys ks)

  in_segs : (ss : SegPatterns) → Within (all_segs node ss) (all_segs itself ss)
  in_segs no_seg = none []
  in_segs (and_seg (seg_pattern p r e u k f) ss) = more 1 (both (both (in_pattern r) (in_expr e)) (in_segs ss))

pub no_more_nodes : PartsHaveNoMoreNodes
no_more_nodes e = (in_expr e).at
