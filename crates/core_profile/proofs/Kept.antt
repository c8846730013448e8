-- The walk keeps the first of what all pieces are asked for.
use Rattle.std.proofs.Common.{◌≡◌, List, ◌++◌, Option, refl, sym, ap, ◌∙◌}
use Rattle.erl_base.specs.declared.refusal.Refusal.{Refusal}
use Rattle.core_form.specs.Core.{Expr, values, var, fun_name, literal, list, tuple, new_map, map_of, binary, fun, let_in, letrec, case, apply, call, primop, do_then, catch, try, receive, Exprs, no_expr, and_expr, MapParts, no_part, and_part, map_part, Segments, no_segment, and_segment, segment, Defs, no_def, and_def, def, Clauses, no_clause, and_clause, clause, Pattern, any, alias, known, list_like, tuple_like, map_like, bits_like, Patterns, no_pattern, and_pattern, KeyPatterns, no_key, and_key, key_pattern, SegPatterns, no_seg, and_seg, seg_pattern}
use Rattle.core_form.specs.Walks.{all_in, all_exprs, all_parts, all_segments, all_defs, all_clauses, all_pattern, all_patterns, all_keys, all_segs}
use Rattle.core_profile.specs.ProfileFaults.{outside_of, expr_outside, segment_outside}
use Rattle.core_profile.specs.ProfileWalk.{met_in, met_in_exprs, met_in_parts, met_in_segments, met_in_defs, met_in_clauses, met_in_pattern, met_in_patterns, met_in_keys, met_in_segs}
use Rattle.first_fault.specs.FirstFault.{first_with}
use Rattle.first_fault.proofs.First.{first_with_both}

-- a way that keeps the first of these
pub record Keeps (way : Option Refusal → Option Refusal) (faults : List Refusal) : Type 0 where
  pub at : (o : Option Refusal) → way o ≡ first_with o faults

-- one way behind the other
then : {v w : Option Refusal → Option Refusal} {xs ys : List Refusal} → Keeps v xs → Keeps w ys
    → Keeps (λ o. w (v o)) (xs ++ ys)
then {v} {w} {xs} {ys} h k = record {
  at = λ o. k.at (v o) ∙ ap (λ r. first_with r ys) (h.at o) ∙ sym (first_with_both o xs ys);
}

-- what a piece itself is asked for
asked : (xs : List Refusal) → Keeps (λ o. first_with o xs) xs
asked xs = record { at = λ o. refl }

mutual
  pub in_expr : (e : Expr) → Keeps (met_in e) (all_in outside_of e)
  in_expr (values p es) = in_exprs es
  in_expr (var p x) = record { at = λ o. refl }
  in_expr (fun_name p f) = record { at = λ o. refl }
  in_expr (literal p t) = record { at = λ o. refl }
  in_expr (list p es e) = then (in_exprs es) (in_expr e)
  in_expr (tuple p es) = in_exprs es
  in_expr (new_map p ps) = in_parts ps
  in_expr (map_of p ps e) = then (in_parts ps) (in_expr e)
  in_expr (binary p ss) = in_segments ss
  in_expr (fun p xs e) = in_expr e
  in_expr (let_in p xs a b) = then (in_expr a) (in_expr b)
  in_expr (letrec p ds b) = then (in_defs ds) (in_expr b)
  in_expr (case p e cs) = then (in_expr e) (in_clauses cs)
  in_expr (apply p e es) = then (in_expr e) (in_exprs es)
  in_expr (call p m f es) =
      then (then (then (asked (expr_outside (call p m f es))) (in_expr m)) (in_expr f)) (in_exprs es)
  in_expr (primop p n es) = then (asked (expr_outside (primop p n es))) (in_exprs es)
  in_expr (do_then p a b) = then (in_expr a) (in_expr b)
  in_expr (catch p e) = in_expr e
  in_expr (try p a xs b ys c) = then (then (in_expr a) (in_expr b)) (in_expr c)
  in_expr (receive p cs t b) = then (then (in_clauses cs) (in_expr t)) (in_expr b)

  in_exprs : (es : Exprs) → Keeps (met_in_exprs es) (all_exprs outside_of es)
  in_exprs no_expr = record { at = λ o. refl }
  in_exprs (and_expr e es) = then (in_expr e) (in_exprs es)

  in_parts : (ps : MapParts) → Keeps (met_in_parts ps) (all_parts outside_of ps)
  in_parts no_part = record { at = λ o. refl }
  in_parts (and_part (map_part k v x) ps) = then (then (in_expr k) (in_expr v)) (in_parts ps)

  in_segments : (ss : Segments) → Keeps (met_in_segments ss) (all_segments outside_of ss)
  in_segments no_segment = record { at = λ o. refl }
  in_segments (and_segment (segment p v s u k f) ss) =
      then (then (then (asked (segment_outside p s u k f)) (in_expr v)) (in_expr s)) (in_segments ss)

  pub in_defs : (ds : Defs) → Keeps (met_in_defs ds) (all_defs outside_of ds)
  in_defs no_def = record { at = λ o. refl }
  in_defs (and_def (def p f e) ds) = then (in_expr e) (in_defs ds)

  in_clauses : (cs : Clauses) → Keeps (met_in_clauses cs) (all_clauses outside_of cs)
  in_clauses no_clause = record { at = λ o. refl }
  in_clauses (and_clause (clause p qs g e) cs) =
      then (then (then (in_patterns qs) (in_expr g)) (in_expr e)) (in_clauses cs)

  in_pattern : (r : Pattern) → Keeps (met_in_pattern r) (all_pattern outside_of r)
  in_pattern (any p x) = record { at = λ o. refl }
  in_pattern (alias p x r) = in_pattern r
  in_pattern (known p t) = record { at = λ o. refl }
  in_pattern (list_like p qs r) = then (in_patterns qs) (in_pattern r)
  in_pattern (tuple_like p qs) = in_patterns qs
  in_pattern (map_like p ks) = in_keys ks
  in_pattern (bits_like p ss) = in_segs ss

  in_patterns : (qs : Patterns) → Keeps (met_in_patterns qs) (all_patterns outside_of qs)
  in_patterns no_pattern = record { at = λ o. refl }
  in_patterns (and_pattern r qs) = then (in_pattern r) (in_patterns qs)

  in_keys : (ks : KeyPatterns) → Keeps (met_in_keys ks) (all_keys outside_of ks)
  in_keys no_key = record { at = λ o. refl }
  in_keys (and_key (key_pattern e r) ks) = then (then (in_expr e) (in_pattern r)) (in_keys ks)

  in_segs : (ss : SegPatterns) → Keeps (met_in_segs ss) (all_segs outside_of ss)
  in_segs no_seg = record { at = λ o. refl }
  in_segs (and_seg (seg_pattern p r e u k f) ss) =
      then (then (then (asked (segment_outside p e u k f)) (in_pattern r)) (in_expr e)) (in_segs ss)
