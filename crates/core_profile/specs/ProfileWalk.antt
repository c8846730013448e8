-- The way of the code through a module: what the contracts of its walk cite. That it keeps the first of all that the
-- pieces are asked for is proved.
use Rattle.std.specs.Prelude.{Option}
use Rattle.erl_base.specs.declared.refusal.Refusal.{Refusal}
use Rattle.core_form.specs.Core.{Expr, values, var, fun_name, literal, list, tuple, new_map, map_of, binary, fun, let_in, letrec, case, apply, call, primop, do_then, catch, try, receive, Exprs, no_expr, and_expr, MapParts, no_part, and_part, map_part, Segments, no_segment, and_segment, segment, Defs, no_def, and_def, def, Clauses, no_clause, and_clause, clause, Pattern, any, alias, known, list_like, tuple_like, map_like, bits_like, Patterns, no_pattern, and_pattern, KeyPatterns, no_key, and_key, key_pattern, SegPatterns, no_seg, and_seg, seg_pattern}
use Rattle.core_profile.specs.ProfileFaults.{expr_outside, segment_outside}
use Rattle.first_fault.specs.FirstFault.{first_with}

-- the first form so far that is not compiled, after a piece of the tree
abbrev mutual
  pub met_in : Expr → Option Refusal → Option Refusal
  met_in (values p es) o = met_in_exprs es o
  met_in (var p x) o = o
  met_in (fun_name p f) o = o
  met_in (literal p t) o = o
  met_in (list p es e) o = met_in e (met_in_exprs es o)
  met_in (tuple p es) o = met_in_exprs es o
  met_in (new_map p ps) o = met_in_parts ps o
  met_in (map_of p ps e) o = met_in e (met_in_parts ps o)
  met_in (binary p ss) o = met_in_segments ss o
  met_in (fun p xs e) o = met_in e o
  met_in (let_in p xs a b) o = met_in b (met_in a o)
  met_in (letrec p ds b) o = met_in b (met_in_defs ds o)
  met_in (case p e cs) o = met_in_clauses cs (met_in e o)
  met_in (apply p e es) o = met_in_exprs es (met_in e o)
  met_in (call p m f es) o = met_in_exprs es (met_in f (met_in m (first_with o (expr_outside (call p m f es)))))
  met_in (primop p n es) o = met_in_exprs es (first_with o (expr_outside (primop p n es)))
  met_in (do_then p a b) o = met_in b (met_in a o)
  met_in (catch p e) o = met_in e o
  met_in (try p a xs b ys c) o = met_in c (met_in b (met_in a o))
  met_in (receive p cs t b) o = met_in b (met_in t (met_in_clauses cs o))

  pub met_in_exprs : Exprs → Option Refusal → Option Refusal
  met_in_exprs no_expr o = o
  met_in_exprs (and_expr e es) o = met_in_exprs es (met_in e o)

  pub met_in_parts : MapParts → Option Refusal → Option Refusal
  met_in_parts no_part o = o
  met_in_parts (and_part (map_part k v x) ps) o = met_in_parts ps (met_in v (met_in k o))

  pub met_in_segments : Segments → Option Refusal → Option Refusal
  met_in_segments no_segment o = o
  met_in_segments (and_segment (segment p v s u k f) ss) o =
      met_in_segments ss (met_in s (met_in v (first_with o (segment_outside p s u k f))))

  pub met_in_defs : Defs → Option Refusal → Option Refusal
  met_in_defs no_def o = o
  met_in_defs (and_def (def p f e) ds) o = met_in_defs ds (met_in e o)

  pub met_in_clauses : Clauses → Option Refusal → Option Refusal
  met_in_clauses no_clause o = o
  met_in_clauses (and_clause (clause p qs g e) cs) o =
      met_in_clauses cs (met_in e (met_in g (met_in_patterns qs o)))

  pub met_in_pattern : Pattern → Option Refusal → Option Refusal
  met_in_pattern (any p x) o = o
  met_in_pattern (alias p x r) o = met_in_pattern r o
  met_in_pattern (known p t) o = o
  met_in_pattern (list_like p qs r) o = met_in_pattern r (met_in_patterns qs o)
  met_in_pattern (tuple_like p qs) o = met_in_patterns qs o
  met_in_pattern (map_like p ks) o = met_in_keys ks o
  met_in_pattern (bits_like p ss) o = met_in_segs ss o

  pub met_in_patterns : Patterns → Option Refusal → Option Refusal
  met_in_patterns no_pattern o = o
  met_in_patterns (and_pattern r qs) o = met_in_patterns qs (met_in_pattern r o)

  pub met_in_keys : KeyPatterns → Option Refusal → Option Refusal
  met_in_keys no_key o = o
  met_in_keys (and_key (key_pattern e r) ks) o = met_in_keys ks (met_in_pattern r (met_in e o))

  pub met_in_segs : SegPatterns → Option Refusal → Option Refusal
  met_in_segs no_seg o = o
  met_in_segs (and_seg (seg_pattern p r e u k f) ss) o =
      met_in_segs ss (met_in e (met_in_pattern r (first_with o (segment_outside p e u k f))))
