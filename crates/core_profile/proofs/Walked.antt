-- The walk for limits meets what each piece is asked for and what its functions pass, form by form.
use Rattle.std.proofs.Common.{◌≡◌, ℕ, suc, ◌+◌, List, [], ◌∷◌, ◌++◌, length, Bool, false, sym, ap, ◌∙◌, arith}
use Rattle.std.proofs.Math.Nat.{add-zero, zero-add}
use Rattle.std.proofs.lemmas.List.{append-nil}
use Rattle.std.proofs.lemmas.List.Sums.{sum_by-append}
use Rattle.erl_base.specs.declared.ids.Place.{Place}
use Rattle.erl_base.specs.declared.refusal.Refusal.{Refusal}
use Rattle.erl_base.specs.declared.refusal.LimitName.TheVariants.{Receive}
use Rattle.core_form.specs.Core.{Expr, values, var, fun_name, literal, list, tuple, new_map, map_of, binary, fun, let_in, letrec, case, apply, call, primop, do_then, catch, try, receive, Exprs, no_expr, and_expr, MapParts, no_part, and_part, map_part, Segments, no_segment, and_segment, segment, Defs, no_def, and_def, def, Clauses, no_clause, and_clause, clause, Pattern, any, alias, known, list_like, tuple_like, map_like, bits_like, Patterns, no_pattern, and_pattern, KeyPatterns, no_key, and_key, key_pattern, SegPatterns, no_seg, and_seg, seg_pattern}
use Rattle.core_form.specs.Scope.{Scope, Use, with_names, names_of, bound_all}
use Rattle.core_form.specs.Captures.{in_group, group_captures, sites_in, sites_in_all, sites_in_parts, sites_in_defs, sites_in_clauses}
use Rattle.core_form.specs.Sites.{Site, fun_site, named_site, sites, sites_all, sites_parts, sites_segments, sites_defs, sites_clauses}
use Rattle.core_form.specs.Walks.{all_in, all_exprs, all_parts, all_segments, all_defs, all_clauses, all_pattern, all_patterns, all_keys, all_segs, expr_count}
use Rattle.core_form.specs.Nodes.{node, nodes, head_nodes, pattern_nodes}
use Rattle.core_profile.specs.declared.progress.Progress.{Progress}
use Rattle.core_profile.specs.declared.progress.InReceive.{InReceive}
use Rattle.core_profile.specs.LimitFaults.{limits_of, capped, over, over_arity, name_limits, most_receive_nodes}
use Rattle.core_profile.specs.LimitWalk.{meeting, with_nodes, nodes_from, function_if, walk, walk_exprs, walk_parts, walk_segments, walk_defs, receive_end, walk_clauses, walk_pattern, walk_patterns, walk_keys, walk_segs}
use Rattle.core_profile.proofs.Same.{itself, both, crossed, equal}
use Rattle.core_profile.proofs.Goes.{Goes, Walks, Stand, onward, counting, binding, meets, asked_as, quiet, idle, passing, clause_head, over_same, stand_front, stand_on}

module _ (counts : List ℕ) where
  -- a walk through clauses, with the nodes of their heads
  pub record Heads (b : Bool) (h r : InReceive) (fs : List Refusal) (xs : List Site) (ns : List ℕ) (n : ℕ)
      : Type 0 where
    pub goes : Goes counts b h.progress r.progress fs xs ns
    pub heads : capped r.heads ≡ capped (h.heads + n)

  heads_go : {b : Bool} {h r : InReceive} {fs : List Refusal} {xs : List Site} {ns : List ℕ} {n : ℕ}
      → (Stand counts b h.progress.site xs → Heads b h r fs xs ns n)
      → Walks counts b h.progress r.progress fs xs ns
  heads_go w l = (w l).goes

  -- a node with an arity
  own : (b : Bool) (p : Place) (n : ℕ) (s : Progress)
      → Walks counts b s (meeting (over_arity p n) (with_nodes 1 s)) (over_arity p n) [] (1 ∷ [])
  own b p n s = asked_as counts (equal _ _ (append-nil (over_arity p n)))
      (meets counts (over_arity p n) (counting counts b 1 s))

  -- a name with its arity
  naming : (b : Bool) (p : Place) (n : ℕ) (s : Progress)
      → Walks counts b s (meeting (over_arity p n) s) (over_arity p n) [] []
  naming b p n s = asked_as counts (equal _ _ (append-nil (over_arity p n)))
      (meets counts (over_arity p n) (idle counts b s))

  -- the heads of a receive against their limit
  received : {b : Bool} {s : Progress} {r : InReceive} {fs : List Refusal} {xs : List Site} {ns : List ℕ} (p : Place)
      (n : ℕ) → (Stand counts b s.site xs → Heads b (record { progress = with_nodes 1 s; heads = 0 }) r fs xs ns n)
      → Walks counts b s (receive_end p r) (over Receive most_receive_nodes p n ++ fs) xs (1 ∷ ns)
  received {b} {s} {r} {fs} {xs} {ns} p n w l =
      let e : capped r.heads ≡ capped n = (w l).heads ∙ ap capped (zero-add n) in
      asked_as counts (both (equal _ _ (over_same Receive most_receive_nodes p r.heads n (omega arith) e)) (itself fs))
      (meets counts (over Receive most_receive_nodes p r.heads)
      (onward counts (counting counts b 1 s) (heads_go {h = record { progress = with_nodes 1 s; heads = 0 }} w))) l

  -- heads of a clause and of those behind it
  more_heads : (a b c h m n r : ℕ) → capped c ≡ capped (0 + (m + n)) → capped r ≡ capped (capped (h + c) + a)
      → capped r ≡ capped (h + (m + n + a))
  more_heads a b c h m n r e k = omega (arith, e, k)

  mutual
    pub walked : (b : Bool) (e : Expr) (g : Scope) (k : ℕ) (s : Progress)
        → Walks counts b s (walk counts b e s) (all_in limits_of e) (sites e g k) (all_in node e)
    walked b (values p es) g k s = onward counts (counting counts b 1 s) (walked_exprs b es g k (with_nodes 1 s))
    walked b (var p x) g k s = counting counts b 1 s
    walked b (fun_name p f) g k s = own b p f.arity s
    walked b (literal p t) g k s = counting counts b 1 s
    walked b (list p es e) g k s =
        onward counts (onward counts (counting counts b 1 s) (walked_exprs b es g k (with_nodes 1 s)))
        (walked b e g (k + sites_in_all es) (walk_exprs counts b es (with_nodes 1 s)))
    walked b (tuple p es) g k s = onward counts (counting counts b 1 s) (walked_exprs b es g k (with_nodes 1 s))
    walked b (new_map p ps) g k s = onward counts (counting counts b 1 s) (walked_parts b ps g k (with_nodes 1 s))
    walked b (map_of p ps e) g k s =
        onward counts (onward counts (counting counts b 1 s) (walked_parts b ps g k (with_nodes 1 s)))
        (walked b e g (k + sites_in_parts ps) (walk_parts counts b ps (with_nodes 1 s)))
    walked b (binary p ss) g k s = onward counts (counting counts b 1 s) (walked_segments b ss g k (with_nodes 1 s))
    walked b (fun p xs e) g k s =
        let t = with_nodes (1 + length xs) s in
        onward counts (onward counts (binding counts b (length xs) s) (passing counts b (fun_site p xs e g (suc k)) t))
        (walked b e (with_names g (names_of xs)) (suc k) (function_if counts b p (length xs) t))
    walked b (let_in p xs a c) g k s =
        let t = with_nodes (1 + length xs) s in
        onward counts (onward counts (binding counts b (length xs) s) (walked b a g k t))
        (walked b c (with_names g (names_of xs)) (k + sites_in a) (walk counts b a t))
    walked b (letrec p ds c) g k s =
        let t = with_nodes 1 s in
        onward counts (onward counts (counting counts b 1 s)
        (walked_defs b ds (in_group ds k g) (group_captures ds g) k t))
        (walked b c (in_group ds k g) (k + sites_in_defs ds) (walk_defs counts b ds t))
    walked b (case p e cs) g k s =
        let t = with_nodes 1 s in
        let h : InReceive = record { progress = walk counts b e t; heads = 0 } in
        onward counts (onward counts (counting counts b 1 s) (walked b e g k t))
        (heads_go {h = h} (walked_clauses b cs g (k + sites_in e) h))
    walked b (apply p e es) g k s =
        let t = meeting (over_arity p (expr_count es)) (with_nodes 1 s) in
        onward counts (onward counts (own b p (expr_count es) s) (walked b e g k t))
        (walked_exprs b es g (k + sites_in e) (walk counts b e t))
    walked b (call p m f es) g k s =
        let t = meeting (over_arity p (expr_count es)) (with_nodes 1 s) in
        let u = walk counts b m t in
        onward counts (onward counts (onward counts (own b p (expr_count es) s) (walked b m g k t))
        (walked b f g (k + sites_in m) u)) (walked_exprs b es g (k + sites_in m + sites_in f) (walk counts b f u))
    walked b (primop p n es) g k s =
        let t = meeting (over_arity p (expr_count es)) (with_nodes 1 s) in
        onward counts (own b p (expr_count es) s) (walked_exprs b es g k t)
    walked b (do_then p a c) g k s =
        let t = with_nodes 1 s in
        onward counts (onward counts (counting counts b 1 s) (walked b a g k t))
        (walked b c g (k + sites_in a) (walk counts b a t))
    walked b (catch p e) g k s = onward counts (counting counts b 1 s) (walked b e g k (with_nodes 1 s))
    walked b (try p a xs c ys d) g k s =
        let t = with_nodes (1 + (length xs + length ys)) s in
        let u = walk counts b a t in
        onward counts (onward counts (onward counts (binding counts b (length xs + length ys) s) (walked b a g k t))
        (walked b c (with_names g (names_of xs)) (k + sites_in a) u))
        (walked b d (with_names g (names_of ys)) (k + sites_in a + sites_in c) (walk counts b c u))
    walked b (receive p cs t c) g k s =
        let h : InReceive = record { progress = with_nodes 1 s; heads = 0 } in
        let u = receive_end p (walk_clauses counts b cs h) in
        onward counts (onward counts (received p (head_nodes cs) (walked_clauses b cs g k h))
        (walked b t g (k + sites_in_clauses cs) u))
        (walked b c g (k + sites_in_clauses cs + sites_in t) (walk counts b t u))

    walked_exprs : (b : Bool) (es : Exprs) (g : Scope) (k : ℕ) (s : Progress)
        → Walks counts b s (walk_exprs counts b es s) (all_exprs limits_of es) (sites_all es g k) (all_exprs node es)
    walked_exprs b no_expr g k s = idle counts b s
    walked_exprs b (and_expr e es) g k s =
        onward counts (walked b e g k s) (walked_exprs b es g (k + sites_in e) (walk counts b e s))

    walked_parts : (b : Bool) (ps : MapParts) (g : Scope) (k : ℕ) (s : Progress)
        → Walks counts b s (walk_parts counts b ps s) (all_parts limits_of ps) (sites_parts ps g k) (all_parts node ps)
    walked_parts b no_part g k s = idle counts b s
    walked_parts b (and_part (map_part a v x) ps) g k s =
        let t = walk counts b a s in
        onward counts (onward counts (walked b a g k s) (walked b v g (k + sites_in a) t))
        (walked_parts b ps g (k + sites_in a + sites_in v) (walk counts b v t))

    walked_segments : (b : Bool) (ss : Segments) (g : Scope) (k : ℕ) (s : Progress)
        → Walks counts b s (walk_segments counts b ss s) (all_segments limits_of ss) (sites_segments ss g k)
        (all_segments node ss)
    walked_segments b no_segment g k s = idle counts b s
    walked_segments b (and_segment (segment p v z u ty f) ss) g k s =
        let t = with_nodes 1 s in
        let w = walk counts b v t in
        onward counts (onward counts (onward counts (counting counts b 1 s) (walked b v g k t))
        (walked b z g (k + sites_in v) w))
        (walked_segments b ss g (k + sites_in v + sites_in z) (walk counts b z w))

    walked_defs : (b : Bool) (ds : Defs) (g : Scope) (us : List Use) (k : ℕ) (s : Progress)
        → Walks counts b s (walk_defs counts b ds s) (name_limits ds ++ all_defs limits_of ds) (sites_defs ds g us k)
        (all_defs node ds)
    walked_defs b no_def g us k s = idle counts b s
    walked_defs b (and_def (def p f (fun q xs e)) ds) g us k s =
        let t = meeting (over_arity p f.arity) s in
        let u = with_nodes (1 + length xs) t in
        let v = function_if counts b q (length xs) u in
        asked_as counts (crossed (over_arity p f.arity) (all_in limits_of e) (name_limits ds) (all_defs limits_of ds))
        (onward counts (onward counts (naming b p f.arity s)
        (onward counts (onward counts (binding counts b (length xs) t)
        (passing counts b (named_site p f (fun q xs e) g us (suc k)) u))
        (walked b e (with_names g (names_of xs)) (suc k) v)))
        (walked_defs b ds g us (k + suc (sites_in e)) (walk counts b e v)))
    walked_defs b (and_def (def p f e) ds) g us k s =
        let t = meeting (over_arity p f.arity) s in
        let v = function_if counts b p 0 t in
        asked_as counts (crossed (over_arity p f.arity) (all_in limits_of e) (name_limits ds) (all_defs limits_of ds))
        (onward counts (onward counts (naming b p f.arity s)
        (onward counts (passing counts b (named_site p f e g us (suc k)) t) (walked b e g (suc k) v)))
        (walked_defs b ds g us (k + suc (sites_in e)) (walk counts b e v)))

    walked_clauses : (b : Bool) (cs : Clauses) (g : Scope) (k : ℕ) (h : InReceive)
        → Stand counts b h.progress.site (sites_clauses cs g k)
        → Heads b h (walk_clauses counts b cs h) (all_clauses limits_of cs) (sites_clauses cs g k) (all_clauses node cs)
        (head_nodes cs)
    walked_clauses b no_clause g k h l =
        record { goes = idle counts b h.progress l; heads = ap capped (sym (add-zero h.heads)) }
    walked_clauses b (and_clause (clause p qs q e) cs) g k h l =
        let inner = with_names g (bound_all qs) in
        let start = nodes_from 0 h.progress in
        let front = walk_patterns counts qs start in
        let head = walk counts b q front in
        let t = nodes_from (capped (h.progress.nodes + capped (1 + head.nodes))) head in
        let body = walk counts b e t in
        let rest : InReceive = record { progress = body; heads = capped (h.heads + head.nodes) } in
        let j = k + sites_in q in
        let in_head = onward counts (walked_patterns b qs start) (walked b q inner k front) in
        let one = onward counts (clause_head counts {s = h.progress} {t = head} in_head) (walked b e inner j t) in
        let others = walked_clauses b cs g (j + sites_in e) rest in
        let there = stand_on counts one (sites_clauses cs g (j + sites_in e)) l in
        let first = in_head (stand_front counts b h.progress.site (sites q inner k)
        (sites e inner j) (stand_front counts b h.progress.site (sites q inner k ++ sites e inner j)
        (sites_clauses cs g (j + sites_in e)) l)) in
        record {
          goes = onward counts one (heads_go {h = rest} others) l;
          heads = more_heads (head_nodes cs) 0 head.nodes h.heads (pattern_nodes qs) (nodes q) _
              (first.nodes ∙ ap (λ n. capped (0 + n)) (sum_by-append (λ n. n) (all_patterns node qs) (all_in node q)))
              (others there).heads;
        }

    walked_pattern : (b : Bool) (r : Pattern) (s : Progress)
        → Walks counts b s (walk_pattern counts r s) (all_pattern limits_of r) [] (all_pattern node r)
    walked_pattern b (any p x) s = counting counts b 1 s
    walked_pattern b (alias p x r) s = onward counts (counting counts b 1 s) (walked_pattern b r (with_nodes 1 s))
    walked_pattern b (known p t) s = counting counts b 1 s
    walked_pattern b (list_like p qs r) s =
        let t = with_nodes 1 s in
        onward counts (onward counts (counting counts b 1 s) (walked_patterns b qs t))
        (walked_pattern b r (walk_patterns counts qs t))
    walked_pattern b (tuple_like p qs) s = onward counts (counting counts b 1 s) (walked_patterns b qs (with_nodes 1 s))
    walked_pattern b (map_like p ks) s = onward counts (counting counts b 1 s) (walked_keys b ks (with_nodes 1 s))
    walked_pattern b (bits_like p ss) s = onward counts (counting counts b 1 s) (walked_segs b ss (with_nodes 1 s))

    walked_patterns : (b : Bool) (qs : Patterns) (s : Progress)
        → Walks counts b s (walk_patterns counts qs s) (all_patterns limits_of qs) [] (all_patterns node qs)
    walked_patterns b no_pattern s = idle counts b s
    walked_patterns b (and_pattern r qs) s =
        onward counts (walked_pattern b r s) (walked_patterns b qs (walk_pattern counts r s))

    walked_keys : (b : Bool) (ks : KeyPatterns) (s : Progress)
        → Walks counts b s (walk_keys counts ks s) (all_keys limits_of ks) [] (all_keys node ks)
    walked_keys b no_key s = idle counts b s
    walked_keys b (and_key (key_pattern e r) ks) s =
        let t = walk counts false e s in
        onward counts (onward counts (quiet counts b (walked false e [] 0 s)) (walked_pattern b r t))
        (walked_keys b ks (walk_pattern counts r t))

    walked_segs : (b : Bool) (ss : SegPatterns) (s : Progress)
        → Walks counts b s (walk_segs counts ss s) (all_segs limits_of ss) [] (all_segs node ss)
    walked_segs b no_seg s = idle counts b s
    walked_segs b (and_seg (seg_pattern p r e u k f) ss) s =
        let t = with_nodes 1 s in
        let v = walk_pattern counts r t in
        onward counts (onward counts (onward counts (counting counts b 1 s) (walked_pattern b r t))
        (quiet counts b (walked false e [] 0 v))) (walked_segs b ss (walk counts false e v))
