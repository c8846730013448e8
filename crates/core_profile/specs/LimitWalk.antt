-- One way through a module that meets all limits: what the walk of the code does, which only its own contracts cite.
-- That it finds the first of `limit_faults` is proved.
use Rattle.std.specs.Prelude.{ℕ, ◌+◌, List, length, Bool, true, false, eqb, ltb, if◌then◌else◌, get_or}
use Rattle.erl_base.specs.declared.ids.Place.{Place}
use Rattle.erl_base.specs.declared.refusal.Refusal.{Refusal}
use Rattle.erl_base.specs.declared.refusal.Kind.TheVariants.{Limit}
use Rattle.erl_base.specs.declared.refusal.LimitName.TheVariants.{Nodes, Definitions, Receive}
use Rattle.core_form.specs.Core.{Expr, values, var, fun_name, literal, list, tuple, new_map, map_of, binary, fun, let_in, letrec, case, apply, call, primop, do_then, catch, try, receive, Exprs, no_expr, and_expr, MapParts, no_part, and_part, map_part, Segments, no_segment, and_segment, segment, Def, Defs, no_def, and_def, def, Clauses, no_clause, and_clause, clause, Pattern, any, alias, known, list_like, tuple_like, map_like, bits_like, Patterns, no_pattern, and_pattern, KeyPatterns, no_key, and_key, key_pattern, SegPatterns, no_seg, and_seg, seg_pattern}
use Rattle.core_form.specs.Scope.{params_of, body_of}
use Rattle.core_form.specs.Sites.{place_of}
use Rattle.core_form.specs.Walks.{expr_count}
use Rattle.core_profile.specs.declared.progress.Progress.{Progress}
use Rattle.core_profile.specs.declared.progress.InReceive.{InReceive}
use Rattle.core_profile.specs.LimitFaults.{capped, over, over_arity, most_nodes, most_definitions, most_receive_nodes}
use Rattle.first_fault.specs.FirstFault.{first_with, fault_if}

-- faults that are met
abbrev pub meeting : List Refusal → Progress → Progress
meeting faults s = record s { first = first_with s.first faults }

-- so many nodes more
abbrev pub with_nodes : ℕ → Progress → Progress
with_nodes n s = record s { nodes = capped (s.nodes + n) }

-- the nodes counted from this number on
abbrev pub nodes_from : ℕ → Progress → Progress
nodes_from n s = record s { nodes = n }

-- the end of a receive, whose heads have so many nodes
abbrev pub receive_end : Place → InReceive → Progress
receive_end p h = meeting (over Receive most_receive_nodes p h.heads) h.progress

-- the nodes of a right side before its body
abbrev pub head_count : Expr → ℕ
head_count (fun q xs e) = 1 + length xs
head_count e = 0

-- the end of the kth definition, which stands at p, of so many in all
abbrev pub definition_end : (all : ℕ) → (k : ℕ) → Place → Progress → Progress
definition_end all k p s =
    meeting (fault_if (eqb k most_definitions) p (Limit Definitions all)) (meeting (over Nodes most_nodes p s.nodes) s)

-- Given how many variables each function captures, in the order of sites.
module _ (counts : List ℕ) where
  -- the next function, at p and with n parameters
  abbrev pub function_at : Place → ℕ → Progress → Progress
  function_at p n s = record {
    first = first_with s.first (over_arity p (n + get_or counts s.site 0));
    nodes = s.nodes;
    site = if ltb s.site (length counts) then s.site + 1 else s.site;
  }

  -- the same where functions are told apart; those in the keys of patterns are not
  abbrev pub function_if : Bool → Place → ℕ → Progress → Progress
  function_if false p n s = s
  function_if true p n s = function_at p n s

  -- a right side that is no fun is a function all the same, at the place of its name
  abbrev pub function_unless : Bool → Place → Expr → Progress → Progress
  function_unless b p (fun q xs e) s = s
  function_unless b p e s = function_if b p 0 s

  -- b: whether functions are told
  abbrev mutual
    pub walk : Bool → Expr → Progress → Progress
    walk b (values p es) s = walk_exprs b es (with_nodes 1 s)
    walk b (var p x) s = with_nodes 1 s
    walk b (fun_name p f) s = meeting (over_arity p f.arity) (with_nodes 1 s)
    walk b (literal p t) s = with_nodes 1 s
    walk b (list p es e) s = walk b e (walk_exprs b es (with_nodes 1 s))
    walk b (tuple p es) s = walk_exprs b es (with_nodes 1 s)
    walk b (new_map p ps) s = walk_parts b ps (with_nodes 1 s)
    walk b (map_of p ps e) s = walk b e (walk_parts b ps (with_nodes 1 s))
    walk b (binary p ss) s = walk_segments b ss (with_nodes 1 s)
    walk b (fun p xs e) s = walk b e (function_if b p (length xs) (with_nodes (1 + length xs) s))
    walk b (let_in p xs a c) s = walk b c (walk b a (with_nodes (1 + length xs) s))
    walk b (letrec p ds c) s = walk b c (walk_defs b ds (with_nodes 1 s))
    walk b (case p e cs) s = (walk_clauses b cs (record { progress = walk b e (with_nodes 1 s); heads = 0 })).progress
    walk b (apply p e es) s = walk_exprs b es (walk b e (meeting (over_arity p (expr_count es)) (with_nodes 1 s)))
    walk b (call p m f es) s =
        walk_exprs b es (walk b f (walk b m (meeting (over_arity p (expr_count es)) (with_nodes 1 s))))
    walk b (primop p n es) s = walk_exprs b es (meeting (over_arity p (expr_count es)) (with_nodes 1 s))
    walk b (do_then p a c) s = walk b c (walk b a (with_nodes 1 s))
    walk b (catch p e) s = walk b e (with_nodes 1 s)
    walk b (try p a xs c ys d) s = walk b d (walk b c (walk b a (with_nodes (1 + (length xs + length ys)) s)))
    walk b (receive p cs t c) s =
        walk b c (walk b t
        (receive_end p (walk_clauses b cs (record { progress = with_nodes 1 s; heads = 0 }))))

    pub walk_exprs : Bool → Exprs → Progress → Progress
    walk_exprs b no_expr s = s
    walk_exprs b (and_expr e es) s = walk_exprs b es (walk b e s)

    pub walk_parts : Bool → MapParts → Progress → Progress
    walk_parts b no_part s = s
    walk_parts b (and_part (map_part k v x) ps) s = walk_parts b ps (walk b v (walk b k s))

    pub walk_segments : Bool → Segments → Progress → Progress
    walk_segments b no_segment s = s
    walk_segments b (and_segment (segment p v z u k f) ss) s =
        walk_segments b ss (walk b z (walk b v (with_nodes 1 s)))

    pub walk_def : Bool → Def → Progress → Progress
    walk_def b (def p f e) s = walk b e (function_unless b p e (meeting (over_arity p f.arity) s))

    pub walk_defs : Bool → Defs → Progress → Progress
    walk_defs b no_def s = s
    walk_defs b (and_def d ds) s = walk_defs b ds (walk_def b d s)

    pub walk_clauses : Bool → Clauses → InReceive → InReceive
    walk_clauses b no_clause h = h
    walk_clauses b (and_clause (clause p qs g e) cs) h =
        let head = walk b g (walk_patterns qs (nodes_from 0 h.progress)) in
        walk_clauses b cs (record {
          progress = walk b e (nodes_from (capped (h.progress.nodes + capped (1 + head.nodes))) head);
          heads = capped (h.heads + head.nodes);
        })

    pub walk_pattern : Pattern → Progress → Progress
    walk_pattern (any p x) s = with_nodes 1 s
    walk_pattern (alias p x r) s = walk_pattern r (with_nodes 1 s)
    walk_pattern (known p t) s = with_nodes 1 s
    walk_pattern (list_like p qs r) s = walk_pattern r (walk_patterns qs (with_nodes 1 s))
    walk_pattern (tuple_like p qs) s = walk_patterns qs (with_nodes 1 s)
    walk_pattern (map_like p ks) s = walk_keys ks (with_nodes 1 s)
    walk_pattern (bits_like p ss) s = walk_segs ss (with_nodes 1 s)

    pub walk_patterns : Patterns → Progress → Progress
    walk_patterns no_pattern s = s
    walk_patterns (and_pattern r qs) s = walk_patterns qs (walk_pattern r s)

    pub walk_keys : KeyPatterns → Progress → Progress
    walk_keys no_key s = s
    walk_keys (and_key (key_pattern e r) ks) s = walk_keys ks (walk_pattern r (walk false e s))

    pub walk_segs : SegPatterns → Progress → Progress
    walk_segs no_seg s = s
    walk_segs (and_seg (seg_pattern p r e u k f) ss) s =
        walk_segs ss (walk false e (walk_pattern r (with_nodes 1 s)))

  -- a definition of a module, which captures nothing
  abbrev pub walk_definition : (all : ℕ) → (k : ℕ) → Def → Progress → Progress
  walk_definition all k (def p f e) s =
      definition_end all k p (walk true (body_of e) (nodes_from (head_count e)
      (meeting (over_arity (place_of p e) (length (params_of e))) (meeting (over_arity p f.arity) s))))

  -- the definitions of a module from the kth on
  abbrev pub walk_module : (all : ℕ) → (k : ℕ) → Defs → Progress → Progress
  walk_module all k no_def s = s
  walk_module all k (and_def d ds) s = walk_module all (k + 1) ds (walk_definition all k d s)
