-- The functions that stand in an expression, and the variables that each captures (this project's own).
use Rattle.std.specs.Prelude.{ℕ, suc, ◌+◌, List, [], ◌∷◌, ◌++◌, ◌&&◌, ltb, length, Option, Some, None, if◌then◌else◌, not}
use Rattle.erl_base.specs.Lists.{among}
use Rattle.erl_base.specs.Names.{Name}
use Rattle.erl_base.specs.declared.ids.Place.{Place}
use Rattle.core_form.specs.Core.{Expr, values, var, fun_name, literal, list, tuple, new_map, map_of, binary, fun, let_in, letrec, case, apply, call, primop, do_then, catch, try, receive, Exprs, no_expr, and_expr, MapParts, no_part, and_part, map_part, Segments, no_segment, and_segment, segment, Defs, no_def, and_def, def, Clauses, no_clause, and_clause, clause, Pattern, any, alias, known, list_like, tuple_like, map_like, bits_like, Patterns, no_pattern, and_pattern, KeyPatterns, no_key, and_key, key_pattern, SegPatterns, no_seg, and_seg, seg_pattern}
use Rattle.core_form.specs.Scope.{Use, Scope, function, binding, function_of, with_names, names_of, body_of, bound, bound_all}

-- How many sites stand in an expression.
abbrev mutual
  pub sites_in : Expr → ℕ
  sites_in (values p es) = sites_in_all es
  sites_in (var p x) = 0
  sites_in (fun_name p f) = 0
  sites_in (literal p t) = 0
  sites_in (list p es e) = sites_in_all es + sites_in e
  sites_in (tuple p es) = sites_in_all es
  sites_in (new_map p ps) = sites_in_parts ps
  sites_in (map_of p ps e) = sites_in_parts ps + sites_in e
  sites_in (binary p ss) = sites_in_segments ss
  sites_in (fun p xs e) = suc (sites_in e)
  sites_in (let_in p xs a b) = sites_in a + sites_in b
  sites_in (letrec p ds b) = sites_in_defs ds + sites_in b
  sites_in (case p e cs) = sites_in e + sites_in_clauses cs
  sites_in (apply p e es) = sites_in e + sites_in_all es
  sites_in (call p m f es) = sites_in m + sites_in f + sites_in_all es
  sites_in (primop p n es) = sites_in_all es
  sites_in (do_then p a b) = sites_in a + sites_in b
  sites_in (catch p e) = sites_in e
  sites_in (try p a xs b ys c) = sites_in a + sites_in b + sites_in c
  sites_in (receive p cs t b) = sites_in_clauses cs + sites_in t + sites_in b

  pub sites_in_all : Exprs → ℕ
  sites_in_all no_expr = 0
  sites_in_all (and_expr e es) = sites_in e + sites_in_all es

  pub sites_in_parts : MapParts → ℕ
  sites_in_parts no_part = 0
  sites_in_parts (and_part (map_part k v x) ps) = sites_in k + sites_in v + sites_in_parts ps

  pub sites_in_segments : Segments → ℕ
  sites_in_segments no_segment = 0
  sites_in_segments (and_segment (segment p v s u k f) ss) = sites_in v + sites_in s + sites_in_segments ss

  -- a definition is a site, and so are those in its fun's body
  pub sites_in_defs : Defs → ℕ
  sites_in_defs no_def = 0
  sites_in_defs (and_def (def p f (fun q xs e)) ds) = suc (sites_in e) + sites_in_defs ds
  sites_in_defs (and_def (def p f e) ds) = suc (sites_in e) + sites_in_defs ds

  pub sites_in_clauses : Clauses → ℕ
  sites_in_clauses no_clause = 0
  sites_in_clauses (and_clause (clause p qs g e) cs) = sites_in g + sites_in e + sites_in_clauses cs

-- the functions of a group, whose first site is k, all with these captures
abbrev pub with_defs : Defs → ℕ → List Use → Scope → Scope
with_defs no_def k us g = g
with_defs (and_def (def p f e) ds) k us g = with_defs ds (k + suc (sites_in (body_of e))) us (function f k us ∷ g)

-- Captures.

-- a use of a variable, if the name means one
abbrev pub found : Name → Place → Option ℕ → List Use
found x p None = []
found x p (Some n) = record { name = x; number = n; place = p } ∷ []

-- what a function that a name means captures
abbrev pub captured : Option (ℕ × List Use) → List Use
captured None = []
captured (Some f) = f.1

-- uses at another place
abbrev pub placed : Place → List Use → List Use
placed p [] = []
placed p (u ∷ us) = record u { place = p } ∷ placed p us

-- the first use of each variable whose number is below l
abbrev pub once_below : ℕ → List ℕ → List Use → List Use
once_below l seen [] = []
once_below l seen (u ∷ us) =
    if ltb u.number l && not (among u.number seen) then u ∷ once_below l (u.number ∷ seen) us else once_below l seen us

-- The uses of variables in an expression, in the order of the text. A function's name is a use of all that its group
-- captures. What a group captures is counted as if its own names stood nowhere, in what it looks up on the way too.
abbrev mutual
  pub occurring : Expr → Scope → List Use
  occurring (values p es) g = occurring_all es g
  occurring (var p x) g = found x p (binding g x)
  occurring (fun_name p f) g = placed p (captured (function_of g f))
  occurring (literal p t) g = []
  occurring (list p es e) g = occurring_all es g ++ occurring e g
  occurring (tuple p es) g = occurring_all es g
  occurring (new_map p ps) g = occurring_parts ps g
  occurring (map_of p ps e) g = occurring_parts ps g ++ occurring e g
  occurring (binary p ss) g = occurring_segments ss g
  occurring (fun p xs e) g = occurring e (with_names g (names_of xs))
  occurring (let_in p xs a b) g = occurring a g ++ occurring b (with_names g (names_of xs))
  occurring (letrec p ds b) g =
      let h = with_defs ds 0 (once_below (length g) [] (occurring_defs ds (with_defs ds 0 [] g))) g in
      occurring_defs ds h ++ occurring b h
  occurring (case p e cs) g = occurring e g ++ occurring_clauses cs g
  occurring (apply p e es) g = occurring e g ++ occurring_all es g
  occurring (call p m f es) g = occurring m g ++ occurring f g ++ occurring_all es g
  occurring (primop p n es) g = occurring_all es g
  occurring (do_then p a b) g = occurring a g ++ occurring b g
  occurring (catch p e) g = occurring e g
  occurring (try p a xs b ys c) g =
      occurring a g ++ occurring b (with_names g (names_of xs)) ++ occurring c (with_names g (names_of ys))
  occurring (receive p cs t b) g = occurring_clauses cs g ++ occurring t g ++ occurring b g

  pub occurring_all : Exprs → Scope → List Use
  occurring_all no_expr g = []
  occurring_all (and_expr e es) g = occurring e g ++ occurring_all es g

  pub occurring_parts : MapParts → Scope → List Use
  occurring_parts no_part g = []
  occurring_parts (and_part (map_part k v x) ps) g = occurring k g ++ occurring v g ++ occurring_parts ps g

  pub occurring_segments : Segments → Scope → List Use
  occurring_segments no_segment g = []
  occurring_segments (and_segment (segment p v s u k f) ss) g =
      occurring v g ++ occurring s g ++ occurring_segments ss g

  pub occurring_defs : Defs → Scope → List Use
  occurring_defs no_def g = []
  occurring_defs (and_def (def p f e) ds) g = occurring e g ++ occurring_defs ds g

  pub occurring_clauses : Clauses → Scope → List Use
  occurring_clauses no_clause g = []
  occurring_clauses (and_clause (clause p qs e b) cs) g =
      occurring_patterns qs g ++ occurring e (with_names g (bound_all qs)) ++ occurring b (with_names g (bound_all qs))
      ++ occurring_clauses cs g

  pub occurring_pattern : Pattern → Scope → List Use
  occurring_pattern (any p x) g = []
  occurring_pattern (alias p x q) g = occurring_pattern q g
  occurring_pattern (known p t) g = []
  occurring_pattern (list_like p qs q) g = occurring_patterns qs g ++ occurring_pattern q g
  occurring_pattern (tuple_like p qs) g = occurring_patterns qs g
  occurring_pattern (map_like p ks) g = occurring_keys ks g
  occurring_pattern (bits_like p ss) g = occurring_segs ss g

  pub occurring_patterns : Patterns → Scope → List Use
  occurring_patterns no_pattern g = []
  occurring_patterns (and_pattern q qs) g = occurring_pattern q g ++ occurring_patterns qs g

  pub occurring_keys : KeyPatterns → Scope → List Use
  occurring_keys no_key g = []
  occurring_keys (and_key (key_pattern e q) ks) g = occurring e g ++ occurring_pattern q g ++ occurring_keys ks g

  -- a size means the nearest earlier variable of its binary, else what the name means outside
  pub occurring_segs : SegPatterns → Scope → List Use
  occurring_segs no_seg g = []
  occurring_segs (and_seg (seg_pattern p q e u k f) ss) g = occurring e g ++ occurring_segs ss (with_names g (bound q))

-- what a fun with this right side captures, and what a group captures
abbrev pub captures_of : Expr → Scope → List Use
captures_of e g = once_below (length g) [] (occurring e g)

-- what the functions of a group capture
abbrev pub group_captures : Defs → Scope → List Use
group_captures ds g = once_below (length g) [] (occurring_defs ds (with_defs ds 0 [] g))

-- a scope inside a group whose first site is k
abbrev pub in_group : Defs → ℕ → Scope → Scope
in_group ds k g = with_defs ds k (group_captures ds g) g
