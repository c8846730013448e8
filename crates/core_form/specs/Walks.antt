-- Walks over an expression: what stands in it outside of the functions in it, and everything in it.
use Rattle.std.specs.Prelude.{ℕ, suc, List, [], ◌∷◌, ◌++◌, length, Bool, true, false, ◌&&◌, ◌||◌, eqb, if◌then◌else◌, codes}
use Rattle.erl_base.specs.Names.{Name, same_name}
use Rattle.erl_base.specs.declared.ids.Place.{Place}
use Rattle.erl_term.specs.Term as T
use Rattle.erl_term.specs.Term.{Term}
use Rattle.core_form.specs.declared.tree.Binder.{Binder}
use Rattle.core_form.specs.Core.{Expr, values, var, fun_name, literal, list, tuple, new_map, map_of, binary, fun, let_in, letrec, case, apply, call, primop, do_then, catch, try, receive, Exprs, no_expr, and_expr, MapParts, no_part, and_part, map_part, Segments, no_segment, and_segment, segment, Defs, no_def, and_def, def, Clauses, no_clause, and_clause, clause, Pattern, any, alias, known, list_like, tuple_like, map_like, bits_like, Patterns, no_pattern, and_pattern, KeyPatterns, no_key, and_key, key_pattern, SegPatterns, no_seg, and_seg, seg_pattern}
use Rattle.core_form.specs.Scope.{Scope, with_names, names_of, bound_all, Use}
use Rattle.core_form.specs.Captures.{with_defs, occurring}

-- the atom that a literal is
abbrev pub literal_name : Expr → Name
literal_name (literal p (T.atom a)) = a
literal_name _ = []

-- how many expressions there are
abbrev pub expr_count : Exprs → ℕ
expr_count no_expr = 0
expr_count (and_expr e es) = suc (expr_count es)

-- whether an expression is a call of erlang:f with n arguments, both names being literals
abbrev pub calls_erlang : Name → ℕ → Expr → Bool
calls_erlang f n (call p m g es) =
    same_name (literal_name m) (codes "erlang") && same_name (literal_name g) f && eqb (expr_count es) n
calls_erlang f n _ = false

-- a call that returns a new reference
abbrev pub makes_reference : Expr → Bool
makes_reference e = calls_erlang (codes "make_ref") 0 e || calls_erlang (codes "monitor") 2 e

-- the bindings by lets that make a reference, the innermost first
abbrev pub with_let : Expr → List Binder → Scope → List ℕ → List ℕ
with_let a (x ∷ []) g ls = elim (makes_reference a) [ true ↦ length g ∷ ls | false ↦ ls ]
with_let a _ g ls = ls

-- everything that `at` finds at an expression or inside it, given the scope there and the lets around it
module _ {A : Type 0} (at : Expr → Scope → List ℕ → List A) where
  abbrev mutual
    pub within : Expr → Scope → List ℕ → List A
    within (values p es) g ls = at (values p es) g ls ++ within_all es g ls
    within (var p x) g ls = at (var p x) g ls
    within (fun_name p f) g ls = at (fun_name p f) g ls
    within (literal p t) g ls = at (literal p t) g ls
    within (list p es e) g ls = at (list p es e) g ls ++ within_all es g ls ++ within e g ls
    within (tuple p es) g ls = at (tuple p es) g ls ++ within_all es g ls
    within (new_map p ps) g ls = at (new_map p ps) g ls ++ within_parts ps g ls
    within (map_of p ps e) g ls = at (map_of p ps e) g ls ++ within_parts ps g ls ++ within e g ls
    within (binary p ss) g ls = at (binary p ss) g ls ++ within_segments ss g ls
    within (fun p xs e) g ls = at (fun p xs e) g ls
    within (let_in p xs a b) g ls =
        at (let_in p xs a b) g ls ++ within a g ls ++ within b (with_names g (names_of xs)) (with_let a xs g ls)
    within (letrec p ds b) g ls = at (letrec p ds b) g ls ++ within b (with_defs ds 0 [] g) ls
    within (case p e cs) g ls = at (case p e cs) g ls ++ within e g ls ++ within_clauses cs g ls
    within (apply p e es) g ls = at (apply p e es) g ls ++ within e g ls ++ within_all es g ls
    within (call p m f es) g ls = at (call p m f es) g ls ++ within m g ls ++ within f g ls ++ within_all es g ls
    within (primop p n es) g ls = at (primop p n es) g ls ++ within_all es g ls
    within (do_then p a b) g ls = at (do_then p a b) g ls ++ within a g ls ++ within b g ls
    within (catch p e) g ls = at (catch p e) g ls ++ within e g ls
    within (try p a xs b ys c) g ls =
        at (try p a xs b ys c) g ls ++ within a g ls
        ++ within b (with_names g (names_of xs)) ls ++ within c (with_names g (names_of ys)) ls
    within (receive p cs t b) g ls =
        at (receive p cs t b) g ls ++ within_clauses cs g ls ++ within t g ls ++ within b g ls

    pub within_all : Exprs → Scope → List ℕ → List A
    within_all no_expr g ls = []
    within_all (and_expr e es) g ls = within e g ls ++ within_all es g ls

    pub within_parts : MapParts → Scope → List ℕ → List A
    within_parts no_part g ls = []
    within_parts (and_part (map_part k v x) ps) g ls = within k g ls ++ within v g ls ++ within_parts ps g ls

    pub within_segments : Segments → Scope → List ℕ → List A
    within_segments no_segment g ls = []
    within_segments (and_segment (segment p v s u k f) ss) g ls =
        within v g ls ++ within s g ls ++ within_segments ss g ls

    pub within_clauses : Clauses → Scope → List ℕ → List A
    within_clauses no_clause g ls = []
    within_clauses (and_clause (clause p qs e b) cs) g ls =
        within e (with_names g (bound_all qs)) ls ++ within b (with_names g (bound_all qs)) ls ++ within_clauses cs g ls

-- Uses of a binding.

-- how often a variable is used
abbrev pub times : ℕ → List Use → ℕ
times n [] = 0
times n (u ∷ us) = if eqb u.number n then suc (times n us) else times n us

-- how often a variable is used, in inner functions too; a function's name counts where its group captures it
abbrev pub uses : ℕ → Expr → Scope → ℕ
uses n e g = times n (occurring e g)

-- Everything, inner functions and patterns too, in the order of the text.

-- what is asked of expressions, patterns, clauses and segments; a segment has a size, a unit, a type and flags
pub record Asked (A : Type 0) : Type 0 where
  pub at_expr : Expr → List A
  pub at_pattern : Pattern → List A
  pub at_clause : Place → List A
  pub at_segment : Place → Expr → Term → Name → Term → List A

module _ {A : Type 0} (q : Asked A) where
  abbrev mutual
    pub all_in : Expr → List A
    all_in (values p es) = q.at_expr (values p es) ++ all_exprs es
    all_in (var p x) = q.at_expr (var p x)
    all_in (fun_name p f) = q.at_expr (fun_name p f)
    all_in (literal p t) = q.at_expr (literal p t)
    all_in (list p es e) = q.at_expr (list p es e) ++ all_exprs es ++ all_in e
    all_in (tuple p es) = q.at_expr (tuple p es) ++ all_exprs es
    all_in (new_map p ps) = q.at_expr (new_map p ps) ++ all_parts ps
    all_in (map_of p ps e) = q.at_expr (map_of p ps e) ++ all_parts ps ++ all_in e
    all_in (binary p ss) = q.at_expr (binary p ss) ++ all_segments ss
    all_in (fun p xs e) = q.at_expr (fun p xs e) ++ all_in e
    all_in (let_in p xs a b) = q.at_expr (let_in p xs a b) ++ all_in a ++ all_in b
    all_in (letrec p ds b) = q.at_expr (letrec p ds b) ++ all_defs ds ++ all_in b
    all_in (case p e cs) = q.at_expr (case p e cs) ++ all_in e ++ all_clauses cs
    all_in (apply p e es) = q.at_expr (apply p e es) ++ all_in e ++ all_exprs es
    all_in (call p m f es) = q.at_expr (call p m f es) ++ all_in m ++ all_in f ++ all_exprs es
    all_in (primop p n es) = q.at_expr (primop p n es) ++ all_exprs es
    all_in (do_then p a b) = q.at_expr (do_then p a b) ++ all_in a ++ all_in b
    all_in (catch p e) = q.at_expr (catch p e) ++ all_in e
    all_in (try p a xs b ys c) = q.at_expr (try p a xs b ys c) ++ all_in a ++ all_in b ++ all_in c
    all_in (receive p cs t b) = q.at_expr (receive p cs t b) ++ all_clauses cs ++ all_in t ++ all_in b

    pub all_exprs : Exprs → List A
    all_exprs no_expr = []
    all_exprs (and_expr e es) = all_in e ++ all_exprs es

    pub all_parts : MapParts → List A
    all_parts no_part = []
    all_parts (and_part (map_part k v x) ps) = all_in k ++ all_in v ++ all_parts ps

    pub all_segments : Segments → List A
    all_segments no_segment = []
    all_segments (and_segment (segment p v s u k f) ss) =
        q.at_segment p s u k f ++ all_in v ++ all_in s ++ all_segments ss

    -- a definition's right side is an expression too
    pub all_defs : Defs → List A
    all_defs no_def = []
    all_defs (and_def (def p f e) ds) = all_in e ++ all_defs ds

    pub all_clauses : Clauses → List A
    all_clauses no_clause = []
    all_clauses (and_clause (clause p qs g e) cs) =
        q.at_clause p ++ all_patterns qs ++ all_in g ++ all_in e ++ all_clauses cs

    pub all_pattern : Pattern → List A
    all_pattern (any p x) = q.at_pattern (any p x)
    all_pattern (alias p x r) = q.at_pattern (alias p x r) ++ all_pattern r
    all_pattern (known p t) = q.at_pattern (known p t)
    all_pattern (list_like p qs r) = q.at_pattern (list_like p qs r) ++ all_patterns qs ++ all_pattern r
    all_pattern (tuple_like p qs) = q.at_pattern (tuple_like p qs) ++ all_patterns qs
    all_pattern (map_like p ks) = q.at_pattern (map_like p ks) ++ all_keys ks
    all_pattern (bits_like p ss) = q.at_pattern (bits_like p ss) ++ all_segs ss

    pub all_patterns : Patterns → List A
    all_patterns no_pattern = []
    all_patterns (and_pattern r qs) = all_pattern r ++ all_patterns qs

    pub all_keys : KeyPatterns → List A
    all_keys no_key = []
    all_keys (and_key (key_pattern e r) ks) = all_in e ++ all_pattern r ++ all_keys ks

    pub all_segs : SegPatterns → List A
    all_segs no_seg = []
    all_segs (and_seg (seg_pattern p r e u k f) ss) = q.at_segment p e u k f ++ all_pattern r ++ all_in e ++ all_segs ss
