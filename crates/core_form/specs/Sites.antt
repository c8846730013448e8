-- The sites of a module: its definitions first, then its other functions in the order of the text (this project's own).
use Rattle.std.specs.Prelude.{ℕ, suc, ◌+◌, List, [], ◌∷◌, ◌++◌, length, Option, Some, None}
use Rattle.erl_base.specs.declared.ids.Place.{Place}
use Rattle.erl_base.specs.declared.ids.FunKey.{FunKey}
use Rattle.core_form.specs.declared.tree.Binder.{Binder}
use Rattle.core_form.specs.Core.{Module, Expr, values, var, fun_name, literal, list, tuple, new_map, map_of, binary, fun, let_in, letrec, case, apply, call, primop, do_then, catch, try, receive, Exprs, no_expr, and_expr, MapParts, no_part, and_part, map_part, Segments, no_segment, and_segment, segment, Defs, no_def, and_def, def, Clauses, no_clause, and_clause, clause}
use Rattle.core_form.specs.Scope.{Use, Scope, function, with_names, names_of, numbers_from, params_of, body_of, bound_all}
use Rattle.core_form.specs.Captures.{sites_in, sites_in_all, sites_in_parts, sites_in_defs, sites_in_clauses, captures_of, group_captures, in_group}

-- a function: its place (its name's where it has one), the place of its fun, its key where it has one, its parameters
-- and captures, what is seen where it stands, its body, and the number of the first site in it
pub record Site : Type 0 where
  pub place : Place
  pub fun_place : Place
  pub key : Option FunKey
  pub params : List Binder
  pub captures : List Use
  pub scope : Scope
  pub body : Expr
  pub first : ℕ

-- what its body sees
abbrev pub inside : Site → Scope
inside x = with_names x.scope (names_of x.params)

-- the numbers of its parameters
abbrev pub param_numbers : Site → List ℕ
param_numbers x = numbers_from (length x.scope) (length x.params)

-- the place of a definition's fun
abbrev pub place_of : Place → Expr → Place
place_of p (fun q xs e) = q
place_of p e = p

-- a definition's function, whose name stands at p
abbrev pub named_site : Place → FunKey → Expr → Scope → List Use → ℕ → Site
named_site p f e g us k = record {
  place = p;
  fun_place = place_of p e;
  key = Some f;
  params = params_of e;
  captures = us;
  scope = g;
  body = body_of e;
  first = k;
}

-- a fun that has no name
abbrev pub fun_site : Place → List Binder → Expr → Scope → ℕ → Site
fun_site p xs e g k = record {
  place = p;
  fun_place = p;
  key = None;
  params = xs;
  captures = captures_of (fun p xs e) g;
  scope = g;
  body = e;
  first = k;
}

-- The sites that stand in an expression, in the order of the text, from number k on.
abbrev mutual
  pub sites : Expr → Scope → ℕ → List Site
  sites (values p es) g k = sites_all es g k
  sites (var p x) g k = []
  sites (fun_name p f) g k = []
  sites (literal p t) g k = []
  sites (list p es e) g k = sites_all es g k ++ sites e g (k + sites_in_all es)
  sites (tuple p es) g k = sites_all es g k
  sites (new_map p ps) g k = sites_parts ps g k
  sites (map_of p ps e) g k = sites_parts ps g k ++ sites e g (k + sites_in_parts ps)
  sites (binary p ss) g k = sites_segments ss g k
  sites (fun p xs e) g k = fun_site p xs e g (suc k) ∷ sites e (with_names g (names_of xs)) (suc k)
  sites (let_in p xs a b) g k = sites a g k ++ sites b (with_names g (names_of xs)) (k + sites_in a)
  sites (letrec p ds b) g k =
      sites_defs ds (in_group ds k g) (group_captures ds g) k ++ sites b (in_group ds k g) (k + sites_in_defs ds)
  sites (case p e cs) g k = sites e g k ++ sites_clauses cs g (k + sites_in e)
  sites (apply p e es) g k = sites e g k ++ sites_all es g (k + sites_in e)
  sites (call p m f es) g k =
      sites m g k ++ sites f g (k + sites_in m) ++ sites_all es g (k + sites_in m + sites_in f)
  sites (primop p n es) g k = sites_all es g k
  sites (do_then p a b) g k = sites a g k ++ sites b g (k + sites_in a)
  sites (catch p e) g k = sites e g k
  sites (try p a xs b ys c) g k =
      sites a g k ++ sites b (with_names g (names_of xs)) (k + sites_in a)
      ++ sites c (with_names g (names_of ys)) (k + sites_in a + sites_in b)
  sites (receive p cs t b) g k =
      sites_clauses cs g k ++ sites t g (k + sites_in_clauses cs) ++ sites b g (k + sites_in_clauses cs + sites_in t)

  pub sites_all : Exprs → Scope → ℕ → List Site
  sites_all no_expr g k = []
  sites_all (and_expr e es) g k = sites e g k ++ sites_all es g (k + sites_in e)

  pub sites_parts : MapParts → Scope → ℕ → List Site
  sites_parts no_part g k = []
  sites_parts (and_part (map_part a v x) ps) g k =
      sites a g k ++ sites v g (k + sites_in a) ++ sites_parts ps g (k + sites_in a + sites_in v)

  pub sites_segments : Segments → Scope → ℕ → List Site
  sites_segments no_segment g k = []
  sites_segments (and_segment (segment p v s u t f) ss) g k =
      sites v g k ++ sites s g (k + sites_in v) ++ sites_segments ss g (k + sites_in v + sites_in s)

  -- the functions of a group, all with these captures
  pub sites_defs : Defs → Scope → List Use → ℕ → List Site
  sites_defs no_def g us k = []
  sites_defs (and_def (def p f (fun q xs e)) ds) g us k =
      named_site p f (fun q xs e) g us (suc k) ∷ sites e (with_names g (names_of xs)) (suc k)
      ++ sites_defs ds g us (k + suc (sites_in e))
  sites_defs (and_def (def p f e) ds) g us k =
      named_site p f e g us (suc k) ∷ sites e g (suc k) ++ sites_defs ds g us (k + suc (sites_in e))

  pub sites_clauses : Clauses → Scope → ℕ → List Site
  sites_clauses no_clause g k = []
  sites_clauses (and_clause (clause p qs e b) cs) g k =
      sites e (with_names g (bound_all qs)) k ++ sites b (with_names g (bound_all qs)) (k + sites_in e)
      ++ sites_clauses cs g (k + sites_in e + sites_in b)

-- Modules.

-- the module's own functions, which have the first numbers and capture nothing
abbrev pub module_scope : Defs → ℕ → Scope → Scope
module_scope no_def k g = g
module_scope (and_def (def p f e) ds) k g = module_scope ds (suc k) (function f k [] ∷ g)

-- how many definitions there are
abbrev pub def_count : Defs → ℕ
def_count no_def = 0
def_count (and_def d ds) = suc (def_count ds)

-- a module's definitions
abbrev pub own_sites : Defs → Scope → ℕ → List Site
own_sites no_def g k = []
own_sites (and_def (def p f e) ds) g k = named_site p f e g [] k ∷ own_sites ds g (k + sites_in (body_of e))

-- the functions in them
abbrev pub inner_sites : Defs → Scope → ℕ → List Site
inner_sites no_def g k = []
inner_sites (and_def (def p f e) ds) g k =
    sites (body_of e) (with_names g (names_of (params_of e))) k ++ inner_sites ds g (k + sites_in (body_of e))

-- all functions of a module
abbrev pub module_sites : Module → List Site
module_sites m =
    let g = module_scope m.defs 0 [] in
    own_sites m.defs g (def_count m.defs) ++ inner_sites m.defs g (def_count m.defs)
