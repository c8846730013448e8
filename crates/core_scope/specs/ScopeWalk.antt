-- The way of the code through a module, which only its own contracts cite. That it keeps the first of `scope_faults` is
-- proved.
use Rattle.std.specs.Prelude.{ℕ, List, [], ◌∷◌, length, Bool, true, false, not, ◌&&◌, eqb, leb, Option, Some, None}
use Rattle.std.specs.Option.{is_some}
use Rattle.erl_base.specs.Names.{Name}
use Rattle.erl_base.specs.declared.ids.Place.{Place}
use Rattle.erl_base.specs.declared.refusal.Refusal.{Refusal}
use Rattle.erl_base.specs.declared.refusal.ScopeFault.TheVariants.{DoubledVariable, DoubledFunction, MissingExport, WrongArity, WrongDegree, ClauseWidth, GuardForm}
use Rattle.bif_table.specs.Builtins.{never_returns}
use Rattle.core_form.specs.declared.tree.Binder.{Binder}
use Rattle.core_form.specs.declared.module.FunName.{FunName}
use Rattle.core_form.specs.Core.{Module, Clause, Expr, values, var, fun_name, literal, list, tuple, new_map, map_of, binary, fun, let_in, letrec, case, apply, call, primop, do_then, catch, try, receive, Exprs, no_expr, and_expr, MapParts, no_part, and_part, map_part, Segments, no_segment, and_segment, segment, Defs, no_def, and_def, def, Clauses, no_clause, and_clause, clause, Pattern, any, alias, known, list_like, tuple_like, map_like, bits_like, Patterns, no_pattern, and_pattern, KeyPatterns, no_key, and_key, key_pattern, SegPatterns, no_seg, and_seg, seg_pattern}
use Rattle.core_form.specs.Scope.{Scope, variable, function, binding, function_of, with_names, names_of, params_of}
use Rattle.core_form.specs.Walks.{literal_name, expr_count}
use Rattle.core_names.specs.Table as Table
use Rattle.core_names.specs.declared.table.Known.{Known}
use Rattle.core_scope.specs.declared.judged.Judged.{Judged}
use Rattle.core_scope.specs.declared.judged.Wanted.{Wanted}
use Rattle.core_scope.specs.declared.judged.Wanted.TheVariants.{Nothing, Alike, Exactly}
use Rattle.core_scope.specs.Degrees.{scope_fault, one_unless, is_raising_primop, agrees_with, leaf_needs}
use Rattle.core_scope.specs.ScopeFaults.{variable_use, function_use, simple_use, pattern_count, is_guard_form}
use Rattle.first_fault.specs.FirstFault.{first_with}

-- Degrees.

-- the number of values that is wanted, once it is fixed
abbrev pub fixed : Wanted → Option ℕ
fixed Nothing = None
fixed Alike = None
fixed (Exactly n) = Some n

-- what is wanted behind a body with this degree
abbrev pub settled : Wanted → Option ℕ → Wanted
settled Nothing d = Nothing
settled Alike None = Alike
settled Alike (Some n) = Exactly n
settled (Exactly n) d = Exactly n

-- the first fault is another one
abbrev pub with_first : Option Refusal → Judged → Judged
with_first o s = record s { first = o }

-- where this is wanted
abbrev pub wanting : Wanted → Option Refusal → Judged
wanting w o = record { first = o; wanted = w }

-- an expression at p with this degree that is no body of another one
abbrev pub leaf : Place → Option ℕ → Judged → Judged
leaf p d s = record { first = first_with s.first (leaf_needs (fixed s.wanted) p d); wanted = settled s.wanted d }

-- the fault of an element that is a value list
abbrev pub value_list_fault : Expr → List Refusal
value_list_fault (values p es) = scope_fault true p WrongDegree
value_list_fault _ = []

-- how many values an element has to have; of a value list it is not asked
abbrev pub element_wanted : Expr → Wanted
element_wanted (values p es) = Nothing
element_wanted _ = Exactly 1

-- Names.

-- whether a binding is one of those from the kth on
abbrev pub is_since : ℕ → Option ℕ → Bool
is_since k None = false
is_since k (Some n) = leb k n

-- likewise of a function
abbrev pub is_known_since : ℕ → Option Known → Bool
is_known_since k None = false
is_known_since k (Some m) = leb k m.position

-- a variable that is bound at p, in a form that began where k bindings stood
abbrev pub variable_met : ℕ → Scope → Name → Place → Option Refusal → Option Refusal
variable_met k g x p o = first_with o (scope_fault (is_since k (binding g x)) p DoubledVariable)

-- variables
abbrev pub variables_met : List Binder → ℕ → Scope → Option Refusal → Option Refusal
variables_met [] k g o = o
variables_met (x ∷ xs) k g o =
    variables_met xs k (variable x.name (length g) ∷ g) (variable_met k g x.name x.place o)

-- the scope inside definitions
abbrev pub defs_scope : Defs → Scope → Scope
defs_scope no_def g = g
defs_scope (and_def (def p f e) ds) g = defs_scope ds (function f 0 [] ∷ g)

-- definitions of a form that began where k bindings stood
abbrev pub defs_met : Defs → ℕ → Scope → Option Refusal → Option Refusal
defs_met no_def k g o = o
defs_met (and_def (def p f e) ds) k g o =
    defs_met ds k (function f 0 [] ∷ g)
    (first_with (first_with o (scope_fault (is_known_since k (Table.function_known g f)) p DoubledFunction))
    (scope_fault (not (eqb f.arity (length (params_of e)))) p WrongArity))

-- exports
abbrev pub exports_met : List FunName → Scope → Option Refusal → Option Refusal
exports_met [] g o = o
exports_met (f ∷ fs) g o =
    exports_met fs g (first_with o (scope_fault (not (is_some (function_of g f.key))) f.place MissingExport))

-- Patterns.

-- the scope behind patterns
abbrev mutual
  pub pattern_scope : Pattern → Scope → Scope
  pattern_scope (any p x) g = variable x (length g) ∷ g
  pattern_scope (alias p x q) g = pattern_scope q (variable x (length g) ∷ g)
  pattern_scope (known p t) g = g
  pattern_scope (list_like p qs q) g = pattern_scope q (patterns_scope qs g)
  pattern_scope (tuple_like p qs) g = patterns_scope qs g
  pattern_scope (map_like p ks) g = keys_scope ks g
  pattern_scope (bits_like p ss) g = segs_scope ss g

  pub patterns_scope : Patterns → Scope → Scope
  patterns_scope no_pattern g = g
  patterns_scope (and_pattern q qs) g = patterns_scope qs (pattern_scope q g)

  pub keys_scope : KeyPatterns → Scope → Scope
  keys_scope no_key g = g
  keys_scope (and_key (key_pattern e q) ks) g = keys_scope ks (pattern_scope q g)

  pub segs_scope : SegPatterns → Scope → Scope
  segs_scope no_seg g = g
  segs_scope (and_seg (seg_pattern p q e u k f) ss) g = segs_scope ss (pattern_scope q g)

-- variables of the patterns of a clause, where k bindings stood before
abbrev mutual
  pub pattern_met : Pattern → ℕ → Scope → Option Refusal → Option Refusal
  pattern_met (any p x) k g o = variable_met k g x p o
  pattern_met (alias p x q) k g o = pattern_met q k (variable x (length g) ∷ g) (variable_met k g x p o)
  pattern_met (known p t) k g o = o
  pattern_met (list_like p qs q) k g o = pattern_met q k (patterns_scope qs g) (patterns_met qs k g o)
  pattern_met (tuple_like p qs) k g o = patterns_met qs k g o
  pattern_met (map_like p ks) k g o = keys_met ks k g o
  pattern_met (bits_like p ss) k g o = segs_met ss k g o

  pub patterns_met : Patterns → ℕ → Scope → Option Refusal → Option Refusal
  patterns_met no_pattern k g o = o
  patterns_met (and_pattern q qs) k g o = patterns_met qs k (pattern_scope q g) (pattern_met q k g o)

  pub keys_met : KeyPatterns → ℕ → Scope → Option Refusal → Option Refusal
  keys_met no_key k g o = o
  keys_met (and_key (key_pattern e q) ks) k g o = keys_met ks k (pattern_scope q g) (pattern_met q k g o)

  pub segs_met : SegPatterns → ℕ → Scope → Option Refusal → Option Refusal
  segs_met no_seg k g o = o
  segs_met (and_seg (seg_pattern p q e u l f) ss) k g o = segs_met ss k (pattern_scope q g) (pattern_met q k g o)

-- keys and sizes
abbrev mutual
  pub pattern_uses_met : Pattern → Scope → Option Refusal → Option Refusal
  pattern_uses_met (any p x) g o = o
  pattern_uses_met (alias p x q) g o = pattern_uses_met q g o
  pattern_uses_met (known p t) g o = o
  pattern_uses_met (list_like p qs q) g o = pattern_uses_met q g (patterns_uses_met qs g o)
  pattern_uses_met (tuple_like p qs) g o = patterns_uses_met qs g o
  pattern_uses_met (map_like p ks) g o = keys_uses_met ks g o
  pattern_uses_met (bits_like p ss) g o = segs_uses_met ss g o

  pub patterns_uses_met : Patterns → Scope → Option Refusal → Option Refusal
  patterns_uses_met no_pattern g o = o
  patterns_uses_met (and_pattern q qs) g o = patterns_uses_met qs g (pattern_uses_met q g o)

  pub keys_uses_met : KeyPatterns → Scope → Option Refusal → Option Refusal
  keys_uses_met no_key g o = o
  keys_uses_met (and_key (key_pattern e q) ks) g o =
      keys_uses_met ks g (pattern_uses_met q g (first_with o (simple_use g e)))

  pub segs_uses_met : SegPatterns → Scope → Option Refusal → Option Refusal
  segs_uses_met no_seg g o = o
  segs_uses_met (and_seg (seg_pattern p q e u k f) ss) g o =
      segs_uses_met ss (pattern_scope q g) (first_with o (simple_use g e))

-- the head of a clause at p for a subject with this degree
abbrev pub head_met : Place → Patterns → Option ℕ → Scope → Option Refusal → Option Refusal
head_met p qs n g o =
    patterns_met qs (length g) g (patterns_uses_met qs g
    (first_with o (scope_fault (not (agrees_with (Some (pattern_count qs)) n)) p ClauseWidth)))

-- the head of a clause
abbrev pub clause_head : Clause → Option ℕ → Scope → Option Refusal → Option Refusal
clause_head (clause p qs e c) n g o = head_met p qs n g o

-- the scope in its guard and body
abbrev pub clause_scope : Clause → Scope → Scope
clause_scope (clause p qs e c) g = patterns_scope qs g

-- Expressions; b: whether they stand in a guard.

-- a form at p that no guard has
abbrev pub unguarded : Bool → Place → Option Refusal → Option Refusal
unguarded b p o = first_with o (scope_fault b p GuardForm)

-- an element
abbrev pub as_element : Expr → Option Refusal → Judged
as_element e o = wanting (element_wanted e) (first_with o (value_list_fault e))

-- inside these variables
abbrev pub scoped : List Binder → Scope → Judged → Judged
scoped xs g s = with_first (variables_met xs (length g) g s.first) s

abbrev mutual
  pub judge : Expr → Scope → Bool → Judged → Judged
  judge (values p es) g b s = leaf p (Some (expr_count es)) (with_first (judge_elements es g b s.first) s)
  judge (var p x) g b s = leaf p (Some 1) (with_first (first_with s.first (variable_use g p x)) s)
  judge (fun_name p f) g b s =
      leaf p (Some 1) (with_first (first_with (unguarded b p s.first) (function_use g p f)) s)
  judge (literal p t) g b s = leaf p (Some 1) s
  judge (list p es e) g b s =
      leaf p (Some 1) (with_first (judge e g b (as_element e (judge_elements es g b s.first))).first s)
  judge (tuple p es) g b s = leaf p (Some 1) (with_first (judge_elements es g b s.first) s)
  judge (new_map p ps) g b s = leaf p (Some 1) (with_first (judge_parts ps g b s.first) s)
  judge (map_of p ps e) g b s =
      leaf p (Some 1) (with_first (judge e g b (as_element e (judge_parts ps g b s.first))).first s)
  judge (binary p ss) g b s = leaf p (Some 1) (with_first (judge_segments ss g b s.first) s)
  judge (fun p xs e) g b s =
      leaf p (Some 1) (with_first (judge e (with_names g (names_of xs)) b
      (scoped xs g (wanting (Exactly 1) (unguarded b p s.first)))).first s)
  judge (let_in p xs a c) g b s =
      judge c (with_names g (names_of xs)) b
      (scoped xs g (with_first (judge a g b (wanting (Exactly (length xs)) s.first)).first s))
  judge (letrec p ds c) g b s =
      judge c (defs_scope ds g) b
      (with_first (judge_defs ds (defs_scope ds g) b (defs_met ds (length g) g (unguarded b p s.first))) s)
  judge (case p e cs) g b s =
      judge_clauses cs (fixed (judge e g b (wanting Alike s.first)).wanted) g b
      (with_first (judge e g b (wanting Alike s.first)).first s)
  judge (apply p e es) g b s =
      leaf p (Some 1) (with_first (judge_elements es g b
      (judge e g b (wanting (Exactly 1) (unguarded b p s.first))).first) s)
  judge (call p m f es) g b s =
      leaf p (one_unless (never_returns (literal_name m) (literal_name f) (expr_count es)))
      (with_first (judge_elements es g b (judge f g b (wanting (Exactly 1)
      (judge m g b (wanting (Exactly 1)
      (unguarded (b && not (is_guard_form (call p m f es))) p s.first))).first)).first) s)
  judge (primop p n es) g b s =
      leaf p (one_unless (is_raising_primop n)) (with_first (judge_elements es g b (unguarded b p s.first)) s)
  judge (do_then p a c) g b s =
      judge c g b (with_first (judge a g b (wanting Alike (unguarded b p s.first))).first s)
  judge (catch p e) g b s =
      leaf p (Some 1) (with_first (judge e g b (wanting (Exactly 1) (unguarded b p s.first))).first s)
  judge (try p a xs c ys d) g b s =
      judge d (with_names g (names_of ys)) b (scoped ys g (judge c (with_names g (names_of xs)) b
      (scoped xs g (with_first (judge a g b (wanting (Exactly (length xs)) s.first)).first s))))
  judge (receive p cs t c) g b s =
      judge c g b (with_first (judge t g b (wanting (Exactly 1)
      (judge_clauses cs (Some 1) g b (with_first (unguarded b p s.first) s)).first)).first
      (judge_clauses cs (Some 1) g b (with_first (unguarded b p s.first) s)))

  pub judge_elements : Exprs → Scope → Bool → Option Refusal → Option Refusal
  judge_elements no_expr g b o = o
  judge_elements (and_expr e es) g b o = judge_elements es g b (judge e g b (as_element e o)).first

  pub judge_parts : MapParts → Scope → Bool → Option Refusal → Option Refusal
  judge_parts no_part g b o = o
  judge_parts (and_part (map_part k v x) ps) g b o =
      judge_parts ps g b (judge v g b (as_element v (judge k g b (as_element k o)).first)).first

  pub judge_segments : Segments → Scope → Bool → Option Refusal → Option Refusal
  judge_segments no_segment g b o = o
  judge_segments (and_segment (segment p v z u k f) ss) g b o =
      judge_segments ss g b (judge z g b (as_element z (judge v g b (as_element v o)).first)).first

  pub judge_defs : Defs → Scope → Bool → Option Refusal → Option Refusal
  judge_defs no_def g b o = o
  judge_defs (and_def (def p f e) ds) g b o = judge_defs ds g b (judge e g b (wanting Nothing o)).first

  -- clauses of a subject with this degree
  pub judge_clauses : Clauses → Option ℕ → Scope → Bool → Judged → Judged
  judge_clauses no_clause n g b s = s
  judge_clauses (and_clause (clause p qs e c) cs) n g b s =
      judge_clauses cs n g b (judge c (patterns_scope qs g) b
      (with_first (judge e (patterns_scope qs g) true (wanting (Exactly 1) (head_met p qs n g s.first))).first s))

-- an expression where this is wanted
abbrev pub judge_part : Wanted → Expr → Scope → Bool → Option Refusal → Option Refusal
judge_part w e g b o = (judge e g b (wanting w o)).first

-- an element
abbrev pub judge_element : Expr → Scope → Bool → Option Refusal → Option Refusal
judge_element e g b o = (judge e g b (as_element e o)).first

-- an expression inside these variables
abbrev pub judge_scope : List Binder → Expr → Scope → Bool → Judged → Judged
judge_scope xs e g b s = judge e (with_names g (names_of xs)) b (scoped xs g s)

-- a module's faults so far
abbrev pub judge_module : Module → Option Refusal
judge_module m =
    judge_defs m.defs (defs_scope m.defs []) false
    (exports_met m.exports (defs_scope m.defs []) (defs_met m.defs 0 [] None))
