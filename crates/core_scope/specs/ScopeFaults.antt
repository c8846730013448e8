-- The faults of names, degrees and guards in a module (Core Erlang 1.0.3, sections 4 and 5; what a guard may have is
-- this project's own).
use Rattle.std.specs.Prelude.{ℕ, suc, List, [], ◌∷◌, ◌++◌, length, Bool, true, false, not, ◌&&◌, ◌||◌, eqb, Option, Some, None, codes}
use Rattle.std.specs.Option.{is_some}
use Rattle.erl_base.specs.Names.{Name, same_name, is_key}
use Rattle.erl_base.specs.declared.ids.Place.{Place}
use Rattle.erl_base.specs.declared.ids.FunKey.{FunKey}
use Rattle.erl_base.specs.declared.refusal.Refusal.{Refusal}
use Rattle.erl_base.specs.declared.refusal.ScopeFault.TheVariants.{UnboundVariable, UnboundFunction, DoubledVariable, DoubledFunction, MissingExport, WrongArity, ClauseWidth, GuardForm}
use Rattle.erl_base.specs.declared.refusal.Fault.{Fault}
use Rattle.erl_base.specs.declared.refusal.Fault.TheVariants.{Refused, NoMemory}
use Rattle.bif_table.specs.Builtins.{lookup, is_guard}
use Rattle.core_form.specs.declared.tree.Binder.{Binder}
use Rattle.core_form.specs.declared.module.FunName.{FunName}
use Rattle.core_form.specs.Core.{Module, Expr, values, var, fun_name, literal, list, tuple, new_map, map_of, binary, fun, let_in, letrec, case, apply, call, primop, do_then, catch, try, receive, Exprs, no_expr, and_expr, MapParts, no_part, and_part, map_part, Segments, no_segment, and_segment, segment, Defs, no_def, and_def, def, Clauses, no_clause, and_clause, clause, Pattern, any, alias, known, list_like, tuple_like, map_like, bits_like, Patterns, no_pattern, and_pattern, KeyPatterns, no_key, and_key, key_pattern, SegPatterns, no_seg, and_seg, seg_pattern}
use Rattle.core_form.specs.Scope.{Scope, binding, function_of, with_names, names_of, params_of, bound, bound_all}
use Rattle.core_form.specs.Captures.{with_defs}
use Rattle.core_form.specs.Sites.{module_scope}
use Rattle.core_form.specs.Walks.{literal_name, expr_count}
use Rattle.core_scope.specs.Degrees.{scope_fault, degree, needs, needs_one, element_needs, operator_needs, agrees_with}
use Rattle.first_fault.specs.FirstFault.{IsFirst}

-- Names.

-- a use of a variable that nothing binds
abbrev pub variable_use : Scope → Place → Name → List Refusal
variable_use g p x = scope_fault (not (is_some (binding g x))) p UnboundVariable

-- a use of a function that nothing defines
abbrev pub function_use : Scope → Place → FunKey → List Refusal
function_use g p f = scope_fault (not (is_some (function_of g f))) p UnboundFunction

-- a key or a size, which is a use where it is a variable
abbrev pub simple_use : Scope → Expr → List Refusal
simple_use g (var p x) = variable_use g p x
simple_use g _ = []

-- whether a name is one of these
abbrev pub is_name_among : Name → List Name → Bool
is_name_among x [] = false
is_name_among x (y ∷ ys) = same_name x y || is_name_among x ys

-- variables that were bound before by the same form
abbrev pub doubled : List Name → List Binder → List Refusal
doubled seen [] = []
doubled seen (x ∷ xs) =
    scope_fault (is_name_among x.name seen) x.place DoubledVariable ++ doubled (x.name ∷ seen) xs

-- definitions of functions that were defined before by the same form, and those whose arity is not their name's
abbrev pub defined_faults : List FunKey → Defs → List Refusal
defined_faults seen no_def = []
defined_faults seen (and_def (def p f e) ds) =
    scope_fault (is_key f seen) p DoubledFunction
    ++ scope_fault (not (eqb f.arity (length (params_of e)))) p WrongArity
    ++ defined_faults (f ∷ seen) ds

-- the functions that are defined
abbrev pub defined : Defs → List FunKey
defined no_def = []
defined (and_def (def p f e) ds) = f ∷ defined ds

-- exports that nothing defines
abbrev pub export_faults : List FunKey → List FunName → List Refusal
export_faults keys [] = []
export_faults keys (f ∷ fs) = scope_fault (not (is_key f.key keys)) f.place MissingExport ++ export_faults keys fs

-- Patterns.

-- what patterns bind, in the order of the text, where they bind it
abbrev mutual
  pub pattern_binders : Pattern → List Binder
  pattern_binders (any p x) = record { name = x; place = p } ∷ []
  pattern_binders (alias p x q) = record { name = x; place = p } ∷ pattern_binders q
  pattern_binders (known p t) = []
  pattern_binders (list_like p qs q) = patterns_binders qs ++ pattern_binders q
  pattern_binders (tuple_like p qs) = patterns_binders qs
  pattern_binders (map_like p ks) = keys_binders ks
  pattern_binders (bits_like p ss) = segs_binders ss

  pub patterns_binders : Patterns → List Binder
  patterns_binders no_pattern = []
  patterns_binders (and_pattern q qs) = pattern_binders q ++ patterns_binders qs

  pub keys_binders : KeyPatterns → List Binder
  keys_binders no_key = []
  keys_binders (and_key (key_pattern e q) ks) = pattern_binders q ++ keys_binders ks

  pub segs_binders : SegPatterns → List Binder
  segs_binders no_seg = []
  segs_binders (and_seg (seg_pattern p q e u k f) ss) = pattern_binders q ++ segs_binders ss

-- Unbound keys and sizes. They mean what is outside of the clause, but for a size that is an earlier variable of its
-- own binary.
abbrev mutual
  pub pattern_uses : Scope → Pattern → List Refusal
  pattern_uses g (any p x) = []
  pattern_uses g (alias p x q) = pattern_uses g q
  pattern_uses g (known p t) = []
  pattern_uses g (list_like p qs q) = patterns_uses g qs ++ pattern_uses g q
  pattern_uses g (tuple_like p qs) = patterns_uses g qs
  pattern_uses g (map_like p ks) = keys_uses g ks
  pattern_uses g (bits_like p ss) = segs_uses g ss

  pub patterns_uses : Scope → Patterns → List Refusal
  patterns_uses g no_pattern = []
  patterns_uses g (and_pattern q qs) = pattern_uses g q ++ patterns_uses g qs

  pub keys_uses : Scope → KeyPatterns → List Refusal
  keys_uses g no_key = []
  keys_uses g (and_key (key_pattern e q) ks) = simple_use g e ++ pattern_uses g q ++ keys_uses g ks

  pub segs_uses : Scope → SegPatterns → List Refusal
  segs_uses g no_seg = []
  segs_uses g (and_seg (seg_pattern p q e u k f) ss) = simple_use g e ++ segs_uses (with_names g (bound q)) ss

-- how many patterns a clause has
abbrev pub pattern_count : Patterns → ℕ
pattern_count no_pattern = 0
pattern_count (and_pattern q qs) = suc (pattern_count qs)

-- Guards.

-- the functions of the module erlang that give a float
abbrev pub is_float_function : Name → ℕ → Bool
is_float_function f n = same_name f (codes "/") && eqb n 2 || same_name f (codes "float") && eqb n 1

-- the functions of the module erlang that a guard may call; what gives a float is refused later, as not compiled
abbrev pub is_guard_function : Name → ℕ → Bool
is_guard_function f n = elim (lookup f n) [ None ↦ is_float_function f n | Some b ↦ is_guard b ]

-- the forms that a guard may have
abbrev pub is_guard_form : Expr → Bool
is_guard_form (values p es) = true
is_guard_form (var p x) = true
is_guard_form (literal p t) = true
is_guard_form (list p es e) = true
is_guard_form (tuple p es) = true
is_guard_form (new_map p ps) = true
is_guard_form (map_of p ps e) = true
is_guard_form (binary p ss) = true
is_guard_form (let_in p xs a b) = true
is_guard_form (case p e cs) = true
is_guard_form (try p a xs b ys c) = true
is_guard_form (call p m f es) =
    same_name (literal_name m) (codes "erlang") && is_guard_function (literal_name f) (expr_count es)
is_guard_form (fun_name p f) = false
is_guard_form (fun p xs e) = false
is_guard_form (letrec p ds b) = false
is_guard_form (apply p e es) = false
is_guard_form (primop p n es) = false
is_guard_form (do_then p a b) = false
is_guard_form (catch p e) = false
is_guard_form (receive p cs t b) = false

-- a form at p that stands in a guard and may not
abbrev pub form_fault : Bool → Place → Expr → List Refusal
form_fault in_guard p e = scope_fault (in_guard && not (is_guard_form e)) p GuardForm

-- The faults in an expression, given the scope there, and whether it stands in a guard. All that a guard holds stands
-- in it, the guards and bodies of a `case` too; patterns are free.
abbrev mutual
  pub faults_in : Expr → Scope → Bool → List Refusal
  faults_in (values p es) g b = faults_of_elements es g b
  faults_in (var p x) g b = variable_use g p x
  faults_in (fun_name p f) g b = form_fault b p (fun_name p f) ++ function_use g p f
  faults_in (literal p t) g b = []
  faults_in (list p es e) g b = faults_of_elements es g b ++ element_needs e ++ faults_in e g b
  faults_in (tuple p es) g b = faults_of_elements es g b
  faults_in (new_map p ps) g b = faults_of_parts ps g b
  faults_in (map_of p ps e) g b = faults_of_parts ps g b ++ element_needs e ++ faults_in e g b
  faults_in (binary p ss) g b = faults_of_segments ss g b
  faults_in (fun p xs e) g b =
      form_fault b p (fun p xs e) ++ doubled [] xs ++ needs_one e ++ faults_in e (with_names g (names_of xs)) b
  faults_in (let_in p xs a c) g b =
      doubled [] xs ++ needs (Some (length xs)) a ++ faults_in a g b ++ faults_in c (with_names g (names_of xs)) b
  faults_in (letrec p ds c) g b =
      form_fault b p (letrec p ds c) ++ defined_faults [] ds
      ++ faults_of_defs ds (with_defs ds 0 [] g) b ++ faults_in c (with_defs ds 0 [] g) b
  faults_in (case p e cs) g b = needs None e ++ faults_in e g b ++ faults_of_clauses cs (degree e) g b
  faults_in (apply p e es) g b =
      form_fault b p (apply p e es) ++ operator_needs e ++ faults_in e g b ++ faults_of_elements es g b
  faults_in (call p m f es) g b =
      form_fault b p (call p m f es) ++ needs_one m ++ faults_in m g b ++ needs_one f ++ faults_in f g b
      ++ faults_of_elements es g b
  faults_in (primop p n es) g b = form_fault b p (primop p n es) ++ faults_of_elements es g b
  faults_in (do_then p a c) g b =
      form_fault b p (do_then p a c) ++ needs None a ++ faults_in a g b ++ faults_in c g b
  faults_in (catch p e) g b = form_fault b p (catch p e) ++ needs_one e ++ faults_in e g b
  faults_in (try p a xs c ys d) g b =
      needs (Some (length xs)) a ++ faults_in a g b
      ++ doubled [] xs ++ faults_in c (with_names g (names_of xs)) b
      ++ doubled [] ys ++ faults_in d (with_names g (names_of ys)) b
  faults_in (receive p cs t c) g b =
      form_fault b p (receive p cs t c) ++ faults_of_clauses cs (Some 1) g b
      ++ needs_one t ++ faults_in t g b ++ faults_in c g b

  pub faults_of_elements : Exprs → Scope → Bool → List Refusal
  faults_of_elements no_expr g b = []
  faults_of_elements (and_expr e es) g b = element_needs e ++ faults_in e g b ++ faults_of_elements es g b

  pub faults_of_parts : MapParts → Scope → Bool → List Refusal
  faults_of_parts no_part g b = []
  faults_of_parts (and_part (map_part k v x) ps) g b =
      element_needs k ++ faults_in k g b ++ element_needs v ++ faults_in v g b ++ faults_of_parts ps g b

  pub faults_of_segments : Segments → Scope → Bool → List Refusal
  faults_of_segments no_segment g b = []
  faults_of_segments (and_segment (segment p v s u k f) ss) g b =
      element_needs v ++ faults_in v g b ++ element_needs s ++ faults_in s g b ++ faults_of_segments ss g b

  pub faults_of_defs : Defs → Scope → Bool → List Refusal
  faults_of_defs no_def g b = []
  faults_of_defs (and_def (def p f e) ds) g b = faults_in e g b ++ faults_of_defs ds g b

  -- clauses of a subject with this degree
  pub faults_of_clauses : Clauses → Option ℕ → Scope → Bool → List Refusal
  faults_of_clauses no_clause n g b = []
  faults_of_clauses (and_clause (clause p qs e c) cs) n g b =
      scope_fault (not (agrees_with (Some (pattern_count qs)) n)) p ClauseWidth
      ++ patterns_uses g qs ++ doubled [] (patterns_binders qs)
      ++ needs_one e ++ faults_in e (with_names g (bound_all qs)) true
      ++ faults_in c (with_names g (bound_all qs)) b
      ++ faults_of_clauses cs n g b

-- all faults of scope in a module, in the order in which a reader meets them
abbrev pub scope_faults : Module → List Refusal
scope_faults m =
    export_faults (defined m.defs) m.exports ++ defined_faults [] m.defs
    ++ faults_of_defs m.defs (module_scope m.defs 0 []) false

-- an answer that is the first of them, or want of memory
abbrev pub IsFirstScopeFault : Module → Fault → Type 0
IsFirstScopeFault m NoMemory = Unit {0}
IsFirstScopeFault m (Refused fault) = IsFirst (scope_faults m) fault
