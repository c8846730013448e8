-- What variables, definitions, exports and patterns meet.
use Rattle.std.proofs.Common.{◌≡◌, ℕ, ◌≤◌, List, [], ◌∷◌, ◌++◌, length, Bool, true, false, not, ◌||◌, eqb, Option, Some, is_some, if◌then◌else◌, refl, sym, ap, ◌∙◌, subst, arith, le_refl}
use Rattle.erl_base.specs.Names.{Name, same_key, is_key}
use Rattle.erl_base.specs.declared.ids.Place.{Place}
use Rattle.erl_base.specs.declared.ids.FunKey.{FunKey}
use Rattle.erl_base.specs.declared.refusal.Refusal.{Refusal}
use Rattle.erl_base.specs.declared.refusal.ScopeFault.TheVariants.{UnboundVariable, UnboundFunction, DoubledVariable, DoubledFunction, MissingExport, WrongArity}
use Rattle.core_form.specs.declared.tree.Binder.{Binder}
use Rattle.core_form.specs.declared.module.FunName.{FunName}
use Rattle.core_form.specs.Core.{Expr, var, Defs, no_def, and_def, def, Pattern, any, alias, known, list_like, tuple_like, map_like, bits_like, Patterns, no_pattern, and_pattern, KeyPatterns, no_key, and_key, key_pattern, SegPatterns, no_seg, and_seg, seg_pattern}
use Rattle.core_form.specs.Scope.{Scope, variable, function, binding, function_of, with_names, names_of, params_of, bound, bound_all, bound_keys, bound_segs}
use Rattle.core_names.specs.Table as Table
use Rattle.first_fault.specs.FirstFault.{first_with}
use Rattle.first_fault.proofs.First.{first_with_both}
use Rattle.core_scope.specs.Degrees.{scope_fault}
use Rattle.core_scope.specs.ScopeFaults.{variable_use, function_use, simple_use, is_name_among, doubled, defined_faults, defined, export_faults, pattern_binders, patterns_binders, keys_binders, segs_binders, pattern_uses, patterns_uses, keys_uses, segs_uses}
use Rattle.core_scope.specs.ScopeWalk.{is_since, is_known_since, variable_met, variables_met, defs_scope, defs_met, exports_met, pattern_scope, patterns_scope, keys_scope, segs_scope, pattern_met, patterns_met, keys_met, segs_met, pattern_uses_met, patterns_uses_met, keys_uses_met, segs_uses_met}
use Rattle.core_scope.proofs.Likeness.{Alike, alike_names, bound_more, known_more}

-- Variables.

-- those that are bound since n bindings stood are doubled where they are bound again
doubled_from : (xs : List Binder) (n : ℕ) (g : Scope) (seen : List Name) (o : Option Refusal) → n ≤ length g
    → ((y : Name) → is_since n (binding g y) ≡ is_name_among y seen)
    → variables_met xs n g o ≡ first_with o (doubled seen xs)
doubled_from [] n g seen o l h = refl
doubled_from (x ∷ xs) n g seen o l h =
    doubled_from xs n (variable x.name (length g) ∷ g) (x.name ∷ seen) (variable_met n g x.name x.place o)
    (omega (arith, l)) (bound_more n g x.name seen l h)
    ∙ ap (λ b. first_with (first_with o (scope_fault b x.place DoubledVariable)) (doubled (x.name ∷ seen) xs))
    (h x.name)
    ∙ sym (first_with_both o (scope_fault (is_name_among x.name seen) x.place DoubledVariable)
    (doubled (x.name ∷ seen) xs))

pub doubled_met : (k g : Scope) (xs : List Binder) (o : Option Refusal) → Alike k g
    → variables_met xs (length k) k o ≡ first_with o (doubled [] xs)
doubled_met k g xs o h = doubled_from xs (length k) k [] o (le_refl (length k)) h.numbered

-- Definitions.

defined_from : (ds : Defs) (n : ℕ) (g : Scope) (seen : List FunKey) (o : Option Refusal) → n ≤ length g
    → ((q : FunKey) → is_known_since n (Table.function_known g q) ≡ is_key q seen)
    → defs_met ds n g o ≡ first_with o (defined_faults seen ds)
defined_from no_def n g seen o l h = refl
defined_from (and_def (def p f e) ds) n g seen o l h =
    let twice = scope_fault (is_key f seen) p DoubledFunction in
    let wrong = scope_fault (not (eqb f.arity (length (params_of e)))) p WrongArity in
    defined_from ds n (function f 0 [] ∷ g) (f ∷ seen)
    (first_with (first_with o (scope_fault (is_known_since n (Table.function_known g f)) p DoubledFunction)) wrong)
    (omega (arith, l)) (known_more n g f seen l h)
    ∙ ap (λ b. first_with (first_with (first_with o (scope_fault b p DoubledFunction)) wrong)
    (defined_faults (f ∷ seen) ds)) (h f)
    ∙ ap (λ r. first_with r (defined_faults (f ∷ seen) ds)) (sym (first_with_both o twice wrong))
    ∙ sym (first_with_both o (twice ++ wrong) (defined_faults (f ∷ seen) ds))

pub defined_met : (k g : Scope) (ds : Defs) (o : Option Refusal) → Alike k g
    → defs_met ds (length k) k o ≡ first_with o (defined_faults [] ds)
defined_met k g ds o h = defined_from ds (length k) k [] o (le_refl (length k)) h.positioned

-- Exports.

found_either : {A : Type 0} (b c : Bool) (x : A) (o : Option A)
    → (c || is_some (if b then Some x else o)) ≡ ((b || c) || is_some o)
found_either true true x o = refl
found_either true false x o = refl
found_either false c x o = refl

found_in : (ds : Defs) (g : Scope) (f : FunKey)
    → is_some (function_of (defs_scope ds g) f) ≡ (is_key f (defined ds) || is_some (function_of g f))
found_in no_def g f = refl
found_in (and_def (def p h e) ds) g f =
    found_in ds (function h 0 [] ∷ g) f
    ∙ found_either (same_key f h) (is_key f (defined ds)) (0, []) (function_of g f)

or_false : (b : Bool) → (b || false) ≡ b
or_false true = refl
or_false false = refl

pub exports_are_met : (fs : List FunName) (ds : Defs) (o : Option Refusal)
    → exports_met fs (defs_scope ds []) o ≡ first_with o (export_faults (defined ds) fs)
exports_are_met [] ds o = refl
exports_are_met (f ∷ fs) ds o =
    exports_are_met fs ds (first_with o (scope_fault (not (is_some (function_of (defs_scope ds []) f.key))) f.place
    MissingExport))
    ∙ ap (λ b. first_with (first_with o (scope_fault (not b) f.place MissingExport)) (export_faults (defined ds) fs))
    (found_in ds [] f.key ∙ or_false (is_key f.key (defined ds)))
    ∙ sym (first_with_both o (scope_fault (not (is_key f.key (defined ds))) f.place MissingExport)
    (export_faults (defined ds) fs))

-- What patterns bind.

names_both : (g : Scope) (xs ys : List Name) → with_names g (xs ++ ys) ≡ with_names (with_names g xs) ys
names_both g [] ys = refl
names_both g (x ∷ xs) ys = names_both (variable x (length g) ∷ g) xs ys

binders_both : (xs ys : List Binder) → names_of (xs ++ ys) ≡ names_of xs ++ names_of ys
binders_both [] ys = refl
binders_both (x ∷ xs) ys = ap (λ l. x.name ∷ l) (binders_both xs ys)

-- one scope behind the other
scope_then : (g : Scope) (xs ys : List Name) (h l : Scope) → h ≡ with_names g xs → l ≡ with_names h ys
    → l ≡ with_names g (xs ++ ys)
scope_then g xs ys h l e k = k ∙ ap (λ z. with_names z ys) e ∙ sym (names_both g xs ys)

mutual
  pub scope_bound : (q : Pattern) (g : Scope) → pattern_scope q g ≡ with_names g (bound q)
  scope_bound (any p x) g = refl
  scope_bound (alias p x q) g = scope_bound q (variable x (length g) ∷ g)
  scope_bound (known p t) g = refl
  scope_bound (list_like p qs q) g =
      scope_then g (bound_all qs) (bound q) _ _ (scopes_bound qs g) (scope_bound q (patterns_scope qs g))
  scope_bound (tuple_like p qs) g = scopes_bound qs g
  scope_bound (map_like p ks) g = keys_bound ks g
  scope_bound (bits_like p ss) g = segs_bound ss g

  pub scopes_bound : (qs : Patterns) (g : Scope) → patterns_scope qs g ≡ with_names g (bound_all qs)
  scopes_bound no_pattern g = refl
  scopes_bound (and_pattern q qs) g =
      scope_then g (bound q) (bound_all qs) _ _ (scope_bound q g) (scopes_bound qs (pattern_scope q g))

  keys_bound : (ks : KeyPatterns) (g : Scope) → keys_scope ks g ≡ with_names g (bound_keys ks)
  keys_bound no_key g = refl
  keys_bound (and_key (key_pattern e q) ks) g =
      scope_then g (bound q) (bound_keys ks) _ _ (scope_bound q g) (keys_bound ks (pattern_scope q g))

  segs_bound : (ss : SegPatterns) (g : Scope) → segs_scope ss g ≡ with_names g (bound_segs ss)
  segs_bound no_seg g = refl
  segs_bound (and_seg (seg_pattern p q e u k f) ss) g =
      scope_then g (bound q) (bound_segs ss) _ _ (scope_bound q g) (segs_bound ss (pattern_scope q g))

-- What they meet; each part leads on from where the one before it ends.

-- a way through these binders
record Binds (n : ℕ) (g h : Scope) (way : Option Refusal → Option Refusal) (xs : List Binder) : Type 0 where
  scope : h ≡ with_names g (names_of xs)
  at : (o : Option Refusal) → way o ≡ variables_met xs n g o

met_both : (xs ys : List Binder) (n : ℕ) (g : Scope) (o : Option Refusal)
    → variables_met (xs ++ ys) n g o ≡ variables_met ys n (with_names g (names_of xs)) (variables_met xs n g o)
met_both [] ys n g o = refl
met_both (x ∷ xs) ys n g o =
    met_both xs ys n (variable x.name (length g) ∷ g) (variable_met n g x.name x.place o)

binds_then : {n : ℕ} {g h l : Scope} {v w : Option Refusal → Option Refusal} {xs ys : List Binder}
    → Binds n g h v xs → Binds n h l w ys → Binds n g l (λ o. w (v o)) (xs ++ ys)
binds_then {n} {g} {h} {l} {v} {w} {xs} {ys} a b = record {
  scope = scope_then g (names_of xs) (names_of ys) h l a.scope b.scope
      ∙ ap (λ z. with_names g z) (sym (binders_both xs ys));
  at = λ o. b.at (v o) ∙ ap (λ z. variables_met ys n z (v o)) a.scope
      ∙ ap (λ r. variables_met ys n (with_names g (names_of xs)) r) (a.at o) ∙ sym (met_both xs ys n g o);
}

binds_one : (n : ℕ) (g : Scope) (x : Name) (p : Place)
    → Binds n g (variable x (length g) ∷ g) (λ o. variable_met n g x p o) (record { name = x; place = p } ∷ [])
binds_one n g x p = record { scope = refl; at = λ o. refl }

binds_none : (n : ℕ) (g : Scope) → Binds n g g (λ o. o) []
binds_none n g = record { scope = refl; at = λ o. refl }

mutual
  binds : (q : Pattern) (n : ℕ) (g : Scope) → Binds n g (pattern_scope q g) (pattern_met q n g) (pattern_binders q)
  binds (any p x) n g = binds_one n g x p
  binds (alias p x q) n g = binds_then (binds_one n g x p) (binds q n (variable x (length g) ∷ g))
  binds (known p t) n g = binds_none n g
  binds (list_like p qs q) n g = binds_then (all_bind qs n g) (binds q n (patterns_scope qs g))
  binds (tuple_like p qs) n g = all_bind qs n g
  binds (map_like p ks) n g = keys_bind ks n g
  binds (bits_like p ss) n g = segs_bind ss n g

  all_bind : (qs : Patterns) (n : ℕ) (g : Scope)
      → Binds n g (patterns_scope qs g) (patterns_met qs n g) (patterns_binders qs)
  all_bind no_pattern n g = binds_none n g
  all_bind (and_pattern q qs) n g = binds_then (binds q n g) (all_bind qs n (pattern_scope q g))

  keys_bind : (ks : KeyPatterns) (n : ℕ) (g : Scope) → Binds n g (keys_scope ks g) (keys_met ks n g) (keys_binders ks)
  keys_bind no_key n g = binds_none n g
  keys_bind (and_key (key_pattern e q) ks) n g = binds_then (binds q n g) (keys_bind ks n (pattern_scope q g))

  segs_bind : (ss : SegPatterns) (n : ℕ) (g : Scope) → Binds n g (segs_scope ss g) (segs_met ss n g) (segs_binders ss)
  segs_bind no_seg n g = binds_none n g
  segs_bind (and_seg (seg_pattern p q e u k f) ss) n g = binds_then (binds q n g) (segs_bind ss n (pattern_scope q g))

pub patterns_doubled : (qs : Patterns) (k g : Scope) (o : Option Refusal) → Alike k g
    → patterns_met qs (length k) k o ≡ first_with o (doubled [] (patterns_binders qs))
patterns_doubled qs k g o h = (all_bind qs (length k) k).at o ∙ doubled_met k g (patterns_binders qs) o h

-- What they look up.

pub variable_use_alike : {k g : Scope} (p : Place) (x : Name) → Alike k g → variable_use k p x ≡ variable_use g p x
variable_use_alike p x h = ap (λ b. scope_fault (not b) p UnboundVariable) (h.variables x)

pub function_use_alike : {k g : Scope} (p : Place) (f : FunKey) → Alike k g → function_use k p f ≡ function_use g p f
function_use_alike p f h = ap (λ b. scope_fault (not b) p UnboundFunction) (h.functions f)

simple_use_alike : {k g : Scope} (e : Expr) → Alike k g → simple_use k e ≡ simple_use g e
simple_use_alike (var p x) h = variable_use_alike p x h
simple_use_alike e h = refl

-- a way that keeps the first of these
pub record Keeps (way : Option Refusal → Option Refusal) (faults : List Refusal) : Type 0 where
  pub at : (o : Option Refusal) → way o ≡ first_with o faults

keeps_then : {v w : Option Refusal → Option Refusal} {xs ys : List Refusal} → Keeps v xs → Keeps w ys
    → Keeps (λ o. w (v o)) (xs ++ ys)
keeps_then {v} {w} {xs} {ys} h k = record {
  at = λ o. k.at (v o) ∙ ap (λ r. first_with r ys) (h.at o) ∙ sym (first_with_both o xs ys);
}

keeps_use : {k g : Scope} (e : Expr) → Alike k g → Keeps (λ o. first_with o (simple_use k e)) (simple_use g e)
keeps_use e h = record { at = λ o. ap (first_with o) (simple_use_alike e h) }

keeps_none : Keeps (λ o. o) []
keeps_none = record { at = λ o. refl }

-- behind a pattern
alike_behind : {k g : Scope} (q : Pattern) → Alike k g → Alike (pattern_scope q k) (with_names g (bound q))
alike_behind {k} {g} q h =
    subst (λ z. Alike z (with_names g (bound q))) (sym (scope_bound q k)) (alike_names (bound q) h)

pub alike_patterns : {k g : Scope} (qs : Patterns) → Alike k g
    → Alike (patterns_scope qs k) (with_names g (bound_all qs))
alike_patterns {k} {g} qs h =
    subst (λ z. Alike z (with_names g (bound_all qs))) (sym (scopes_bound qs k)) (alike_names (bound_all qs) h)

mutual
  uses : {k g : Scope} (q : Pattern) → Alike k g → Keeps (pattern_uses_met q k) (pattern_uses g q)
  uses (any p x) h = keeps_none
  uses (alias p x q) h = uses q h
  uses (known p t) h = keeps_none
  uses (list_like p qs q) h = keeps_then (all_use qs h) (uses q h)
  uses (tuple_like p qs) h = all_use qs h
  uses (map_like p ks) h = keys_use ks h
  uses (bits_like p ss) h = segs_use ss h

  all_use : {k g : Scope} (qs : Patterns) → Alike k g → Keeps (patterns_uses_met qs k) (patterns_uses g qs)
  all_use no_pattern h = keeps_none
  all_use (and_pattern q qs) h = keeps_then (uses q h) (all_use qs h)

  keys_use : {k g : Scope} (ks : KeyPatterns) → Alike k g → Keeps (keys_uses_met ks k) (keys_uses g ks)
  keys_use no_key h = keeps_none
  keys_use (and_key (key_pattern e q) ks) h = keeps_then (keeps_then (keeps_use e h) (uses q h)) (keys_use ks h)

  segs_use : {k g : Scope} (ss : SegPatterns) → Alike k g → Keeps (segs_uses_met ss k) (segs_uses g ss)
  segs_use no_seg h = keeps_none
  segs_use (and_seg (seg_pattern p q e u l f) ss) h = keeps_then (keeps_use e h) (segs_use ss (alike_behind q h))

pub patterns_looked : {k g : Scope} (qs : Patterns) (o : Option Refusal) → Alike k g
    → patterns_uses_met qs k o ≡ first_with o (patterns_uses g qs)
patterns_looked qs o h = (all_use qs h).at o
