-- What is bound inside a form stands on the scope outside of it, and is left again.
use Rattle.std.proofs.Common.{◌≡◌, ◌-◌, ◌≤◌, List, [], ◌∷◌, ◌++◌, length, drop, refl, sym, ap, ◌∙◌, arith, append_assoc, length-append}
use Rattle.core_form.specs.declared.tree.Binder.{Binder}
use Rattle.core_form.specs.Core.{Defs, no_def, and_def, def, Clause, clause, Pattern, any, alias, known, list_like, tuple_like, map_like, bits_like, Patterns, no_pattern, and_pattern, KeyPatterns, no_key, and_key, key_pattern, SegPatterns, no_seg, and_seg, seg_pattern}
use Rattle.core_form.specs.Scope.{Meant, variable, function, Scope, with_names, names_of}
use Rattle.core_scope.specs.ScopeWalk.{defs_scope, pattern_scope, patterns_scope, keys_scope, segs_scope, clause_scope}

-- h is g with more bindings
pub record Grown (g h : Scope) : Type 0 where
  pub more : Scope
  pub is : h ≡ more ++ g

same : (g : Scope) → Grown g g
same g = record { more = []; is = refl }

one : (m : Meant) (g : Scope) → Grown g (m ∷ g)
one m g = record { more = m ∷ []; is = refl }

through : {g h l : Scope} → Grown g h → Grown h l → Grown g l
through {g} {h} {l} v w = record {
  more = w.more ++ v.more;
  is = w.is ∙ ap (λ z. w.more ++ z) v.is ∙ sym (append_assoc w.more v.more g);
}

drop_front : (xs ys : Scope) → drop (length xs) (xs ++ ys) ≡ ys
drop_front [] ys = refl
drop_front (x ∷ xs) ys = drop_front xs ys

left : (g h : Scope) → Grown g h → drop (length h - length g) h ≡ g
left g h v =
    let e = ap length v.is in let k = length-append v.more g in
    let n : length h - length g ≡ length v.more = omega (arith, e, k) in
    ap (λ m. drop m h) n ∙ ap (λ l. drop (length v.more) l) v.is ∙ drop_front v.more g

fits : (g h : Scope) → Grown g h → length g ≤ length h
fits g h v = let e = ap length v.is in let k = length-append v.more g in omega (arith, e, k)

names_grown : (xs : List Binder) (g : Scope) → Grown g (with_names g (names_of xs))
names_grown [] g = same g
names_grown (x ∷ xs) g =
    through (one (variable x.name (length g)) g) (names_grown xs (variable x.name (length g) ∷ g))

defs_grown : (ds : Defs) (g : Scope) → Grown g (defs_scope ds g)
defs_grown no_def g = same g
defs_grown (and_def (def p f e) ds) g = through (one (function f 0 []) g) (defs_grown ds (function f 0 [] ∷ g))

mutual
  pattern_grown : (q : Pattern) (g : Scope) → Grown g (pattern_scope q g)
  pattern_grown (any p x) g = one (variable x (length g)) g
  pattern_grown (alias p x q) g =
      through (one (variable x (length g)) g) (pattern_grown q (variable x (length g) ∷ g))
  pattern_grown (known p t) g = same g
  pattern_grown (list_like p qs q) g = through (patterns_grown qs g) (pattern_grown q (patterns_scope qs g))
  pattern_grown (tuple_like p qs) g = patterns_grown qs g
  pattern_grown (map_like p ks) g = keys_grown ks g
  pattern_grown (bits_like p ss) g = segs_grown ss g

  patterns_grown : (qs : Patterns) (g : Scope) → Grown g (patterns_scope qs g)
  patterns_grown no_pattern g = same g
  patterns_grown (and_pattern q qs) g = through (pattern_grown q g) (patterns_grown qs (pattern_scope q g))

  keys_grown : (ks : KeyPatterns) (g : Scope) → Grown g (keys_scope ks g)
  keys_grown no_key g = same g
  keys_grown (and_key (key_pattern e q) ks) g = through (pattern_grown q g) (keys_grown ks (pattern_scope q g))

  segs_grown : (ss : SegPatterns) (g : Scope) → Grown g (segs_scope ss g)
  segs_grown no_seg g = same g
  segs_grown (and_seg (seg_pattern p q e u k f) ss) g =
      through (pattern_grown q g) (segs_grown ss (pattern_scope q g))

clause_grown : (c : Clause) (g : Scope) → Grown g (clause_scope c g)
clause_grown (clause p qs e b) g = patterns_grown qs g

pub names_left : (xs : List Binder) (g : Scope)
    → drop (length (with_names g (names_of xs)) - length g) (with_names g (names_of xs)) ≡ g
names_left xs g = left g (with_names g (names_of xs)) (names_grown xs g)

pub names_fit : (xs : List Binder) (g : Scope) → length g ≤ length (with_names g (names_of xs))
names_fit xs g = fits g (with_names g (names_of xs)) (names_grown xs g)

pub defs_left : (ds : Defs) (g : Scope) → drop (length (defs_scope ds g) - length g) (defs_scope ds g) ≡ g
defs_left ds g = left g (defs_scope ds g) (defs_grown ds g)

pub defs_fit : (ds : Defs) (g : Scope) → length g ≤ length (defs_scope ds g)
defs_fit ds g = fits g (defs_scope ds g) (defs_grown ds g)

pub segs_left : (ss : SegPatterns) (g : Scope) → drop (length (segs_scope ss g) - length g) (segs_scope ss g) ≡ g
segs_left ss g = left g (segs_scope ss g) (segs_grown ss g)

pub segs_fit : (ss : SegPatterns) (g : Scope) → length g ≤ length (segs_scope ss g)
segs_fit ss g = fits g (segs_scope ss g) (segs_grown ss g)

pub clause_left : (c : Clause) (g : Scope) → drop (length (clause_scope c g) - length g) (clause_scope c g) ≡ g
clause_left c g = left g (clause_scope c g) (clause_grown c g)

pub clause_fits : (c : Clause) (g : Scope) → length g ≤ length (clause_scope c g)
clause_fits c g = fits g (clause_scope c g) (clause_grown c g)
