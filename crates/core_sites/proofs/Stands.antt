-- What is used in a text where names mean other captures.
use Rattle.std.proofs.Common.{◌≡◌, ℕ, suc, ◌+◌, ◌≤◌, List, [], ◌∷◌, ◌++◌, length, Bool, true, false, if◌then◌else◌, Option, Some, None, refl, sym, ap, ◌∙◌, subst, arith}
use Rattle.erl_base.specs.Names.{Name, same_name, same_key}
use Rattle.erl_base.specs.declared.ids.Place.{Place}
use Rattle.erl_base.specs.declared.ids.FunKey.{FunKey}
use Rattle.core_form.specs.Core.{Expr, values, var, fun_name, literal, list, tuple, new_map, map_of, binary, fun, let_in, letrec, case, apply, call, primop, do_then, catch, try, receive, Exprs, no_expr, and_expr, MapParts, no_part, and_part, map_part, Segments, no_segment, and_segment, segment, Defs, no_def, and_def, def, Clauses, no_clause, and_clause, clause, Pattern, any, alias, known, list_like, tuple_like, map_like, bits_like, Patterns, no_pattern, and_pattern, KeyPatterns, no_key, and_key, key_pattern, SegPatterns, no_seg, and_seg, seg_pattern}
use Rattle.core_form.specs.Scope.{Use, Scope, variable, function, binding, function_of, with_names, names_of, body_of, bound, bound_all}
use Rattle.core_form.specs.Captures.{sites_in, with_defs, found, captured, once_below, placed, occurring, occurring_all, occurring_parts, occurring_segments, occurring_defs, occurring_clauses, occurring_pattern, occurring_patterns, occurring_keys, occurring_segs}
use Rattle.core_sites.specs.Things.{instead, expanded}
use Rattle.core_sites.proofs.Alike.{Alike, itself, equal, through, both, alike_placed, expanded_append, expanded_placed, IsLow, once_expanded}

module _ (b : ℕ) (r : ℕ → Option (List Use)) where
  -- the same uses, once those that r knows are expanded
  pub record Stands (us vs : List Use) : Type 0 where
    pub alike : Alike us (expanded r vs)

  -- names mean the same variables, and functions whose captures stand for one another
  pub record Reads (g h : Scope) : Type 0 where
    pub same : (x : Name) → binding h x ≡ binding g x
    pub plain : (x : Name) (n : ℕ) → binding g x ≡ Some n → r n ≡ None
    pub stands : (f : FunKey) (p : Place)
        → Stands (placed p (captured (function_of h f))) (placed p (captured (function_of g f)))
    pub long : length h ≡ length g

  -- so they do in every scope inside
  pub record Fits (g h : Scope) : Type 0 where
    pub reads : Reads g h
    pub least : b ≤ length g

  pub none : Stands [] []
  none = record { alike = itself [] }

  pub two : {us vs ws xs : List Use} → Stands us vs → Stands ws xs → Stands (us ++ ws) (vs ++ xs)
  two {us} {vs} {ws} {xs} h k = record {
    alike = through (both h.alike k.alike) (equal _ _ (sym (expanded_append r vs xs)));
  }

  bound_if : (a : Bool) (n : ℕ) (o : Option ℕ) (m : ℕ) → r n ≡ None → (o ≡ Some m → r m ≡ None)
      → (if a then Some n else o) ≡ Some m → r m ≡ None
  bound_if true n o m e h k = subst (λ j. r j ≡ None) (some_same n m k) e
    where
      some_same : (i j : ℕ) → Some i ≡ Some j → i ≡ j
      some_same i j e = cc
  bound_if false n o m e h k = h k

  stands_if : (a : Bool) (s t : ℕ) (us vs : List Use) (o q : Option (ℕ × List Use)) (p : Place)
      → Stands (placed p us) (placed p vs) → Stands (placed p (captured o)) (placed p (captured q))
      → Stands (placed p (captured (if a then Some (s, us) else o))) (placed p (captured (if a then Some
      (t, vs) else q)))
  stands_if true s t us vs o q p h k = h
  stands_if false s t us vs o q p h k = k

  -- one function more
  pub reads_function : {g h : Scope} (f : FunKey) (s t : ℕ) (us vs : List Use) → Reads g h
      → ((p : Place) → Stands (placed p us) (placed p vs)) → Reads (function f t vs ∷ g) (function f s us ∷ h)
  reads_function {g} {h} f s t us vs w k = record {
    same = w.same;
    plain = w.plain;
    stands = λ q p. stands_if (same_key q f) s t us vs (function_of h q) (function_of g q) p (k p) (w.stands q p);
    long = ap suc w.long;
  }

  module _ (low : IsLow b r) where
    -- one variable more
    fits_variable : {g h : Scope} (x : Name) → Fits g h → Fits (variable x (length g) ∷ g) (variable x (length h) ∷ h)
    fits_variable {g} {h} x w = record {
      reads = record {
        same = λ y. (λ i. if same_name y x then Some (w.reads.long i) else w.reads.same y i);
        plain = λ y n k. bound_if (same_name y x) (length g) (binding g y) n (low.outer (length g) w.least)
            (w.reads.plain y n) k;
        stands = w.reads.stands;
        long = ap suc w.reads.long;
      };
      least = let k = w.least in omega (arith, k);
    }

    fits_names : {g h : Scope} (xs : List Name) → Fits g h → Fits (with_names g xs) (with_names h xs)
    fits_names [] w = w
    fits_names (x ∷ xs) w = fits_names xs (fits_variable x w)

    fits_function : {g h : Scope} (f : FunKey) (s t : ℕ) (us vs : List Use) → Fits g h
        → ((p : Place) → Stands (placed p us) (placed p vs)) → Fits (function f t vs ∷ g) (function f s us ∷ h)
    fits_function f s t us vs w k = record {
      reads = reads_function f s t us vs w.reads k;
      least = let e = w.least in omega (arith, e);
    }

    -- a group more
    fits_defs : {g h : Scope} (ds : Defs) (k : ℕ) (us vs : List Use) → Fits g h
        → ((p : Place) → Stands (placed p us) (placed p vs)) → Fits (with_defs ds k vs g) (with_defs ds k us h)
    fits_defs no_def k us vs w e = w
    fits_defs (and_def (def p f x) ds) k us vs w e =
        fits_defs ds (k + suc (sites_in (body_of x))) us vs (fits_function f k k us vs w e) e

    group : {g h : Scope} (us vs : List Use) → Fits g h → Stands us vs
        → (p : Place) → Stands (placed p (once_below (length h) [] us)) (placed p (once_below (length g) [] vs))
    group {g} {h} us vs w k p = record {
      alike = through (alike_placed p (through
          (equal _ _ (ap (λ n. once_below n [] us) w.reads.long ∙ k.alike.first (length g) []))
          (once_expanded b (length g) r vs low w.least)))
          (equal _ _ (sym (expanded_placed r p (once_below (length g) [] vs))));
    }

    found_stands : (x : Name) (p : Place) (o : Option ℕ) → ((n : ℕ) → o ≡ Some n → r n ≡ None)
        → Stands (found x p o) (found x p o)
    found_stands x p None h = none
    found_stands x p (Some n) h = record {
      alike = equal _ _ (sym (ap (λ o. instead o (record { name = x; number = n; place = p }) ++ []) (h n refl)));
    }

    variable_stands : {g h : Scope} (x : Name) (p : Place) → Fits g h
        → Stands (found x p (binding h x)) (found x p (binding g x))
    variable_stands {g} {h} x p w =
        subst (λ o. Stands (found x p o) (found x p (binding g x))) (sym (w.reads.same x))
        (found_stands x p (binding g x) (w.reads.plain x))

    mutual
      pub stands : (e : Expr) {g h : Scope} → Fits g h → Stands (occurring e h) (occurring e g)
      stands (values p es) w = stands_all es w
      stands (var p x) w = variable_stands x p w
      stands (fun_name p f) w = w.reads.stands f p
      stands (literal p t) w = none
      stands (list p es e) w = two (stands_all es w) (stands e w)
      stands (tuple p es) w = stands_all es w
      stands (new_map p ps) w = stands_parts ps w
      stands (map_of p ps e) w = two (stands_parts ps w) (stands e w)
      stands (binary p ss) w = stands_segments ss w
      stands (fun p xs e) w = stands e (fits_names (names_of xs) w)
      stands (let_in p xs a c) w = two (stands a w) (stands c (fits_names (names_of xs) w))
      stands (letrec p ds c) w =
          let inner = fits_defs ds 0 _ _ w (group _ _ w (stands_defs ds (fits_defs ds 0 [] [] w (λ q. none)))) in
          two (stands_defs ds inner) (stands c inner)
      stands (case p e cs) w = two (stands e w) (stands_clauses cs w)
      stands (apply p e es) w = two (stands e w) (stands_all es w)
      stands (call p m f es) w = two (two (stands m w) (stands f w)) (stands_all es w)
      stands (primop p n es) w = stands_all es w
      stands (do_then p a c) w = two (stands a w) (stands c w)
      stands (catch p e) w = stands e w
      stands (try p a xs c ys d) w =
          two (two (stands a w) (stands c (fits_names (names_of xs) w))) (stands d (fits_names (names_of ys) w))
      stands (receive p cs t c) w = two (two (stands_clauses cs w) (stands t w)) (stands c w)

      stands_all : (es : Exprs) {g h : Scope} → Fits g h → Stands (occurring_all es h) (occurring_all es g)
      stands_all no_expr w = none
      stands_all (and_expr e es) w = two (stands e w) (stands_all es w)

      stands_parts : (ps : MapParts) {g h : Scope} → Fits g h → Stands (occurring_parts ps h) (occurring_parts ps g)
      stands_parts no_part w = none
      stands_parts (and_part (map_part k v x) ps) w = two (two (stands k w) (stands v w)) (stands_parts ps w)

      stands_segments : (ss : Segments) {g h : Scope} → Fits g h
          → Stands (occurring_segments ss h) (occurring_segments ss g)
      stands_segments no_segment w = none
      stands_segments (and_segment (segment p v s u k f) ss) w =
          two (two (stands v w) (stands s w)) (stands_segments ss w)

      pub stands_defs : (ds : Defs) {g h : Scope} → Fits g h → Stands (occurring_defs ds h) (occurring_defs ds g)
      stands_defs no_def w = none
      stands_defs (and_def (def p f e) ds) w = two (stands e w) (stands_defs ds w)

      stands_clauses : (cs : Clauses) {g h : Scope} → Fits g h
          → Stands (occurring_clauses cs h) (occurring_clauses cs g)
      stands_clauses no_clause w = none
      stands_clauses (and_clause (clause p qs e c) cs) w =
          let inner = fits_names (bound_all qs) w in
          two (two (two (stands_patterns qs w) (stands e inner)) (stands c inner)) (stands_clauses cs w)

      stands_pattern : (q : Pattern) {g h : Scope} → Fits g h → Stands (occurring_pattern q h) (occurring_pattern q g)
      stands_pattern (any p x) w = none
      stands_pattern (alias p x q) w = stands_pattern q w
      stands_pattern (known p t) w = none
      stands_pattern (list_like p qs q) w = two (stands_patterns qs w) (stands_pattern q w)
      stands_pattern (tuple_like p qs) w = stands_patterns qs w
      stands_pattern (map_like p ks) w = stands_keys ks w
      stands_pattern (bits_like p ss) w = stands_segs ss w

      stands_patterns : (qs : Patterns) {g h : Scope} → Fits g h
          → Stands (occurring_patterns qs h) (occurring_patterns qs g)
      stands_patterns no_pattern w = none
      stands_patterns (and_pattern q qs) w = two (stands_pattern q w) (stands_patterns qs w)

      stands_keys : (ks : KeyPatterns) {g h : Scope} → Fits g h → Stands (occurring_keys ks h) (occurring_keys ks g)
      stands_keys no_key w = none
      stands_keys (and_key (key_pattern e q) ks) w = two (two (stands e w) (stands_pattern q w)) (stands_keys ks w)

      stands_segs : (ss : SegPatterns) {g h : Scope} → Fits g h → Stands (occurring_segs ss h) (occurring_segs ss g)
      stands_segs no_seg w = none
      stands_segs (and_seg (seg_pattern p q e u k f) ss) w = two (stands e w) (stands_segs ss (fits_names (bound q) w))
