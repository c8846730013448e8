-- The sites of an expression are as many as are counted in it.
use Rattle.std.proofs.Common.{◌≡◌, ℕ, suc, ◌+◌, List, [], ◌∷◌, ◌++◌, length, map, take, Some, refl, ap, ◌∙◌, arith}
use Rattle.std.proofs.lemmas.List.{length-append}
use Rattle.core_form.specs.Core.{Expr, values, var, fun_name, literal, list, tuple, new_map, map_of, binary, fun, let_in, letrec, case, apply, call, primop, do_then, catch, try, receive, Exprs, no_expr, and_expr, MapParts, no_part, and_part, map_part, Segments, no_segment, and_segment, segment, Defs, no_def, and_def, def, Clauses, no_clause, and_clause, clause}
use Rattle.core_form.specs.Scope.{Use, Scope, with_names, names_of, params_of, body_of, bound_all}
use Rattle.core_form.specs.Captures.{sites_in, sites_in_all, sites_in_parts, sites_in_segments, sites_in_defs, sites_in_clauses, in_group, group_captures}
use Rattle.core_form.specs.Sites.{Site, named_site, sites, sites_all, sites_parts, sites_segments, sites_defs, sites_clauses, own_sites, inner_sites, module_scope, def_count}
use Rattle.core_form.specs.SiteLaws.{SitesAreCounted, DefinitionsComeFirst, inner_count, keys_of}

two : {A : Type 0} (xs ys : List A) (m n : ℕ) → length xs ≡ m → length ys ≡ n → length (xs ++ ys) ≡ m + n
two xs ys m n e h = length-append xs ys ∙ (λ i. e i + h i)

three : {A : Type 0} (xs ys zs : List A) (l m n : ℕ) → length xs ≡ l → length ys ≡ m → length zs ≡ n
    → length (xs ++ ys ++ zs) ≡ l + m + n
three xs ys zs l m n e f g = two (xs ++ ys) zs (l + m) n (two xs ys l m e f) g

a_function : {A : Type 0} (x : A) (xs ys : List A) (m n : ℕ) → length xs ≡ m → length ys ≡ n
    → length (x ∷ xs ++ ys) ≡ suc m + n
a_function x xs ys m n e h =
    let k = two xs ys m n e h in
    omega (arith, k)

mutual
  pub counted : (e : Expr) (g : Scope) (k : ℕ) → length (sites e g k) ≡ sites_in e
  counted (values p es) g k = counted_all es g k
  counted (var p x) g k = refl
  counted (fun_name p f) g k = refl
  counted (literal p t) g k = refl
  counted (list p es e) g k = two _ _ _ _ (counted_all es g k) (counted e g _)
  counted (tuple p es) g k = counted_all es g k
  counted (new_map p ps) g k = counted_parts ps g k
  counted (map_of p ps e) g k = two _ _ _ _ (counted_parts ps g k) (counted e g _)
  counted (binary p ss) g k = counted_segments ss g k
  counted (fun p xs e) g k = ap suc (counted e (with_names g (names_of xs)) (suc k))
  counted (let_in p xs a b) g k = two _ _ _ _ (counted a g k) (counted b (with_names g (names_of xs)) _)
  counted (letrec p ds b) g k =
      two _ _ _ _ (counted_defs ds (in_group ds k g) (group_captures ds g) k) (counted b (in_group ds k g) _)
  counted (case p e cs) g k = two _ _ _ _ (counted e g k) (counted_clauses cs g _)
  counted (apply p e es) g k = two _ _ _ _ (counted e g k) (counted_all es g _)
  counted (call p m f es) g k = three _ _ _ _ _ _ (counted m g k) (counted f g _) (counted_all es g _)
  counted (primop p n es) g k = counted_all es g k
  counted (do_then p a b) g k = two _ _ _ _ (counted a g k) (counted b g _)
  counted (catch p e) g k = counted e g k
  counted (try p a xs b ys c) g k = three _ _ _ _ _ _ (counted a g k) (counted b (with_names g (names_of xs)) _)
      (counted c (with_names g (names_of ys)) _)
  counted (receive p cs t b) g k = three _ _ _ _ _ _ (counted_clauses cs g k) (counted t g _) (counted b g _)

  counted_all : (es : Exprs) (g : Scope) (k : ℕ) → length (sites_all es g k) ≡ sites_in_all es
  counted_all no_expr g k = refl
  counted_all (and_expr e es) g k = two _ _ _ _ (counted e g k) (counted_all es g _)

  counted_parts : (ps : MapParts) (g : Scope) (k : ℕ) → length (sites_parts ps g k) ≡ sites_in_parts ps
  counted_parts no_part g k = refl
  counted_parts (and_part (map_part a v x) ps) g k =
      three _ _ _ _ _ _ (counted a g k) (counted v g _) (counted_parts ps g _)

  counted_segments : (ss : Segments) (g : Scope) (k : ℕ) → length (sites_segments ss g k) ≡ sites_in_segments ss
  counted_segments no_segment g k = refl
  counted_segments (and_segment (segment p v s u t f) ss) g k =
      three _ _ _ _ _ _ (counted v g k) (counted s g _) (counted_segments ss g _)

  counted_defs : (ds : Defs) (g : Scope) (us : List Use) (k : ℕ) → length (sites_defs ds g us k) ≡ sites_in_defs ds
  counted_defs no_def g us k = refl
  counted_defs (and_def (def p f (fun q xs e)) ds) g us k =
      a_function (named_site p f (fun q xs e) g us (suc k)) (sites e (with_names g (names_of xs)) (suc k))
      (sites_defs ds g us (k + suc (sites_in e))) (sites_in e) (sites_in_defs ds)
      (counted e (with_names g (names_of xs)) (suc k)) (counted_defs ds g us (k + suc (sites_in e)))
  counted_defs (and_def (def p f e) ds) g us k =
      a_function (named_site p f e g us (suc k)) (sites e g (suc k)) (sites_defs ds g us (k + suc (sites_in e)))
      (sites_in e) (sites_in_defs ds)
      (counted e g (suc k)) (counted_defs ds g us (k + suc (sites_in e)))

  counted_clauses : (cs : Clauses) (g : Scope) (k : ℕ) → length (sites_clauses cs g k) ≡ sites_in_clauses cs
  counted_clauses no_clause g k = refl
  counted_clauses (and_clause (clause p qs e b) cs) g k = three _ _ _ _ _ _ (counted e (with_names g (bound_all qs)) k)
      (counted b (with_names g (bound_all qs)) _) (counted_clauses cs g _)

own_counted : (ds : Defs) (g : Scope) (k : ℕ) → length (own_sites ds g k) ≡ def_count ds
own_counted no_def g k = refl
own_counted (and_def (def p f e) ds) g k = ap suc (own_counted ds g _)

inner_counted : (ds : Defs) (g : Scope) (k : ℕ) → length (inner_sites ds g k) ≡ inner_count ds
inner_counted no_def g k = refl
inner_counted (and_def (def p f e) ds) g k =
    two _ _ _ _ (counted (body_of e) (with_names g (names_of (params_of e))) k) (inner_counted ds g _)

own_keys : (ds : Defs) (g : Scope) (k : ℕ) (rest : List Site)
    → take (def_count ds) (map (λ x. x.key) (own_sites ds g k ++ rest)) ≡ keys_of ds
own_keys no_def g k rest = refl
own_keys (and_def (def p f e) ds) g k rest = ap (λ xs. Some f ∷ xs) (own_keys ds g _ rest)

pub definitions_first : DefinitionsComeFirst
definitions_first m =
    let g = module_scope m.defs 0 [] in (
      two _ _ _ _ (own_counted m.defs g (def_count m.defs)) (inner_counted m.defs g (def_count m.defs)),
      own_keys m.defs g (def_count m.defs) _,
    )

pub sites_counted : SitesAreCounted
sites_counted e g k = counted e g k
