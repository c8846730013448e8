-- Degrees that are wanted, and those that are there.
use Rattle.std.proofs.Common.{◌≡◌, ℕ, [], ◌++◌, true, not, Option, Some, None, refl, sym, ap, ap₂}
use Rattle.std.proofs.lemmas.Bool.{eq-eqb}
use Rattle.erl_base.specs.declared.ids.Place.{Place}
use Rattle.core_form.specs.Core.{Expr, values, var, fun_name, literal, list, tuple, new_map, map_of, binary, fun, let_in, letrec, case, apply, call, primop, do_then, catch, try, receive, Clauses, no_clause, and_clause, clause}
use Rattle.erl_base.specs.declared.refusal.ScopeFault.TheVariants.{WrongDegree}
use Rattle.core_scope.specs.Degrees.{scope_fault, first_fixed, degree, clauses_degree, agrees_with, leaf_needs, needs, clauses_need, ItsOwnDegree}

agrees_itself : (d : Option ℕ) → agrees_with d d ≡ true
agrees_itself None = refl
agrees_itself (Some n) = eq-eqb n n refl

leaf_itself : (p : Place) (d : Option ℕ) → leaf_needs None p d ≡ leaf_needs d p d
leaf_itself p None = refl
leaf_itself p (Some n) = sym (ap (λ b. scope_fault (not b) p WrongDegree) (agrees_itself (Some n)))

fixed_once : (d : Option ℕ) → first_fixed None d ≡ first_fixed d d
fixed_once None = refl
fixed_once (Some n) = refl

pub its_own : ItsOwnDegree
its_own (let_in p xs a b) = its_own b
its_own (letrec p ds b) = its_own b
its_own (do_then p a b) = its_own b
its_own (case p e cs) = ap (λ n. clauses_need n cs) (fixed_once (clauses_degree cs))
its_own (receive p cs t b) =
    ap (λ n. clauses_need n cs ++ needs n b) (fixed_once (first_fixed (clauses_degree cs) (degree b)))
its_own (try p a xs b ys c) = ap (λ n. needs n b ++ needs n c) (fixed_once (first_fixed (degree b) (degree c)))
its_own (values p es) = leaf_itself p (degree (values p es))
its_own (call p m f es) = leaf_itself p (degree (call p m f es))
its_own (primop p n es) = leaf_itself p (degree (primop p n es))
its_own (var p x) = refl
its_own (fun_name p f) = refl
its_own (literal p t) = refl
its_own (list p es e) = refl
its_own (tuple p es) = refl
its_own (new_map p ps) = refl
its_own (map_of p ps e) = refl
its_own (binary p ss) = refl
its_own (fun p xs e) = refl
its_own (apply p e es) = refl
its_own (catch p e) = refl

first_none : (c d : Option ℕ) → first_fixed c d ≡ None → c ≡ None
first_none None d h = refl
first_none (Some n) d h = h

second_none : (c d : Option ℕ) → first_fixed c d ≡ None → d ≡ None
second_none None d h = h
second_none (Some n) d h = absurd cc

leaf_every : (p : Place) (wanted d : Option ℕ) → d ≡ None → leaf_needs wanted p d ≡ []
leaf_every p wanted None h = refl
leaf_every p wanted (Some n) h = absurd cc

mutual
  pub every : (e : Expr) (wanted : Option ℕ) → degree e ≡ None → needs wanted e ≡ []
  every (let_in p xs a b) n h = every b n h
  every (letrec p ds b) n h = every b n h
  every (do_then p a b) n h = every b n h
  every (case p e cs) n h = every_clause cs (first_fixed n (clauses_degree cs)) h
  every (receive p cs t b) n h =
      let k = first_fixed n (first_fixed (clauses_degree cs) (degree b)) in
      ap₂ (λ xs ys. xs ++ ys) (every_clause cs k (first_none (clauses_degree cs) (degree b) h))
      (every b k (second_none (clauses_degree cs) (degree b) h))
  every (try p a xs b ys c) n h =
      let k = first_fixed n (first_fixed (degree b) (degree c)) in
      ap₂ (λ xs ys. xs ++ ys) (every b k (first_none (degree b) (degree c) h))
      (every c k (second_none (degree b) (degree c) h))
  every (values p es) n h = leaf_every p n (degree (values p es)) h
  every (call p m f es) n h = leaf_every p n (degree (call p m f es)) h
  every (primop p f es) n h = leaf_every p n (degree (primop p f es)) h
  every (var p x) n h = leaf_every p n (Some 1) h
  every (fun_name p f) n h = leaf_every p n (Some 1) h
  every (literal p t) n h = leaf_every p n (Some 1) h
  every (list p es e) n h = leaf_every p n (Some 1) h
  every (tuple p es) n h = leaf_every p n (Some 1) h
  every (new_map p ps) n h = leaf_every p n (Some 1) h
  every (map_of p ps e) n h = leaf_every p n (Some 1) h
  every (binary p ss) n h = leaf_every p n (Some 1) h
  every (fun p xs e) n h = leaf_every p n (Some 1) h
  every (apply p e es) n h = leaf_every p n (Some 1) h
  every (catch p e) n h = leaf_every p n (Some 1) h

  pub every_clause : (cs : Clauses) (wanted : Option ℕ) → clauses_degree cs ≡ None → clauses_need wanted cs ≡ []
  every_clause no_clause n h = refl
  every_clause (and_clause (clause p qs g e) cs) n h =
      ap₂ (λ xs ys. xs ++ ys) (every e n (first_none (degree e) (clauses_degree cs) h))
      (every_clause cs n (second_none (degree e) (clauses_degree cs) h))
