-- The way of the code meets the faults of the definitions.
use Rattle.std.proofs.Common.{◌≡◌, ℕ, List, [], ◌++◌, length, Bool, true, false, not, ◌&&◌, Option, Some, None, refl, sym, ap, ◌∙◌, subst}
use Rattle.erl_base.specs.declared.ids.Place.{Place}
use Rattle.erl_base.specs.declared.ids.FunKey.{FunKey}
use Rattle.erl_base.specs.declared.refusal.Refusal.{Refusal}
use Rattle.erl_base.specs.declared.refusal.ScopeFault.TheVariants.{ClauseWidth, GuardForm}
use Rattle.bif_table.specs.Builtins.{never_returns}
use Rattle.core_form.specs.declared.tree.Binder.{Binder}
use Rattle.core_form.specs.Core.{Module, Expr, values, var, fun_name, literal, list, tuple, new_map, map_of, binary, fun, let_in, letrec, case, apply, call, primop, do_then, catch, try, receive, Exprs, no_expr, and_expr, MapParts, no_part, and_part, map_part, Segments, no_segment, and_segment, segment, Defs, no_def, and_def, def, Clauses, no_clause, and_clause, clause, Patterns}
use Rattle.core_form.specs.Scope.{Scope, with_names, names_of, bound_all}
use Rattle.core_form.specs.Captures.{with_defs}
use Rattle.core_form.specs.Sites.{module_scope}
use Rattle.core_form.specs.Walks.{literal_name, expr_count}
use Rattle.first_fault.specs.FirstFault.{first_with, IsFirst}
use Rattle.first_fault.proofs.First.{none_kept, first_kept}
use Rattle.core_scope.specs.declared.judged.Judged.{Judged}
use Rattle.core_scope.specs.declared.judged.Wanted.{Wanted}
use Rattle.core_scope.specs.declared.judged.Wanted.TheVariants.{Nothing, Alike as AllAlike, Exactly}
use Rattle.core_scope.specs.Degrees.{scope_fault, first_fixed, one_unless, is_raising_primop, degree, clauses_degree, leaf_needs, needs, element_needs, operator_needs, agrees_with}
use Rattle.core_scope.specs.ScopeFaults.{variable_use, function_use, doubled, defined_faults, defined, export_faults, patterns_binders, patterns_uses, pattern_count, is_guard_form, form_fault, faults_in, faults_of_elements, faults_of_parts, faults_of_segments, faults_of_defs, faults_of_clauses, scope_faults}
use Rattle.core_scope.specs.ScopeWalk.{fixed, settled, with_first, wanting, leaf, value_list_fault, element_wanted, as_element, scoped, unguarded, variables_met, defs_scope, defs_met, exports_met, patterns_scope, patterns_met, head_met, judge, judge_elements, judge_parts, judge_segments, judge_defs, judge_clauses, judge_module}
use Rattle.core_scope.proofs.Weights.{Even, Meets, told, onward, turned, ends, none_of_even, first_of_even}
use Rattle.core_scope.proofs.Likeness.{Alike, nothing_alike, alike_names, alike_defs, alike_module}
use Rattle.core_scope.proofs.Wants.{demanded, demanded_clauses, settled_both, fixed_alike, leaf_demanded, settle, settle_last, settle_clauses, one_clause, case_demanded, receive_demanded, try_demanded, last_demanded, element_demanded}
use Rattle.core_scope.proofs.Heads.{doubled_met, defined_met, exports_are_met, patterns_doubled, patterns_looked, alike_patterns, variable_use_alike, function_use_alike}
use Rattle.core_scope.proofs.Orders.{grouped, last_first, element_order, leaf_order, let_order, apply_order, call_order, pair_order, try_order, receive_order, clause_order, module_order}

-- from s to t an expression with this degree, or clauses, meet these faults
record Judges (s t : Judged) (d : Option ℕ) (faults : List Refusal) : Type 0 where
  wanted : t.wanted ≡ settled s.wanted d
  meets : Meets s.first t.first faults

-- Forms.

leaf_arm : (e : Expr) (p : Place) (d : Option ℕ) (s : Judged) (o : Option Refusal) (fs : List Refusal)
    → ((n : Option ℕ) → needs n e ≡ leaf_needs n p d) → Meets s.first o fs
    → Judges s (leaf p d (with_first o s)) d (demanded s.wanted e ++ fs)
leaf_arm e p d s o fs h v =
    let k = leaf_needs (fixed s.wanted) p d in
    record {
      wanted = refl;
      meets = turned (onward v (told o k)) (leaf_order fs k (demanded s.wanted e) (leaf_demanded e p d h s.wanted));
    }

-- whose last part is c
last_arm : (e c : Expr) (s t : Judged) (o : Option Refusal) (d : Option ℕ) (fs gs : List Refusal)
    → ((n : Option ℕ) → needs n e ≡ needs n c) → Meets s.first o fs
    → Judges (with_first o s) t d (demanded s.wanted c ++ gs) → Judges s t d (demanded s.wanted e ++ (fs ++ gs))
last_arm e c s t o d fs gs h v w = record {
  wanted = w.wanted;
  meets = turned (onward v w.meets)
      (last_first fs (demanded s.wanted c) gs (demanded s.wanted e) (last_demanded e c h s.wanted));
}

and_true : (b : Bool) → b ≡ (b && true)
and_true true = refl
and_true false = refl

-- a form that no guard has
free_form : (b : Bool) (p : Place) (e : Expr) (o : Option Refusal) → is_guard_form e ≡ false
    → Meets o (unguarded b p o) (form_fault b p e)
free_form b p e o h = ends (told o (form_fault b p e))
    (ap (λ c. first_with o (scope_fault c p GuardForm)) (and_true b ∙ ap (λ c. b && not c) (sym h)))

one_element : (e : Expr) (o : Option Refusal) (t : Judged) (d : Option ℕ) (fs : List Refusal)
    → Judges (as_element e o) t d (demanded (element_wanted e) e ++ fs) → Meets o t.first (element_needs e ++ fs)
one_element e o t d fs v = turned (onward (told o (value_list_fault e)) v.meets)
    (element_order (value_list_fault e) (demanded (element_wanted e) e) fs (element_needs e) (element_demanded e))

operator_one : (e : Expr) → operator_needs e ≡ needs (Some 1) e
operator_one (fun_name p f) = refl
operator_one e = refl

head_meets : {k g : Scope} (p : Place) (qs : Patterns) (n : Option ℕ) (o : Option Refusal) → Alike k g
    → Meets o (head_met p qs n k o)
    ((scope_fault (not (agrees_with (Some (pattern_count qs)) n)) p ClauseWidth ++ patterns_uses g qs)
    ++ doubled [] (patterns_binders qs))
head_meets {k} {g} p qs n o h =
    let width = scope_fault (not (agrees_with (Some (pattern_count qs)) n)) p ClauseWidth in
    let a = first_with o width in
    let b = patterns_looked qs a h in
    let c = patterns_doubled qs k g (first_with a (patterns_uses g qs)) h in
    ends (onward (onward (told o width) (told a (patterns_uses g qs)))
    (told (first_with a (patterns_uses g qs)) (doubled [] (patterns_binders qs))))
    (ap (λ r. patterns_met qs (length k) k r) b ∙ c)

doubled_meets : {k g : Scope} (xs : List Binder) (o : Option Refusal) → Alike k g
    → Meets o (variables_met xs (length k) k o) (doubled [] xs)
doubled_meets {k} {g} xs o h = ends (told o (doubled [] xs)) (doubled_met k g xs o h)

defined_meets : {k g : Scope} (ds : Defs) (o : Option Refusal) → Alike k g
    → Meets o (defs_met ds (length k) k o) (defined_faults [] ds)
defined_meets {k} {g} ds o h = ends (told o (defined_faults [] ds)) (defined_met k g ds o h)

-- a value and the doubled variables that it is for
value_meets : {k g : Scope} (a : Expr) (xs : List Binder) (t : Judged) (o : Option Refusal) (fs : List Refusal)
    → Alike k g → Meets o t.first (needs (Some (length xs)) a ++ fs)
    → Meets o (variables_met xs (length k) k t.first) ((needs (Some (length xs)) a ++ fs) ++ doubled [] xs)
value_meets a xs t o fs h v = onward v (doubled_meets xs t.first h)

settled_none : (w : Wanted) → settled w None ≡ w
settled_none Nothing = refl
settled_none AllAlike = refl
settled_none (Exactly n) = refl

none_met : (w : Wanted) (o : Option Refusal) → Meets o o (demanded_clauses w no_clause ++ [])
none_met Nothing o = told o []
none_met AllAlike o = told o []
none_met (Exactly n) o = told o []

none_judged : (s : Judged) → Judges s s None (demanded_clauses (settled s.wanted None) no_clause ++ [])
none_judged s = record { wanted = sym (settled_none s.wanted); meets = none_met (settled s.wanted None) s.first }

function_meets : {k g : Scope} (p : Place) (f : FunKey) (o : Option Refusal) → Alike k g
    → Meets o (first_with o (function_use k p f)) (function_use g p f)
function_meets {k} {g} p f o h = ends (told o (function_use g p f)) (ap (first_with o) (function_use_alike p f h))

-- Forms with bodies that have to agree; what their parts meet is given.

case_arm : (p : Place) (e : Expr) (cs : Clauses) (k g : Scope) (b : Bool) (s : Judged)
    → Judges (wanting AllAlike s.first) (judge e k b (wanting AllAlike s.first)) (degree e)
    (needs None e ++ faults_in e g b)
    → Judges (with_first (judge e k b (wanting AllAlike s.first)).first s) (judge (case p e cs) k b s)
    (clauses_degree cs) (demanded_clauses (settled s.wanted (clauses_degree cs)) cs
    ++ faults_of_clauses cs (fixed (judge e k b (wanting AllAlike s.first)).wanted) g b)
    → Judges s (judge (case p e cs) k b s) (clauses_degree cs)
    (demanded s.wanted (case p e cs) ++ faults_in (case p e cs) g b)
case_arm p e cs k g b s v w =
    let t = judge e k b (wanting AllAlike s.first) in
    let n : fixed t.wanted ≡ degree e = ap fixed v.wanted ∙ fixed_alike (degree e) in
    record {
      wanted = w.wanted;
      meets = subst (λ m. Meets s.first (judge (case p e cs) k b s).first (demanded s.wanted (case p e cs)
          ++ ((needs None e ++ faults_in e g b) ++ faults_of_clauses cs m g b))) n
          (turned (onward v.meets w.meets)
          (last_first (needs None e ++ faults_in e g b) (demanded_clauses (settled s.wanted (clauses_degree cs)) cs)
          (faults_of_clauses cs (fixed t.wanted) g b) (demanded s.wanted (case p e cs))
          (case_demanded s.wanted p e cs)));
    }

try_arm : (p : Place) (a : Expr) (xs : List Binder) (c : Expr) (ys : List Binder) (d : Expr) (k g : Scope) (b : Bool)
    (s r u : Judged) → Alike k g → r.wanted ≡ s.wanted
    → Meets s.first r.first ((needs (Some (length xs)) a ++ faults_in a g b) ++ doubled [] xs)
    → Judges r u (degree c) (demanded r.wanted c ++ faults_in c (with_names g (names_of xs)) b)
    → (t : Judged)
    → Judges (scoped ys k u) t (degree d) (demanded u.wanted d ++ faults_in d (with_names g (names_of ys)) b)
    → Judges s t (first_fixed (degree c) (degree d))
    (demanded s.wanted (try p a xs c ys d) ++ faults_in (try p a xs c ys d) g b)
try_arm p a xs c ys d k g b s r u h q x v t w =
    let l = settled s.wanted (first_fixed (degree c) (degree d)) in
    let e : settled u.wanted (degree d) ≡ l =
    ap (λ z. settled z (degree d)) (v.wanted ∙ ap (λ z. settled z (degree c)) q)
    ∙ settled_both s.wanted (degree c) (degree d) in
    record {
      wanted = w.wanted ∙ e;
      meets = turned (onward (onward (onward x v.meets) (doubled_meets ys u.first h)) w.meets)
          (try_order (needs (Some (length xs)) a ++ faults_in a g b) (doubled [] xs)
          (demanded r.wanted c) (faults_in c (with_names g (names_of xs)) b) (doubled [] ys)
          (demanded u.wanted d) (faults_in d (with_names g (names_of ys)) b)
          (demanded s.wanted (try p a xs c ys d)) (demanded l c) (demanded l d)
          (try_demanded s.wanted p a xs c ys d) (ap (λ z. demanded z c) q ∙ settle s.wanted c (degree d))
          (settle_last u.wanted d ∙ ap (λ z. demanded z d) e));
    }

receive_arm : (p : Place) (cs : Clauses) (t c : Expr) (g : Scope) (b : Bool) (s u z : Judged) (o q : Option Refusal)
    → Meets s.first o (form_fault b p (receive p cs t c))
    → Judges (with_first o s) u (clauses_degree cs)
    (demanded_clauses (settled s.wanted (clauses_degree cs)) cs ++ faults_of_clauses cs (Some 1) g b)
    → Meets u.first q (needs (Some 1) t ++ faults_in t g b)
    → Judges (with_first q u) z (degree c) (demanded u.wanted c ++ faults_in c g b)
    → Judges s z (first_fixed (clauses_degree cs) (degree c))
    (demanded s.wanted (receive p cs t c) ++ faults_in (receive p cs t c) g b)
receive_arm p cs t c g b s u z o q f v x w =
    let l = settled s.wanted (first_fixed (clauses_degree cs) (degree c)) in
    let e : settled u.wanted (degree c) ≡ l =
    ap (λ m. settled m (degree c)) v.wanted ∙ settled_both s.wanted (clauses_degree cs) (degree c) in
    record {
      wanted = w.wanted ∙ e;
      meets = turned (onward (onward (onward f v.meets) x) w.meets)
          (receive_order (form_fault b p (receive p cs t c))
          (demanded_clauses (settled s.wanted (clauses_degree cs)) cs) (faults_of_clauses cs (Some 1) g b)
          (needs (Some 1) t) (faults_in t g b) (demanded u.wanted c) (faults_in c g b)
          (demanded s.wanted (receive p cs t c)) (demanded_clauses l cs) (demanded l c)
          (receive_demanded s.wanted p cs t c) (settle_clauses s.wanted cs (degree c))
          (settle_last u.wanted c ∙ ap (λ m. demanded m c) e));
    }

-- The walk; k is the table's scope.

mutual
  in_expr : (e : Expr) (k g : Scope) (b : Bool) (s : Judged) → Alike k g
      → Judges s (judge e k b s) (degree e) (demanded s.wanted e ++ faults_in e g b)
  in_expr (values p es) k g b s h =
      leaf_arm (values p es) p (Some (expr_count es)) s _ _ (λ n. refl) (in_elements es k g b s.first h)
  in_expr (var p x) k g b s h =
      leaf_arm (var p x) p (Some 1) s _ _ (λ n. refl)
      (ends (told s.first (variable_use g p x)) (ap (first_with s.first) (variable_use_alike p x h)))
  in_expr (fun_name p f) k g b s h =
      leaf_arm (fun_name p f) p (Some 1) s _ _ (λ n. refl)
      (onward (free_form b p (fun_name p f) s.first refl) (function_meets p f (unguarded b p s.first) h))
  in_expr (literal p t) k g b s h =
      leaf_arm (literal p t) p (Some 1) s s.first [] (λ n. refl) (told s.first [])
  in_expr (list p es e) k g b s h =
      leaf_arm (list p es e) p (Some 1) s _ _ (λ n. refl)
      (turned (onward (in_elements es k g b s.first h)
      (one_element e (judge_elements es k b s.first) (judge e k b (as_element e (judge_elements es k b s.first)))
      (degree e) (faults_in e g b)
      (in_expr e k g b (as_element e (judge_elements es k b s.first)) h)))
      (grouped (faults_of_elements es g b) (element_needs e) (faults_in e g b)))
  in_expr (tuple p es) k g b s h =
      leaf_arm (tuple p es) p (Some 1) s _ _ (λ n. refl) (in_elements es k g b s.first h)
  in_expr (new_map p ps) k g b s h =
      leaf_arm (new_map p ps) p (Some 1) s _ _ (λ n. refl) (in_parts ps k g b s.first h)
  in_expr (map_of p ps e) k g b s h =
      leaf_arm (map_of p ps e) p (Some 1) s _ _ (λ n. refl)
      (turned (onward (in_parts ps k g b s.first h)
      (one_element e (judge_parts ps k b s.first) (judge e k b (as_element e (judge_parts ps k b s.first)))
      (degree e) (faults_in e g b)
      (in_expr e k g b (as_element e (judge_parts ps k b s.first)) h)))
      (grouped (faults_of_parts ps g b) (element_needs e) (faults_in e g b)))
  in_expr (binary p ss) k g b s h =
      leaf_arm (binary p ss) p (Some 1) s _ _ (λ n. refl) (in_segments ss k g b s.first h)
  in_expr (fun p xs e) k g b s h =
      let o = unguarded b p s.first in
      leaf_arm (fun p xs e) p (Some 1) s _ _ (λ n. refl)
      (turned (onward (onward (free_form b p (fun p xs e) s.first refl) (doubled_meets xs o h))
      (in_expr e (with_names k (names_of xs)) (with_names g (names_of xs)) b (scoped xs k (wanting (Exactly 1) o))
      (alike_names (names_of xs) h)).meets)
      (grouped (form_fault b p (fun p xs e) ++ doubled [] xs) (needs (Some 1) e)
      (faults_in e (with_names g (names_of xs)) b)))
  in_expr (let_in p xs a c) k g b s h =
      let t = judge a k b (wanting (Exactly (length xs)) s.first) in
      last_arm (let_in p xs a c) c s _ (variables_met xs (length k) k t.first) _ _ _ (λ n. refl)
      (turned (value_meets a xs t s.first (faults_in a g b) h
      (in_expr a k g b (wanting (Exactly (length xs)) s.first) h).meets)
      (let_order (needs (Some (length xs)) a) (faults_in a g b) (doubled [] xs)))
      (in_expr c (with_names k (names_of xs)) (with_names g (names_of xs)) b
      (scoped xs k (with_first t.first s)) (alike_names (names_of xs) h))
  in_expr (letrec p ds c) k g b s h =
      let o = unguarded b p s.first in
      let l = alike_defs ds 0 [] h in
      last_arm (letrec p ds c) c s _ _ _ _ _ (λ n. refl)
      (onward (onward (free_form b p (letrec p ds c) s.first refl) (defined_meets ds o h))
      (in_defs ds (defs_scope ds k) (with_defs ds 0 [] g) b (defs_met ds (length k) k o) l))
      (in_expr c (defs_scope ds k) (with_defs ds 0 [] g) b
      (with_first (judge_defs ds (defs_scope ds k) b (defs_met ds (length k) k o)) s) l)
  in_expr (case p e cs) k g b s h =
      let t = judge e k b (wanting AllAlike s.first) in
      case_arm p e cs k g b s (in_expr e k g b (wanting AllAlike s.first) h)
      (in_clauses cs (fixed t.wanted) k g b (with_first t.first s) h)
  in_expr (apply p e es) k g b s h =
      let o = unguarded b p s.first in
      leaf_arm (apply p e es) p (Some 1) s _ _ (λ n. refl)
      (turned (onward (onward (free_form b p (apply p e es) s.first refl)
      (in_expr e k g b (wanting (Exactly 1) o) h).meets)
      (in_elements es k g b (judge e k b (wanting (Exactly 1) o)).first h))
      (apply_order (form_fault b p (apply p e es)) (needs (Some 1) e) (faults_in e g b) (faults_of_elements es g b)
      (operator_needs e) (operator_one e)))
  in_expr (call p m f es) k g b s h =
      let o = unguarded (b && not (is_guard_form (call p m f es))) p s.first in
      let t = judge m k b (wanting (Exactly 1) o) in
      let u = judge f k b (wanting (Exactly 1) t.first) in
      leaf_arm (call p m f es) p (one_unless (never_returns (literal_name m) (literal_name f) (expr_count es))) s _ _
      (λ n. refl)
      (turned (onward (onward (onward (told s.first (form_fault b p (call p m f es)))
      (in_expr m k g b (wanting (Exactly 1) o) h).meets) (in_expr f k g b (wanting (Exactly 1) t.first) h).meets)
      (in_elements es k g b u.first h))
      (call_order (form_fault b p (call p m f es)) (needs (Some 1) m) (faults_in m g b) (needs (Some 1) f)
      (faults_in f g b) (faults_of_elements es g b)))
  in_expr (primop p n es) k g b s h =
      leaf_arm (primop p n es) p (one_unless (is_raising_primop n)) s _ _ (λ n. refl)
      (onward (free_form b p (primop p n es) s.first refl) (in_elements es k g b (unguarded b p s.first) h))
  in_expr (do_then p a c) k g b s h =
      let o = unguarded b p s.first in
      let t = judge a k b (wanting AllAlike o) in
      last_arm (do_then p a c) c s _ t.first _ _ _ (λ n. refl)
      (turned (onward (free_form b p (do_then p a c) s.first refl) (in_expr a k g b (wanting AllAlike o) h).meets)
      (grouped (form_fault b p (do_then p a c)) (needs None a) (faults_in a g b)))
      (in_expr c k g b (with_first t.first s) h)
  in_expr (catch p e) k g b s h =
      let o = unguarded b p s.first in
      leaf_arm (catch p e) p (Some 1) s _ _ (λ n. refl)
      (turned (onward (free_form b p (catch p e) s.first refl) (in_expr e k g b (wanting (Exactly 1) o) h).meets)
      (grouped (form_fault b p (catch p e)) (needs (Some 1) e) (faults_in e g b)))
  in_expr (try p a xs c ys d) k g b s h =
      let t = judge a k b (wanting (Exactly (length xs)) s.first) in
      let r = scoped xs k (with_first t.first s) in
      let u = judge c (with_names k (names_of xs)) b r in
      try_arm p a xs c ys d k g b s r u h refl
      (value_meets a xs t s.first (faults_in a g b) h (in_expr a k g b (wanting (Exactly (length xs)) s.first) h).meets)
      (in_expr c (with_names k (names_of xs)) (with_names g (names_of xs)) b r (alike_names (names_of xs) h))
      (judge d (with_names k (names_of ys)) b (scoped ys k u))
      (in_expr d (with_names k (names_of ys)) (with_names g (names_of ys)) b (scoped ys k u)
      (alike_names (names_of ys) h))
  in_expr (receive p cs t c) k g b s h =
      let o = unguarded b p s.first in
      let u = judge_clauses cs (Some 1) k b (with_first o s) in
      let x = judge t k b (wanting (Exactly 1) u.first) in
      receive_arm p cs t c g b s u (judge c k b (with_first x.first u)) o x.first
      (free_form b p (receive p cs t c) s.first refl) (in_clauses cs (Some 1) k g b (with_first o s) h)
      (in_expr t k g b (wanting (Exactly 1) u.first) h).meets (in_expr c k g b (with_first x.first u) h)

  in_elements : (es : Exprs) (k g : Scope) (b : Bool) (o : Option Refusal) → Alike k g
      → Meets o (judge_elements es k b o) (faults_of_elements es g b)
  in_elements no_expr k g b o h = told o []
  in_elements (and_expr e es) k g b o h =
      onward (one_element e o (judge e k b (as_element e o)) (degree e) (faults_in e g b)
      (in_expr e k g b (as_element e o) h)) (in_elements es k g b (judge e k b (as_element e o)).first h)

  in_parts : (ps : MapParts) (k g : Scope) (b : Bool) (o : Option Refusal) → Alike k g
      → Meets o (judge_parts ps k b o) (faults_of_parts ps g b)
  in_parts no_part k g b o h = told o []
  in_parts (and_part (map_part x v m) ps) k g b o h =
      let t = judge x k b (as_element x o) in
      let u = judge v k b (as_element v t.first) in
      turned (onward (onward (one_element x o (judge x k b (as_element x o)) (degree x) (faults_in x g b)
      (in_expr x k g b (as_element x o) h))
      (one_element v t.first (judge v k b (as_element v t.first)) (degree v) (faults_in v g b)
      (in_expr v k g b (as_element v t.first) h))) (in_parts ps k g b u.first h))
      (pair_order (element_needs x) (faults_in x g b) (element_needs v) (faults_in v g b) (faults_of_parts ps g b))

  in_segments : (ss : Segments) (k g : Scope) (b : Bool) (o : Option Refusal) → Alike k g
      → Meets o (judge_segments ss k b o) (faults_of_segments ss g b)
  in_segments no_segment k g b o h = told o []
  in_segments (and_segment (segment p v z u q f) ss) k g b o h =
      let t = judge v k b (as_element v o) in
      let r = judge z k b (as_element z t.first) in
      turned (onward (onward (one_element v o (judge v k b (as_element v o)) (degree v) (faults_in v g b)
      (in_expr v k g b (as_element v o) h))
      (one_element z t.first (judge z k b (as_element z t.first)) (degree z) (faults_in z g b)
      (in_expr z k g b (as_element z t.first) h))) (in_segments ss k g b r.first h))
      (pair_order (element_needs v) (faults_in v g b) (element_needs z) (faults_in z g b) (faults_of_segments ss g b))

  in_defs : (ds : Defs) (k g : Scope) (b : Bool) (o : Option Refusal) → Alike k g
      → Meets o (judge_defs ds k b o) (faults_of_defs ds g b)
  in_defs no_def k g b o h = told o []
  in_defs (and_def (def p f e) ds) k g b o h =
      onward (in_expr e k g b (wanting Nothing o) h).meets
      (in_defs ds k g b (judge e k b (wanting Nothing o)).first h)

  in_clauses : (cs : Clauses) (n : Option ℕ) (k g : Scope) (b : Bool) (s : Judged) → Alike k g
      → Judges s (judge_clauses cs n k b s) (clauses_degree cs)
      (demanded_clauses (settled s.wanted (clauses_degree cs)) cs ++ faults_of_clauses cs n g b)
  in_clauses no_clause n k g b s h = none_judged s
  in_clauses (and_clause (clause p qs e c) cs) n k g b s h =
      let l = alike_patterns qs h in
      let o = head_met p qs n k s.first in
      let t = judge e (patterns_scope qs k) true (wanting (Exactly 1) o) in
      let u = judge c (patterns_scope qs k) b (with_first t.first s) in
      let v = in_expr c (patterns_scope qs k) (with_names g (bound_all qs)) b (with_first t.first s) l in
      let w = in_clauses cs n k g b u h in
      let m = settled s.wanted (first_fixed (degree c) (clauses_degree cs)) in
      let x : settled u.wanted (clauses_degree cs) ≡ m =
      ap (λ y. settled y (clauses_degree cs)) v.wanted ∙ settled_both s.wanted (degree c) (clauses_degree cs) in
      let width = scope_fault (not (agrees_with (Some (pattern_count qs)) n)) p ClauseWidth in
      record {
        wanted = w.wanted ∙ x;
        meets = turned (onward (onward (onward (head_meets p qs n s.first h)
            (in_expr e (patterns_scope qs k) (with_names g (bound_all qs)) true (wanting (Exactly 1) o) l).meets)
            v.meets) w.meets)
            (clause_order ((width ++ patterns_uses g qs) ++ doubled [] (patterns_binders qs)) (needs (Some 1) e)
            (faults_in e (with_names g (bound_all qs)) true) (demanded s.wanted c)
            (faults_in c (with_names g (bound_all qs)) b)
            (demanded_clauses (settled u.wanted (clauses_degree cs)) cs) (faults_of_clauses cs n g b)
            (demanded_clauses m (and_clause (clause p qs e c) cs)) (demanded m c)
            (one_clause m p qs e c cs ∙ ap (λ y. demanded m c ++ demanded_clauses y cs) (sym x))
            (settle s.wanted c (clauses_degree cs)));
      }

-- Modules.

pub module_meets : (m : Module) → Meets None (judge_module m) (scope_faults m)
module_meets m =
    let k = defs_scope m.defs [] in
    let o = defs_met m.defs 0 [] None in
    turned (onward (onward (defined_meets m.defs None nothing_alike)
    (ends (told o (export_faults (defined m.defs) m.exports)) (exports_are_met m.exports m.defs o)))
    (in_defs m.defs k (module_scope m.defs 0 []) false (exports_met m.exports k o)
    (alike_module m.defs 0 nothing_alike)))
    (module_order (defined_faults [] m.defs) (export_faults (defined m.defs) m.exports)
    (faults_of_defs m.defs (module_scope m.defs 0 []) false))

even_met : (m : Module) → Even (module_meets m).met (scope_faults m)
even_met m = record { at = λ h. (module_meets m).even h }

pub none_found : (m : Module) (o : Option Refusal) → o ≡ judge_module m → o ≡ None → scope_faults m ≡ []
none_found m o e n =
    none_of_even (module_meets m).met (scope_faults m) (even_met m)
    (none_kept (module_meets m).met o (e ∙ (module_meets m).first) n)

pub first_found : (m : Module) (o : Option Refusal) (f : Refusal) → o ≡ judge_module m → o ≡ Some f
    → IsFirst (scope_faults m) f
first_found m o f e n =
    first_of_even (module_meets m).met (scope_faults m) f (even_met m)
    (first_kept (module_meets m).met o f (e ∙ (module_meets m).first) n)
