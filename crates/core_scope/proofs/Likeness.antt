-- The table of the walk means what the scopes of the definitions mean, sites and captures aside.
use Rattle.std.proofs.Common.{◌≡◌, ℕ, suc, ◌+◌, ◌≤◌, List, [], ◌∷◌, length, Bool, true, false, ◌||◌, leb, Option, Some, None, is_some, if◌then◌else◌, refl, arith, leb-false}
use Rattle.std.proofs.lemmas.Bool.{lt-leb, le-leb}
use Rattle.erl_base.specs.Names.{Name, same_name, same_key, is_key}
use Rattle.erl_base.specs.declared.ids.FunKey.{FunKey}
use Rattle.core_form.specs.Core.{Defs, no_def, and_def, def}
use Rattle.core_form.specs.Scope.{Scope, Use, variable, function, binding, function_of, with_names, body_of}
use Rattle.core_form.specs.Captures.{with_defs, sites_in}
use Rattle.core_form.specs.Sites.{module_scope}
use Rattle.core_names.specs.Table.{function_known}
use Rattle.core_names.specs.declared.table.Known.{Known}
use Rattle.core_scope.specs.ScopeWalk.{is_since, is_known_since, defs_scope}
use Rattle.core_scope.specs.ScopeFaults.{is_name_among}

-- k is the table's scope, g that of the definitions; all bindings of k stand below its length
pub record Alike (k g : Scope) : Type 0 where
  pub variables : (x : Name) → is_some (binding k x) ≡ is_some (binding g x)
  pub functions : (f : FunKey) → is_some (function_of k f) ≡ is_some (function_of g f)
  pub numbered : (x : Name) → is_since (length k) (binding k x) ≡ false
  pub positioned : (f : FunKey) → is_known_since (length k) (function_known k f) ≡ false

pub nothing_alike : Alike [] []
nothing_alike = record {
  variables = λ x. refl;
  functions = λ f. refl;
  numbered = λ x. refl;
  positioned = λ f. refl;
}

some_either : {A B : Type 0} (b : Bool) (x : A) (y : B) (o : Option A) (p : Option B) → is_some o ≡ is_some p
    → is_some (if b then Some x else o) ≡ is_some (if b then Some y else p)
some_either true x y o p e = refl
some_either false x y o p e = e

leb_suc : (n m : ℕ) → leb n m ≡ false → leb (suc n) m ≡ false
leb_suc n m e = let k = leb-false n m e in lt-leb (suc n) m (omega (arith, k))

since_suc : (n : ℕ) (o : Option ℕ) → is_since n o ≡ false → is_since (suc n) o ≡ false
since_suc n None e = refl
since_suc n (Some m) e = leb_suc n m e

known_since_suc : (n : ℕ) (o : Option Known) → is_known_since n o ≡ false → is_known_since (suc n) o ≡ false
known_since_suc n None e = refl
known_since_suc n (Some m) e = leb_suc n m.position e

since_either : (b : Bool) (n : ℕ) (o : Option ℕ) → is_since n o ≡ false
    → is_since (suc n) (if b then Some n else o) ≡ false
since_either true n o e = lt-leb (suc n) n (omega arith)
since_either false n o e = since_suc n o e

known_since_either : (b : Bool) (n s : ℕ) (o : Option Known) → is_known_since n o ≡ false
    → is_known_since (suc n) (if b then Some (record { site = s; position = n }) else o) ≡ false
known_since_either true n s o e = lt-leb (suc n) n (omega arith)
known_since_either false n s o e = known_since_suc n o e

pub alike_variable : {k g : Scope} (x : Name) (n : ℕ) → Alike k g
    → Alike (variable x (length k) ∷ k) (variable x n ∷ g)
alike_variable {k} {g} x n h = record {
  variables = λ y. some_either (same_name y x) (length k) n (binding k y) (binding g y) (h.variables y);
  functions = h.functions;
  numbered = λ y. since_either (same_name y x) (length k) (binding k y) (h.numbered y);
  positioned = λ f. known_since_suc (length k) (function_known k f) (h.positioned f);
}

pub alike_function : {k g : Scope} (f : FunKey) (n s : ℕ) (us : List Use) → Alike k g
    → Alike (function f n [] ∷ k) (function f s us ∷ g)
alike_function {k} {g} f n s us h = record {
  variables = h.variables;
  functions = λ q. some_either (same_key q f) (n, []) (s, us) (function_of k q) (function_of g q) (h.functions q);
  numbered = λ y. since_suc (length k) (binding k y) (h.numbered y);
  positioned = λ q. known_since_either (same_key q f) (length k) n (function_known k q) (h.positioned q);
}

pub alike_names : {k g : Scope} (xs : List Name) → Alike k g → Alike (with_names k xs) (with_names g xs)
alike_names [] h = h
alike_names {k} {g} (x ∷ xs) h = alike_names xs (alike_variable x (length g) h)

pub alike_defs : {k g : Scope} (ds : Defs) (n : ℕ) (us : List Use) → Alike k g
    → Alike (defs_scope ds k) (with_defs ds n us g)
alike_defs no_def n us h = h
alike_defs (and_def (def p f e) ds) n us h =
    alike_defs ds (n + suc (sites_in (body_of e))) us (alike_function f 0 n us h)

pub alike_module : {k g : Scope} (ds : Defs) (n : ℕ) → Alike k g → Alike (defs_scope ds k) (module_scope ds n g)
alike_module no_def n h = h
alike_module (and_def (def p f e) ds) n h = alike_module ds (suc n) (alike_function f 0 n [] h)

-- What is bound since k bindings stood.

bound_either : (b : Bool) (k n : ℕ) (o : Option ℕ) (c : Bool) → k ≤ n → is_since k o ≡ c
    → is_since k (if b then Some n else o) ≡ (b || c)
bound_either true k n o c l e = le-leb k n l
bound_either false k n o c l e = e

-- one variable more
pub bound_more : (k : ℕ) (g : Scope) (x : Name) (seen : List Name) → k ≤ length g
    → ((y : Name) → is_since k (binding g y) ≡ is_name_among y seen)
    → (y : Name) → is_since k (binding (variable x (length g) ∷ g) y) ≡ is_name_among y (x ∷ seen)
bound_more k g x seen l h y =
    bound_either (same_name y x) k (length g) (binding g y) (is_name_among y seen) l (h y)

known_either : (b : Bool) (k n s : ℕ) (o : Option Known) (c : Bool) → k ≤ n → is_known_since k o ≡ c
    → is_known_since k (if b then Some (record { site = s; position = n }) else o) ≡ (b || c)
known_either true k n s o c l e = le-leb k n l
known_either false k n s o c l e = e

-- one function more
pub known_more : (k : ℕ) (g : Scope) (f : FunKey) (seen : List FunKey) → k ≤ length g
    → ((q : FunKey) → is_known_since k (function_known g q) ≡ is_key q seen)
    → (q : FunKey) → is_known_since k (function_known (function f 0 [] ∷ g) q) ≡ is_key q (f ∷ seen)
known_more k g f seen l h q = known_either (same_key q f) k (length g) 0 (function_known g q) (is_key q seen) l (h q)
