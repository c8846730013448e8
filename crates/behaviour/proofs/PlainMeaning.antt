-- What a plain definition means.
use Rattle.std.proofs.Common.{◌≡◌, ◌<◌, ◌+◌, not, ◌||◌, ℕ, zero, suc, List, [], ◌∷◌, ◌++◌, map, length, slice_get, if◌then◌else◌, eqb, Bool, true, false, Option, Some, None, refl, sym, ap, ◌∙◌, subst, arith}
use Rattle.std.proofs.lemmas.Bool.{eq-eqb, eqb-true, ne_eqb}
use Rattle.erl_base.specs.Names.{Name, same_name, same_key, is_key, keys_distinct}
use Rattle.erl_base.specs.declared.ids.FunKey.{FunKey}
use Rattle.erl_base.specs.declared.ids.Place.{Place}
use Rattle.erl_term.specs.Term as T
use Rattle.erl_term.specs.Term.{Term}
use Rattle.erl_term.specs.Terms.{Values}
use Rattle.world_model.specs.Run.{State, M, give}
use Rattle.world_model.specs.Meaning.{as_values, single, one}
use Rattle.core_form.specs.declared.tree.Binder.{Binder}
use Rattle.core_form.specs.Core.{Module, Expr, literal, var, fun, Defs, no_def, and_def, def}
use Rattle.core_form.specs.Scope.{Scope, variable, function, binding, function_of, with_names, numbers_from, names_of, params_of, body_of}
use Rattle.core_form.specs.Captures.{sites_in}
use Rattle.core_form.specs.Sites.{named_site, sites, module_scope, def_count, own_sites, inner_sites, module_sites}
use Rattle.pass_contract.specs.PassContract.{undef}
use Rattle.core_meaning.specs.Calls.{Invocation}
use Rattle.core_meaning.specs.EvaluationContext.{EvaluationContext, held, holding, value_of}
use Rattle.core_meaning.specs.Evaluation.{eval}
use Rattle.core_meaning.specs.CoreRun.{run_site}
use Rattle.behaviour.specs.PlainModules.{PlainBody, number, atom, parameter, PlainFun, later_place, parameter_place, as_parameter, plain_body, with_key, plain_fun, both_plain, plain_funs}
use Rattle.behaviour.proofs.Keys.{and_true, or_false, same_key_is, same_key_itself, other_key, keys_differ, some_is}
use Rattle.behaviour.proofs.PlainRuns.{given, end_given, plain_end, plain_end_is, AllGiven, Found}

-- Definitions one by one.

abbrev pub IsPlain : Defs → List PlainFun → Type 0
IsPlain no_def [] = Unit {0}
IsPlain no_def (h ∷ hs) = ⊥
IsPlain (and_def d ds) [] = ⊥
IsPlain (and_def (def p f e) ds) (h ∷ hs) = (plain_fun f e ≡ Some h) × IsPlain ds hs

plain_and : (p : Place) (f : FunKey) (e : Expr) (ds : Defs) (hs : List PlainFun)
    → ((gs : List PlainFun) → plain_funs ds ≡ Some gs → IsPlain ds gs) →
    (o : Option PlainFun) (os : Option (List PlainFun)) → plain_fun f e ≡ o → plain_funs ds ≡ os
    → both_plain o os ≡ Some hs → IsPlain (and_def (def p f e) ds) hs
plain_and p f e ds hs ih None os a b q = absurd cc
plain_and p f e ds hs ih (Some h) None a b q = absurd cc
plain_and p f e ds hs ih (Some h) (Some gs) a b q =
    subst (λ l. IsPlain (and_def (def p f e) ds) l) (some_is (h ∷ gs) hs q) (a, ih gs b)

pub plain_each : (ds : Defs) (hs : List PlainFun) → plain_funs ds ≡ Some hs → IsPlain ds hs
plain_each no_def hs q = subst (λ l. IsPlain no_def l) (some_is [] hs q) tt
plain_each (and_def (def p f e) ds) hs q =
    plain_and p f e ds hs (plain_each ds) (plain_fun f e) (plain_funs ds) refl refl q

-- a plain definition's right side
pub record IsPlainFun (f : FunKey) (e : Expr) (h : PlainFun) : Type 0 where
  pub place : Place
  pub params : List Binder
  pub body : Expr
  pub is : e ≡ fun place params body
  pub arity : f.arity ≡ length params
  pub plain : plain_body params body ≡ Some h.body
  pub key : h.key ≡ f

keyed : (f : FunKey) (o : Option PlainBody) (h : PlainFun) → with_key f o ≡ Some h → (o ≡ Some h.body) × (h.key ≡ f)
keyed f None h q = absurd cc
keyed f (Some b) h q = let e =
    some_is (record { key = f; body = b }) h q in (ap (λ z. Some z.body) e, sym (ap (λ z. z.key) e))

fun_with : (f : FunKey) (p : Place) (bs : List Binder) (b : Expr) (h : PlainFun) (c : Bool)
    → eqb f.arity (length bs) ≡ c →
    (if c then with_key f (plain_body bs b) else None) ≡ Some h → IsPlainFun f (fun p bs b) h
fun_with f p bs b h true a q =
    let w = keyed f (plain_body bs b) h q in
    record {
      place = p;
      params = bs;
      body = b;
      is = refl;
      arity = eqb-true f.arity (length bs) a;
      plain = w.0;
      key = w.1;
    }
fun_with f p bs b h false a q = absurd cc

pub fun_is : (f : FunKey) (e : Expr) (h : PlainFun) → plain_fun f e ≡ Some h → IsPlainFun f e h
fun_is f (fun p bs b) h q = fun_with f p bs b h (eqb f.arity (length bs)) refl q
fun_is f _ h q = absurd cc

-- Parameters: the number of a variable, and what its binding holds.

no_place_after : (x : Name) (b : Binder) (bs : List Binder) (g : Scope) (c : Bool) (o : Option ℕ) →
    (parameter_place x bs ≡ None → binding (with_names (variable b.name (length g) ∷ g) (names_of bs)) x
    ≡ binding (variable b.name (length g) ∷ g) x) →
    same_name x b.name ≡ c → parameter_place x bs ≡ o → later_place c o ≡ None
    → binding (with_names g (names_of (b ∷ bs))) x ≡ binding g x
no_place_after x b bs g c (Some j) ih s e z = absurd cc
no_place_after x b bs g true None ih s e z = absurd cc
no_place_after x b bs g false None ih s e z = ih e ∙ ap (λ d. if d then Some (length g) else binding g x) s

no_place : (x : Name) (bs : List Binder) (g : Scope) → parameter_place x bs ≡ None
    → binding (with_names g (names_of bs)) x ≡ binding g x
no_place x [] g q = refl
no_place x (b ∷ bs) g q = no_place_after x b bs g (same_name x b.name) (parameter_place x bs)
    (no_place x bs (variable b.name (length g) ∷ g)) refl refl q

at_place_after : (x : Name) (b : Binder) (bs : List Binder) (g : Scope) (j : ℕ) (c : Bool) (o : Option ℕ) →
    ((i : ℕ) → parameter_place x bs ≡ Some i → binding (with_names (variable b.name (length g) ∷ g) (names_of bs)) x
    ≡ Some (length (variable b.name (length g) ∷ g) + i)) →
    same_name x b.name ≡ c → parameter_place x bs ≡ o → later_place c o ≡ Some j
    → binding (with_names g (names_of (b ∷ bs))) x ≡ Some (length g + j)
at_place_after x b bs g j c (Some i) ih s e z = ih i e ∙ ap (λ n. Some n) (omega (arith, some_is (suc i) j z))
at_place_after x b bs g j true None ih s e z =
    no_place x bs (variable b.name (length g) ∷ g) e ∙ ap (λ d. if d then Some (length g) else binding g x) s
    ∙ ap (λ n. Some n) (omega (arith, some_is 0 j z))
at_place_after x b bs g j false None ih s e z = absurd cc

at_place : (x : Name) (bs : List Binder) (g : Scope) (j : ℕ) → parameter_place x bs ≡ Some j
    → binding (with_names g (names_of bs)) x ≡ Some (length g + j)
at_place x [] g j q = absurd cc
at_place x (b ∷ bs) g j q = at_place_after x b bs g j (same_name x b.name) (parameter_place x bs)
    (at_place x bs (variable b.name (length g) ∷ g)) refl refl q

place_below_after : (x : Name) (b : Binder) (bs : List Binder) (j : ℕ) (c : Bool) (o : Option ℕ)
    → ((i : ℕ) → parameter_place x bs ≡ Some i → i < length bs) →
    parameter_place x bs ≡ o → later_place c o ≡ Some j → j < length (b ∷ bs)
place_below_after x b bs j c (Some i) ih e z = omega (arith, ih i e, some_is (suc i) j z)
place_below_after x b bs j true None ih e z = omega (arith, some_is 0 j z)
place_below_after x b bs j false None ih e z = absurd cc

pub place_below : (x : Name) (bs : List Binder) (j : ℕ) → parameter_place x bs ≡ Some j → j < length bs
place_below x [] j q = absurd cc
place_below x (b ∷ bs) j q =
    place_below_after x b bs j (same_name x b.name) (parameter_place x bs) (place_below x bs) refl q

-- the bindings from number b on hold the arguments
held_at : (b n : ℕ) (ms : List ℕ) (vs : Values) (j k : ℕ) (t : Term) → j < n → k ≡ b + j → slice_get vs j ≡ Some t
    → held (holding (numbers_from b n ++ ms) vs []) k ≡ Some t
held_at b zero ms vs j k t l p q = absurd (omega (arith, l))
held_at b (suc n) ms [] j k t l p q = absurd cc
held_at b (suc n) ms (v ∷ vs) zero k t l p q =
    ap (λ d. if d then Some v else held (holding (numbers_from (suc b) n ++ ms) vs []) k)
    (eq-eqb k b (omega (arith, p))) ∙ q
held_at b (suc n) ms (v ∷ vs) (suc j) k t l p q =
    ap (λ d. if d then Some v else held (holding (numbers_from (suc b) n ++ ms) vs []) k)
    (ne_eqb k b (λ e. omega (arith, p, e)))
    ∙ held_at (suc b) n ms vs j k t (omega (arith, l)) (omega (arith, p)) q

-- A body.

abbrev pub at_body : Scope → List Binder → List ℕ → Values → ℕ → EvaluationContext
at_body g bs ms vs k = record {
  scope = with_names g (names_of bs);
  env = holding (numbers_from (length g) (length bs) ++ ms) vs [];
  next = k;
  tail = true;
  lets = [];
}

value_held : (c : EvaluationContext) (x : Name) (o : Option ℕ) (n : ℕ) → binding c.scope x ≡ Some n
    → value_of c x ≡ held c.env n
value_held c x o n e = ap (λ z. elim z [ None ↦ None | Some k ↦ held c.env k ]) e

module _ (here : Invocation) (g : Scope) (bs : List Binder) (ms : List ℕ) (vs : Values) (k : ℕ) where
  var_gives : (p : Place) (x : Name) (j : ℕ) (t : Term) → parameter_place x bs ≡ Some j → slice_get vs j ≡ Some t
      → eval here (var p x) (at_body g bs ms vs k) ≡ single t
  unfolding eval
  var_gives p x j t e q =
      ap (λ o. give (as_values o))
      (value_held (at_body g bs ms vs k) x None (length g + j) (at_place x bs g j e)
      ∙ held_at (length g) (length bs) ms vs j (length g + j) t (place_below x bs j e) refl q)

  var_body : (p : Place) (x : Name) (o : Option ℕ) (b : PlainBody) (t : Term) → parameter_place x bs ≡ o
      → as_parameter o ≡ Some b → given b vs ≡ Some t → eval here (var p x) (at_body g bs ms vs k) ≡ single t
  var_body p x None b t e a q = absurd cc
  var_body p x (Some j) b t e a q = var_gives p x j t e (ap (λ z. given z vs) (some_is (parameter j) b a) ∙ q)

  pub body_gives : (e : Expr) (b : PlainBody) (t : Term) → plain_body bs e ≡ Some b → given b vs ≡ Some t
      → eval here e (at_body g bs ms vs k) ≡ single t
  unfolding eval
  body_gives (literal p (T.int z)) b t a q =
      ap (λ u. single u) (some_is (T.int z) t (ap (λ c. given c vs) (some_is (number z) b a) ∙ q))
  body_gives (literal p (T.atom c)) b t a q =
      ap (λ u. single u) (some_is (T.atom c) t (ap (λ d. given d vs) (some_is (atom c) b a) ∙ q))
  body_gives (literal p _) b t a q = absurd cc
  body_gives (var p x) b t a q = var_body p x (parameter_place x bs) b t refl a q
  body_gives _ b t a q = absurd cc

-- A definition, as a site.

if_true : {A : Type 0} (b : Bool) (x y z : A) → b ≡ true → x ≡ z → (if b then x else y) ≡ z
if_true true x y z e p = p
if_true false x y z e p = absurd cc

site_gives : (here : Invocation) (p : Place) (f : FunKey) (e : Expr) (g : Scope) (n : ℕ) (vs : Values) (h : PlainFun)
    (t : Term) → IsPlainFun f e h → length vs ≡ f.arity → given h.body vs ≡ Some t →
    run_site here (Some (named_site p f e g [] n)) vs ≡ give t
unfolding run_site
site_gives here p f e g n vs h t w l q =
    subst (λ z. run_site here (Some (named_site p f z g [] n)) vs ≡ give t) (sym w.is)
    (if_true _ _ _ _ (eq-eqb (length vs) (length w.params + 0) (omega (arith, l, w.arity)))
    (ap (λ m. one m give) (body_gives here g w.params [] vs n w.body h.body t w.plain q)))

-- with as many arguments as its arity says, it gives a term
get_below : (vs : Values) (j : ℕ) → j < length vs → (t : Term) × (slice_get vs j ≡ Some t)
get_below [] j l = absurd (omega (arith, l))
get_below (v ∷ vs) zero l = (v, refl)
get_below (v ∷ vs) (suc j) l = get_below vs j (omega (arith, l))

place_given : (x : Name) (bs : List Binder) (vs : Values) (o : Option ℕ) (b : PlainBody) → parameter_place x bs ≡ o
    → as_parameter o ≡ Some b → length vs ≡ length bs → (t : Term) × (given b vs ≡ Some t)
place_given x bs vs None b e a l = absurd cc
place_given x bs vs (Some j) b e a l =
    let w = get_below vs j (omega (arith, place_below x bs j e, l)) in
    (w.0, ap (λ z. given z vs) (sym (some_is (parameter j) b a)) ∙ w.1)

body_given : (bs : List Binder) (e : Expr) (b : PlainBody) (vs : Values) → plain_body bs e ≡ Some b
    → length vs ≡ length bs → (t : Term) × (given b vs ≡ Some t)
body_given bs (literal p (T.int z)) b vs a l = (T.int z, ap (λ c. given c vs) (sym (some_is (number z) b a)))
body_given bs (literal p (T.atom c)) b vs a l = (T.atom c, ap (λ d. given d vs) (sym (some_is (atom c) b a)))
body_given bs (literal p _) b vs a l = absurd cc
body_given bs (var p x) b vs a l = place_given x bs vs (parameter_place x bs) b refl a l
body_given bs _ b vs a l = absurd cc

-- with any terms
site_does : (here : Invocation) (p : Place) (f : FunKey) (e : Expr) (g : Scope) (n : ℕ) (vs : Values) (h : PlainFun)
    (s : State) → IsPlainFun f e h
    → run_site here (Some (named_site p f e g [] n)) vs s ≡ (s, plain_end (Some h) vs)
unfolding run_site
site_does here p f e g n vs h s w = by (eqb (length vs) h.key.arity) refl
  where
    arity_is : h.key.arity ≡ length w.params
    arity_is = ap (λ k. k.arity) w.key ∙ w.arity

    if_false : {A : Type 0} (b : Bool) (m k : M A) → b ≡ false → (if b then m else k) s ≡ k s
    if_false true m k q = absurd cc
    if_false false m k q = refl

    by : (b : Bool) → eqb (length vs) h.key.arity ≡ b
        → run_site here (Some (named_site p f e g [] n)) vs s ≡ (s, plain_end (Some h) vs)
    by true q =
        let l : length vs ≡ h.key.arity = eqb-true (length vs) h.key.arity q in
        let v : (t : Term) × (given h.body vs ≡ Some t) =
        body_given w.params w.body h.body vs w.plain (l ∙ arity_is) in
        ap (λ (m : M Term). m s) (site_gives here p f e g n vs h v.0 w (l ∙ ap (λ k. k.arity) w.key) v.1)
        ∙ ap (λ o. (s, o)) (sym (plain_end_is h vs v.0 l v.1))
    by false q =
        subst (λ z. run_site here (Some (named_site p f z g [] n)) vs s ≡ (s, plain_end (Some h) vs)) (sym w.is)
        (if_false _ _ _ (ap (λ k. eqb (length vs) k) (omega (arith, arity_is)) ∙ q)
        ∙ ap (λ b. (s, if b then end_given (given h.body vs) else undef)) (sym q))

-- The definitions of a module, which have no other functions in them.

own_does : (ds : Defs) (hs : List PlainFun) (g : Scope) (k n : ℕ) (vs : Values) (s : State) (here : Invocation)
    → IsPlain ds hs → run_site here (slice_get (own_sites ds g k) n) vs s ≡ (s, plain_end (slice_get hs n) vs)
unfolding run_site
own_does no_def [] g k n vs s here a = refl
own_does no_def (h ∷ hs) g k n vs s here a = absurd a
own_does (and_def d ds) [] g k n vs s here a = absurd a
own_does (and_def (def p f e) ds) (h ∷ hs) g k zero vs s here a = site_does here p f e g k vs h s (fun_is f e h a.0)
own_does (and_def (def p f e) ds) (h ∷ hs) g k (suc n) vs s here a =
    own_does ds hs g (k + sites_in (body_of e)) n vs s here a.1

no_sites : (bs : List Binder) (e : Expr) (b : PlainBody) (g : Scope) (k : ℕ) → plain_body bs e ≡ Some b
    → sites e g k ≡ []
no_sites bs (literal p t) b g k q = refl
no_sites bs (var p x) b g k q = refl
no_sites bs _ b g k q = absurd cc

inner_none : (ds : Defs) (hs : List PlainFun) (g : Scope) (k : ℕ) → IsPlain ds hs → inner_sites ds g k ≡ []
inner_none no_def hs g k a = refl
inner_none (and_def d ds) [] g k a = absurd a
inner_none (and_def (def p f e) ds) (h ∷ hs) g k a =
    let w : IsPlainFun f e h = fun_is f e h a.0 in
    ap (λ l. l ++ inner_sites ds g (k + sites_in (body_of e)))
    (subst (λ z. sites (body_of z) (with_names g (names_of (params_of z))) k ≡ []) (sym w.is)
    (no_sites w.params w.body h.body (with_names g (names_of w.params)) k w.plain))
    ∙ inner_none ds hs g (k + sites_in (body_of e)) a.1

append_none : {A : Type 0} (xs ys : List A) → ys ≡ [] → xs ++ ys ≡ xs
append_none [] ys e = e
append_none (x ∷ xs) ys e = ap (λ l. x ∷ l) (append_none xs ys e)

pub module_does : (m : Module) (hs : List PlainFun) (n : ℕ) (vs : Values) (s : State) (here : Invocation)
    → IsPlain m.defs hs → run_site here (slice_get (module_sites m) n) vs s ≡ (s, plain_end (slice_get hs n) vs)
module_does m hs n vs s here a =
    let g : Scope = module_scope m.defs 0 [] in
    ap (λ l. run_site here (slice_get l n) vs s)
    (append_none (own_sites m.defs g (def_count m.defs)) (inner_sites m.defs g (def_count m.defs))
    (inner_none m.defs hs g (def_count m.defs) a))
    ∙ own_does m.defs hs g (def_count m.defs) n vs s here a

-- each function has a value for its parameters
pub all_given : (ds : Defs) (hs : List PlainFun) → IsPlain ds hs → AllGiven hs
all_given no_def [] a n h vs e l = absurd cc
all_given no_def (h0 ∷ hs) a n h vs e l = absurd a
all_given (and_def d ds) [] a n h vs e l = absurd a
all_given (and_def (def p f e) ds) (h0 ∷ hs) a zero h vs q l =
    let w : IsPlainFun f e h0 = fun_is f e h0 a.0 in
    let z : h0 ≡ h = some_is h0 h q in
    let v : (t : Term) × (given h0.body vs ≡ Some t) = body_given w.params w.body h0.body vs w.plain
    (l ∙ ap (λ y. y.key.arity) (sym z) ∙ ap (λ k. k.arity) w.key ∙ w.arity) in
    (v.0, ap (λ y. given y.body vs) (sym z) ∙ v.1)
all_given (and_def (def p f e) ds) (h0 ∷ hs) a (suc n) h vs q l = all_given ds hs a.1 n h vs q l

-- A name means the one function that has it.

other_scope : (ds : Defs) (hs : List PlainFun) (f : FunKey) (k : ℕ) (g : Scope) → IsPlain ds hs
    → is_key f (map (λ h. h.key) hs) ≡ false →
    function_of (module_scope ds k g) f ≡ function_of g f
other_scope no_def [] f k g a n = refl
other_scope no_def (h ∷ hs) f k g a n = absurd a
other_scope (and_def d ds) [] f k g a n = absurd a
other_scope (and_def (def p f0 e) ds) (h ∷ hs) f k g a n =
    let w = or_false (same_key f h.key) (is_key f (map (λ z. z.key) hs)) n in
    other_scope ds hs f (suc k) (function f0 k [] ∷ g) a.1 w.1
    ∙ ap (λ d. if d then Some (k, []) else function_of g f)
    (other_key f f0 (λ z. keys_differ f h.key w.0 (z ∙ sym (fun_is f0 e h a.0).key)))

not_true : (b : Bool) → not b ≡ true → b ≡ false
not_true true e = absurd cc
not_true false e = refl

pub found_scope : (ds : Defs) (hs : List PlainFun) (f : FunKey) (i : ℕ) (h : PlainFun) (k : ℕ) (g : Scope)
    → IsPlain ds hs → keys_distinct (map (λ z. z.key) hs) ≡ true → Found hs f i h →
    function_of (module_scope ds k g) f ≡ Some (k + i, [])
found_scope no_def [] f i h k g a u w = absurd w
found_scope no_def (h0 ∷ hs) f i h k g a u w = absurd a
found_scope (and_def d ds) [] f i h k g a u w = absurd a
found_scope (and_def (def p f0 e) ds) (h0 ∷ hs) f zero h k g a u w =
    let v = and_true (not (is_key h0.key (map (λ z. z.key) hs))) (keys_distinct (map (λ z. z.key) hs)) u in
    other_scope ds hs f (suc k) (function f0 k [] ∷ g) a.1
    (subst (λ l. is_key l (map (λ z. z.key) hs) ≡ false) w.1 (not_true _ v.0))
    ∙ ap (λ d. if d then Some (k, []) else function_of g f)
    (subst (λ l. same_key f l ≡ true) (sym w.1 ∙ (fun_is f0 e h0 a.0).key) (same_key_itself f))
    ∙ ap (λ n. Some (n, [])) (omega arith)
found_scope (and_def (def p f0 e) ds) (h0 ∷ hs) f (suc i) h k g a u w =
    let v = and_true (not (is_key h0.key (map (λ z. z.key) hs))) (keys_distinct (map (λ z. z.key) hs)) u in
    found_scope ds hs f i h (suc k) (function f0 k [] ∷ g) a.1 v.1 w.1 ∙ ap (λ n. Some (n, [])) (omega arith)

-- a key that is there is found
found_after : (f : FunKey) (h : PlainFun) (hs : List PlainFun) (c : Bool) → same_key f h.key ≡ c
    → (is_key f (map (λ z. z.key) hs) ≡ true → (i : ℕ) × (g : PlainFun) × Found hs f i g) →
    (c || is_key f (map (λ z. z.key) hs)) ≡ true → (i : ℕ) × (g : PlainFun) × Found (h ∷ hs) f i g
found_after f h hs true s ih q = (0, h, (refl, sym (same_key_is f h.key s)))
found_after f h hs false s ih q = let w = ih q in (suc w.0, w.1, ((λ e. keys_differ f h.key s (sym e)), w.2))

pub key_found : (hs : List PlainFun) (f : FunKey) → is_key f (map (λ z. z.key) hs) ≡ true → (i : ℕ) × (h : PlainFun)
    × Found hs f i h
key_found [] f q = absurd cc
key_found (h ∷ hs) f q = found_after f h hs (same_key f h.key) refl (key_found hs f) q
