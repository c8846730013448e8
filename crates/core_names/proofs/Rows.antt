-- One binding more or less: in the list, in the scope, and in what is looked up.
use Rattle.std.proofs.Common.{◌≡◌, ℕ, suc, ◌+◌, ◌-◌, ◌<◌, ◌≤◌, List, [], ◌∷◌, ◌++◌, length, drop, Bool, true, false, cond, Option, Some, IsSome, option_map, if◌then◌else◌, refl, sym, ap, ap₂, ◌∙◌, subst, arith, length-append}
use Rattle.erl_base.specs.Names.{Name, same_name, same_key}
use Rattle.erl_base.specs.declared.ids.FunKey.{FunKey}
use Rattle.core_form.specs.Scope.{variable, function, Scope, Use, binding, function_of}
use Rattle.core_names.specs.declared.table.Known.{Known}
use Rattle.core_names.specs.declared.table.Binding.{Binding}
use Rattle.core_names.specs.declared.table.Binding.TheVariants.{Variable, Function}
use Rattle.core_names.specs.Table.{function_known, meant_by, bound_inside, KnowsOutside, AllKnowOutside, IsTable}
use Rattle.core_names.proofs.SameKeys.{name_turned, name_itself, one_name, key_turned, key_itself, one_key}

-- Lists.

pub inside_more : (g : Scope) (bs : List Binding) (b : Binding) → bound_inside g
    (bs ++ b ∷ []) ≡ meant_by b ∷ bound_inside g bs
inside_more g [] b = refl
inside_more g (c ∷ bs) b = inside_more (meant_by c ∷ g) bs b

inside_length : (g : Scope) (bs : List Binding) → length (bound_inside g bs) ≡ length bs + length g
inside_length g [] = omega arith
inside_length g (b ∷ bs) = let e = inside_length (meant_by b ∷ g) bs in omega (arith, e)

pub scope_length : (bs : List Binding) → length (bound_inside [] bs) ≡ length bs
scope_length bs = let e = inside_length [] bs in omega (arith, e)

outside_more : (g : Scope) (bs : List Binding) (b : Binding) → AllKnowOutside g bs → KnowsOutside (bound_inside g bs) b
    → AllKnowOutside g (bs ++ b ∷ [])
outside_more g [] b h k = (k, tt)
outside_more g (c ∷ bs) b h k = (h.0, outside_more (meant_by c ∷ g) bs b h.1 k)

outside_less : (g : Scope) (bs : List Binding) (b : Binding) → AllKnowOutside g (bs ++ b ∷ [])
    → AllKnowOutside g bs × KnowsOutside (bound_inside g bs) b
outside_less g [] b h = (tt, h.0)
outside_less g (c ∷ bs) b h =
    let k = outside_less (meant_by c ∷ g) bs b h.1 in
    ((h.0, k.0), k.1)

-- what is pushed on a list and taken off again
pub taken_off : (xs ys : List Binding) (x y : Binding) → xs ++ x ∷ [] ≡ ys ++ y ∷ [] → ys ≡ xs
taken_off [] [] x y e = refl
taken_off [] (b ∷ ys) x y e =
    let k = ap length e in let l = length-append ys (y ∷ []) in absurd (omega (arith, k, l))
taken_off (a ∷ xs) [] x y e =
    let k = ap length e in let l = length-append xs (x ∷ []) in absurd (omega (arith, k, l))
taken_off (a ∷ xs) (b ∷ ys) x y e =
    let h : b ≡ a = cc in
    let t : xs ++ x ∷ [] ≡ ys ++ y ∷ [] = cc in
    ap₂ (λ c l. c ∷ l) h (taken_off xs ys x y t)

-- What is looked up; f is what names mean outside of a binding of k, m what they mean inside.

module _ {K X : Type 0} (same : K → K → Bool) (turned : (a b : K) → same a b ≡ same b a)
    (itself : (a : K) → same a a ≡ true) (one : (a b : K) → same a b ≡ true → a ≡ b) where
  looked_inside : (f m n : K → Option X) (k : K) (v : X) → ((q : K) → m q ≡ f q)
      → ((q : K) → n q ≡ cond (same k q) (Some v) (m q)) → (q : K) → n q ≡ cond (same q k) (Some v) (f q)
  looked_inside f m n k v h u q =
      u q ∙ ap (λ o. cond (same k q) (Some v) o) (h q) ∙ ap (λ b. cond b (Some v) (f q)) (turned k q)

  looked_outside : (f m n : K → Option X) (k : K) (v : X) (before : Option X) → before ≡ f k
      → ((q : K) → m q ≡ cond (same q k) (Some v) (f q)) → ((q : K) → n q ≡ cond (same k q) before (m q))
      → (q : K) → n q ≡ f q
  looked_outside f m n k v before e h u q = u q ∙ chosen (same k q) refl
    where
      chosen : (b : Bool) → same k q ≡ b → cond b before (m q) ≡ f q
      chosen true w = e ∙ ap f (one k q w)
      chosen false w = h q ∙ ap (λ b. cond b (Some v) (f q)) (turned q k ∙ w)

  looked_here : (f m : K → Option X) (k : K) (v : X) → ((q : K) → m q ≡ cond (same q k) (Some v) (f q)) → IsSome (m k)
  looked_here f m k v h = subst (λ o. IsSome o) (sym (h k ∙ ap (λ b. cond b (Some v) (f k)) (itself k))) refl

-- a variable more
variable_more : (numbers more : Name → Option ℕ) (sites : FunKey → Option Known) (bs : List Binding) (x : Name)
    (n : ℕ) (before : Option ℕ) → IsTable numbers sites bs → before ≡ binding (bound_inside [] bs) x
    → ((q : Name) → more q ≡ cond (same_name x q) (Some n) (numbers q))
    → IsTable more sites (bs ++ Variable x n before ∷ [])
variable_more numbers more sites bs x n before t e u =
    let w = inside_more [] bs (Variable x n before) in
    record {
      variables = λ q. looked_inside same_name name_turned name_itself one_name (binding
          (bound_inside [] bs)) numbers more x n
          t.variables u q ∙ sym (ap (λ g. binding g q) w);
      functions = λ f. t.functions f ∙ sym (ap (λ g. function_known g f) w);
      outside = outside_more [] bs (Variable x n before) t.outside e;
    }

-- and less
variable_less : (numbers less : Name → Option ℕ) (sites : FunKey → Option Known) (bs : List Binding) (x : Name)
    (n : ℕ) (before : Option ℕ) → IsTable numbers sites (bs ++ Variable x n before ∷ [])
    → ((q : Name) → less q ≡ cond (same_name x q) before (numbers q)) → IsTable less sites bs
variable_less numbers less sites bs x n before t u =
    let w = inside_more [] bs (Variable x n before) in
    let o = outside_less [] bs (Variable x n before) t.outside in
    record {
      variables = looked_outside same_name name_turned name_itself one_name (binding
          (bound_inside [] bs)) numbers less x n
          before o.1 (λ q. t.variables q ∙ ap (λ g. binding g q) w) u;
      functions = λ f. t.functions f ∙ ap (λ g. function_known g f) w;
      outside = o.0;
    }

-- it is bound
variable_here : (numbers : Name → Option ℕ) (sites : FunKey → Option Known) (bs : List Binding) (x : Name)
    (n : ℕ) (before : Option ℕ) → IsTable numbers sites (bs ++ Variable x n before ∷ []) → IsSome (numbers x)
variable_here numbers sites bs x n before t =
    looked_here same_name name_turned name_itself one_name (binding (bound_inside [] bs)) numbers x n
    (λ q. t.variables q ∙ ap (λ g. binding g q) (inside_more [] bs (Variable x n before)))

-- a function more
function_more : (numbers : Name → Option ℕ) (sites more : FunKey → Option Known) (bs : List Binding) (f : FunKey)
    (s : ℕ) (before : Option Known) (new : Known) → IsTable numbers sites bs → before ≡ function_known
    (bound_inside [] bs) f
    → new ≡ record { site = s; position = length (bound_inside [] bs) }
    → ((q : FunKey) → more q ≡ cond (same_key f q) (Some new) (sites q))
    → IsTable numbers more (bs ++ Function f s before ∷ [])
function_more numbers sites more bs f s before new t e p u =
    let w = inside_more [] bs (Function f s before) in
    record {
      variables = λ q. t.variables q ∙ sym (ap (λ g. binding g q) w);
      functions = λ q. looked_inside same_key key_turned key_itself one_key (function_known
          (bound_inside [] bs)) sites more f new
          t.functions u q ∙ ap (λ k. cond (same_key q f) (Some k) (function_known (bound_inside [] bs) q)) p
          ∙ sym (ap (λ g. function_known g q) w);
      outside = outside_more [] bs (Function f s before) t.outside e;
    }

-- and less
function_less : (numbers : Name → Option ℕ) (sites less : FunKey → Option Known) (bs : List Binding) (f : FunKey)
    (s : ℕ) (before : Option Known) → IsTable numbers sites (bs ++ Function f s before ∷ [])
    → ((q : FunKey) → less q ≡ cond (same_key f q) before (sites q)) → IsTable numbers less bs
function_less numbers sites less bs f s before t u =
    let w = inside_more [] bs (Function f s before) in
    let o = outside_less [] bs (Function f s before) t.outside in
    record {
      variables = λ q. t.variables q ∙ ap (λ g. binding g q) w;
      functions = looked_outside same_key key_turned key_itself one_key (function_known
          (bound_inside [] bs)) sites less f
          (record { site = s; position = length (bound_inside [] bs) })
          before o.1 (λ q. t.functions q ∙ ap (λ g. function_known g q) w) u;
      outside = o.0;
    }

-- it is bound
function_here : (numbers : Name → Option ℕ) (sites : FunKey → Option Known) (bs : List Binding) (f : FunKey)
    (s : ℕ) (before : Option Known) → IsTable numbers sites (bs ++ Function f s before ∷ []) → IsSome (sites f)
function_here numbers sites bs f s before t =
    looked_here same_key key_turned key_itself one_key (function_known (bound_inside [] bs)) sites f
    (record { site = s; position = length (bound_inside [] bs) })
    (λ q. t.functions q ∙ ap (λ g. function_known g q) (inside_more [] bs (Function f s before)))

-- As the code has them; g is the scope outside.

pub variable_bound : (numbers more : Name → Option ℕ) (sites : FunKey → Option Known) (bs ns : List Binding) (g : Scope)
    (x key copy : Name) (n : ℕ) (before : Option ℕ) → IsTable numbers sites bs → bound_inside [] bs ≡ g → key ≡ x
    → copy ≡ x
    → before ≡ binding g x → ns ≡ bs ++ Variable copy n before ∷ []
    → ((q : Name) → more q ≡ cond (same_name key q) (Some n) (numbers q)) → IsTable more sites ns
variable_bound numbers more sites bs ns g x key copy n before t v k c e p u =
    subst (λ l. IsTable more sites l) (sym p)
    (variable_more numbers more sites bs copy n before t (e ∙ ap (λ z. binding z x) (sym v) ∙ ap (binding
    (bound_inside [] bs)) (sym c))
    (λ q. u q ∙ ap (λ z. cond (same_name z q) (Some n) (numbers q)) (k ∙ sym c)))

pub variable_seen : (bs ns : List Binding) (g : Scope) (x copy : Name) (n : ℕ) (before : Option ℕ)
    → bound_inside [] bs ≡ g
    → copy ≡ x → n ≡ length g → ns ≡ bs ++ Variable copy n before ∷ [] → bound_inside [] ns ≡ variable x (length g) ∷ g
variable_seen bs ns g x copy n before v c l p =
    ap (bound_inside []) p ∙ inside_more [] bs (Variable copy n before) ∙ ap₂
    (λ y m. variable y m ∷ bound_inside [] bs) c l
    ∙ ap (λ z. variable x (length g) ∷ z) v

pub function_bound : (numbers : Name → Option ℕ) (sites more : FunKey → Option Known) (bs ns : List Binding) (g : Scope)
    (f key copy : FunKey) (s position : ℕ) (before : Option Known) → IsTable numbers sites bs → bound_inside [] bs ≡ g
    → key ≡ f → copy ≡ f → position ≡ length g → before ≡ function_known g f → ns ≡ bs ++ Function copy s before ∷ []
    → ((q : FunKey) → more q ≡ cond (same_key key q) (Some (record { site = s; position = position })) (sites q))
    → IsTable numbers more ns
function_bound numbers sites more bs ns g f key copy s position before t v k c l e p u =
    subst (λ z. IsTable numbers more z) (sym p)
    (function_more numbers sites more bs copy s before (record { site = s; position = position }) t
    (e ∙ ap (λ z. function_known z f) (sym v) ∙ ap (function_known (bound_inside [] bs)) (sym c))
    (ap (λ m. let w : Known = record { site = s; position = m } in w) (l ∙ ap length (sym v)))
    (λ q. u q ∙ ap (λ z. cond (same_key z q) (Some (record { site = s; position = position })) (sites q)) (k ∙ sym c)))

pub function_seen : (bs ns : List Binding) (g : Scope) (f copy : FunKey) (s : ℕ) (before : Option Known)
    → bound_inside [] bs ≡ g → copy ≡ f → ns ≡ bs ++ Function copy s before ∷ []
    → bound_inside [] ns ≡ function f s [] ∷ g
function_seen bs ns g f copy s before v c p =
    ap (bound_inside []) p ∙ inside_more [] bs (Function copy s before) ∙ ap₂ (λ y z. function y s [] ∷ z) c v

-- what is left: the last binding of bs is taken off, g is the scope inside of it
pub scope_left : (bs ns : List Binding) (g : Scope) (b : Binding) → bound_inside [] bs ≡ g → bs ≡ ns ++ b ∷ []
    → bound_inside [] ns ≡ drop 1 g
scope_left bs ns g b v p = ap (drop 1) (sym (inside_more [] ns b) ∙ sym (ap (bound_inside []) p) ∙ v)

pub variable_left : (numbers less : Name → Option ℕ) (sites : FunKey → Option Known) (bs ns : List Binding) (x : Name)
    (n : ℕ) (before : Option ℕ) → IsTable numbers sites bs → bs ≡ ns ++ Variable x n before ∷ []
    → ((q : Name) → less q ≡ cond (same_name x q) before (numbers q)) → IsTable less sites ns
variable_left numbers less sites bs ns x n before t p u =
    variable_less numbers less sites ns x n before (subst (λ l. IsTable numbers sites l) p t) u

pub variable_stands : (numbers : Name → Option ℕ) (sites : FunKey → Option Known) (bs ns : List Binding) (x : Name)
    (n : ℕ) (before : Option ℕ) → IsTable numbers sites bs → bs ≡ ns ++ Variable x n before ∷ [] → IsSome (numbers x)
variable_stands numbers sites bs ns x n before t p =
    variable_here numbers sites ns x n before (subst (λ l. IsTable numbers sites l) p t)

pub function_left : (numbers : Name → Option ℕ) (sites less : FunKey → Option Known) (bs ns : List Binding) (f : FunKey)
    (s : ℕ) (before : Option Known) → IsTable numbers sites bs → bs ≡ ns ++ Function f s before ∷ []
    → ((q : FunKey) → less q ≡ cond (same_key f q) before (sites q)) → IsTable numbers less ns
function_left numbers sites less bs ns f s before t p u =
    function_less numbers sites less ns f s before (subst (λ l. IsTable numbers sites l) p t) u

pub function_stands : (numbers : Name → Option ℕ) (sites : FunKey → Option Known) (bs ns : List Binding) (f : FunKey)
    (s : ℕ) (before : Option Known) → IsTable numbers sites bs → bs ≡ ns ++ Function f s before ∷ [] → IsSome (sites f)
function_stands numbers sites bs ns f s before t p =
    function_here numbers sites ns f s before (subst (λ l. IsTable numbers sites l) p t)

-- The two readings of a function's name.

site_chosen : (b : Bool) (k : Known) (f : ℕ × List Use) (o : Option Known) (p : Option (ℕ × List Use)) → k.site ≡ f.0
    → option_map (λ x. x.site) o ≡ option_map (λ x. x.0) p
    → option_map (λ x. x.site) (if b then Some k else o) ≡ option_map (λ x. x.0) (if b then Some f else p)
site_chosen true k f o p e h = ap Some e
site_chosen false k f o p e h = h

pub known_site : (g : Scope) (f : FunKey)
    → option_map (λ x. x.site) (function_known g f) ≡ option_map (λ x. x.0) (function_of g f)
known_site [] f = refl
known_site (variable y n ∷ g) f = known_site g f
known_site (function h s us ∷ g) f =
    site_chosen (same_key f h) (record { site = s; position = length g }) (s, us) (function_known g f)
    (function_of g f) refl
    (known_site g f)

-- Leaving one after the other.

pub left_on : (g h : Scope) (outer : ℕ) → h ≡ drop 1 g → outer < length g
    → drop (length h - outer) h ≡ drop (length g - outer) g
left_on [] h outer e l = absurd (omega (arith, l))
left_on (x ∷ g) h outer e l =
    let n : suc (length g - outer) ≡ length (x ∷ g) - outer = omega (arith, l) in
    ap (λ z. drop (length z - outer) z) e ∙ ap (λ m. drop m (x ∷ g)) n

pub left_enough : (g h : Scope) (outer : ℕ) → h ≡ drop 1 g → outer < length g → outer ≤ length h
left_enough [] h outer e l = absurd (omega (arith, l))
left_enough (x ∷ g) h outer e l = let k = ap length e in omega (arith, k, l)
