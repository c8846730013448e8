-- A table's scope and what is held, beside the scope that they stand for, and what is captured there.
use Rattle.std.proofs.Common.{◌≡◌, ℕ, zero, suc, ◌+◌, ◌-◌, ◌<◌, ◌≤◌, List, [], ◌∷◌, ◌++◌, length, replicate, Bool, true, false, if◌then◌else◌, inl, inr, Option, Some, None, refl, sym, ap, ◌∙◌, eq-eqb, length-append, arith}
use Rattle.std.proofs.lemmas.Bool.{cases_lt}
use Rattle.std.proofs.lemmas.List.{length-replicate}
use Rattle.erl_base.specs.Names.{Name, same_name, same_key}
use Rattle.erl_base.specs.declared.ids.Place.{Place}
use Rattle.erl_base.specs.declared.ids.FunKey.{FunKey}
use Rattle.core_form.specs.Core.{Expr, Defs, no_def, and_def, def}
use Rattle.core_form.specs.Scope.{Use, Scope, variable, function, binding, function_of, with_names, body_of}
use Rattle.core_form.specs.Captures.{sites_in, with_defs, captured, once_below, placed, occurring, occurring_defs, captures_of, group_captures}
use Rattle.core_form.specs.Sites.{module_scope}
use Rattle.core_sites.specs.Things.{use_at, unexpanded, instead, expanded, captures_at, below, IsNumbered}
use Rattle.core_sites.specs.Gathering.{put_all, named}
use Rattle.core_sites.specs.Listing.{Held, held_at, padded, with_group, resolved}
use Rattle.core_sites.proofs.Alike.{equal, below_more, expanded_none, IsLow}
use Rattle.core_sites.proofs.Stands.{Fits, stands, stands_defs}
use Rattle.core_sites.proofs.Captured.{at_outer, at_more, binding_unexpanded, length_unexpanded, binding_within, captures_expanded, group_captures_expanded}
use Rattle.core_sites.proofs.Puts.{put_once}
use Rattle.core_sites.proofs.Groups.{Ready}

-- What is held.

none_held : (k i : ℕ) → held_at (replicate k None) i ≡ None
none_held zero i = refl
none_held (suc k) zero = refl
none_held (suc k) (suc i) = none_held k i

held_padded : (st : Held) (k i : ℕ) → held_at (st ++ replicate k None) i ≡ held_at st i
held_padded [] k i = none_held k i
held_padded (o ∷ st) k zero = refl
held_padded (o ∷ st) k (suc i) = held_padded st k i

held_front : (st su : Held) (i : ℕ) → i < length st → held_at (st ++ su) i ≡ held_at st i
held_front [] su i h = absurd (omega (arith, h))
held_front (o ∷ st) su zero h = refl
held_front (o ∷ st) su (suc i) h = held_front st su i (omega (arith, h))

held_last : (st : Held) (o : Option (List Use)) → held_at (st ++ o ∷ []) (length st) ≡ o
held_last [] o = refl
held_last (p ∷ st) o = held_last st o

held_past : (st : Held) (i : ℕ) → length st ≤ i → held_at st i ≡ None
held_past [] i h = refl
held_past (o ∷ st) zero h = absurd (omega (arith, h))
held_past (o ∷ st) (suc i) h = held_past st i (omega (arith, h))

-- A table's scope and what is held, beside the scope that they stand for.

pub record Tied (n : Scope) (st : Held) (g : Scope) : Type 0 where
  pub same : (x : Name) → binding n x ≡ binding g x
  pub marks : (f : FunKey) (p : Place)
      → placed p (captured (function_of (unexpanded n) f)) ≡ placed p (captured (function_of (unexpanded g) f))
  pub long : length n ≡ length g
  pub held : (i : ℕ) → held_at st i ≡ captures_at g i
  pub numbered : IsNumbered g
  pub short : length st ≤ length n

tied_variable : {n g : Scope} {st : Held} (x : Name) → Tied n st g
    → Tied (variable x (length n) ∷ n) st (variable x (length g) ∷ g)
tied_variable {n} {g} {st} x w = record {
  same = λ y. (λ i. if same_name y x then Some (w.long i) else w.same y i);
  marks = w.marks;
  long = ap suc w.long;
  held = w.held;
  numbered = (refl, w.numbered);
  short = let k = w.short in omega (arith, k);
}

pub tied_names : {n g : Scope} {st : Held} (xs : List Name) → Tied n st g → Tied (with_names n xs) st (with_names g xs)
tied_names [] w = w
tied_names (x ∷ xs) w = tied_names xs (tied_variable x w)

-- the same with something held for each binding
pub record Level (n : Scope) (st : Held) (g : Scope) : Type 0 where
  pub tied : Tied n st g
  pub level : length st ≡ length n

marks_if : (b : Bool) (s t j k : ℕ) (p q : Place) (o i : Option (ℕ × List Use)) → j ≡ k
    → placed p (captured o) ≡ placed p (captured i)
    → placed p (captured (if b then Some (s, use_at [] j q ∷ []) else o))
    ≡ placed p (captured (if b then Some (t, use_at [] k q ∷ []) else i))
marks_if true s t j k p q o i h e = ap (λ m. use_at [] m p ∷ []) h
marks_if false s t j k p q o i h e = e

held_function : (g : Scope) (st : Held) (f : FunKey) (k : ℕ) (us : List Use) (i : ℕ) → length st ≡ length g
    → held_at st i ≡ captures_at g i → held_at (st ++ Some us ∷ []) i ≡ captures_at (function f k us ∷ g) i
held_function g st f k us i e h = elim (cases_lt i (length g)) [
  | inl l ↦ held_front st (Some us ∷ []) i (omega (arith, e, l)) ∙ h ∙ sym (at_more g f k us i l)
  | inr l ↦ elim (cases_lt (length g) i) [
    | inl m ↦
        held_past (st ++ Some us ∷ []) i (let j = length-append st (Some us ∷ []) in omega (arith, j, e, m))
        ∙ sym (at_outer (function f k us ∷ g) i (omega (arith, m)))
    | inr m ↦
        let same : i ≡ length g = omega (arith, l, m) in
        ap (λ j. held_at (st ++ Some us ∷ []) j) (same ∙ sym e) ∙ held_last st (Some us)
        ∙ sym (ap (λ b. if b then Some us else captures_at g i) (eq-eqb i (length g) same))
  ]
]

level_function : {n g : Scope} {st : Held} (f : FunKey) (k : ℕ) (us : List Use) → below (length g) us ≡ us
    → Level n st g → Level (function f 0 [] ∷ n) (st ++ Some us ∷ []) (function f k us ∷ g)
level_function {n} {g} {st} f k us e w =
    let size = length-append st (Some us ∷ []) in
    let level = w.level in
    record {
      tied = record {
        same = w.tied.same;
        marks = λ q p. marks_if (same_key q f) 0 k (length n) (length g) p (record { line = 0; column = 0 })
            (function_of (unexpanded n) q) (function_of (unexpanded g) q) w.tied.long (w.tied.marks q p);
        long = ap suc w.tied.long;
        held = λ i. held_function g st f k us i (w.level ∙ w.tied.long) (w.tied.held i);
        numbered = (e, w.tied.numbered);
        short = omega (arith, size, level);
      };
      level = omega (arith, size, level);
    }

level_group : {n g : Scope} {st : Held} (ds : Defs) (k : ℕ) (us : List Use) → below (length g) us ≡ us → Level n st g
    → Level (named ds n) (with_group ds us st) (with_defs ds k us g)
level_group no_def k us e w = w
level_group {n} {g} (and_def (def p f x) ds) k us e w =
    level_group ds (k + suc (sites_in (body_of x))) us (below_more (suc (length g)) (length g) us (omega arith) e)
    (level_function f k us e w)

pub level_module : {n g : Scope} {st : Held} (ds : Defs) (k : ℕ) → Level n st g
    → Level (named ds n) (with_group ds [] st) (module_scope ds k g)
level_module no_def k w = w
level_module (and_def (def p f x) ds) k w = level_module ds (suc k) (level_function f k [] refl w)

level_padded : {n g : Scope} {st : Held} → Tied n st g → Level n (padded (length n) st) g
level_padded {n} {g} {st} w =
    let size = length-append st (replicate (length n - length st) None)
    ∙ ap (λ k. length st + k) (length-replicate (length n - length st) None) in
    let short = w.short in
    record {
      tied = record {
        same = w.same;
        marks = w.marks;
        long = w.long;
        held = λ i. held_padded st (length n - length st) i ∙ w.held i;
        numbered = w.numbered;
        short = omega (arith, size, short);
      };
      level = omega (arith, size, short);
    }

pub tied_group : {n g : Scope} {st : Held} (ds : Defs) (k : ℕ) (us : List Use) → below (length g) us ≡ us → Tied n st g
    → Tied (named ds n) (with_group ds us (padded (length n) st)) (with_defs ds k us g)
tied_group ds k us e w = (level_group ds k us e (level_padded w)).tied

-- What is captured.

pub ready : {n g : Scope} {st : Held} → Tied n st g → Ready (length n) n
ready {n} {g} {st} w = record {
  within = λ x i e.
      let long = w.long in
      let k = binding_within g x i w.numbered (sym (w.same x) ∙ e) in
      omega (arith, long, k);
  room = omega arith;
}

fit : {n g : Scope} {st : Held} → Tied n st g → Fits 0 (λ i. None) (unexpanded n) (unexpanded g)
fit {n} {g} {st} w = record {
  reads = record {
    same = λ x. binding_unexpanded g x ∙ sym (w.same x) ∙ sym (binding_unexpanded n x);
    plain = λ x i e. refl;
    stands = λ f p. record {
      alike = equal _ _ (sym (w.marks f p) ∙ sym (expanded_none (placed p (captured (function_of (unexpanded n) f)))));
    };
    long = length_unexpanded g ∙ sym w.long ∙ sym (length_unexpanded n);
  };
  least = omega arith;
}

low : IsLow 0 (λ i. None)
low = record { outer = λ n h. refl; inner = λ n us e. absurd cc }

expanded_same : (q r : ℕ → Option (List Use)) (us : List Use) → ((i : ℕ) → q i ≡ r i) → expanded q us ≡ expanded r us
expanded_same q r [] h = refl
expanded_same q r (u ∷ us) h = (λ i. instead (h u.number i) u ++ expanded_same q r us h i)

-- what was gathered is resolved to the captures
resolves : {n g : Scope} {st : Held} (us vs : List Use) → Tied n st g → us ≡ once_below (length g) [] vs
    → resolved st (length n) us
    ≡ once_below (length g) [] (expanded (captures_at g) (once_below (length g) [] vs))
resolves {n} {g} {st} us vs w e =
    put_once (length n) [] (expanded (held_at st) us)
    ∙ ap (λ l. once_below l [] (expanded (held_at st) us)) w.long
    ∙ ap (λ ts. once_below (length g) [] ts) (expanded_same (held_at st) (captures_at g) us w.held)
    ∙ ap (λ ts. once_below (length g) [] (expanded (captures_at g) ts)) e

pub fun_captured : {n g : Scope} {st : Held} (e : Expr) → Tied n st g
    → resolved st (length n) (put_all (length n) [] (occurring e (unexpanded n))) ≡ captures_of e g
fun_captured {n} {g} {st} e w =
    resolves (put_all (length n) [] (occurring e (unexpanded n))) (occurring e (unexpanded g)) w
    (put_once (length n) [] (occurring e (unexpanded n))
    ∙ ap (λ l. once_below l [] (occurring e (unexpanded n))) w.long
    ∙ sym ((stands 0 (λ i. None) low e (fit w)).alike.first (length g) []
    ∙ ap (λ ts. once_below (length g) [] ts) (expanded_none (occurring e (unexpanded n)))))
    ∙ sym (captures_expanded e g w.numbered)

pub group_captured : {n g : Scope} {st : Held} (ds : Defs) → Tied n st g
    → resolved st (length n) (put_all (length n) [] (occurring_defs ds (unexpanded (named ds n)))) ≡ group_captures ds g
group_captured {n} {g} {st} ds w =
    let inner = tied_group ds 0 [] refl w in
    let used = occurring_defs ds (unexpanded (named ds n)) in
    resolves (put_all (length n) [] used) (occurring_defs ds (unexpanded (with_defs ds 0 [] g))) w
    (put_once (length n) [] used
    ∙ ap (λ l. once_below l [] used) w.long
    ∙ sym ((stands_defs 0 (λ i. None) low ds (fit inner)).alike.first (length g) []
    ∙ ap (λ ts. once_below (length g) [] ts) (expanded_none used)))
    ∙ sym (group_captures_expanded ds g w.numbered)
