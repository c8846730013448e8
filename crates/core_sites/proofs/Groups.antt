-- What a group uses of its outside, in the stead of its functions.
use Rattle.std.proofs.Common.{◌≡◌, ℕ, suc, ◌+◌, ◌≤◌, ◌<◌, List, [], ◌∷◌, ◌++◌, length, Bool, true, false, not, ◌&&◌, ltb, if◌then◌else◌, inl, inr, Option, Some, None, refl, sym, ap, ◌∙◌, subst, append-nil, lt-ltb, le-ltb, arith}
use Rattle.std.proofs.lemmas.Bool.{cases_lt}
use Rattle.erl_base.specs.Lists.{among}
use Rattle.erl_base.specs.Names.{Name, same_name, same_key}
use Rattle.erl_base.specs.declared.ids.Place.{Place}
use Rattle.erl_base.specs.declared.ids.FunKey.{FunKey}
use Rattle.core_form.specs.Core.{Expr, Defs, no_def, and_def, def, letrec}
use Rattle.core_form.specs.Scope.{Use, Scope, variable, function, binding, function_of, with_names, body_of, numbers_of}
use Rattle.core_form.specs.Captures.{sites_in, with_defs, captured, once_below, placed, occurring, occurring_defs}
use Rattle.core_sites.specs.Things.{use_at, unexpanded, instead, expanded, below}
use Rattle.core_sites.specs.Gathering.{put_all, named, group_at}
use Rattle.core_sites.proofs.Alike.{equal, below_append, below_more, below_once, once_of_below, once_twice, IsLow, taken_expanded}
use Rattle.core_sites.proofs.Stands.{two, Reads, Fits, reads_function, stands, stands_defs}
use Rattle.core_sites.proofs.Captured.{length_unexpanded, binding_unexpanded, quiet_instead}
use Rattle.core_sites.proofs.Puts.{put_all_append, put_once, put_alike}

-- a scope whose variables have numbers behind it, l of them at least
pub record Ready (l : ℕ) (g : Scope) : Type 0 where
  pub within : (x : Name) (n : ℕ) → binding g x ≡ Some n → n < length g
  pub room : l ≤ length g

some_same : {A : Type 0} (x y : A) → Some x ≡ Some y → x ≡ y
some_same x y e = cc

within_if : (b : Bool) (l n : ℕ) (o : Option ℕ) → (o ≡ Some n → n < l) → (if b then Some l else o) ≡ Some n
    → n < suc l
within_if true l n o h e = let i = some_same l n e in omega (arith, i)
within_if false l n o h e = let i = h e in omega (arith, i)

pub ready_names : {l : ℕ} {g : Scope} (xs : List Name) → Ready l g → Ready l (with_names g xs)
ready_names [] w = w
ready_names {l} {g} (x ∷ xs) w = ready_names xs (record {
  within = λ y n e. within_if (same_name y x) (length g) n (binding g y) (w.within y n) e;
  room = let k = w.room in omega (arith, k);
})

ready_function : {l : ℕ} {g : Scope} (f : FunKey) → Ready l g → Ready l (function f 0 [] ∷ g)
ready_function f w = record {
  within = λ y n e. let k = w.within y n e in omega (arith, k);
  room = let k = w.room in omega (arith, k);
}

pub ready_named : {l : ℕ} {g : Scope} (ds : Defs) → Ready l g → Ready l (named ds g)
ready_named no_def w = w
ready_named (and_def (def p f e) ds) w = ready_named ds (ready_function f w)

pub ready_all : {l : ℕ} {g : Scope} → Ready l g → Ready (length g) g
ready_all w = record { within = w.within; room = omega arith }

pub named_longer : (ds : Defs) (g : Scope) → length g ≤ length (named ds g)
named_longer no_def g = omega arith
named_longer (and_def (def p f e) ds) g = let k = named_longer ds (function f 0 [] ∷ g) in omega (arith, k)

-- what stands for the functions from n to below m
abbrev stead : ℕ → ℕ → List Use → ℕ → Option (List Use)
stead n m us k = if ltb k n then None else if ltb k m then Some us else None

stead_outer : (n m k : ℕ) (us : List Use) → n ≤ m → m ≤ k → stead n m us k ≡ None
stead_outer n m k us h e =
    ap (λ b. if b then None else if ltb k m then Some us else None) (le-ltb k n (omega (arith, h, e)))
    ∙ ap (λ b. if b then Some us else None) (le-ltb k m e)

stead_below : (n m k : ℕ) (us : List Use) → k < n → stead n m us k ≡ None
stead_below n m k us h = ap (λ b. if b then None else if ltb k m then Some us else None) (lt-ltb k n h)

stead_at : (n m k : ℕ) (us : List Use) → n ≤ k → k < m → stead n m us k ≡ Some us
stead_at n m k us h e =
    ap (λ b. if b then None else if ltb k m then Some us else None) (le-ltb k n h)
    ∙ ap (λ b. if b then Some us else None) (lt-ltb k m e)

stead_same : (x y : Bool) (us vs : List Use) → (if x then None else if y then Some us else None) ≡ Some vs → us ≡ vs
stead_same true y us vs e = absurd cc
stead_same false true us vs e = some_same us vs e
stead_same false false us vs e = absurd cc

low_stead : (n m : ℕ) (us : List Use) → n ≤ m → below n us ≡ us → IsLow m (stead n m us)
low_stead n m us h e = record {
  outer = λ k i. stead_outer n m k us h i;
  inner = λ k vs i. subst (λ ts. below m ts ≡ ts) (stead_same (ltb k n) (ltb k m) us vs i) (below_more m n us h e);
}

mark_if : (b : Bool) (r : ℕ → Option (List Use)) (s m : ℕ) (p q : Place) (o : Option (ℕ × List Use)) → r m ≡ None
    → placed p (captured o) ≡ expanded r (placed p (captured o))
    → placed p (captured (if b then Some (s, use_at [] m q ∷ []) else o))
    ≡ expanded r (placed p (captured (if b then Some (s, use_at [] m q ∷ []) else o)))
mark_if true r s m p q o h k = sym (ap (λ w. instead w (use_at [] m p) ++ []) h)
mark_if false r s m p q o h k = k

-- functions outside of the group stand for themselves
marks : (g : Scope) (r : ℕ → Option (List Use)) (f : FunKey) (p : Place) → ((n : ℕ) → n < length g → r n ≡ None)
    → placed p (captured (function_of (unexpanded g) f))
    ≡ expanded r (placed p (captured (function_of (unexpanded g) f)))
marks [] r f p h = refl
marks (variable y m ∷ g) r f p h = marks g r f p (λ n k. h n (omega (arith, k)))
marks (function q s us ∷ g) r f p h =
    mark_if (same_key f q) r s (length g) p (record { line = 0; column = 0 }) (function_of (unexpanded g) f)
    (h (length g) (omega arith)) (marks g r f p (λ n k. h n (omega (arith, k))))

-- scopes inside a group
module _ (n m : ℕ) (us : List Use) where
  outer_reads : {l : ℕ} (g : Scope) → Ready l g → length g ≡ n
      → Reads m (stead n m us) (unexpanded g) (unexpanded g)
  outer_reads g w e = record {
    same = λ x. refl;
    plain = λ x k i.
        let j = w.within x k (sym (binding_unexpanded g x) ∙ i) in
        stead_below n m k us (omega (arith, j, e));
    stands = λ f p. record {
      alike = equal _ _ (marks g (stead n m us) f p (λ k i. stead_below n m k us (omega
          (arith, i, e))));
    };
    long = refl;
  }

  group_reads : (ds : Defs) (k : ℕ) (g h : Scope) → Reads m (stead n m us) (unexpanded g) h → n ≤ length g
      → length (named ds g) ≡ m → Reads m (stead n m us) (unexpanded (named ds g)) (with_defs ds k us h)
  group_reads no_def k g h w i e = w
  group_reads (and_def (def p f x) ds) k g h w i e =
      let j = named_longer ds (function f 0 [] ∷ g) in
      group_reads ds (k + suc (sites_in (body_of x))) (function f 0 [] ∷ g) (function f k us ∷ h)
      (reads_function m (stead n m us) f k 0 us (use_at [] (length g) (record { line = 0; column = 0 }) ∷ []) w
      (λ q. record {
        alike = equal _ _ (sym (append-nil (placed q us))
            ∙ sym (ap (λ o. instead o (use_at [] (length g) q) ++ []) (stead_at n m (length g) us i (omega
            (arith, j, e)))));
      }))
      (omega (arith, i)) e

group_fits : {l : ℕ} (ds : Defs) (g : Scope) (us : List Use) → Ready l g
    → Fits (length (named ds g)) (stead (length g) (length (named ds g)) us) (unexpanded (named ds g))
    (with_defs ds 0 us (unexpanded g))
group_fits ds g us w =
    let n = length g in
    let m = length (named ds g) in
    record {
      reads = group_reads (length g) (length (named ds g)) us ds 0 g (unexpanded g)
          (outer_reads (length g) (length (named ds g)) us g w refl) (omega arith) refl;
      least = let e = length_unexpanded (named ds g) in omega (arith, e);
    }

-- where nothing stands for the group's functions
below_stead : (n m : ℕ) (us : List Use) → below n (expanded (stead n m []) us) ≡ below n us
below_stead n m [] = refl
below_stead n m (u ∷ us) =
    let rest = below_stead n m us in
    below_append n (instead (stead n m [] u.number) u) (expanded (stead n m []) us)
    ∙ elim (cases_lt u.number n) [
      | inl k ↦
          ap (λ o. below n (instead o u) ++ below n (expanded (stead n m []) us)) (stead_below n m u.number [] k)
          ∙ ap (λ b. (if b then u ∷ [] else []) ++ below n (expanded (stead n m []) us)) (lt-ltb u.number n k)
          ∙ ap (λ ts. u ∷ ts) rest
          ∙ sym (ap (λ b. if b then u ∷ below n us else below n us) (lt-ltb u.number n k))
      | inr k ↦
          ap (λ ts. ts ++ below n (expanded (stead n m []) us))
          (quiet_instead (stead n m [] u.number) n u k
          (λ vs e. sym (stead_same (ltb u.number n) (ltb u.number m) [] vs e)))
          ∙ rest ∙ sym (ap (λ b. if b then u ∷ below n us else below n us) (le-ltb u.number n k))
    ]

same_if : (b : Bool) (q r : ℕ → Option (List Use)) (u : Use) (us vs : List Use)
    → (b ≡ true → q u.number ≡ r u.number) → expanded q us ≡ expanded r us → expanded q vs ≡ expanded r vs
    → expanded q (if b then u ∷ us else vs) ≡ expanded r (if b then u ∷ us else vs)
same_if true q r u us vs h e k = (λ i. instead (h refl i) u ++ e i)
same_if false q r u us vs h e k = k

and_first : (x y : Bool) → x && y ≡ true → x ≡ true
and_first true y h = refl
and_first false y h = h

same_below : (n m : ℕ) (us : List Use) (s : List ℕ) (vs : List Use)
    → expanded (group_at n us) (once_below m s vs) ≡ expanded (stead n m us) (once_below m s vs)
same_below n m us s [] = refl
same_below n m us s (v ∷ vs) =
    same_if (ltb v.number m && not (among v.number s)) (group_at n us) (stead n m us) v
    (once_below m (v.number ∷ s) vs) (once_below m s vs)
    (λ e. sym (ap (λ b. if ltb v.number n then None else if b then Some us else None)
    (and_first (ltb v.number m) (not (among v.number s)) e)))
    (same_below n m us (v.number ∷ s) vs) (same_below n m us s vs)

-- what a group captures while its functions stand for nothing
group_once : {l : ℕ} (ds : Defs) (g : Scope) → Ready l g
    → once_below (length (unexpanded g)) [] (occurring_defs ds (with_defs ds 0 [] (unexpanded g)))
    ≡ once_below (length g) [] (occurring_defs ds (unexpanded (named ds g)))
group_once ds g w =
    let n = length g in
    let m = length (named ds g) in
    let used = occurring_defs ds (unexpanded (named ds g)) in
    let low = low_stead (length g) (length (named ds g)) [] (named_longer ds g) refl in
    ap (λ k. once_below k [] (occurring_defs ds (with_defs ds 0 [] (unexpanded g)))) (length_unexpanded g)
    ∙ (stands_defs (length (named ds g)) (stead (length g) (length (named ds g)) []) low ds
    (group_fits ds g [] w)).alike.first (length g) []
    ∙ sym (once_of_below (length g) (length g) [] (expanded (stead (length g) (length (named ds g)) []) used)
    (omega arith))
    ∙ ap (λ ts. once_below (length g) [] ts) (below_stead (length g) (length (named ds g)) used)
    ∙ once_of_below (length g) (length g) [] used (omega arith)

-- the walk through a group puts what its form uses
pub letrec_put : {l : ℕ} {vs ws : List Use} (p : Place) (ds : Defs) (b : Expr) (g : Scope) (us : List Use) → Ready l g
    → vs ≡ put_all (length (named ds g)) [] (occurring_defs ds (unexpanded (named ds g)))
    → ws ≡ put_all (length (named ds g)) vs (occurring b (unexpanded (named ds g)))
    → put_all l us (expanded (group_at (length g) (put_all (length g) [] vs)) ws)
    ≡ put_all l us (occurring (letrec p ds b) (unexpanded g))
letrec_put {l} {vs} {ws} p ds b g us w put behind =
    let n = length g in
    let m = length (named ds g) in
    let xs = occurring_defs ds (unexpanded (named ds g)) in
    let ys = occurring b (unexpanded (named ds g)) in
    let cs = once_below (length g) [] (occurring_defs ds (unexpanded (named ds g))) in
    let zs = once_below (length (named ds g)) [] (xs ++ ys) in
    let own : put_all n [] vs ≡ cs =
    ap (λ ts. put_all n [] ts) (put ∙ put_once m [] xs) ∙ put_once n [] (once_below m [] xs)
    ∙ once_twice n m [] xs (named_longer ds g) in
    let inner : ws ≡ zs =
    behind ∙ ap (λ ts. put_all m ts ys) put ∙ sym (put_all_append m [] xs ys) ∙ put_once m [] (xs ++ ys) in
    let low = low_stead n m cs (named_longer ds g) (below_once n [] xs) in
    let fit = group_fits ds g cs w in
    let whole = two m (stead n m cs) (stands_defs m (stead n m cs) low ds fit) (stands m (stead n m cs) low b fit) in
    let room = w.room in
    let longer = named_longer ds g in
    ap (λ ts. put_all l us (expanded (group_at n ts) ws)) own
    ∙ ap (λ ts. put_all l us (expanded (group_at n cs) ts)) inner
    ∙ ap (λ ts. put_all l us ts) (same_below n m cs [] (xs ++ ys))
    ∙ put_once l us (expanded (stead n m cs) zs)
    ∙ ap (λ ts. us ++ ts)
    (taken_expanded m l m (numbers_of us) (stead n m cs) (xs ++ ys) low (omega arith) (omega (arith, room, longer)))
    ∙ sym (put_once l us (expanded (stead n m cs) (xs ++ ys)))
    ∙ sym (put_alike l us whole.alike)
    ∙ ap (λ ts. put_all l us (occurring_defs ds (with_defs ds 0 ts (unexpanded g))
    ++ occurring b (with_defs ds 0 ts (unexpanded g)))) (sym (group_once ds g w))
