-- Captures are what is used of the scope around, each function's captures in its stead.
use Rattle.std.proofs.Common.{◌≡◌, ℕ, suc, ◌+◌, ◌≤◌, ◌<◌, List, [], ◌∷◌, ◌++◌, length, Bool, true, false, eqb, if◌then◌else◌, inl, inr, Option, Some, None, refl, sym, ap, ◌∙◌, subst, append-nil, eq-eqb, ne_eqb, lt-ltb, le-ltb, arith}
use Rattle.std.proofs.lemmas.Bool.{cases_lt}
use Rattle.erl_base.specs.Names.{Name, same_name, same_key}
use Rattle.erl_base.specs.declared.ids.Place.{Place}
use Rattle.erl_base.specs.declared.ids.FunKey.{FunKey}
use Rattle.core_form.specs.Core.{Defs, no_def, and_def, def}
use Rattle.core_form.specs.Scope.{Use, Scope, variable, function, binding, function_of, body_of}
use Rattle.core_form.specs.Captures.{sites_in, with_defs, captured, once_below, placed, occurring, occurring_defs}
use Rattle.core_sites.specs.Things.{unexpanded, instead, expanded, captures_at, below, IsNumbered, CapturesAreExpanded, GroupCapturesAreExpanded}
use Rattle.core_sites.proofs.Alike.{equal, below_more, below_append, below_placed, once_of_below, IsLow, taken_expanded, alike_once}
use Rattle.core_sites.proofs.Stands.{Fits, stands, stands_defs}

some_same : {A : Type 0} (x y : A) → Some x ≡ Some y → x ≡ y
some_same x y e = cc

no_some : {A : Type 0} (x : A) → None ≡ Some x → ⊥
no_some x e = cc

pub length_unexpanded : (g : Scope) → length (unexpanded g) ≡ length g
length_unexpanded [] = refl
length_unexpanded (variable x n ∷ g) = ap suc (length_unexpanded g)
length_unexpanded (function f s us ∷ g) = ap suc (length_unexpanded g)

pub binding_unexpanded : (g : Scope) (x : Name) → binding (unexpanded g) x ≡ binding g x
binding_unexpanded [] x = refl
binding_unexpanded (variable y n ∷ g) x = ap (λ o. if same_name x y then Some n else o) (binding_unexpanded g x)
binding_unexpanded (function f s us ∷ g) x = binding_unexpanded g x

-- behind every binding there is no function
pub at_outer : (g : Scope) (n : ℕ) → length g ≤ n → captures_at g n ≡ None
at_outer [] n h = refl
at_outer (variable x m ∷ g) n h = at_outer g n (omega (arith, h))
at_outer (function f s us ∷ g) n h =
    ap (λ b. if b then Some us else captures_at g n) (ne_eqb n (length g) (λ e. omega (arith, e, h)))
    ∙ at_outer g n (omega (arith, h))

pub at_more : (g : Scope) (f : FunKey) (s : ℕ) (us : List Use) (n : ℕ) → n < length g
    → captures_at (function f s us ∷ g) n ≡ captures_at g n
at_more g f s us n h =
    ap (λ b. if b then Some us else captures_at g n) (ne_eqb n (length g) (λ e. omega (arith, e, h)))

inner_if : (b : Bool) (l : ℕ) (us vs : List Use) (o : Option (List Use)) → below l vs ≡ vs
    → (o ≡ Some us → below l us ≡ us) → (if b then Some vs else o) ≡ Some us → below l us ≡ us
inner_if true l us vs o h k e = subst (λ ws. below l ws ≡ ws) (some_same vs us e) h
inner_if false l us vs o h k e = k e

at_inner : (g : Scope) (n : ℕ) (us : List Use) → IsNumbered g → captures_at g n ≡ Some us
    → below (length g) us ≡ us
at_inner [] n us h e = absurd (no_some us e)
at_inner (variable x m ∷ g) n us h e =
    below_more (suc (length g)) (length g) us (omega arith) (at_inner g n us h.1 e)
at_inner (function f s vs ∷ g) n us h e =
    below_more (suc (length g)) (length g) us (omega arith)
    (inner_if (eqb n (length g)) (length g) us vs (captures_at g n) h.0 (at_inner g n us h.1) e)

low : (g : Scope) → IsNumbered g → IsLow (length g) (captures_at g)
low g h = record { outer = at_outer g; inner = λ n us. at_inner g n us h }

within_if : (b : Bool) (l m n : ℕ) (o : Option ℕ) → m ≡ l → (o ≡ Some n → n < l)
    → (if b then Some m else o) ≡ Some n → n < suc l
within_if true l m n o h k e = let i = some_same m n e in omega (arith, h, i)
within_if false l m n o h k e = let i = k e in omega (arith, i)

-- a variable's number stands behind the scope's length
pub binding_within : (g : Scope) (x : Name) (n : ℕ) → IsNumbered g → binding g x ≡ Some n → n < length g
binding_within [] x n h e = absurd (no_some n e)
binding_within (variable y m ∷ g) x n h e =
    within_if (same_name x y) (length g) m n (binding g x) h.0 (binding_within g x n h.1) e
binding_within (function f s us ∷ g) x n h e = let k = binding_within g x n h.1 e in omega (arith, k)

plain_if : (b : Bool) (g : Scope) (m n : ℕ) (o : Option ℕ) → m ≡ length g → (o ≡ Some n → captures_at g n ≡ None)
    → (if b then Some m else o) ≡ Some n → captures_at g n ≡ None
plain_if true g m n o h k e = let i = some_same m n e in at_outer g n (omega (arith, h, i))
plain_if false g m n o h k e = k e

-- no function has a variable's number
plain : (g : Scope) (x : Name) (n : ℕ) → IsNumbered g → binding g x ≡ Some n → captures_at g n ≡ None
plain [] x n h e = refl
plain (variable y m ∷ g) x n h e =
    plain_if (same_name x y) g m n (binding g x) h.0 (plain g x n h.1) e
plain (function f s us ∷ g) x n h e =
    at_more g f s us n (binding_within g x n h.1 e) ∙ plain g x n h.1 e

function_if : (b : Bool) (r : ℕ → Option (List Use)) (s t m : ℕ) (us : List Use) (p q : Place)
    (o i : Option (ℕ × List Use)) → r m ≡ Some us
    → placed p (captured o) ≡ expanded r (placed p (captured i))
    → placed p (captured (if b then Some (s, us) else o))
    ≡ expanded r (placed p (captured (if b then Some (t, record { name = []; number = m; place = q } ∷ []) else i)))
function_if true r s t m us p q o i h k =
    sym (append-nil (placed p us))
    ∙ sym (ap (λ w. instead w (record { name = []; number = m; place = p }) ++ []) h)
function_if false r s t m us p q o i h k = k

-- what a function's name means is what stands for it
function_at : (g : Scope) (r : ℕ → Option (List Use)) (f : FunKey) (p : Place)
    → ((n : ℕ) → n < length g → r n ≡ captures_at g n)
    → placed p (captured (function_of g f)) ≡ expanded r (placed p (captured (function_of (unexpanded g) f)))
function_at [] r f p h = refl
function_at (variable y m ∷ g) r f p h = function_at g r f p (λ n k. h n (omega (arith, k)))
function_at (function q s us ∷ g) r f p h =
    function_if (same_key f q) r s s (length g) us p (record { line = 0; column = 0 }) (function_of g f)
    (function_of (unexpanded g) f)
    (h (length g) (omega arith)
    ∙ ap (λ b. if b then Some us else captures_at g (length g)) (eq-eqb (length g) (length g) refl))
    (function_at g r f p (λ n k. h n (omega (arith, k)) ∙ at_more g q s us n k))

fits : (g : Scope) → IsNumbered g → Fits (length g) (captures_at g) (unexpanded g) g
fits g h = record {
  reads = record {
    same = λ x. sym (binding_unexpanded g x);
    plain = λ x n e. plain g x n h (sym (binding_unexpanded g x) ∙ e);
    stands = λ f p. record { alike = equal _ _ (function_at g (captures_at g) f p (λ n k. refl)) };
    long = sym (length_unexpanded g);
  };
  least = let e = length_unexpanded g in omega (arith, e);
}

pub captures_expanded : CapturesAreExpanded
captures_expanded e g h =
    (stands (length g) (captures_at g) (low g h) e (fits g h)).alike.first (length g) []
    ∙ sym (taken_expanded (length g) (length g) (length g) [] (captures_at g) (occurring e (unexpanded g)) (low g h)
    (omega arith) (omega arith))

-- A group's own names count as nothing.

numbered_defs : (ds : Defs) (k : ℕ) (g : Scope) → IsNumbered g → IsNumbered (with_defs ds k [] g)
numbered_defs no_def k g h = h
numbered_defs (and_def (def p f e) ds) k g h =
    numbered_defs ds (k + suc (sites_in (body_of e))) (function f k [] ∷ g) (refl, h)

-- the functions of a group capture nothing, and those outside of it what they did
record Silent (g h : Scope) : Type 0 where
  pub longer : length g ≤ length h
  pub outer : (n : ℕ) → n < length g → captures_at h n ≡ captures_at g n
  pub inner : (n : ℕ) (us : List Use) → length g ≤ n → captures_at h n ≡ Some us → us ≡ []

silent_if : (b : Bool) (us : List Use) (o : Option (List Use)) → (o ≡ Some us → us ≡ [])
    → (if b then Some [] else o) ≡ Some us → us ≡ []
silent_if true us o h e = sym (some_same [] us e)
silent_if false us o h e = h e

silent_defs : (ds : Defs) (k : ℕ) (g h : Scope) → Silent g h → Silent g (with_defs ds k [] h)
silent_defs no_def k g h w = w
silent_defs (and_def (def p f e) ds) k g h w =
    silent_defs ds (k + suc (sites_in (body_of e))) g (function f k [] ∷ h) (record {
      longer = let l = w.longer in omega (arith, l);
      outer = λ n i. let l = w.longer in at_more h f k [] n (omega (arith, i, l)) ∙ w.outer n i;
      inner = λ n us i. silent_if (eqb n (length h)) us (captures_at h n) (w.inner n us i);
    })

silent_itself : (g : Scope) → Silent g g
silent_itself g = record {
  longer = omega arith;
  outer = λ n h. refl;
  inner = λ n us h e. absurd (no_some us (sym (at_outer g n h) ∙ e));
}

pub quiet_instead : (o : Option (List Use)) (l : ℕ) (u : Use) → l ≤ u.number
    → ((us : List Use) → o ≡ Some us → us ≡ []) → below l (instead o u) ≡ []
quiet_instead None l u h k = ap (λ b. if b then u ∷ [] else []) (le-ltb u.number l h)
quiet_instead (Some us) l u h k = ap (λ ws. below l (placed u.place ws)) (k us refl)

kept_instead : (o : Option (List Use)) (l : ℕ) (u : Use) → u.number < l
    → ((us : List Use) → o ≡ Some us → below l us ≡ us) → below l (instead o u) ≡ instead o u
kept_instead None l u h k = ap (λ b. if b then u ∷ [] else []) (lt-ltb u.number l h)
kept_instead (Some us) l u h k = below_placed l u.place us ∙ ap (λ ws. placed u.place ws) (k us refl)

below_silent : (g h : Scope) (us : List Use) → IsNumbered g → Silent g h
    → below (length g) (expanded (captures_at h) us) ≡ expanded (captures_at g) (below (length g) us)
below_silent g h [] i w = refl
below_silent g h (u ∷ us) i w =
    let rest = below_silent g h us i w in
    let l = length g in
    let whole = λ (b : Bool). expanded (captures_at g) (if b then u ∷ below (length g) us else below (length g) us) in
    below_append (length g) (instead (captures_at h u.number) u) (expanded (captures_at h) us)
    ∙ elim (cases_lt u.number (length g)) [
      | inl k ↦
          ap (λ o. below (length g) (instead o u) ++ below (length g) (expanded (captures_at h) us))
          (w.outer u.number k)
          ∙ ap (λ ts. ts ++ below (length g) (expanded (captures_at h) us))
          (kept_instead (captures_at g u.number) (length g) u k (λ vs. at_inner g u.number vs i))
          ∙ ap (λ ts. instead (captures_at g u.number) u ++ ts) rest
          ∙ sym (ap whole (lt-ltb u.number (length g) k))
      | inr k ↦
          ap (λ ts. ts ++ below (length g) (expanded (captures_at h) us))
          (quiet_instead (captures_at h u.number) (length g) u k (λ vs. w.inner u.number vs k))
          ∙ rest ∙ sym (ap whole (le-ltb u.number (length g) k))
    ]

pub group_captures_expanded : GroupCapturesAreExpanded
group_captures_expanded ds g h =
    let inner = with_defs ds 0 [] g in
    let used = occurring_defs ds (unexpanded inner) in
    let numbered = numbered_defs ds 0 g h in
    (stands_defs (length inner) (captures_at inner) (low inner numbered) ds (fits inner numbered)).alike.first
    (length g) []
    ∙ sym (once_of_below (length g) (length g) [] (expanded (captures_at inner) used) (omega arith))
    ∙ ap (λ ts. once_below (length g) [] ts) (below_silent g inner used h (silent_defs ds 0 g g (silent_itself g)))
    ∙ sym ((alike_once (captures_at g) (length g) used).first (length g) [])
