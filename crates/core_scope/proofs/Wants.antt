-- How many values are wanted on the way, and what the definitions want.
use Rattle.std.proofs.Common.{◌≡◌, ℕ, List, [], ◌++◌, Option, Some, None, refl, sym, ap, ◌∙◌}
use Rattle.erl_base.specs.declared.ids.Place.{Place}
use Rattle.erl_base.specs.declared.refusal.Refusal.{Refusal}
use Rattle.core_form.specs.declared.tree.Binder.{Binder}
use Rattle.core_form.specs.Core.{Expr, values, case, try, receive, Clauses, Patterns, and_clause, clause}
use Rattle.core_scope.specs.declared.judged.Wanted.{Wanted}
use Rattle.core_scope.specs.declared.judged.Wanted.TheVariants.{Nothing, Alike, Exactly}
use Rattle.core_scope.specs.Degrees.{first_fixed, degree, clauses_degree, leaf_needs, needs, clauses_need, element_needs}
use Rattle.core_scope.specs.ScopeWalk.{fixed, settled, value_list_fault, element_wanted}
use Rattle.core_scope.proofs.Degree.{its_own, every, every_clause}

-- the faults of an expression where this is wanted
abbrev pub demanded : Wanted → Expr → List Refusal
demanded Nothing e = []
demanded Alike e = needs None e
demanded (Exactly n) e = needs (Some n) e

-- likewise of the bodies of clauses
abbrev pub demanded_clauses : Wanted → Clauses → List Refusal
demanded_clauses Nothing cs = []
demanded_clauses Alike cs = clauses_need None cs
demanded_clauses (Exactly n) cs = clauses_need (Some n) cs

pub settled_both : (w : Wanted) (c d : Option ℕ) → settled (settled w c) d ≡ settled w (first_fixed c d)
settled_both Nothing c d = refl
settled_both Alike None d = refl
settled_both Alike (Some n) d = refl
settled_both (Exactly n) c d = refl

pub fixed_alike : (d : Option ℕ) → fixed (settled Alike d) ≡ d
fixed_alike None = refl
fixed_alike (Some n) = refl

none_leaf : (p : Place) (d : Option ℕ) → leaf_needs None p d ≡ []
none_leaf p None = refl
none_leaf p (Some n) = refl

-- an expression that is no body of another one
pub leaf_demanded : (e : Expr) (p : Place) (d : Option ℕ) → ((n : Option ℕ) → needs n e ≡ leaf_needs n p d)
    → (w : Wanted) → demanded w e ≡ leaf_needs (fixed w) p d
leaf_demanded e p d h Nothing = sym (none_leaf p d)
leaf_demanded e p d h Alike = h None
leaf_demanded e p d h (Exactly n) = h (Some n)

settle_alike : (e : Expr) (c d : Option ℕ) → degree e ≡ c → needs None e ≡ demanded (settled Alike (first_fixed c d)) e
settle_alike e (Some n) d h = its_own e ∙ ap (λ c. needs c e) h
settle_alike e None None h = refl
settle_alike e None (Some n) h = every e None h ∙ sym (every e (Some n) h)

-- a body is held against its own degree, or against what is settled later, where it has none
pub settle : (w : Wanted) (e : Expr) (d : Option ℕ)
    → demanded w e ≡ demanded (settled w (first_fixed (degree e) d)) e
settle Nothing e d = refl
settle Alike e d = settle_alike e (degree e) d refl
settle (Exactly n) e d = refl

first_fixed_none : (c : Option ℕ) → first_fixed c None ≡ c
first_fixed_none None = refl
first_fixed_none (Some n) = refl

-- the last body
pub settle_last : (w : Wanted) (e : Expr) → demanded w e ≡ demanded (settled w (degree e)) e
settle_last w e = settle w e None ∙ ap (λ d. demanded (settled w d) e) (first_fixed_none (degree e))

settle_clauses_alike : (cs : Clauses) (c d : Option ℕ) → clauses_degree cs ≡ c
    → demanded_clauses (settled Alike c) cs ≡ demanded_clauses (settled Alike (first_fixed c d)) cs
settle_clauses_alike cs (Some n) d h = refl
settle_clauses_alike cs None None h = refl
settle_clauses_alike cs None (Some n) h = every_clause cs None h ∙ sym (every_clause cs (Some n) h)

pub settle_clauses : (w : Wanted) (cs : Clauses) (d : Option ℕ)
    → demanded_clauses (settled w (clauses_degree cs)) cs
    ≡ demanded_clauses (settled w (first_fixed (clauses_degree cs) d)) cs
settle_clauses Nothing cs d = refl
settle_clauses Alike cs d = settle_clauses_alike cs (clauses_degree cs) d refl
settle_clauses (Exactly n) cs d = refl

pub one_clause : (w : Wanted) (p : Place) (qs : Patterns) (g e : Expr) (cs : Clauses)
    → demanded_clauses w (and_clause (clause p qs g e) cs) ≡ demanded w e ++ demanded_clauses w cs
one_clause Nothing p qs g e cs = refl
one_clause Alike p qs g e cs = refl
one_clause (Exactly n) p qs g e cs = refl

case_alike : (cs : Clauses) (d : Option ℕ) → clauses_need d cs ≡ demanded_clauses (settled Alike d) cs
case_alike cs None = refl
case_alike cs (Some n) = refl

pub case_demanded : (w : Wanted) (p : Place) (e : Expr) (cs : Clauses)
    → demanded w (case p e cs) ≡ demanded_clauses (settled w (clauses_degree cs)) cs
case_demanded Nothing p e cs = refl
case_demanded Alike p e cs = case_alike cs (clauses_degree cs)
case_demanded (Exactly n) p e cs = refl

receive_alike : (cs : Clauses) (b : Expr) (d : Option ℕ)
    → clauses_need d cs ++ needs d b ≡ demanded_clauses (settled Alike d) cs ++ demanded (settled Alike d) b
receive_alike cs b None = refl
receive_alike cs b (Some n) = refl

pub receive_demanded : (w : Wanted) (p : Place) (cs : Clauses) (t b : Expr)
    → let k = settled w (first_fixed (clauses_degree cs) (degree b)) in
    demanded w (receive p cs t b) ≡ demanded_clauses k cs ++ demanded k b
receive_demanded Nothing p cs t b = refl
receive_demanded Alike p cs t b = receive_alike cs b (first_fixed (clauses_degree cs) (degree b))
receive_demanded (Exactly n) p cs t b = refl

try_alike : (c d : Expr) (k : Option ℕ)
    → needs k c ++ needs k d ≡ demanded (settled Alike k) c ++ demanded (settled Alike k) d
try_alike c d None = refl
try_alike c d (Some n) = refl

pub try_demanded : (w : Wanted) (p : Place) (a : Expr) (xs : List Binder) (c : Expr) (ys : List Binder) (d : Expr)
    → let k = settled w (first_fixed (degree c) (degree d)) in
    demanded w (try p a xs c ys d) ≡ demanded k c ++ demanded k d
try_demanded Nothing p a xs c ys d = refl
try_demanded Alike p a xs c ys d = try_alike c d (first_fixed (degree c) (degree d))
try_demanded (Exactly n) p a xs c ys d = refl

-- an expression whose last part has its degree
pub last_demanded : (e b : Expr) → ((n : Option ℕ) → needs n e ≡ needs n b) → (w : Wanted) → demanded w e ≡ demanded w b
last_demanded e b h Nothing = refl
last_demanded e b h Alike = h None
last_demanded e b h (Exactly n) = h (Some n)

pub element_demanded : (e : Expr) → element_needs e ≡ value_list_fault e ++ demanded (element_wanted e) e
element_demanded (values p es) = refl
element_demanded e = refl
