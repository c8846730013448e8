-- The order of faults is total, so a list has one first at most, and keeping the earlier of two finds it.
use Rattle.std.proofs.Common.{◌≡◌, inl, inr, ℕ, List, [], ◌∷◌, ◌++◌, length, Bool, true, false, Option, Some, None, refl, sym, ap, ◌∙◌, arith, append_assoc, if◌then◌else◌, zero, suc, subst}
use Rattle.std.specs.Prelude.{MatchOption}
use Rattle.std.proofs.lemmas.Bool.{cases_Bool}
use Rattle.std.proofs.lemmas.List.{append-nil}
use Rattle.std.proofs.lemmas.List.Elements.{All-nil, All-weaker, All-push, All-contains, Contains-push, Contains-append_left}
use Rattle.erl_base.specs.declared.refusal.Refusal.{Refusal}
use Rattle.erl_base.specs.declared.refusal.Kind.{Kind}
use Rattle.erl_base.specs.declared.refusal.Kind.TheVariants.{TooLarge, NotUtf8, Syntax, Scope, Profile, Limit, AsmSyntax, Script}
use Rattle.erl_base.specs.declared.refusal.ScopeFault.{ScopeFault}
use Rattle.erl_base.specs.declared.refusal.ScopeFault.TheVariants.{UnboundVariable, UnboundFunction, DoubledVariable, DoubledFunction, MissingExport, WrongArity, WrongDegree, ClauseWidth, GuardForm}
use Rattle.erl_base.specs.declared.refusal.Outside.{Outside}
use Rattle.erl_base.specs.declared.refusal.Outside.TheVariants.{Float, Primop, FloatFunction, SegmentType, Native, SegmentForm, NotBuilt}
use Rattle.erl_base.specs.declared.refusal.LimitName.{LimitName}
use Rattle.erl_base.specs.declared.refusal.LimitName.TheVariants.{Integer, Atom, Arity, Nodes, Definitions, Receive, Nesting}
use Rattle.first_fault.specs.FirstFault.{kind_rank, rank, is_below, comes_before, IsFirst, FirstIsUnique, FirstIsFound, earlier, first_with}

differ : (b : Bool) → b ≡ false → b ≡ true → ⊥
differ true h k = cc
differ false h k = cc

-- The order of lists of numbers.

pub below_itself : (ns : List ℕ) → is_below ns ns ≡ false
below_itself [] = refl
below_itself (n ∷ ns) = grind (arith, below_itself ns)

pub below_through : (ls ms ns : List ℕ) → is_below ls ms ≡ true → is_below ms ns ≡ true → is_below ls ns ≡ true
below_through [] ms ns h k = h
below_through (l ∷ ls) [] ns h k = absurd cc
below_through (l ∷ ls) (m ∷ ms) [] h k = k
below_through (l ∷ ls) (m ∷ ms) (n ∷ ns) h k = grind (arith, below_through ls ms ns)

pub below_total : (ms ns : List ℕ) → length ms ≡ length ns → is_below ms ns ≡ false → is_below ns ms ≡ false → ms ≡ ns
below_total [] [] e h k = refl
below_total [] (n ∷ ns) e h k = absurd (omega (arith, e))
below_total (m ∷ ms) [] e h k = absurd (omega (arith, e))
below_total (m ∷ ms) (n ∷ ns) e h k = grind (arith, below_total ms ns)

-- Faults of one rank are one fault.

abbrev nth : {A : Type 0} → List A → ℕ → A → A
nth [] n d = d
nth (x ∷ xs) zero d = x
nth (x ∷ xs) (suc n) d = nth xs n d

abbrev scope_table : List ScopeFault
scope_table =
    UnboundVariable ∷ UnboundFunction ∷ DoubledVariable ∷ DoubledFunction ∷ MissingExport ∷ WrongArity ∷ WrongDegree
    ∷ ClauseWidth ∷ GuardForm ∷ []

abbrev outside_table : List Outside
outside_table = Float ∷ Primop ∷ FloatFunction ∷ SegmentType ∷ Native ∷ SegmentForm ∷ NotBuilt ∷ []

abbrev limit_table : List LimitName
limit_table = Integer ∷ Atom ∷ Arity ∷ Nodes ∷ Definitions ∷ Receive ∷ Nesting ∷ []

abbrev tables : ℕ → ℕ → List Kind
tables row count =
    TooLarge ∷ NotUtf8 ∷ Syntax ∷ Scope (nth scope_table row GuardForm) ∷ Profile (nth outside_table row NotBuilt)
    ∷ Limit (nth limit_table row Nesting) count ∷ AsmSyntax ∷ Script ∷ []

abbrev kind_of : List ℕ → Kind
kind_of (table ∷ row ∷ count ∷ ns) = nth (tables row count) table Script
kind_of _ = Script

abbrev fault_of : List ℕ → Refusal
fault_of (line ∷ column ∷ ns) = record { kind = kind_of ns; place = record { line = line; column = column } }
fault_of _ = record { kind = Script; place = record { line = 0; column = 0 } }

kind_back : (k : Kind) → kind_of (kind_rank k) ≡ k
kind_back (Scope UnboundVariable) = refl
kind_back (Profile Float) = refl
kind_back (Limit Integer n) = refl
kind_back k = refl

fault_back : (f : Refusal) → fault_of (rank f) ≡ f
fault_back f = ap (λ k. record { kind = k; place = f.place }) (kind_back f.kind)

kind_length : (k : Kind) → length (kind_rank k) ≡ 3
kind_length TooLarge = refl
kind_length k = refl

rank_length : (f g : Refusal) → length (rank f) ≡ length (rank g)
rank_length f g = let h = kind_length f.kind in let k = kind_length g.kind in omega (arith, h, k)

one_rank : (f g : Refusal) → rank f ≡ rank g → f ≡ g
one_rank f g e = sym (fault_back f) ∙ ap fault_of e ∙ fault_back g

-- Firsts.

pub unique : FirstIsUnique
unique faults f g v w = one_rank f g (below_total (rank f) (rank g) (rank_length f g)
    (All-contains (λ other. comes_before other g ≡ false) faults f w.least v.stands)
    (All-contains (λ other. comes_before other f ≡ false) faults g v.least w.stands))

alone : (f : Refusal) → IsFirst (f ∷ []) f
alone f = record {
  stands = Contains-push [] f;
  least = All-push (λ other. comes_before other f ≡ false) [] f (All-nil (λ other. comes_before other f ≡ false))
      (below_itself (rank f));
}

later_still : (x f a : Refusal) → comes_before x a ≡ false → comes_before f a ≡ true → comes_before x f ≡ false
later_still x f a h k = elim (cases_Bool (comes_before x f)) [
  | inl e ↦ absurd (differ _ h (below_through (rank x) (rank f) (rank a) e k))
  | inr e ↦ e
]

chosen : (done : List Refusal) (a f : Refusal) (b : Bool) → comes_before f a ≡ b → IsFirst done a
    → IsFirst (done ++ f ∷ []) (if b then f else a)
chosen done a f true e h = record {
  stands = Contains-push done f;
  least = All-push (λ other. comes_before other f ≡ false) done f
      (All-weaker (λ other. comes_before other a ≡ false) (λ other. comes_before other f ≡ false)
      (λ x k. later_still x f a k e) done h.least) (below_itself (rank f));
}
chosen done a f false e h = record {
  stands = Contains-append_left done (f ∷ []) a h.stands;
  least = All-push (λ other. comes_before other a ≡ false) done f h.least e;
}

one_more : (done : List Refusal) (o : Option Refusal) (f : Refusal) → MatchOption o (done ≡ []) (IsFirst done)
    → IsFirst (done ++ f ∷ []) (earlier o f)
one_more done None f e = subst (λ l. IsFirst (l ++ f ∷ []) f) (sym e) (alone f)
one_more done (Some a) f h = chosen done a f (comes_before f a) refl h

kept : (done faults : List Refusal) (o : Option Refusal) → MatchOption o (done ≡ []) (IsFirst done)
    → MatchOption (first_with o faults) (done ++ faults ≡ []) (IsFirst (done ++ faults))
kept done [] o h = subst (λ l. MatchOption o (l ≡ []) (IsFirst l)) (sym (append-nil done)) h
kept done (f ∷ faults) o h =
    subst (λ l. MatchOption (first_with (Some (earlier o f)) faults) (l ≡ []) (IsFirst l))
    (append_assoc done (f ∷ []) faults) (kept (done ++ f ∷ []) faults (Some (earlier o f)) (one_more done o f h))

pub found : FirstIsFound
found faults = kept [] faults None refl

-- what is met in two stretches
pub first_with_both : (o : Option Refusal) (xs ys : List Refusal)
    → first_with o (xs ++ ys) ≡ first_with (first_with o xs) ys
first_with_both o [] ys = refl
first_with_both o (x ∷ xs) ys = first_with_both (Some (earlier o x)) xs ys

-- nothing is kept of no faults alone
pub none_kept : (faults : List Refusal) (o : Option Refusal) → o ≡ first_with None faults → o ≡ None → faults ≡ []
none_kept faults o e n = subst (λ r. MatchOption r (faults ≡ []) (IsFirst faults)) (sym e ∙ n) (found faults)

-- what is kept is the first
pub first_kept : (faults : List Refusal) (o : Option Refusal) (f : Refusal) → o ≡ first_with None faults → o ≡ Some f
    → IsFirst faults f
first_kept faults o f e n = subst (λ r. MatchOption r (faults ≡ []) (IsFirst faults)) (sym e ∙ n) (found faults)
