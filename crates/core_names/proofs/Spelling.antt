-- Texts with the same characters are one text, and atoms of lists without items.
use Rattle.std.proofs.Common.{◌≡◌, refl, sym, ap, ap₂, ◌∙◌, subst, List, [], ◌∷◌, map, ℕ, chars, IsUtf8, Bool, true, false, ◌&&◌, ◌||◌, codes, eqb, bytes_eq, rules, nat_lt, slice_index, zero, suc, ◌<◌, arith}
use Rattle.std.proofs.lemmas.Str.{encodes-chars, chars-IsAscii, chars-nil}
use lib.Utf8.{encodes}
use borrow.Author.Tests.{eqb-true, eq-eqb, ltb-true}
use Rattle.std.specs.List.{list_all}
use Rattle.erl_base.specs.Names.{same_name}
use Rattle.erl_base.specs.declared.ids.Place.{Place}
use Rattle.erl_term.specs.declared.term.Term.{Term, fold-roll-Term}
use Rattle.erl_term.specs.declared.term.Term.TheOpen as form
use Rattle.erl_term.specs.declared.term.Term.TheVariants as V
use Rattle.erl_term.specs.Term as Plain
use Rattle.erl_term.specs.Terms.{list_of}
use Rattle.erl_term.specs.View.{view, view_step, pair_step}
use Rattle.core_form.specs.Core.{literal}
use Rattle.core_form.specs.SourceTree.{is_flag}
use Rattle.core_form.specs.Walks.{literal_name}
use Rattle.core_names.specs.Readings.{atom_in}

left : (a b : Bool) → (a && b) ≡ true → a ≡ true
left true b e = refl
left false b e = cc

right : (a b : Bool) → (a && b) ≡ true → b ≡ true
right true b e = e
right false b e = cc

same : (x y : List ℕ) → same_name x y ≡ true → x ≡ y
same [] [] e = refl
same [] (y ∷ ys) e = absurd cc
same (x ∷ xs) [] e = absurd cc
same (x ∷ xs) (y ∷ ys) e = ap₂ (λ z zs. z ∷ zs) (eqb-true x y (left (eqb x y) _ e)) (same xs ys (right (eqb x y) _ e))

itself : (x : List ℕ) → same_name x x ≡ true
itself [] = refl
itself (x ∷ xs) = ap₂ (λ a b. a && b) (eq-eqb x x refl) (itself xs)

both : (a b : Bool) → (a ≡ true → b ≡ true) → (b ≡ true → a ≡ true) → a ≡ b
both true b f g = sym (f refl)
both false true f g = g refl
both false false f g = refl

below_all : (cs : List ℕ) → list_all (λ c. nat_lt c 128) cs ≡ true → (i : ℕ) → slice_index cs i < 128
below_all [] e i = omega arith
below_all (c ∷ cs) e zero = ltb-true c 128 (left (nat_lt c 128) _ e)
below_all (c ∷ cs) e (suc i) = below_all cs (right (nat_lt c 128) _ e) i

-- a comparison of texts compares their characters
told : (r : Bool) (a b : List ℕ) → IsUtf8 a → IsUtf8 b → r ≡ bytes_eq a b → r ≡ same_name (chars a) (chars b)
told r a b u v e = both r (same_name (chars a) (chars b))
    (λ t. let h : a ≡ b = search (rules, t, e) in
    subst (λ z. same_name (chars a) (chars z) ≡ true) h (itself (chars a)))
    (λ s. let h : a ≡ b = sym (encodes-chars a u) ∙ ap encodes (same (chars a) (chars b) s) ∙ encodes-chars b v in
    search (rules, h, e))

-- with a word of ASCII
pub word_spelled : (r : Bool) (a b : List ℕ) → IsUtf8 a → IsUtf8 b → r ≡ bytes_eq a b
    → list_all (λ c. nat_lt c 128) b ≡ true → r ≡ same_name (chars a) b
word_spelled r a b u v e k = told r a b u v e ∙ ap (same_name (chars a)) (chars-IsAscii b (below_all b k))

pub nothing_spelled : chars [] ≡ []
nothing_spelled = chars-nil

-- Terms that are lists: their items and what is behind them.

view-list : (items : List Term) (tail : Term) → view (V.List items tail) ≡ list_of (map view items) (view tail)
view-list items tail = ap view (sym (V.rolls-List items tail))
    ∙ fold-roll-Term Plain.Term (Plain.Term × Plain.Term) view_step pair_step (form.List items tail)

-- a list with items is no atom
pub list_spelled : (t : Term) (items : List Term) (tail : Term) → t ≡ V.List items tail → (items ≡ [] → ⊥)
    → atom_in (view t) ≡ []
list_spelled t [] tail e h = absurd (h refl)
list_spelled t (x ∷ xs) tail e h = ap atom_in (ap view e ∙ view-list (x ∷ xs) tail)

pub literal_spelled : (p : Place) (t : Plain.Term) → literal_name (literal p t) ≡ atom_in t
literal_spelled p (Plain.atom a) = refl
literal_spelled p t = refl

-- flags by their names
pub flag_named : (t : Plain.Term) → is_flag t ≡ (same_name (atom_in t) (codes "signed")
    || same_name (atom_in t) (codes "unsigned") || same_name (atom_in t) (codes "big")
    || same_name (atom_in t) (codes "little"))
flag_named (Plain.atom a) = refl
flag_named t = refl
