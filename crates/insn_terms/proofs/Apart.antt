-- Terms that were taken apart are put together again.
use Rattle.std.proofs.Common.{◌≡◌, ℕ, ℤ, pos, negsuc, refl, sym, ap, ap₂, ◌∙◌, List, [], ◌∷◌, Some, None, true, ◌&&◌, eqb, if◌then◌else◌, codes}
use borrow.Author.Tests.{eqb-true, eq-eqb}
use Rattle.erl_base.specs.Names.{Name, same_name}
use Rattle.erl_term.specs.Term as T
use Rattle.erl_term.specs.Term.{Term, Terms, none, more}
use Rattle.erl_term.specs.Terms.{terms, listed, tagged, list_of}
use Rattle.erl_term.proofs.Forms.{left_true, right_true}
use Rattle.term_read.specs.Lexemes.{◌>>=◌}
use Rattle.term_read.proofs.Shorter.{bound, some_same, chosen}
use Rattle.beam_table.specs.InstructionText.{number_term, label_term}
use Rattle.insn_terms.specs.Reading.{number_of, integer_of, atom_of, items_of, elements_of, pair_in, pair_of, behind, label_of}

pub same_names : (a b : Name) → same_name a b ≡ true → a ≡ b
same_names [] [] e = refl
same_names [] (y ∷ ys) e = absurd cc
same_names (x ∷ xs) [] e = absurd cc
same_names (x ∷ xs) (y ∷ ys) e =
    ap₂ (λ z zs. z ∷ zs) (eqb-true x y (left_true (eqb x y) _ e)) (same_names xs ys (right_true (eqb x y) _ e))

pub same_itself : (a : Name) → same_name a a ≡ true
same_itself [] = refl
same_itself (x ∷ xs) = ap₂ (λ a b. a && b) (eq-eqb x x refl) (same_itself xs)

pub number_sound : (t : Term) (n : ℕ) → number_of t ≡ Some n → t ≡ number_term n
number_sound (T.int (pos m)) n e = ap number_term (some_same m n e)
number_sound (T.int (negsuc m)) n e = absurd cc
number_sound t n e = absurd cc

pub integer_sound : (t : Term) (z : ℤ) → integer_of t ≡ Some z → t ≡ T.int z
integer_sound (T.int y) z e = ap T.int (some_same y z e)
integer_sound t z e = absurd cc

pub atom_sound : (t : Term) (a : Name) → atom_of t ≡ Some a → t ≡ T.atom a
atom_sound (T.atom b) a e = ap T.atom (some_same b a e)
atom_sound t a e = absurd cc

pub items_sound : (t : Term) (ts : List Term) → items_of t ≡ Some ts → t ≡ list_of ts T.nil
items_sound T.nil ts e = ap (λ us. list_of us T.nil) (some_same [] ts e)
items_sound (T.cons t u) ts e =
    let x = bound (items_of u) (λ us. Some (t ∷ us)) ts e in
    ap (T.cons t) (items_sound u x.0 x.1) ∙ ap (λ us. list_of us T.nil) (some_same (t ∷ x.0) ts x.2)
items_sound t ts e = absurd cc

pub items_there : (ts : List Term) → items_of (list_of ts T.nil) ≡ Some ts
items_there [] = refl
items_there (t ∷ ts) = ap (λ r. r >>= λ us. Some (t ∷ us)) (items_there ts)

pub terms-listed : (ts : Terms) → terms (listed ts) ≡ ts
terms-listed none = refl
terms-listed (more t ts) = ap (more t) (terms-listed ts)

pub listed-terms : (ts : List Term) → listed (terms ts) ≡ ts
listed-terms [] = refl
listed-terms (t ∷ ts) = ap (λ us. t ∷ us) (listed-terms ts)

pub elements_sound : (t : Term) (ts : List Term) → elements_of t ≡ Some ts → t ≡ T.tuple (terms ts)
elements_sound (T.tuple us) ts e =
    ap T.tuple (sym (terms-listed us)) ∙ ap (λ vs. T.tuple (terms vs)) (some_same (listed us) ts e)
elements_sound t ts e = absurd cc

pub pair_sound : (ts : List Term) (p : Name × Term) → pair_in ts ≡ Some p → ts ≡ T.atom p.0 ∷ p.1 ∷ []
pair_sound [] p e = absurd cc
pair_sound (t ∷ []) p e = absurd cc
pair_sound (t ∷ u ∷ []) p e =
    let x = bound (atom_of t) (λ a. Some (a, u)) p e in
    let s = some_same (x.0, u) p x.2 in
    ap₂ (λ v w. v ∷ w ∷ []) (atom_sound t x.0 x.1 ∙ ap (λ (q : Name × Term). T.atom q.0) s)
    (ap (λ (q : Name × Term). q.1) s)
pair_sound (t ∷ u ∷ v ∷ ts) p e = absurd cc

pub pair_of_sound : (t : Term) (p : Name × Term) → pair_of t ≡ Some p → t ≡ tagged p.0 p.1
pair_of_sound t p e =
    let x = bound (elements_of t) pair_in p e in
    elements_sound t x.0 x.1 ∙ ap (λ us. T.tuple (terms us)) (pair_sound x.0 p x.2)

pub behind_sound : (a : Name) (t u : Term) → behind a t ≡ Some u → t ≡ tagged a u
behind_sound a t u e =
    let x = bound (pair_of t) (λ p. if same_name a p.0 then Some p.1 else None) u e in
    let k = chosen (same_name a (x.0).0) (x.0).1 u x.2 in
    pair_of_sound t x.0 x.1 ∙ ap₂ tagged (sym (same_names a (x.0).0 k.0)) k.1

pub label_sound : (t : Term) (n : ℕ) → label_of t ≡ Some n → t ≡ label_term n
label_sound t n e =
    let x = bound (behind (codes "f") t) number_of n e in
    behind_sound (codes "f") t x.0 x.1 ∙ ap (tagged (codes "f")) (number_sound x.0 n x.2)
