-- What is read of a term as an operand is what the term spells, and the other way round.
use Rattle.std.proofs.Common.{◌≡◌, ℕ, refl, sym, ap, ap₂, ◌∙◌, subst, List, [], ◌∷◌, Option, Some, None, Bool, true, false, if◌then◌else◌, IsTrue, codes}
use Rattle.erl_base.specs.Names.{Name, same_name}
use Rattle.erl_term.specs.Term as T
use Rattle.erl_term.specs.Term.{Term, Terms, none, more}
use Rattle.erl_term.specs.Terms.{terms, tagged, list_of}
use Rattle.erl_term.specs.Ranges.{fits}
use Rattle.erl_term.specs.WellFormed.{maps_rise}
use Rattle.erl_term.proofs.Forms.{left_true, right_true}
use Rattle.term_read.specs.Lexemes.{◌>>=◌}
use Rattle.term_read.proofs.Shorter.{bound, some_same, chosen}
use Rattle.beam_table.specs.Code.{Reg, x_reg, y_reg}
use Rattle.beam_table.specs.InstructionText.{number_term, register_term}
use Rattle.beam_table.specs.OperandBounds.{register_ok}
use Rattle.insn_terms.specs.Spelling.{SpellsRegister, bare, typed}
use Rattle.insn_terms.specs.Reading.{checked, number_of, atom_of, elements_of, first, next, pair_of, register_named, register_behind, register_by, register_in, register_of}
use Rattle.insn_terms.proofs.Apart.{same_names, number_sound, atom_sound, elements_sound, pair_of_sound}

-- Terms of a text: numbers are in range and maps rise.

pub record Sane (t : Term) : Type 0 where
  pub fits : IsTrue (fits t)
  pub rises : IsTrue (maps_rise t)

abbrev pub AllSane : List Term → Type 0
AllSane [] = Unit {0}
AllSane (t ∷ ts) = Sane t × AllSane ts

pub sane_part : (a : Name) (u : Term) → Sane (tagged a u) → Sane u
unfolding maps_rise
sane_part a u s = record { fits = left_true (fits u) true s.fits; rises = left_true (maps_rise u) true s.rises }

pub sane_elements : (ts : List Term) → Sane (T.tuple (terms ts)) → AllSane ts
unfolding maps_rise
sane_elements [] s = tt
sane_elements (t ∷ ts) s = (
  record { fits = left_true (fits t) _ s.fits; rises = left_true (maps_rise t) _ s.rises },
  sane_elements ts (record { fits = right_true (fits t) _ s.fits; rises = right_true (maps_rise t) _ s.rises }),
)

pub sane_items : (ts : List Term) → Sane (list_of ts T.nil) → AllSane ts
unfolding maps_rise
sane_items [] s = tt
sane_items (t ∷ ts) s = (
  record { fits = left_true (fits t) _ s.fits; rises = left_true (maps_rise t) _ s.rises },
  sane_items ts (record { fits = right_true (fits t) _ s.fits; rises = right_true (maps_rise t) _ s.rises }),
)

-- Registers.

-- what is read with its bound
pub record Reads {A : Type 0} (Is : A → Type 0) (ok : A → Bool) (a : A) : Type 0 where
  pub spelled : Is a
  pub bounded : IsTrue (ok a)

-- behind its letter
pub letter_sound : (a : Name) (u : Term) (r : Reg) → register_named a u ≡ Some r
    → Reads (λ r. tagged a u ≡ register_term r) register_ok r
letter_sound a u r e = by (same_name (codes "x") a) (same_name (codes "y") a) refl refl e
  where
    made : (f : ℕ → Reg) (letter : Name) → same_name letter a ≡ true
        → ((n : ℕ) → register_term (f n) ≡ tagged letter (number_term n))
        → (number_of u >>= λ n. checked register_ok (f n)) ≡ Some r
        → Reads (λ r. tagged a u ≡ register_term r) register_ok r
    made f letter h w g =
        let x = bound (number_of u) (λ n. checked register_ok (f n)) r g in
        let k = chosen (register_ok (f x.0)) (f x.0) r x.2 in
        subst (λ s. Reads (λ r. tagged a u ≡ register_term r) register_ok s) k.1 (record {
          spelled = ap₂ tagged (sym (same_names letter a h)) (number_sound u x.0 x.1) ∙ sym (w x.0);
          bounded = k.0;
        })

    by : (b c : Bool) → same_name (codes "x") a ≡ b → same_name (codes "y") a ≡ c
        → (if b then (number_of u >>= λ n. checked register_ok (x_reg n))
        else if c then (number_of u >>= λ n. checked register_ok (y_reg n)) else None) ≡ Some r
        → Reads (λ r. tagged a u ≡ register_term r) register_ok r
    by true c h k g = made x_reg (codes "x") h (λ n. refl) g
    by false true h k g = made y_reg (codes "y") k (λ n. refl) g
    by false false h k g = absurd cc

-- behind `tr`
pub behind_tr : (a : Name) (u : Term) (r : Reg) → register_behind a u ≡ Some r
    → (a ≡ codes "tr") × Reads (λ r. u ≡ register_term r) register_ok r
behind_tr a u r e = by (same_name (codes "tr") a) refl e
  where
    by : (b : Bool) → same_name (codes "tr") a ≡ b
        → (if b then (pair_of u >>= λ p. register_named p.0 p.1) else None) ≡ Some r
        → (a ≡ codes "tr") × Reads (λ r. u ≡ register_term r) register_ok r
    by true h g =
        let x = bound (pair_of u) (λ p. register_named p.0 p.1) r g in
        let s = letter_sound (x.0).0 (x.0).1 r x.2 in (
          sym (same_names (codes "tr") a h),
          record { spelled = pair_of_sound u x.0 x.1 ∙ s.spelled; bounded = s.bounded },
        )
    by false h g = absurd cc

parts_sound : (a : Name) (u : Term) (ts : List Term) (r : Reg) → register_by a u ts ≡ Some r
    → Reads (SpellsRegister (T.tuple (terms (T.atom a ∷ u ∷ ts)))) register_ok r
parts_sound a u [] r e =
    let s = letter_sound a u r e in
    record { spelled = subst (λ t. SpellsRegister t r) (sym s.spelled) (bare r); bounded = s.bounded }
parts_sound a u (v ∷ []) r e =
    let s = behind_tr a u r e in
    record {
      spelled = subst (λ t. SpellsRegister t r)
          (sym (ap₂ (λ b w. T.tuple (terms (T.atom b ∷ w ∷ v ∷ []))) s.0 s.1.spelled)) (typed r v);
      bounded = s.1.bounded;
    }
parts_sound a u (v ∷ w ∷ ts) r e = absurd cc

-- an atom, a term and what is left, from a row
pub record Headed (ts : List Term) : Type 0 where
  pub tag : Name
  pub part : Term
  pub rest : List Term
  pub whole : ts ≡ T.atom tag ∷ part ∷ rest

pub next_sound : {A : Type 0} (f : Term → Option A) (ts : List Term) (x : A × List Term) → next f ts ≡ Some x
    → (t : Term) × (ts ≡ t ∷ x.1) × (f t ≡ Some x.0)
next_sound f [] x e = absurd cc
next_sound f (t ∷ ts) x e =
    let y = bound (f t) (λ a. Some (a, ts)) x e in
    let s = some_same (y.0, ts) x y.2 in
    (t, ap (λ z. t ∷ z.1) s, y.1 ∙ ap (λ z. Some z.0) s)

pub first_sound : (ts : List Term) (x : Term × List Term) → first ts ≡ Some x → ts ≡ x.0 ∷ x.1
first_sound [] x e = absurd cc
first_sound (t ∷ ts) x e = ap (λ (z : Term × List Term). z.0 ∷ z.1) (some_same (t, ts) x e)

pub headed : {B : Type 0} (ts : List Term) (g : Name → Term → List Term → Option B) (y : B)
    → (next atom_of ts >>= λ a. first a.1 >>= λ u. g a.0 u.0 u.1) ≡ Some y
    → (h : Headed ts) × (g h.tag h.part h.rest ≡ Some y)
headed ts g y e =
    let a = bound (next atom_of ts) (λ a. first a.1 >>= λ u. g a.0 u.0 u.1) y e in
    let u = bound (first (a.0).1) (λ u. g (a.0).0 u.0 u.1) y a.2 in
    let n = next_sound atom_of ts a.0 a.1 in (
      record {
        tag = (a.0).0;
        part = (u.0).0;
        rest = (u.0).1;
        whole = n.1 ∙ ap₂ (λ t us. t ∷ us) (atom_sound n.0 (a.0).0 n.2) (first_sound (a.0).1 u.0 u.1);
      },
      u.2,
    )

pub register_sound : (t : Term) (r : Reg) → register_of t ≡ Some r → Reads (SpellsRegister t) register_ok r
register_sound t r e =
    let x = bound (elements_of t) register_in r e in
    let h = headed x.0 register_by r x.2 in
    let s = parts_sound h.0.tag h.0.part h.0.rest r h.1 in
    record {
      spelled = subst (λ u. SpellsRegister u r)
          (sym (elements_sound t x.0 x.1 ∙ ap (λ us. T.tuple (terms us)) h.0.whole)) s.spelled;
      bounded = s.bounded;
    }

pub register_complete : (t : Term) (r : Reg) → SpellsRegister t r → IsTrue (register_ok r) → register_of t ≡ Some r
register_complete _ _ (bare (x_reg n)) h = ap (λ b. if b then Some (x_reg n) else None) h
register_complete _ _ (bare (y_reg n)) h = ap (λ b. if b then Some (y_reg n) else None) h
register_complete _ _ (typed (x_reg n) u) h = ap (λ b. if b then Some (x_reg n) else None) h
register_complete _ _ (typed (y_reg n) u) h = ap (λ b. if b then Some (y_reg n) else None) h
