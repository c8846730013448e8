-- Operands by their kinds: what is read is what the term spells, within its bounds.
use Rattle.std.proofs.Common.{◌≡◌, ℕ, refl, sym, ap, ap₂, ◌∙◌, subst, List, [], ◌∷◌, Option, Some, None, Bool, true, false, eqb, if◌then◌else◌, IsTrue, codes}
use borrow.Author.Tests.{eqb-true}
use Rattle.erl_base.specs.Names.{Name, same_name}
use Rattle.erl_term.specs.Term as T
use Rattle.erl_term.specs.Term.{Term}
use Rattle.erl_term.specs.Terms.{terms, tagged}
use Rattle.term_read.specs.Lexemes.{◌>>=◌}
use Rattle.term_read.proofs.Shorter.{bound, some_same, chosen}
use Rattle.beam_table.specs.Code.{Reg, x_reg, y_reg, Extern}
use Rattle.beam_table.specs.Operands as P
use Rattle.beam_table.specs.Operands.{Operand, Operands, end, ◌then◌, each, sources, kind_word, segment}
use Rattle.beam_table.specs.InstructionText.{number_term, label_term}
use Rattle.beam_table.specs.OperandBounds.{label_ok, operand_ok, operands_ok}
use Rattle.insn_terms.specs.Spelling.{SpellsOperand, AreSpelled}
use Rattle.insn_terms.specs.Reading.{checked, number_of, atom_of, elements_of, at_end, next, pair_of, behind, register_of, source_of, label_of, label_value, label_or_zero_value, zero_or_label, label_or_no_fail_value, no_fail_or_label, no_label_value, zero_of, zero_value, x_number, y_number, x_value, y_value, live_value, arity_value, site_value, unit_value, amount_value, atom_value, extern_in, extern_value, field_flags_value, flag_list_of}
use Rattle.insn_terms.proofs.Apart.{same_names, number_sound, atom_sound, elements_sound, pair_of_sound, behind_sound, label_sound}
use Rattle.insn_terms.proofs.OperandsRead.{Sane, next_sound, register_sound, register_complete}
use Rattle.insn_terms.proofs.SourcesRead.{source_sound, source_complete, field_flags_sound, field_flags_complete, flag_list_sound, flag_list_complete}

-- a term spells an operand within its bounds
pub record Fits (t : Term) (o : Operand) : Type 0 where
  pub spelled : SpellsOperand t o
  pub bounded : IsTrue (operand_ok o)

pub record RowFits (ts : List Term) (os : Operands) : Type 0 where
  pub spelled : AreSpelled ts os
  pub bounded : IsTrue (operands_ok os)

-- a reading is right for the operands that its values are
pub record IsRight {A : Type 0} (f : Term → Option A) (o : A → Operand) : Type 0 where
  pub sound : (t : Term) (a : A) → Sane t → f t ≡ Some a → Fits t (o a)
  pub complete : (t : Term) (a : A) → Fits t (o a) → f t ≡ Some a

-- Numbers.

-- a number that passes its operand's test
counted : (o : ℕ → Operand) → ((n : ℕ) → (t : Term) → SpellsOperand t (o n) ≡ (t ≡ number_term n))
    → IsRight (λ t. number_of t >>= checked (λ n. operand_ok (o n))) o
counted o w = record {
  sound = λ t n s e.
      let x = bound (number_of t) (checked (λ n. operand_ok (o n))) n e in
      let k = chosen (operand_ok (o x.0)) x.0 n x.2 in
      subst (λ m. Fits t (o m)) k.1 (record {
        spelled = subst (λ (X : Type 0). X) (sym (w x.0 t)) (number_sound t x.0 x.1);
        bounded = k.0;
      });
  complete = λ t n h.
      ap (λ u. number_of u >>= checked (λ n. operand_ok (o n))) (subst (λ (X : Type 0). X) (w n t) h.spelled)
      ∙ ap (λ b. if b then Some n else None) h.bounded;
}

pub right_live : IsRight live_value P.live
right_live = counted P.live (λ n t. refl)

pub right_arity : IsRight arity_value P.arity
right_arity = counted P.arity (λ n t. refl)

pub right_site : IsRight site_value P.site
right_site = counted P.site (λ n t. refl)

pub right_unit : IsRight unit_value P.unit
right_unit = counted P.unit (λ n t. refl)

pub right_amount : IsRight amount_value P.amount
right_amount = counted P.amount (λ n t. refl)

-- Registers and sources.

pub right_source : IsRight source_of P.source
unfolding operand_ok
right_source = record {
  sound = λ t s n e. let r = source_sound t s n e in record { spelled = r.spelled; bounded = r.bounded };
  complete = λ t s h. source_complete t s h.spelled h.bounded;
}

pub right_register : IsRight register_of P.register
unfolding operand_ok
right_register = record {
  sound = λ t r n e. let s = register_sound t r e in record { spelled = s.spelled; bounded = s.bounded };
  complete = λ t r h. register_complete t r h.spelled h.bounded;
}

x_is : (r : Reg) (n : ℕ) → x_number r ≡ Some n → r ≡ x_reg n
x_is (x_reg m) n e = ap x_reg (some_same m n e)
x_is (y_reg m) n e = absurd cc

y_is : (r : Reg) (n : ℕ) → y_number r ≡ Some n → r ≡ y_reg n
y_is (x_reg m) n e = absurd cc
y_is (y_reg m) n e = ap y_reg (some_same m n e)

pub right_x : IsRight x_value P.x_slot
unfolding operand_ok
right_x = record {
  sound = λ t n s e.
      let x = bound (register_of t) x_number n e in
      let r = register_sound t (x_reg n) (x.1 ∙ ap (λ r. Some r) (x_is x.0 n x.2)) in
      record { spelled = r.spelled; bounded = r.bounded };
  complete = λ t n h. ap (λ r. r >>= x_number) (register_complete t (x_reg n) h.spelled h.bounded);
}

pub right_y : IsRight y_value P.y_slot
unfolding operand_ok
right_y = record {
  sound = λ t n s e.
      let x = bound (register_of t) y_number n e in
      let r = register_sound t (y_reg n) (x.1 ∙ ap (λ r. Some r) (y_is x.0 n x.2)) in
      record { spelled = r.spelled; bounded = r.bounded };
  complete = λ t n h. ap (λ r. r >>= y_number) (register_complete t (y_reg n) h.spelled h.bounded);
}

-- Labels.

label_part : (t : Term) (l : ℕ) → label_value t ≡ Some l → (t ≡ label_term l) × IsTrue (label_ok l)
label_part t l e =
    let x = bound (label_of t) (checked label_ok) l e in
    let k = chosen (label_ok x.0) x.0 l x.2 in
    (label_sound t x.0 x.1 ∙ ap label_term k.1, subst (λ m. IsTrue (label_ok m)) k.1 k.0)

label_there : (t : Term) (l : ℕ) → t ≡ label_term l → IsTrue (label_ok l) → label_value t ≡ Some l
label_there t l e h = ap label_value e ∙ ap (λ b. if b then Some l else None) h

pub right_own : IsRight label_value P.own_label
unfolding operand_ok
right_own = record {
  sound = λ t l s e. let p = label_part t l e in record { spelled = p.0; bounded = p.1 };
  complete = λ t l h. label_there t l h.spelled h.bounded;
}

pub right_entry : IsRight label_value P.entry_label
unfolding operand_ok
right_entry = record {
  sound = λ t l s e. let p = label_part t l e in record { spelled = p.0; bounded = p.1 };
  complete = λ t l h. label_there t l h.spelled h.bounded;
}

not_zero : (n : ℕ) → IsTrue (label_ok n) → eqb n 0 ≡ false
not_zero n h = by (eqb n 0) refl
  where
    by : (b : Bool) → eqb n 0 ≡ b → eqb n 0 ≡ false
    by true e = let z : label_ok 0 ≡ true = subst (λ m. IsTrue (label_ok m)) (eqb-true n 0 e) h in absurd cc
    by false e = e

zero_sound : (n : ℕ) (u : Unit {0}) → zero_of n ≡ Some u → n ≡ 0
zero_sound n u e = eqb-true n 0 (chosen (eqb n 0) tt u e).0

pub right_label_or_zero : IsRight label_or_zero_value P.label_or_zero
unfolding operand_ok
right_label_or_zero = record {
  sound = λ t o s e.
      let x = bound (label_of t) zero_or_label o e in
      by t o x.0 (label_sound t x.0 x.1) (eqb x.0 0) refl x.2;
  complete = λ t o h. there t o h;
}
  where
    by : (t : Term) (o : Option ℕ) (l : ℕ) → t ≡ label_term l → (b : Bool) → eqb l 0 ≡ b
        → (if b then Some None else (checked label_ok l >>= λ l. Some (Some l))) ≡ Some o → Fits t (P.label_or_zero o)
    by t o l w true h g =
        subst (λ p. Fits t (P.label_or_zero p)) (some_same None o g)
        (record { spelled = w ∙ ap label_term (eqb-true l 0 h); bounded = refl })
    by t o l w false h g =
        let x = bound (checked label_ok l) (λ l. Some (Some l)) o g in
        let k = chosen (label_ok l) l x.0 x.1 in
        subst (λ p. Fits t (P.label_or_zero p)) (ap (λ m. Some m) k.1 ∙ some_same (Some x.0) o x.2)
        (record { spelled = w; bounded = k.0 })

    there : (t : Term) (o : Option ℕ) → Fits t (P.label_or_zero o) → label_or_zero_value t ≡ Some o
    there t None h = ap label_or_zero_value h.spelled
    there t (Some l) h =
        ap label_or_zero_value h.spelled
        ∙ ap (λ b. if b then Some None else (checked label_ok l >>= λ l. Some (Some l))) (not_zero l h.bounded)
        ∙ ap (λ b. (if b then Some l else None) >>= λ l. Some (Some l)) h.bounded

pub right_label_or_no_fail : IsRight label_or_no_fail_value P.label_or_no_fail
unfolding operand_ok
right_label_or_no_fail = record {
  sound = λ t o s e.
      let p = bound (pair_of t) (λ p. no_fail_or_label p.0 p.1) o e in
      by t o (p.0).0 (p.0).1 (pair_of_sound t p.0 p.1) (same_name (codes "f") (p.0).0)
      (same_name (codes "atom") (p.0).0)
      refl refl p.2;
  complete = λ t o h. there t o h;
}
  where
    no_fail : (t : Term) (o : Option ℕ) (a : Name) (u : Term) → t ≡ tagged a u → same_name (codes "atom") a ≡ true
        → (atom_of u >>= λ b. if same_name (codes "no_fail") b then Some None else None) ≡ Some o
        → Fits t (P.label_or_no_fail o)
    no_fail t o a u w h g =
        let x = bound (atom_of u) (λ b. if same_name (codes "no_fail") b then Some None else None) o g in
        let k = chosen (same_name (codes "no_fail") x.0) None o x.2 in
        subst (λ p. Fits t (P.label_or_no_fail p)) k.1 (record {
          spelled = w ∙ ap₂ tagged (sym (same_names (codes "atom") a h))
              (atom_sound u x.0 x.1 ∙ ap T.atom (sym (same_names (codes "no_fail") x.0 k.0)));
          bounded = refl;
        })

    by : (t : Term) (o : Option ℕ) (a : Name) (u : Term) → t ≡ tagged a u → (b c : Bool)
        → same_name (codes "f") a ≡ b → same_name (codes "atom") a ≡ c
        → (if b then (number_of u >>= checked label_ok >>= λ l. Some (Some l))
        else if c then (atom_of u >>= λ b. if same_name (codes "no_fail") b then Some None else None) else None)
        ≡ Some o
        → Fits t (P.label_or_no_fail o)
    by t o a u w true c h i g =
        let x = bound (number_of u >>= checked label_ok) (λ l. Some (Some l)) o g in
        let n = bound (number_of u) (checked label_ok) x.0 x.1 in
        let k = chosen (label_ok n.0) n.0 x.0 n.2 in
        subst (λ p. Fits t (P.label_or_no_fail p)) (ap (λ m. Some m) k.1 ∙ some_same (Some x.0) o x.2) (record {
          spelled = w ∙ ap₂ tagged (sym (same_names (codes "f") a h)) (number_sound u n.0 n.1);
          bounded = k.0;
        })
    by t o a u w false true h i g = no_fail t o a u w i g
    by t o a u w false false h i g = absurd cc

    there : (t : Term) (o : Option ℕ) → Fits t (P.label_or_no_fail o) → label_or_no_fail_value t ≡ Some o
    there t None h = ap label_or_no_fail_value h.spelled
    there t (Some l) h =
        ap label_or_no_fail_value h.spelled ∙ ap (λ b. (if b then Some l else None) >>= λ l. Some (Some l)) h.bounded

pub right_no_label : IsRight no_label_value (λ u. P.no_label)
unfolding operand_ok
right_no_label = record {
  sound = λ t u s e.
      let x = bound (label_of t) zero_of u e in
      record { spelled = label_sound t x.0 x.1 ∙ ap label_term (zero_sound x.0 u x.2); bounded = refl };
  complete = λ t u h. ap no_label_value h.spelled;
}

pub right_zero : IsRight zero_value (λ u. P.always 0)
unfolding operand_ok
right_zero = record {
  sound = λ t u s e.
      let x = bound (number_of t) zero_of u e in
      record { spelled = number_sound t x.0 x.1 ∙ ap number_term (zero_sound x.0 u x.2); bounded = refl };
  complete = λ t u h. ap zero_value h.spelled;
}

-- Names and functions.

pub right_word : IsRight atom_of P.word
unfolding operand_ok
right_word = record {
  sound = λ t a s e. record { spelled = atom_sound t a e; bounded = refl };
  complete = λ t a h. ap atom_of h.spelled;
}

pub right_atom : IsRight atom_value P.atom_operand
unfolding operand_ok
right_atom = record {
  sound = λ t a s e.
      let x = bound (behind (codes "atom") t) atom_of a e in
      record {
        spelled = behind_sound (codes "atom") t x.0 x.1 ∙ ap (tagged (codes "atom")) (atom_sound x.0 a x.2);
        bounded = refl;
      };
  complete = λ t a h. ap atom_value h.spelled;
}

pub ended : (ts : List Term) (u : Unit {0}) → at_end ts ≡ Some u → ts ≡ []
ended [] u e = refl
ended (t ∷ ts) u e = absurd cc

abbrev extern_from : Name → Name → ℕ → Extern
extern_from m f n = record { mod_name = m; name = f; arity = n }

abbrev pub with_rest : ℕ → Option (ℕ × List Term)
with_rest a = Some (a, [])

abbrev extern_end : Name → Name → ℕ × List Term → Option Extern
extern_end m f n = at_end n.1 >>= λ e. Some (extern_from m f n.0)

extern_terms : (ts : List Term) (x : Extern) → extern_in ts ≡ Some x
    → (ts ≡ T.atom (codes "extfunc") ∷ T.atom x.mod_name ∷ T.atom x.name ∷ number_term x.arity ∷ [])
    × IsTrue (operand_ok (P.extfunc x))
unfolding operand_ok
extern_terms ts x e =
    let w = bound (next atom_of ts) (λ w. next atom_of w.1 >>= λ m. next atom_of m.1 >>= λ f. next arity_value f.1
    >>= λ n. at_end n.1 >>= λ e. if same_name (codes "extfunc") w.0 then
    Some (extern_from m.0 f.0 n.0) else None) x e in
    let m = bound (next atom_of (w.0).1) (λ m. next atom_of m.1 >>= λ f. next arity_value f.1
    >>= λ n. at_end n.1 >>= λ e. if same_name (codes "extfunc") (w.0).0 then
    Some (extern_from m.0 f.0 n.0) else None) x w.2 in
    let f = bound (next atom_of (m.0).1) (λ f. next arity_value f.1
    >>= λ n. at_end n.1 >>= λ e. if same_name (codes "extfunc") (w.0).0 then
    Some (extern_from (m.0).0 f.0 n.0) else None) x m.2 in
    let n = bound (next arity_value (f.0).1) (λ n. at_end n.1 >>= λ e. if same_name (codes "extfunc") (w.0).0 then
    Some (extern_from (m.0).0 (f.0).0 n.0) else None) x f.2 in
    let z = bound (at_end (n.0).1) (λ (e : Unit {0}). if same_name (codes "extfunc") (w.0).0 then
    Some (extern_from (m.0).0 (f.0).0 (n.0).0) else None) x n.2 in
    let k = chosen (same_name (codes "extfunc") (w.0).0) (extern_from (m.0).0 (f.0).0 (n.0).0) x z.2 in
    let ws = next_sound atom_of ts w.0 w.1 in
    let ms = next_sound atom_of (w.0).1 m.0 m.1 in
    let fs = next_sound atom_of (m.0).1 f.0 f.1 in
    let ns = next_sound arity_value (f.0).1 n.0 n.1 in
    let c = bound (number_of ns.0) (checked (λ n. operand_ok (P.arity n))) (n.0).0 ns.2 in
    let d = chosen (operand_ok (P.arity c.0)) c.0 (n.0).0 c.2 in
    let row : ts ≡ T.atom (codes "extfunc") ∷ T.atom (m.0).0 ∷ T.atom (f.0).0 ∷ number_term (n.0).0 ∷ [] =
    ws.1 ∙ ap₂ (λ v vs. v ∷ vs)
    (atom_sound ws.0 (w.0).0 ws.2 ∙ ap T.atom (sym (same_names (codes "extfunc") (w.0).0 k.0)))
    (ms.1 ∙ ap₂ (λ v vs. v ∷ vs) (atom_sound ms.0 (m.0).0 ms.2)
    (fs.1 ∙ ap₂ (λ v vs. v ∷ vs) (atom_sound fs.0 (f.0).0 fs.2)
    (ns.1 ∙ ap₂ (λ v vs. v ∷ vs) (number_sound ns.0 c.0 c.1 ∙ ap number_term d.1)
    (ended (n.0).1 z.0 z.1)))) in
    subst (λ (y : Extern).
    (ts ≡ T.atom (codes "extfunc") ∷ T.atom y.mod_name ∷ T.atom y.name ∷ number_term y.arity ∷ [])
    × IsTrue (operand_ok (P.extfunc y))) k.1 (row, subst (λ m. IsTrue (operand_ok (P.arity m))) d.1 d.0)

pub right_extern : IsRight extern_value P.extfunc
unfolding operand_ok
right_extern = record {
  sound = λ t x s e.
      let y = bound (elements_of t) extern_in x e in
      let r = extern_terms y.0 x y.2 in
      record { spelled = elements_sound t y.0 y.1 ∙ ap (λ ts. T.tuple (terms ts)) r.0; bounded = r.1 };
  complete = λ t x h.
      ap extern_value h.spelled
      ∙ ap (λ b. (if b then Some x.arity else None) >>= with_rest >>= extern_end x.mod_name x.name) h.bounded;
}

-- Flags.

pub right_field_flags : IsRight field_flags_value P.field_flags
unfolding operand_ok
right_field_flags = record {
  sound = λ t f s e. record { spelled = field_flags_sound t f e; bounded = refl };
  complete = λ t f h. field_flags_complete t f h.spelled;
}

pub right_flag_list : IsRight flag_list_of P.flag_list
unfolding operand_ok
right_flag_list = record {
  sound = λ t f s e. record { spelled = flag_list_sound t f e; bounded = refl };
  complete = λ t f h. flag_list_complete t f h.spelled;
}
