-- Rows of operands: what is read is what the terms spell, within its bounds.
use Rattle.std.proofs.Common.{◌≡◌, ℕ, refl, sym, ap, ◌∙◌, subst, List, [], ◌∷◌, Option, Some, None, Bool, true, false, if◌then◌else◌, codes}
use Rattle.erl_base.specs.Names.{Name, same_name}
use Rattle.erl_term.specs.Term.{Term}
use Rattle.erl_term.proofs.Forms.{left_true, right_true, both_true}
use Rattle.term_read.specs.Lexemes.{◌>>=◌}
use Rattle.term_read.proofs.Shorter.{bound, some_same}
use Rattle.beam_table.specs.Code.{Source, Flags}
use Rattle.beam_table.specs.Operands as P
use Rattle.beam_table.specs.Operands.{Operand, Operands, end, ◌then◌, each, sources, kind_word, segment, field}
use Rattle.beam_table.specs.OperandBounds.{operand_ok, operands_ok}
use Rattle.insn_terms.specs.Reading.{at_end, next, register_of, source_of, unit_value, amount_value, atom_value, field_flags_value, flag_list_of, singles, in_pairs, both, is_binary_word, kind_value, and_then, alone, two_in, sized_in, tagged_in, field_in, counted_in}
use Rattle.insn_terms.proofs.Apart.{same_names}
use Rattle.insn_terms.proofs.OperandsRead.{AllSane}
use Rattle.insn_terms.proofs.RowsRead.{Fits, RowFits, IsRight, right_unit, right_amount, right_source, right_register, right_atom, right_field_flags, right_flag_list, ended}

-- a reading of a row is right for the operands that its values are
pub record IsRowRight {A : Type 0} (g : List Term → Option A) (os : A → Operands) : Type 0 where
  pub sound : (ts : List Term) (a : A) → AllSane ts → g ts ≡ Some a → RowFits ts (os a)
  pub complete : (ts : List Term) (a : A) → RowFits ts (os a) → g ts ≡ Some a

pub none_fits : RowFits [] end
unfolding operand_ok
none_fits = record { spelled = tt; bounded = refl }

pub joined : (t : Term) (ts : List Term) (o : Operand) (os : Operands) → Fits t o → RowFits ts os
    → RowFits (t ∷ ts) (o then os)
unfolding operand_ok
joined t ts o os h k =
    record { spelled = (h.spelled, k.spelled); bounded = both_true (operand_ok o) (operands_ok os) h.bounded k.bounded }

pub head_fits : (t : Term) (ts : List Term) (o : Operand) (os : Operands) → RowFits (t ∷ ts) (o then os) → Fits t o
unfolding operand_ok
head_fits t ts o os h =
    record { spelled = h.spelled.0; bounded = left_true (operand_ok o) (operands_ok os) h.bounded }

pub tail_fits : (t : Term) (ts : List Term) (o : Operand) (os : Operands) → RowFits (t ∷ ts) (o then os) → RowFits ts os
unfolding operand_ok
tail_fits t ts o os h =
    record { spelled = h.spelled.1; bounded = right_true (operand_ok o) (operands_ok os) h.bounded }

-- Rows of any length.

pub right_singles : {A : Type 0} (f : Term → Option A) (o : A → Operand) → IsRight f o
    → IsRowRight (singles f) (λ as'. each (λ a r. o a then r) as')
right_singles {A} f o r = record { sound = sound; complete = complete }
  where
    sound : (ts : List Term) (as' : List A) → AllSane ts → singles f ts ≡ Some as'
        → RowFits ts (each (λ a r. o a then r) as')
    sound [] as' s e =
        subst (λ (bs : List A). RowFits [] (each (λ a r. o a then r) bs)) (some_same [] as' e) none_fits
    sound (t ∷ ts) as' s e =
        let x = bound (f t) (λ a. singles f ts >>= λ bs. Some (a ∷ bs)) as' e in
        let y = bound (singles f ts) (λ bs. Some (x.0 ∷ bs)) as' x.2 in
        subst (λ (bs : List A). RowFits (t ∷ ts) (each (λ a r. o a then r) bs)) (some_same (x.0 ∷ y.0) as' y.2)
        (joined t ts (o x.0) _ (r.sound t x.0 s.0 x.1) (sound ts y.0 s.1 y.1))

    complete : (ts : List Term) (as' : List A) → RowFits ts (each (λ a r. o a then r) as') → singles f ts ≡ Some as'
    complete [] [] h = refl
    complete [] (a ∷ as') h = absurd h.spelled
    complete (t ∷ ts) [] h = absurd h.spelled
    complete (t ∷ ts) (a ∷ as') h =
        ap (λ u. u >>= λ a. singles f ts >>= λ bs. Some (a ∷ bs)) (r.complete t a (head_fits t ts (o a) _ h))
        ∙ ap (λ u. u >>= λ bs. Some (a ∷ bs)) (complete ts as' (tail_fits t ts (o a) _ h))

abbrev couples : {A B : Type 0} → (A → Operand) → (B → Operand) → List (A × B) → Operands
couples o q ps = each (λ p r. o p.0 then q p.1 then r) ps

pub right_pairs : {A B : Type 0} (f : Term → Option A) (g : Term → Option B) (o : A → Operand) (q : B → Operand)
    → IsRight f o → IsRight g q → IsRowRight (in_pairs (both f g)) (couples o q)
right_pairs {A} {B} f g o q r s = record { sound = sound; complete = complete }
  where
    sound : (ts : List Term) (ps : List (A × B)) → AllSane ts → in_pairs (both f g) ts ≡ Some ps
        → RowFits ts (couples o q ps)
    sound [] ps w e = subst (λ (bs : List (A × B)). RowFits [] (couples o q bs)) (some_same [] ps e) none_fits
    sound (t ∷ []) ps w e = absurd cc
    sound (t ∷ u ∷ ts) ps w e =
        let x = bound (both f g t u) (λ a. in_pairs (both f g) ts >>= λ bs. Some (a ∷ bs)) ps e in
        let y = bound (in_pairs (both f g) ts) (λ bs. Some (x.0 ∷ bs)) ps x.2 in
        let a = bound (f t) (λ a. g u >>= λ b. Some (a, b)) x.0 x.1 in
        let b = bound (g u) (λ b. Some (a.0, b)) x.0 a.2 in
        let c : (a.0, b.0) ≡ x.0 = some_same (a.0, b.0) x.0 b.2 in
        let d : (a.0, b.0) ∷ y.0 ≡ ps = ap (λ p. p ∷ y.0) c ∙ some_same (x.0 ∷ y.0) ps y.2 in
        subst (λ (bs : List (A × B)). RowFits (t ∷ u ∷ ts) (couples o q bs)) d
        (joined t (u ∷ ts) (o a.0) _ (r.sound t a.0 w.0 a.1)
        (joined u ts (q b.0) _ (s.sound u b.0 w.1.0 b.1) (sound ts y.0 w.1.1 y.1)))

    complete : (ts : List Term) (ps : List (A × B)) → RowFits ts (couples o q ps) → in_pairs (both f g) ts ≡ Some ps
    complete [] [] h = refl
    complete [] (p ∷ ps) h = absurd h.spelled
    complete (t ∷ ts) [] h = absurd h.spelled
    complete (t ∷ []) (p ∷ ps) h = absurd h.spelled.1
    complete (t ∷ u ∷ ts) (p ∷ ps) h =
        let k = tail_fits t (u ∷ ts) (o p.0) _ h in
        ap (λ x. (x >>= λ a. g u >>= λ b. Some (a, b)) >>= λ a. in_pairs (both f g) ts >>= λ bs. Some (a ∷ bs))
        (r.complete t p.0 (head_fits t (u ∷ ts) (o p.0) _ h))
        ∙ ap (λ x. (x >>= λ b. Some (p.0, b)) >>= λ a. in_pairs (both f g) ts >>= λ bs. Some (a ∷ bs))
        (s.complete u p.1 (head_fits u ts (q p.1) _ k))
        ∙ ap (λ x. x >>= λ bs. Some (p ∷ bs)) (complete ts ps (tail_fits u ts (q p.1) _ k))

-- Rows of operands, one behind the other.

-- what was taken from a row
record Taken {A B : Type 0} (o : A → Operand) (k : A × List Term → Option B) (ts : List Term) (y : B) : Type 0 where
  term : Term
  rest : List Term
  value : A
  whole : ts ≡ term ∷ rest
  fits : Fits term (o value)
  sane : AllSane rest
  goes_on : k (value, rest) ≡ Some y

taken : {A B : Type 0} (f : Term → Option A) (o : A → Operand) → IsRight f o → (k : A × List Term → Option B)
    → (ts : List Term) (y : B) → AllSane ts → (next f ts >>= k) ≡ Some y → Taken o k ts y
taken f o r k [] y s e = absurd cc
taken f o r k (t ∷ ts) y s e =
    let x = bound (next f (t ∷ ts)) k y e in
    let z = bound (f t) (λ a. Some (a, ts)) x.0 x.1 in
    let same = some_same (z.0, ts) x.0 z.2 in
    record {
      term = t;
      rest = ts;
      value = z.0;
      whole = refl;
      fits = r.sound t z.0 s.0 z.1;
      sane = s.1;
      goes_on = ap k same ∙ x.2;
    }

took : {A B : Type 0} (f : Term → Option A) (o : A → Operand) → IsRight f o → (k : A × List Term → Option B)
    → (t : Term) (ts : List Term) (a : A) → Fits t (o a) → (next f (t ∷ ts) >>= k) ≡ k (a, ts)
took f o r k t ts a h = ap (λ x. (x >>= λ a. Some (a, ts)) >>= k) (r.complete t a h)

pub right_end : IsRowRight at_end (λ (u : Unit {0}). end)
right_end = record { sound = sound; complete = complete }
  where
    sound : (ts : List Term) (u : Unit {0}) → AllSane ts → at_end ts ≡ Some u → RowFits ts end
    sound [] u s e = none_fits
    sound (t ∷ ts) u s e = absurd cc

    complete : (ts : List Term) (u : Unit {0}) → RowFits ts end → at_end ts ≡ Some u
    complete [] u h = refl
    complete (t ∷ ts) u h = absurd h.spelled

pub right_alone : {A : Type 0} (f : Term → Option A) (o : A → Operand) → IsRight f o
    → IsRowRight (alone f) (λ a. o a then end)
right_alone {A} f o r = record { sound = sound; complete = complete }
  where
    sound : (ts : List Term) (a : A) → AllSane ts → alone f ts ≡ Some a → RowFits ts (o a then end)
    sound ts a s e =
        let x = taken f o r (λ a. at_end a.1 >>= λ e. Some a.0) ts a s e in
        let y = bound (at_end x.rest) (λ e. Some x.value) a x.goes_on in
        subst (λ us. RowFits us (o a then end)) (sym (x.whole ∙ ap (λ us. x.term ∷ us) (ended x.rest y.0 y.1)))
        (subst (λ b. RowFits (x.term ∷ []) (o b then end)) (some_same x.value a y.2)
        (joined x.term [] (o x.value) end x.fits none_fits))

    complete : (ts : List Term) (a : A) → RowFits ts (o a then end) → alone f ts ≡ Some a
    complete [] a h = absurd h.spelled
    complete (t ∷ []) a h =
        took f o r (λ a. at_end a.1 >>= λ e. Some a.0) t [] a (head_fits t [] (o a) end h)
    complete (t ∷ u ∷ ts) a h = absurd h.spelled.1

pub right_and_then : {A B : Type 0} (f : Term → Option A) (o : A → Operand) (g : List Term → Option B)
    (os : B → Operands) → IsRight f o → IsRowRight g os → IsRowRight (and_then f g) (λ p. o p.0 then os p.1)
right_and_then {A} {B} f o g os r w = record { sound = sound; complete = complete }
  where
    sound : (ts : List Term) (p : A × B) → AllSane ts → and_then f g ts ≡ Some p → RowFits ts (o p.0 then os p.1)
    sound ts p s e =
        let x = taken f o r (λ a. g a.1 >>= λ b. Some (a.0, b)) ts p s e in
        let y = bound (g x.rest) (λ b. Some (x.value, b)) p x.goes_on in
        subst (λ us. RowFits us (o p.0 then os p.1)) (sym x.whole)
        (subst (λ (q : A × B). RowFits (x.term ∷ x.rest) (o q.0 then os q.1)) (some_same (x.value, y.0) p y.2)
        (joined x.term x.rest (o x.value) (os y.0) x.fits (w.sound x.rest y.0 x.sane y.1)))

    complete : (ts : List Term) (p : A × B) → RowFits ts (o p.0 then os p.1) → and_then f g ts ≡ Some p
    complete [] p h = absurd h.spelled
    complete (t ∷ ts) p h =
        took f o r (λ a. g a.1 >>= λ b. Some (a.0, b)) t ts p.0 (head_fits t ts (o p.0) (os p.1) h)
        ∙ ap (λ x. x >>= λ b. Some (p.0, b)) (w.complete ts p.1 (tail_fits t ts (o p.0) (os p.1) h))

pub right_two : IsRowRight two_in (λ v. P.source v.0 then P.source v.1 then end)
right_two = right_and_then source_of P.source (alone source_of) (λ s. P.source s then end) right_source
    (right_alone source_of P.source right_source)

pub right_sized : IsRowRight sized_in (λ v. P.source v.0 then P.amount v.1 then end)
right_sized = right_and_then source_of P.source (alone amount_value) (λ n. P.amount n then end) right_source
    (right_alone amount_value P.amount right_amount)

pub right_tagged : IsRowRight tagged_in (λ v. P.source v.0 then P.amount v.1.0 then P.atom_operand v.1.1 then end)
right_tagged = right_and_then source_of P.source _ (λ v. P.amount v.0 then P.atom_operand v.1 then end) right_source
    (right_and_then amount_value P.amount _ (λ a. P.atom_operand a then end) right_amount
    (right_alone atom_value P.atom_operand right_atom))

pub right_field : IsRowRight field_in (λ v. field v.0 v.1.0 v.1.1.0 v.1.1.1)
right_field = right_and_then register_of P.register _
    (λ v. P.source v.0 then P.amount v.1.0 then P.field_flags v.1.1 then end) right_register
    (right_and_then source_of P.source _ (λ v. P.amount v.0 then P.field_flags v.1 then end) right_source
    (right_and_then amount_value P.amount _ (λ f. P.field_flags f then end) right_amount
    (right_alone field_flags_value P.field_flags right_field_flags)))

pub right_counted : IsRowRight counted_in (λ v. P.register v.0 then P.amount v.1 then end)
right_counted = right_and_then register_of P.register (alone amount_value) (λ n. P.amount n then end) right_register
    (right_alone amount_value P.amount right_amount)

-- Segments.

kind_of_word : (a : Name) (b : Bool) → is_binary_word a ≡ Some b → a ≡ kind_word b
kind_of_word a b e = by (same_name (codes "integer") a) (same_name (codes "binary") a) refl refl e
  where
    by : (c d : Bool) → same_name (codes "integer") a ≡ c → same_name (codes "binary") a ≡ d
        → (if c then Some false else if d then Some true else None) ≡ Some b → a ≡ kind_word b
    by true d h k g = sym (same_names (codes "integer") a h) ∙ ap kind_word (some_same false b g)
    by false true h k g = sym (same_names (codes "binary") a k) ∙ ap kind_word (some_same true b g)
    by false false h k g = absurd cc

word_of_kind : (b : Bool) → is_binary_word (kind_word b) ≡ Some b
word_of_kind true = refl
word_of_kind false = refl

pub right_kind : IsRight kind_value (λ b. P.atom_operand (kind_word b))
right_kind = record {
  sound = λ t b s e.
      let x = bound (atom_value t) is_binary_word b e in
      subst (λ a. Fits t (P.atom_operand a)) (kind_of_word x.0 b x.2) (right_atom.sound t x.0 s x.1);
  complete = λ t b h. ap (λ o. o >>= is_binary_word) (right_atom.complete t (kind_word b) h) ∙ word_of_kind b;
}

abbrev pub Parts : Type 0
Parts = Bool × (ℕ × (ℕ × (Flags × (Source × Source))))

abbrev pub six : List Term → Option Parts
six = and_then kind_value (and_then amount_value (and_then unit_value (and_then flag_list_of
    (and_then source_of (alone source_of)))))

abbrev pub six_operands : Parts → Operands
six_operands v = P.atom_operand (kind_word v.0) then P.amount v.1.0 then P.unit v.1.1.0 then P.flag_list v.1.1.1.0
    then P.source v.1.1.1.1.0 then P.source v.1.1.1.1.1 then end

pub right_six : IsRowRight six six_operands
right_six = right_and_then kind_value (λ b. P.atom_operand (kind_word b)) _
    (λ v. P.amount v.0 then P.unit v.1.0 then P.flag_list v.1.1.0 then P.source v.1.1.1.0
    then P.source v.1.1.1.1 then end)
    right_kind
    (right_and_then amount_value P.amount _
    (λ v. P.unit v.0 then P.flag_list v.1.0 then P.source v.1.1.0 then P.source v.1.1.1 then end) right_amount
    (right_and_then unit_value P.unit _ (λ v. P.flag_list v.0 then P.source v.1.0 then P.source v.1.1 then end)
    right_unit
    (right_and_then flag_list_of P.flag_list _ (λ v. P.source v.0 then P.source v.1 then end) right_flag_list
    (right_and_then source_of P.source _ (λ s. P.source s then end) right_source
    (right_alone source_of P.source right_source)))))
