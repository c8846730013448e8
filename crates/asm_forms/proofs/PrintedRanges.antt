-- The forms that are printed of a valid module have numbers in range, and maps that rise.
use Rattle.std.proofs.Common.{◌≡◌, ℕ, ◌+◌, ◌<◌, ◌^◌, refl, ap, ◌∙◌, List, [], ◌∷◌, ◌++◌, map, flat_map, Bool, true, false, ◌&&◌, eqb, leb, ltb, IsTrue, Option, Some, None, codes, arith}
use Rattle.std.proofs.lemmas.Bool.{lt-ltb, ltb-true, leb-true}
use borrow.Author.Tests.{eqb-true}
use Rattle.erl_base.specs.Names.{Name, keys_distinct}
use Rattle.erl_base.specs.declared.ids.FunKey.{FunKey}
use Rattle.erl_term.specs.Term as T
use Rattle.erl_term.specs.Term.{Term}
use Rattle.erl_term.specs.Terms.{terms, tagged, list_of}
use Rattle.erl_term.specs.Ranges.{fits, all_fit}
use Rattle.erl_term.specs.WellFormed.{maps_rise, all_rise}
use Rattle.erl_term.proofs.Forms.{left_true, right_true, both_true}
use Rattle.beam_table.specs.Code as C
use Rattle.beam_table.specs.Code.{Reg, x_reg, y_reg, Source, reg, Flags, Insn, init_yregs, put_tuple2, make_fun3, put_map_assoc, put_map_exact, get_map_elements, has_map_fields, select_val, select_tuple_arity, bif, gc_bif, bs_create_bin, AsmFun, AsmModule}
use Rattle.beam_table.specs.Operands.{Operand, Operands, operands, each, segment, source, register, own_label, entry_label, label_or_zero, label_or_no_fail, x_slot, y_slot, live, arity, site, unit, amount, always, extfunc, field_flags, flag_list, items, list, end, ◌then◌}
use Rattle.beam_table.specs.OperandBounds.{label_ok, label_limit, most_arity, register_ok, source_ok, operand_ok, operands_ok, agrees, insn_ok}
use Rattle.beam_table.specs.InstructionText.{number_term, register_term, source_term, flag_words, operand_term, operand_terms, form_with, form}
use Rattle.beam_table.specs.ModuleForms.{tuple_of, key_term, attribute_term, greatest, module_form, exports_form, attributes_form, labels_form, function_form, func_info_form, function_forms, forms}
use Rattle.beam_table.specs.ValidModule.{every, all_labels, entries_of, attribute_ok, Valid}
use Rattle.asm_forms.specs.Lines.{is_sane}
use Rattle.asm_forms.proofs.PrintedModules.{fun_good}
use Rattle.asm_forms.proofs.PrintedTexts.{all_good, short_keys}

-- Numbers.

small : (n m p : ℕ) → ltb n m ≡ true → leb m p ≡ true → ltb n p ≡ true
small n m p h k = lt-ltb n p (omega (arith, ltb-true n m h, leb-true m p k))

few : (n m p : ℕ) → leb n m ≡ true → ltb m p ≡ true → ltb n p ≡ true
few n m p h k = lt-ltb n p (omega (arith, leb-true n m h, ltb-true m p k))

number_sane : (n : ℕ) → ltb n (2 ^ 127) ≡ true → is_sane (number_term n) ≡ true
unfolding maps_rise
number_sane n h = ap (λ b. b && true) h

below_sane : (n m : ℕ) → ltb n m ≡ true → leb m (2 ^ 127) ≡ true → is_sane (number_term n) ≡ true
below_sane n m h k = number_sane n (small n m (2 ^ 127) h k)

most_sane : (n m : ℕ) → leb n m ≡ true → ltb m (2 ^ 127) ≡ true → is_sane (number_term n) ≡ true
most_sane n m h k = number_sane n (few n m (2 ^ 127) h k)

-- Terms in a row.

row_sane : (ts : List Term) → every is_sane ts ≡ true → (all_fit (terms ts) ≡ true) × (all_rise (terms ts) ≡ true)
unfolding maps_rise
row_sane [] h = (refl, refl)
row_sane (t ∷ ts) h =
    let one = left_true (is_sane t) (every is_sane ts) h in
    let more = row_sane ts (right_true (is_sane t) (every is_sane ts) h) in (
      both_true (fits t) (all_fit (terms ts)) (left_true (fits t) (maps_rise t) one) more.0,
      both_true (maps_rise t) (all_rise (terms ts)) (right_true (fits t) (maps_rise t) one) more.1,
    )

tuple_sane : (ts : List Term) → every is_sane ts ≡ true → is_sane (tuple_of ts) ≡ true
unfolding maps_rise
tuple_sane ts h = let r = row_sane ts h in both_true (all_fit (terms ts)) (all_rise (terms ts)) r.0 r.1

list_sane : (ts : List Term) → every is_sane ts ≡ true → is_sane (list_of ts T.nil) ≡ true
unfolding maps_rise
list_sane [] h = refl
list_sane (t ∷ ts) h =
    let one = left_true (is_sane t) (every is_sane ts) h in
    let more = list_sane ts (right_true (is_sane t) (every is_sane ts) h) in
    both_true (fits t && fits (list_of ts T.nil)) (maps_rise t && maps_rise (list_of ts T.nil))
    (both_true (fits t) (fits (list_of ts T.nil)) (left_true (fits t) (maps_rise t) one)
    (left_true (fits (list_of ts T.nil)) (maps_rise (list_of ts T.nil)) more))
    (both_true (maps_rise t) (maps_rise (list_of ts T.nil)) (right_true (fits t) (maps_rise t) one)
    (right_true (fits (list_of ts T.nil)) (maps_rise (list_of ts T.nil)) more))

atom_sane : (a : Name) → is_sane (T.atom a) ≡ true
unfolding maps_rise
atom_sane a = refl

two_sane : (t u : Term) → is_sane t ≡ true → is_sane u ≡ true → every is_sane (t ∷ u ∷ []) ≡ true
two_sane t u h k = both_true (is_sane t) (is_sane u && true) h (both_true (is_sane u) true k refl)

tagged_sane : (a : Name) (t : Term) → is_sane t ≡ true → is_sane (tagged a t) ≡ true
tagged_sane a t h = tuple_sane (T.atom a ∷ t ∷ []) (two_sane (T.atom a) t (atom_sane a) h)

-- Operands.

register_sane : (r : Reg) → register_ok r ≡ true → is_sane (register_term r) ≡ true
register_sane (x_reg n) h = tagged_sane (codes "x") (number_term n) (most_sane n _ h refl)
register_sane (y_reg n) h = tagged_sane (codes "y") (number_term n) (below_sane n _ h refl)

integer_sane : (s : Source) → source_ok s ≡ true → is_sane (source_term s) ≡ true
unfolding source_ok maps_rise
integer_sane (reg r) h = register_sane r h
integer_sane (C.atom a) h = tagged_sane (codes "atom") (T.atom a) (atom_sane a)
integer_sane (C.integer z) h = tagged_sane (codes "integer") (T.int z) (ap (λ b. b && true) h)
integer_sane C.nil h = atom_sane (codes "nil")
integer_sane (C.literal t) h =
    tagged_sane (codes "literal") t
    (both_true (fits t) (maps_rise t) (right_true (maps_rise t) (fits t) h) (left_true (maps_rise t) (fits t) h))

flags_sane : (a : Name) (f : Flags) → is_sane (tagged a (list_of (flag_words f) T.nil)) ≡ true
unfolding maps_rise
flags_sane a f = by f.signed f.little
  where
    by : (s l : Bool)
        → is_sane (tagged a (list_of (flag_words (record { signed = s; little = l })) T.nil)) ≡ true
    by true true = refl
    by true false = refl
    by false true = refl
    by false false = refl

label_sane : (l : ℕ) → label_ok l ≡ true → is_sane (number_term l) ≡ true
label_sane l h = below_sane l label_limit (right_true (ltb 0 l) (ltb l label_limit) h) refl

named_sane : (l : ℕ) → label_ok l ≡ true → is_sane (tagged (codes "f") (number_term l)) ≡ true
named_sane l h = tagged_sane (codes "f") (number_term l) (label_sane l h)

-- a number that stands in each instruction of its kind is 0
abbrev mutual
  steady : Operand → Bool
  steady (always n) = eqb n 0
  steady (items os) = all_steady os
  steady (list os) = all_steady os
  steady _ = true

  all_steady : Operands → Bool
  all_steady end = true
  all_steady (o then os) = steady o && all_steady os

zero_sane : (n : ℕ) → eqb n 0 ≡ true → is_sane (number_term n) ≡ true
zero_sane n h = ap (λ m. is_sane (number_term m)) (eqb-true n 0 h) ∙ number_sane 0 refl

mutual
  unfolding operand_ok maps_rise

  operand_sane : (o : Operand) → steady o ≡ true → operand_ok o ≡ true → is_sane (operand_term o) ≡ true
  operand_sane (source s) g h = integer_sane s h
  operand_sane (register r) g h = register_sane r h
  operand_sane (own_label l) g h = named_sane l h
  operand_sane (entry_label l) g h = named_sane l h
  operand_sane (label_or_zero None) g h = refl
  operand_sane (label_or_zero (Some l)) g h = named_sane l h
  operand_sane (label_or_no_fail None) g h = refl
  operand_sane (label_or_no_fail (Some l)) g h = named_sane l h
  operand_sane (x_slot n) g h = tagged_sane (codes "x") (number_term n) (most_sane n _ h refl)
  operand_sane (y_slot n) g h = tagged_sane (codes "y") (number_term n) (below_sane n _ h refl)
  operand_sane (live n) g h = most_sane n _ h refl
  operand_sane (arity n) g h = most_sane n _ h refl
  operand_sane (site n) g h = below_sane n _ h refl
  operand_sane (unit n) g h = most_sane n 256 (right_true (ltb 0 n) (leb n 256) h) refl
  operand_sane (amount n) g h = below_sane n _ h refl
  operand_sane (always n) g h = zero_sane n g
  operand_sane (extfunc e) g h =
      tuple_sane (T.atom (codes "extfunc") ∷ T.atom e.mod_name ∷ T.atom e.name ∷ number_term e.arity ∷ [])
      (both_true (is_sane (number_term e.arity)) true (most_sane e.arity _ h refl) refl)
  operand_sane (field_flags f) g h = flags_sane (codes "field_flags") f
  operand_sane (flag_list f) g h = flags_sane (codes "literal") f
  operand_sane (items os) g h = list_sane (operand_terms os) (operands_sane os g h)
  operand_sane (list os) g h =
      tagged_sane (codes "list") (list_of (operand_terms os) T.nil) (list_sane (operand_terms os)
      (operands_sane os g h))
  operand_sane o g h = refl

  operands_sane : (os : Operands) → all_steady os ≡ true → operands_ok os ≡ true
      → every is_sane (operand_terms os) ≡ true
  operands_sane end g h = refl
  operands_sane (o then os) g h =
      both_true (is_sane (operand_term o)) (every is_sane (operand_terms os))
      (operand_sane o (left_true (steady o) (all_steady os) g) (left_true (operand_ok o) (operands_ok os) h))
      (operands_sane os (right_true (steady o) (all_steady os) g) (right_true (operand_ok o) (operands_ok os) h))

-- Instructions.

-- operands of each item
each_steady : {A : Type 0} (f : A → Operands → Operands)
    → ((a : A) (os : Operands) → all_steady os ≡ true → all_steady (f a os) ≡ true) → (as' : List A)
    → all_steady (each f as') ≡ true
each_steady f h [] = refl
each_steady f h (a ∷ as') = h a (each f as') (each_steady f h as')

row_steady : (i : Insn) → all_steady (operands i).1 ≡ true
row_steady (init_yregs ns) = ap (λ b. b && true) (each_steady (λ n r. y_slot n then r) (λ n os h. h) ns)
row_steady (put_tuple2 d ss) = ap (λ b. b && true) (each_steady (λ s r. source s then r) (λ s os h. h) ss)
row_steady (make_fun3 l n d ss) = ap (λ b. b && true) (each_steady (λ s r. source s then r) (λ s os h. h) ss)
row_steady (put_map_assoc s d k ps) =
    ap (λ b. b && true) (each_steady (λ (p : Source × Source) r. source p.0 then source p.1 then r) (λ p os h. h) ps)
row_steady (put_map_exact s d k ps) =
    ap (λ b. b && true) (each_steady (λ (p : Source × Source) r. source p.0 then source p.1 then r) (λ p os h. h) ps)
row_steady (get_map_elements l s ps) =
    ap (λ b. b && true) (each_steady (λ (p : Source × Reg) r. source p.0 then register p.1 then r) (λ p os h. h) ps)
row_steady (has_map_fields l s ss) = ap (λ b. b && true) (each_steady (λ s r. source s then r) (λ s os h. h) ss)
row_steady (select_val s l cs) =
    ap (λ b. b && true) (each_steady (λ (c : Source × ℕ) r. source c.0 then own_label c.1 then r) (λ c os h. h) cs)
row_steady (select_tuple_arity s l cs) =
    ap (λ b. b && true) (each_steady (λ (c : ℕ × ℕ) r. amount c.0 then own_label c.1 then r) (λ c os h. h) cs)
row_steady (bif b l ss d) = ap (λ b. b && true) (each_steady (λ s r. source s then r) (λ s os h. h) ss)
row_steady (gc_bif b l k ss d) = ap (λ b. b && true) (each_steady (λ s r. source s then r) (λ s os h. h) ss)
row_steady (bs_create_bin l k u d gs) =
    ap (λ b. b && true) (each_steady segment (λ g os h. h) gs)
row_steady i = refl

form_with_sane : (a : Name) (ts : List Term) → every is_sane ts ≡ true → is_sane (form_with a ts) ≡ true
form_with_sane a [] h = atom_sane a
form_with_sane a (t ∷ ts) h =
    tuple_sane (T.atom a ∷ t ∷ ts) (both_true (is_sane (T.atom a)) (every is_sane (t ∷ ts)) (atom_sane a) h)

label_form_sane : (l : ℕ) → label_ok l ≡ true → is_sane (form (C.label l)) ≡ true
label_form_sane l h = tagged_sane (codes "label") (number_term l) (label_sane l h)

insn_sane : (i : Insn) → insn_ok i ≡ true → is_sane (form i) ≡ true
unfolding insn_ok operand_ok
insn_sane (C.label l) h = label_form_sane l (left_true (label_ok l) true h)
insn_sane i h =
    form_with_sane (operands i).0 (operand_terms (operands i).1)
    (operands_sane (operands i).1 (row_steady i) (right_true (agrees i) (operands_ok (operands i).1) h))

-- Modules.

code_sane : (is : List Insn) → every insn_ok is ≡ true → every is_sane (map form is) ≡ true
code_sane [] h = refl
code_sane (i ∷ is) h =
    both_true (is_sane (form i)) (every is_sane (map form is)) (insn_sane i (left_true (insn_ok i)
    (every insn_ok is) h))
    (code_sane is (right_true (insn_ok i) (every insn_ok is) h))

arity_sane : (n : ℕ) → leb n most_arity ≡ true → is_sane (number_term n) ≡ true
arity_sane n h = most_sane n most_arity h refl

fun_sane : (m : Name) (f : AsmFun) → fun_good f ≡ true → every is_sane (function_forms m f) ≡ true
unfolding maps_rise
fun_sane m f g =
    let arity = arity_sane f.key.arity (left_true (leb f.key.arity most_arity) _ g) in
    let labels =
    right_true (leb f.key.arity most_arity) (label_ok f.info && (label_ok f.entry && every insn_ok f.code)) g in
    let rest = right_true (label_ok f.info) (label_ok f.entry && every insn_ok f.code) labels in
    let info = left_true (label_ok f.info) (label_ok f.entry && every insn_ok f.code) labels in
    let entry = left_true (label_ok f.entry) (every insn_ok f.code) rest in
    let code = right_true (label_ok f.entry) (every insn_ok f.code) rest in
    both_true (is_sane (function_form f)) _
    (tuple_sane
    (T.atom (codes "function") ∷ T.atom f.key.name ∷ number_term f.key.arity ∷ number_term f.entry ∷ [])
    (two_sane (number_term f.key.arity) (number_term f.entry) arity (label_sane f.entry entry)))
    (both_true (is_sane (form (C.label f.info))) _ (label_form_sane f.info info)
    (both_true (is_sane (func_info_form m f.key)) _
    (tuple_sane
    (T.atom (codes "func_info") ∷ source_term (C.atom m) ∷ source_term (C.atom f.key.name) ∷ number_term f.key.arity
    ∷ [])
    (both_true (is_sane (number_term f.key.arity)) true arity refl))
    (both_true (is_sane (form (C.label f.entry))) _ (label_form_sane f.entry entry) (code_sane f.code code))))

both_parts : (ts us : List Term) → every is_sane ts ≡ true → every is_sane us ≡ true → every is_sane (ts ++ us) ≡ true
both_parts [] us h k = k
both_parts (t ∷ ts) us h k =
    both_true (is_sane t) (every is_sane (ts ++ us)) (left_true (is_sane t) (every is_sane ts) h)
    (both_parts ts us (right_true (is_sane t) (every is_sane ts) h) k)

funs_sane : (m : Name) (fs : List AsmFun) → every fun_good fs ≡ true
    → every is_sane (flat_map (function_forms m) fs) ≡ true
funs_sane m [] h = refl
funs_sane m (f ∷ fs) h =
    both_parts (function_forms m f) (flat_map (function_forms m) fs)
    (fun_sane m f (left_true (fun_good f) (every fun_good fs) h))
    (funs_sane m fs (right_true (fun_good f) (every fun_good fs) h))

keys_sane : (ks : List FunKey) → every (λ f. leb f.arity most_arity) ks ≡ true → every is_sane (map key_term ks) ≡ true
unfolding maps_rise
keys_sane [] h = refl
keys_sane (k ∷ ks) h =
    both_true (is_sane (key_term k)) (every is_sane (map key_term ks))
    (tuple_sane (T.atom k.name ∷ number_term k.arity ∷ [])
    (two_sane (T.atom k.name) (number_term k.arity) (atom_sane k.name)
    (arity_sane k.arity (left_true (leb k.arity most_arity) (every (λ f. leb f.arity most_arity) ks) h))))
    (keys_sane ks (right_true (leb k.arity most_arity) (every (λ f. leb f.arity most_arity) ks) h))

attributes_sane : (ps : List (Name × Term)) → every attribute_ok ps ≡ true
    → every is_sane (map attribute_term ps) ≡ true
unfolding attribute_ok
attributes_sane [] h = refl
attributes_sane (p ∷ ps) h =
    let one = left_true (attribute_ok p) (every attribute_ok ps) h in
    both_true (is_sane (attribute_term p)) (every is_sane (map attribute_term ps))
    (tuple_sane (T.atom p.0 ∷ p.1 ∷ [])
    (two_sane (T.atom p.0) p.1 (atom_sane p.0)
    (both_true (fits p.1) (maps_rise p.1) (right_true (maps_rise p.1) (fits p.1) one)
    (left_true (maps_rise p.1) (fits p.1) one))))
    (attributes_sane ps (right_true (attribute_ok p) (every attribute_ok ps) h))

greatest_below : (ls : List ℕ) (n : ℕ) → ltb 0 n ≡ true → every (λ l. ltb l n) ls ≡ true → greatest ls < n
greatest_below [] n k h = ltb-true 0 n k
greatest_below (l ∷ ls) n k h =
    let one = ltb-true l n (left_true (ltb l n) (every (λ l. ltb l n) ls) h) in
    let more = greatest_below ls n k (right_true (ltb l n) (every (λ l. ltb l n) ls) h) in
    omega arith

labels_below : (ls : List ℕ) → every label_ok ls ≡ true → every (λ l. ltb l label_limit) ls ≡ true
labels_below [] h = refl
labels_below (l ∷ ls) h =
    both_true (ltb l label_limit) (every (λ l. ltb l label_limit) ls)
    (right_true (ltb 0 l) (ltb l label_limit) (left_true (label_ok l) (every label_ok ls) h))
    (labels_below ls (right_true (label_ok l) (every label_ok ls) h))

limit_sane : (ls : List ℕ) → every label_ok ls ≡ true → is_sane (number_term (greatest ls + 1)) ≡ true
limit_sane ls h = over (greatest ls) label_limit (greatest_below ls label_limit refl (labels_below ls h)) refl
  where
    over : (n m : ℕ) → n < m → leb (m + 1) (2 ^ 127) ≡ true → is_sane (number_term (n + 1)) ≡ true
    over n m h k = below_sane (n + 1) (m + 1) (lt-ltb (n + 1) (m + 1) (omega (arith, h))) k

pub forms_sane : (a : AsmModule) → Valid a → every is_sane (forms a) ≡ true
forms_sane a v =
    let labels = left_true (every label_ok (all_labels a.funs)) _ v.labels in
    let good = all_good (entries_of a.funs) a.funs labels v.functions in
    let short = short_keys a.exports a.funs (right_true (keys_distinct a.exports) _ v.exports) good in
    both_true (is_sane (module_form a.name)) _ (tagged_sane (codes "module") (T.atom a.name) (atom_sane a.name))
    (both_true (is_sane (exports_form a.exports)) _
    (tagged_sane (codes "exports") (list_of (map key_term a.exports) T.nil)
    (list_sane (map key_term a.exports) (keys_sane a.exports short)))
    (both_true (is_sane (attributes_form a.attributes)) _
    (tagged_sane (codes "attributes") (list_of (map attribute_term a.attributes) T.nil)
    (list_sane (map attribute_term a.attributes) (attributes_sane a.attributes v.attributes)))
    (both_true (is_sane (labels_form a.funs)) _
    (tagged_sane (codes "labels") (number_term (greatest (all_labels a.funs) + 1)) (limit_sane
    (all_labels a.funs) labels))
    (funs_sane a.name a.funs good))))
