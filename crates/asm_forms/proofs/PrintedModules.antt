-- The forms that are printed of a valid module are the forms of that module.
use Rattle.std.proofs.Common.{◌≡◌, ℕ, refl, sym, ap, ◌∙◌, List, [], ◌∷◌, ◌++◌, map, flat_map, append_assoc, Bool, true, false, ◌&&◌, eqb, leb, Option, Some, None, if◌then◌else◌, IsTrue, codes}
use Rattle.std.specs.Option.{option_map}
use Rattle.std.proofs.lemmas.List.{append-nil}
use borrow.Author.Tests.{eq-eqb}
use Rattle.erl_base.specs.Names.{Name, same_name, keys_distinct}
use Rattle.erl_base.specs.declared.ids.FunKey.{FunKey}
use Rattle.erl_term.specs.Term as T
use Rattle.erl_term.specs.Term.{Term}
use Rattle.erl_term.proofs.Forms.{left_true, right_true}
use Rattle.term_read.specs.Lexemes.{◌>>=◌}
use Rattle.beam_table.specs.Code as C
use Rattle.beam_table.specs.Code.{Insn, AsmFun, AsmModule}
use Rattle.beam_table.specs.InstructionText.{number_term, form_with, form, operand_terms}
use Rattle.beam_table.specs.Operands.{operands}
use Rattle.beam_table.specs.OperandBounds.{most_arity, label_ok, operand_ok, insn_ok}
use Rattle.beam_table.specs.ModuleForms.{key_term, attribute_term, exports_form, attributes_form, function_form, func_info_form, function_forms}
use Rattle.beam_table.specs.ValidModule.{every}
use Rattle.insn_terms.specs.Reading.{checked, next, at_end, atom_of, arity_value, bare_label_value, singles, pair_of, insn_of}
use Rattle.insn_terms.proofs.Apart.{items_there, listed-terms}
use Rattle.asm_forms.specs.FormParts.{key_term_of, exports_form_of, attributes_form_of, function_in, function_form_of, func_info_form_of, label_only, label_form_of, is_dropped}
use Rattle.asm_forms.specs.Stages.{FunForms, Head, behind_labels, behind_function, behind_info, behind_func_info, in_code, with_function, with_insn, begun, code_or_function, stage_behind, stage_behind_all, whole_head}

-- Terms that are made and taken apart again.

arity_there : (n : ℕ) → leb n most_arity ≡ true → arity_value (number_term n) ≡ Some n
unfolding operand_ok
arity_there n h = ap (λ b. if b then Some n else None) h

label_there : (n : ℕ) → label_ok n ≡ true → bare_label_value (number_term n) ≡ Some n
label_there n h = ap (λ b. if b then Some n else None) h

next_there : {A : Type 0} (f : Term → Option A) (t : Term) (ts : List Term) (a : A) → f t ≡ Some a
    → next f (t ∷ ts) ≡ Some (a, ts)
next_there {A} f t ts a e = let made : Option A → Option (A × List Term) = λ o. o >>= λ b. Some (b, ts) in ap made e

key_there : (f : FunKey) → leb f.arity most_arity ≡ true → key_term_of (key_term f) ≡ Some f
key_there f h =
    ap (λ (o : Option (ℕ × List Term)). o >>= λ n. at_end n.1
    >>= λ e. Some (record { name = f.name; arity = n.0 }))
    (next_there arity_value (number_term f.arity) [] f.arity (arity_there f.arity h))

keys_there : (fs : List FunKey) → every (λ f. leb f.arity most_arity) fs ≡ true
    → singles key_term_of (map key_term fs) ≡ Some fs
keys_there [] h = refl
keys_there (f ∷ fs) h =
    ap (λ o. o >>= λ g. singles key_term_of (map key_term fs) >>= λ gs. Some (g ∷ gs))
    (key_there f (left_true _ (every (λ g. leb g.arity most_arity) fs) h))
    ∙ ap (λ o. o >>= λ gs. Some (f ∷ gs)) (keys_there fs (right_true (leb f.arity most_arity) _ h))

pub exports_there : (fs : List FunKey) → every (λ f. leb f.arity most_arity) fs ≡ true → keys_distinct fs ≡ true
    → exports_form_of (exports_form fs) ≡ Some fs
exports_there fs h k =
    ap (λ o. o >>= singles key_term_of >>= checked keys_distinct) (items_there (map key_term fs))
    ∙ ap (λ o. o >>= checked keys_distinct) (keys_there fs h)
    ∙ ap (λ b. if b then Some fs else None) k

pairs_there : (ps : List (Name × Term)) → singles pair_of (map attribute_term ps) ≡ Some ps
pairs_there [] = refl
pairs_there (p ∷ ps) = ap (λ o. o >>= λ qs. Some (p ∷ qs)) (pairs_there ps)

pub attributes_there : (ps : List (Name × Term)) → attributes_form_of (attributes_form ps) ≡ Some ps
attributes_there ps =
    ap (λ o. o >>= singles pair_of) (items_there (map attribute_term ps)) ∙ pairs_there ps

function_there : (f : AsmFun) → leb f.key.arity most_arity ≡ true → label_ok f.entry ≡ true
    → function_form_of (function_form f) ≡ Some (f.key, f.entry)
function_there f h k =
    ap (λ (o : Option (ℕ × List Term)). o >>= λ n. next bare_label_value n.1 >>= λ l. at_end l.1
    >>= λ e. made n.0 l.0)
    (next_there arity_value (number_term f.key.arity) (number_term f.entry ∷ []) f.key.arity
    (arity_there f.key.arity h))
    ∙ ap (λ (o : Option (ℕ × List Term)). o >>= λ l. at_end l.1 >>= λ e. made f.key.arity l.0)
    (next_there bare_label_value (number_term f.entry) [] f.entry (label_there f.entry k))
  where
    made : ℕ → ℕ → Option (FunKey × ℕ)
    made n l = Some (record { name = f.key.name; arity = n }, l)

func_info_there : (m : Name) (f : FunKey) → leb f.arity most_arity ≡ true
    → func_info_form_of (func_info_form m f) ≡ Some (m, f)
func_info_there m f h =
    ap (λ (o : Option (ℕ × List Term)). (((o >>= λ n. at_end n.1 >>= λ e. Some n.0) >>= named) >>= homed) >>= made)
    (next_there arity_value (number_term f.arity) [] f.arity (arity_there f.arity h))
  where
    named : ℕ → Option (Name × ℕ)
    named n = Some (f.name, n)

    homed : Name × ℕ → Option (Name × (Name × ℕ))
    homed v = Some (m, v)

    made : Name × (Name × ℕ) → Option (Name × FunKey)
    made v = Some (v.0, record { name = v.1.0; arity = v.1.1 })

-- Instructions are no other forms.

no_drop : (i : Insn) → is_dropped (form i) ≡ false
no_drop (C.label l) = refl
no_drop (C.move s d) = refl
no_drop i = refl

no_function_name : (i : Insn) → same_name (codes "function") (operands i).0 ≡ false
no_function_name (C.label l) = refl
no_function_name (C.move s d) = refl
no_function_name i = refl

-- what stands behind another word is no function
abbrev if_function : Name → Name → ℕ → ℕ → Option (FunKey × ℕ)
if_function a f n l = if same_name (codes "function") a then Some (record { name = f; arity = n }, l) else None

not_function_in : (a : Name) (ts : List Term) → same_name (codes "function") a ≡ false
    → function_in (T.atom a ∷ ts) ≡ None
not_function_in a ts h = by_name (next atom_of ts)
  where
    by_end : (f : Name) (n l : ℕ) (o : Option (Unit {0})) → (o >>= λ e. if_function a f n l) ≡ None
    by_end f n l None = refl
    by_end f n l (Some e) =
        let made : Bool → Option (FunKey × ℕ) =
        λ b. if b then Some (record { name = f; arity = n }, l) else None in ap made h

    by_label : (f : Name) (n : ℕ) (o : Option (ℕ × List Term))
        → (o >>= λ l. at_end l.1 >>= λ e. if_function a f n l.0) ≡ None
    by_label f n None = refl
    by_label f n (Some l) = by_end f n l.0 (at_end l.1)

    by_arity : (f : Name) (o : Option (ℕ × List Term))
        → (o >>= λ n. next bare_label_value n.1 >>= λ l. at_end l.1 >>= λ e. if_function a f n.0 l.0) ≡ None
    by_arity f None = refl
    by_arity f (Some n) = by_label f n.0 (next bare_label_value n.1)

    by_name : (o : Option (Name × List Term))
        → (o >>= λ f. next arity_value f.1 >>= λ n. next bare_label_value n.1 >>= λ l. at_end l.1
        >>= λ e. if_function a f.0 n.0 l.0) ≡ None
    by_name None = refl
    by_name (Some f) = by_arity f.0 (next arity_value f.1)

not_function_form : (a : Name) (ts : List Term) → same_name (codes "function") a ≡ false
    → function_form_of (form_with a ts) ≡ None
not_function_form a [] h = refl
not_function_form a (t ∷ ts) h =
    ap (λ us. function_in (T.atom a ∷ t ∷ us)) (listed-terms ts) ∙ not_function_in a (t ∷ ts) h

no_function : (i : Insn) → function_form_of (form i) ≡ None
no_function (C.label l) = not_function_in (codes "label") (number_term l ∷ []) refl
no_function (C.move s d) = not_function_form (codes "move") (operand_terms (operands (C.move s d)).1) refl
no_function i = not_function_form (operands i).0 (operand_terms (operands i).1) (no_function_name i)

-- Stages.

-- a function of a module's text
abbrev pub read_fun : Name → AsmFun → FunForms
read_fun m f = record { fun = f; home = m; named = f.key }

-- what is needed of instructions and functions
abbrev pub code_good : List Insn → Bool
code_good is = every insn_ok is

abbrev pub fun_good : AsmFun → Bool
fun_good f = leb f.key.arity most_arity && (label_ok f.info && (label_ok f.entry && every insn_ok f.code))

pub record InsnsRead : Type 0 where
  pub read : (i : Insn) → IsTrue (insn_ok i) → insn_of (form i) ≡ Some i

label_good : (l : ℕ) → label_ok l ≡ true → insn_ok (C.label l) ≡ true
unfolding insn_ok operand_ok
label_good l h = ap (λ b. b && true) h

pub label_form_there : InsnsRead → (l : ℕ) → label_ok l ≡ true → label_form_of (form (C.label l)) ≡ Some l
label_form_there r l h = ap (λ o. o >>= label_only) (r.read (C.label l) (label_good l h))

-- behind the forms of some code
code_read : InsnsRead → (h : Head) (f : FunForms) (is : List Insn) (ts : List Term) → every insn_ok is ≡ true
    → stage_behind_all (in_code h f) (map form is ++ ts)
    ≡ stage_behind_all (in_code h (record f { fun = record f.fun { code = f.fun.code ++ is } })) ts
code_read r h f [] ts g =
    ap (λ c. stage_behind_all (in_code h (record f { fun = record f.fun { code = c } })) ts)
    (sym (append-nil f.fun.code))
code_read r h f (i ∷ is) ts g =
    ap (λ o. o >>= λ u. stage_behind_all u (map form is ++ ts)) (insn_step i (left_true (insn_ok i) _ g))
    ∙ code_read r h (with_insn f i) is ts (right_true (insn_ok i) _ g)
    ∙ ap (λ c. stage_behind_all (in_code h (record f { fun = record f.fun { code = c } })) ts)
    (append_assoc f.fun.code (i ∷ []) is)
  where
    insn_step : (i : Insn) → insn_ok i ≡ true → stage_behind (in_code h f) (form i) ≡ Some (in_code h (with_insn f i))
    insn_step i k =
        ap (λ b. if b then Some (in_code h f) else code_or_function (function_form_of (form i)) h f (form i))
        (no_drop i)
        ∙ ap (λ o. code_or_function o h f (form i)) (no_function i)
        ∙ ap (option_map (λ i. in_code h (with_insn f i))) (r.read i k)

-- the head of a function, and then its code
abbrev headed : Name → AsmFun → FunForms
headed m f = record {
  fun = record { key = f.key; info = f.info; entry = f.entry; code = [] };
  home = m;
  named = f.key;
}

head_read : InsnsRead → (h : Head) (m : Name) (f : AsmFun) (ts : List Term) → leb f.key.arity most_arity ≡ true
    → label_ok f.info ≡ true → label_ok f.entry ≡ true
    → stage_behind_all (behind_function h f.key f.entry)
    (form (C.label f.info) ∷ func_info_form m f.key ∷ form (C.label f.entry) ∷ ts)
    ≡ stage_behind_all (in_code h (headed m f)) ts
head_read r h m f ts a i e =
    ap (λ o. (option_map (behind_info h f.key f.entry) o) >>= λ u.
    stage_behind_all u (func_info_form m f.key ∷ form (C.label f.entry) ∷ ts)) (label_form_there r f.info i)
    ∙ ap (λ o. (option_map (λ p. behind_func_info h (begun f.key f.entry f.info p)) o) >>= λ u.
    stage_behind_all u (form (C.label f.entry) ∷ ts)) (func_info_there m f.key a)
    ∙ ap (λ o. (o >>= λ l. if eqb l f.entry then Some (in_code h (headed m f)) else None) >>= λ u.
    stage_behind_all u ts) (label_form_there r f.entry e)
    ∙ ap (λ (b : Bool). (if b then Some (in_code h (headed m f)) else None) >>= λ u. stage_behind_all u ts)
    (eq-eqb f.entry f.entry refl)

body_read : InsnsRead → (h : Head) (m : Name) (f : AsmFun) (ts : List Term) → fun_good f ≡ true
    → stage_behind_all (behind_function h f.key f.entry)
    (form (C.label f.info) ∷ func_info_form m f.key ∷ form (C.label f.entry) ∷ (map form f.code ++ ts))
    ≡ stage_behind_all (in_code h (read_fun m f)) ts
body_read r h m f ts g =
    let labels =
    right_true (leb f.key.arity most_arity) (label_ok f.info && (label_ok f.entry && every insn_ok f.code)) g in
    let rest = right_true (label_ok f.info) (label_ok f.entry && every insn_ok f.code) labels in
    head_read r h m f (map form f.code ++ ts) (left_true (leb f.key.arity most_arity) _ g)
    (left_true (label_ok f.info) _ labels) (left_true (label_ok f.entry) _ rest)
    ∙ code_read r h (headed m f) f.code ts (right_true (label_ok f.entry) _ rest)

arity_good : (f : AsmFun) → fun_good f ≡ true → leb f.key.arity most_arity ≡ true
arity_good f g = left_true (leb f.key.arity most_arity) _ g

entry_good : (f : AsmFun) → fun_good f ≡ true → label_ok f.entry ≡ true
entry_good f g =
    left_true (label_ok f.entry) (every insn_ok f.code)
    (right_true (label_ok f.info) _ (right_true (leb f.key.arity most_arity) _ g))

funs_read : InsnsRead → (h : Head) (m : Name) (f : FunForms) (fs : List AsmFun) → every fun_good fs ≡ true
    → (stage_behind_all (in_code h f) (flat_map (function_forms m) fs) >>= whole_head)
    ≡ Some (record h { funs = h.funs ++ f ∷ map (read_fun m) fs })
funs_read r h m f [] g = refl
funs_read r h m f (x ∷ fs) g =
    let good = left_true (fun_good x) (every fun_good fs) g in
    let rest = flat_map (function_forms m) fs in
    ap (λ o. (code_or_function o h f (function_form x) >>= λ u.
    stage_behind_all u
    (form (C.label x.info) ∷ func_info_form m x.key ∷ form (C.label x.entry) ∷ (map form x.code ++ rest)))
    >>= whole_head) (function_there x (arity_good x good) (entry_good x good))
    ∙ ap (λ o. o >>= whole_head) (body_read r (with_function h f) m x rest good)
    ∙ funs_read r (with_function h f) m (read_fun m x) fs (right_true (fun_good x) _ g)
    ∙ ap (λ gs. Some (record h { funs = gs })) (append_assoc h.funs (f ∷ []) (map (read_fun m) (x ∷ fs)))

pub all_funs_read : InsnsRead → (h : Head) (m : Name) (fs : List AsmFun) → h.funs ≡ [] → every fun_good fs ≡ true
    → (stage_behind_all (behind_labels h) (flat_map (function_forms m) fs) >>= whole_head)
    ≡ Some (record h { funs = map (read_fun m) fs })
all_funs_read r h m [] e g = ap (λ gs. Some (record h { funs = gs })) e
all_funs_read r h m (x ∷ fs) e g =
    let good = left_true (fun_good x) (every fun_good fs) g in
    let rest = flat_map (function_forms m) fs in
    ap (λ o. (option_map (λ p. behind_function h p.0 p.1) o >>= λ u.
    stage_behind_all u
    (form (C.label x.info) ∷ func_info_form m x.key ∷ form (C.label x.entry) ∷ (map form x.code ++ rest)))
    >>= whole_head) (function_there x (arity_good x good) (entry_good x good))
    ∙ ap (λ o. o >>= whole_head) (body_read r h m x rest good)
    ∙ funs_read r h m (read_fun m x) fs (right_true (fun_good x) _ g)
    ∙ ap (λ gs. Some (record h { funs = gs ++ map (read_fun m) (x ∷ fs) })) e
