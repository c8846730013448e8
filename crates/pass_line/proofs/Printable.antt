-- A plain module's code is a valid module that can be printed.
use Rattle.std.proofs.Common.{◌≡◌, ◌<◌, ◌≤◌, ◌^◌, ℕ, zero, suc, List, [], ◌∷◌, ◌++◌, map, flat_map, ◌&&◌, Bool, true, false, leb, length, Contains, refl, sym, ap, ap₂, subst, ◌∙◌, true≢false, arith}
use Rattle.std.proofs.lemmas.Bool.{le-leb}
use Rattle.std.specs.List.{list_all}
use Rattle.erl_base.specs.Names.{is_key, keys_distinct}
use Rattle.erl_base.specs.declared.ids.FunKey.{FunKey}
use Rattle.erl_term.specs.Term as T
use Rattle.erl_term.specs.Term.{Term}
use Rattle.erl_term.specs.Terms.{list_of}
use Rattle.erl_term.specs.Depth.{depth, depths}
use Rattle.erl_term.specs.View.{attribute_view}
use Rattle.erl_term.specs.declared.term.Attribute.{Attribute}
use Rattle.erl_term.specs.declared.term.Term.{Term as Held}
use Rattle.term_read.specs.TermGrammar.{most_nesting}
use Rattle.core_form.specs.declared.tree.Binder.{Binder}
use Rattle.core_form.specs.Core.{Module, Expr, literal, var, fun, Defs, no_def, and_def, def}
use Rattle.beam_table.specs.Code as C
use Rattle.beam_table.specs.Code.{Reg, x_reg, y_reg, reg, Insn, move, return, AsmFun, AsmModule}
use Rattle.beam_table.specs.FormBounds.{FormsNest}
use Rattle.beam_table.specs.InstructionText.{form}
use Rattle.beam_table.specs.ModuleForms.{key_term, module_form, exports_form, attributes_form, labels_form, function_form, func_info_form, function_forms, forms}
use Rattle.beam_table.specs.ValidModule.{every, attribute_ok, Valid}
use Rattle.beam_table.specs.View.{reg_view, source_view, insn_view, fun_view, module_view}
use Rattle.beam_table.specs.WellFormedModule.{sources_in, IsWellFormedModule}
use Rattle.beam_table.specs.declared.asm.AsmModule.{AsmModule as Made}
use Rattle.beam_table.specs.declared.insn.Insn.{Insn as Written}
use Rattle.beam_table.specs.declared.insn.Insn.TheVariants as V
use Rattle.beam_table.specs.declared.operand.Source.{Source as Operand}
use Rattle.beam_table.specs.declared.operand.Source.TheVariants as S
use Rattle.behaviour.specs.Called.{export_keys, each_once}
use Rattle.behaviour.specs.PlainModules.{body_fits, fun_fits, IsPlainModule, FitsText, PlainAssemblyIsValid, plain_assembly}
use Rattle.pass_line.specs.PlainModule.{is_plain_literal, is_plain_body, is_plain_fun, are_plain, keys_of, IsPlain}
use Rattle.pass_line.specs.PlainCode.{index_of, gives_parameter, gives_literal, gives_body, code, functions, assembly}
use Rattle.pass_line.specs.PlainText.{PlainText}
use Rattle.pass_line.specs.Compiled.{HasCode}
use Rattle.pass_line.proofs.Names.{both}
use Rattle.pass_line.proofs.Bridge.{Tested, tested, literal_of, body_of, fun_of, funs_of, plain_funs-are_plain, keys-funs_of, functions-plain_asm}

-- In the words of same behaviour.

pub is_plain_module : (m : Module) → IsPlain m → IsPlainModule m (funs_of m.defs)
is_plain_module m h = record {
  plain = plain_funs-are_plain m.defs h.functions;
  distinct = subst (λ ks. keys_distinct ks ≡ true) (sym (keys-funs_of m.defs)) h.distinct_functions;
  exports = subst (λ ks. every (λ f. is_key f ks) (export_keys m) ≡ true) (sym (keys-funs_of m.defs)) h.known_exports;
}

pub assembly-plain_assembly : (m : Module) → IsPlain m → assembly m ≡ plain_assembly m (funs_of m.defs)
assembly-plain_assembly m h = λ i. record {
  name = m.name;
  exports = each_once (export_keys m);
  attributes = m.attributes;
  funs = functions-plain_asm 0 m.defs h.functions i;
}

literal_fits : (t : Term) → is_plain_literal t ≡ true → body_fits (literal_of t) ≡ true
literal_fits (T.int z) h = h
literal_fits (T.atom a) h = refl
literal_fits _ h = absurd (true≢false (sym h))

body_of_fits : (xs : List Binder) (e : Expr) → is_plain_body xs e ≡ true → body_fits (body_of xs e) ≡ true
body_of_fits xs (var p x) h = refl
body_of_fits xs (literal p t) h = literal_fits t h
body_of_fits xs _ h = absurd (true≢false (sym h))

fun_of_fits : (f : FunKey) (e : Expr) → is_plain_fun f e ≡ true → fun_fits (fun_of f e) ≡ true
fun_of_fits f (fun p xs e) h = let t : Tested f xs e = tested p f xs e h in ap₂ ◌&&◌ t.small (body_of_fits xs e t.body)
fun_of_fits f _ h = absurd (true≢false (sym h))

funs_fit : (ds : Defs) → are_plain ds ≡ true → every fun_fits (funs_of ds) ≡ true
funs_fit no_def h = refl
funs_fit (and_def (def p f e) ds) h =
    let a : (is_plain_fun f e ≡ true) × (are_plain ds ≡ true) = both (is_plain_fun f e) (are_plain ds) h in
    ap₂ ◌&&◌ (fun_of_fits f e a.0) (funs_fit ds a.1)

length-funs_of : (ds : Defs) → length (funs_of ds) ≡ length (keys_of ds)
length-funs_of no_def = refl
length-funs_of (and_def (def p f e) ds) = ap suc (length-funs_of ds)

few_enough : (n : ℕ) → leb n 20000 ≡ true → n < 2 ^ 31
few_enough n h = grind (arith, h)

pub fits_text : (m : Module) → IsPlain m → FitsText m (funs_of m.defs)
fits_text m h = record {
  few = subst (λ n. n < 2 ^ 31) (sym (length-funs_of m.defs)) (few_enough (length (keys_of m.defs)) h.few_functions);
  functions = funs_fit m.defs h.functions;
  attributes = subst (λ as'. every attribute_ok as' ≡ true) (sym h.no_attributes) refl;
}

-- The forms of its text.

-- a move of what is no literal, and a return
abbrev shallow : Insn → Bool
shallow (move (C.literal t) d) = false
shallow (move (reg r) d) = true
shallow (move (C.atom a) d) = true
shallow (move (C.integer z) d) = true
shallow (move C.nil d) = true
shallow return = true
shallow _ = false

abbrev fun_shallow : AsmFun → Bool
fun_shallow f = every shallow f.code

parameter_shallow : (n : ℕ) → every shallow (gives_parameter n) ≡ true
parameter_shallow zero = refl
parameter_shallow (suc n) = refl

literal_shallow : (t : Term) → is_plain_literal t ≡ true → every shallow (gives_literal t) ≡ true
literal_shallow (T.int z) h = refl
literal_shallow (T.atom a) h = refl
literal_shallow _ h = absurd (true≢false (sym h))

body_shallow : (xs : List Binder) (e : Expr) → is_plain_body xs e ≡ true → every shallow (gives_body xs e) ≡ true
body_shallow xs (var p x) h = parameter_shallow (index_of x xs)
body_shallow xs (literal p t) h = literal_shallow t h
body_shallow xs _ h = absurd (true≢false (sym h))

code_shallow : (f : FunKey) (e : Expr) → is_plain_fun f e ≡ true → every shallow (code e) ≡ true
code_shallow f (fun p xs e) h = let t : Tested f xs e = tested p f xs e h in body_shallow xs e t.body
code_shallow f _ h = absurd (true≢false (sym h))

functions_shallow : (k : ℕ) (ds : Defs) → are_plain ds ≡ true → every fun_shallow (functions k ds) ≡ true
functions_shallow k no_def h = refl
functions_shallow k (and_def (def p f e) ds) h =
    let a : (is_plain_fun f e ≡ true) × (are_plain ds ≡ true) = both (is_plain_fun f e) (are_plain ds) h in
    ap₂ ◌&&◌ (code_shallow f e a.0) (functions_shallow (suc k) ds a.1)

abbrev nests : Term → Bool
nests t = leb (depth t) most_nesting

insn_nests : (i : Insn) → shallow i ≡ true → nests (form i) ≡ true
unfolding depths
insn_nests (move (C.literal t) d) h = absurd (true≢false (sym h))
insn_nests (move (reg (x_reg n)) (x_reg k)) h = refl
insn_nests (move (reg (x_reg n)) (y_reg k)) h = refl
insn_nests (move (reg (y_reg n)) (x_reg k)) h = refl
insn_nests (move (reg (y_reg n)) (y_reg k)) h = refl
insn_nests (move (C.atom a) (x_reg k)) h = refl
insn_nests (move (C.atom a) (y_reg k)) h = refl
insn_nests (move (C.integer z) (x_reg k)) h = refl
insn_nests (move (C.integer z) (y_reg k)) h = refl
insn_nests (move C.nil (x_reg k)) h = refl
insn_nests (move C.nil (y_reg k)) h = refl
insn_nests return h = refl
insn_nests _ h = absurd (true≢false (sym h))

code_nests : (is : List Insn) → every shallow is ≡ true → list_all nests (map form is) ≡ true
code_nests [] h = refl
code_nests (i ∷ is) h =
    let a : (shallow i ≡ true) × (every shallow is ≡ true) = both (shallow i) (every shallow is) h in
    ap₂ ◌&&◌ (insn_nests i a.0) (code_nests is a.1)

joined_nest : (ts us : List Term) → list_all nests ts ≡ true → list_all nests us ≡ true
    → list_all nests (ts ++ us) ≡ true
joined_nest [] us h k = k
joined_nest (t ∷ ts) us h k =
    let a : (nests t ≡ true) × (list_all nests ts ≡ true) = both (nests t) (list_all nests ts) h in
    ap₂ ◌&&◌ a.0 (joined_nest ts us a.1 k)

head_nests : (m : List ℕ) (f : AsmFun) → list_all nests
    (function_form f ∷ form (C.label f.info) ∷ func_info_form m f.key ∷ form (C.label f.entry) ∷ []) ≡ true
unfolding depths
head_nests m f = refl

funs_nest : (m : List ℕ) (fs : List AsmFun) → every fun_shallow fs ≡ true
    → list_all nests (flat_map (function_forms m) fs) ≡ true
funs_nest m [] h = refl
funs_nest m (f ∷ fs) h =
    let a : (fun_shallow f ≡ true) × (every fun_shallow fs ≡ true) = both (fun_shallow f) (every fun_shallow fs) h in
    joined_nest (function_forms m f) (flat_map (function_forms m) fs)
    (joined_nest (function_form f ∷ form (C.label f.info) ∷ func_info_form m f.key ∷ form (C.label f.entry) ∷ [])
    (map form f.code) (head_nests m f) (code_nests f.code a.0))
    (funs_nest m fs a.1)

keys_rest : (ks : List FunKey) → (depths (list_of (map key_term ks) T.nil)).rest ≤ 2
unfolding depths
keys_rest [] = omega arith
keys_rest (k ∷ ks) = let more = keys_rest ks in omega arith

keys_whole : (ks : List FunKey) → (depths (list_of (map key_term ks) T.nil)).whole ≤ 3
unfolding depths
keys_whole [] = omega arith
keys_whole (k ∷ ks) = let more = keys_rest ks in omega arith

keys_nest : (ks : List FunKey) → nests (exports_form ks) ≡ true
unfolding depths
keys_nest ks = let few = keys_whole ks in le-leb _ most_nesting (omega arith)

named_nests : (m : List ℕ) → nests (module_form m) ≡ true
unfolding depths
named_nests m = refl

no_attribute_nests : nests (attributes_form []) ≡ true
unfolding depths
no_attribute_nests = refl

labels_nest : (fs : List AsmFun) → nests (labels_form fs) ≡ true
unfolding depths
labels_nest fs = refl

forms_nest : (m : Module) → IsPlain m → FormsNest most_nesting (assembly m)
unfolding FormsNest
forms_nest m h =
    subst (λ (ps : List (List ℕ × Term)). list_all nests (forms (record (assembly m) { attributes = ps })) ≡ true)
    (sym h.no_attributes)
    (ap₂ ◌&&◌ (named_nests m.name)
    (ap₂ ◌&&◌ (keys_nest (each_once (export_keys m)))
    (ap₂ ◌&&◌ no_attribute_nests
    (ap₂ ◌&&◌ (labels_nest (functions 0 m.defs))
    (funs_nest m.name (functions 0 m.defs) (functions_shallow 0 m.defs h.functions))))))

-- The terms that the program's module holds: there are none.

every_at : {A B : Type 0} (p : B → Bool) (g : A → B) (xs : List A) (x : A) → every p (map g xs) ≡ true
    → Contains xs x → p (g x) ≡ true
every_at p g [] x e w = absurd (omega (arith, w.1))
every_at p g (y ∷ ys) x e (zero, l, q) =
    ap (λ z. p (g z)) (sym q) ∙ (both (p (g y)) (every p (map g ys)) e).0
every_at p g (y ∷ ys) x e (suc k, l, q) =
    every_at p g ys x (both (p (g y)) (every p (map g ys)) e).1 (k, omega (arith, l), q)

moved : (s : Operand) (d : Reg) (t : Held) → shallow (move (source_view s) d) ≡ true → s ≡ S.Literal t → ⊥
moved s d t h e = true≢false (sym h ∙ ap (λ x. shallow (move (source_view x) d)) e)

no_literal : (i : Written) (t : Held) → shallow (insn_view i) ≡ true → Contains (sources_in i) (S.Literal t) → ⊥
no_literal (V.Move s d) t h (zero, l, q) = moved s (reg_view d) t h q
no_literal (V.Move s d) t h (suc k, l, q) = absurd (omega (arith, l))
no_literal V.Return t h w = absurd (omega (arith, w.1))
no_literal i t h w = absurd (true≢false (sym h))

no_attribute : (ps : List Attribute) (p : Attribute) → map attribute_view ps ≡ [] → Contains ps p → ⊥
no_attribute [] p e w = absurd (omega (arith, w.1))
no_attribute (q ∷ ps) p e w = cc

holds_no_terms : (m : Module) (a : Made) → IsPlain m → module_view a ≡ assembly m → IsWellFormedModule a
holds_no_terms m a h e =
    let same : map fun_view a.funs ≡ functions 0 m.defs = ap (λ (x : AsmModule). x.funs) e in
    let funs : every fun_shallow (map fun_view a.funs) ≡ true =
    subst (λ fs. every fun_shallow fs ≡ true) (sym same) (functions_shallow 0 m.defs h.functions) in
    let none : map attribute_view a.attributes ≡ [] = ap (λ (x : AsmModule). x.attributes) e ∙ h.no_attributes in
    record {
      literals = λ f i t w v u. absurd
          (no_literal i t (every_at shallow insn_view f.code i (every_at fun_shallow fun_view a.funs f funs w) v) u);
      attributes = λ p w. absurd (no_attribute a.attributes p none w);
    }

-- Of a text.

module _ (bytes : List ℕ) (m : Module) (a : AsmModule) (t : PlainText bytes m) (e : a ≡ assembly m) where
  pub has_code : HasCode bytes a
  has_code = record {
    tree = m;
    funs = funs_of m.defs;
    text = t;
    plain = is_plain_module m t.plain;
    code = e ∙ assembly-plain_assembly m t.plain;
  }

  pub nests_of : FormsNest most_nesting a
  nests_of = subst (FormsNest most_nesting) (sym e) (forms_nest m t.plain)

  pub is_valid : PlainAssemblyIsValid → Valid a
  is_valid law = subst Valid (sym (e ∙ assembly-plain_assembly m t.plain))
      (law m (funs_of m.defs) (is_plain_module m t.plain) (fits_text m t.plain))

-- of the program's own module
pub well_formed_of : (bytes : List ℕ) (m : Module) (a : Made) → PlainText bytes m → module_view a ≡ assembly m
    → IsWellFormedModule a
well_formed_of bytes m a t e = holds_no_terms m a t.plain e
