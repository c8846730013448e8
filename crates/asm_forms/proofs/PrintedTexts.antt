-- A valid module is the one that its forms have.
use Rattle.std.proofs.Common.{◌≡◌, ℕ, ◌+◌, ◌<◌, refl, sym, ap, ◌∙◌, subst, List, [], ◌∷◌, ◌++◌, map, flat_map, Bool, true, false, ◌&&◌, ◌||◌, eqb, leb, ltb, arith}
use Rattle.std.specs.Option.{option_map}
use Rattle.std.proofs.lemmas.Bool.{lt-ltb}
use borrow.Author.Tests.{eqb-true, eq-eqb}
use Rattle.erl_base.specs.Names.{Name, same_name, same_key, is_key, keys_distinct}
use Rattle.erl_base.specs.declared.ids.FunKey.{FunKey}
use Rattle.erl_term.proofs.Forms.{left_true, right_true, both_true}
use Rattle.term_read.specs.Lexemes.{◌>>=◌}
use Rattle.beam_table.specs.Code.{Insn, AsmFun, AsmModule}
use Rattle.beam_table.specs.OperandBounds.{most_arity, label_ok, insn_ok}
use Rattle.beam_table.specs.ModuleForms.{greatest, attributes_form, labels_form, function_forms, forms}
use Rattle.beam_table.specs.ValidModule.{every, labels_in, all_labels, entries_of, names_own, names_entries, labels_of, fun_ok, Valid}
use Rattle.insn_terms.proofs.Apart.{same_itself}
use Rattle.asm_forms.specs.Stages.{FunForms, Head, behind_exports, behind_attributes, stage_behind_all, whole_head}
use Rattle.asm_forms.specs.ModuleOfText.{module_of_head, func_info_agrees, FormsOf}
use Rattle.asm_forms.proofs.PrintedModules.{InsnsRead, read_fun, fun_good, exports_there, attributes_there, all_funs_read}

-- What a valid module says of its functions.

back_of : {A : Type 0} (p : A → Bool) (xs ys : List A) → every p (xs ++ ys) ≡ true → every p ys ≡ true
back_of p [] ys h = h
back_of p (x ∷ xs) ys h = back_of p xs ys (right_true (p x) (every p (xs ++ ys)) h)

code_ok : (es ls : List ℕ) (is : List Insn)
    → every (λ i. insn_ok i && names_own ls i && names_entries es i) is ≡ true → every insn_ok is ≡ true
code_ok es ls [] h = refl
code_ok es ls (i ∷ is) h =
    let first = left_true (insn_ok i && names_own ls i && names_entries es i) _ h in
    both_true (insn_ok i) (every insn_ok is)
    (left_true (insn_ok i) (names_own ls i) (left_true (insn_ok i && names_own ls i) (names_entries es i) first))
    (code_ok es ls is (right_true (insn_ok i && names_own ls i && names_entries es i) _ h))

good_of : (es : List ℕ) (f : AsmFun) → label_ok f.info ≡ true → label_ok f.entry ≡ true → fun_ok es f ≡ true
    → fun_good f ≡ true
unfolding fun_ok
good_of es f i e h =
    both_true (leb f.key.arity most_arity) (label_ok f.info && (label_ok f.entry && every insn_ok f.code))
    (left_true (leb f.key.arity most_arity) _ h)
    (both_true (label_ok f.info) (label_ok f.entry && every insn_ok f.code) i
    (both_true (label_ok f.entry) (every insn_ok f.code) e
    (code_ok es (labels_of f) f.code (right_true (leb f.key.arity most_arity) _ h))))

pub all_good : (es : List ℕ) (fs : List AsmFun) → every label_ok (all_labels fs) ≡ true → every (fun_ok es) fs ≡ true
    → every fun_good fs ≡ true
all_good es [] h k = refl
all_good es (f ∷ fs) h k =
    let rest = right_true (label_ok f.info) (every label_ok (f.entry ∷ (labels_in f.code ++ all_labels fs))) h in
    both_true (fun_good f) (every fun_good fs)
    (good_of es f (left_true (label_ok f.info) _ h) (left_true (label_ok f.entry) _ rest)
    (left_true (fun_ok es f) (every (fun_ok es) fs) k))
    (all_good es fs
    (back_of label_ok (labels_in f.code) (all_labels fs) (right_true (label_ok f.entry) _ rest))
    (right_true (fun_ok es f) _ k))

-- an exported function has the arity of one that is there
short_key : (f : FunKey) (fs : List AsmFun) → is_key f (map (λ g. g.key) fs) ≡ true → every fun_good fs ≡ true
    → leb f.arity most_arity ≡ true
short_key f [] h g = absurd cc
short_key f (x ∷ fs) h g =
    by (same_key f x.key) refl h (λ k. short_key f fs k (right_true (fun_good x) (every fun_good fs) g))
  where
    by : (b : Bool) → same_key f x.key ≡ b → (b || is_key f (map (λ g. g.key) fs)) ≡ true
        → (is_key f (map (λ g. g.key) fs) ≡ true → leb f.arity most_arity ≡ true) → leb f.arity most_arity ≡ true
    by true e k later =
        ap (λ n. leb n most_arity) (eqb-true f.arity x.key.arity (right_true (same_name f.name x.key.name) _ e))
        ∙ left_true (leb x.key.arity most_arity) _ (left_true (fun_good x) (every fun_good fs) g)
    by false e k later = later k

pub short_keys : (es : List FunKey) (fs : List AsmFun) → every (λ f. is_key f (map (λ g. g.key) fs)) es ≡ true
    → every fun_good fs ≡ true → every (λ f. leb f.arity most_arity) es ≡ true
short_keys [] fs h g = refl
short_keys (e ∷ es) fs h g =
    both_true (leb e.arity most_arity) (every (λ f. leb f.arity most_arity) es)
    (short_key e fs (left_true (is_key e (map (λ g. g.key) fs)) _ h) g)
    (short_keys es fs (right_true (is_key e (map (λ g. g.key) fs)) _ h) g)

-- What holds of the forms of a module.

funs_back : (m : Name) (fs : List AsmFun) → map (λ (f : FunForms). f.fun) (map (read_fun m) fs) ≡ fs
funs_back m [] = refl
funs_back m (f ∷ fs) = ap (λ gs. f ∷ gs) (funs_back m fs)

infos_agree : (h : Head) (fs : List AsmFun) → every (func_info_agrees h) (map (read_fun h.name) fs) ≡ true
infos_agree h [] = refl
infos_agree h (f ∷ fs) =
    both_true (func_info_agrees h (read_fun h.name f)) (every (func_info_agrees h) (map (read_fun h.name) fs))
    (both_true (same_name h.name h.name) (same_key f.key f.key) (same_itself h.name)
    (both_true (same_name f.key.name f.key.name) (eqb f.key.arity f.key.arity) (same_itself f.key.name)
    (eq-eqb f.key.arity f.key.arity refl)))
    (infos_agree h fs)

all_below : (ls : List ℕ) (n : ℕ) → greatest ls < n → every (λ l. ltb l n) ls ≡ true
all_below [] n h = refl
all_below (l ∷ ls) n h =
    both_true (ltb l n) (every (λ l. ltb l n) ls) (lt-ltb l n (omega (arith, h))) (all_below ls n (omega (arith, h)))

-- the head that is read of a module's forms
head_of : AsmModule → Head
head_of a = record {
  name = a.name;
  exports = a.exports;
  attributes = a.attributes;
  limit = greatest (all_labels a.funs) + 1;
  funs = map (read_fun a.name) a.funs;
}

whole_of : (a : AsmModule) → module_of_head (head_of a) ≡ a
unfolding head_of
whole_of a = ap (λ fs. record a { funs = fs }) (funs_back a.name a.funs)

pub printed_forms : InsnsRead → (a : AsmModule) → Valid a → FormsOf (forms a) a
unfolding head_of
printed_forms r a v =
    let good =
    all_good (entries_of a.funs) a.funs (left_true (every label_ok (all_labels a.funs)) _ v.labels) v.functions in
    let start : Head = record {
      name = a.name;
      exports = a.exports;
      attributes = a.attributes;
      limit = greatest (all_labels a.funs) + 1;
      funs = [];
    } in
    let rest = flat_map (function_forms a.name) a.funs in
    let distinct = left_true (keys_distinct a.exports) _ v.exports in
    let short = short_keys a.exports a.funs (right_true (keys_distinct a.exports) _ v.exports) good in
    record {
      head = head_of a;
      ordered = ap (λ o. (option_map (behind_exports a.name) o >>= λ u.
          stage_behind_all u (attributes_form a.attributes ∷ labels_form a.funs ∷ rest)) >>= whole_head)
          (exports_there a.exports short distinct)
          ∙ ap (λ o. (option_map (behind_attributes a.name a.exports) o >>= λ u.
          stage_behind_all u (labels_form a.funs ∷ rest)) >>= whole_head) (attributes_there a.attributes)
          ∙ all_funs_read r start a.name a.funs refl good;
      agree = record {
        infos = infos_agree (head_of a) a.funs;
        below =
            ap (λ fs. every (λ l. ltb l (greatest (all_labels a.funs) + 1)) (all_labels fs)) (funs_back a.name a.funs)
            ∙ all_below (all_labels a.funs) (greatest (all_labels a.funs) + 1) (omega arith);
        valid = subst Valid (sym (whole_of a)) v;
      };
      whole = whole_of a;
    }
