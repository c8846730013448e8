-- A plain module's code in the words of same behaviour.
use Rattle.std.proofs.Common.{◌≡◌, ◌+◌, ◌*◌, ℕ, zero, suc, pos, List, [], ◌∷◌, ◌&&◌, ◌||◌, Bool, true, false, not, eqb, leb, length, map, Some, None, refl, sym, ap, ap₂, ◌∙◌, true≢false}
use Rattle.erl_base.specs.Names.{Name, same_name}
use Rattle.erl_base.specs.declared.ids.FunKey.{FunKey}
use Rattle.erl_term.specs.Term as T
use Rattle.erl_term.specs.Term.{Term}
use Rattle.core_form.specs.declared.tree.Binder.{Binder}
use Rattle.core_form.specs.Core.{Expr, literal, var, fun, Defs, no_def, and_def, def}
use Rattle.beam_table.specs.Code.{Insn, AsmFun}
use Rattle.behaviour.specs.PlainModules.{PlainBody, number, atom, parameter, PlainFun, later_place, parameter_place, as_parameter, plain_body, with_key, plain_fun, both_plain, plain_funs, plain_code, plain_asm}
use Rattle.pass_line.specs.PlainModule.{is_plain_atom, is_bound, are_distinct, is_plain_literal, is_plain_body, is_plain_fun, are_plain, keys_of}
use Rattle.pass_line.specs.PlainCode.{index_of, gives_parameter, gives_literal, gives_body, code, functions}
use Rattle.pass_line.proofs.Names.{same_name-Decides, both}
use Rattle.pass_line.proofs.Reading.{if_true, if_false}

-- What each definition gives.

abbrev pub literal_of : Term → PlainBody
literal_of (T.int z) = number z
literal_of (T.atom a) = atom a
literal_of _ = number (pos 0)

abbrev pub body_of : List Binder → Expr → PlainBody
body_of xs (var p x) = parameter (index_of x xs)
body_of xs (literal p t) = literal_of t
body_of xs _ = number (pos 0)

abbrev pub body_in : Expr → PlainBody
body_in (fun p xs e) = body_of xs e
body_in _ = number (pos 0)

abbrev pub fun_of : FunKey → Expr → PlainFun
fun_of f e = record { key = f; body = body_in e }

abbrev pub funs_of : Defs → List PlainFun
funs_of no_def = []
funs_of (and_def (def p f e) ds) = fun_of f e ∷ funs_of ds

-- Parameters.

either : (a b : Bool) → (a || b) ≡ false → (a ≡ false) × (b ≡ false)
either true b h = absurd (true≢false h)
either false b h = (refl, h)

not_true : (a : Bool) → not a ≡ true → a ≡ false
not_true true h = absurd (true≢false (sym h))
not_true false h = refl

unbound : (x : Name) (xs : List Binder) → is_bound x xs ≡ false → parameter_place x xs ≡ None
unbound x [] h = refl
unbound x (y ∷ ys) h =
    let p : (same_name x y.name ≡ false) × (is_bound x ys ≡ false) = either (same_name x y.name) (is_bound x ys) h in
    ap₂ later_place p.0 (unbound x ys p.1)

bound : (x : Name) (xs : List Binder) → are_distinct xs ≡ true → is_bound x xs ≡ true
    → parameter_place x xs ≡ Some (index_of x xs)
bound x [] d h = absurd (true≢false (sym h))
bound x (y ∷ ys) d h = by (same_name x y.name) refl (bound x ys)
  where
    by : (b : Bool) → same_name x y.name ≡ b →
        (are_distinct ys ≡ true → is_bound x ys ≡ true → parameter_place x ys ≡ Some (index_of x ys)) →
        parameter_place x (y ∷ ys) ≡ Some (index_of x (y ∷ ys))
    by true e rest =
        let q : (not (is_bound y.name ys) ≡ true) × (are_distinct ys ≡ true) =
        both (not (is_bound y.name ys)) (are_distinct ys) d in
        let u : is_bound x ys ≡ false =
        ap (λ n. is_bound n ys) ((same_name-Decides x y.name).0 e) ∙ not_true (is_bound y.name ys) q.0 in
        ap₂ later_place e (unbound x ys u) ∙ ap Some (sym (if_true (same_name x y.name) 0 (suc (index_of x ys)) e))
    by false e rest =
        let q : (not (is_bound y.name ys) ≡ true) × (are_distinct ys ≡ true) =
        both (not (is_bound y.name ys)) (are_distinct ys) d in
        let r : is_bound x ys ≡ true = ap (λ b. b || is_bound x ys) (sym e) ∙ h in
        ap₂ later_place e (rest q.1 r) ∙ ap Some (sym (if_false (same_name x y.name) 0 (suc (index_of x ys)) e))

-- Bodies and definitions.

plain_literal : (p : _) (xs : List Binder) (t : Term) → is_plain_literal t ≡ true
    → plain_body xs (literal p t) ≡ Some (literal_of t)
plain_literal p xs (T.int z) h = refl
plain_literal p xs (T.atom a) h = refl
plain_literal p xs _ h = absurd (true≢false (sym h))

plain_bodied : (xs : List Binder) (e : Expr) → are_distinct xs ≡ true → is_plain_body xs e ≡ true
    → plain_body xs e ≡ Some (body_of xs e)
plain_bodied xs (var p x) d h = ap as_parameter (bound x xs d h)
plain_bodied xs (literal p t) d h = plain_literal p xs t h
plain_bodied xs _ d h = absurd (true≢false (sym h))

-- what is tested of a function
pub record Tested (f : FunKey) (xs : List Binder) (e : Expr) : Type 0 where
  pub small : leb f.arity 255 ≡ true
  pub arity : eqb f.arity (length xs) ≡ true
  pub distinct : are_distinct xs ≡ true
  pub name : is_plain_atom f.name ≡ true
  pub body : is_plain_body xs e ≡ true

pub tested : (p : _) (f : FunKey) (xs : List Binder) (e : Expr) → is_plain_fun f (fun p xs e) ≡ true → Tested f xs e
tested p f xs e h =
    let a : ((leb f.arity 255 && eqb f.arity (length xs) && are_distinct xs && is_plain_atom f.name) ≡ true)
    × (is_plain_body xs e ≡ true)
    = both (leb f.arity 255 && eqb f.arity (length xs) && are_distinct xs && is_plain_atom f.name)
    (is_plain_body xs e) h in
    let b : ((leb f.arity 255 && eqb f.arity (length xs) && are_distinct xs) ≡ true) × (is_plain_atom f.name ≡ true)
    = both (leb f.arity 255 && eqb f.arity (length xs) && are_distinct xs) (is_plain_atom f.name) a.0 in
    let c : ((leb f.arity 255 && eqb f.arity (length xs)) ≡ true) × (are_distinct xs ≡ true)
    = both (leb f.arity 255 && eqb f.arity (length xs)) (are_distinct xs) b.0 in
    let d : (leb f.arity 255 ≡ true) × (eqb f.arity (length xs) ≡ true) =
    both (leb f.arity 255) (eqb f.arity (length xs)) c.0 in
    record { small = d.0; arity = d.1; distinct = c.1; name = b.1; body = a.1 }

plain_funned : (f : FunKey) (e : Expr) → is_plain_fun f e ≡ true → plain_fun f e ≡ Some (fun_of f e)
plain_funned f (fun p xs e) h =
    let t : Tested f xs e = tested p f xs e h in
    if_true (eqb f.arity (length xs)) (with_key f (plain_body xs e)) None t.arity
    ∙ ap (with_key f) (plain_bodied xs e t.distinct t.body)
plain_funned f _ h = absurd (true≢false (sym h))

pub plain_funs-are_plain : (ds : Defs) → are_plain ds ≡ true → plain_funs ds ≡ Some (funs_of ds)
plain_funs-are_plain no_def h = refl
plain_funs-are_plain (and_def (def p f e) ds) h =
    let a : (is_plain_fun f e ≡ true) × (are_plain ds ≡ true) = both (is_plain_fun f e) (are_plain ds) h in
    ap₂ both_plain (plain_funned f e a.0) (plain_funs-are_plain ds a.1)

pub keys-funs_of : (ds : Defs) → map (λ h. h.key) (funs_of ds) ≡ keys_of ds
keys-funs_of no_def = refl
keys-funs_of (and_def (def p f e) ds) = ap (λ l. f ∷ l) (keys-funs_of ds)

-- The code.

parameter_code : (n : ℕ) → gives_parameter n ≡ plain_code (parameter n)
parameter_code zero = refl
parameter_code (suc n) = refl

literal_code : (t : Term) → is_plain_literal t ≡ true → gives_literal t ≡ plain_code (literal_of t)
literal_code (T.int z) h = refl
literal_code (T.atom a) h = refl
literal_code _ h = absurd (true≢false (sym h))

body_code : (xs : List Binder) (e : Expr) → is_plain_body xs e ≡ true → gives_body xs e ≡ plain_code (body_of xs e)
body_code xs (var p x) h = parameter_code (index_of x xs)
body_code xs (literal p t) h = literal_code t h
body_code xs _ h = absurd (true≢false (sym h))

fun_code : (f : FunKey) (e : Expr) → is_plain_fun f e ≡ true → code e ≡ plain_code (body_in e)
fun_code f (fun p xs e) h = let t : Tested f xs e = tested p f xs e h in body_code xs e t.body
fun_code f _ h = absurd (true≢false (sym h))

pub functions-plain_asm : (k : ℕ) (ds : Defs) → are_plain ds ≡ true → functions k ds ≡ plain_asm k (funs_of ds)
functions-plain_asm k no_def h = refl
functions-plain_asm k (and_def (def p f e) ds) h =
    let a : (is_plain_fun f e ≡ true) × (are_plain ds ≡ true) = both (is_plain_fun f e) (are_plain ds) h in
    let g : List Insn → AsmFun = λ is. record { key = f; info = 2 * k + 1; entry = 2 * k + 2; code = is } in
    ap₂ (λ is fs. g is ∷ fs) (fun_code f e a.0) (functions-plain_asm (suc k) ds a.1)
