-- Rows, where all of them are there.
use Rattle.std.proofs.Common.{◌≡◌, refl, sym, ap, ◌∙◌, List, [], ◌∷◌, ◌++◌, append_assoc, append-nil, Option, None, Some}
use Rattle.core_grammar.specs.ConstantTerms.{and_item}

abbrev pub both_rows : {A : Type 0} → Option (List A) → Option (List A) → Option (List A)
both_rows None o = None
both_rows (Some xs) None = None
both_rows (Some xs) (Some ys) = Some (xs ++ ys)

pub none_before : {A : Type 0} (o : Option (List A)) → o ≡ both_rows (Some []) o
none_before None = refl
none_before (Some xs) = refl

pub item_before : {A : Type 0} (o : Option A) (os ps : Option (List A))
    → and_item o (both_rows os ps) ≡ both_rows (and_item o os) ps
item_before None os ps = refl
item_before (Some t) None ps = refl
item_before (Some t) (Some xs) None = refl
item_before (Some t) (Some xs) (Some ys) = refl

-- one more of the first row
pub row_moved : {A : Type 0} (xs : List A) (x : A) (o : Option (List A))
    → both_rows (Some xs) (and_item (Some x) o) ≡ both_rows (Some (xs ++ x ∷ [])) o
row_moved xs x None = refl
row_moved xs x (Some ys) = ap Some (sym (append_assoc xs (x ∷ []) ys))

pub row_ended : {A : Type 0} (xs : List A) (o : Option (List A)) → both_rows (Some xs) (Some []) ≡ o → o ≡ Some xs
row_ended xs o e = sym e ∙ ap Some (append-nil xs)
