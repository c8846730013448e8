-- Rows of each kind, of readings of their parts: what is put together of their parts.
use Rattle.std.proofs.Common.{◌≡◌, refl, sym, ap, ◌∙◌, subst, ℕ, List, [], ◌∷◌, ◌++◌, append_assoc}
use Rattle.std.proofs.lemmas.List.{append-nil}
use Rattle.erl_base.specs.Names.{Name}
use Rattle.erl_term.specs.Term.{Term}
use Rattle.core_lex.specs.declared.token.Symbol.TheVariants as S
use Rattle.core_form.specs.declared.tree.Binder.{Binder}
use Rattle.core_form.specs.declared.module.FunName.{FunName}
use Rattle.core_form.specs.Core as C
use Rattle.core_form.specs.View as Rows
use Rattle.core_grammar.specs.Signs.{Sign, symbol}
use Rattle.core_build.specs.declared.item.Item.{Item}
use Rattle.core_build.specs.declared.item.Item.TheVariants as I
use Rattle.core_build.specs.declared.item.Row.{Row}
use Rattle.core_build.specs.declared.item.Row.TheVariants as R
use Rattle.core_build.specs.Values.{Value, exprs, patterns, binders, names, pairs, keys, segs, clauses, defs, attributes, no_parts}
use Rattle.core_build.specs.Making.{with}
use Rattle.core_build.proofs.Leads.{ReadsRow, Begins, Gathers}
use Rattle.core_build.proofs.RowParts.{Part, Rest, no_rest, no_more, rest_on, more_on, row_of_none, row_of_some}

-- a kind of rows: its values, and what parts are put together to, of one and the others
pub record Kind (A B : Type 0) : Type 0 where
  pub row : Row
  pub value : List A → Value
  pub together : List A → B
  pub cons : A → B → B
  pub first : (x : A) (xs : List A) → together (x ∷ xs) ≡ cons x (together xs)
  pub starts : no_parts row ≡ value []

abbrev pub exprs_kind : Kind C.Expr C.Exprs
exprs_kind = record {
  row = R.Exprs;
  value = exprs;
  together = Rows.exprs;
  cons = C.and_expr;
  first = λ x xs. refl;
  starts = refl;
}

abbrev pub patterns_kind : Kind C.Pattern C.Patterns
patterns_kind = record {
  row = R.Patterns;
  value = patterns;
  together = Rows.patterns;
  cons = C.and_pattern;
  first = λ x xs. refl;
  starts = refl;
}

abbrev pub binders_kind : Kind Binder (List Binder)
binders_kind = record {
  row = R.Binders;
  value = binders;
  together = λ xs. xs;
  cons = λ x xs. x ∷ xs;
  first = λ x xs. refl;
  starts = refl;
}

abbrev pub names_kind : Kind FunName (List FunName)
names_kind = record {
  row = R.Names;
  value = names;
  together = λ xs. xs;
  cons = λ x xs. x ∷ xs;
  first = λ x xs. refl;
  starts = refl;
}

abbrev pub pairs_kind : Kind C.MapPart C.MapParts
pairs_kind = record {
  row = R.Pairs;
  value = pairs;
  together = Rows.parts;
  cons = C.and_part;
  first = λ x xs. refl;
  starts = refl;
}

abbrev pub keys_kind : Kind C.KeyPattern C.KeyPatterns
keys_kind = record {
  row = R.Keys;
  value = keys;
  together = Rows.keys;
  cons = C.and_key;
  first = λ x xs. refl;
  starts = refl;
}

abbrev pub segs_kind : Kind C.SegPattern C.SegPatterns
segs_kind = record {
  row = R.Segs;
  value = segs;
  together = Rows.segs;
  cons = C.and_seg;
  first = λ x xs. refl;
  starts = refl;
}

abbrev pub clauses_kind : Kind C.Clause C.Clauses
clauses_kind = record {
  row = R.Clauses;
  value = clauses;
  together = Rows.clauses;
  cons = C.and_clause;
  first = λ x xs. refl;
  starts = refl;
}

abbrev pub defs_kind : Kind C.Def C.Defs
defs_kind = record {
  row = R.Defs;
  value = defs;
  together = Rows.defs;
  cons = C.and_def;
  first = λ x xs. refl;
  starts = refl;
}

abbrev pub attributes_kind : Kind (Name × Term) (List (Name × Term))
attributes_kind = record {
  row = R.Attributes;
  value = attributes;
  together = λ xs. xs;
  cons = λ x xs. x ∷ xs;
  first = λ x xs. refl;
  starts = refl;
}

module _ {A B : Type 0} (K : Kind A B) where
  -- the rest of a row, whose parts put together are b
  pub record Adds (f : List Sign → List Sign) (j : Item) (b : B) : Type 0 where
    pub kept : List A
    pub adds : (xs : List A) → Rest f j (K.value xs) (K.value (xs ++ kept))
    pub is : K.together kept ≡ b

  -- a part, whatever is before it
  abbrev pub Adding : (f : List Sign → List Sign) (j : Item) (x : A) → Type 0
  Adding f j x = (xs : List A) → Part f K.row j (K.value xs) (K.value (with xs x))

  none_behind : {f : List Sign → List Sign} {j : Item} (xs : List A) → Rest f j (K.value xs) (K.value xs)
      → Rest f j (K.value xs) (K.value (xs ++ []))
  none_behind {f = f} {j = j} xs F = subst (λ ys. Rest f j (K.value xs) (K.value ys)) (sym (append-nil xs)) F

  one_moved : {f : List Sign → List Sign} {j : Item} (xs : List A) (y : A) (ys : List A)
      → Rest f j (K.value xs) (K.value (with xs y ++ ys)) → Rest f j (K.value xs) (K.value (xs ++ y ∷ ys))
  one_moved {f = f} {j = j} xs y ys F =
      subst (λ zs. Rest f j (K.value xs) (K.value zs)) (append_assoc xs (y ∷ []) ys) F

  -- no part behind a comma
  pub adds_none : Adds (λ r. r) (I.More K.row) (K.together [])
  adds_none = record { kept = []; adds = λ xs. none_behind xs (no_rest K.row (K.value xs)); is = refl }

  -- a part behind a comma
  pub adds_one : (d : ℕ) {f g : List Sign → List Sign} {x : A} {b : B} → Adding f (I.More K.row) x
      → Adds g (I.More K.row) b → Adds (λ r. symbol d S.Comma (f (g r))) (I.More K.row) (K.cons x b)
  adds_one d {x = x} P G = record {
    kept = x ∷ G.kept;
    adds = λ xs. one_moved xs x G.kept (rest_on d K.row (P xs) (G.adds (with xs x)));
    is = K.first x G.kept ∙ ap (K.cons x) G.is;
  }

  -- no part without commas
  pub ends_none : Adds (λ r. r) (I.Row K.row) (K.together [])
  ends_none = record { kept = []; adds = λ xs. none_behind xs (no_more K.row (K.value xs)); is = refl }

  -- a part without commas
  pub ends_one : {f g : List Sign → List Sign} {x : A} {b : B} → Begins f → Adding f (I.Row K.row) x
      → Adds g (I.Row K.row) b → Adds (λ r. f (g r)) (I.Row K.row) (K.cons x b)
  ends_one {x = x} B P G = record {
    kept = x ∷ G.kept;
    adds = λ xs. one_moved xs x G.kept (more_on K.row B (P xs) (G.adds (with xs x)));
    is = K.first x G.kept ∙ ap (K.cons x) G.is;
  }

  -- a row without parts
  pub gathers_none : Gathers K.row K.value K.together (λ r. r) (K.together [])
  gathers_none = record {
    kept = [];
    reads = subst (λ v. ReadsRow (λ r. r) K.row v) K.starts (row_of_none K.row);
    is = refl;
  }

  -- a row with a first part
  pub gathers_some : (j : Item) {f g : List Sign → List Sign} {x : A} {b : B} → Begins f → Adding f j x
      → Adds g j b → Gathers K.row K.value K.together (λ r. f (g r)) (K.cons x b)
  gathers_some j {f = f} {x = x} B P G = record {
    kept = x ∷ G.kept;
    reads =
        row_of_some K.row j B (subst (λ v. Part f K.row j v (K.value (x ∷ []))) (sym K.starts) (P []))
        (G.adds (x ∷ []));
    is = K.first x G.kept ∙ ap (K.cons x) G.is;
  }
