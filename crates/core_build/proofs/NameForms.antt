-- How variables, names of functions and atoms are read where nothing else may stand.
use Rattle.std.proofs.Common.{◌≡◌, refl, subst, ◌+◌, ℕ, suc, List, ◌∷◌, true}
use Rattle.erl_base.specs.declared.ids.Place.{Place}
use Rattle.core_form.specs.Core as C
use Rattle.core_grammar.specs.WrittenTree.{Tree, variable, atom, number, wide, function_name, noted, first_place}
use Rattle.core_grammar.specs.Standing.{a_variable, a_name, an_atom, note, segment_value, Stands}
use Rattle.core_grammar.specs.Signs.{Sign, on}
use Rattle.core_grammar.specs.ModuleOf.{inner_place, variable_name, atom_name, name_key, binder_of}
use Rattle.core_actions.specs.Read.{read_pattern}
use Rattle.core_build.specs.declared.item.Item.{Item}
use Rattle.core_build.specs.declared.item.Item.TheVariants as I
use Rattle.core_build.specs.Values.{Value, pattern, binder, name, atom as atom_value}
use Rattle.core_build.specs.Making.{pattern_node}
use Rattle.core_build.proofs.Fronts.{never, any_kind, no_equals, quiet, no_alias, quiet_no_alias, quiet_no_guard}
use Rattle.core_build.proofs.Leads.{at, seen, arity_seen, passes, Reaches, Reads, Skipped, annotated_reads}
use Rattle.core_build.proofs.TakenForms.{stands_taken}
use Rattle.core_build.proofs.ExprForms.{arity_goes}

-- with nothing behind it
alone_first : (f : List Sign → List Sign) (v : Value)
    → ((r : List Sign) (is : List Item) (vs y : List Value) → Reaches r (I.AliasRest ∷ is) (v ∷ vs) y
    → Reaches (f r) (I.Pattern ∷ is) vs y) → Reads no_equals f I.Pattern v
alone_first f v h = record { on = λ r is vs y e k. h r is vs y (passes no_equals no_alias e refl k) }

alone_of_clause : (f : List Sign → List Sign) (v : Value) (p : Place)
    → ((r : List Sign) (is : List Item) (vs y : List Value)
    → Reaches r (I.AliasRest ∷ I.When p ∷ is) (v ∷ vs) y → Reaches (f r) (I.Clause ∷ is) vs y)
    → Reads quiet f I.Clause v
alone_of_clause f v p h = record {
  on = λ r is vs y e k.
      h r is vs y (passes quiet quiet_no_alias e refl (passes quiet (quiet_no_guard p) e refl k));
}

-- Notes are skipped.
module _ (skip : (d : ℕ) (n : Tree) → Skipped (on true note d n)) where
  pub variable_read : (d : ℕ) (t : Tree) → Stands a_variable t
      → Reads any_kind (on true a_variable d t) I.Variable (binder (binder_of t))
  variable_read d (variable p x) h = record { on = λ r is vs y e k. at k }
  variable_read d (noted p t n) h = record {
    on = λ r is vs y e k.
        at (annotated_reads any_kind _ refl (variable_read _ t h.0) (skip _ n) r _ _ _ (seen λ q. k));
  }
  variable_read d t h = never (stands_taken a_variable t h)

  pub atom_read : (d : ℕ) (t : Tree) → Stands an_atom t
      → Reads any_kind (on true an_atom d t) I.Atom (atom_value (inner_place t) (atom_name t))
  atom_read d (atom p a) h = record { on = λ r is vs y e k. at k }
  atom_read d (noted p t n) h = record {
    on = λ r is vs y e k.
        at (annotated_reads any_kind _ refl (atom_read _ t h.0) (skip _ n) r _ _ _ (seen λ q. k));
  }
  atom_read d t h = never (stands_taken an_atom t h)

  pub name_read : (d : ℕ) (t : Tree) → Stands a_name t
      → Reads any_kind (on true a_name d t) I.Name (name (record { key = name_key t; place = inner_place t }))
  name_read d (function_name p a n) h = record {
    on = λ r is vs y e k. at (seen λ q. arity_seen λ q. arity_goes n _ h.1 refl k);
  }
  name_read d (noted p t n) h = record {
    on = λ r is vs y e k.
        at (annotated_reads any_kind _ refl (name_read _ t h.0) (skip _ n) r _ _ _ (seen λ q. k));
  }
  name_read d t h = never (stands_taken a_name t h)

  -- A variable of a pattern, before it is known whether a pattern of its own follows.

  abbrev pub variable_value : Tree → Value
  variable_value t = pattern_node (C.any (inner_place t) (variable_name t))

  -- of a pattern that is to be read
  pub variable_first : (d : ℕ) (t : Tree) → Stands a_variable t → (r : List Sign) (is : List Item)
      (vs y : List Value) → Reaches r (I.AliasRest ∷ is) (variable_value t ∷ vs) y
      → Reaches (on true a_variable d t r) (I.Pattern ∷ is) vs y
  variable_first d (variable p x) h r is vs y k = at k
  variable_first d (noted p t n) h r is vs y k =
      at (annotated_reads no_equals (suc (0 + d)) refl
      (alone_first (on true a_variable (suc d) t) (variable_value t) (variable_first (suc d) t h.0))
      (skip (suc (0 + d)) n) r _ _ _ (seen λ q. k))
  variable_first d t h r is vs y k = never (stands_taken a_variable t h)

  -- of a clause
  pub variable_of_clause : (d : ℕ) (t : Tree) → Stands a_variable t → (r : List Sign) (is : List Item)
      (vs y : List Value) → Reaches r (I.AliasRest ∷ I.When (first_place t) ∷ is) (variable_value t ∷ vs) y
      → Reaches (on true a_variable d t r) (I.Clause ∷ is) vs y
  variable_of_clause d (variable p x) h r is vs y k = at k
  variable_of_clause d (noted p t n) h r is vs y k =
      at (annotated_reads quiet (suc (0 + d)) refl
      (alone_of_clause (on true a_variable (suc d) t) (variable_value t) (first_place t)
      (variable_of_clause (suc d) t h.0))
      (skip (suc (0 + d)) n) r _ _ _ (seen λ q. k))
  variable_of_clause d t h r is vs y k = never (stands_taken a_variable t h)

  variable_pattern : (t : Tree) → Stands a_variable t → variable_value t ≡ pattern (read_pattern t)
  variable_pattern (variable p x) h = refl
  variable_pattern (noted p t n) h = variable_pattern t h.0
  variable_pattern t h = never (stands_taken a_variable t h)

  -- the value of a segment of a pattern
  pub segment_value_read : (d : ℕ) (t : Tree) → Stands segment_value t
      → Reads no_equals (on true segment_value d t) I.Pattern (pattern (read_pattern t))
  segment_value_read d (variable p x) h = record {
    on = λ r is vs y e k. at (passes no_equals no_alias e refl k);
  }
  segment_value_read d (number p g z) h = record { on = λ r is vs y e k. at k }
  segment_value_read d (wide p n) h = record { on = λ r is vs y e k. at k }
  segment_value_read d (noted p t n) h = record {
    on = λ r is vs y e k.
        at (annotated_reads no_equals (suc (0 + d)) refl
        (subst (λ v. Reads no_equals (on true a_variable (suc d) t) I.Pattern v) (variable_pattern t h.0)
        (alone_first (on true a_variable (suc d) t) (variable_value t) (variable_first (suc d) t h.0)))
        (skip (suc (0 + d)) n) r _ _ _ (seen λ q. passes no_equals no_alias e refl k));
  }
  segment_value_read d t h = never (stands_taken segment_value t h)
