-- What a text gives is the tree of a source.
use Rattle.std.proofs.Common.{◌≡◌, refl, sym, subst, ℕ, suc, Bool, true, false, List, [], ◌∷◌, Option, Some, None, IsTrue}
use Rattle.std.specs.List.{list_all}
use Rattle.core_lex.specs.declared.token.Token.{Token}
use Rattle.core_form.specs.Core.{Module}
use Rattle.core_form.specs.SourceTree.{IsSourceTree, shapes, binaries, is_arity, is_written}
use Rattle.core_grammar.specs.WrittenTree.{Row, none, more, Attributes, no_attribute, attribute, Written, plain_module, noted_module}
use Rattle.core_grammar.specs.Standing.{a_name, an_atom, constant, RowStands, AttributesStand, IsModule}
use Rattle.core_grammar.specs.Signs.{Sight, Sign, attributes_on, module_on, signs, signs_outside_notes, FitWhole}
use Rattle.core_grammar.specs.ModuleOf.{exports_of, attributes_of, bare_module, first_seen, float_seen, wide_seen}
use Rattle.core_grammar.specs.Texts.{ModuleText}
use Rattle.core_grammar.proofs.Truths.{and_in, none_is_none}
use Rattle.core_grammar.proofs.Constants.{Each}
use Rattle.core_grammar.proofs.Past.{past, past_row, past_comma}
use Rattle.core_grammar.proofs.Names.{name_short, all_functions}
use Rattle.core_grammar.proofs.Walk.{in_defs}
use Rattle.core_grammar.proofs.Shapes.{Plain, term_written, shape_locals}
use Rattle.core_grammar.proofs.Binaries.{Clean, binary_locals}

exports_short : (xs : Row) → RowStands a_name xs → IsTrue (list_all (λ f. is_arity f.key.arity) (exports_of xs))
exports_short none h = refl
exports_short (more x xs) h = and_in _ _ (name_short x h.0) (exports_short xs h.1)

attributes_written : (bs : Attributes) → AttributesStand bs
    → IsTrue (list_all (λ a. is_written false a.1) (attributes_of bs))
attributes_written no_attribute h = refl
attributes_written (attribute a t bs) h = and_in _ _ (term_written t h.1) (attributes_written bs h.2)

past_attributes : (P : Sign → Type 0) (w first : Bool) (d : ℕ) (bs : Attributes) (r : List Sign)
    → Each P (attributes_on w first d bs r) → Each P r
past_attributes P w first d no_attribute r h = h
past_attributes P w first d (attribute a t bs) r h =
    past_attributes P w false d bs r
    (past P w constant d t _ (past P w an_atom d a _ (past_comma P first d _ h)).1)

unmarked : (gs : List Sign) (ts : List Token) → FitWhole gs ts → Each Plain gs
unmarked [] ts h = tt
unmarked (g ∷ gs) [] h = absurd h
unmarked (g ∷ gs) (t ∷ ts) h = (h.1, unmarked gs ts h.2)

-- where a sign shows nothing, and later ones do not
none_first : {A : Type 0} (see : Sight → Option A) (g : Sign) (gs : List Sign) (o : Option A) → see g.sight ≡ o
    → (first_seen see gs ≡ None → Each (λ g. see g.sight ≡ None) gs)
    → ◌≡◌ {A = Option A} (elim o as (λ x. Option A) [ None ↦ first_seen see gs | Some x ↦ Some x ]) None
    → Each (λ g. see g.sight ≡ None) (g ∷ gs)
none_first see g gs None e f k = (e, f k)
none_first see g gs (Some x) e f k = none_is_none x (sym k)

none_seen : {A : Type 0} (see : Sight → Option A) (gs : List Sign) → first_seen see gs ≡ None
    → Each (λ g. see g.sight ≡ None) gs
none_seen see [] h = tt
none_seen see (g ∷ gs) h = none_first see g gs (see g.sight) refl (λ k. none_seen see gs k) h

both_seen : (P Q : Sign → Type 0) (gs : List Sign) → Each P gs → Each Q gs → Each (λ g. P g × Q g) gs
both_seen P Q [] h k = tt
both_seen P Q (g ∷ gs) h k = ((h.0, k.0), both_seen P Q gs h.1 k.1)

source : (w : Written) (gs : List Sign) (d : ℕ) (r s : List Sign) → IsModule w → Each Plain (module_on true d w r)
    → (first_seen float_seen gs ≡ None → first_seen wide_seen gs ≡ None → Each Clean (module_on false d w s))
    → IsSourceTree (bare_module w gs)
source (plain_module a xs bs ds) gs d r s h g k = record {
  exports = exports_short xs h.0;
  attributes = attributes_written bs h.1;
  definitions = all_functions ds h.2;
  nodes =
      let f = past_row Plain true true a_name d xs _ g.1.1.1 in
      let e = past_attributes Plain true true d bs _ f.1.1.1 in
      (in_defs shapes Plain true shape_locals ds d _ h.2 e.1).all;
  constants = λ no_floats no_wides.
      let c = k no_floats no_wides in
      let f = past_row Clean false true a_name d xs _ c.1.1.1 in
      let e = past_attributes Clean false true d bs _ f.1.1.1 in
      (in_defs binaries Clean false binary_locals ds d _ h.2 e.1).all;
}
source (noted_module w n) gs d r s h g k = source w gs (suc d) _ s h.0 g.1 k

pub texts_are_sources : (ts : List Token) (m : Module) → ModuleText ts m → IsSourceTree m
texts_are_sources ts m h =
    let gs = signs_outside_notes h.written in
    subst IsSourceTree h.tree
    (source h.written gs 0 _ [] h.stands (unmarked (signs h.written) ts h.fits)
    (λ e f. both_seen (λ g. float_seen g.sight ≡ None) (λ g. wide_seen g.sight ≡ None) gs
    (none_seen float_seen gs e) (none_seen wide_seen gs f)))
