-- A written module is read, and the module of what was read is that which it stands for.
use Rattle.std.proofs.Common.{◌≡◌, refl, sym, ap, ◌∙◌, subst, ℕ, suc, List, [], ◌∷◌, true, false, Some}
use Rattle.core_lex.specs.declared.token.Token.{Token}
use Rattle.core_lex.specs.declared.token.Symbol.TheVariants as S
use Rattle.core_grammar.specs.WrittenTree.{Tree, Attributes, no_attribute, attribute, Written, plain_module, noted_module}
use Rattle.core_grammar.specs.Standing.{constant, note, an_atom, AttributesStand, IsModule}
use Rattle.core_grammar.specs.Signs.{Sign, symbol, on, attributes_on, module_on}
use Rattle.core_grammar.specs.ModuleOf.{term_or_nil, constant_term, attributes_of, float_seen, wide_seen, long_seen, first_seen, bare_module}
use Rattle.core_actions.specs.Read.{read_expr}
use Rattle.core_actions.specs.Joining.{literal_term}
use Rattle.core_actions.specs.Binaries.{constant_in}
use Rattle.core_actions.specs.ReadLaws.{ReadsExpressions, ReadsPatterns, ReadsBinaries}
use Rattle.core_build.specs.declared.item.Item.{Item}
use Rattle.core_build.specs.declared.item.Item.TheVariants as I
use Rattle.core_build.specs.declared.item.Row.TheVariants as R
use Rattle.core_build.specs.Values.{Value, atom, names, attributes, defs}
use Rattle.core_build.specs.Building.{first_in, module_in}
use Rattle.core_build.proofs.Leads.{Leads, at, seen, Reaches, Gathers, Skipped}
use Rattle.core_build.proofs.Begun.{tree_begins, begins_on}
use Rattle.core_build.proofs.RowParts as Part
use Rattle.core_build.proofs.RowKinds as Kind
use Rattle.core_build.proofs.RowKinds.{Adds}
use Rattle.core_build.proofs.NameForms as N
use Rattle.core_build.proofs.TreesRead as Trees

-- what tokens show first, and what signs do
pub record ShowSame (ts : List Token) (gs : List Sign) : Type 0 where
  pub floats : first_in float_seen ts ≡ first_seen float_seen gs
  pub wide : first_in wide_seen ts ≡ first_seen wide_seen gs
  pub long : first_in long_seen ts ≡ first_seen long_seen gs

-- a module is read, of which these values are left
pub record ModuleRead (f : List Sign → List Sign) (w : Written) : Type 0 where
  pub left : List Value
  pub on : (r : List Sign) (is : List Item) (x : List Value) → Reaches r is left x → Reaches (f r) (I.Module ∷ is) [] x
  pub shows : (ts : List Token) (gs : List Sign) → ShowSame ts gs → module_in ts left ≡ Some (bare_module w gs)

module _ (skip : (d : ℕ) (n : Tree) → Skipped (on true note d n))
    (e_laws : ReadsExpressions) (p_laws : ReadsPatterns) (b_laws : ReadsBinaries) where
  constant_read : (t : Tree) → constant_in (read_expr t) ≡ constant_term t
  constant_read t =
      ap (λ e. term_or_nil (literal_term e)) (e_laws.closed_read t) ∙ ap term_or_nil (e_laws.constants t)

  attributes_rest : (d : ℕ) (bs : Attributes) → AttributesStand bs
      → Adds Kind.attributes_kind (attributes_on true false d bs) (I.More R.Attributes) (attributes_of bs)
  attributes_rest d no_attribute h = Kind.adds_none Kind.attributes_kind
  attributes_rest d (attribute a t bs) h =
      Kind.adds_one Kind.attributes_kind d
      (λ xs. Part.attribute_part d xs (N.atom_read skip d a h.0)
      (Trees.tree_read skip e_laws p_laws b_laws constant refl d t h.1) (constant_read t))
      (attributes_rest d bs h.2)

  attributes_row : (d : ℕ) (bs : Attributes) → AttributesStand bs
      → Gathers R.Attributes attributes (λ xs. xs) (attributes_on true true d bs) (attributes_of bs)
  attributes_row d no_attribute h = Kind.gathers_none Kind.attributes_kind
  attributes_row d (attribute a t bs) h =
      Kind.gathers_some Kind.attributes_kind (I.More R.Attributes) (begins_on (tree_begins an_atom d a))
      (λ xs. Part.attribute_part d xs (N.atom_read skip d a h.0)
      (Trees.tree_read skip e_laws p_laws b_laws constant refl d t h.1) (constant_read t))
      (attributes_rest d bs h.2)

  pub module_read : (d : ℕ) (w : Written) → IsModule w → ModuleRead (module_on true d w) w
  module_read d (plain_module a xs bs ds) h =
      let X = Trees.names_row skip e_laws p_laws b_laws d xs h.0 in
      let Y = attributes_row d bs h.1 in
      let Z = Trees.defs_row skip e_laws p_laws b_laws d ds h.2 in
      record {
        left = defs Z.kept ∷ attributes Y.kept ∷ names X.kept ∷ atom a.place a.name ∷ [];
        on = λ r is x k.
            seen λ q. at (seen λ q. X.reads.on _ _ _ _ refl (seen λ q. seen λ q. seen λ q.
            Y.reads.on _ _ _ _ refl (seen λ q. Z.reads.on _ _ _ _ refl (seen λ q. k))));
        shows = λ ts gs s. λ i. Some (record {
          name = a.name;
          exports = X.is i;
          attributes = Y.is i;
          defs = Z.is i;
          floats = s.floats i;
          wide = s.wide i;
          long = s.long i;
        });
      }
  module_read d (noted_module w n) h =
      let F = module_read (suc d) w h.0 in
      record {
        left = F.left;
        on = λ r is x k.
            seen λ q. F.on _ (I.Skip ∷ is) x
            (subst (λ gs. Leads gs (I.Skip ∷ is) F.left x)
            (sym ((skip (suc d) n).skips 0 (symbol (suc d) S.CloseParen r))) (seen λ q. k));
        shows = F.shows;
      }
