-- What is to be read for a module and its parts follows their plans.
use Rattle.std.proofs.Common.{refl, sym, ◌∙◌, ℕ, suc, List, [], ◌∷◌, true}
use Rattle.std.specs.Bool.{⊤}
use Rattle.core_lex.specs.declared.token.Word.TheVariants as W
use Rattle.core_lex.specs.declared.token.Symbol.TheVariants as S
use Rattle.core_grammar.specs.WrittenTree.{Spelled, Row, none, more as more_of, Attributes, no_attribute, attribute}
use Rattle.core_grammar.specs.Standing as G
use Rattle.core_grammar.specs.Standing.{Stands, RowStands, AttributesStand}
use Rattle.core_grammar.specs.Signs.{kept_word}
use Rattle.core_texts.proofs.Plans.{symbol_next}
use Rattle.core_texts.proofs.Steps.{rows}
use Rattle.core_texts.proofs.Bodies.{definitions_plan, attributes_plan, module_definitions, module_attributes, module_plan}
use Rattle.core_syntax.specs.declared.sort.Sort.TheVariants as O
use Rattle.core_syntax.specs.declared.item.Count.TheVariants as C
use Rattle.core_syntax.specs.declared.item.Shape.{Shape}
use Rattle.core_syntax.specs.declared.item.Shape.TheVariants.{Other, Counted}
use Rattle.core_syntax.specs.declared.item.Part.TheVariants as P
use Rattle.core_syntax.specs.declared.item.Item.TheVariants as I
use Rattle.core_syntax.specs.declared.item.Entry.{Entry}
use Rattle.core_syntax.specs.Beginnings.{at, stacked, module_items, module_rest}
use Rattle.core_syntax.proofs.Choosing.{is_comma, is_paren, chosen_take, not_chosen, kept, left_out, is_atom, not_begun, retest}
use Rattle.core_syntax.proofs.Following.{Follows, a_tree, items, definitions, attributes, a_module}
use Rattle.core_syntax.proofs.Pieces.{starts_as, at_atom}

-- Modules.

pub definitions_follow : (d : ℕ) (es : List Entry) (sh : Shape)
    → Follows P.Definitions es (definitions_plan d) (λ x. ⊤) (at d (I.Part P.Definitions) ∷ es) sh
definitions_follow d es sh = (
  P.Tree O.FunctionName,
  suc d,
  _,
  a_tree O.FunctionName (suc d),
  λ t i. refl,
  λ b h now c. (
    _,
    Other,
    λ t i. refl,
    (
      P.Tree O.Fun,
      suc d,
      _,
      a_tree O.Fun (suc d),
      λ t i. refl,
      λ b h now c. (
        (P.Definitions, d, _, definitions d, λ t i. kept _ _ _ _ i.1, λ b h now c. (now, λ t i. refl, tt)),
        (Counted C.Zero, λ t i. left_out _ _ _ _ i.1, tt),
      ),
    ),
  ),
)

pub attributes_follow : (d : ℕ) (es : List Entry) (sh : Shape)
    → Follows P.Attributes es (attributes_plan d) (λ x. ⊤) (at d (I.Part P.Attributes) ∷ es) sh
attributes_follow d es sh = (
  P.Tree O.Atom,
  d,
  _,
  a_tree O.Atom d,
  λ t i. refl,
  λ b h now c. (
    _,
    Other,
    λ t i. refl,
    (
      P.Tree O.Constant,
      d,
      _,
      a_tree O.Constant d,
      λ t i. refl,
      λ b h now c. (
        (
          _,
          Other,
          λ t i. kept _ _ _ _ (sym (is_comma t.kind) ∙ i.1),
          (P.Attributes, d, _, attributes d, λ t i. refl, λ b h now c. (now, λ t i. refl, tt)),
        ),
        (Other, λ t i. left_out _ _ _ _ (sym (is_comma t.kind) ∙ i.1), tt),
      ),
    ),
  ),
)

-- what is to be read behind attributes
abbrev behind_attributes : ℕ → List Entry → List Entry
behind_attributes d es = stacked d (I.Symbol S.CloseBracket ∷ I.Maybe P.Definitions ∷ I.Word W.End ∷ []) es

-- behind exports
abbrev behind_exports : ℕ → List Entry → List Entry
behind_exports d es =
    stacked d (I.Symbol S.CloseBracket ∷ I.Word W.Attributes ∷ I.Symbol S.OpenBracket ∷ I.Maybe P.Attributes ∷ [])
    (behind_attributes d es)

module_definitions_follow : (d : ℕ) (a : Spelled) (xs : Row) (bs : Attributes) (i : RowStands G.a_name xs)
    (j : AttributesStand bs) (es : List Entry) (sh : Shape)
    → Follows P.Module es (module_definitions d a xs bs i j) (λ x. ⊤)
    (behind_attributes d es) sh
module_definitions_follow d a xs bs i j es sh = (
  _,
  Other,
  λ t i. refl,
  (
    (
      P.Definitions,
      d,
      _,
      definitions d,
      λ t i. kept _ _ _ _ i.1,
      λ b h now c. (_, Other, λ t i. refl, (Other, λ t i. refl, tt)),
    ),
    (_, Other, λ t i. left_out _ _ _ _ i.1, (Other, λ t i. refl, tt)),
  ),
)

module_attributes_follow : (d : ℕ) (a : Spelled) (xs : Row) (i : RowStands G.a_name xs) (es : List Entry) (sh : Shape)
    → Follows P.Module es (module_attributes d a xs i) (λ x. ⊤)
    (behind_exports d es) sh
module_attributes_follow d a xs i es sh = (
  _,
  Other,
  λ t i. refl,
  (
    _,
    Other,
    λ t i. refl,
    (
      _,
      Other,
      λ t i. refl,
      (
        (
          P.Attributes,
          d,
          _,
          attributes d,
          λ t i. kept _ _ _ _ i.1,
          λ b h now c. module_definitions_follow d a xs (attribute b.0 b.1 b.2) i h es now,
        ),
        starts_as (module_definitions d a xs no_attribute i tt) P.Module es _ (λ x. ⊤)
            (at d (I.Maybe P.Attributes) ∷ (behind_attributes d es))
            (behind_attributes d es) Other (Counted C.Zero)
            (λ t i. not_begun t P.Attributes d (behind_attributes d es) Other i.1)
            (λ x i. tt) (module_definitions_follow d a xs no_attribute i tt es (Counted C.Zero)),
      ),
    ),
  ),
)

pub module_follows : (d : ℕ) (es : List Entry) (sh : Shape)
    → Follows P.Module es (module_plan d) (λ x. ⊤) (at d (I.Part P.Module) ∷ es) sh
module_follows d es sh = (
  (
    _,
    Other,
    λ t i. chosen_take _ _ _ _ _ (sym (is_paren t.kind) ∙ i.1),
    (
      P.Module,
      suc d,
      _,
      a_module (suc d),
      λ t i. refl,
      λ b h now c. (
        _,
        Other,
        λ t i. refl,
        (
          P.Tree O.Note,
          suc d,
          _,
          a_tree O.Note (suc d),
          λ t i. refl,
          λ n k last m. (_, now, λ t i. refl, (now, λ t i. refl, tt)),
        ),
      ),
    ),
  ),
  (
    stacked d module_items es,
    Other,
    λ t i. not_chosen _ _ _ (sym (is_paren t.kind) ∙ i.1),
    (
      λ x. stacked d module_rest es,
      λ x. Other,
      λ t i. retest _ _ _ _ _ (sym (is_atom t.kind)),
      at_atom P.Module es (λ r. kept_word d W.Module r) d
          (λ a. symbol_next true d S.OpenBracket (rows G.a_name d λ xs i. module_attributes d a xs i))
          (stacked d module_rest es) Other
          (λ a. (
            _,
            Other,
            λ t i. refl,
            (
              (
                P.Items O.FunctionName C.Zero,
                d,
                _,
                items O.FunctionName C.Zero d,
                λ t i. kept _ _ _ _ i.1,
                λ b h now c. module_attributes_follow d a (more_of b.0 b.1) h es now,
              ),
              starts_as (module_attributes d a none tt) P.Module es _ (λ x. ⊤)
                  (at d (I.Maybe (P.Items O.FunctionName C.Zero)) ∷ (behind_exports d es))
                  (behind_exports d es)
                  Other (Counted C.Zero)
                  (λ t i. not_begun t (P.Items O.FunctionName C.Zero) d (behind_exports d es) Other i.1)
                  (λ x i. tt) (module_attributes_follow d a none tt es (Counted C.Zero)),
            ),
          )),
    ),
  ),
)
