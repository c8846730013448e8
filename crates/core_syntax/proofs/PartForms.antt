-- What is to be read for items, pairs and segments follows their plans.
use Rattle.std.proofs.Common.{◌≡◌, refl, sym, ◌∙◌, ℕ, suc, List, [], ◌∷◌, Bool, true, false}
use Rattle.std.specs.Bool.{⊤}
use Rattle.erl_base.specs.declared.ids.Place.{Place}
use Rattle.core_lex.specs.declared.token.Symbol.TheVariants as S
use Rattle.core_grammar.specs.WrittenTree.{Tree, angled}
use Rattle.core_grammar.specs.Standing as G
use Rattle.core_grammar.specs.Standing.{Stands, RowStands, AttributesStand}
use Rattle.core_texts.proofs.Truths.{never}
use Rattle.core_texts.proofs.Parts.{is_strict}
use Rattle.core_texts.proofs.Plans.{symbol_next, done}
use Rattle.core_texts.proofs.Steps.{rows}
use Rattle.core_texts.proofs.Bodies.{items_plan, group_plan, pair_end, arrow_plan, pairs_plan, loose_plan, strict_plan, open_segment, segment_plan, segments_plan}
use Rattle.core_syntax.specs.declared.sort.Sort.{Sort}
use Rattle.core_syntax.specs.declared.sort.Sort.TheVariants as O
use Rattle.core_syntax.specs.declared.item.Count.{Count}
use Rattle.core_syntax.specs.declared.item.Count.TheVariants as C
use Rattle.core_syntax.specs.declared.item.Shape.{Shape}
use Rattle.core_syntax.specs.declared.item.Shape.TheVariants.{Other, Counted}
use Rattle.core_syntax.specs.declared.item.Part.TheVariants as P
use Rattle.core_syntax.specs.declared.item.Item.TheVariants as I
use Rattle.core_syntax.specs.declared.item.Entry.{Entry}
use Rattle.core_syntax.specs.Sorts.{sort_of, of_items, of_keys, of_values}
use Rattle.core_syntax.specs.Beginnings.{at, stacked, more, segment_items, loose_segment, strict_segment}
use Rattle.core_syntax.proofs.Choosing.{is_comma, is_angle, is_paren, is_exactly, chosen_take, not_chosen, chosen, kept, left_out, is_opening, retest, unit_is}
use Rattle.core_syntax.proofs.Following.{Follows, a_tree, items, pairs, a_segment, segments, a_value, a_size, a_unit, a_kind, flags}
use Rattle.core_syntax.proofs.Pieces.{at_angle, at_segment, item_tree, key_tree, value_tree}

pub items_follow : (s : Sort) (n : Count) (d : ℕ) (es : List Entry) (sh : Shape)
    → Follows (P.Items s n) es (items_plan (sort_of s) d) (λ x. ⊤) (at d (I.Part (P.Items s n)) ∷ es) sh
items_follow s n d es sh = (
  P.Tree s,
  d,
  _,
  a_tree s d,
  λ t i. refl,
  λ b h now c. (
    (
      _,
      Other,
      λ t i. kept _ _ _ _ (sym (is_comma t.kind) ∙ i.1),
      (P.Items s (more n), d, _, items s (more n) d, λ t i. refl, λ b h now c. (now, λ t i. refl, c)),
    ),
    (Counted (more n), λ t i. left_out _ _ _ _ (sym (is_comma t.kind) ∙ i.1), refl),
  ),
)

pub group_follows : (d : ℕ) (es : List Entry) (sh : Shape)
    → Follows P.Group es (group_plan d) (λ x. ⊤) (at d (I.Part P.Group) ∷ es) sh
group_follows d es sh = (
  (
    λ x. stacked d (I.Maybe (P.Items O.Variable C.Zero) ∷ I.CloseGroup ∷ []) es,
    λ x. Other,
    λ t i. chosen_take _ _ _ _ _ (sym (is_angle t.kind) ∙ i.1) ∙ retest _ _ _ _ _ (sym (is_angle t.kind)),
    at_angle P.Group es (λ r. r) d
        (λ p. rows G.a_variable d λ ts i. symbol_next true d S.CloseAngle (done (angled p ts) i (λ r. refl)))
        (stacked d (I.Maybe (P.Items O.Variable C.Zero) ∷ I.CloseGroup ∷ []) es) Other
        (λ q. (
          (
            P.Items O.Variable C.Zero,
            d,
            _,
            items O.Variable C.Zero d,
            λ t i. kept _ _ _ _ i.1,
            λ b h now c. (_, now, λ t i. refl, (now, λ t i. refl, c)),
          ),
          (_, Counted C.Zero, λ t i. left_out _ _ _ _ i.1, (Counted C.Zero, λ t i. refl, refl)),
        )),
  ),
  (
    P.Tree O.Variable,
    d,
    _,
    a_tree O.Variable d,
    λ t i. not_chosen _ _ _ (sym (is_angle t.kind) ∙ i.1),
    λ b h now c. (Counted C.One, λ t i. refl, refl),
  ),
)

-- Pairs.

pair_end_follows : (s : Sort) (d : ℕ) (t : Tree) (i : Stands (G.key_sort (sort_of s)) t) (x : Bool)
    (h : G.takes_pair (sort_of s) x ≡ true) (es : List Entry) (sh : Shape)
    → Follows (P.Pairs s) es (pair_end (sort_of s) d t i x h) (λ x. ⊤)
    (stacked d (I.Part (P.Tree (of_items s)) ∷ I.MorePairs s ∷ []) es) sh
pair_end_follows s d t i x h es sh = (
  P.Tree (of_items s),
  d,
  _,
  item_tree s d,
  λ t i. refl,
  λ b h now c. (
    (
      _,
      Other,
      λ t i. kept _ _ _ _ (sym (is_comma t.kind) ∙ i.1),
      (P.Pairs s, d, _, pairs s d, λ t i. refl, λ b h now c. (now, λ t i. refl, tt)),
    ),
    (Other, λ t i. left_out _ _ _ _ (sym (is_comma t.kind) ∙ i.1), tt),
  ),
)

arrow_follows : (s : Sort) (d : ℕ) (t : Tree) (i : Stands (G.key_sort (sort_of s)) t) (es : List Entry) (sh : Shape)
    → Follows (P.Pairs s) es (arrow_plan (sort_of s) d t i) (λ x. ⊤) (at d (I.PairArrow s) ∷ es) sh
arrow_follows O.Expression d u k es sh = (
  (
    _,
    Other,
    λ t i. retest _ _ _ _ _ (chosen _ _ _ (sym (is_exactly t.kind) ∙ i.1) ∙ sym (sym (is_exactly t.kind) ∙ i.1)),
    pair_end_follows O.Expression d u k true refl es Other,
  ),
  (
    _,
    Other,
    λ t i. retest _ _ _ _ _ (not_chosen _ _ _ (sym (is_exactly t.kind) ∙ i.1)),
    pair_end_follows O.Expression d u k false refl es Other,
  ),
)
arrow_follows O.Pattern d u k es sh = (_, Other, λ t i. refl, pair_end_follows O.Pattern d u k true refl es Other)
arrow_follows s d u k es sh = (_, Other, λ t i. refl, pair_end_follows s d u k false refl es Other)

pub pairs_follow : (s : Sort) (d : ℕ) (es : List Entry) (sh : Shape)
    → Follows (P.Pairs s) es (pairs_plan (sort_of s) d) (λ x. ⊤) (at d (I.Part (P.Pairs s)) ∷ es) sh
pairs_follow s d es sh = (
  P.Tree (of_keys s),
  d,
  _,
  key_tree s d,
  λ t i. refl,
  λ b h now c. arrow_follows s d b h es now,
)

-- Segments.

loose_follows : (s : Sort) (d : ℕ) (p : Place) (e : is_strict (sort_of s) ≡ false) (es : List Entry) (sh : Shape)
    → Follows (P.Segment s) es (loose_plan (sort_of s) d p e) (λ x. ⊤) (stacked d (loose_segment s) es) sh
loose_follows s d p e es sh = (
  P.Tree (of_values s),
  d,
  _,
  value_tree s d,
  λ t i. refl,
  λ b h now c. (
    _,
    Other,
    λ t i. refl,
    (
      _,
      Other,
      λ t i. refl,
      (
        P.Tree (of_keys s),
        d,
        _,
        key_tree s d,
        λ t i. refl,
        λ b h now c. (
          _,
          Other,
          λ t i. refl,
          (
            P.Tree O.Constant,
            d,
            _,
            a_tree O.Constant d,
            λ t i. refl,
            λ b h now c. (
              _,
              Other,
              λ t i. refl,
              (
                P.Tree O.Atom,
                d,
                _,
                a_tree O.Atom d,
                λ t i. refl,
                λ b h now c. (
                  _,
                  Other,
                  λ t i. refl,
                  (
                    P.Tree O.Constant,
                    d,
                    _,
                    a_tree O.Constant d,
                    λ t i. refl,
                    λ b h now c. (_, Other, λ t i. refl, (Other, λ t i. refl, tt)),
                  ),
                ),
              ),
            ),
          ),
        ),
      ),
    ),
  ),
)

strict_follows : (s : Sort) (d : ℕ) (p : Place) (e : is_strict (sort_of s) ≡ true) (es : List Entry) (sh : Shape)
    → Follows (P.Segment s) es (strict_plan (sort_of s) d p e) (λ x. ⊤) (stacked d strict_segment es) sh
strict_follows O.Expression d p e es sh = never e
strict_follows O.Pattern d p e es sh = never e
strict_follows s d p e es sh = (
  P.Value,
  d,
  _,
  a_value d,
  λ t i. refl,
  λ b h now c. (
    _,
    Other,
    λ t i. refl,
    (
      _,
      Other,
      λ t i. refl,
      (
        P.Size,
        d,
        _,
        a_size d,
        λ t i. refl,
        λ b h now c. (
          _,
          Other,
          λ t i. unit_is _ _ _ _ _ c,
          (
            P.Unit _,
            d,
            _,
            a_unit _ d,
            λ t i. refl,
            λ b h now c. (
              _,
              Other,
              λ t i. refl,
              (
                P.Kind,
                d,
                _,
                a_kind d,
                λ t i. refl,
                λ b h now c. (
                  _,
                  Other,
                  λ t i. refl,
                  (
                    P.Flags,
                    d,
                    _,
                    flags d,
                    λ t i. refl,
                    λ b h now c. (_, Other, λ t i. refl, (Other, λ t i. refl, tt)),
                  ),
                ),
              ),
            ),
          ),
        ),
      ),
    ),
  ),
)

open_follows : (s : Sort) (d : ℕ) (p : Place) (es : List Entry) (sh : Shape)
    → Follows (P.Segment s) es (open_segment (sort_of s) d p) (λ x. ⊤) (stacked d (segment_items s) es) sh
open_follows O.Expression d p es sh = loose_follows O.Expression d p refl es sh
open_follows O.Pattern d p es sh = loose_follows O.Pattern d p refl es sh
open_follows s d p es sh = strict_follows s d p refl es sh

pub segment_follows : (s : Sort) (d : ℕ) (es : List Entry) (sh : Shape)
    → Follows (P.Segment s) es (segment_plan (sort_of s) d) (λ x. ⊤) (at d (I.Part (P.Segment s)) ∷ es) sh
segment_follows s d es sh = (
  (
    _,
    Other,
    λ t i. chosen_take _ _ _ _ _ (sym (is_paren t.kind) ∙ i.1),
    (
      P.Segment s,
      suc d,
      _,
      a_segment s (suc d),
      λ t i. refl,
      λ b h now c. (
        _,
        Other,
        λ t i. refl,
        (
          P.Tree O.Note,
          suc d,
          _,
          a_tree O.Note (suc d),
          λ t i. refl,
          λ n k last m. (_, now, λ t i. refl, (now, λ t i. refl, tt)),
        ),
      ),
    ),
  ),
  (
    λ x. stacked d (segment_items s) es,
    λ x. Other,
    λ t i. not_chosen _ _ _ (sym (is_paren t.kind) ∙ i.1) ∙ retest _ _ _ _ _ (sym (is_opening t.kind)),
    at_segment (P.Segment s) es (λ r. r) d (λ p. open_segment (sort_of s) d p) (stacked d (segment_items s) es) Other
        (λ q. open_follows s d q es Other),
  ),
)

pub segments_follow : (s : Sort) (d : ℕ) (es : List Entry) (sh : Shape)
    → Follows (P.Segments s) es (segments_plan (sort_of s) d) (λ x. ⊤) (at d (I.Part (P.Segments s)) ∷ es) sh
segments_follow s d es sh = (
  P.Segment s,
  d,
  _,
  a_segment s d,
  λ t i. refl,
  λ b h now c. (
    (
      _,
      Other,
      λ t i. kept _ _ _ _ (sym (is_comma t.kind) ∙ i.1),
      (P.Segments s, d, _, segments s d, λ t i. refl, λ b h now c. (now, λ t i. refl, tt)),
    ),
    (Other, λ t i. left_out _ _ _ _ (sym (is_comma t.kind) ∙ i.1), tt),
  ),
)
