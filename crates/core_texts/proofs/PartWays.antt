-- What is written is read along its plan: all parts.
use Rattle.std.proofs.Common.{◌≡◌, refl, ℕ, suc, List, Bool, true, false, IsTrue}
use Rattle.erl_base.specs.declared.ids.Place.{Place}
use Rattle.core_lex.specs.declared.token.TokenKind.TheVariants.{Symbol, Atom}
use Rattle.core_lex.specs.declared.token.Word.TheVariants as W
use Rattle.core_lex.specs.declared.token.Symbol.TheVariants as S
use Rattle.core_grammar.specs.WrittenTree.{Spelled, Tree, variable, noted, Row, none, more, Group, single, angled, Pairs, no_pair, pair, Segment, segment, noted_segment, Segments, no_segment, and_segment, Definitions, no_definition, definition, Attributes, no_attribute, attribute, Written, plain_module, noted_module}
use Rattle.core_grammar.specs.Standing.{Sort, expression, pattern, constant, note, key, segment_value, a_variable, a_name, an_atom, a_fun, takes_pair, item_sort, key_sort, value_sort, Stands, RowStands, PairsStand, SegmentStands, DefinitionsStand, AttributesStand, IsModule}
use Rattle.core_grammar.specs.ConstantTerms.{constant_of, integer_value, count_value, is_integer_kind}
use Rattle.core_grammar.specs.Signs.{Sign, symbol, kept_word, pair_symbol, on, row_on, pairs_on, definitions_on, attributes_on, module_on}
use Rattle.core_texts.proofs.Parts.{whole, Part, tree_part, items_part, group_part, pairs_part, segment_part, segments_part, head_part, clause_part, clauses_part, definitions_part, attributes_part, module_part, value_part, size_part, unit_part, kind_part, flags_part, flag_part, flag_items_part, Value, signs_of, Right, Follows, is_strict, has_bits}
use Rattle.core_texts.proofs.Fronts.{is_angle, front}
use Rattle.core_texts.proofs.Truths.{never, and_left, and_right}
use Rattle.core_texts.proofs.Opens.{no_front, opens_tree, opened}
use Rattle.core_texts.proofs.Bits.{parted}
use Rattle.core_texts.proofs.Complete.{Along, first_way, second_way}
use Rattle.core_texts.proofs.ConstantWays.{value_way, size_way, unit_way, kind_way, flags_way, flag_way, flag_items_way}
use Rattle.core_texts.proofs.Bodies.{items_plan, group_plan, pair_end, arrow_plan, pairs_plan, loose_plan, strict_plan, open_segment, segment_plan, segments_plan, definitions_plan, attributes_plan, module_definitions, module_attributes, module_plan, body}
use Rattle.core_texts.proofs.ClauseWays.{head_way, clauses_way}
use Rattle.core_texts.proofs.TreeWays.{tree_way}

items_way : (s : Sort) (d : ℕ) (t : Tree) (ts : Row) (r : List Sign) → Stands s t → RowStands s ts
    → Follows (items_part s d) r → Along (items_plan s d) (t, ts) (row_on true true s d (more t ts) r) r
items_way s d t none r h k c =
    (t, h, r, refl, (c.0, (c.1.0, tt)), λ i. second_way (c.1.1.0, (refl, refl)))
items_way s d t (more x xs) r h k c =
    (t, h, _, refl, (refl, (refl, tt)), λ i. first_way (refl, (_, refl, ((x, xs), k, r, refl, c, λ j. (refl, refl)))))

group_way : (d : ℕ) (g : Group) (r : List Sign) → Right (group_part d) g → Follows (group_part d) r
    → Along (group_plan d) g (signs_of (group_part d) g r) r
group_way d (single t) r h c = second_way (no_angle d t r h, (t, h, r, refl, c, λ i. (refl, refl)))
  where
    no_angle : (d : ℕ) (t : Tree) (r : List Sign) → Stands a_variable t
        → front is_angle (on true a_variable d t r) ≡ false
    no_angle d (variable p x) r h = refl
    no_angle d (noted p t n) r h = refl
    no_angle d _ r h = never (assumption h)
group_way d (angled p none) r h c =
    first_way (refl, (p, Symbol S.OpenAngle, refl, _, refl, λ i. second_way (refl, (r, refl, (refl, refl)))))
group_way d (angled p (more x xs)) r h c =
    first_way (
      refl,
      (
        p,
        Symbol S.OpenAngle,
        refl,
        _,
        refl,
        λ i. first_way (
          opens_tree a_variable d x _,
          (
            (x, xs),
            h,
            _,
            refl,
            (refl, (refl, (refl, tt))),
            λ j. (r, refl, (refl, refl)),
          ),
        ),
      ),
    )

-- Pairs.

pair_way : (s : Sort) (d : ℕ) (t : Tree) (i : Stands (key_sort s) t) (x : Bool) (e : takes_pair s x ≡ true) (u : Tree)
    (ps : Pairs) (r : List Sign) → Stands (item_sort s) u → PairsStand s ps → Follows (pairs_part s d) r
    → Along (pair_end s d t i x e) (t, x, u, ps) (on true (item_sort s) d u (pairs_on true false s d ps r)) r
pair_way s d t i x e u no_pair r h k c =
    (u, h, r, refl, item_calm s d r c, λ j. second_way (c.1.1.0, (refl, refl)))
  where
    item_calm : (s : Sort) (d : ℕ) (r : List Sign) → Follows (pairs_part s d) r → Follows (tree_part (item_sort s) d) r
    item_calm expression d r c = (c.0, (c.1.0, tt))
    item_calm pattern d r c = (c.0, (c.1.0, tt))
    item_calm _ d r c = (c.0, (no_front r, tt))
pair_way s d t i x e u (pair k y v ps) r h l c = (
  u,
  h,
  _,
  refl,
  (refl, (refl, tt)),
  λ j. first_way (
    refl,
    (
      _,
      refl,
      (
        (k, y, v, ps),
        l,
        r,
        refl,
        c,
        λ z. (
          refl,
          refl,
        ),
      ),
    ),
  ),
)

arrow_way : (s : Sort) (d : ℕ) (t : Tree) (i : Stands (key_sort s) t) (x : Bool) (u : Tree) (ps : Pairs) (r : List Sign)
    → IsTrue (takes_pair s x) → Stands (item_sort s) u → PairsStand s ps → Follows (pairs_part s d) r
    → Along (arrow_plan s d t i) (t, x, u, ps)
    (symbol d (pair_symbol x) (on true (item_sort s) d u (pairs_on true false s d ps r))) r
arrow_way expression d t i true u ps r e h k c =
    first_way (refl, (_, refl, pair_way expression d t i true refl u ps r h k c))
arrow_way expression d t i false u ps r e h k c =
    second_way (refl, (_, refl, pair_way expression d t i false refl u ps r h k c))
arrow_way pattern d t i true u ps r e h k c = (_, refl, pair_way pattern d t i true refl u ps r h k c)
arrow_way pattern d t i false u ps r e h k c = never e
arrow_way s d t i true u ps r e h k c = never e
arrow_way s d t i false u ps r e h k c = (_, refl, pair_way s d t i false refl u ps r h k c)

pairs_way : (s : Sort) (d : ℕ) (t : Tree) (x : Bool) (u : Tree) (ps : Pairs) (r : List Sign)
    → PairsStand s (pair t x u ps) → Follows (pairs_part s d) r
    → Along (pairs_plan s d) (t, x, u, ps) (pairs_on true true s d (pair t x u ps) r) r
pairs_way s d t true u ps r h c =
    (t, h.0, _, refl, (refl, (refl, tt)), λ i. arrow_way s d t i true u ps r h.1 h.2 h.3 c)
pairs_way s d t false u ps r h c =
    (t, h.0, _, refl, (refl, (refl, tt)), λ i. arrow_way s d t i false u ps r h.1 h.2 h.3 c)

-- Segments.

loose_way : (s : Sort) (d : ℕ) (p : Place) (e : is_strict s ≡ false) (t u n x f : Tree) (r : List Sign)
    → SegmentStands s (segment p t u n x f) → Along (loose_plan s d p e) (segment p t u n x f)
    (on true (value_sort s) d t (symbol d S.CloseAngle (symbol d S.OpenParen (on true (key_sort s) d u
    (symbol d S.Comma (on true constant d n (symbol d S.Comma (on true an_atom d x (symbol d S.Comma
    (on true constant d f (symbol d S.CloseParen r))))))))))) r
loose_way s d p e t u n x f r h = (
  t,
  h.0,
  _,
  refl,
  (refl, (refl, tt)),
  λ a. (
    _,
    refl,
    (
      _,
      refl,
      (
        u,
        h.1,
        _,
        refl,
        (refl, (refl, tt)),
        λ b. (
          _,
          refl,
          (
            n,
            h.2,
            _,
            refl,
            (refl, (refl, tt)),
            λ c. (
              _,
              refl,
              (
                x,
                h.3,
                _,
                refl,
                (refl, (refl, tt)),
                λ y. (
                  _,
                  refl,
                  (f, h.4, _, refl, (refl, (refl, tt)), λ z. (r, refl, (refl, refl))),
                ),
              ),
            ),
          ),
        ),
      ),
    ),
  ),
)

strict_way : (s : Sort) (d : ℕ) (p : Place) (e : is_strict s ≡ true) (t u n x f : Tree) (r : List Sign)
    → SegmentStands s (segment p t u n x f) → has_bits true (segment p t u n x f) ≡ true
    → Along (strict_plan s d p e) (segment p t u n x f)
    (on true (value_sort s) d t (symbol d S.CloseAngle (symbol d S.OpenParen (on true (key_sort s) d u
    (symbol d S.Comma (on true constant d n (symbol d S.Comma (on true an_atom d x (symbol d S.Comma
    (on true constant d f (symbol d S.CloseParen r))))))))))) r
strict_way expression d p e t u n x f r h k = never e
strict_way pattern d p e t u n x f r h k = never e
strict_way s d p e t u n x f r h k =
    let q = parted (is_integer_kind x) (integer_value t) (count_value u) (count_value n) (constant_of false f) k in (
      t,
      (h.0, q.value),
      _,
      refl,
      tt,
      λ a. (
        _,
        refl,
        (
          _,
          refl,
          (
            u,
            (h.1, q.size),
            _,
            refl,
            tt,
            λ b. (
              _,
              refl,
              (
                n,
                (h.2, q.unit),
                _,
                refl,
                tt,
                λ c. (
                  _,
                  refl,
                  (
                    x,
                    (h.3, q.kind),
                    _,
                    refl,
                    tt,
                    λ y. (
                      _,
                      refl,
                      (f, (h.4, q.flags), _, refl, tt, λ z. (r, refl, (refl, refl))),
                    ),
                  ),
                ),
              ),
            ),
          ),
        ),
      ),
    )

open_way : (s : Sort) (d : ℕ) (p : Place) (t u n x f : Tree) (r : List Sign) → SegmentStands s (segment p t u n x f)
    → has_bits (is_strict s) (segment p t u n x f) ≡ true → Along (open_segment s d p) (segment p t u n x f)
    (on true (value_sort s) d t (symbol d S.CloseAngle (symbol d S.OpenParen (on true (key_sort s) d u
    (symbol d S.Comma (on true constant d n (symbol d S.Comma (on true an_atom d x (symbol d S.Comma
    (on true constant d f (symbol d S.CloseParen r))))))))))) r
open_way expression d p t u n x f r h k = loose_way expression d p refl t u n x f r h
open_way pattern d p t u n x f r h k = loose_way pattern d p refl t u n x f r h
open_way constant d p t u n x f r h k = strict_way constant d p refl t u n x f r h k
open_way key d p t u n x f r h k = strict_way key d p refl t u n x f r h k
open_way note d p t u n x f r h k = strict_way note d p refl t u n x f r h k
open_way segment_value d p t u n x f r h k = strict_way segment_value d p refl t u n x f r h k
open_way a_variable d p t u n x f r h k = strict_way a_variable d p refl t u n x f r h k
open_way a_name d p t u n x f r h k = strict_way a_name d p refl t u n x f r h k
open_way an_atom d p t u n x f r h k = strict_way an_atom d p refl t u n x f r h k
open_way a_fun d p t u n x f r h k = strict_way a_fun d p refl t u n x f r h k

bits_inside : (b : Bool) (g : Segment) (n : Tree) → has_bits b (noted_segment g n) ≡ true → has_bits b g ≡ true
bits_inside true g n h = h
bits_inside false g n h = refl

segment_way : (s : Sort) (d : ℕ) (g : Segment) (r : List Sign) → SegmentStands s g → has_bits (is_strict s) g ≡ true
    → Along (segment_plan s d) g (signs_of (segment_part s d) g r) r
segment_way s d (segment p t u n x f) r h k =
    second_way (refl, (p, Symbol S.OpenSegment, refl, _, refl, λ i. open_way s d p t u n x f r h k))
segment_way s d (noted_segment g n) r h k =
    first_way (
      refl,
      (
        _,
        refl,
        (
          g,
          (h.0, bits_inside (is_strict s) g n k),
          _,
          refl,
          tt,
          λ i. (
            _,
            refl,
            (n, h.1, _, refl, (refl, (refl, tt)), λ j. (r, refl, (refl, refl))),
          ),
        ),
      ),
    )

segments_way : (s : Sort) (d : ℕ) (g : Segment) (gs : Segments) (r : List Sign)
    → Right (segments_part s d) (g, gs) → Follows (segments_part s d) r
    → Along (segments_plan s d) (g, gs) (signs_of (segments_part s d) (g, gs) r) r
segments_way s d g no_segment r h c =
    (g, (h.0.0, and_left _ _ h.1), r, refl, tt, λ i. second_way (c.0, (refl, refl)))
segments_way s d g (and_segment x xs) r h c = (
  g,
  (h.0.0, and_left _ _ h.1),
  _,
  refl,
  tt,
  λ i. first_way (
    refl,
    (
      _,
      refl,
      ((x, xs), (h.0.1, and_right (has_bits (is_strict s) g) _ h.1), r, refl, c, λ j. (refl, refl)),
    ),
  ),
)

-- Modules.

definitions_way : (d : ℕ) (x t : Tree) (ds : Definitions) (r : List Sign) → Right (definitions_part d) (x, t, ds)
    → Follows (definitions_part d) r
    → Along (definitions_plan d) (x, t, ds) (signs_of (definitions_part d) (x, t, ds) r) r
definitions_way d x t no_definition r h c = (
  x,
  h.0,
  _,
  refl,
  (refl, (refl, tt)),
  λ i. (
    _,
    refl,
    (
      t,
      h.1,
      r,
      refl,
      (c.0, (c.1.0, tt)),
      λ j.
          second_way (c.1.1.0, (refl, refl)),
    ),
  ),
)
definitions_way d x t (definition y v ds) r h c =
    let o = opened false _ (opens_tree a_name (suc d) y (symbol (suc d) S.Equals (on true a_fun (suc d) v
    (definitions_on true d ds r)))) in (
      x,
      h.0,
      _,
      refl,
      (refl, (refl, tt)),
      λ i. (
        _,
        refl,
        (
          t,
          h.1,
          _,
          refl,
          (o.slash, (o.equals, tt)),
          λ j.
              first_way (opens_tree a_name (suc d) y _, ((y, v, ds), h.2, r, refl, c, λ z. (refl, refl))),
        ),
      ),
    )

attributes_way : (d : ℕ) (x t : Tree) (bs : Attributes) (r : List Sign) → Right (attributes_part d) (x, t, bs)
    → Follows (attributes_part d) r
    → Along (attributes_plan d) (x, t, bs) (signs_of (attributes_part d) (x, t, bs) r) r
attributes_way d x t no_attribute r h c = (
  x,
  h.0,
  _,
  refl,
  (refl, (refl, tt)),
  λ i. (
    _,
    refl,
    (
      t,
      h.1,
      r,
      refl,
      (c.0, (c.1.0, tt)),
      λ j.
          second_way (c.1.1.0, (refl, refl)),
    ),
  ),
)
attributes_way d x t (attribute y v bs) r h c = (
  x,
  h.0,
  _,
  refl,
  (refl, (refl, tt)),
  λ i. (
    _,
    refl,
    (
      t,
      h.1,
      _,
      refl,
      (refl, (refl, tt)),
      λ j.
          first_way (refl, (_, refl, ((y, v, bs), h.2, r, refl, c, λ z. (refl, refl)))),
    ),
  ),
)

module_end : (d : ℕ) (a : Spelled) (xs : Row) (bs : Attributes) (i : RowStands a_name xs) (j : AttributesStand bs)
    (ds : Definitions) (r : List Sign) → DefinitionsStand ds
    → Along (module_definitions d a xs bs i j) (plain_module a xs bs ds)
    (symbol d S.CloseBracket (definitions_on true d ds (kept_word d W.End r))) r
module_end d a xs bs i j no_definition r h = (_, refl, second_way (refl, (r, refl, (refl, refl))))
module_end d a xs bs i j (definition x t ds) r h = (
  _,
  refl,
  first_way (
    opens_tree a_name (suc d) x _,
    (
      (x, t, ds),
      h,
      _,
      refl,
      (refl, (refl, (refl, tt))),
      λ z. (r, refl, (refl, refl)),
    ),
  ),
)

module_middle : (d : ℕ) (a : Spelled) (xs : Row) (i : RowStands a_name xs) (bs : Attributes) (ds : Definitions)
    (r : List Sign) → AttributesStand bs → DefinitionsStand ds
    → Along (module_attributes d a xs i) (plain_module a xs bs ds)
    (symbol d S.CloseBracket (kept_word d W.Attributes (symbol d S.OpenBracket (attributes_on true true d bs
    (symbol d S.CloseBracket (definitions_on true d ds (kept_word d W.End r))))))) r
module_middle d a xs i no_attribute ds r j h =
    (_, refl, (_, refl, (_, refl, second_way (refl, module_end d a xs no_attribute i tt ds r h))))
module_middle d a xs i (attribute x t bs) ds r j h = (
  _,
  refl,
  (
    _,
    refl,
    (
      _,
      refl,
      first_way (
        opens_tree an_atom d x _,
        (
          (x, t, bs),
          j,
          _,
          refl,
          (refl, (refl, (refl, tt))),
          λ z. module_end d a xs (attribute x t bs) i z ds r h,
        ),
      ),
    ),
  ),
)

module_way : (d : ℕ) (w : Written) (r : List Sign) → IsModule w → Along (module_plan d) w (module_on true d w r) r
module_way d (plain_module a none bs ds) r h =
    second_way (
      refl,
      (
        _,
        refl,
        (
          a.place,
          Atom a.name,
          refl,
          _,
          refl,
          λ z. (
            _,
            refl,
            second_way (refl, module_middle d a none tt bs ds r h.1 h.2),
          ),
        ),
      ),
    )
module_way d (plain_module a (more x xs) bs ds) r h =
    second_way (
      refl,
      (
        _,
        refl,
        (
          a.place,
          Atom a.name,
          refl,
          _,
          refl,
          λ z. (
            _,
            refl,
            first_way (
              opens_tree a_name d x _,
              (
                (x, xs),
                h.0,
                _,
                refl,
                (refl, (refl, (refl, tt))),
                λ i.
                    module_middle d a (more x xs) i bs ds r h.1 h.2,
              ),
            ),
          ),
        ),
      ),
    )
module_way d (noted_module w n) r h =
    first_way (
      refl,
      (
        _,
        refl,
        (
          w,
          h.0,
          _,
          refl,
          tt,
          λ i. (
            _,
            refl,
            (
              n,
              h.1,
              _,
              refl,
              (refl, (refl, tt)),
              λ j.
                  (r, refl, (refl, refl)),
            ),
          ),
        ),
      ),
    )

pub part_way : (v : Part) (b : Value v) → Right v b → (r : List Sign) → Follows v r
    → Along (body v) b (signs_of v b r) r
part_way (tree_part s d) t h r c = tree_way s d t r h c
part_way (items_part s d) ts h r c = items_way s d ts.0 ts.1 r h.0 h.1 c
part_way (group_part d) g h r c = group_way d g r h c
part_way (pairs_part s d) ps h r c = pairs_way s d ps.0 ps.1 ps.2 ps.3 r h c
part_way (segment_part s d) g h r c = segment_way s d g r h.0 h.1
part_way (segments_part s d) gs h r c = segments_way s d gs.0 gs.1 r h c
part_way (head_part d) x h r c = head_way d x r h c
part_way (clause_part d) q h r c = (whole q, h, r, refl, c, λ i. (refl, refl))
part_way (clauses_part d) qs h r c = clauses_way d qs.0 qs.1 r h c
part_way (definitions_part d) ds h r c = definitions_way d ds.0 ds.1 ds.2 r h c
part_way (attributes_part d) bs h r c = attributes_way d bs.0 bs.1 bs.2 r h c
part_way (module_part d) w h r c = module_way d w r h
part_way (value_part d) t h r c = value_way d t r h
part_way (size_part d) t h r c = size_way d t r h
part_way (unit_part m d) t h r c = unit_way m d t r h
part_way (kind_part d) t h r c = kind_way d t r h
part_way (flags_part d) t h r c = flags_way d t r h
part_way (flag_part d) t h r c = flag_way d t r h
part_way (flag_items_part d) ts h r c = flag_items_way d ts.0 ts.1 r h c
