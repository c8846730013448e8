-- What is to be read for a clause follows its plan.
use Rattle.std.proofs.Common.{◌≡◌, refl, sym, ap, ◌∙◌, ℕ, suc, ◌+◌, List, [], ◌∷◌, Bool, true, false}
use Rattle.std.specs.Bool.{⊤}
use Rattle.erl_base.specs.declared.ids.Place.{Place}
use Rattle.core_lex.specs.declared.token.Token.{Token}
use Rattle.core_lex.specs.declared.token.TokenKind.{TokenKind}
use Rattle.core_lex.specs.declared.token.Word.TheVariants as W
use Rattle.core_lex.specs.declared.token.Symbol.TheVariants as S
use Rattle.core_syntax.specs.declared.sort.Sort.TheVariants as O
use Rattle.core_syntax.specs.declared.item.Count.TheVariants as C
use Rattle.core_syntax.specs.declared.item.Shape.{Shape}
use Rattle.core_syntax.specs.declared.item.Shape.TheVariants.{Other, Variable, Clause, Counted}
use Rattle.core_syntax.specs.declared.item.Part.TheVariants as P
use Rattle.core_syntax.specs.declared.item.Item.TheVariants as I
use Rattle.core_syntax.specs.declared.item.Entry.{Entry}
use Rattle.core_grammar.specs.WrittenTree.{Tree, angled, clause}
use Rattle.core_grammar.specs.Standing as G
use Rattle.core_grammar.specs.Standing.{Stands}
use Rattle.core_grammar.specs.Signs.{Sign, on}
use Rattle.core_texts.proofs.Annotated.{is_variable_like}
use Rattle.core_texts.proofs.Parts.{Head, whole, part, HeadRight}
use Rattle.core_texts.proofs.Plans.{symbol_next, done}
use Rattle.core_texts.proofs.Steps.{rows}
use Rattle.core_texts.proofs.Bodies.{clause_rest, head_end, head_alias, head_noted, head_plan, clause_end, clause_plan, clauses_plan}
use Rattle.core_syntax.specs.TokenKinds.{is_word}
use Rattle.core_syntax.specs.Beginnings.{on_test, at, stacked, guarded}
use Rattle.core_syntax.specs.Reactions.{react, note, head_note}
use Rattle.core_syntax.proofs.Choosing.{is_angle, is_paren, is_when, is_equals, chosen_take, not_chosen, kept, left_out, retest}
use Rattle.core_syntax.proofs.Following.{Follows, a_tree, items, a_head, a_clause, clauses, variable_shape, head_shape}
use Rattle.core_syntax.proofs.Pieces.{at_angle}

-- behind a pattern
head_end_follows : {k : List Sign → List Sign} (d : ℕ) (t : Tree) (h : Stands G.pattern t)
    (e : (r : List Sign) → on true G.pattern (suc d) t r ≡ k r) (es : List Entry) (sh : Shape)
    → sh ≡ variable_shape (is_variable_like t)
    → Follows P.Head es (head_end d t h e) (λ x. ⊤) (at d I.HeadEnd ∷ es) sh
head_end_follows d x h e es sh c = (
  (
    _,
    Other,
    λ t i. kept _ _ _ _ (sym (is_when t.kind) ∙ i.1),
    (
      P.Tree O.Expression,
      suc d,
      _,
      a_tree O.Expression (suc d),
      λ t i. refl,
      λ b h now c. (
        _,
        Other,
        λ t i. refl,
        (
          P.Tree O.Expression,
          suc d,
          _,
          a_tree O.Expression (suc d),
          λ t i. refl,
          λ b h now c. (Clause, λ t i. refl, refl),
        ),
      ),
    ),
  ),
  (sh, λ t i. left_out _ _ _ _ (sym (is_when t.kind) ∙ i.1), c),
)

-- behind an annotated pattern
head_alias_follows : (d : ℕ) (p : Place) (t n : Tree) (i : Stands G.pattern t) (j : Stands G.note n) (b : Bool)
    (e : is_variable_like t ≡ b) (es : List Entry)
    → Follows P.Head es (head_alias d p t n i j b e) (λ x. ⊤) (at (suc d) I.Alias ∷ at d I.HeadEnd ∷ es)
    (variable_shape b)
head_alias_follows d p x n k j false e es = (
  (
    _,
    Other,
    λ t i. kept _ _ _ _ (sym (is_when t.kind) ∙ i.1),
    (
      P.Tree O.Expression,
      suc d,
      _,
      a_tree O.Expression (suc d),
      λ t i. refl,
      λ b h now c. (
        _,
        Other,
        λ t i. refl,
        (
          P.Tree O.Expression,
          suc d,
          _,
          a_tree O.Expression (suc d),
          λ t i. refl,
          λ b h now c. (Clause, λ t i. refl, refl),
        ),
      ),
    ),
  ),
  (Other, λ t i. left_out _ _ _ _ (sym (is_when t.kind) ∙ i.1), sym (ap variable_shape e)),
)
head_alias_follows d p x n k j true e es = (
  (
    _,
    Other,
    λ t i. kept _ _ _ _ (sym (is_equals t.kind) ∙ i.1),
    (
      P.Tree O.Pattern,
      suc (suc d),
      _,
      a_tree O.Pattern (suc (suc d)),
      λ t i. refl,
      λ b h now c. (
        (
          _,
          Other,
          λ t i. kept _ _ _ _ (sym (is_when t.kind) ∙ i.1),
          (
            P.Tree O.Expression,
            suc d,
            _,
            a_tree O.Expression (suc d),
            λ t i. refl,
            λ b h now c. (
              _,
              Other,
              λ t i. refl,
              (
                P.Tree O.Expression,
                suc d,
                _,
                a_tree O.Expression (suc d),
                λ t i. refl,
                λ b h now c. (Clause, λ t i. refl, refl),
              ),
            ),
          ),
        ),
        (Other, λ t i. left_out _ _ _ _ (sym (is_when t.kind) ∙ i.1), refl),
      ),
    ),
  ),
  (
    (
      _,
      Other,
      λ t i. left_out _ _ _ _ (sym (is_equals t.kind) ∙ i.0.1) ∙ kept _ _ _ _ (sym (is_when t.kind) ∙ i.1),
      (
        P.Tree O.Expression,
        suc d,
        _,
        a_tree O.Expression (suc d),
        λ t i. refl,
        λ b h now c. (
          _,
          Other,
          λ t i. refl,
          (
            P.Tree O.Expression,
            suc d,
            _,
            a_tree O.Expression (suc d),
            λ t i. refl,
            λ b h now c. (Clause, λ t i. refl, refl),
          ),
        ),
      ),
    ),
    (
      Variable,
      λ t i. left_out _ _ _ _ (sym (is_equals t.kind) ∙ i.0.1) ∙ left_out _ _ _ _ (sym (is_when t.kind) ∙ i.1),
      sym (ap variable_shape e),
    ),
  ),
)

-- the note of an annotated pattern
head_note_is : (b : Bool) (d : ℕ) (k : TokenKind) (es : List Entry)
    → head_note d (variable_shape b) k es
    ≡ note (suc (1 + suc d)) (variable_shape b) k (at (suc d) I.Alias ∷ at d I.HeadEnd ∷ es)
head_note_is true d k es = refl
head_note_is false d k es = refl

head_noted_follows : (d : ℕ) (p : Place) (h : Head) (k : HeadRight h) (es : List Entry) (sh : Shape)
    → sh ≡ head_shape h → Follows P.Head es (head_noted d p h k) (λ x. ⊤) (at d I.NotedHead ∷ es) sh
head_noted_follows d p (whole x) k es sh c = (
  _,
  Other,
  λ t i. ap (λ y. head_note d y t.kind es) c,
  (
    P.Tree O.Note,
    suc (suc d),
    _,
    a_tree O.Note (suc (suc d)),
    λ t i. refl,
    λ n k last m. (_, Clause, λ t i. refl, (Clause, λ t i. refl, refl)),
  ),
)
head_noted_follows d p (part x) k es sh c = (
  _,
  Other,
  λ t i. ap (λ y. head_note d y t.kind es) c ∙ head_note_is (is_variable_like x) d t.kind es,
  (
    P.Tree O.Note,
    suc (1 + suc d),
    _,
    a_tree O.Note (suc (1 + suc d)),
    λ t i. refl,
    λ n l last m. (
      _,
      variable_shape (is_variable_like x),
      λ t i. refl,
      head_alias_follows d p x n k l (is_variable_like x) refl es,
    ),
  ),
)

-- what is to be read behind `<`
abbrev behind_angle : ℕ → List Entry → List Entry
behind_angle d es =
    stacked (suc d) (I.Maybe (P.Items O.Pattern C.Zero) ∷ I.Symbol S.CloseAngle ∷ I.Word W.When ∷ [])
    (stacked (suc d) guarded (at d (I.Becomes Clause) ∷ es))

pub head_follows : (d : ℕ) (es : List Entry) (sh : Shape)
    → Follows P.Head es (head_plan d) (λ x. ⊤) (at d (I.Part P.Head) ∷ es) sh
head_follows d es sh = (
  (
    λ x. behind_angle d es,
    λ x. Other,
    λ t i. chosen_take _ _ _ _ _ (sym (is_angle t.kind) ∙ i.1) ∙ retest _ _ _ _ _ (sym (is_angle t.kind)),
    at_angle P.Head es (λ r. r) (suc d)
        (λ p. rows G.pattern (suc d) λ ts h. symbol_next true (suc d) S.CloseAngle
        (clause_rest (suc d) λ u v i j. done (whole (clause (angled p ts) u v)) (h, i, j) (λ r. refl)))
        (behind_angle d es)
        Other
        (λ q. (
          (
            P.Items O.Pattern C.Zero,
            suc d,
            _,
            items O.Pattern C.Zero (suc d),
            λ t i. kept _ _ _ _ i.1,
            λ b h now c. (
              _,
              Other,
              λ t i. refl,
              (
                _,
                Other,
                λ t i. refl,
                (
                  P.Tree O.Expression,
                  suc d,
                  _,
                  a_tree O.Expression (suc d),
                  λ t i. refl,
                  λ b h now c. (
                    _,
                    Other,
                    λ t i. refl,
                    (
                      P.Tree O.Expression,
                      suc d,
                      _,
                      a_tree O.Expression (suc d),
                      λ t i. refl,
                      λ b h now c. (Clause, λ t i. refl, refl),
                    ),
                  ),
                ),
              ),
            ),
          ),
          (
            _,
            Other,
            λ t i. left_out _ _ _ _ i.1,
            (
              _,
              Other,
              λ t i. refl,
              (
                P.Tree O.Expression,
                suc d,
                _,
                a_tree O.Expression (suc d),
                λ t i. refl,
                λ b h now c. (
                  _,
                  Other,
                  λ t i. refl,
                  (
                    P.Tree O.Expression,
                    suc d,
                    _,
                    a_tree O.Expression (suc d),
                    λ t i. refl,
                    λ b h now c. (Clause, λ t i. refl, refl),
                  ),
                ),
              ),
            ),
          ),
        )),
  ),
  (
    (
      P.Head,
      suc d,
      at d I.NotedHead ∷ es,
      Other,
      a_head (suc d),
      λ t i. not_chosen _ _ _ (sym (is_angle t.kind) ∙ i.0.1)
          ∙ chosen_take _ _ _ _ _ (sym (is_paren t.kind) ∙ i.1),
      λ r b h then c. head_noted_follows d r b h es then c,
    ),
    (
      P.Tree O.Pattern,
      suc d,
      _,
      a_tree O.Pattern (suc d),
      λ t i. not_chosen _ _ _ (sym (is_angle t.kind) ∙ i.0.1) ∙ not_chosen _ _ _ (sym (is_paren t.kind) ∙ i.1),
      λ b h now c. head_end_follows d b h (λ r. refl) es now c,
    ),
  ),
)

-- `when` behind a pattern
clause_end_is : (b : Bool) (t : Token) (d : ℕ) (es : List Entry)
    → react t (at d I.ClauseEnd ∷ es) (variable_shape b)
    ≡ on_test (is_word W.When t.kind) (suc d) (stacked (suc d) guarded es) Other
clause_end_is true t d es = refl
clause_end_is false t d es = refl

clause_end_follows : (d : ℕ) (h : Head) (k : HeadRight h) (es : List Entry) (sh : Shape) → sh ≡ head_shape h
    → Follows P.Clause es (clause_end d h k) (λ x. ⊤) (at d I.ClauseEnd ∷ es) sh
clause_end_follows d (whole x) k es sh c = (Other, λ t i. ap (λ y. react t (at d I.ClauseEnd ∷ es) y) c, tt)
clause_end_follows d (part x) k es sh c = (
  _,
  Other,
  λ t i. ap (λ y. react t (at d I.ClauseEnd ∷ es) y) c ∙ clause_end_is (is_variable_like x) t d es,
  (
    P.Tree O.Expression,
    suc d,
    _,
    a_tree O.Expression (suc d),
    λ t i. refl,
    λ b h now c. (
      _,
      Other,
      λ t i. refl,
      (P.Tree O.Expression, suc d, _, a_tree O.Expression (suc d), λ t i. refl, λ b h now c. (now, λ t i. refl, tt)),
    ),
  ),
)

pub clause_follows : (d : ℕ) (es : List Entry) (sh : Shape)
    → Follows P.Clause es (clause_plan d) (λ x. ⊤) (at d (I.Part P.Clause) ∷ es) sh
clause_follows d es sh = (P.Head, d, _, a_head d, λ t i. refl, λ b h now c. clause_end_follows d b h es now c)

pub clauses_follow : (d : ℕ) (es : List Entry) (sh : Shape)
    → Follows P.Clauses es (clauses_plan d) (λ x. ⊤) (at d (I.Part P.Clauses) ∷ es) sh
clauses_follow d es sh = (
  P.Clause,
  d,
  _,
  a_clause d,
  λ t i. refl,
  λ b h now c. (
    (P.Clauses, d, _, clauses d, λ t i. kept _ _ _ _ i.1, λ b h now c. (now, λ t i. refl, tt)),
    (Counted C.Zero, λ t i. left_out _ _ _ _ i.1, tt),
  ),
)
