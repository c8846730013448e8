-- What is to be read for a tree that begins with a word follows its plan.
use Rattle.std.proofs.Common.{◌≡◌, refl, sym, ap, ◌∙◌, ℕ, suc, List, Bool, true, false, ◌&&◌, ◌||◌}
use Rattle.std.specs.Bool.{⊤}
use Rattle.erl_base.specs.declared.ids.Place.{Place}
use Rattle.core_lex.specs.declared.token.TokenKind.TheVariants as K
use Rattle.core_lex.specs.declared.token.Word as Words
use Rattle.core_lex.specs.declared.token.Word.TheVariants as W
use Rattle.core_lex.specs.declared.token.Symbol.TheVariants as S
use Rattle.core_texts.proofs.Truths.{never}
use Rattle.core_syntax.specs.declared.sort.Sort.{Sort}
use Rattle.core_syntax.specs.declared.sort.Sort.TheVariants as O
use Rattle.core_syntax.specs.declared.item.Count.TheVariants as C
use Rattle.core_syntax.specs.declared.item.Shape.TheVariants.{Other, Counted}
use Rattle.core_syntax.specs.declared.item.Part.TheVariants as P
use Rattle.core_syntax.specs.declared.item.Entry.{Entry}
use Rattle.std.proofs.Common.{arith, eqb}
use Rattle.std.proofs.lemmas.Bool.{ne_eqb}
use Rattle.core_grammar.specs.WrittenTree.{Row, none, more as more_of, Group, single, angled, primop}
use Rattle.core_grammar.specs.Standing as G
use Rattle.core_grammar.specs.Signs.{token_at, is_catch_count, row_count, group_count}
use Rattle.core_texts.proofs.Plans.{done}
use Rattle.core_texts.proofs.Trees as T
use Rattle.core_texts.proofs.Trees.{local_plan, external_plan, fun_plan, arguments_plan, word_plan}
use Rattle.core_syntax.specs.Sorts.{sort_of}
use Rattle.core_syntax.specs.TokenKinds.{is_symbol}
use Rattle.core_syntax.specs.Beginnings.{stacked, arguments, form_next}
use Rattle.core_syntax.specs.Reactions.{catches}
use Rattle.core_syntax.proofs.Choosing as Choosing
use Rattle.core_syntax.proofs.Choosing.{is_paren, chosen_take, not_chosen, kept, left_out, retest}
use Rattle.core_syntax.proofs.Following.{Follows, a_tree, items, group, a_clause, clauses, definitions, counted, group_counted}
use Rattle.core_syntax.proofs.Pieces.{at_atom}
use Rattle.core_syntax.proofs.FunForms.{fun_follows}

-- Variables of a catch part are counted.

many : (ts : Row) → counted C.Many ts ≡ C.Many
many none = refl
many (more_of t ts) = many ts

neither : (a b : Bool) → a ≡ false → b ≡ false → (a || b) ≡ false
neither true b h i = never (sym h)
neither false b h i = i

past_three : (n : ℕ) → is_catch_count (suc (suc (suc (suc n)))) ≡ false
past_three n =
    neither (eqb (suc (suc (suc (suc n)))) 2) (eqb (suc (suc (suc (suc n)))) 3)
    (ne_eqb (suc (suc (suc (suc n)))) 2 (λ e. omega (arith, e)))
    (ne_eqb (suc (suc (suc (suc n)))) 3 (λ e. omega (arith, e)))

catch_row : (ts : Row) → catches (Counted (counted C.Zero ts)) ≡ is_catch_count (row_count ts)
catch_row none = refl
catch_row (more_of t none) = refl
catch_row (more_of t (more_of u none)) = refl
catch_row (more_of t (more_of u (more_of v none))) = refl
catch_row (more_of t (more_of u (more_of v (more_of w ts)))) =
    ap (λ n. catches (Counted n)) (many ts) ∙ sym (past_three (row_count ts))

catch_group : (g : Group) → catches (Counted (group_counted g)) ≡ is_catch_count (group_count g)
catch_group (single t) = refl
catch_group (angled p ts) = catch_row ts

-- Expressions.

expression_follows : (d : ℕ) (p : Place) (x : Words.Word) (h : T.takes_word G.expression x ≡ true) (es : List Entry)
    → Follows (P.Tree O.Expression) es (word_plan G.expression d p x h) (λ x. ⊤) (form_next O.Expression (suc d) x es)
    Other
expression_follows d p W.Fun h es = fun_follows O.Expression d p h es
expression_follows d p W.Let h es = (
  P.Group,
  suc d,
  _,
  group (suc d),
  λ t i. refl,
  λ b h now c. (
    _,
    Other,
    λ t i. refl,
    (
      P.Tree O.Expression,
      suc d,
      _,
      a_tree O.Expression (suc d),
      λ t i. refl,
      λ b h now c. (
        _,
        Other,
        λ t i. refl,
        (
          P.Tree O.Expression,
          suc d,
          _,
          a_tree O.Expression (suc d),
          λ t i. refl,
          λ b h now c. (now, λ t i. refl, tt),
        ),
      ),
    ),
  ),
)
expression_follows d p W.Letrec h es = (
  (
    P.Definitions,
    suc d,
    _,
    definitions (suc d),
    λ t i. kept _ _ _ _ i.1,
    λ b h now c. (
      _,
      Other,
      λ t i. refl,
      (P.Tree O.Expression, suc d, _, a_tree O.Expression (suc d), λ t i. refl, λ b h now c. (now, λ t i. refl, tt)),
    ),
  ),
  (
    _,
    Other,
    λ t i. left_out _ _ _ _ i.1,
    (P.Tree O.Expression, suc d, _, a_tree O.Expression (suc d), λ t i. refl, λ b h now c. (now, λ t i. refl, tt)),
  ),
)
expression_follows d p W.Case h es = (
  P.Tree O.Expression,
  suc d,
  _,
  a_tree O.Expression (suc d),
  λ t i. refl,
  λ b h now c. (
    _,
    Other,
    λ t i. refl,
    (
      P.Clause,
      suc d,
      _,
      a_clause (suc d),
      λ t i. refl,
      λ b h now c. (
        (
          P.Clauses,
          suc d,
          _,
          clauses (suc d),
          λ t i. kept _ _ _ _ i.1,
          λ b h now c. (_, Other, λ t i. refl, (Other, λ t i. refl, tt)),
        ),
        (_, Other, λ t i. left_out _ _ _ _ i.1, (Other, λ t i. refl, tt)),
      ),
    ),
  ),
)
expression_follows d p W.Apply h es = (
  P.Tree O.Expression,
  suc d,
  _,
  a_tree O.Expression (suc d),
  λ t i. refl,
  λ b h now c. (
    _,
    Other,
    λ t i. refl,
    (
      (
        P.Items O.Expression C.Zero,
        suc d,
        _,
        items O.Expression C.Zero (suc d),
        λ t i. kept _ _ _ _ i.1,
        λ b h now c. (_, Other, λ t i. refl, (Other, λ t i. refl, tt)),
      ),
      (_, Other, λ t i. left_out _ _ _ _ i.1, (Other, λ t i. refl, tt)),
    ),
  ),
)
expression_follows d p W.Call h es = (
  P.Tree O.Expression,
  suc d,
  _,
  a_tree O.Expression (suc d),
  λ t i. refl,
  λ b h now c. (
    _,
    Other,
    λ t i. refl,
    (
      P.Tree O.Expression,
      suc d,
      _,
      a_tree O.Expression (suc d),
      λ t i. refl,
      λ b h now c. (
        _,
        Other,
        λ t i. refl,
        (
          (
            P.Items O.Expression C.Zero,
            suc d,
            _,
            items O.Expression C.Zero (suc d),
            λ t i. kept _ _ _ _ i.1,
            λ b h now c. (_, Other, λ t i. refl, (Other, λ t i. refl, tt)),
          ),
          (_, Other, λ t i. left_out _ _ _ _ i.1, (Other, λ t i. refl, tt)),
        ),
      ),
    ),
  ),
)
expression_follows d p W.Primop h es = (
  λ x. stacked (suc d) arguments es,
  λ x. Other,
  λ t i. retest _ _ _ _ _ (sym (Choosing.is_atom t.kind)),
  at_atom (P.Tree O.Expression) es (λ r. token_at (suc d) p (K.Word W.Primop) r) (suc d)
      (λ a. arguments_plan (suc d) λ ts j. done (primop p a ts) (h, j) (λ r. refl)) (stacked (suc d) arguments es) Other
      (λ a. (
        _,
        Other,
        λ t i. refl,
        (
          (
            P.Items O.Expression C.Zero,
            suc d,
            _,
            items O.Expression C.Zero (suc d),
            λ t i. kept _ _ _ _ i.1,
            λ b h now c. (_, Other, λ t i. refl, (Other, λ t i. refl, tt)),
          ),
          (_, Other, λ t i. left_out _ _ _ _ i.1, (Other, λ t i. refl, tt)),
        ),
      )),
)
expression_follows d p W.Do h es = (
  P.Tree O.Expression,
  suc d,
  _,
  a_tree O.Expression (suc d),
  λ t i. refl,
  λ b h now c. (
    P.Tree O.Expression,
    suc d,
    _,
    a_tree O.Expression (suc d),
    λ t i. refl,
    λ b h now c. (now, λ t i. refl, tt),
  ),
)
expression_follows d p W.Catch h es = (
  P.Tree O.Expression,
  suc d,
  _,
  a_tree O.Expression (suc d),
  λ t i. refl,
  λ b h now c. (now, λ t i. refl, tt),
)
expression_follows d p W.Try h es = (
  P.Tree O.Expression,
  suc d,
  _,
  a_tree O.Expression (suc d),
  λ t i. refl,
  λ b h now c. (
    _,
    Other,
    λ t i. refl,
    (
      P.Group,
      suc d,
      _,
      group (suc d),
      λ t i. refl,
      λ b h now c. (
        _,
        Other,
        λ t i. refl,
        (
          P.Tree O.Expression,
          suc d,
          _,
          a_tree O.Expression (suc d),
          λ t i. refl,
          λ b h now c. (
            _,
            Other,
            λ t i. refl,
            (
              P.Group,
              suc d,
              _,
              group (suc d),
              λ t i. refl,
              λ b h now c. (
                _,
                Other,
                λ t i. retest _ _ _ _ _ (ap (λ x. x && is_symbol S.Arrow t.kind) (ap catches c ∙ catch_group b)),
                (
                  P.Tree O.Expression,
                  suc d,
                  _,
                  a_tree O.Expression (suc d),
                  λ t i. refl,
                  λ b h now c. (now, λ t i. refl, tt),
                ),
              ),
            ),
          ),
        ),
      ),
    ),
  ),
)
expression_follows d p W.Receive h es = (
  (
    P.Clauses,
    suc d,
    _,
    clauses (suc d),
    λ t i. kept _ _ _ _ i.1,
    λ b h now c. (
      _,
      Other,
      λ t i. refl,
      (
        P.Tree O.Expression,
        suc d,
        _,
        a_tree O.Expression (suc d),
        λ t i. refl,
        λ b h now c. (
          _,
          Other,
          λ t i. refl,
          (
            P.Tree O.Expression,
            suc d,
            _,
            a_tree O.Expression (suc d),
            λ t i. refl,
            λ b h now c. (now, λ t i. refl, tt),
          ),
        ),
      ),
    ),
  ),
  (
    _,
    Other,
    λ t i. left_out _ _ _ _ i.1,
    (
      P.Tree O.Expression,
      suc d,
      _,
      a_tree O.Expression (suc d),
      λ t i. refl,
      λ b h now c. (
        _,
        Other,
        λ t i. refl,
        (
          P.Tree O.Expression,
          suc d,
          _,
          a_tree O.Expression (suc d),
          λ t i. refl,
          λ b h now c. (now, λ t i. refl, tt),
        ),
      ),
    ),
  ),
)
expression_follows d p _ h es = never h

pub form_follows : (s : Sort) (d : ℕ) (p : Place) (x : Words.Word) (h : T.takes_word (sort_of s) x ≡ true)
    (es : List Entry)
    → Follows (P.Tree s) es (word_plan (sort_of s) d p x h) (λ x. ⊤) (form_next s (suc d) x es) Other
form_follows O.Expression d p x h es = expression_follows d p x h es
form_follows s d p W.Fun h es = fun_follows s d p h es
form_follows s d p _ h es = never h
