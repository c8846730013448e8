-- What is written is read along its plan: clauses.
use Rattle.std.proofs.Common.{◌≡◌, refl, sym, subst, ℕ, suc, ◌+◌, List, Bool, true, false}
use Rattle.erl_base.specs.declared.ids.Place.{Place}
use Rattle.core_lex.specs.declared.token.TokenKind.TheVariants.{Symbol}
use Rattle.core_lex.specs.declared.token.Word.TheVariants as W
use Rattle.core_lex.specs.declared.token.Symbol.TheVariants as S
use Rattle.core_grammar.specs.WrittenTree.{Tree, variable, noted, alias, values, none, more, single, angled, Clause, clause, noted_clause, Clauses, no_clause, and_clause}
use Rattle.core_grammar.specs.Standing.{expression, pattern, note, Stands}
use Rattle.core_grammar.specs.Signs.{Sign, symbol, kept_word, on}
use Rattle.core_texts.proofs.Parts.{Head, whole, part, here, tree_part, head_part, clauses_part, signs_of, Right, Follows, head_on, HeadRight}
use Rattle.core_texts.proofs.Fronts.{is_angle, is_paren, equals_in, front}
use Rattle.core_texts.proofs.Truths.{never}
use Rattle.core_texts.proofs.Opens.{no_front, opens_tree, opens_clause}
use Rattle.core_texts.proofs.Annotated.{is_variable_like, variable_stands, variable_like, as_variable, like_stands}
use Rattle.core_texts.proofs.Complete.{Along, first_way, second_way}
use Rattle.core_texts.proofs.Bodies.{head_end, head_alias, head_noted, head_plan, clauses_plan}
use Rattle.core_texts.proofs.Ways.{clause_calm}

-- when guard -> body
abbrev when_on : ℕ → Tree → Tree → List Sign → List Sign
when_on d u v r =
    kept_word d W.When (on true expression d u (symbol d S.Arrow (on true expression d v r)))

noted_head : (d : ℕ) (p : Place) (x n : Tree) (i : Stands pattern x) (j : Stands note n) (b : Head) (gs r : List Sign)
    (y : Bool) (e : is_variable_like x ≡ y) → front (equals_in true) gs ≡ false
    → ((k : List Sign → List Sign) (h : Stands pattern (noted p x n))
    (q : (r : List Sign) → on true pattern (suc d) (noted p x n) r ≡ k r)
    → Along (head_end {k = k} d (noted p x n) h q) b gs r)
    → Along (head_alias d p x n i j y e) b gs r
noted_head d p x n i j b gs r true e c f = second_way (c, f _ (i, j) (λ r. refl))
noted_head d p x n i j b gs r false e c f = f _ (i, j) (λ r. refl)

alias_head : (d : ℕ) (p : Place) (x n u : Tree) (i : Stands pattern x) (j : Stands note n) (b : Head)
    (gs r : List Sign) (y : Bool) (e : is_variable_like x ≡ y) → y ≡ true → Stands pattern u
    → Follows (tree_part pattern (suc (suc d))) gs
    → ((k : List Sign → List Sign) (h : Stands pattern (alias (noted p x n) u))
    (q : (r : List Sign) → on true pattern (suc d) (alias (noted p x n) u) r ≡ k r)
    → Along (head_end {k = k} d (alias (noted p x n) u) h q) b gs r)
    → Along (head_alias d p x n i j y e) b
    (symbol (suc (suc d)) S.Equals (on true pattern (suc (suc d)) u gs)) r
alias_head d p x n u i j b gs r true e h k c f =
    first_way (
      refl,
      (
        _,
        refl,
        (
          u,
          k,
          gs,
          refl,
          c,
          λ l.
              f (λ z. on true pattern (suc d) (noted p x n) (symbol (suc (suc d)) S.Equals (on true pattern (suc
              (suc d)) u z)))
              (refl, (like_stands x e i, j), l) (λ z. as_variable (noted p x n) (like_stands x e i, j) (suc d) _),
        ),
      ),
    )
alias_head d p x n u i j b gs r false e h k c f = never h

other_head : (d : ℕ) (t : Tree) (b : Head) (gs r : List Sign) → Stands pattern t
    → Follows (tree_part pattern (suc d)) gs → front is_angle (on true pattern (suc d) t gs) ≡ false
    → front is_paren (on true pattern (suc d) t gs) ≡ false
    → ((k : List Sign → List Sign) (h : Stands pattern t) (q : (r : List Sign) → on true pattern (suc d) t r ≡ k r)
    → Along (head_end {k = k} d t h q) b gs r)
    → Along (head_plan d) b (on true pattern (suc d) t gs) r
other_head d t b gs r h c e q f = second_way (e, second_way (q, (t, h, gs, refl, c, λ i. f _ i (λ r. refl))))

pattern_head : (d : ℕ) (t : Tree) (b : Head) (gs r : List Sign) → Stands pattern t
    → Follows (tree_part pattern (suc d)) gs
    → ((k : List Sign → List Sign) (h : Stands pattern t) (q : (r : List Sign) → on true pattern (suc d) t r ≡ k r)
    → Along (head_end {k = k} d t h q) b gs r)
    → Along (head_plan d) b (on true pattern (suc d) t gs) r
pattern_head d (noted p x n) b gs r h c f =
    second_way (
      refl,
      first_way (
        refl,
        (
          part x,
          h.0,
          p,
          _,
          refl,
          (refl, (refl, (refl, tt))),
          λ w y i.
              subst (λ q. Along (head_noted d q (part x) i) b (symbol (suc (1 + suc d)) S.AnnotationBar
              (on true note (suc (1 + suc d)) n (symbol (suc (1 + suc d)) S.CloseParen gs))) r) (sym y.1) (
                _,
                refl,
                (
                  n,
                  h.1,
                  _,
                  refl,
                  (refl, (refl, tt)),
                  λ j. (
                    gs,
                    refl,
                    noted_head d p x n i j b gs r (is_variable_like x) refl c.1.0 f,
                  ),
                ),
              ),
        ),
      ),
    )
pattern_head d (alias (noted p x n) u) b gs r h c f =
    subst (λ z. Along (head_plan d) b z r) (sym (as_variable (noted p x n) h.1 (suc d) _))
    (second_way (
      refl,
      first_way (
        refl,
        (
          part x,
          variable_stands x h.1.0,
          p,
          _,
          refl,
          (refl, (refl, (refl, tt))),
          λ w y i.
              subst (λ q. Along (head_noted d q (part x) i) b (symbol (suc (1 + suc d)) S.AnnotationBar
              (on true note (suc (1 + suc d)) n (symbol (suc (1 + suc d)) S.CloseParen
              (symbol (suc (suc d)) S.Equals (on true pattern (suc (suc d)) u gs))))) r) (sym y.1) (
                _,
                refl,
                (
                  n,
                  h.1.1,
                  _,
                  refl,
                  (refl, (refl, tt)),
                  λ j. (
                    _,
                    refl,
                    alias_head d p x n u i j b gs r (is_variable_like x) refl (variable_like x h.1.0) h.2 c f,
                  ),
                ),
              ),
        ),
      ),
    ))
pattern_head d (alias (variable p x) u) b gs r h c f = other_head d (alias (variable p x) u) b gs r h c refl refl f
pattern_head d (alias x u) b gs r h c f = never (assumption h.1)
pattern_head d (values p ts) b gs r h c f = never h.0
pattern_head d t b gs r h c f = other_head d t b gs r h c refl refl f

rest_follows : (d : ℕ) (r : List Sign) → Follows (head_part d) r → Follows (tree_part expression (suc d)) r
rest_follows d r c = (c.0, (no_front r, tt))

pub head_way : (d : ℕ) (h : Head) (r : List Sign) → HeadRight h → Follows (head_part d) r
    → Along (head_plan d) h (head_on d h r) r
head_way d (whole (clause (single t) u v)) r h c =
    pattern_head d t (whole (clause (single t) u v)) (when_on (suc d) u v r) r h.0 (refl, (refl, tt))
    (λ k i e. first_way (
      refl,
      (
        _,
        refl,
        (
          u,
          h.1,
          _,
          refl,
          (refl, (refl, tt)),
          λ x. (
            _,
            refl,
            (v, h.2, r, refl, rest_follows d r c, λ y. (refl, refl)),
          ),
        ),
      ),
    ))
head_way d (whole (clause (angled p none) u v)) r h c =
    first_way (
      refl,
      (
        p,
        Symbol S.OpenAngle,
        refl,
        _,
        refl,
        λ i. second_way (
          refl,
          (
            _,
            refl,
            (
              _,
              refl,
              (
                u,
                h.1,
                _,
                refl,
                (refl, (refl, tt)),
                λ x. (
                  _,
                  refl,
                  (v, h.2, r, refl, rest_follows d r c, λ y. (refl, refl)),
                ),
              ),
            ),
          ),
        ),
      ),
    )
head_way d (whole (clause (angled p (more z zs)) u v)) r h c =
    first_way (
      refl,
      (
        p,
        Symbol S.OpenAngle,
        refl,
        _,
        refl,
        λ i. first_way (
          opens_tree pattern (suc d) z _,
          (
            (z, zs),
            h.0,
            _,
            refl,
            (refl, (refl, (refl, tt))),
            λ j. (
              _,
              refl,
              (
                _,
                refl,
                (
                  u,
                  h.1,
                  _,
                  refl,
                  (refl, (refl, tt)),
                  λ x. (
                    _,
                    refl,
                    (v, h.2, r, refl, rest_follows d r c, λ y. (refl, refl)),
                  ),
                ),
              ),
            ),
          ),
        ),
      ),
    )
head_way d (whole (noted_clause q n)) r h c =
    second_way (
      refl,
      first_way (
        refl,
        (
          whole q,
          h.0,
          here,
          _,
          refl,
          (refl, (refl, (refl, tt))),
          λ w f i. (_, refl, (n, h.1, _, refl, (refl, (refl, tt)), λ j. (r, refl, (refl, refl)))),
        ),
      ),
    )
head_way d (part t) r h c =
    pattern_head d t (part t) r r h (c.0, (c.1.0, tt)) (λ k i e. second_way (c.1.1.0, (refl, refl)))

pub clauses_way : (d : ℕ) (q : Clause) (qs : Clauses) (r : List Sign) → Right (clauses_part d) (q, qs)
    → Follows (clauses_part d) r → Along (clauses_plan d) (q, qs) (signs_of (clauses_part d) (q, qs) r) r
clauses_way d q no_clause r h c =
    (q, h.0, r, refl, (c.0, (c.1.0, (c.1.1.0, tt))), λ i. second_way (c.1.1.1.0, (refl, refl)))
clauses_way d q (and_clause x xs) r h c = (
  q,
  h.0,
  _,
  refl,
  clause_calm d x _,
  λ i. first_way (
    opens_clause d x _,
    ((x, xs), h.1, r, refl, c, λ j. (refl, refl)),
  ),
)
