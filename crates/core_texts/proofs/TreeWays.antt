-- What is written is read along its plan: trees.
use Rattle.std.proofs.Common.{◌≡◌, refl, ap, ℕ, suc, ◌+◌, List, true, false, ◌&&◌, IsTrue}
use Rattle.erl_base.specs.declared.ids.Place.{Place}
use Rattle.core_lex.specs.declared.token.TokenKind.TheVariants.{Word, Symbol, Variable, Atom, Number, Wide, Float, Character, Letters}
use Rattle.core_lex.specs.declared.token.Word.TheVariants as W
use Rattle.core_lex.specs.declared.token.Symbol.TheVariants as S
use Rattle.core_grammar.specs.WrittenTree.{Tree, variable, atom, number, wide, float, character, string, function_name, external, noted, alias, list, list_on, tuple, values, new_map, map_on, binary, fun, let_in, letrec, case, apply, call as call_of, primop, do_then, catch, try, receive, none, more, no_pair, pair, no_segment, and_segment, no_clause, and_clause, no_definition, definition}
use Rattle.core_grammar.specs.Standing.{Sort, expression, pattern, note, key, a_name, takes_alias, item_sort, key_sort, Stands}
use Rattle.core_grammar.specs.Signs.{Sign, key_weight, symbol, on}
use Rattle.core_texts.proofs.Fronts.{is_paren, front}
use Rattle.core_texts.proofs.Truths.{never, and_in}
use Rattle.core_texts.proofs.Opens.{opens_tree, opens_segment, opens_clause}
use Rattle.core_texts.proofs.Parts.{tree_part, Follows}
use Rattle.core_texts.proofs.Annotated.{is_key}
use Rattle.core_texts.proofs.Trees.{noted_key_plan, key_plan, tree_plan}
use Rattle.core_texts.proofs.Complete.{Along, first_way, second_way}
use Rattle.core_texts.proofs.Ways.{plain, TreeWay, variable_way, atom_way, name_way, external_way, fun_way, noted_way, alias_way, plain_alias, map_none, map_some, strict_bits, binary_taken, expression_constant, not_both, by_pattern, tree_calm, group_calm, clause_calm}

is_alias : (s : Sort) → IsTrue (takes_alias s) → s ≡ pattern
is_alias pattern h = refl
is_alias _ h = never h

pub look_way : (s : Sort) (d : ℕ) (t : Tree) (r : List Sign) → Stands s t → Follows (tree_part s d) r
    → (is_key s && front is_paren (on true s d t r)) ≡ false → TreeWay s d t r
look_way s d (variable p x) r h c o = (p, Variable x, and_in _ _ h.0 h.1, r, refl, λ i. variable_way s d p x r c i)
look_way s d (atom p a) r h c o = atom_way s d p a r h c
look_way s d (number p g z) r h c o = (p, Number g z, and_in _ _ h.0 h.1, r, refl, λ i. (refl, refl))
look_way s d (wide p n) r h c o = (p, Wide n, h, r, refl, λ i. (refl, refl))
look_way s d (float p) r h c o = (p, Float, h, r, refl, λ i. (refl, refl))
look_way s d (character p x) r h c o = (p, Character x, and_in _ _ h.0 h.1, r, refl, λ i. (refl, refl))
look_way s d (string p cs) r h c o = (p, Letters cs, and_in _ _ h.0 h.1, r, refl, λ i. (refl, refl))
look_way s d (function_name p a n) r h c o = name_way s d p a n r h.0 h.1
look_way s d (external p m f n) r h c o = external_way s d p m f n r h.0 h.1
look_way s d (noted p t n) r h c o = noted_way s d p t n r (not_both (is_key s) o) h.0 h.1 c
look_way s d (alias (variable p x) t) r h c o =
    by_pattern s d (alias (variable p x) t) r (is_alias s h.0) c (λ k. plain_alias d p x t r h.1 h.2 k)
look_way s d (alias (noted p x n) t) r h c o =
    by_pattern s d (alias (noted p x n) t) r (is_alias s h.0) c (λ k. alias_way d p x n t r h.1 h.2 k)
look_way s d (alias x t) r h c o = never (assumption h.1)
look_way s d (list p none) r h c o =
    (p, Symbol S.OpenBracket, h.0, _, refl, λ z. second_way (refl, (r, refl, (refl, refl))))
look_way s d (list p (more x xs)) r h c o = (
  p,
  Symbol S.OpenBracket,
  h.0,
  _,
  refl,
  λ z. first_way (
    opens_tree (item_sort s) (suc d) x _,
    (
      (x, xs),
      h.1,
      _,
      refl,
      (refl, (refl, (refl, tt))),
      λ y. second_way (refl, (r, refl, (refl, refl))),
    ),
  ),
)
look_way s d (list_on p x xs u) r h c o = (
  p,
  Symbol S.OpenBracket,
  h.0,
  _,
  refl,
  λ z. first_way (
    opens_tree (item_sort s) (suc d) x _,
    (
      (x, xs),
      (h.1, h.2),
      _,
      refl,
      (refl, (refl, (refl, tt))),
      λ y. first_way (
        refl,
        (
          _,
          refl,
          (u, h.3, _, refl, (refl, (refl, tt)), λ w. (r, refl, (refl, refl))),
        ),
      ),
    ),
  ),
)
look_way s d (tuple p none) r h c o =
    (p, Symbol S.OpenBrace, h.0, _, refl, λ z. second_way (refl, (r, refl, (refl, refl))))
look_way s d (tuple p (more x xs)) r h c o = (
  p,
  Symbol S.OpenBrace,
  h.0,
  _,
  refl,
  λ z. first_way (
    opens_tree (item_sort s) (suc d) x _,
    (
      (x, xs),
      h.1,
      _,
      refl,
      (refl, (refl, (refl, tt))),
      λ y. (r, refl, (refl, refl)),
    ),
  ),
)
look_way s d (values p none) r h c o =
    (p, Symbol S.OpenAngle, h.0, _, refl, λ z. second_way (refl, (r, refl, (refl, refl))))
look_way s d (values p (more x xs)) r h c o = (
  p,
  Symbol S.OpenAngle,
  h.0,
  _,
  refl,
  λ z. first_way (
    opens_tree expression (suc d) x _,
    (
      (x, xs),
      h.1,
      _,
      refl,
      (refl, (refl, (refl, tt))),
      λ y. (r, refl, (refl, refl)),
    ),
  ),
)
look_way s d (new_map p no_pair) r h c o =
    (p, Symbol S.OpenMap, h.0, _, refl, λ z. second_way (refl, map_none s d p no_pair z tt r))
look_way s d (new_map p (pair x b u ps)) r h c o = (
  p,
  Symbol S.OpenMap,
  h.0,
  _,
  refl,
  λ z. first_way (
    opens_tree (key_sort s) (suc d) x _,
    (
      (x, b, u, ps),
      h.1,
      _,
      refl,
      (refl, (refl, (refl, tt))),
      λ y. map_none s d p (pair x b u ps) z y r,
    ),
  ),
)
look_way s d (map_on p no_pair t) r h c o = (
  p,
  Symbol S.OpenMap,
  expression_constant s h.0,
  _,
  refl,
  λ z. second_way (
    refl,
    map_some s d p no_pair t z tt r h.0 h.2,
  ),
)
look_way s d (map_on p (pair x b u ps) t) r h c o = (
  p,
  Symbol S.OpenMap,
  expression_constant s h.0,
  _,
  refl,
  λ z. first_way (
    opens_tree (key_sort s) (suc d) x _,
    ((x, b, u, ps), h.1, _, refl, (refl, (refl, (refl, tt))), λ y. map_some s d p (pair x b u ps) t z y r h.0 h.2),
  ),
)
look_way s d (binary p no_segment) r h c o =
    (p, Symbol S.OpenBinary, binary_taken s no_segment h.0, _, refl, λ z. second_way (refl, (r, refl, (refl, refl))))
look_way s d (binary p (and_segment g gs)) r h c o = (
  p,
  Symbol S.OpenBinary,
  binary_taken s (and_segment g gs) h.0,
  _,
  refl,
  λ z. first_way (
    opens_segment s (suc d) g _,
    ((g, gs), (h.1, strict_bits s (and_segment g gs) h.0), _, refl, (refl, tt), λ y. (r, refl, (refl, refl))),
  ),
)
look_way s d (fun p xs t) r h c o = fun_way s d p xs t r h.0 h.1 h.2 c
look_way s d (let_in p xs t u) r h c o = (
  p,
  Word W.Let,
  h.0,
  _,
  refl,
  λ z. (
    xs,
    h.1,
    _,
    refl,
    (refl, (refl, tt)),
    λ y. (
      _,
      refl,
      (
        t,
        h.2,
        _,
        refl,
        (
          refl,
          (refl, tt),
        ),
        λ y. (_, refl, (u, h.3, r, refl, (plain s d (suc d) r c), λ y. (refl, refl))),
      ),
    ),
  ),
)
look_way s d (letrec p no_definition t) r h c o = (
  p,
  Word W.Letrec,
  h.0,
  _,
  refl,
  λ z. second_way (
    refl,
    (
      _,
      refl,
      (
        t,
        h.2,
        r,
        refl,
        (plain s d (suc d) r c),
        λ y.
            (refl, refl),
      ),
    ),
  ),
)
look_way s d (letrec p (definition x v ds) t) r h c o = (
  p,
  Word W.Letrec,
  h.0,
  _,
  refl,
  λ z. first_way (
    opens_tree a_name (suc (suc d)) x _,
    (
      (x, v, ds),
      h.1,
      _,
      refl,
      (refl, (refl, (refl, tt))),
      λ y. (_, refl, (t, h.2, r, refl, (plain s d (suc d) r c), λ y. (refl, refl))),
    ),
  ),
)
look_way s d (case p t k no_clause) r h c o = (
  p,
  Word W.Case,
  h.0,
  _,
  refl,
  λ z. (
    t,
    h.1,
    _,
    refl,
    (refl, (refl, tt)),
    λ y. (
      _,
      refl,
      (
        k,
        h.2,
        _,
        refl,
        (
          refl,
          (refl, (refl, tt)),
        ),
        λ x. second_way (refl, (r, refl, (refl, refl))),
      ),
    ),
  ),
)
look_way s d (case p t k (and_clause q qs)) r h c o = (
  p,
  Word W.Case,
  h.0,
  _,
  refl,
  λ z. (
    t,
    h.1,
    _,
    refl,
    (refl, (refl, tt)),
    λ y. (
      _,
      refl,
      (
        k,
        h.2,
        _,
        refl,
        clause_calm (suc d) q _,
        λ x.
            first_way (
              opens_clause (suc d) q _,
              (
                (q, qs),
                h.3,
                _,
                refl,
                (refl, (refl, (refl, (refl, tt)))),
                λ w. (
                  r,
                  refl,
                  (refl, refl),
                ),
              ),
            ),
      ),
    ),
  ),
)
look_way s d (apply p t none) r h c o = (
  p,
  Word W.Apply,
  h.0,
  _,
  refl,
  λ z. (
    t,
    h.1,
    _,
    refl,
    (refl, (refl, tt)),
    λ y. (
      _,
      refl,
      second_way (
        refl,
        (
          r,
          refl,
          (refl, refl),
        ),
      ),
    ),
  ),
)
look_way s d (apply p t (more x xs)) r h c o = (
  p,
  Word W.Apply,
  h.0,
  _,
  refl,
  λ z. (
    t,
    h.1,
    _,
    refl,
    (refl, (refl, tt)),
    λ y. (
      _,
      refl,
      first_way (
        opens_tree expression (suc d) x _,
        ((x, xs), h.2, _, refl, (refl, (refl, (refl, tt))), λ w. (r, refl, (refl, refl))),
      ),
    ),
  ),
)
look_way s d (call_of p t u none) r h c o = (
  p,
  Word W.Call,
  h.0,
  _,
  refl,
  λ z. (
    t,
    h.1,
    _,
    refl,
    (refl, (refl, tt)),
    λ y. (
      _,
      refl,
      (
        u,
        h.2,
        _,
        refl,
        (
          refl,
          (refl, tt),
        ),
        λ y. (_, refl, second_way (refl, (r, refl, (refl, refl)))),
      ),
    ),
  ),
)
look_way s d (call_of p t u (more x xs)) r h c o = (
  p,
  Word W.Call,
  h.0,
  _,
  refl,
  λ z. (
    t,
    h.1,
    _,
    refl,
    (refl, (refl, tt)),
    λ y. (
      _,
      refl,
      (
        u,
        h.2,
        _,
        refl,
        (refl, (refl, tt)),
        λ y. (
          _,
          refl,
          first_way (
            opens_tree expression (suc d) x _,
            ((x, xs), h.3, _, refl, (refl, (refl, (refl, tt))), λ w. (r, refl, (refl, refl))),
          ),
        ),
      ),
    ),
  ),
)
look_way s d (primop p a none) r h c o = (
  p,
  Word W.Primop,
  h.0,
  _,
  refl,
  λ z. (
    a.place,
    Atom a.name,
    refl,
    _,
    refl,
    λ v. (
      _,
      refl,
      second_way (
        refl,
        (
          r,
          refl,
          (refl, refl),
        ),
      ),
    ),
  ),
)
look_way s d (primop p a (more x xs)) r h c o = (
  p,
  Word W.Primop,
  h.0,
  _,
  refl,
  λ z. (
    a.place,
    Atom a.name,
    refl,
    _,
    refl,
    λ v. (
      _,
      refl,
      first_way (
        opens_tree expression (suc d) x _,
        ((x, xs), h.1, _, refl, (refl, (refl, (refl, tt))), λ w. (r, refl, (refl, refl))),
      ),
    ),
  ),
)
look_way s d (do_then p t u) r h c o = (
  p,
  Word W.Do,
  h.0,
  _,
  refl,
  λ z. (
    t,
    h.1,
    _,
    refl,
    tree_calm (suc d) u r,
    λ y. (
      u,
      h.2,
      r,
      refl,
      (plain s d
          (suc d) r c),
      λ y. (refl, refl),
    ),
  ),
)
look_way s d (catch p t) r h c o = (
  p,
  Word W.Catch,
  h.0,
  _,
  refl,
  λ z. (
    t,
    h.1,
    r,
    refl,
    (plain s d (suc d) r c),
    λ y. (refl, refl),
  ),
)
look_way s d (try p t xs u ys v) r h c o = (
  p,
  Word W.Try,
  h.0,
  _,
  refl,
  λ z. (
    t,
    h.1,
    _,
    refl,
    (refl, (refl, tt)),
    λ y. (
      _,
      refl,
      (
        xs,
        h.2,
        _,
        refl,
        (refl, (refl, tt)),
        λ x. (
          _,
          refl,
          (
            u,
            h.3,
            _,
            refl,
            (refl, (refl, tt)),
            λ y. (
              _,
              refl,
              (
                ys,
                h.4,
                _,
                refl,
                group_calm (suc d) ys (on true expression (suc d) v r),
                λ w. (
                  _,
                  refl,
                  (v, h.5, r, refl, (plain s d (suc d) r c), λ y. (refl, refl)),
                ),
              ),
            ),
          ),
        ),
      ),
    ),
  ),
)
look_way s d (receive p no_clause t u) r h c o = (
  p,
  Word W.Receive,
  h.0,
  _,
  refl,
  λ z. second_way (
    refl,
    (
      _,
      refl,
      (
        t,
        h.2,
        _,
        refl,
        (refl, (refl, tt)),
        λ y. (
          _,
          refl,
          (u, h.3, r, refl, (plain s d (suc d) r c), λ y. (refl, refl)),
        ),
      ),
    ),
  ),
)
look_way s d (receive p (and_clause q qs) t u) r h c o = (
  p,
  Word W.Receive,
  h.0,
  _,
  refl,
  λ z. first_way (
    opens_clause (suc d) q _,
    (
      (q, qs),
      h.1,
      _,
      refl,
      (refl, (refl, (refl, (refl, tt)))),
      λ x. (
        _,
        refl,
        (
          t,
          h.2,
          _,
          refl,
          (refl, (refl, tt)),
          λ y. (
            _,
            refl,
            (
              u,
              h.3,
              r,
              refl,
              (plain s d (suc d) r c),
              λ y. (
                refl,
                refl,
              ),
            ),
          ),
        ),
      ),
    ),
  ),
)

noted_key : (d : ℕ) (p q : Place) (t n : Tree) (r : List Sign) → q ≡ p → (i : Stands key t) → Stands note n
    → Along (noted_key_plan d q t i) (noted p t n)
    (symbol (suc (key_weight t + d)) S.AnnotationBar (on true note (suc (key_weight t + d)) n
    (symbol (suc (key_weight t + d)) S.CloseParen r))) r
noted_key d p q t n r e i h =
    (_, refl, (n, h, _, refl, (refl, (refl, tt)), λ j. (r, refl, (ap (λ x. noted x t n) e, refl))))

-- a key that is not annotated
key_way : (d : ℕ) (t : Tree) (r : List Sign) → Stands key t → Follows (tree_part key d) r
    → Along (key_plan d) t (on true key d t r) r
key_way d (noted p t n) r h c =
    first_way (refl, (t, h.0, p, _, refl, (refl, (refl, tt)), λ w f i. noted_key d p w.place t n r f.1 i h.1))
key_way d (alias x t) r h c = never h.0
key_way d t r h c = second_way (refl, look_way key d t r h c refl)

pub tree_way : (s : Sort) (d : ℕ) (t : Tree) (r : List Sign) → Stands s t → Follows (tree_part s d) r
    → Along (tree_plan s d) t (on true s d t r) r
tree_way key d t r h c = key_way d t r h c
tree_way s d t r h c = look_way s d t r h c refl
