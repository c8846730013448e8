-- What is written is read along its plan: the forms of trees.
use Rattle.std.proofs.Common.{◌≡◌, refl, sym, subst, ℕ, suc, ◌+◌, List, [], ◌∷◌, Bool, true, false, ◌&&◌, ◌||◌, IsTrue, Option, None, Some}
use Rattle.erl_base.specs.Names.{Name}
use Rattle.erl_base.specs.declared.ids.Place.{Place}
use Rattle.core_lex.specs.declared.token.TokenKind.{TokenKind}
use Rattle.core_lex.specs.declared.token.TokenKind.TheVariants.{Word, Symbol, Variable, Atom}
use Rattle.core_lex.specs.declared.token.Word.TheVariants as W
use Rattle.core_lex.specs.declared.token.Symbol.TheVariants as S
use Rattle.core_form.specs.SourceTree.{is_arity}
use Rattle.core_grammar.specs.WrittenTree.{Spelled, Tree, variable, atom, function_name, external, noted, alias, new_map, map_on, fun, Group, Clause, Row, none, more, Pairs, Segments, no_segment, and_segment}
use Rattle.core_grammar.specs.Standing.{Sort, expression, pattern, constant, note, key, segment_value, a_variable, a_name, an_atom, a_fun, takes_constant, takes_atom, takes_name, takes_fun, takes_expression, takes_binary, inner_sort, Stands, RowStands, PairsStand}
use Rattle.core_grammar.specs.Signs.{Sign, spelled, arity, row_on, symbol, catch_arrow, group_count, on, clause_on}
use Rattle.core_texts.proofs.Fronts.{opens, is_when, equals_in, front}
use Rattle.core_texts.proofs.Truths.{never}
use Rattle.core_texts.proofs.Opens.{no_front, opens_tree, opens_clause, opened}
use Rattle.core_texts.proofs.Bits.{all_of_bits}
use Rattle.core_texts.proofs.Parts.{tree_part, Follows, clause_part, group_part, there, is_strict, all_bits}
use Rattle.core_texts.proofs.Plans.{look}
use Rattle.core_texts.proofs.Annotated.{is_key, noted_weight, as_variable, is_variable_like, variable_stands, variable_like}
use Rattle.core_texts.proofs.Trees.{external_plan, local_plan, takes_tree, tree_looked, tree_behind, alias_end, other_noted, variable_plan, map_end}
use Rattle.core_texts.proofs.Complete.{Along, first_way, second_way}

or_left : (a b : Bool) → a ≡ true → (a || b) ≡ true
or_left true b h = refl
or_left false b h = never h

or_right : (a b : Bool) → b ≡ true → (a || b) ≡ true
or_right true b h = refl
or_right false b h = h

-- as an expression follows
pub plain : (s : Sort) (d e : ℕ) (r : List Sign) → Follows (tree_part s d) r → Follows (tree_part expression e) r
plain s d e r c = (c.0, (no_front r, tt))

-- a token of a tree and what is behind it
abbrev pub TreeWay : Sort → ℕ → Tree → List Sign → Type 0
TreeWay s d t r = Along {k = λ x. x} (look (tree_looked s d) (tree_behind s d)) t (on true s d t r) r

pub variable_way : (s : Sort) (d : ℕ) (p : Place) (x : Name) (r : List Sign) → Follows (tree_part s d) r
    → (h : takes_tree s (Variable x) ≡ true) → Along (variable_plan s d p x h) (variable p x) r r
variable_way pattern d p x r c h = second_way (c.1.0, (refl, refl))
variable_way _ d p x r c h = (refl, refl)

pub atom_way : (s : Sort) (d : ℕ) (p : Place) (a : Name) (r : List Sign) → IsTrue (takes_atom s)
    → Follows (tree_part s d) r → TreeWay s d (atom p a) r
atom_way expression d p a r h c = (p, Atom a, refl, r, refl, λ i. second_way (c.0, (refl, refl)))
atom_way pattern d p a r h c = (p, Atom a, refl, r, refl, λ i. (refl, refl))
atom_way constant d p a r h c = (p, Atom a, refl, r, refl, λ i. (refl, refl))
atom_way key d p a r h c = (p, Atom a, refl, r, refl, λ i. (refl, refl))
atom_way an_atom d p a r h c = (p, Atom a, refl, r, refl, λ i. (refl, refl))
atom_way _ d p a r h c = never h

pub name_way : (s : Sort) (d : ℕ) (p : Place) (a : Name) (n : ℕ) (r : List Sign) → IsTrue (takes_name s)
    → is_arity n ≡ true → TreeWay s d (function_name p a n) r
name_way expression d p a n r h k =
    (p, Atom a, refl, _, refl, λ i. first_way (refl, (_, refl, (n, k, r, refl, λ j. (refl, refl)))))
name_way a_name d p a n r h k = (p, Atom a, refl, _, refl, λ i. (_, refl, (n, k, r, refl, λ j. (refl, refl))))
name_way _ d p a n r h k = never h

external_rest : (s : Sort) (d : ℕ) (p : Place) (h : takes_constant s ≡ true) (m f : Spelled) (n : ℕ) (r : List Sign)
    → is_arity n ≡ true → Along (external_plan s d p h) (external p m f n)
    (spelled (suc d) m (symbol (suc d) S.Colon (spelled (suc d) f (arity (suc d) n r)))) r
external_rest s d p h m f n r k = (
  m.place,
  Atom m.name,
  refl,
  _,
  refl,
  λ a. (
    _,
    refl,
    (f.place, Atom f.name, refl, _, refl, λ b. (_, refl, (n, k, r, refl, λ j. (refl, refl)))),
  ),
)

pub external_way : (s : Sort) (d : ℕ) (p : Place) (m f : Spelled) (n : ℕ) (r : List Sign) → IsTrue (takes_constant s)
    → is_arity n ≡ true → TreeWay s d (external p m f n) r
external_way expression d p m f n r h k =
    (p, Word W.Fun, refl, _, refl, λ i. second_way (refl, external_rest expression d p refl m f n r k))
external_way pattern d p m f n r h k =
    (p, Word W.Fun, refl, _, refl, λ i. external_rest pattern d p refl m f n r k)
external_way constant d p m f n r h k =
    (p, Word W.Fun, refl, _, refl, λ i. external_rest constant d p refl m f n r k)
external_way key d p m f n r h k = (p, Word W.Fun, refl, _, refl, λ i. external_rest key d p refl m f n r k)
external_way _ d p m f n r h k = never h

local_rest : (s : Sort) (d : ℕ) (p : Place) (h : takes_fun s ≡ true) (xs : Row) (t : Tree) (r : List Sign)
    → RowStands a_variable xs → Stands expression t → Follows (tree_part s d) r
    → Along (local_plan s d p h) (fun p xs t) (symbol (suc d) S.OpenParen (row_on true true a_variable (suc d) xs
    (symbol (suc d) S.CloseParen (symbol (suc d) S.Arrow (on true expression (suc d) t r))))) r
local_rest s d p h none t r j i c =
    (_, refl, second_way (refl, (_, refl, (_, refl, (t, i, r, refl, plain s d (suc d) r c, λ x. (refl, refl))))))
local_rest s d p h (more x xs) t r j i c = (
  _,
  refl,
  first_way (
    opens_tree a_variable (suc d) x _,
    (
      (x, xs),
      j,
      _,
      refl,
      (refl, (refl, (refl, tt))),
      λ y.
          (_, refl, (_, refl, (t, i, r, refl, plain s d (suc d) r c, λ z. (refl, refl)))),
    ),
  ),
)

pub fun_way : (s : Sort) (d : ℕ) (p : Place) (xs : Row) (t : Tree) (r : List Sign) → IsTrue (takes_fun s)
    → RowStands a_variable xs → Stands expression t → Follows (tree_part s d) r → TreeWay s d (fun p xs t) r
fun_way expression d p xs t r h j i c =
    (p, Word W.Fun, refl, _, refl, λ z. first_way (refl, local_rest expression d p refl xs t r j i c))
fun_way a_fun d p xs t r h j i c = (p, Word W.Fun, refl, _, refl, λ z. local_rest a_fun d p refl xs t r j i c)
fun_way pattern d p xs t r h j i c = never h
fun_way constant d p xs t r h j i c = never h
fun_way note d p xs t r h j i c = never h
fun_way key d p xs t r h j i c = never h
fun_way segment_value d p xs t r h j i c = never h
fun_way a_variable d p xs t r h j i c = never h
fun_way a_name d p xs t r h j i c = never h
fun_way an_atom d p xs t r h j i c = never h

-- Annotations.

alias_none : (d : ℕ) (p : Place) (t n : Tree) (i : Stands pattern t) (j : Stands note n) (r : List Sign) (b : Bool)
    (e : is_variable_like t ≡ b) → front (equals_in true) r ≡ false → Along (alias_end d p t n i j b e)
    (noted p t n) r r
alias_none d p t n i j r true e c = second_way (c, (refl, refl))
alias_none d p t n i j r false e c = (refl, refl)

alias_some : (d : ℕ) (p : Place) (t n u : Tree) (i : Stands pattern t) (j : Stands note n) (r : List Sign) (b : Bool)
    (e : is_variable_like t ≡ b) → b ≡ true → Stands pattern u → Follows (tree_part pattern (suc d)) r
    → Along (alias_end d p t n i j b e) (alias (noted p t n) u) (symbol (suc d) S.Equals (on true pattern
    (suc d) u r)) r
alias_some d p t n u i j r true e h k c = first_way (refl, (_, refl, (u, k, r, refl, c, λ x. (refl, refl))))
alias_some d p t n u i j r false e h k c = never h

other_way : (s : Sort) (d : ℕ) (p : Place) (t n : Tree) (r : List Sign) (e : is_key s ≡ false) → Stands (inner_sort s) t
    → Stands note n → Along (other_noted s d p e) (noted p t n) (on true (inner_sort s) (suc d) t
    (symbol (suc (noted_weight s p + d)) S.AnnotationBar (on true note (suc (noted_weight s p + d)) n
    (symbol (suc (noted_weight s p + d)) S.CloseParen r)))) r
other_way s d p t n r e h k = (
  t,
  h,
  _,
  refl,
  (refl, (refl, tt)),
  λ i. (
    _,
    refl,
    (
      n,
      k,
      _,
      refl,
      (refl, (refl, tt)),
      λ j. (
        r,
        refl,
        (
          refl,
          refl,
        ),
      ),
    ),
  ),
)

pub noted_way : (s : Sort) (d : ℕ) (p : Place) (t n : Tree) (r : List Sign) → is_key s ≡ false → Stands (inner_sort s) t
    → Stands note n → Follows (tree_part s d) r → TreeWay s d (noted p t n) r
noted_way pattern d p t n r e h k c = (
  p,
  Symbol S.OpenParen,
  refl,
  _,
  refl,
  λ z. (
    t,
    h,
    _,
    refl,
    (refl, (refl, tt)),
    λ i. (
      _,
      refl,
      (n, k, _, refl, (refl, (refl, tt)), λ j. (r, refl, alias_none d p t n i j r (is_variable_like t) refl c.1.0)),
    ),
  ),
)
noted_way expression d p t n r e h k c =
    (p, Symbol S.OpenParen, refl, _, refl, λ z. other_way expression d p t n r refl h k)
noted_way constant d p t n r e h k c =
    (p, Symbol S.OpenParen, refl, _, refl, λ z. other_way constant d p t n r refl h k)
noted_way note d p t n r e h k c =
    (p, Symbol S.OpenParen, refl, _, refl, λ z. other_way note d p t n r refl h k)
noted_way segment_value d p t n r e h k c =
    (p, Symbol S.OpenParen, refl, _, refl, λ z. other_way segment_value d p t n r refl h k)
noted_way a_variable d p t n r e h k c =
    (p, Symbol S.OpenParen, refl, _, refl, λ z. other_way a_variable d p t n r refl h k)
noted_way a_name d p t n r e h k c =
    (p, Symbol S.OpenParen, refl, _, refl, λ z. other_way a_name d p t n r refl h k)
noted_way an_atom d p t n r e h k c =
    (p, Symbol S.OpenParen, refl, _, refl, λ z. other_way an_atom d p t n r refl h k)
noted_way a_fun d p t n r e h k c =
    (p, Symbol S.OpenParen, refl, _, refl, λ z. other_way a_fun d p t n r refl h k)
noted_way key d p t n r e h k c = never (sym e)

pub alias_way : (d : ℕ) (p : Place) (x n t : Tree) (r : List Sign) → Stands a_variable (noted p x n) → Stands pattern t
    → Follows (tree_part pattern d) r → TreeWay pattern d (alias (noted p x n) t) r
alias_way d p x n t r h k c = (
  p,
  Symbol S.OpenParen,
  refl,
  _,
  as_variable (noted p x n) h d _,
  λ z. (
    x,
    variable_stands x h.0,
    _,
    refl,
    (refl, (refl, tt)),
    λ i. (
      _,
      refl,
      (
        n,
        h.1,
        _,
        refl,
        (refl, (refl, tt)),
        λ j. (
          _,
          refl,
          alias_some d p x n t i j r (is_variable_like x) refl (variable_like x h.0) k c,
        ),
      ),
    ),
  ),
)

pub plain_alias : (d : ℕ) (p : Place) (x : Name) (t : Tree) (r : List Sign) → Stands a_variable (variable p x)
    → Stands pattern t → Follows (tree_part pattern d) r → TreeWay pattern d (alias (variable p x) t) r
plain_alias d p x t r h k c = (
  p,
  Variable x,
  h.1,
  _,
  as_variable (variable p x) h d _,
  λ z.
      first_way (refl, (_, refl, (t, k, r, refl, c, λ i. (refl, refl)))),
)

-- Maps.

pub map_none : (s : Sort) (d : ℕ) (p : Place) (ps : Pairs) (h : takes_constant s ≡ true) (i : PairsStand s ps)
    (r : List Sign) → Along (map_end s d p h ps i) (new_map p ps) (symbol (suc d) S.CloseMap r) r
map_none expression d p ps h i r = second_way (refl, (r, refl, (refl, refl)))
map_none _ d p ps h i r = (r, refl, (refl, refl))

pub map_some : (s : Sort) (d : ℕ) (p : Place) (ps : Pairs) (t : Tree) (h : takes_constant s ≡ true)
    (i : PairsStand s ps) (r : List Sign) → IsTrue (takes_expression s) → Stands expression t
    → Along (map_end s d p h ps i) (map_on p ps t)
    (symbol (suc d) S.Bar (on true expression (suc d) t (symbol (suc d) S.CloseMap r))) r
map_some expression d p ps t h i r e k =
    first_way (refl, (_, refl, (t, k, _, refl, (refl, (refl, tt)), λ j. (r, refl, (refl, refl)))))
map_some _ d p ps t h i r e k = never e

some_there : (o : Option (List Bool)) → elim o as (λ x. Bool) [ None ↦ false | Some bs ↦ true ] ≡ true → there o ≡ true
some_there None h = h
some_there (Some bs) h = refl

all_loose : (gs : Segments) → all_bits false gs ≡ true
all_loose no_segment = refl
all_loose (and_segment g gs) = all_loose gs

pub strict_bits : (s : Sort) (gs : Segments) → IsTrue (takes_binary s gs) → all_bits (is_strict s) gs ≡ true
strict_bits expression gs h = all_loose gs
strict_bits pattern gs h = all_loose gs
strict_bits constant gs h = all_of_bits gs (some_there _ h)
strict_bits key gs h = all_of_bits gs (some_there _ h)
strict_bits _ gs h = never h

pub binary_taken : (s : Sort) (gs : Segments) → IsTrue (takes_binary s gs) → takes_constant s ≡ true
binary_taken expression gs h = refl
binary_taken pattern gs h = refl
binary_taken constant gs h = refl
binary_taken key gs h = refl
binary_taken _ gs h = never h

pub expression_constant : (s : Sort) → IsTrue (takes_expression s) → takes_constant s ≡ true
expression_constant expression h = refl
expression_constant _ h = never h

pub not_both : (a : Bool) → (a && true) ≡ false → a ≡ false
not_both true h = h
not_both false h = h

pub by_pattern : (s : Sort) (d : ℕ) (t : Tree) (r : List Sign) → s ≡ pattern → Follows (tree_part s d) r
    → (Follows (tree_part pattern d) r → TreeWay pattern d t r) → TreeWay s d t r
by_pattern s d t r e c f =
    subst (λ x. Follows (tree_part x d) r → TreeWay x d t r) (sym e) f c

opened_free : (f : TokenKind → Bool) → ((k : TokenKind) → opens k ≡ true → f k ≡ false) → (gs : List Sign)
    → front opens gs ≡ true → front f gs ≡ false
opened_free f o [] h = never h
opened_free f o (g ∷ gs) h = o _ h

open_when : (k : TokenKind) → opens k ≡ true → is_when k ≡ false
open_when (Word W.When) h = never h
open_when _ h = refl

-- a clause may stand behind a clause, and an expression behind another
pub clause_calm : (d : ℕ) (q : Clause) (r : List Sign) → Follows (clause_part d) (clause_on true d q r)
clause_calm d q r =
    let c = opened true _ (opens_clause d q r) in
    (c.slash, (c.equals, (opened_free is_when open_when _ (opens_clause d q r), tt)))

pub tree_calm : (d : ℕ) (t : Tree) (r : List Sign) → Follows (tree_part expression d) (on true expression d t r)
tree_calm d t r = let c = opened false _ (opens_tree expression d t r) in (c.slash, (c.equals, tt))

pub group_calm : (d : ℕ) (ys : Group) (r : List Sign)
    → Follows (group_part d) (catch_arrow d (group_count ys) r)
group_calm d ys r = (refl, (refl, tt))
