-- What is to be read for a tree that begins with a name, an integer or a bracket follows its plan.
use Rattle.std.proofs.Common.{◌≡◌, refl, sym, ap, ◌∙◌, ℕ, suc, ◌+◌, List, ◌∷◌, Bool, true, false}
use Rattle.std.specs.Bool.{⊤}
use Rattle.erl_base.specs.declared.ids.Place.{Place}
use Rattle.erl_base.specs.Names.{Name}
use Rattle.core_lex.specs.declared.token.Token.{Token}
use Rattle.core_lex.specs.declared.token.TokenKind.{TokenKind}
use Rattle.core_lex.specs.declared.token.TokenKind.TheVariants as K
use Rattle.core_lex.specs.declared.token.Symbol as Symbols
use Rattle.core_lex.specs.declared.token.Symbol.TheVariants as S
use Rattle.core_texts.proofs.Truths.{never}
use Rattle.core_syntax.specs.declared.sort.Sort.{Sort}
use Rattle.core_syntax.specs.declared.sort.Sort.TheVariants as O
use Rattle.core_syntax.specs.declared.item.Count.TheVariants as C
use Rattle.core_syntax.specs.declared.item.Shape.{Shape}
use Rattle.core_syntax.specs.declared.item.Shape.TheVariants.{Other, Variable}
use Rattle.core_syntax.specs.declared.item.Part.TheVariants as P
use Rattle.core_syntax.specs.declared.item.Item.TheVariants as I
use Rattle.core_syntax.specs.declared.item.Entry.{Entry}
use Rattle.core_grammar.specs.WrittenTree.{Tree, new_map, Pairs, no_pair, pair}
use Rattle.core_grammar.specs.Standing as G
use Rattle.core_grammar.specs.Standing.{Stands, PairsStand}
use Rattle.core_texts.proofs.Annotated.{is_variable_like}
use Rattle.core_texts.proofs.Trees as T
use Rattle.core_texts.proofs.Trees.{variable_plan, atom_tree_plan, alias_end, noted_plan, map_end, symbol_plan}
use Rattle.core_syntax.specs.Sorts.{sort_of, inner, of_items, leaf_weight, open_weight}
use Rattle.core_syntax.specs.Beginnings.{at, variable_next, atom_next, noted_next, bracket_next}
use Rattle.core_syntax.specs.Reactions as R
use Rattle.core_syntax.specs.Reactions.{react}
use Rattle.core_syntax.proofs.Choosing.{is_slash, is_bar, is_equals, chosen, chosen_take, not_chosen, kept, left_out}
use Rattle.core_syntax.proofs.Following.{Follows, a_tree, items, pairs, segments, variable_shape, tree_counts}
use Rattle.core_syntax.proofs.Pieces.{inner_tree, item_tree, all_items}

-- what is no variable counts as no variable
pub other_counts : (s : Sort) (t : Tree) → is_variable_like t ≡ false → tree_counts (sort_of s) t Other
other_counts O.Pattern t h = sym (ap variable_shape h)
other_counts O.Key t h = sym (ap variable_shape h)
other_counts _ t h = tt

pub variable_follows : (s : Sort) (d : ℕ) (p : Place) (x : Name) (h : T.takes_tree (sort_of s) (K.Variable x) ≡ true)
    (es : List Entry)
    → Follows (P.Tree s) es (variable_plan (sort_of s) d p x h) (λ x. ⊤) (variable_next s d es) Variable
variable_follows O.Pattern d p x h es = (
  (
    _,
    Other,
    λ t i. kept _ _ _ _ (sym (is_equals t.kind) ∙ i.1),
    (P.Tree O.Pattern, suc d, _, a_tree O.Pattern (suc d), λ t i. refl, λ b h now c. (Other, λ t i. refl, refl)),
  ),
  (Variable, λ t i. left_out _ _ _ _ (sym (is_equals t.kind) ∙ i.1), refl),
)
variable_follows O.Key d p x h es = (Variable, λ t i. refl, refl)
variable_follows _ d p x h es = (Variable, λ t i. refl, tt)

pub atom_follows : (s : Sort) (d : ℕ) (p : Place) (a : Name) (h : T.takes_tree (sort_of s) (K.Atom a) ≡ true)
    (es : List Entry)
    → Follows (P.Tree s) es (atom_tree_plan (sort_of s) d p a h) (λ x. ⊤) (atom_next s (leaf_weight s + d) es) Other
atom_follows O.Expression d p a h es = (
  (
    _,
    Other,
    λ t i. kept _ _ _ _ (sym (is_slash t.kind) ∙ i.1),
    (_, Other, λ t i. refl, λ n h. (Other, λ t i. refl, tt)),
  ),
  (Other, λ t i. left_out _ _ _ _ (sym (is_slash t.kind) ∙ i.1), tt),
)
atom_follows O.FunctionName d p a h es = (
  _,
  Other,
  λ t i. refl,
  (_, Other, λ t i. refl, λ n h. (Other, λ t i. refl, tt)),
)
atom_follows O.Pattern d p a h es = (Other, λ t i. refl, refl)
atom_follows O.Key d p a h es = (Other, λ t i. refl, refl)
atom_follows O.Constant d p a h es = (Other, λ t i. refl, tt)
atom_follows O.Atom d p a h es = (Other, λ t i. refl, tt)
atom_follows _ d p a h es = never h

-- Annotations.

alias_end_follows : (d : ℕ) (p : Place) (t n : Tree) (i : Stands G.pattern t) (j : Stands G.note n) (b : Bool)
    (e : is_variable_like t ≡ b) (es : List Entry) (sh : Shape) → sh ≡ variable_shape b
    → Follows (P.Tree O.Pattern) es (alias_end d p t n i j b e) (λ x. ⊤) (at d I.Alias ∷ es) sh
alias_end_follows d p x n k j true e es sh c = (
  (
    _,
    Other,
    λ t i. ap (λ y. react t (at d I.Alias ∷ es) y) c ∙ kept _ _ _ _ (sym (is_equals t.kind) ∙ i.1),
    (P.Tree O.Pattern, suc d, _, a_tree O.Pattern (suc d), λ t i. refl, λ b h now c. (Other, λ t i. refl, refl)),
  ),
  (
    Variable,
    λ t i. ap (λ y. react t (at d I.Alias ∷ es) y) c ∙ left_out _ _ _ _ (sym (is_equals t.kind) ∙ i.1),
    sym (ap variable_shape e),
  ),
)
alias_end_follows d p x n k j false e es sh c = (
  Other,
  λ t i. ap (λ y. react t (at d I.Alias ∷ es) y) c,
  sym (ap variable_shape e),
)

noted_follows : (s : Sort) (d : ℕ) (p : Place) (h : T.takes_symbol (sort_of s) S.OpenParen ≡ true) (es : List Entry)
    → Follows (P.Tree s) es (noted_plan (sort_of s) d p h) (λ x. ⊤) (noted_next s d es) Other
noted_follows O.Pattern d p h es = (
  P.Tree O.Pattern,
  suc d,
  _,
  a_tree O.Pattern (suc d),
  λ t i. refl,
  λ b h now c. (
    _,
    Other,
    λ t i. refl,
    (
      P.Tree O.Note,
      suc (1 + d),
      _,
      a_tree O.Note (suc (1 + d)),
      λ t i. refl,
      λ n k last m. (_, now, λ t i. refl, alias_end_follows d p b n h k (is_variable_like b) refl es now c),
    ),
  ),
)
noted_follows O.Key d p h es = never h
noted_follows s d p h es = (
  P.Tree (inner s),
  suc d,
  _,
  inner_tree s (suc d),
  λ t i. refl,
  λ b h now c. (
    _,
    Other,
    λ t i. refl,
    (
      P.Tree O.Note,
      suc (open_weight s + d),
      _,
      a_tree O.Note (suc (open_weight s + d)),
      λ t i. refl,
      λ n k last m. (_, now, λ t i. refl, (now, λ t i. refl, tt)),
    ),
  ),
)

-- Brackets.

map_end_follows : (s : Sort) (d : ℕ) (p : Place) (h : G.takes_constant (sort_of s) ≡ true) (ps : Pairs)
    (k : PairsStand (sort_of s) ps) (es : List Entry) (known : TokenKind → Type 0) (start : List Entry) (sh : Shape)
    → ((t : Token) → known t.kind → react t start sh ≡ R.map_end s (suc d) t.kind es)
    → Follows (P.Tree s) es (map_end (sort_of s) d p h ps k) known start sh
map_end_follows O.Expression d p h ps k es known start sh q = (
  (
    _,
    Other,
    λ t i. q t i.0 ∙ chosen_take _ _ _ _ _ (sym (is_bar t.kind) ∙ i.1),
    (
      P.Tree O.Expression,
      suc d,
      _,
      a_tree O.Expression (suc d),
      λ t i. refl,
      λ b h now c. (_, Other, λ t i. refl, (Other, λ t i. refl, tt)),
    ),
  ),
  (_, Other, λ t i. q t i.0 ∙ not_chosen _ _ _ (sym (is_bar t.kind) ∙ i.1), (Other, λ t i. refl, tt)),
)
map_end_follows s d p h ps k es known start sh q = (
  _,
  Other,
  q,
  (Other, λ t i. refl, other_counts s (new_map p ps) refl),
)

pub bracket_follows : (s : Sort) (d : ℕ) (p : Place) (x : Symbols.Symbol) (h : T.takes_symbol (sort_of s) x ≡ true)
    (es : List Entry)
    → Follows (P.Tree s) es (symbol_plan (sort_of s) d p x h) (λ x. ⊤) (bracket_next s d x es) Other
bracket_follows s d p S.OpenParen h es = noted_follows s d p h es
bracket_follows s d p S.OpenBracket h es = (
  (
    P.Items (of_items s) C.Zero,
    suc d,
    _,
    all_items s C.Zero (suc d),
    λ t i. chosen _ _ _ i.1,
    λ b h now c. (
      (
        _,
        Other,
        λ t i. chosen_take _ _ _ _ _ (sym (is_bar t.kind) ∙ i.1),
        (
          P.Tree (of_items s),
          suc d,
          _,
          item_tree s (suc d),
          λ t i. refl,
          λ b h now c. (_, Other, λ t i. refl, (Other, λ t i. refl, other_counts s _ refl)),
        ),
      ),
      (_, Other, λ t i. not_chosen _ _ _ (sym (is_bar t.kind) ∙ i.1), (Other, λ t i. refl, other_counts s _ refl)),
    ),
  ),
  (_, Other, λ t i. not_chosen _ _ _ i.1, (Other, λ t i. refl, other_counts s _ refl)),
)
bracket_follows s d p S.OpenBrace h es = (
  (
    P.Items (of_items s) C.Zero,
    suc d,
    _,
    all_items s C.Zero (suc d),
    λ t i. kept _ _ _ _ i.1,
    λ b h now c. (_, Other, λ t i. refl, (Other, λ t i. refl, other_counts s _ refl)),
  ),
  (_, Other, λ t i. left_out _ _ _ _ i.1, (Other, λ t i. refl, other_counts s _ refl)),
)
bracket_follows s d p S.OpenAngle h es = (
  (
    P.Items O.Expression C.Zero,
    suc d,
    _,
    items O.Expression C.Zero (suc d),
    λ t i. kept _ _ _ _ i.1,
    λ b h now c. (_, Other, λ t i. refl, (Other, λ t i. refl, other_counts s _ refl)),
  ),
  (_, Other, λ t i. left_out _ _ _ _ i.1, (Other, λ t i. refl, other_counts s _ refl)),
)
bracket_follows s d p S.OpenMap g es = (
  (
    P.Pairs s,
    suc d,
    _,
    pairs s (suc d),
    λ t i. kept _ _ _ _ i.1,
    λ b h now c. map_end_follows s d p g (pair b.0 b.1 b.2 b.3) h es _ _ now (λ t i. refl),
  ),
  map_end_follows s d p g no_pair tt es _ _ _ (λ t i. left_out _ _ _ _ i.1),
)
bracket_follows s d p S.OpenBinary h es = (
  (
    P.Segments s,
    suc d,
    _,
    segments s (suc d),
    λ t i. kept _ _ _ _ i.1,
    λ b h now c. (_, Other, λ t i. refl, (Other, λ t i. refl, other_counts s _ refl)),
  ),
  (_, Other, λ t i. left_out _ _ _ _ i.1, (Other, λ t i. refl, other_counts s _ refl)),
)
bracket_follows s d p _ h es = never h
