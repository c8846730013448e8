-- What is to be read behind `fun` follows its plan.
use Rattle.std.proofs.Common.{◌≡◌, refl, sym, ◌∙◌, ℕ, suc, List, [], ◌∷◌, true}
use Rattle.std.specs.Bool.{⊤}
use Rattle.erl_base.specs.declared.ids.Place.{Place}
use Rattle.core_lex.specs.declared.token.Token.{Token}
use Rattle.core_lex.specs.declared.token.TokenKind.{TokenKind}
use Rattle.core_lex.specs.declared.token.TokenKind.TheVariants as K
use Rattle.core_lex.specs.declared.token.Word.TheVariants as W
use Rattle.core_lex.specs.declared.token.Symbol.TheVariants as S
use Rattle.core_texts.proofs.Truths.{never}
use Rattle.core_syntax.specs.declared.sort.Sort.{Sort}
use Rattle.core_syntax.specs.declared.sort.Sort.TheVariants as O
use Rattle.core_syntax.specs.declared.item.Count.TheVariants as C
use Rattle.core_syntax.specs.declared.item.Shape.{Shape}
use Rattle.core_syntax.specs.declared.item.Shape.TheVariants.{Other}
use Rattle.core_syntax.specs.declared.item.Part.TheVariants as P
use Rattle.core_syntax.specs.declared.item.Item.TheVariants as I
use Rattle.core_syntax.specs.declared.item.Entry.{Entry}
use Rattle.core_grammar.specs.WrittenTree.{external}
use Rattle.core_grammar.specs.Standing as G
use Rattle.core_grammar.specs.Signs.{spelled, token_at, symbol}
use Rattle.core_texts.proofs.Plans.{symbol_next, arity_next, done}
use Rattle.core_texts.proofs.Steps.{atom_plan}
use Rattle.core_texts.proofs.Trees as T
use Rattle.core_texts.proofs.Trees.{local_plan, external_plan, fun_plan, arguments_plan, word_plan}
use Rattle.core_syntax.specs.Sorts.{sort_of}
use Rattle.core_syntax.specs.TokenKinds.{is_symbol, is_atom}
use Rattle.core_syntax.specs.Beginnings.{on_test, at, stacked, external_rest, local_rest, fun_next}
use Rattle.core_syntax.specs.Reactions.{react}
use Rattle.core_syntax.proofs.Choosing as Choosing
use Rattle.core_syntax.proofs.Choosing.{is_paren, chosen_take, not_chosen, kept, left_out, retest}
use Rattle.core_syntax.proofs.Following.{Follows, a_tree, items}
use Rattle.core_syntax.proofs.Pieces.{at_atom}
use Rattle.core_syntax.proofs.BracketForms.{other_counts}

-- Funs.

local_follows : (d : ℕ) (p : Place) (es : List Entry) (known : TokenKind → Type 0) (start : List Entry) (sh : Shape)
    → ((t : Token) → known t.kind
    → react t start sh ≡ on_test (is_symbol S.OpenParen t.kind) (suc d) (stacked (suc d) local_rest es) Other)
    → Follows (P.Tree O.Expression) es (local_plan G.expression d p refl) known start sh
local_follows d p es known start sh q = (
  _,
  Other,
  q,
  (
    (
      P.Items O.Variable C.Zero,
      suc d,
      _,
      items O.Variable C.Zero (suc d),
      λ t i. kept _ _ _ _ i.1,
      λ b h now c. (
        _,
        Other,
        λ t i. refl,
        (
          _,
          Other,
          λ t i. refl,
          (
            P.Tree O.Expression,
            suc d,
            _,
            a_tree O.Expression (suc d),
            λ t i. refl,
            λ b h now c. (now, λ t i. refl, tt),
          ),
        ),
      ),
    ),
    (
      _,
      Other,
      λ t i. left_out _ _ _ _ i.1,
      (
        _,
        Other,
        λ t i. refl,
        (
          P.Tree O.Expression,
          suc d,
          _,
          a_tree O.Expression (suc d),
          λ t i. refl,
          λ b h now c. (now, λ t i. refl, tt),
        ),
      ),
    ),
  ),
)

external_follows : (s : Sort) (d : ℕ) (p : Place) (h : G.takes_constant (sort_of s) ≡ true) (es : List Entry)
    (known : TokenKind → Type 0) (start : List Entry) (sh : Shape)
    → ((t : Token) → known t.kind
    → react t start sh ≡ on_test (is_atom t.kind) (suc d) (stacked (suc d) external_rest es) Other)
    → Follows (P.Tree s) es (external_plan (sort_of s) d p h) known start sh
external_follows s d p h es known start sh q = (
  λ x. stacked (suc d) external_rest es,
  λ x. Other,
  λ t i. q t i ∙ retest _ _ _ _ _ (sym (Choosing.is_atom t.kind)),
  at_atom (P.Tree s) es (λ r. token_at (suc d) p (K.Word W.Fun) r) (suc d)
      (λ m. symbol_next true (suc d) S.Colon (atom_plan (suc d) λ f. symbol_next true (suc d) S.Slash
      (arity_next (suc d) λ n i. done (external p m f n) (h, i) (λ r. refl))))
      (stacked (suc d) external_rest es) Other
      (λ m. (
        _,
        Other,
        λ t i. refl,
        (
          λ x. stacked (suc d) (I.Symbol S.Slash ∷ I.Arity ∷ []) es,
          λ x. Other,
          λ t i. retest _ _ _ _ _ (sym (Choosing.is_atom t.kind)),
          at_atom (P.Tree s) es
              (λ r. token_at (suc d) p (K.Word W.Fun) (spelled (suc d) m (symbol (suc d) S.Colon r))) (suc d)
              (λ f. symbol_next true (suc d) S.Slash
              (arity_next (suc d) λ n i. done (external p m f n) (h, i) (λ r. refl)))
              (stacked (suc d) (I.Symbol S.Slash ∷ I.Arity ∷ []) es) Other (λ f. (
                _,
                Other,
                λ t i. refl,
                (_, Other, λ t i. refl, λ n h. (Other, λ t i. refl, other_counts s _ refl)),
              )),
        ),
      )),
)

pub fun_follows : (s : Sort) (d : ℕ) (p : Place) (h : T.takes_word (sort_of s) W.Fun ≡ true) (es : List Entry)
    → Follows (P.Tree s) es (fun_plan (sort_of s) d p h) (λ x. ⊤) (fun_next s (suc d) es) Other
fun_follows O.Expression d p h es = (
  local_follows d p es _ (at (suc d) I.FunRest ∷ es) Other (λ t i. chosen_take _ _ _ _ _ (sym (is_paren t.kind) ∙ i.1)),
  external_follows O.Expression d p refl es _ (at (suc d) I.FunRest ∷ es) Other
      (λ t i. not_chosen _ _ _ (sym (is_paren t.kind) ∙ i.1)),
)
fun_follows O.Fun d p h es = (
  _,
  Other,
  λ t i. refl,
  (
    (
      P.Items O.Variable C.Zero,
      suc d,
      _,
      items O.Variable C.Zero (suc d),
      λ t i. kept _ _ _ _ i.1,
      λ b h now c. (
        _,
        Other,
        λ t i. refl,
        (
          _,
          Other,
          λ t i. refl,
          (
            P.Tree O.Expression,
            suc d,
            _,
            a_tree O.Expression (suc d),
            λ t i. refl,
            λ b h now c. (now, λ t i. refl, tt),
          ),
        ),
      ),
    ),
    (
      _,
      Other,
      λ t i. left_out _ _ _ _ i.1,
      (
        _,
        Other,
        λ t i. refl,
        (
          P.Tree O.Expression,
          suc d,
          _,
          a_tree O.Expression (suc d),
          λ t i. refl,
          λ b h now c. (now, λ t i. refl, tt),
        ),
      ),
    ),
  ),
)
fun_follows O.Pattern d p h es =
    external_follows O.Pattern d p refl es _ (stacked (suc d) (I.Atom ∷ external_rest) es) Other (λ t i. refl)
fun_follows O.Constant d p h es =
    external_follows O.Constant d p refl es _ (stacked (suc d) (I.Atom ∷ external_rest) es) Other (λ t i. refl)
fun_follows O.Key d p h es = external_follows O.Key d p refl es _ (stacked (suc d) (I.Atom ∷ external_rest) es) Other
    (λ t i. refl)
fun_follows _ d p h es = never h
