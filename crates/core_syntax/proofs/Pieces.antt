-- Pieces of plans, and what is to be read for each.
use Rattle.std.proofs.Common.{◌≡◌, ◌∙◌, ℕ, List, true, false}
use Rattle.std.specs.Bool.{⊤}
use Rattle.erl_base.specs.declared.ids.Place.{Place}
use Rattle.core_lex.specs.declared.token.Token.{Token}
use Rattle.core_lex.specs.declared.token.TokenKind.{TokenKind}
use Rattle.core_lex.specs.declared.token.TokenKind.TheVariants.{Symbol, Atom}
use Rattle.core_lex.specs.declared.token.Symbol.TheVariants as S
use Rattle.core_grammar.specs.WrittenTree.{Spelled}
use Rattle.core_grammar.specs.Standing as G
use Rattle.core_grammar.specs.Standing.{Stands, RowStands, PairsStand, SegmentsStand, ClausesStand, DefinitionsStand, AttributesStand}
use Rattle.core_grammar.specs.Signs.{Sign, spelled, token_at}
use Rattle.core_texts.proofs.Truths.{never}
use Rattle.core_texts.proofs.Parts as T
use Rattle.core_texts.proofs.Parts.{is_strict, all_bits}
use Rattle.core_texts.proofs.Plans.{Plan, done, symbol_next, word_next, arity_next, look, call, bracket, if_next}
use Rattle.core_texts.proofs.Steps.{is_atom_kind, from_atom, from_angle, is_segment, from_segment}
use Rattle.core_texts.proofs.Fronts.{is_angle}
use Rattle.core_syntax.specs.declared.sort.Sort.{Sort}
use Rattle.core_syntax.specs.declared.sort.Sort.TheVariants as O
use Rattle.core_syntax.specs.declared.item.Count.{Count}
use Rattle.core_syntax.specs.declared.item.Shape.{Shape}
use Rattle.core_syntax.specs.declared.item.Part as Parts
use Rattle.core_syntax.specs.declared.item.Part.TheVariants as P
use Rattle.core_syntax.specs.declared.item.Entry.{Entry}
use Rattle.core_syntax.specs.Sorts.{sort_of, inner, of_items, of_keys, of_values}
use Rattle.core_syntax.specs.Reactions.{react}
use Rattle.core_syntax.proofs.Following.{Follows, Enters, a_tree, items}

-- the same where a token does the same
pub starts_as : {w : T.Part} {k : List Sign → List Sign} (P : Plan w k) (p : Parts.Part) (rest : List Entry)
    (known then : TokenKind → Type 0) (es next : List Entry) (sh now : Shape)
    → ((t : Token) → known t.kind → react t es sh ≡ react t next now) → ((x : TokenKind) → known x → then x)
    → Follows p rest P then next now → Follows p rest P known es sh
starts_as (done a h e) p rest known then es next sh now q i f = (f.0, λ t j. q t j ∙ f.1 t (i t.kind j), f.2)
starts_as (symbol_next c d s P) p rest known then es next sh now q i f =
    (f.0, f.1, λ t j. q t j ∙ f.2 t (i t.kind j), f.3)
starts_as (word_next d x P) p rest known then es next sh now q i f =
    (f.0, f.1, λ t j. q t j ∙ f.2 t (i t.kind j), f.3)
starts_as (arity_next d g) p rest known then es next sh now q i f =
    (f.0, f.1, λ t j. q t j ∙ f.2 t (i t.kind j), f.3)
starts_as (look l g) p rest known then es next sh now q i f = (f.0, f.1, λ t j. q t j ∙ f.2 t (i t.kind j), f.3)
starts_as (call v g) p rest known then es next sh now q i f =
    (f.0, f.1, f.2, f.3, λ t j. q t j ∙ f.4 t (i t.kind j), f.5)
starts_as (bracket v s g) p rest known then es next sh now q i f =
    (f.0, f.1, f.2, f.3, f.4, λ t j. q t j ∙ f.5 t (i t.kind j), f.6)
starts_as (if_next c P Q) p rest known then es next sh now q i f = (
  starts_as P p rest (λ x. known x × (c x ≡ true)) (λ x. then x × (c x ≡ true)) es next sh now (λ t j. q t j.0)
      (λ x j. (i x j.0, j.1)) f.0,
  starts_as Q p rest (λ x. known x × (c x ≡ false)) (λ x. then x × (c x ≡ false)) es next sh now (λ t j. q t j.0)
      (λ x j. (i x j.0, j.1)) f.1,
)

-- Parts of a sort's parts.

pub inner_tree : (s : Sort) (d : ℕ) → Enters (P.Tree (inner s)) d (T.tree_part (G.inner_sort (sort_of s)) d)
inner_tree O.SegmentValue d = a_tree O.Variable d
inner_tree s d = a_tree s d

pub item_tree : (s : Sort) (d : ℕ) → Enters (P.Tree (of_items s)) d (T.tree_part (G.item_sort (sort_of s)) d)
item_tree O.Expression d = a_tree O.Expression d
item_tree O.Pattern d = a_tree O.Pattern d
item_tree _ d = a_tree O.Constant d

pub all_items : (s : Sort) (n : Count) (d : ℕ)
    → Enters (P.Items (of_items s) n) d (T.items_part (G.item_sort (sort_of s)) d)
all_items O.Expression n d = items O.Expression n d
all_items O.Pattern n d = items O.Pattern n d
all_items _ n d = items O.Constant n d

pub key_tree : (s : Sort) (d : ℕ) → Enters (P.Tree (of_keys s)) d (T.tree_part (G.key_sort (sort_of s)) d)
key_tree O.Expression d = a_tree O.Expression d
key_tree O.Pattern d = a_tree O.Key d
key_tree _ d = a_tree O.Constant d

pub value_tree : (s : Sort) (d : ℕ) → Enters (P.Tree (of_values s)) d (T.tree_part (G.value_sort (sort_of s)) d)
value_tree O.Expression d = a_tree O.Expression d
value_tree O.Pattern d = a_tree O.SegmentValue d
value_tree _ d = a_tree O.Constant d

-- Behind one token.

pub at_atom : {w : T.Part} (p : Parts.Part) (rest : List Entry) (k : List Sign → List Sign) (d : ℕ)
    (f : (a : Spelled) → Plan w (λ r. k (spelled d a r))) (es : List Entry) (sh : Shape)
    → ((a : Spelled) → Follows p rest (f a) (λ x. ⊤) es sh) → (q : Place) (x : TokenKind) (h : is_atom_kind x ≡ true)
    → Follows p rest (from_atom k d f q x h) (λ x. ⊤) es sh
at_atom p rest k d f es sh g q (Atom a) h = g (record { place = q; name = a })
at_atom p rest k d f es sh g q _ h = never h

pub at_angle : {w : T.Part} (p : Parts.Part) (rest : List Entry) (k : List Sign → List Sign) (d : ℕ)
    (f : (q : Place) → Plan w (λ r. k (token_at d q (Symbol S.OpenAngle) r))) (es : List Entry) (sh : Shape)
    → ((q : Place) → Follows p rest (f q) (λ x. ⊤) es sh) → (q : Place) (x : TokenKind) (h : is_angle x ≡ true)
    → Follows p rest (from_angle k d f q x h) (λ x. ⊤) es sh
at_angle p rest k d f es sh g q (Symbol S.OpenAngle) h = g q
at_angle p rest k d f es sh g q _ h = never h

pub at_segment : {w : T.Part} (p : Parts.Part) (rest : List Entry) (k : List Sign → List Sign) (d : ℕ)
    (f : (q : Place) → Plan w (λ r. k (token_at d q (Symbol S.OpenSegment) r))) (es : List Entry) (sh : Shape)
    → ((q : Place) → Follows p rest (f q) (λ x. ⊤) es sh) → (q : Place) (x : TokenKind) (h : is_segment x ≡ true)
    → Follows p rest (from_segment k d f q x h) (λ x. ⊤) es sh
at_segment p rest k d f es sh g q (Symbol S.OpenSegment) h = g q
at_segment p rest k d f es sh g q _ h = never h
