-- What is to be read for a part follows its plan: trees, and all parts.
use Rattle.std.proofs.Common.{◌≡◌, refl, sym, ap, ◌∙◌, ℕ, suc, ◌+◌, List, ◌∷◌, true, false}
use Rattle.std.specs.Bool.{⊤}
use Rattle.erl_base.specs.declared.ids.Place.{Place}
use Rattle.core_lex.specs.declared.token.TokenKind.{TokenKind}
use Rattle.core_lex.specs.declared.token.TokenKind.TheVariants as K
use Rattle.core_lex.specs.declared.token.Symbol.TheVariants as S
use Rattle.core_texts.proofs.Truths.{never}
use Rattle.core_syntax.specs.declared.sort.Sort.{Sort}
use Rattle.core_syntax.specs.declared.sort.Sort.TheVariants as O
use Rattle.core_syntax.specs.declared.item.Shape.{Shape}
use Rattle.core_syntax.specs.declared.item.Shape.TheVariants.{Other}
use Rattle.core_syntax.specs.declared.item.Part.TheVariants as P
use Rattle.core_syntax.specs.declared.item.Item.TheVariants as I
use Rattle.core_syntax.specs.declared.item.Entry.{Entry}
use Rattle.core_grammar.specs.WrittenTree.{Tree, variable, noted}
use Rattle.core_grammar.specs.Standing as G
use Rattle.core_grammar.specs.Signs.{key_weight}
use Rattle.core_texts.proofs.Annotated.{is_variable_like}
use Rattle.core_texts.proofs.Parts as Grammar
use Rattle.core_texts.proofs.Fronts as F
use Rattle.core_texts.proofs.Trees as T
use Rattle.core_texts.proofs.Trees.{tree_behind, tree_plan}
use Rattle.core_texts.proofs.Bodies.{body}
use Rattle.core_syntax.specs.declared.item.Part as Parts
use Rattle.core_syntax.specs.Sorts.{sort_of}
use Rattle.core_syntax.specs.TokenKinds.{is_symbol}
use Rattle.core_syntax.specs.Beginnings.{on_test, at, tree, tree_next, tree_shape}
use Rattle.core_syntax.specs.Reactions.{note, key_weight_of}
use Rattle.core_syntax.proofs.Choosing.{is_paren}
use Rattle.core_syntax.proofs.Following.{Follows, Enters, a_tree, items, group, pairs, a_segment, segments, a_head, a_clause, clauses, definitions, attributes, a_module, a_value, a_size, a_unit, a_kind, flags, a_flag, flag_items, variable_shape}
use Rattle.core_syntax.proofs.BracketForms.{other_counts, variable_follows, atom_follows, bracket_follows}
use Rattle.core_syntax.proofs.WordForms.{form_follows}
use Rattle.core_syntax.proofs.PartForms.{items_follow, group_follows, pairs_follow, segment_follows, segments_follow}
use Rattle.core_syntax.proofs.ModuleForms.{definitions_follow, attributes_follow, module_follows}
use Rattle.core_syntax.proofs.ClauseForms.{head_follows, clause_follows, clauses_follow}
use Rattle.core_syntax.proofs.ConstantForms.{value_follows, size_follows, unit_follows, kind_follows, flags_follow, flag_follows, flag_items_follow}

behind_follows : (s : Sort) (d : ℕ) (p : Place) (x : TokenKind) (h : T.takes_tree (sort_of s) x ≡ true)
    (es : List Entry)
    → Follows (P.Tree s) es (tree_behind (sort_of s) d p x h) (λ x. ⊤) (tree_next s d x es) (tree_shape x)
behind_follows s d p (K.Variable x) h es = variable_follows s d p x h es
behind_follows s d p (K.Atom a) h es = atom_follows s d p a h es
behind_follows s d p (K.Number g z) h es = (Other, λ t i. refl, other_counts s _ refl)
behind_follows s d p (K.Wide n) h es = (Other, λ t i. refl, other_counts s _ refl)
behind_follows s d p K.Float h es = (Other, λ t i. refl, other_counts s _ refl)
behind_follows s d p (K.Character c) h es = (Other, λ t i. refl, other_counts s _ refl)
behind_follows s d p (K.Letters cs) h es = (Other, λ t i. refl, other_counts s _ refl)
behind_follows s d p (K.Symbol x) h es = bracket_follows s d p x h es
behind_follows s d p (K.Word x) h es = form_follows s d p x h es
behind_follows s d p K.Bad h es = never h
behind_follows s d p K.End h es = never h

-- Keys: the depth of a bracket depends on what it holds.

key_paren : (k : TokenKind) (d : ℕ) (es : List Entry) → is_symbol S.OpenParen k ≡ true
    → tree O.Key d k es
    ≡ on_test (is_symbol S.OpenParen k) (suc (0 + d)) (at (suc d) (I.Part (P.Tree O.Key)) ∷ at d I.NotedKey ∷ es) Other
key_paren (K.Symbol S.OpenParen) d es h = refl
key_paren _ d es h = never h

key_other : (k : TokenKind) (p : Place) (d : ℕ) (es : List Entry) → F.is_paren k ≡ false
    → tree O.Key d k es
    ≡ on_test (T.takes_tree G.key k) (T.tree_depth G.key d p k) (tree_next O.Key d k es) (tree_shape k)
key_other (K.Symbol S.OpenParen) p d es h = never (sym h)
key_other _ p d es h = refl

key_weighs : (t : Tree) → key_weight_of (variable_shape (is_variable_like t)) ≡ key_weight t
key_weighs (variable p x) = refl
key_weighs (noted p t n) = key_weighs t
key_weighs _ = refl

pub tree_follows : (s : Sort) (d : ℕ) (es : List Entry) (sh : Shape)
    → Follows (P.Tree s) es (tree_plan (sort_of s) d) (λ x. ⊤) (at d (I.Part (P.Tree s)) ∷ es) sh
tree_follows O.Key d es sh = (
  (
    P.Tree O.Key,
    suc d,
    at d I.NotedKey ∷ es,
    Other,
    a_tree O.Key (suc d),
    λ t i. key_paren t.kind d es (sym (is_paren t.kind) ∙ i.1),
    λ r b h then c. (
      _,
      Other,
      λ t i. ap (λ w. note (suc (w + d)) then t.kind es) (ap key_weight_of c ∙ key_weighs b),
      (
        P.Tree O.Note,
        suc (key_weight b + d),
        _,
        a_tree O.Note (suc (key_weight b + d)),
        λ t i. refl,
        λ n k last m. (_, then, λ t i. refl, (then, λ t i. refl, c)),
      ),
    ),
  ),
  (
    λ x. tree_next O.Key d x es,
    tree_shape,
    λ t i. key_other t.kind t.place d es i.1,
    λ p x h. behind_follows O.Key d p x h es,
  ),
)
tree_follows s d es sh =
    (λ x. tree_next s d x es, tree_shape, λ t i. refl, λ p x h. behind_follows s d p x h es)

-- each part
pub bodies : (q : Parts.Part) (d : ℕ) (v : Grammar.Part) → Enters q d v → (es : List Entry) (sh : Shape)
    → Follows q es (body v) (λ x. ⊤) (at d (I.Part q) ∷ es) sh
bodies _ _ _ (a_tree s d) es sh = tree_follows s d es sh
bodies _ _ _ (items s n d) es sh = items_follow s n d es sh
bodies _ _ _ (group d) es sh = group_follows d es sh
bodies _ _ _ (pairs s d) es sh = pairs_follow s d es sh
bodies _ _ _ (a_segment s d) es sh = segment_follows s d es sh
bodies _ _ _ (segments s d) es sh = segments_follow s d es sh
bodies _ _ _ (a_head d) es sh = head_follows d es sh
bodies _ _ _ (a_clause d) es sh = clause_follows d es sh
bodies _ _ _ (clauses d) es sh = clauses_follow d es sh
bodies _ _ _ (definitions d) es sh = definitions_follow d es sh
bodies _ _ _ (attributes d) es sh = attributes_follow d es sh
bodies _ _ _ (a_module d) es sh = module_follows d es sh
bodies _ _ _ (a_value d) es sh = value_follows d es sh
bodies _ _ _ (a_size d) es sh = size_follows d es sh
bodies _ _ _ (a_unit n d) es sh = unit_follows n d es sh
bodies _ _ _ (a_kind d) es sh = kind_follows d es sh
bodies _ _ _ (flags d) es sh = flags_follow d es sh
bodies _ _ _ (a_flag d) es sh = flag_follows d es sh
bodies _ _ _ (flag_items d) es sh = flag_items_follow d es sh
