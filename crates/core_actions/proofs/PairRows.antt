-- Pairs of literals as they are turned into pairs of terms.
use Rattle.std.proofs.Common.{◌≡◌, refl, sym, ap, ◌∙◌, subst, List, [], ◌∷◌, ◌++◌, map, true, not, ◌&&◌, IsTrue, Option, None, Some}
use Rattle.erl_term.specs.Term as T
use Rattle.erl_term.specs.declared.term.Pair.{Pair}
use Rattle.erl_term.specs.View as Terms
use Rattle.erl_term.specs.WellRows.{PairsWellFormed}
use Rattle.erl_term.proofs.Forms.{left_true, right_true, both_true}
use Rattle.term_read.proofs.WellRows.{pair_views_pushed}
use Rattle.core_form.specs.declared.tree.MapPart.{MapPart}
use Rattle.core_form.specs.Core as C
use Rattle.core_form.specs.SourceTree.{is_literal, are_constant_pairs}
use Rattle.core_form.specs.View.{part_view, parts}
use Rattle.core_grammar.specs.ConstantTerms.{and_item, constant_pair}
use Rattle.core_actions.specs.Joining.{literal_term, literal_pairs}
use Rattle.core_actions.specs.SoundTerms.{all_sound, part_sound}
use Rattle.core_actions.proofs.OptionRows.{both_rows, row_moved}

pub no_pairs : PairsWellFormed []
no_pairs = record { normal = refl; rising = refl }

only_one : (o : Option (T.Term × T.Term)) (q : T.Term × T.Term) → and_item o (Some []) ≡ Some (q ∷ []) → o ≡ Some q
only_one None q e = absurd cc
only_one (Some r) q e = cc

first_pair : (k : C.MapPart) (ps : C.MapParts) (q : T.Term × T.Term)
    → literal_pairs (C.and_part k C.no_part) ≡ Some (q ∷ [])
    → literal_pairs (C.and_part k ps) ≡ and_item (Some q) (literal_pairs ps)
first_pair (C.map_part k v x) ps q e =
    ap (λ o. and_item o (literal_pairs ps)) (only_one (constant_pair (literal_term k) x (literal_term v)) q e)

pub pair_moved : (ps left : List MapPart) (p : MapPart) (qs new : List Pair) (q : Pair)
    (all : Option (List (T.Term × T.Term))) → ps ≡ p ∷ left → new ≡ qs ++ q ∷ []
    → literal_pairs (parts (part_view p ∷ [])) ≡ Some (Terms.pair_view q ∷ [])
    → both_rows (Some (map Terms.pair_view qs)) (literal_pairs (parts (map part_view ps))) ≡ all
    → both_rows (Some (map Terms.pair_view new)) (literal_pairs (parts (map part_view left))) ≡ all
pair_moved ps left p qs new q all h k l v =
    ap (λ xs. both_rows (Some xs) (literal_pairs (parts (map part_view left)))) (pair_views_pushed qs new q k)
    ∙ sym (row_moved (map Terms.pair_view qs) (Terms.pair_view q) (literal_pairs (parts (map part_view left))))
    ∙ ap (both_rows (Some (map Terms.pair_view qs)))
    (sym (first_pair (part_view p) (parts (map part_view left)) (Terms.pair_view q) l))
    ∙ ap (λ xs. both_rows (Some (map Terms.pair_view qs)) (literal_pairs (parts (map part_view xs)))) (sym h) ∙ v

-- the first pair, and the others

first_of_pairs : (k : C.MapPart) (ps : C.MapParts) → IsTrue (are_constant_pairs (C.and_part k ps))
    → IsTrue (are_constant_pairs (C.and_part k C.no_part))
first_of_pairs (C.map_part k v x) ps h =
    both_true (is_literal k && is_literal v && not x) true
    (left_true (is_literal k && is_literal v && not x) (are_constant_pairs ps) h) refl

rest_of_pairs : (k : C.MapPart) (ps : C.MapParts) → IsTrue (are_constant_pairs (C.and_part k ps))
    → IsTrue (are_constant_pairs ps)
rest_of_pairs (C.map_part k v x) ps h =
    right_true (is_literal k && is_literal v && not x) (are_constant_pairs ps) h

pub first_constant : (ps left : List MapPart) (p : MapPart) → ps ≡ p ∷ left
    → IsTrue (are_constant_pairs (parts (map part_view ps))) → IsTrue (are_constant_pairs (parts (part_view p ∷ [])))
first_constant ps left p e h =
    first_of_pairs (part_view p) (parts (map part_view left))
    (subst (λ xs. IsTrue (are_constant_pairs (parts (map part_view xs)))) e h)

pub rest_constant : (ps left : List MapPart) (p : MapPart) → ps ≡ p ∷ left
    → IsTrue (are_constant_pairs (parts (map part_view ps))) → IsTrue (are_constant_pairs (parts (map part_view left)))
rest_constant ps left p e h =
    rest_of_pairs (part_view p) (parts (map part_view left))
    (subst (λ xs. IsTrue (are_constant_pairs (parts (map part_view xs)))) e h)

pub first_part_sound : (ps left : List MapPart) (p : MapPart) → ps ≡ p ∷ left → IsTrue (all_sound (map part_sound ps))
    → IsTrue (part_sound p)
first_part_sound ps left p e h =
    left_true (part_sound p) (all_sound (map part_sound left))
    (subst (λ xs. IsTrue (all_sound (map part_sound xs))) e h)

pub rest_parts_sound : (ps left : List MapPart) (p : MapPart) → ps ≡ p ∷ left → IsTrue (all_sound (map part_sound ps))
    → IsTrue (all_sound (map part_sound left))
rest_parts_sound ps left p e h =
    right_true (part_sound p) (all_sound (map part_sound left))
    (subst (λ xs. IsTrue (all_sound (map part_sound xs))) e h)
