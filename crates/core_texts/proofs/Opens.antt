-- What the next sign may be, behind a tree and before one.
use Rattle.std.proofs.Common.{◌≡◌, refl, ℕ, suc, List, [], ◌∷◌, Bool, true, false}
use Rattle.core_lex.specs.declared.token.TokenKind.{TokenKind}
use Rattle.core_lex.specs.declared.token.TokenKind.TheVariants.{Symbol}
use Rattle.core_lex.specs.declared.token.Symbol.TheVariants as S
use Rattle.core_grammar.specs.WrittenTree.{Tree, alias, Group, single, angled, Segment, segment, noted_segment, Clause, clause, noted_clause}
use Rattle.core_grammar.specs.Standing.{Sort, pattern, a_variable}
use Rattle.core_grammar.specs.Signs.{Sign, on, group_on, segment_on, clause_on}
use Rattle.core_texts.proofs.Truths.{never}
use Rattle.core_texts.proofs.Fronts.{front, opens, is_slash, equals_in}

-- what may stand behind a tree
pub record Calm (m : Bool) (r : List Sign) : Type 0 where
  pub slash : front is_slash r ≡ false
  pub equals : front (equals_in m) r ≡ false

no_slash : (k : TokenKind) → opens k ≡ true → is_slash k ≡ false
no_slash (Symbol S.Slash) h = never h
no_slash _ h = refl

no_equals : (m : Bool) (k : TokenKind) → opens k ≡ true → equals_in m k ≡ false
no_equals m (Symbol S.Equals) h = never h
no_equals m _ h = refl

-- what opens is neither a slash nor equals
pub opened : (m : Bool) (gs : List Sign) → front opens gs ≡ true → Calm m gs
opened m [] h = never h
opened m (g ∷ gs) h = record { slash = no_slash _ h; equals = no_equals m _ h }

equals_nowhere : (k : TokenKind) → equals_in false k ≡ false
equals_nowhere (Symbol S.Equals) = refl
equals_nowhere _ = refl

pub no_front : (r : List Sign) → front (equals_in false) r ≡ false
no_front [] = refl
no_front (g ∷ gs) = equals_nowhere _

pub opens_tree : (s : Sort) (d : ℕ) (t : Tree) (r : List Sign) → front opens (on true s d t r) ≡ true
opens_tree s d (alias x t) r = opens_tree a_variable (suc d) x _
opens_tree s d _ r = refl

pub opens_segment : (s : Sort) (d : ℕ) (g : Segment) (r : List Sign) → front opens (segment_on true s d g r) ≡ true
opens_segment s d (segment p t u n k f) r = refl
opens_segment s d (noted_segment g n) r = refl

opens_group : (d : ℕ) (g : Group) (r : List Sign) → front opens (group_on true pattern d g r) ≡ true
opens_group d (single t) r = opens_tree pattern d t r
opens_group d (angled p ts) r = refl

pub opens_clause : (d : ℕ) (c : Clause) (r : List Sign) → front opens (clause_on true d c r) ≡ true
opens_clause d (clause ts t u) r = opens_group (suc d) ts _
opens_clause d (noted_clause c n) r = refl
