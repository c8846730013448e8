-- The plan of each part.
use Rattle.std.proofs.Common.{◌≡◌, refl, ap, ℕ, suc, ◌+◌, List, ◌∷◌, Bool, true, false}
use Rattle.erl_base.specs.declared.ids.Place.{Place}
use Rattle.core_lex.specs.declared.token.TokenKind.{TokenKind}
use Rattle.core_lex.specs.declared.token.TokenKind.TheVariants.{Symbol}
use Rattle.core_lex.specs.declared.token.Word.TheVariants as W
use Rattle.core_lex.specs.declared.token.Symbol.TheVariants as S
use Rattle.core_grammar.specs.WrittenTree.{Spelled, Tree, noted, alias, Row, none, more, single, angled, no_pair, pair, Segment, segment, noted_segment, no_segment, and_segment, clause, noted_clause, no_clause, and_clause, no_definition, definition, Attributes, no_attribute, attribute, plain_module, noted_module}
use Rattle.core_grammar.specs.Standing.{Sort, expression, pattern, constant, note, key, segment_value, a_variable, a_name, an_atom, a_fun, takes_pair, item_sort, key_sort, value_sort, Stands, RowStands, AttributesStand}
use Rattle.core_grammar.specs.ConstantTerms.{integer_value, count_value, is_integer_kind, constant_of}
use Rattle.core_grammar.specs.Signs.{Sign, plain_sign, token_at, symbol, pair_symbol, kept_word, spelled, on, row_on, attributes_on}
use Rattle.core_texts.proofs.Parts.{Head, whole, part, Part, tree_part, items_part, group_part, pairs_part, segment_part, segments_part, head_part, clause_part, clauses_part, definitions_part, attributes_part, module_part, value_part, size_part, unit_part, kind_part, flags_part, flag_part, flag_items_part, head_on, HeadRight, is_strict, has_bits, count_or_none}
use Rattle.core_texts.proofs.Fronts.{opens, is_comma, is_angle, is_paren, is_when, equals_in}
use Rattle.core_texts.proofs.Truths.{never, and_in}
use Rattle.core_texts.proofs.Bits.{bits_ok}
use Rattle.core_texts.proofs.Plans.{Plan, done, symbol_next, word_next, look, call, bracket, if_next}
use Rattle.core_texts.proofs.Steps.{atom_plan, angle_plan, open_segment_plan, note_plan, rows, some_definitions_plan, some_attributes_plan}
use Rattle.core_texts.proofs.Annotated.{as_variable, is_variable_like, like_stands, head_deep, head_sight, head_bracket}
use Rattle.core_texts.proofs.Trees.{tree_plan}
use Rattle.core_texts.proofs.Constants.{value_looked, value_behind, size_looked, size_behind, unit_looked, unit_behind, kind_looked, kind_behind, flags_looked, flags_behind, flag_looked, flag_behind, flag_items_plan}

abbrev pub items_plan : (s : Sort) (d : ℕ) → Plan (items_part s d) (λ r. r)
items_plan s d =
    call (tree_part s d) λ t i.
    if_next is_comma
    (symbol_next true d S.Comma (call (items_part s d) λ b j. done (t, more b.0 b.1) (i, j) (λ r. refl)))
    (done (t, none) (i, tt) (λ r. refl))

abbrev pub group_plan : (d : ℕ) → Plan (group_part d) (λ r. r)
group_plan d =
    if_next is_angle
    (angle_plan d λ p. rows a_variable d λ ts i. symbol_next true d S.CloseAngle (done (angled p ts) i (λ r. refl)))
    (call (tree_part a_variable d) λ t i. done (single t) i (λ r. refl))

-- Pairs.

abbrev pub is_exact : TokenKind → Bool
is_exact (Symbol S.ExactAssociation) = true
is_exact _ = false

abbrev pub pair_end : (s : Sort) (d : ℕ) (t : Tree) → Stands (key_sort s) t → (x : Bool) → takes_pair s x ≡ true
    → Plan (pairs_part s d) (λ r. on true (key_sort s) d t (symbol d (pair_symbol x) r))
pair_end s d t i x h =
    call (tree_part (item_sort s) d) λ u j.
    if_next is_comma
    (symbol_next true d S.Comma (call (pairs_part s d) λ b k.
    done (t, x, u, pair b.0 b.1 b.2 b.3) (i, h, j, k) (λ r. refl)))
    (done (t, x, u, no_pair) (i, h, j, tt) (λ r. refl))

abbrev pub arrow_plan : (s : Sort) (d : ℕ) (t : Tree) → Stands (key_sort s) t
    → Plan (pairs_part s d) (λ r. on true (key_sort s) d t r)
arrow_plan expression d t i =
    if_next is_exact (symbol_next true d S.ExactAssociation (pair_end expression d t i true refl))
    (symbol_next true d S.Association (pair_end expression d t i false refl))
arrow_plan pattern d t i = symbol_next true d S.ExactAssociation (pair_end pattern d t i true refl)
arrow_plan s d t i = symbol_next true d S.Association (pair_end s d t i false refl)

abbrev pub pairs_plan : (s : Sort) (d : ℕ) → Plan (pairs_part s d) (λ r. r)
pairs_plan s d = call (tree_part (key_sort s) d) λ t i. arrow_plan s d t i

-- Segments.

abbrev pub loose_plan : (s : Sort) (d : ℕ) (p : Place) → is_strict s ≡ false
    → Plan (segment_part s d) (λ r. token_at d p (Symbol S.OpenSegment) r)
loose_plan s d p e =
    call (tree_part (value_sort s) d) λ t h. symbol_next true d S.CloseAngle (symbol_next true d S.OpenParen
    (call (tree_part (key_sort s) d) λ u i. symbol_next true d S.Comma (call (tree_part constant d) λ n j.
    symbol_next true d S.Comma (call (tree_part an_atom d) λ x k. symbol_next true d S.Comma
    (call (tree_part constant d) λ f l. symbol_next true d S.CloseParen
    (done (segment p t u n x f) ((h, i, j, k, l), ap (λ b. has_bits b (segment p t u n x f)) e) (λ r. refl)))))))

abbrev pub strict_plan : (s : Sort) (d : ℕ) (p : Place) → is_strict s ≡ true
    → Plan (segment_part s d) (λ r. token_at d p (Symbol S.OpenSegment) r)
strict_plan expression d p e = never e
strict_plan pattern d p e = never e
strict_plan s d p e =
    call (value_part d) λ t h. symbol_next true d S.CloseAngle (symbol_next true d S.OpenParen
    (call (size_part d) λ u i. symbol_next true d S.Comma (call (unit_part (count_or_none (count_value u)) d) λ n j.
    symbol_next true d S.Comma (call (kind_part d) λ x k. symbol_next true d S.Comma
    (call (flags_part d) λ f l. symbol_next true d S.CloseParen
    (done (segment p t u n x f) (
      (h.0, i.0, j.0, k.0, l.0),
      bits_ok (is_integer_kind x) (integer_value t) (count_value u) (count_value n) (constant_of false f)
          k.1 h.1 i.1 j.1 l.1,
    ) (λ r. refl)))))))

pub bits_noted : (b : Bool) (g : Segment) (n : Tree) → has_bits b g ≡ true → has_bits b (noted_segment g n) ≡ true
bits_noted true g n h = h
bits_noted false g n h = refl

abbrev pub open_segment : (s : Sort) (d : ℕ) (p : Place)
    → Plan (segment_part s d) (λ r. token_at d p (Symbol S.OpenSegment) r)
open_segment expression d p = loose_plan expression d p refl
open_segment pattern d p = loose_plan pattern d p refl
open_segment constant d p = strict_plan constant d p refl
open_segment key d p = strict_plan key d p refl
open_segment note d p = strict_plan note d p refl
open_segment segment_value d p = strict_plan segment_value d p refl
open_segment a_variable d p = strict_plan a_variable d p refl
open_segment a_name d p = strict_plan a_name d p refl
open_segment an_atom d p = strict_plan an_atom d p refl
open_segment a_fun d p = strict_plan a_fun d p refl

abbrev pub segment_plan : (s : Sort) (d : ℕ) → Plan (segment_part s d) (λ r. r)
segment_plan s d =
    if_next is_paren
    (symbol_next true (suc d) S.OpenParen (call (segment_part s (suc d)) λ g h. note_plan (suc d) λ n i.
    done (noted_segment g n) ((h.0, i), bits_noted (is_strict s) g n h.1) (λ r. refl)))
    (open_segment_plan d λ p. open_segment s d p)

abbrev pub segments_plan : (s : Sort) (d : ℕ) → Plan (segments_part s d) (λ r. r)
segments_plan s d =
    call (segment_part s d) λ g i.
    if_next is_comma
    (symbol_next true d S.Comma (call (segments_part s d) λ b j.
    done (g, and_segment b.0 b.1) ((i.0, j.0), and_in _ _ i.1 j.1) (λ r. refl)))
    (done (g, no_segment) ((i.0, tt), and_in _ _ i.1 refl) (λ r. refl))

-- Clauses.

-- guard -> body, behind `when`
abbrev pub clause_rest : {w : Part} {k : List Sign → List Sign} (d : ℕ)
    → ((t u : Tree) → Stands expression t → Stands expression u
    → Plan w (λ r. k (kept_word d W.When (on true expression d t (symbol d S.Arrow (on true expression d u r))))))
    → Plan w k
clause_rest d f =
    word_next d W.When (call (tree_part expression d) λ t i. symbol_next true d S.Arrow
    (call (tree_part expression d) λ u j. f t u i j))

-- a pattern is the only one of a clause where `when` comes
abbrev pub head_end : {k : List Sign → List Sign} (d : ℕ) (t : Tree) → Stands pattern t
    → ((r : List Sign) → on true pattern (suc d) t r ≡ k r) → Plan (head_part d) k
head_end d t h e =
    if_next is_when
    (clause_rest (suc d) λ u v i j. done (whole (clause (single t) u v)) (h, i, j) (λ r. e _))
    (done (part t) h e)

-- an annotated pattern
abbrev pub head_alias : (d : ℕ) (p : Place) (t n : Tree) → Stands pattern t → Stands note n → (b : Bool)
    → is_variable_like t ≡ b → Plan (head_part d) (λ r. on true pattern (suc d) (noted p t n) r)
head_alias d p t n i j false e = head_end d (noted p t n) (i, j) (λ r. refl)
head_alias d p t n i j true e =
    if_next (equals_in true)
    (symbol_next true (suc (suc d)) S.Equals (call (tree_part pattern (suc (suc d))) λ u l.
    head_end d (alias (noted p t n) u) (refl, (like_stands t e i, j), l)
    (λ r. as_variable (noted p t n) (like_stands t e i, j) (suc d) _)))
    (head_end d (noted p t n) (i, j) (λ r. refl))

abbrev pub head_noted : (d : ℕ) (p : Place) (h : Head) → HeadRight h
    → Plan (head_part d) (λ r. plain_sign (head_deep d h) (head_sight p h) ∷ head_on (suc d) h r)
head_noted d p (whole c) h =
    note_plan (suc (suc d)) λ n i. done (whole (noted_clause c n)) (h, i) (λ r. refl)
head_noted d p (part t) h =
    note_plan (suc (1 + suc d)) λ n i. head_alias d p t n h i (is_variable_like t) refl

abbrev pub head_plan : (d : ℕ) → Plan (head_part d) (λ r. r)
head_plan d =
    if_next is_angle
    (angle_plan (suc d) λ p. rows pattern (suc d) λ ts h. symbol_next true (suc d) S.CloseAngle
    (clause_rest (suc d) λ u v i j. done (whole (clause (angled p ts) u v)) (h, i, j) (λ r. refl)))
    (if_next is_paren
    (bracket (head_part (suc d)) (head_bracket d) λ p h i. head_noted d p h i)
    (call (tree_part pattern (suc d)) λ t h. head_end d t h (λ r. refl)))

abbrev pub clause_end : (d : ℕ) (h : Head) → HeadRight h → Plan (clause_part d) (λ r. head_on d h r)
clause_end d (whole c) h = done c h (λ r. refl)
clause_end d (part t) h =
    clause_rest (suc d) λ u v i j. done (clause (single t) u v) (h, i, j) (λ r. refl)

abbrev pub clause_plan : (d : ℕ) → Plan (clause_part d) (λ r. r)
clause_plan d = call (head_part d) λ h i. clause_end d h i

abbrev pub clauses_plan : (d : ℕ) → Plan (clauses_part d) (λ r. r)
clauses_plan d =
    call (clause_part d) λ c i.
    if_next opens
    (call (clauses_part d) λ b j. done (c, and_clause b.0 b.1) (i, j) (λ r. refl))
    (done (c, no_clause) (i, tt) (λ r. refl))

-- Modules.

abbrev pub definitions_plan : (d : ℕ) → Plan (definitions_part d) (λ r. r)
definitions_plan d =
    call (tree_part a_name (suc d)) λ x i. symbol_next true (suc d) S.Equals
    (call (tree_part a_fun (suc d)) λ t j.
    if_next opens
    (call (definitions_part d) λ b l. done (x, t, definition b.0 b.1 b.2) (i, j, l) (λ r. refl))
    (done (x, t, no_definition) (i, j, tt) (λ r. refl)))

abbrev pub attributes_plan : (d : ℕ) → Plan (attributes_part d) (λ r. r)
attributes_plan d =
    call (tree_part an_atom d) λ a i. symbol_next true d S.Equals
    (call (tree_part constant d) λ t j.
    if_next is_comma
    (symbol_next true d S.Comma (call (attributes_part d) λ b l.
    done (a, t, attribute b.0 b.1 b.2) (i, j, l) (λ r. refl)))
    (done (a, t, no_attribute) (i, j, tt) (λ r. refl)))

-- behind the attributes of a module
abbrev pub module_definitions : (d : ℕ) (a : Spelled) (xs : Row) (bs : Attributes) → RowStands a_name xs
    → AttributesStand bs
    → Plan (module_part d) (λ r. kept_word d W.Module (spelled d a (symbol d S.OpenBracket (row_on true true a_name d xs
    (symbol d S.CloseBracket (kept_word d W.Attributes (symbol d S.OpenBracket (attributes_on true true d bs r))))))))
module_definitions d a xs bs i j =
    symbol_next true d S.CloseBracket (some_definitions_plan d λ ds l.
    word_next d W.End (done (plain_module a xs bs ds) (i, j, l) (λ r. refl)))

-- behind its exports
abbrev pub module_attributes : (d : ℕ) (a : Spelled) (xs : Row) → RowStands a_name xs
    → Plan (module_part d) (λ r. kept_word d W.Module (spelled d a (symbol d S.OpenBracket
    (row_on true true a_name d xs r))))
module_attributes d a xs i =
    symbol_next true d S.CloseBracket (word_next d W.Attributes (symbol_next true d S.OpenBracket
    (some_attributes_plan d λ bs j. module_definitions d a xs bs i j)))

abbrev pub module_plan : (d : ℕ) → Plan (module_part d) (λ r. r)
module_plan d =
    if_next is_paren
    (symbol_next true (suc d) S.OpenParen (call (module_part (suc d)) λ w i. note_plan (suc d) λ n j.
    done (noted_module w n) (i, j) (λ r. refl)))
    (word_next d W.Module (atom_plan d λ a. symbol_next true d S.OpenBracket (rows a_name d λ xs i.
    module_attributes d a xs i)))

abbrev pub body : (v : Part) → Plan v (λ r. r)
body (tree_part s d) = tree_plan s d
body (items_part s d) = items_plan s d
body (group_part d) = group_plan d
body (pairs_part s d) = pairs_plan s d
body (segment_part s d) = segment_plan s d
body (segments_part s d) = segments_plan s d
body (head_part d) = head_plan d
body (clause_part d) = clause_plan d
body (clauses_part d) = clauses_plan d
body (definitions_part d) = definitions_plan d
body (attributes_part d) = attributes_plan d
body (module_part d) = module_plan d
body (value_part d) = look (value_looked d) (value_behind d)
body (size_part d) = look (size_looked d) (size_behind d)
body (unit_part m d) = look (unit_looked m d) (unit_behind m d)
body (kind_part d) = look (kind_looked d) (kind_behind d)
body (flags_part d) = look (flags_looked d) (flags_behind d)
body (flag_part d) = look (flag_looked d) (flag_behind d)
body (flag_items_part d) = flag_items_plan d
