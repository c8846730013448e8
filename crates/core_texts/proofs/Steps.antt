-- Pieces of plans.
use Rattle.std.proofs.Common.{◌≡◌, refl, ℕ, List, [], ◌∷◌, Bool, true, false}
use Rattle.erl_base.specs.declared.ids.Place.{Place}
use Rattle.core_lex.specs.declared.token.TokenKind.{TokenKind}
use Rattle.core_lex.specs.declared.token.TokenKind.TheVariants.{Symbol, Atom}
use Rattle.core_lex.specs.declared.token.Symbol.TheVariants as S
use Rattle.core_grammar.specs.WrittenTree.{Spelled, Tree, Row, none, more, Pairs, no_pair, pair, Segments, no_segment, and_segment, Clauses, no_clause, and_clause, Definitions, no_definition, definition, Attributes, no_attribute, attribute}
use Rattle.core_grammar.specs.Standing.{Sort, note, Stands, RowStands, PairsStand, SegmentsStand, ClausesStand, DefinitionsStand, AttributesStand}
use Rattle.core_grammar.specs.Signs.{Sign, at_place, plain_sign, spelled, token_at, symbol, on, row_on, pairs_on, segments_on, clauses_on, definitions_on, attributes_on}
use Rattle.core_texts.proofs.Fronts.{opens, is_angle}
use Rattle.core_texts.proofs.Truths.{never}
use Rattle.core_texts.proofs.Parts.{Part, tree_part, items_part, pairs_part, segments_part, clauses_part, definitions_part, attributes_part, here, is_strict, all_bits}
use Rattle.core_texts.proofs.Plans.{Plan, symbol_next, look, call, if_next, Looked}

abbrev pub is_atom_kind : TokenKind → Bool
is_atom_kind (Atom a) = true
is_atom_kind _ = false

abbrev pub atom_looked : ℕ → Looked
atom_looked d = record {
  takes = is_atom_kind;
  depth = λ p x. d;
  no_bad = refl;
  no_end = refl;
  place = here;
  kind = Atom [];
  one = refl;
}

abbrev pub from_atom : {w : Part} (k : List Sign → List Sign) (d : ℕ)
    → ((a : Spelled) → Plan w (λ r. k (spelled d a r))) → (p : Place) (x : TokenKind) → is_atom_kind x ≡ true
    → Plan w (λ r. k (plain_sign d (at_place p x) ∷ r))
from_atom k d f p (Atom a) h = f (record { place = p; name = a })
from_atom k d f p _ h = never h

-- an atom where it is spelled
abbrev pub atom_plan : {w : Part} {k : List Sign → List Sign} (d : ℕ)
    → ((a : Spelled) → Plan w (λ r. k (spelled d a r))) → Plan w k
atom_plan {k = k} d f = look (atom_looked d) (from_atom k d f)

abbrev pub angle_looked : ℕ → Looked
angle_looked d = record {
  takes = is_angle;
  depth = λ p x. d;
  no_bad = refl;
  no_end = refl;
  place = here;
  kind = Symbol S.OpenAngle;
  one = refl;
}

abbrev pub from_angle : {w : Part} (k : List Sign → List Sign) (d : ℕ)
    → ((p : Place) → Plan w (λ r. k (token_at d p (Symbol S.OpenAngle) r))) → (p : Place) (x : TokenKind)
    → is_angle x ≡ true → Plan w (λ r. k (plain_sign d (at_place p x) ∷ r))
from_angle k d f p (Symbol S.OpenAngle) h = f p
from_angle k d f p _ h = never h

-- <
abbrev pub angle_plan : {w : Part} {k : List Sign → List Sign} (d : ℕ)
    → ((p : Place) → Plan w (λ r. k (token_at d p (Symbol S.OpenAngle) r))) → Plan w k
angle_plan {k = k} d f = look (angle_looked d) (from_angle k d f)

abbrev pub is_segment : TokenKind → Bool
is_segment (Symbol S.OpenSegment) = true
is_segment _ = false

abbrev pub segment_looked : ℕ → Looked
segment_looked d = record {
  takes = is_segment;
  depth = λ p x. d;
  no_bad = refl;
  no_end = refl;
  place = here;
  kind = Symbol S.OpenSegment;
  one = refl;
}

abbrev pub from_segment : {w : Part} (k : List Sign → List Sign) (d : ℕ)
    → ((p : Place) → Plan w (λ r. k (token_at d p (Symbol S.OpenSegment) r))) → (p : Place) (x : TokenKind)
    → is_segment x ≡ true → Plan w (λ r. k (plain_sign d (at_place p x) ∷ r))
from_segment k d f p (Symbol S.OpenSegment) h = f p
from_segment k d f p _ h = never h

-- #<
abbrev pub open_segment_plan : {w : Part} {k : List Sign → List Sign} (d : ℕ)
    → ((p : Place) → Plan w (λ r. k (token_at d p (Symbol S.OpenSegment) r))) → Plan w k
open_segment_plan {k = k} d f = look (segment_looked d) (from_segment k d f)

-- `-|` note )
abbrev pub note_plan : {w : Part} {k : List Sign → List Sign} (d : ℕ)
    → ((n : Tree) → Stands note n
    → Plan w (λ r. k (symbol d S.AnnotationBar (on true note d n (symbol d S.CloseParen r))))) → Plan w k
note_plan d f =
    symbol_next true d S.AnnotationBar (call (tree_part note d) λ n h. symbol_next true d S.CloseParen (f n h))

-- items, pairs, segments, clauses, definitions and attributes, or none
abbrev pub rows : {w : Part} {k : List Sign → List Sign} (s : Sort) (d : ℕ)
    → ((ts : Row) → RowStands s ts → Plan w (λ r. k (row_on true true s d ts r))) → Plan w k
rows s d f = if_next opens (call (items_part s d) λ b h. f (more b.0 b.1) h) (f none tt)

abbrev pub some_pairs_plan : {w : Part} {k : List Sign → List Sign} (s : Sort) (d : ℕ)
    → ((ps : Pairs) → PairsStand s ps → Plan w (λ r. k (pairs_on true true s d ps r))) → Plan w k
some_pairs_plan s d f =
    if_next opens (call (pairs_part s d) λ b h. f (pair b.0 b.1 b.2 b.3) h) (f no_pair tt)

abbrev pub some_segments_plan : {w : Part} {k : List Sign → List Sign} (s : Sort) (d : ℕ)
    → ((gs : Segments) → SegmentsStand s gs → all_bits (is_strict s) gs ≡ true
    → Plan w (λ r. k (segments_on true true s d gs r))) → Plan w k
some_segments_plan s d f =
    if_next opens (call (segments_part s d) λ b h. f (and_segment b.0 b.1) h.0 h.1) (f no_segment tt refl)

abbrev pub some_clauses_plan : {w : Part} {k : List Sign → List Sign} (d : ℕ)
    → ((cs : Clauses) → ClausesStand cs → Plan w (λ r. k (clauses_on true d cs r))) → Plan w k
some_clauses_plan d f = if_next opens (call (clauses_part d) λ b h. f (and_clause b.0 b.1) h) (f no_clause tt)

abbrev pub some_definitions_plan : {w : Part} {k : List Sign → List Sign} (d : ℕ)
    → ((ds : Definitions) → DefinitionsStand ds → Plan w (λ r. k (definitions_on true d ds r))) → Plan w k
some_definitions_plan d f =
    if_next opens (call (definitions_part d) λ b h. f (definition b.0 b.1 b.2) h) (f no_definition tt)

abbrev pub some_attributes_plan : {w : Part} {k : List Sign → List Sign} (d : ℕ)
    → ((bs : Attributes) → AttributesStand bs → Plan w (λ r. k (attributes_on true true d bs r))) → Plan w k
some_attributes_plan d f =
    if_next opens (call (attributes_part d) λ b h. f (attribute b.0 b.1 b.2) h) (f no_attribute tt)
