-- What holds of each sign of a tree and the rest holds of each sign of the rest.
use Rattle.std.proofs.Common.{◌+◌, ℕ, suc, Bool, true, false, List}
use Rattle.core_grammar.specs.WrittenTree.{Tree, variable, atom, number, wide, float, character, string, function_name, external, noted, alias, list, list_on, tuple, values, new_map, map_on, binary, fun, let_in, letrec, case, apply, call, primop, do_then, catch, try, receive, Row, none, more, Group, single, angled, Pairs, no_pair, pair, Segment, segment, noted_segment, Segments, no_segment, and_segment, Clause, clause, noted_clause, Clauses, no_clause, and_clause, Definitions, no_definition, definition}
use Rattle.core_grammar.specs.Standing.{Sort, expression, pattern, constant, note, a_variable, a_name, an_atom, a_fun, inner_sort, item_sort, key_sort, value_sort}
use Rattle.core_lex.specs.declared.token.Symbol.TheVariants as S
use Rattle.core_grammar.specs.Signs.{Sign, Sight, annotated, symbol, comma_before, weight, on, row_on, group_on, pairs_on, segment_on, segments_on, clause_on, clauses_on, definitions_on}
use Rattle.core_grammar.proofs.Constants.{Each}

module _ (P : Sign → Type 0) where
  pub past_comma : (first : Bool) (d : ℕ) (gs : List Sign) → Each P (comma_before first d gs) → Each P gs
  past_comma true d gs h = h
  past_comma false d gs h = h.1

  -- behind an annotation, or what it is of
  pub past_noted : (w : Bool) (d : ℕ) (g : Sight) (inside noting : List Sign → List Sign) (r : List Sign)
      → ((x : List Sign) → Each P (inside x) → Each P x) → ((x : List Sign) → Each P (noting x) → Each P x)
      → Each P (annotated w d g inside noting r) → Each P r
  past_noted true d g inside noting r f k h = (k _ (f _ h.1).1).1
  past_noted false d g inside noting r f k h = f r h

  -- what is behind the tree in the brackets of an annotation
  abbrev pub behind : (w : Bool) (d : ℕ) (noting : List Sign → List Sign) → List Sign → List Sign
  behind true d noting r = symbol d S.AnnotationBar (noting (symbol d S.CloseParen r))
  behind false d noting r = r

  pub in_noted : (w : Bool) (d : ℕ) (g : Sight) (inside noting : List Sign → List Sign) (r : List Sign)
      → Each P (annotated w d g inside noting r) → Each P (inside (behind w d noting r))
  in_noted true d g inside noting r h = h.1
  in_noted false d g inside noting r h = h

  module _ (w : Bool) where
    mutual
      pub past : (s : Sort) (d : ℕ) (t : Tree) (r : List Sign) → Each P (on w s d t r) → Each P r
      past s d (variable p x) r h = h.1
      past s d (atom p a) r h = h.1
      past s d (number p g z) r h = h.1
      past s d (wide p n) r h = h.1
      past s d (float p) r h = h.1
      past s d (character p c) r h = h.1
      past s d (string p cs) r h = h.1
      past s d (function_name p a n) r h = h.1.1.1
      past s d (external p m f n) r h = h.1.1.1.1.1.1
      past s d (noted p t n) r h =
          past_noted w _ _ _ (λ x. on w note (suc (weight s (noted p t n) + d)) n x) r
          (λ x k. past (inner_sort s) (suc d) t x k) (λ x k. past note (suc (weight s (noted p t n) + d)) n x k) h
      past s d (alias x t) r h = past pattern _ t r (past a_variable _ x _ h).1
      past s d (list p ts) r h = (past_row true (item_sort s) _ ts _ h.1).1
      past s d (list_on p t ts u) r h =
          (past (item_sort s) _ u _ (past_row false (item_sort s) _ ts _ (past (item_sort s) _ t _ h.1)).1).1
      past s d (tuple p ts) r h = (past_row true (item_sort s) _ ts _ h.1).1
      past s d (values p ts) r h = (past_row true expression _ ts _ h.1).1
      past s d (new_map p ps) r h = (past_pairs true s _ ps _ h.1).1
      past s d (map_on p ps t) r h = (past expression _ t _ (past_pairs true s _ ps _ h.1).1).1
      past s d (binary p gs) r h = (past_segments true s _ gs _ h.1).1
      past s d (fun p xs t) r h = past expression _ t r (past_row true a_variable _ xs _ h.1.1).1.1
      past s d (let_in p xs t u) r h =
          past expression _ u r (past expression _ t _ (past_group a_variable _ xs _ h.1).1).1
      past s d (letrec p ds t) r h = past expression _ t r (past_definitions _ ds _ h.1).1
      past s d (case p t c cs) r h = (past_clauses _ cs _ (past_clause _ c _ (past expression _ t _ h.1).1)).1
      past s d (apply p t ts) r h = (past_row true expression _ ts _ (past expression _ t _ h.1).1).1
      past s d (call p m f ts) r h =
          (past_row true expression _ ts _ (past expression _ f _ (past expression _ m _ h.1).1).1).1
      past s d (primop p a ts) r h = (past_row true expression _ ts _ h.1.1.1).1
      past s d (do_then p t u) r h = past expression _ u r (past expression _ t _ h.1)
      past s d (catch p t) r h = past expression _ t r h.1
      past s d (try p t xs u ys v) r h =
          past expression _ v r (past_group a_variable _ ys _ (past expression _ u _
          (past_group a_variable _ xs _ (past expression _ t _ h.1).1).1).1).1
      past s d (receive p cs t u) r h =
          past expression _ u r (past expression _ t _ (past_clauses _ cs _ h.1).1).1

      pub past_row : (first : Bool) (s : Sort) (d : ℕ) (ts : Row) (r : List Sign) → Each P (row_on w first s d ts r)
          → Each P r
      past_row first s d none r h = h
      past_row first s d (more t ts) r h = past_row false s d ts r (past s d t _ (past_comma first d _ h))

      pub past_group : (s : Sort) (d : ℕ) (ts : Group) (r : List Sign) → Each P (group_on w s d ts r) → Each P r
      past_group s d (single t) r h = past s d t r h
      past_group s d (angled p ts) r h = (past_row true s d ts _ h.1).1

      pub past_pairs : (first : Bool) (s : Sort) (d : ℕ) (ps : Pairs) (r : List Sign)
          → Each P (pairs_on w first s d ps r) → Each P r
      past_pairs first s d no_pair r h = h
      past_pairs first s d (pair t x u ps) r h =
          past_pairs false s d ps r (past (item_sort s) d u _ (past (key_sort s) d t _ (past_comma first d _ h)).1)

      pub past_segment : (s : Sort) (d : ℕ) (g : Segment) (r : List Sign) → Each P (segment_on w s d g r) → Each P r
      past_segment s d (segment p t u n k f) r h =
          (past constant d f _ (past an_atom d k _ (past constant d n _ (past (key_sort s) d u _
          (past (value_sort s) d t _ h.1).1.1).1).1).1).1
      past_segment s d (noted_segment g n) r h =
          past_noted w _ _ _ (λ x. on w note (suc d) n x) r (λ x k. past_segment s (suc d) g x k)
          (λ x k. past note (suc d) n x k) h

      pub past_segments : (first : Bool) (s : Sort) (d : ℕ) (gs : Segments) (r : List Sign)
          → Each P (segments_on w first s d gs r)
          → Each P r
      past_segments first s d no_segment r h = h
      past_segments first s d (and_segment g gs) r h =
          past_segments false s d gs r (past_segment s d g _ (past_comma first d _ h))

      pub past_clause : (d : ℕ) (c : Clause) (r : List Sign) → Each P (clause_on w d c r) → Each P r
      past_clause d (clause ts t u) r h =
          past expression _ u r (past expression _ t _ (past_group pattern _ ts _ h).1).1
      past_clause d (noted_clause c n) r h =
          past_noted w _ _ _ (λ x. on w note (suc (suc d)) n x) r (λ x k. past_clause (suc d) c x k)
          (λ x k. past note (suc (suc d)) n x k) h

      pub past_clauses : (d : ℕ) (cs : Clauses) (r : List Sign) → Each P (clauses_on w d cs r) → Each P r
      past_clauses d no_clause r h = h
      past_clauses d (and_clause c cs) r h = past_clauses d cs r (past_clause d c _ h)

      pub past_definitions : (d : ℕ) (ds : Definitions) (r : List Sign) → Each P (definitions_on w d ds r) → Each P r
      past_definitions d no_definition r h = h
      past_definitions d (definition x t ds) r h =
          past_definitions d ds r (past a_fun _ t _ (past a_name _ x _ h).1)
