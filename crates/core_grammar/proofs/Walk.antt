-- A question about the pieces of a module that is answered at each tree by itself is answered in all its parts.
use Rattle.std.proofs.Common.{◌+◌, refl, ℕ, suc, pos, Bool, true, false, List, [], ◌∷◌, Option, Some, None, IsTrue}
use Rattle.std.specs.List.{list_all}
use Rattle.erl_base.specs.Names.{Name}
use Rattle.erl_base.specs.declared.ids.Place.{Place}
use Rattle.erl_term.specs.Term as T
use Rattle.erl_term.specs.Term.{Term}
use Rattle.core_form.specs.Core as C
use Rattle.core_form.specs.Walks.{Asked, all_in, all_exprs, all_parts, all_segments, all_defs, all_clauses, all_pattern, all_patterns, all_keys, all_segs}
use Rattle.core_form.specs.SourceTree.{is_variable_name}
use Rattle.core_grammar.specs.WrittenTree.{Tree, variable, atom, number, wide, float, character, string, function_name, external, noted, alias, list, list_on, tuple, values, new_map, map_on, binary, fun, let_in, letrec, case, apply, call, primop, do_then, catch, try, receive, Row, none, more, single, angled, Pairs, no_pair, pair, Segment, segment, noted_segment, Segments, no_segment, and_segment, Clause, clause, noted_clause, Clauses, no_clause, and_clause, Definitions, no_definition, definition}
use Rattle.core_grammar.specs.Standing.{expression, pattern, constant, note, segment_value, a_variable, a_name, a_fun, Stands, RowStands, PairsStand, SegmentStands, SegmentsStand, ClauseStands, ClausesStand, DefinitionsStand, is_code}
use Rattle.core_grammar.specs.ConstantTerms.{constant_of}
use Rattle.core_grammar.specs.Signs.{Sign, weight, on, row_on, pairs_on, segment_on, segments_on, clause_on, clauses_on, definitions_on}
use Rattle.core_grammar.specs.ModuleOf.{literal_or, known_or, atom_name, constant_term, expr_of, exprs_of, tail_items, rest_of, parts_of, segment_of, segments_of, clause_of, clauses_of, defs_of, pattern_of, patterns_of, tail_patterns, rest_pattern, keys_of, seg_of, segs_of, character_exprs, character_patterns}
use Rattle.core_grammar.proofs.Truths.{never, and_left, and_right, Holds, none_held, together}
use Rattle.core_grammar.proofs.Constants.{Each, Written, code_within}
use Rattle.core_grammar.proofs.KeysRead.{in_key}
use Rattle.core_grammar.proofs.Past.{past, past_row, past_group, past_pairs, past_segment, past_clause, past_clauses, past_definitions, past_comma, in_noted}

-- what is known of each tree by itself, whose signs have P; w: with those of annotations
pub record Locals (q : Asked Bool) (P : Sign → Type 0) (w : Bool) : Type 0 where
  pub at_literal : (p : Place) (v : Term) → Written false v → Holds (q.at_expr (C.literal p v))
  pub at_known : (p : Place) (v : Term) → Written true v → Holds (q.at_pattern (C.known p v))
  pub at_variable : (p : Place) (x : Name) → IsTrue (is_variable_name x) → Holds (q.at_expr (C.var p x))
  pub at_expr : (t : Tree) (d : ℕ) (r : List Sign) → Stands expression t → Each P (on w expression d t r)
      → Holds (q.at_expr (expr_of t))
  pub at_pattern : (t : Tree) → Stands pattern t → Holds (q.at_pattern (pattern_of t))
  pub at_value : (t : Tree) → Stands segment_value t → Holds (all_pattern q (pattern_of t))
  pub at_segment : (p : Place) (u n k f : Tree) → Stands constant n → Stands constant f
      → Holds (q.at_segment p (expr_of u) (constant_term n) (atom_name k) (constant_term f))
  pub at_clause : (p : Place) → Holds (q.at_clause p)

module _ (q : Asked Bool) (P : Sign → Type 0) (w : Bool) (l : Locals q P w) where
  -- a literal, or the form with its parts
  either : (p : Place) (o : Option Term) (e : C.Expr) → Holds (q.at_expr (literal_or p o e))
      → (Holds (q.at_expr e) → Holds (all_in q e)) → Holds (all_in q (literal_or p o e))
  either p None e h k = k h
  either p (Some v) e h k = h

  either_pattern : (p : Place) (o : Option Term) (e : C.Pattern) → Holds (q.at_pattern (known_or p o e))
      → (Holds (q.at_pattern e) → Holds (all_pattern q e)) → Holds (all_pattern q (known_or p o e))
  either_pattern p None e h k = k h
  either_pattern p (Some v) e h k = h

  in_characters : (p : Place) (cs : List ℕ) → IsTrue (list_all is_code cs) → Holds (all_exprs q (character_exprs p cs))
  in_characters p [] h = none_held
  in_characters p (c ∷ cs) h =
      together
      (l.at_literal p (T.int (pos c)) (code_within c (and_left (is_code c) (list_all is_code cs) h)))
      (in_characters p cs (and_right (is_code c) (list_all is_code cs) h))

  in_character_patterns : (p : Place) (cs : List ℕ) → IsTrue (list_all is_code cs)
      → Holds (all_patterns q (character_patterns p cs))
  in_character_patterns p [] h = none_held
  in_character_patterns p (c ∷ cs) h =
      together
      (l.at_known p (T.int (pos c)) (code_within c (and_left (is_code c) (list_all is_code cs) h)))
      (in_character_patterns p cs (and_right (is_code c) (list_all is_code cs) h))

  mutual
    pub in_pattern : (t : Tree) → Stands pattern t → Holds (all_pattern q (pattern_of t))
    in_pattern (variable p x) h = l.at_pattern (variable p x) h
    in_pattern (noted p t n) h = in_pattern t h.0
    in_pattern (alias x t) h = together (l.at_pattern (alias x t) h) (in_pattern t h.2)
    in_pattern (list p ts) h =
        either_pattern p (constant_of true (list p ts)) (C.list_like p (patterns_of ts C.no_pattern) (C.known p T.nil))
        (l.at_pattern (list p ts) h)
        (λ a. together (together a (in_patterns ts C.no_pattern h.1 none_held)) (l.at_known p T.nil refl))
    in_pattern (list_on p t ts u) h =
        either_pattern p (constant_of true (list_on p t ts u))
        (C.list_like p (C.and_pattern (pattern_of t) (patterns_of ts (tail_patterns u)))
        (rest_pattern p u (pattern_of u)))
        (l.at_pattern (list_on p t ts u) h)
        (λ a. together (together a (together (in_pattern t h.1)
        (in_patterns ts (tail_patterns u) h.2 (in_tail_patterns u h.3)))) (in_rest_pattern p u h.3 (in_pattern u h.3)))
    in_pattern (tuple p ts) h =
        either_pattern p (constant_of true (tuple p ts)) (C.tuple_like p (patterns_of ts C.no_pattern))
        (l.at_pattern (tuple p ts) h) (λ a. together a (in_patterns ts C.no_pattern h.1 none_held))
    in_pattern (new_map p ps) h = together (l.at_pattern (new_map p ps) h) (in_keys ps h.1)
    in_pattern (binary p gs) h = together (l.at_pattern (binary p gs) h) (in_segs gs h.1)
    in_pattern (atom p a) h = l.at_pattern (atom p a) h
    in_pattern (number p g z) h = l.at_pattern (number p g z) h
    in_pattern (wide p n) h = l.at_pattern (wide p n) h
    in_pattern (float p) h = l.at_pattern (float p) h
    in_pattern (character p c) h = l.at_pattern (character p c) h
    in_pattern (string p cs) h = l.at_pattern (string p cs) h
    in_pattern (external p m f n) h = l.at_pattern (external p m f n) h
    in_pattern (function_name p a n) h = never h.0
    in_pattern (values p ts) h = never h.0
    in_pattern (map_on p ps t) h = never h.0
    in_pattern (fun p xs t) h = never h.0
    in_pattern (let_in p xs t u) h = never h.0
    in_pattern (letrec p ds t) h = never h.0
    in_pattern (case p t c cs) h = never h.0
    in_pattern (apply p t ts) h = never h.0
    in_pattern (call p m f ts) h = never h.0
    in_pattern (primop p a ts) h = never h.0
    in_pattern (do_then p t u) h = never h.0
    in_pattern (catch p t) h = never h.0
    in_pattern (try p t xs u ys v) h = never h.0
    in_pattern (receive p cs t u) h = never h.0

    in_patterns : (ts : Row) (qs : C.Patterns) → RowStands pattern ts → Holds (all_patterns q qs)
        → Holds (all_patterns q (patterns_of ts qs))
    in_patterns none qs h k = k
    in_patterns (more t ts) qs h k = together (in_pattern t h.0) (in_patterns ts qs h.1 k)

    in_tail_patterns : (u : Tree) → Stands pattern u → Holds (all_patterns q (tail_patterns u))
    in_tail_patterns (noted p t n) h = in_tail_patterns t h.0
    in_tail_patterns (string p cs) h = in_character_patterns p cs h.1
    in_tail_patterns (list p ts) h = in_patterns ts C.no_pattern h.1 none_held
    in_tail_patterns (list_on p t ts u) h =
        together (in_pattern t h.1) (in_patterns ts (tail_patterns u) h.2 (in_tail_patterns u h.3))
    in_tail_patterns _ h = none_held

    in_rest_pattern : (p : Place) (u : Tree) → Stands pattern u → Holds (all_pattern q (pattern_of u))
        → Holds (all_pattern q (rest_pattern p u (pattern_of u)))
    in_rest_pattern p (noted o t n) h k = in_rest_pattern p t h.0 k
    in_rest_pattern p (string o cs) h k = l.at_known p T.nil refl
    in_rest_pattern p (list o ts) h k = l.at_known p T.nil refl
    in_rest_pattern p (list_on o t ts u) h k = in_rest_pattern p u h.3 (in_pattern u h.3)
    in_rest_pattern p _ h k = k

    in_keys : (ps : Pairs) → PairsStand pattern ps → Holds (all_keys q (keys_of ps))
    in_keys no_pair h = none_held
    in_keys (pair t x u ps) h =
        together (together (in_key q l.at_literal l.at_variable t h.0) (in_pattern u h.2)) (in_keys ps h.3)

    in_seg : (g : Segment) (gs : C.SegPatterns) → SegmentStands pattern g → Holds (all_segs q gs)
        → Holds (all_segs q (C.and_seg (seg_of g) gs))
    in_seg (segment p t u n k f) gs h j =
        together (together (together (l.at_segment p u n k f h.2 h.4) (l.at_value t h.0))
        (in_key q l.at_literal l.at_variable u h.1)) j
    in_seg (noted_segment g n) gs h j = in_seg g gs h.0 j

    in_segs : (gs : Segments) → SegmentsStand pattern gs → Holds (all_segs q (segs_of gs))
    in_segs no_segment h = none_held
    in_segs (and_segment g gs) h = in_seg g (segs_of gs) h.0 (in_segs gs h.1)

  mutual
    pub in_expr : (t : Tree) (d : ℕ) (r : List Sign) → Stands expression t → Each P (on w expression d t r)
        → Holds (all_in q (expr_of t))
    in_expr (variable p x) d r h g = l.at_expr (variable p x) d r h g
    in_expr (atom p a) d r h g = l.at_expr (atom p a) d r h g
    in_expr (number p b z) d r h g = l.at_expr (number p b z) d r h g
    in_expr (wide p n) d r h g = l.at_expr (wide p n) d r h g
    in_expr (float p) d r h g = l.at_expr (float p) d r h g
    in_expr (character p c) d r h g = l.at_expr (character p c) d r h g
    in_expr (string p cs) d r h g = l.at_expr (string p cs) d r h g
    in_expr (function_name p a n) d r h g = l.at_expr (function_name p a n) d r h g
    in_expr (external p m f n) d r h g = l.at_expr (external p m f n) d r h g
    in_expr (noted p t n) d r h g =
        in_expr t (suc d) _ h.0
        (in_noted P w _ _ (on w expression (suc d) t) (on w note (suc (weight expression (noted p t n) + d)) n) r g)
    in_expr (alias x t) d r h g = never h.0
    in_expr (list p ts) d r h g =
        either p (constant_of false (list p ts)) (C.list p (exprs_of ts C.no_expr) (C.literal p T.nil))
        (l.at_expr (list p ts) d r h g)
        (λ a. together (together a (in_row true ts _ _ C.no_expr h.1 g.1 none_held)) (l.at_literal p T.nil refl))
    in_expr (list_on p t ts u) d r h g =
        let f = past P w expression _ t _ g.1 in
        let e = past_row P w false expression _ ts _ f in
        either p (constant_of false (list_on p t ts u))
        (C.list p (C.and_expr (expr_of t) (exprs_of ts (tail_items u))) (rest_of p u (expr_of u)))
        (l.at_expr (list_on p t ts u) d r h g)
        (λ a. together (together a (together (in_expr t _ _ h.1 g.1)
        (in_row false ts _ _ (tail_items u) h.2 f (in_tail u _ _ h.3 e.1))))
        (in_rest p u _ _ h.3 e.1 (in_expr u _ _ h.3 e.1)))
    in_expr (tuple p ts) d r h g =
        either p (constant_of false (tuple p ts)) (C.tuple p (exprs_of ts C.no_expr)) (l.at_expr (tuple p ts) d r h g)
        (λ a. together a (in_row true ts _ _ C.no_expr h.1 g.1 none_held))
    in_expr (values p ts) d r h g = together (l.at_expr (values p ts) d r h g)
        (in_row true ts _ _ C.no_expr h.1 g.1 none_held)
    in_expr (new_map p ps) d r h g =
        either p (constant_of false (new_map p ps)) (C.new_map p (parts_of ps)) (l.at_expr (new_map p ps) d r h g)
        (λ a. together a (in_parts true ps _ _ h.1 g.1))
    in_expr (map_on p ps t) d r h g =
        together (together (l.at_expr (map_on p ps t) d r h g) (in_parts true ps _ _ h.1 g.1))
        (in_expr t _ _ h.2 (past_pairs P w true expression _ ps _ g.1).1)
    in_expr (binary p gs) d r h g =
        either p (constant_of false (binary p gs)) (C.binary p (segments_of gs)) (l.at_expr (binary p gs) d r h g)
        (λ a. together a (in_segments true gs _ _ h.1 g.1))
    in_expr (fun p xs t) d r h g =
        together (l.at_expr (fun p xs t) d r h g) (in_expr t _ _ h.2 (past_row P w true a_variable _ xs _ g.1.1).1.1)
    in_expr (let_in p xs t u) d r h g =
        let f = past_group P w a_variable _ xs _ g.1 in
        together (together (l.at_expr (let_in p xs t u) d r h g) (in_expr t _ _ h.2 f.1))
        (in_expr u _ _ h.3 (past P w expression _ t _ f.1).1)
    in_expr (letrec p ds t) d r h g =
        together (together (l.at_expr (letrec p ds t) d r h g) (in_defs ds _ _ h.1 g.1))
        (in_expr t _ _ h.2 (past_definitions P w _ ds _ g.1).1)
    in_expr (case p t c cs) d r h g =
        let f = past P w expression _ t _ g.1 in
        together (together (l.at_expr (case p t c cs) d r h g) (in_expr t _ _ h.1 g.1))
        (in_clause c _ _ (clauses_of cs) h.2 f.1 (in_clauses cs _ _ h.3 (past_clause P w _ c _ f.1)))
    in_expr (apply p t ts) d r h g =
        together (together (l.at_expr (apply p t ts) d r h g) (in_expr t _ _ h.1 g.1))
        (in_row true ts _ _ C.no_expr h.2 (past P w expression _ t _ g.1).1 none_held)
    in_expr (call p m n ts) d r h g =
        let f = past P w expression _ m _ g.1 in
        together (together (together (l.at_expr (call p m n ts) d r h g) (in_expr m _ _ h.1 g.1))
        (in_expr n _ _ h.2 f.1)) (in_row true ts _ _ C.no_expr h.3 (past P w expression _ n _ f.1).1 none_held)
    in_expr (primop p a ts) d r h g =
        together (l.at_expr (primop p a ts) d r h g) (in_row true ts _ _ C.no_expr h.1 g.1.1.1 none_held)
    in_expr (do_then p t u) d r h g =
        together (together (l.at_expr (do_then p t u) d r h g) (in_expr t _ _ h.1 g.1))
        (in_expr u _ _ h.2 (past P w expression _ t _ g.1))
    in_expr (catch p t) d r h g = together (l.at_expr (catch p t) d r h g) (in_expr t _ _ h.1 g.1)
    in_expr (try p t xs u ys v) d r h g =
        let f = past_group P w a_variable _ xs _ (past P w expression _ t _ g.1).1 in
        let e = past_group P w a_variable _ ys _ (past P w expression _ u _ f.1).1 in
        together (together (together (l.at_expr (try p t xs u ys v) d r h g) (in_expr t _ _ h.1 g.1))
        (in_expr u _ _ h.3 f.1)) (in_expr v _ _ h.5 e.1)
    in_expr (receive p cs t u) d r h g =
        let f = past_clauses P w _ cs _ g.1 in
        together (together (together (l.at_expr (receive p cs t u) d r h g) (in_clauses cs _ _ h.1 g.1))
        (in_expr t _ _ h.2 f.1)) (in_expr u _ _ h.3 (past P w expression _ t _ f.1).1)

    in_row : (first : Bool) (ts : Row) (d : ℕ) (r : List Sign) (es : C.Exprs) → RowStands expression ts
        → Each P (row_on w first expression d ts r) → Holds (all_exprs q es) → Holds (all_exprs q (exprs_of ts es))
    in_row first none d r es h g k = k
    in_row first (more t ts) d r es h g k =
        let f = past_comma P first d _ g in
        together (in_expr t d _ h.0 f) (in_row false ts d r es h.1 (past P w expression d t _ f) k)

    in_tail : (u : Tree) (d : ℕ) (r : List Sign) → Stands expression u → Each P (on w expression d u r)
        → Holds (all_exprs q (tail_items u))
    in_tail (noted p t n) d r h g =
        in_tail t (suc d) _ h.0
        (in_noted P w _ _ (on w expression (suc d) t) (on w note (suc (weight expression (noted p t n) + d)) n) r g)
    in_tail (string p cs) d r h g = in_characters p cs h.1
    in_tail (list p ts) d r h g = in_row true ts _ _ C.no_expr h.1 g.1 none_held
    in_tail (list_on p t ts u) d r h g =
        let f = past P w expression _ t _ g.1 in
        together (in_expr t _ _ h.1 g.1) (in_row false ts _ _ (tail_items u) h.2 f
        (in_tail u _ _ h.3 (past_row P w false expression _ ts _ f).1))
    in_tail _ d r h g = none_held

    in_rest : (p : Place) (u : Tree) (d : ℕ) (r : List Sign) → Stands expression u → Each P (on w expression d u r)
        → Holds (all_in q (expr_of u)) → Holds (all_in q (rest_of p u (expr_of u)))
    in_rest p (noted o t n) d r h g k =
        in_rest p t (suc d) _ h.0
        (in_noted P w _ _ (on w expression (suc d) t)
        (on w note (suc (weight expression (noted o t n) + d)) n) r g) k
    in_rest p (string o cs) d r h g k = l.at_literal p T.nil refl
    in_rest p (list o ts) d r h g k = l.at_literal p T.nil refl
    in_rest p (list_on o t ts u) d r h g k =
        let f = past_row P w false expression _ ts _ (past P w expression _ t _ g.1) in
        in_rest p u _ _ h.3 f.1 (in_expr u _ _ h.3 f.1)
    in_rest p _ d r h g k = k

    in_parts : (first : Bool) (ps : Pairs) (d : ℕ) (r : List Sign) → PairsStand expression ps
        → Each P (pairs_on w first expression d ps r) → Holds (all_parts q (parts_of ps))
    in_parts first no_pair d r h g = none_held
    in_parts first (pair t x u ps) d r h g =
        let f = past_comma P first d _ g in
        let e = past P w expression d t _ f in
        together (together (in_expr t d _ h.0 f) (in_expr u d _ h.2 e.1))
        (in_parts false ps d r h.3 (past P w expression d u _ e.1))

    in_segment : (g : Segment) (d : ℕ) (r : List Sign) (gs : C.Segments) → SegmentStands expression g
        → Each P (segment_on w expression d g r) → Holds (all_segments q gs)
        → Holds (all_segments q (C.and_segment (segment_of g) gs))
    in_segment (segment p t u n k f) d r gs h g j =
        together (together (together (l.at_segment p u n k f h.2 h.4) (in_expr t d _ h.0 g.1))
        (in_expr u d _ h.1 (past P w expression d t _ g.1).1.1)) j
    in_segment (noted_segment s n) d r gs h g j =
        in_segment s (suc d) _ gs h.0 (in_noted P w _ _ (segment_on w expression (suc d) s) (on w note (suc d) n) r g) j

    in_segments : (first : Bool) (gs : Segments) (d : ℕ) (r : List Sign) → SegmentsStand expression gs
        → Each P (segments_on w first expression d gs r) → Holds (all_segments q (segments_of gs))
    in_segments first no_segment d r h g = none_held
    in_segments first (and_segment s gs) d r h g =
        let f = past_comma P first d _ g in
        in_segment s d _ (segments_of gs) h.0 f (in_segments false gs d r h.1 (past_segment P w expression d s _ f))

    in_clause : (c : Clause) (d : ℕ) (r : List Sign) (cs : C.Clauses) → ClauseStands c → Each P (clause_on w d c r)
        → Holds (all_clauses q cs) → Holds (all_clauses q (C.and_clause (clause_of c) cs))
    in_clause (clause (single s) t u) d r cs h g j =
        let f = past P w pattern _ s _ g in
        together (together (together (together (l.at_clause _) (together (in_pattern s h.0) none_held))
        (in_expr t _ _ h.1 f.1)) (in_expr u _ _ h.2 (past P w expression _ t _ f.1).1)) j
    in_clause (clause (angled p ts) t u) d r cs h g j =
        let f = past_row P w true pattern _ ts _ g.1 in
        together (together (together (together (l.at_clause p) (in_patterns ts C.no_pattern h.0 none_held))
        (in_expr t _ _ h.1 f.1.1)) (in_expr u _ _ h.2 (past P w expression _ t _ f.1.1).1)) j
    in_clause (noted_clause c n) d r cs h g j =
        in_clause c (suc d) _ cs h.0 (in_noted P w _ _ (clause_on w (suc d) c) (on w note (suc (suc d)) n) r g) j

    in_clauses : (cs : Clauses) (d : ℕ) (r : List Sign) → ClausesStand cs → Each P (clauses_on w d cs r)
        → Holds (all_clauses q (clauses_of cs))
    in_clauses no_clause d r h g = none_held
    in_clauses (and_clause c cs) d r h g =
        in_clause c d _ (clauses_of cs) h.0 g (in_clauses cs d r h.1 (past_clause P w d c _ g))

    pub in_defs : (ds : Definitions) (d : ℕ) (r : List Sign) → DefinitionsStand ds → Each P (definitions_on w d ds r)
        → Holds (all_defs q (defs_of ds))
    in_defs no_definition d r h g = none_held
    in_defs (definition x t ds) d r h g =
        let f = past P w a_name _ x _ g in
        together (in_fun t _ _ h.1 f.1) (in_defs ds d r h.2 (past P w a_fun _ t _ f.1))

    -- a definition's right side stands as an expression too
    in_fun : (t : Tree) (d : ℕ) (r : List Sign) → Stands a_fun t → Each P (on w a_fun d t r)
        → Holds (all_in q (expr_of t))
    in_fun (fun p xs t) d r h g =
        together (l.at_expr (fun p xs t) d r (refl, h.1, h.2) g)
        (in_expr t _ _ h.2 (past_row P w true a_variable _ xs _ g.1.1).1.1)
    in_fun (noted p t n) d r h g =
        in_fun t (suc d) _ h.0
        (in_noted P w _ _ (on w a_fun (suc d) t) (on w note (suc (weight a_fun (noted p t n) + d)) n) r g)
    in_fun (variable p x) d r h g = never h.0
    in_fun (atom p a) d r h g = never h
    in_fun (number p b z) d r h g = never h.0
    in_fun (wide p n) d r h g = never h
    in_fun (float p) d r h g = never h
    in_fun (character p c) d r h g = never h.0
    in_fun (string p cs) d r h g = never h.0
    in_fun (function_name p a n) d r h g = never h.0
    in_fun (external p m f n) d r h g = never h.0
    in_fun (alias x t) d r h g = never h.0
    in_fun (list p ts) d r h g = never h.0
    in_fun (list_on p t ts u) d r h g = never h.0
    in_fun (tuple p ts) d r h g = never h.0
    in_fun (values p ts) d r h g = never h.0
    in_fun (new_map p ps) d r h g = never h.0
    in_fun (map_on p ps t) d r h g = never h.0
    in_fun (binary p gs) d r h g = never h.0
    in_fun (let_in p xs t u) d r h g = never h.0
    in_fun (letrec p ds t) d r h g = never h.0
    in_fun (case p t c cs) d r h g = never h.0
    in_fun (apply p t ts) d r h g = never h.0
    in_fun (call p m f ts) d r h g = never h.0
    in_fun (primop p a ts) d r h g = never h.0
    in_fun (do_then p t u) d r h g = never h.0
    in_fun (catch p t) d r h g = never h.0
    in_fun (try p t xs u ys v) d r h g = never h.0
    in_fun (receive p cs t u) d r h g = never h.0
