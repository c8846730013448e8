-- All that is written is read as what it stands for.
use Rattle.std.proofs.Common.{◌≡◌, refl, sym, ap, ap₂, ◌∙◌, subst, ℕ, suc, List, ◌∷◌, true, false, Some}
use Rattle.erl_base.specs.declared.ids.Place.{Place}
use Rattle.core_lex.specs.declared.token.TokenKind.TheVariants.{Word, Symbol, Variable, Atom, Number, Wide, Float, Character, Letters}
use Rattle.core_lex.specs.declared.token.Word.TheVariants as W
use Rattle.core_lex.specs.declared.token.Symbol.TheVariants as S
use Rattle.core_form.specs.Core as C
use Rattle.core_form.specs.View as Rows
use Rattle.core_grammar.specs.WrittenTree.{Tree, variable, atom, number, wide, float, character, string, function_name, external, noted, alias, list, list_on, tuple, values, new_map, map_on, binary, fun, let_in, letrec, case, apply, call, primop, do_then, catch, try, receive, Row, none, more, Group, single, angled, Pairs, no_pair, pair, Segment, segment, noted_segment, Segments, no_segment, and_segment, Clause, clause, noted_clause, Clauses, no_clause, and_clause, Definitions, no_definition, definition, first_place}
use Rattle.core_grammar.specs.Standing.{Sort, expression, pattern, constant, note, key, a_variable, a_name, a_fun, inner_sort, item_sort, key_sort, value_sort, Stands, RowStands, GroupStands, PairsStand, SegmentStands, SegmentsStand, ClauseStands, ClausesStand, DefinitionsStand}
use Rattle.core_grammar.specs.Signs.{Sign, symbol, group_count, on, row_on, group_on, pairs_on, segment_on, segments_on, clause_on, clauses_on, definitions_on}
use Rattle.core_grammar.specs.ConstantTerms.{bits_of, bits_of_segments}
use Rattle.core_grammar.specs.ModuleOf as M
use Rattle.core_grammar.specs.ModuleOf.{inner_place, variable_name, atom_name, name_key, binder_of, binders_of, group_binders, exports_of, expr_of, exprs_of, parts_of, segments_of, clause_of, clauses_of, defs_of, pattern_of, patterns_of, keys_of, segs_of}
use Rattle.core_actions.specs.Read.{read_expr, read_pattern}
use Rattle.core_actions.specs.ReadLaws.{ReadsExpressions, ReadsPatterns, ReadsBinaries}
use Rattle.core_build.specs.declared.item.Item.TheVariants as I
use Rattle.core_build.specs.declared.item.Row.TheVariants as R
use Rattle.core_build.specs.Values.{expr, pattern as pattern_value, binders, names, segment as segment_value, seg, clause as clause_value, exprs, patterns, pairs, keys, segments, segs, clauses, defs}
use Rattle.core_build.specs.Making.{node, pattern_node}
use Rattle.core_build.proofs.Fronts.{never, any_kind, no_equals, quiet, front_so}
use Rattle.core_build.proofs.Leads.{at, seen, made, Reads, ReadsRow, Expression, Pattern, Gathers, Skipped, annotated_reads}
use Rattle.core_build.proofs.TakenForms.{stands_taken, is_expression, no_alias_there, inner_same, item_expression, key_expression, value_expression}
use Rattle.core_build.proofs.Begun.{tree_begins, segment_begins, clause_begins, begins_on}
use Rattle.core_build.proofs.RowParts as Part
use Rattle.core_build.proofs.RowKinds as Kind
use Rattle.core_build.proofs.RowKinds.{Adds}
use Rattle.core_build.proofs.ExprForms as E
use Rattle.core_build.proofs.PatternForms as P
use Rattle.core_build.proofs.NameForms as N
use Rattle.core_build.proofs.ClauseHeads.{PatternRead, also_heads, noted_both, single_head}
use Rattle.core_build.proofs.SegmentRows as Bits

-- where anything may stand behind
widened : {f : List Sign → List Sign} {i : _} {v : _} → Reads any_kind f i v → Reads quiet f i v
widened F = record { on = λ r is vs x h k. F.on r is vs x (front_so quiet any_kind (λ k h. refl) _ h) k }

inner_expression : (s : Sort) → is_expression s ≡ true → is_expression (inner_sort s) ≡ true
inner_expression s e = ap is_expression (inner_same s e) ∙ e

-- Notes are skipped, and what is read gives what is written.
module _ (skip : (d : ℕ) (n : Tree) → Skipped (on true note d n))
    (e_laws : ReadsExpressions) (p_laws : ReadsPatterns) (b_laws : ReadsBinaries) where
  expr_kept : {f : List Sign → List Sign} (t : Tree) → Reads quiet f I.Expr (expr (read_expr t))
      → Expression f (expr_of t)
  expr_kept t F = record { kept = read_expr t; reads = F; is = e_laws.closed_read t }

  pattern_kept : {f : List Sign → List Sign} (t : Tree) {p : Place} → PatternRead f p (read_pattern t)
      → Pattern f (pattern_of t)
  pattern_kept t F = record { kept = read_pattern t; reads = F.reads; is = p_laws.closed_read t }

  alone_head : {f : List Sign → List Sign} (t : Tree) {p : Place} → PatternRead f p (read_pattern t)
      → P.Head f p (C.and_pattern (pattern_of t) C.no_pattern)
  alone_head t F = single_head F (p_laws.closed_read t)

  -- Variables, and names of functions.

  binders_rest : (d : ℕ) (xs : Row) → RowStands a_variable xs
      → Adds Kind.binders_kind (row_on true false a_variable d xs) (I.More R.Binders) (binders_of xs)
  binders_rest d none h = Kind.adds_none Kind.binders_kind
  binders_rest d (more x xs) h =
      Kind.adds_one Kind.binders_kind d (λ bs. Part.binder_part bs (N.variable_read skip d x h.0))
      (binders_rest d xs h.1)

  binders_row : (d : ℕ) (xs : Row) → RowStands a_variable xs
      → Gathers R.Binders binders (λ bs. bs) (row_on true true a_variable d xs) (binders_of xs)
  binders_row d none h = Kind.gathers_none Kind.binders_kind
  binders_row d (more x xs) h =
      Kind.gathers_some Kind.binders_kind (I.More R.Binders) (tree_begins a_variable d x)
      (λ bs. Part.binder_part bs (N.variable_read skip d x h.0)) (binders_rest d xs h.1)

  binders_read : (d : ℕ) (xs : Row) → RowStands a_variable xs
      → ReadsRow (row_on true true a_variable d xs) R.Binders (binders (binders_of xs))
  binders_read d xs h =
      let F = binders_row d xs h in
      subst (λ bs. ReadsRow (row_on true true a_variable d xs) R.Binders (binders bs)) F.is F.reads

  group_read : (d : ℕ) (xs : Group) → GroupStands a_variable xs
      → Reads any_kind (group_on true a_variable d xs) I.Group (binders (group_binders xs))
  group_read d (single (variable p x)) h = record { on = λ r is vs y e k. at (made any_kind e refl k) }
  group_read d (single (noted p t n)) h = record {
    on = λ r is vs y e k.
        at (annotated_reads any_kind _ refl (N.variable_read skip _ t h.0) (skip _ n) r _ _ _
        (seen λ q. made any_kind e refl k));
  }
  group_read d (single t) h = never (stands_taken a_variable t h)
  group_read d (angled p xs) h = record {
    on = λ r is vs y e k. at ((binders_read d xs h).on _ _ _ _ refl (seen λ q. k));
  }

  names_rest : (d : ℕ) (xs : Row) → RowStands a_name xs
      → Adds Kind.names_kind (row_on true false a_name d xs) (I.More R.Names) (exports_of xs)
  names_rest d none h = Kind.adds_none Kind.names_kind
  names_rest d (more x xs) h =
      Kind.adds_one Kind.names_kind d (λ ns. Part.name_part ns (N.name_read skip d x h.0)) (names_rest d xs h.1)

  pub names_row : (d : ℕ) (xs : Row) → RowStands a_name xs
      → Gathers R.Names names (λ ns. ns) (row_on true true a_name d xs) (exports_of xs)
  names_row d none h = Kind.gathers_none Kind.names_kind
  names_row d (more x xs) h =
      Kind.gathers_some Kind.names_kind (I.More R.Names) (tree_begins a_name d x)
      (λ ns. Part.name_part ns (N.name_read skip d x h.0)) (names_rest d xs h.1)

  alias_reads : (d : ℕ) (x t : Tree) {g : List Sign → List Sign} → Stands a_variable x → {p : Place}
      → PatternRead g p (read_pattern t)
      → PatternRead (λ r. on true a_variable d x (symbol d S.Equals (g r))) (first_place x)
      (read_pattern (alias x t))
  alias_reads d x t h F = record {
    reads = record {
      on = λ r is vs y e k.
          N.variable_first skip d x h _ is vs y (seen λ q. F.reads.on r _ _ _ e (made no_equals e
          (ap (λ q. Some (pattern_node (C.alias (inner_place x) (variable_name x) q) ∷ vs)) (p_laws.closed_read t)) k));
    };
    heads = λ r is vs y e k.
        N.variable_of_clause skip d x h _ is vs y (seen λ q. F.reads.on r _ _ _ e (made no_equals e
        (ap (λ q. Some (pattern_node (C.alias (inner_place x) (variable_name x) q) ∷ vs)) (p_laws.closed_read t)) k));
  }

  mutual
    -- what is read as an expression
    pub tree_read : (s : Sort) → is_expression s ≡ true → (d : ℕ) (t : Tree) → Stands s t
        → Reads quiet (on true s d t) I.Expr (expr (read_expr t))
    tree_read s e d (variable p x) h = record { on = λ r is vs y b k. at k }
    tree_read s e d (atom p a) h = E.atom_read _ p a
    tree_read s e d (number p g z) h = record { on = λ r is vs y b k. at k }
    tree_read s e d (wide p n) h = record { on = λ r is vs y b k. at k }
    tree_read s e d (float p) h = record { on = λ r is vs y b k. at k }
    tree_read s e d (character p c) h = record { on = λ r is vs y b k. at k }
    tree_read s e d (string p cs) h = record { on = λ r is vs y b k. at k }
    tree_read s e d (function_name p a n) h = widened (E.function_name_read _ p a n h.1)
    tree_read s e d (external p m f n) h = widened (E.external_read _ p m f n h.1)
    tree_read s e d (noted p t n) h =
        widened (E.noted_read _ d p (tree_read (inner_sort s) (inner_expression s e) (suc d) t h.0) (skip _ n))
    tree_read s e d (alias x t) h = no_alias_there s e h.0
    tree_read s e d (list p ts) h = E.list_read _ p (exprs_row (item_sort s) (item_expression s e) (suc d) ts h.1)
    tree_read s e d (list_on p t ts u) h =
        subst (λ v. Reads quiet (on true s d (list_on p t ts u)) I.Expr (expr v)) (sym (e_laws.lists p t ts u))
        (E.list_on_read _ p
        (Kind.gathers_some Kind.exprs_kind (I.More R.Exprs) (tree_begins (item_sort s) (suc d) t)
        (λ es. Part.expr_part es (expr_kept t (tree_read (item_sort s) (item_expression s e) (suc d) t h.1)))
        (exprs_rest (item_sort s) (item_expression s e) (suc d) ts h.2))
        (tree_read (item_sort s) (item_expression s e) (suc d) u h.3))
    tree_read s e d (tuple p ts) h =
        subst (λ v. Reads quiet (on true s d (tuple p ts)) I.Expr (node v)) (e_laws.tuples p ts)
        (E.tuple_read _ p (exprs_row (item_sort s) (item_expression s e) (suc d) ts h.1))
    tree_read s e d (values p ts) h = E.values_read _ p (exprs_row expression refl (suc d) ts h.1)
    tree_read s e d (new_map p ps) h =
        subst (λ v. Reads quiet (on true s d (new_map p ps)) I.Expr (node v)) (e_laws.maps p ps)
        (E.map_read _ p (pairs_row s e (suc d) ps h.1))
    tree_read s e d (map_on p ps t) h =
        E.map_on_read _ p (pairs_row s e (suc d) ps h.1) (expr_kept t (tree_read expression refl (suc d) t h.2))
    tree_read s e d (binary p gs) h =
        subst (λ v. Reads quiet (on true s d (binary p gs)) I.Expr (node v)) (b_laws.binaries p gs)
        (E.binary_read _ p (segments_row s e (suc d) gs h.1))
    tree_read s e d (fun p xs t) h =
        E.fun_read _ p (binders_read (suc d) xs h.1) (expr_kept t (tree_read expression refl (suc d) t h.2))
    tree_read s e d (let_in p xs t u) h =
        E.let_read _ p (group_read (suc d) xs h.1) (expr_kept t (tree_read expression refl (suc d) t h.2))
        (expr_kept u (tree_read expression refl (suc d) u h.3))
    tree_read s e d (letrec p ds t) h =
        E.letrec_read _ p (defs_row (suc d) ds h.1) (expr_kept t (tree_read expression refl (suc d) t h.2))
    tree_read s e d (case p t c cs) h =
        E.case_read _ p (expr_kept t (tree_read expression refl (suc d) t h.1))
        (Kind.gathers_some Kind.clauses_kind (I.Row R.Clauses) (clause_begins (suc d) c)
        (λ xs. Part.clause_part xs (clause_read (suc d) c h.2)) (clauses_rest (suc d) cs h.3))
    tree_read s e d (apply p t ts) h =
        E.apply_read _ p (expr_kept t (tree_read expression refl (suc d) t h.1))
        (exprs_row expression refl (suc d) ts h.2)
    tree_read s e d (call p m f ts) h =
        E.call_read _ p (expr_kept m (tree_read expression refl (suc d) m h.1))
        (expr_kept f (tree_read expression refl (suc d) f h.2)) (exprs_row expression refl (suc d) ts h.3)
    tree_read s e d (primop p a ts) h = E.primop_read _ p a (exprs_row expression refl (suc d) ts h.1)
    tree_read s e d (do_then p t u) h =
        E.do_read _ p (expr_kept t (tree_read expression refl (suc d) t h.1))
        (expr_kept u (tree_read expression refl (suc d) u h.2)) (tree_begins expression (suc d) u)
    tree_read s e d (catch p t) h = E.catch_read _ p (expr_kept t (tree_read expression refl (suc d) t h.1))
    tree_read s e d (try p t xs u ys v) h =
        E.try_read _ (group_count ys) p (expr_kept t (tree_read expression refl (suc d) t h.1))
        (group_read (suc d) xs h.2)
        (expr_kept u (tree_read expression refl (suc d) u h.3)) (group_read (suc d) ys h.4)
        (expr_kept v (tree_read expression refl (suc d) v h.5))
    tree_read s e d (receive p cs t u) h =
        E.receive_read _ p (clauses_row (suc d) cs h.1) (expr_kept t (tree_read expression refl (suc d) t h.2))
        (expr_kept u (tree_read expression refl (suc d) u h.3))

    exprs_rest : (s : Sort) → is_expression s ≡ true → (d : ℕ) (ts : Row) → RowStands s ts
        → Adds Kind.exprs_kind (row_on true false s d ts) (I.More R.Exprs) (exprs_of ts C.no_expr)
    exprs_rest s e d none h = Kind.adds_none Kind.exprs_kind
    exprs_rest s e d (more t ts) h =
        Kind.adds_one Kind.exprs_kind d (λ es. Part.expr_part es (expr_kept t (tree_read s e d t h.0)))
        (exprs_rest s e d ts h.1)

    exprs_row : (s : Sort) → is_expression s ≡ true → (d : ℕ) (ts : Row) → RowStands s ts
        → Gathers R.Exprs exprs Rows.exprs (row_on true true s d ts) (exprs_of ts C.no_expr)
    exprs_row s e d none h = Kind.gathers_none Kind.exprs_kind
    exprs_row s e d (more t ts) h =
        Kind.gathers_some Kind.exprs_kind (I.More R.Exprs) (tree_begins s d t)
        (λ es. Part.expr_part es (expr_kept t (tree_read s e d t h.0))) (exprs_rest s e d ts h.1)

    pairs_rest : (s : Sort) → is_expression s ≡ true → (d : ℕ) (ps : Pairs) → PairsStand s ps
        → Adds Kind.pairs_kind (pairs_on true false s d ps) (I.More R.Pairs) (parts_of ps)
    pairs_rest s e d no_pair h = Kind.adds_none Kind.pairs_kind
    pairs_rest s e d (pair t x u ps) h =
        Kind.adds_one Kind.pairs_kind d
        (λ qs. Part.pair_part d x qs (expr_kept t (tree_read (key_sort s) (key_expression s) d t h.0))
        (expr_kept u (tree_read (item_sort s) (item_expression s e) d u h.2)))
        (pairs_rest s e d ps h.3)

    pairs_row : (s : Sort) → is_expression s ≡ true → (d : ℕ) (ps : Pairs) → PairsStand s ps
        → Gathers R.Pairs pairs Rows.parts (pairs_on true true s d ps) (parts_of ps)
    pairs_row s e d no_pair h = Kind.gathers_none Kind.pairs_kind
    pairs_row s e d (pair t x u ps) h =
        Kind.gathers_some Kind.pairs_kind (I.More R.Pairs)
        (begins_on (tree_begins (key_sort s) d t))
        (λ qs. Part.pair_part d x qs (expr_kept t (tree_read (key_sort s) (key_expression s) d t h.0))
        (expr_kept u (tree_read (item_sort s) (item_expression s e) d u h.2)))
        (pairs_rest s e d ps h.3)

    segment_read : (s : Sort) → is_expression s ≡ true → (d : ℕ) (g : Segment) → SegmentStands s g
        → Reads any_kind (segment_on true s d g) I.Segment (segment_value (M.segment_of g) (bits_of false g))
    segment_read s e d (segment p t u n k f) h =
        subst (λ v. Reads any_kind (segment_on true s d (segment p t u n k f)) I.Segment v)
        (ap₂ segment_value (b_laws.segments p t u n k f) (b_laws.bits p t u n k f))
        (P.segment_read d p (inner_place k) (tree_read (value_sort s) (value_expression s e) d t h.0)
        (tree_read (key_sort s) (key_expression s) d u h.1) (tree_read constant refl d n h.2)
        (N.atom_read skip d k h.3) (tree_read constant refl d f h.4))
    segment_read s e d (noted_segment g n) h =
        P.noted_segment_read _ (segment_read s e (suc d) g h.0) (skip _ n)

    segments_rest : (s : Sort) → is_expression s ≡ true → (d : ℕ) (gs : Segments) → SegmentsStand s gs
        → Bits.AddsBits (segments_on true false s d gs) (segments_of gs) (bits_of_segments gs)
    segments_rest s e d no_segment h = Bits.bits_none
    segments_rest s e d (and_segment g gs) h =
        Bits.bits_one b_laws.together d (segment_read s e d g h.0) (segments_rest s e d gs h.1)

    segments_row : (s : Sort) → is_expression s ≡ true → (d : ℕ) (gs : Segments) → SegmentsStand s gs
        → Gathers R.Segments (λ xs. segments xs (bits_of_segments gs)) Rows.segments (segments_on true true s d gs)
        (segments_of gs)
    segments_row s e d no_segment h = Bits.bits_of_none
    segments_row s e d (and_segment g gs) h =
        Bits.bits_of_some b_laws.together (segment_begins s d g) (segment_read s e d g h.0)
        (segments_rest s e d gs h.1)

    -- what is read as a pattern
    pub pattern_read : (d : ℕ) (t : Tree) → Stands pattern t
        → PatternRead (on true pattern d t) (first_place t) (read_pattern t)
    pattern_read d (variable p x) h = also_heads _ p (Variable x) refl (P.any_read _ p x)
    pattern_read d (atom p a) h = also_heads _ p (Atom a) refl (record { on = λ r is vs y b k. at k })
    pattern_read d (number p g z) h = also_heads _ p (Number g z) refl (record { on = λ r is vs y b k. at k })
    pattern_read d (wide p n) h = also_heads _ p (Wide n) refl (record { on = λ r is vs y b k. at k })
    pattern_read d (float p) h = also_heads _ p Float refl (record { on = λ r is vs y b k. at k })
    pattern_read d (character p c) h = also_heads _ p (Character c) refl (record { on = λ r is vs y b k. at k })
    pattern_read d (string p cs) h = also_heads _ p (Letters cs) refl (record { on = λ r is vs y b k. at k })
    pattern_read d (function_name p a n) h = never h.0
    pattern_read d (external p m f n) h = also_heads _ p (Word W.Fun) refl (P.external_known _ p m f n h.1)
    pattern_read d (noted p t n) h = noted_both _ p (pattern_read (suc d) t h.0) (skip _ n)
    pattern_read d (alias x t) h = alias_reads _ x t h.1 (pattern_read (suc d) t h.2)
    pattern_read d (list p ts) h =
        also_heads _ p (Symbol S.OpenBracket) refl (P.list_pattern _ p (patterns_row (suc d) ts h.1))
    pattern_read d (list_on p t ts u) h =
        let G = pattern_read (suc d) u h.3 in
        also_heads _ p (Symbol S.OpenBracket) refl
        (subst (λ v. Reads no_equals (on true pattern d (list_on p t ts u)) I.Pattern (pattern_value v))
        (sym (p_laws.lists p t ts u))
        (P.list_on_pattern _ p
        (Kind.gathers_some Kind.patterns_kind (I.More R.Patterns) (tree_begins pattern (suc d) t)
        (λ qs. Part.pattern_part qs (pattern_kept t (pattern_read (suc d) t h.1)))
        (patterns_rest (suc d) ts h.2)) G.reads))
    pattern_read d (tuple p ts) h =
        also_heads _ p (Symbol S.OpenBrace) refl
        (subst (λ v. Reads no_equals (on true pattern d (tuple p ts)) I.Pattern (pattern_node v)) (p_laws.tuples p ts)
        (P.tuple_pattern _ p (patterns_row (suc d) ts h.1)))
    pattern_read d (new_map p ps) h =
        also_heads _ p (Symbol S.OpenMap) refl (P.map_pattern _ p (keys_row (suc d) ps h.1))
    pattern_read d (binary p gs) h =
        also_heads _ p (Symbol S.OpenBinary) refl (P.binary_pattern _ p (segs_row (suc d) gs h.1))
    pattern_read d t h = never (stands_taken pattern t h)

    patterns_rest : (d : ℕ) (ts : Row) → RowStands pattern ts
        → Adds Kind.patterns_kind (row_on true false pattern d ts) (I.More R.Patterns) (patterns_of ts C.no_pattern)
    patterns_rest d none h = Kind.adds_none Kind.patterns_kind
    patterns_rest d (more t ts) h =
        Kind.adds_one Kind.patterns_kind d (λ qs. Part.pattern_part qs (pattern_kept t (pattern_read d t h.0)))
        (patterns_rest d ts h.1)

    patterns_row : (d : ℕ) (ts : Row) → RowStands pattern ts
        → Gathers R.Patterns patterns Rows.patterns (row_on true true pattern d ts) (patterns_of ts C.no_pattern)
    patterns_row d none h = Kind.gathers_none Kind.patterns_kind
    patterns_row d (more t ts) h =
        Kind.gathers_some Kind.patterns_kind (I.More R.Patterns) (tree_begins pattern d t)
        (λ qs. Part.pattern_part qs (pattern_kept t (pattern_read d t h.0))) (patterns_rest d ts h.1)

    keys_rest : (d : ℕ) (ps : Pairs) → PairsStand pattern ps
        → Adds Kind.keys_kind (pairs_on true false pattern d ps) (I.More R.Keys) (keys_of ps)
    keys_rest d no_pair h = Kind.adds_none Kind.keys_kind
    keys_rest d (pair t x u ps) h =
        Kind.adds_one Kind.keys_kind d
        (λ ks. Part.key_part d x ks (expr_kept t (tree_read key refl d t h.0))
        (pattern_kept u (pattern_read d u h.2)))
        (keys_rest d ps h.3)

    keys_row : (d : ℕ) (ps : Pairs) → PairsStand pattern ps
        → Gathers R.Keys keys Rows.keys (pairs_on true true pattern d ps) (keys_of ps)
    keys_row d no_pair h = Kind.gathers_none Kind.keys_kind
    keys_row d (pair t x u ps) h =
        Kind.gathers_some Kind.keys_kind (I.More R.Keys) (begins_on (tree_begins key d t))
        (λ ks. Part.key_part d x ks (expr_kept t (tree_read key refl d t h.0))
        (pattern_kept u (pattern_read d u h.2)))
        (keys_rest d ps h.3)

    seg_read : (d : ℕ) (g : Segment) → SegmentStands pattern g
        → Reads any_kind (segment_on true pattern d g) I.Seg (seg (M.seg_of g))
    seg_read d (segment p t u n k f) h =
        subst (λ v. Reads any_kind (segment_on true pattern d (segment p t u n k f)) I.Seg (seg v))
        (b_laws.patterns p t u n k f)
        (P.seg_read d p (inner_place k) (N.segment_value_read skip d t h.0) (tree_read key refl d u h.1)
        (tree_read constant refl d n h.2) (N.atom_read skip d k h.3) (tree_read constant refl d f h.4))
    seg_read d (noted_segment g n) h = P.noted_seg_read _ (seg_read (suc d) g h.0) (skip _ n)

    segs_rest : (d : ℕ) (gs : Segments) → SegmentsStand pattern gs
        → Adds Kind.segs_kind (segments_on true false pattern d gs) (I.More R.Segs) (segs_of gs)
    segs_rest d no_segment h = Kind.adds_none Kind.segs_kind
    segs_rest d (and_segment g gs) h =
        Kind.adds_one Kind.segs_kind d (λ xs. Part.seg_part xs (seg_read d g h.0)) (segs_rest d gs h.1)

    segs_row : (d : ℕ) (gs : Segments) → SegmentsStand pattern gs
        → Gathers R.Segs segs Rows.segs (segments_on true true pattern d gs) (segs_of gs)
    segs_row d no_segment h = Kind.gathers_none Kind.segs_kind
    segs_row d (and_segment g gs) h =
        Kind.gathers_some Kind.segs_kind (I.More R.Segs) (segment_begins pattern d g)
        (λ xs. Part.seg_part xs (seg_read d g h.0)) (segs_rest d gs h.1)

    -- clauses
    clause_read : (d : ℕ) (c : Clause) → ClauseStands c
        → Reads quiet (clause_on true d c) I.Clause (clause_value (clause_of c))
    clause_read d (clause (single t) u v) h =
        P.clause_read (suc d) (first_place t) (alone_head t (pattern_read (suc d) t h.0))
        (expr_kept u (tree_read expression refl (suc d) u h.1)) (expr_kept v (tree_read expression refl (suc d) v h.2))
    clause_read d (clause (angled p ts) u v) h =
        P.clause_read (suc d) p (P.angled_head (suc d) p (patterns_row (suc d) ts h.0))
        (expr_kept u (tree_read expression refl (suc d) u h.1)) (expr_kept v (tree_read expression refl (suc d) v h.2))
    clause_read d (noted_clause c n) h = P.noted_clause_read _ (clause_read (suc d) c h.0) (skip _ n)

    clauses_rest : (d : ℕ) (cs : Clauses) → ClausesStand cs
        → Adds Kind.clauses_kind (clauses_on true d cs) (I.Row R.Clauses) (clauses_of cs)
    clauses_rest d no_clause h = Kind.ends_none Kind.clauses_kind
    clauses_rest d (and_clause c cs) h =
        Kind.ends_one Kind.clauses_kind (clause_begins d c) (λ xs. Part.clause_part xs (clause_read d c h.0))
        (clauses_rest d cs h.1)

    clauses_row : (d : ℕ) (cs : Clauses) → ClausesStand cs
        → Gathers R.Clauses clauses Rows.clauses (clauses_on true d cs) (clauses_of cs)
    clauses_row d no_clause h = Kind.gathers_none Kind.clauses_kind
    clauses_row d (and_clause c cs) h =
        Kind.gathers_some Kind.clauses_kind (I.Row R.Clauses) (clause_begins d c)
        (λ xs. Part.clause_part xs (clause_read d c h.0)) (clauses_rest d cs h.1)

    -- definitions
    defs_rest : (d : ℕ) (ds : Definitions) → DefinitionsStand ds
        → Adds Kind.defs_kind (definitions_on true d ds) (I.Row R.Defs) (defs_of ds)
    defs_rest d no_definition h = Kind.ends_none Kind.defs_kind
    defs_rest d (definition x t ds) h =
        Kind.ends_one Kind.defs_kind (begins_on (tree_begins a_name (suc d) x))
        (λ xs. Part.def_part (suc d) xs (N.name_read skip (suc d) x h.0)
        (expr_kept t (tree_read a_fun refl (suc d) t h.1)))
        (defs_rest d ds h.2)

    pub defs_row : (d : ℕ) (ds : Definitions) → DefinitionsStand ds
        → Gathers R.Defs defs Rows.defs (definitions_on true d ds) (defs_of ds)
    defs_row d no_definition h = Kind.gathers_none Kind.defs_kind
    defs_row d (definition x t ds) h =
        Kind.gathers_some Kind.defs_kind (I.Row R.Defs) (begins_on (tree_begins a_name (suc d) x))
        (λ xs. Part.def_part (suc d) xs (N.name_read skip (suc d) x h.0)
        (expr_kept t (tree_read a_fun refl (suc d) t h.1)))
        (defs_rest d ds h.2)
