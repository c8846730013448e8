-- Of all that is written what annotations hold is passed by.
use Rattle.std.proofs.Common.{◌≡◌, ℕ, suc, Bool, true, false, Option, refl}
use Rattle.core_lex.specs.declared.token.TokenKind.TheVariants.{Word, Symbol, Variable, Atom, Number, Wide, Float, Character, Letters}
use Rattle.core_lex.specs.declared.token.Word.TheVariants as W
use Rattle.core_lex.specs.declared.token.Symbol.TheVariants as S
use Rattle.core_grammar.specs.WrittenTree.{Tree, variable, atom, number, wide, float, character, string, function_name, external, noted, alias, list, list_on, tuple, values, new_map, map_on, binary, fun, let_in, letrec, case, apply, call, primop, do_then, catch, try, receive, Row, none, more, Group, single, angled, Pairs, no_pair, pair, Segment, segment, noted_segment, Segments, no_segment, and_segment, Clause, clause, noted_clause, Clauses, no_clause, and_clause, Definitions, no_definition, definition, Attributes, no_attribute, attribute, Written, plain_module, noted_module}
use Rattle.core_grammar.specs.Standing.{Sort, expression, pattern, constant, note, a_variable, a_name, an_atom, a_fun, inner_sort, item_sort, key_sort, value_sort}
use Rattle.core_grammar.specs.Signs.{Sight, pair_symbol, group_count, on, row_on, group_on, pairs_on, segment_on, segments_on, clause_on, clauses_on, definitions_on, attributes_on, module_on}
use Rattle.core_build.proofs.Aside as A
use Rattle.core_build.proofs.Aside.{Blind, SeenAs}

module _ {B : Type 0} (see : Sight → Option B) (b : Blind see) where
  -- the arrow of a pair
  arrow_of_pair : (x : Bool) → A.neutral (Symbol (pair_symbol x)) ≡ true
  arrow_of_pair true = refl
  arrow_of_pair false = refl

  mutual
    pub tree : (s : Sort) (d : ℕ) (t : Tree) → SeenAs see b (on true s d t) (on false s d t)
    tree s d (variable p x) = A.token see b _ p (Variable x) refl (A.nothing see b)
    tree s d (atom p a) = A.token see b _ p (Atom a) refl (A.nothing see b)
    tree s d (number p g z) = A.token see b _ p (Number g z) refl (A.nothing see b)
    tree s d (wide p n) = A.token see b _ p (Wide n) refl (A.nothing see b)
    tree s d (float p) = A.token see b _ p Float refl (A.nothing see b)
    tree s d (character p c) = A.token see b _ p (Character c) refl (A.nothing see b)
    tree s d (string p cs) = A.token see b _ p (Letters cs) refl (A.nothing see b)
    tree s d (function_name p a n) = A.token see b _ p (Atom a) refl (A.count see b _ n)
    tree s d (external p m f n) =
        A.token see b _ p (Word W.Fun) refl (A.token see b _ m.place (Atom m.name) refl
        (A.mark see b _ S.Colon refl (A.token see b _ f.place (Atom f.name) refl (A.count see b _ n))))
    tree s d (noted p t n) = A.noted_at see b _ p (tree (inner_sort s) (suc d) t) (tree note _ n)
    tree s d (alias x t) =
        A.behind see b (tree a_variable (suc d) x) (A.mark see b _ S.Equals refl (tree pattern (suc d) t))
    tree s d (list p ts) =
        A.token see b _ p (Symbol S.OpenBracket) refl (A.behind see b (row true (item_sort s) (suc d) ts)
        (A.mark see b _ S.CloseBracket refl (A.nothing see b)))
    tree s d (list_on p t ts u) =
        A.token see b _ p (Symbol S.OpenBracket) refl (A.behind see b (tree (item_sort s) (suc d) t)
        (A.behind see b (row false (item_sort s) (suc d) ts) (A.mark see b _ S.Bar refl
        (A.behind see b (tree (item_sort s) (suc d) u) (A.mark see b _ S.CloseBracket refl (A.nothing see b))))))
    tree s d (tuple p ts) =
        A.token see b _ p (Symbol S.OpenBrace) refl (A.behind see b (row true (item_sort s) (suc d) ts)
        (A.mark see b _ S.CloseBrace refl (A.nothing see b)))
    tree s d (values p ts) =
        A.token see b _ p (Symbol S.OpenAngle) refl (A.behind see b (row true expression (suc d) ts)
        (A.mark see b _ S.CloseAngle refl (A.nothing see b)))
    tree s d (new_map p ps) =
        A.token see b _ p (Symbol S.OpenMap) refl (A.behind see b (pairs true s (suc d) ps)
        (A.mark see b _ S.CloseMap refl (A.nothing see b)))
    tree s d (map_on p ps t) =
        A.token see b _ p (Symbol S.OpenMap) refl (A.behind see b (pairs true s (suc d) ps)
        (A.mark see b _ S.Bar refl (A.behind see b (tree expression (suc d) t)
        (A.mark see b _ S.CloseMap refl (A.nothing see b)))))
    tree s d (binary p gs) =
        A.token see b _ p (Symbol S.OpenBinary) refl (A.behind see b (segments true s (suc d) gs)
        (A.mark see b _ S.CloseBinary refl (A.nothing see b)))
    tree s d (fun p xs t) =
        A.token see b _ p (Word W.Fun) refl (A.brackets see b _ (row true a_variable (suc d) xs)
        (A.mark see b _ S.Arrow refl (tree expression (suc d) t)))
    tree s d (let_in p xs t u) =
        A.token see b _ p (Word W.Let) refl (A.behind see b (group a_variable (suc d) xs)
        (A.mark see b _ S.Equals refl (A.behind see b (tree expression (suc d) t)
        (A.word see b _ W.In (tree expression (suc d) u)))))
    tree s d (letrec p ds t) =
        A.token see b _ p (Word W.Letrec) refl (A.behind see b (definitions (suc d) ds)
        (A.word see b _ W.In (tree expression (suc d) t)))
    tree s d (case p t c cs) =
        A.token see b _ p (Word W.Case) refl (A.behind see b (tree expression (suc d) t)
        (A.word see b _ W.Of (A.behind see b (clause_aside (suc d) c) (A.behind see b (clauses (suc d) cs)
        (A.word see b _ W.End (A.nothing see b))))))
    tree s d (apply p t ts) =
        A.token see b _ p (Word W.Apply) refl (A.behind see b (tree expression (suc d) t)
        (A.brackets see b _ (row true expression (suc d) ts) (A.nothing see b)))
    tree s d (call p m f ts) =
        A.token see b _ p (Word W.Call) refl (A.behind see b (tree expression (suc d) m)
        (A.mark see b _ S.Colon refl (A.behind see b (tree expression (suc d) f)
        (A.brackets see b _ (row true expression (suc d) ts) (A.nothing see b)))))
    tree s d (primop p a ts) =
        A.token see b _ p (Word W.Primop) refl (A.token see b _ a.place (Atom a.name) refl
        (A.brackets see b _ (row true expression (suc d) ts) (A.nothing see b)))
    tree s d (do_then p t u) =
        A.token see b _ p (Word W.Do) refl (A.behind see b (tree expression (suc d) t) (tree expression (suc d) u))
    tree s d (catch p t) = A.token see b _ p (Word W.Catch) refl (tree expression (suc d) t)
    tree s d (try p t xs u ys v) =
        A.token see b _ p (Word W.Try) refl (A.behind see b (tree expression (suc d) t)
        (A.word see b _ W.Of (A.behind see b (group a_variable (suc d) xs)
        (A.mark see b _ S.Arrow refl (A.behind see b (tree expression (suc d) u)
        (A.word see b _ W.Catch (A.behind see b (group a_variable (suc d) ys)
        (A.arrow see b _ (group_count ys) (tree expression (suc d) v)))))))))
    tree s d (receive p cs t u) =
        A.token see b _ p (Word W.Receive) refl (A.behind see b (clauses (suc d) cs)
        (A.word see b _ W.After (A.behind see b (tree expression (suc d) t)
        (A.mark see b _ S.Arrow refl (tree expression (suc d) u)))))

    pub row : (first : Bool) (s : Sort) (d : ℕ) (ts : Row)
        → SeenAs see b (row_on true first s d ts) (row_on false first s d ts)
    row first s d none = A.nothing see b
    row first s d (more t ts) = A.comma see b first d (A.behind see b (tree s d t) (row false s d ts))

    pub group : (s : Sort) (d : ℕ) (ts : Group) → SeenAs see b (group_on true s d ts) (group_on false s d ts)
    group s d (single t) = tree s d t
    group s d (angled p ts) =
        A.token see b _ p (Symbol S.OpenAngle) refl (A.behind see b (row true s d ts)
        (A.mark see b _ S.CloseAngle refl (A.nothing see b)))

    pub pairs : (first : Bool) (s : Sort) (d : ℕ) (ps : Pairs)
        → SeenAs see b (pairs_on true first s d ps) (pairs_on false first s d ps)
    pairs first s d no_pair = A.nothing see b
    pairs first s d (pair t x u ps) =
        A.comma see b first d (A.behind see b (tree (key_sort s) d t) (A.mark see b _ (pair_symbol x) (arrow_of_pair x)
        (A.behind see b (tree (item_sort s) d u) (pairs false s d ps))))

    pub segment_aside : (s : Sort) (d : ℕ) (g : Segment)
        → SeenAs see b (segment_on true s d g) (segment_on false s d g)
    segment_aside s d (segment p t u n k f) =
        A.token see b _ p (Symbol S.OpenSegment) refl (A.behind see b (tree (value_sort s) d t)
        (A.mark see b _ S.CloseAngle refl (A.brackets see b _ (A.behind see b (tree (key_sort s) d u)
        (A.mark see b _ S.Comma refl (A.behind see b (tree constant d n) (A.mark see b _ S.Comma refl
        (A.behind see b (tree an_atom d k) (A.mark see b _ S.Comma refl (tree constant d f)))))))
        (A.nothing see b))))
    segment_aside s d (noted_segment g n) = A.noted_so see b _ (segment_aside s (suc d) g) (tree note _ n)

    pub segments : (first : Bool) (s : Sort) (d : ℕ) (gs : Segments)
        → SeenAs see b (segments_on true first s d gs) (segments_on false first s d gs)
    segments first s d no_segment = A.nothing see b
    segments first s d (and_segment g gs) =
        A.comma see b first d (A.behind see b (segment_aside s d g) (segments false s d gs))

    pub clause_aside : (d : ℕ) (c : Clause) → SeenAs see b (clause_on true d c) (clause_on false d c)
    clause_aside d (clause ts t u) =
        A.behind see b (group pattern (suc d) ts) (A.word see b _ W.When (A.behind see b (tree expression (suc d) t)
        (A.mark see b _ S.Arrow refl (tree expression (suc d) u))))
    clause_aside d (noted_clause c n) = A.noted_so see b _ (clause_aside (suc d) c) (tree note _ n)

    pub clauses : (d : ℕ) (cs : Clauses) → SeenAs see b (clauses_on true d cs) (clauses_on false d cs)
    clauses d no_clause = A.nothing see b
    clauses d (and_clause c cs) = A.behind see b (clause_aside d c) (clauses d cs)

    pub definitions : (d : ℕ) (ds : Definitions)
        → SeenAs see b (definitions_on true d ds) (definitions_on false d ds)
    definitions d no_definition = A.nothing see b
    definitions d (definition x t ds) =
        A.behind see b (tree a_name (suc d) x) (A.mark see b _ S.Equals refl
        (A.behind see b (tree a_fun (suc d) t) (definitions d ds)))

  pub attributes : (first : Bool) (d : ℕ) (bs : Attributes)
      → SeenAs see b (attributes_on true first d bs) (attributes_on false first d bs)
  attributes first d no_attribute = A.nothing see b
  attributes first d (attribute a t bs) =
      A.comma see b first d (A.behind see b (tree an_atom d a) (A.mark see b _ S.Equals refl
      (A.behind see b (tree constant d t) (attributes false d bs))))

  pub module_aside : (d : ℕ) (w : Written) → SeenAs see b (module_on true d w) (module_on false d w)
  module_aside d (plain_module a xs bs ds) =
      A.word see b _ W.Module (A.token see b _ a.place (Atom a.name) refl (A.mark see b _ S.OpenBracket refl
      (A.behind see b (row true a_name d xs) (A.mark see b _ S.CloseBracket refl (A.word see b _ W.Attributes
      (A.mark see b _ S.OpenBracket refl (A.behind see b (attributes true d bs)
      (A.mark see b _ S.CloseBracket refl (A.behind see b (definitions d ds)
      (A.word see b _ W.End (A.nothing see b)))))))))))
  module_aside d (noted_module w n) = A.noted_so see b _ (module_aside (suc d) w) (tree note _ n)
