-- What is kept of a tree gives its expression, and the constant that it is.
use Rattle.std.proofs.Common.{◌≡◌, refl, sym, ap, ap₂, ◌∙◌, ℕ, pos, List, [], ◌∷◌, ◌++◌, true, false, Option, None, Some}
use Rattle.erl_base.specs.declared.ids.Place.{Place}
use Rattle.erl_term.specs.Term as T
use Rattle.erl_term.specs.Term.{Term}
use Rattle.erl_term.specs.Terms.{list_of}
use Rattle.core_form.specs.Core as C
use Rattle.core_grammar.specs.WrittenTree.{Tree, number, string, noted, list, list_on, tuple, new_map, binary, Row, none, more, Pairs, no_pair, pair}
use Rattle.core_grammar.specs.ConstantTerms.{and_item, constant_pair, constant_list, constant_tuple, constant_map, constant_of, constants_of, constant_pairs_of, character_terms, integer_value, count_value}
use Rattle.core_grammar.specs.ModuleOf.{literal_or, known_or, expr_of, exprs_of, tail_items, rest_of, parts_of, pattern_of, patterns_of, tail_patterns, rest_pattern, character_exprs, character_patterns}
use Rattle.core_actions.proofs.OptionRows.{both_rows, none_before, item_before}
use Rattle.core_actions.specs.Read.{read_expr, items, tail_end, read_pattern, pattern_items, pattern_end}
use Rattle.core_actions.specs.Joining.{literal_term, literal_terms, literal_pairs, end_at, tuple_of_items, map_of_parts, closed, before, added, behind, joined, integer_in, count_in, known_term, known_terms, pattern_end_at, tuple_of_patterns, closed_pattern, patterns_before, added_patterns, behind_patterns, joined_patterns}
use Rattle.core_actions.specs.ReadLaws.{ReadsExpressions, ReadsPatterns}

literal_there : (p : Place) (o : Option Term) (e : C.Expr) → literal_term e ≡ None → literal_term (literal_or p o e) ≡ o
literal_there p None e h = h
literal_there p (Some t) e h = refl

-- the literal that is read is the constant that is written
pub term_read : (t : Tree) → literal_term (expr_of t) ≡ constant_of false t
term_read (noted p t n) = term_read t
term_read (list p ts) = literal_there p (constant_of false (list p ts)) _ refl
term_read (list_on p t ts u) = literal_there p (constant_of false (list_on p t ts u)) _ refl
term_read (tuple p ts) = literal_there p (constant_of false (tuple p ts)) _ refl
term_read (new_map p ps) = literal_there p (constant_of false (new_map p ps)) _ refl
term_read (binary p gs) = literal_there p (constant_of false (binary p gs)) _ refl
term_read _ = refl

pub terms_read : (ts : Row) → literal_terms (exprs_of ts C.no_expr) ≡ constants_of false ts
terms_read none = refl
terms_read (more t ts) = ap₂ and_item (term_read t) (terms_read ts)

pub pairs_read : (ps : Pairs) → literal_pairs (parts_of ps) ≡ constant_pairs_of false ps
pairs_read no_pair = refl
pairs_read (pair t x u ps) =
    ap₂ and_item (ap₂ (λ a b. constant_pair a x b) (term_read t) (term_read u)) (pairs_read ps)

characters_read : (p : Place) (cs : List ℕ) → literal_terms (character_exprs p cs) ≡ Some (character_terms cs)
characters_read p [] = refl
characters_read p (c ∷ cs) = ap (λ o. and_item (Some (T.int (pos c))) o) (characters_read p cs)

-- The items of a list and those of its tail.

pub list_before : (xs ys : List Term) (t : Term) → list_of (xs ++ ys) t ≡ list_of xs (list_of ys t)
list_before [] ys t = refl
list_before (x ∷ xs) ys t = ap (T.cons x) (list_before xs ys t)

rows_listed : (os ps : Option (List Term)) (q : Option Term)
    → constant_list (both_rows os ps) q ≡ constant_list os (constant_list ps q)
rows_listed None ps q = refl
rows_listed (Some xs) None q = refl
rows_listed (Some xs) (Some ys) None = refl
rows_listed (Some xs) (Some ys) (Some t) = ap Some (list_before xs ys t)

row_read : (ts : Row) (es : C.Exprs)
    → literal_terms (exprs_of ts es) ≡ both_rows (constants_of false ts) (literal_terms es)
row_read none es = none_before (literal_terms es)
row_read (more t ts) es =
    ap₂ and_item (term_read t) (row_read ts es)
    ∙ item_before (constant_of false t) (constants_of false ts) (literal_terms es)

nothing_listed : (o : Option Term) → constant_list (Some []) o ≡ o
nothing_listed None = refl
nothing_listed (Some t) = refl

-- what ends the list
pub end_read : (p : Place) (u : Tree) → rest_of p u (expr_of u) ≡ end_at p (tail_end u)
end_read p (noted q t n) = end_read p t
end_read p (list_on q t ts u) = end_read p u
end_read p _ = refl

-- the constant that a tail is
tail_read : (p : Place) (u : Tree)
    → constant_list (literal_terms (tail_items u)) (literal_term (end_at p (tail_end u))) ≡ constant_of false u
tail_read p (noted q t n) = tail_read p t
tail_read p (string q cs) = ap (λ o. constant_list o (Some T.nil)) (characters_read q cs)
tail_read p (list q ts) = ap (λ o. constant_list o (Some T.nil)) (terms_read ts)
tail_read p (list_on q t ts u) =
    ap (λ o. constant_list o (literal_term (end_at p (tail_end u))))
    (ap₂ and_item (term_read t) (row_read ts (tail_items u))
    ∙ item_before (constant_of false t) (constants_of false ts) (literal_terms (tail_items u)))
    ∙ rows_listed (and_item (constant_of false t) (constants_of false ts)) (literal_terms (tail_items u))
    (literal_term (end_at p (tail_end u)))
    ∙ ap (constant_list (and_item (constant_of false t) (constants_of false ts))) (tail_read p u)
tail_read p u = nothing_listed (literal_term (expr_of u)) ∙ term_read u

-- what is kept of an expression gives the expression
pub closed_read : (t : Tree) → closed (read_expr t) ≡ expr_of t
closed_read (string p cs) = refl
closed_read (noted p t n) = closed_read t
closed_read (list p ts) =
    ap (λ o. literal_or p (constant_list o (Some T.nil)) (C.list p (exprs_of ts C.no_expr) (C.literal p T.nil)))
    (terms_read ts)
closed_read (list_on p t ts u) =
    ap₂ (λ o e. literal_or p o (C.list p (C.and_expr (expr_of t) (exprs_of ts (tail_items u))) e))
    (tail_read p (list_on p t ts u)) (sym (end_read p u))
closed_read _ = refl

before_row : (ts : Row) (es : C.Exprs) → exprs_of ts es ≡ before (exprs_of ts C.no_expr) es
before_row none es = refl
before_row (more t ts) es = ap (C.and_expr (expr_of t)) (before_row ts es)

pub added_read : (t : Tree) → added (read_expr t) ≡ tail_items t
added_read (noted p t n) = added_read t
added_read _ = refl

pub behind_read : (t : Tree) → behind (read_expr t) ≡ tail_end t
behind_read (noted p t n) = behind_read t
behind_read _ = refl

pub list_read : (p : Place) (t : Tree) (ts : Row) (u : Tree)
    → read_expr (list_on p t ts u) ≡ joined p (C.and_expr (expr_of t) (exprs_of ts C.no_expr)) (read_expr u)
list_read p t ts u =
    ap₂ (λ es o. items p (C.and_expr (expr_of t) es) o)
    (before_row ts (tail_items u) ∙ ap (before (exprs_of ts C.no_expr)) (sym (added_read u))) (sym (behind_read u))

pub integer_read : (t : Tree) → integer_in (read_expr t) ≡ integer_value t
integer_read (noted p t n) = integer_read t
integer_read _ = refl

pub count_read : (t : Tree) → count_in (read_expr t) ≡ count_value t
count_read (noted p t n) = count_read t
count_read (number p g (pos n)) = refl
count_read (number p g z) = refl
count_read _ = refl

pub tuple_read : (p : Place) (ts : Row) → tuple_of_items p (exprs_of ts C.no_expr) ≡ expr_of (tuple p ts)
tuple_read p ts =
    ap (λ o. literal_or p (constant_tuple o) (C.tuple p (exprs_of ts C.no_expr))) (terms_read ts)

pub map_read : (p : Place) (ps : Pairs) → map_of_parts p (parts_of ps) ≡ expr_of (new_map p ps)
map_read p ps = ap (λ o. literal_or p (constant_map o) (C.new_map p (parts_of ps))) (pairs_read ps)

-- Patterns.

known_there : (p : Place) (o : Option Term) (q : C.Pattern) → known_term q ≡ None → known_term (known_or p o q) ≡ o
known_there p None q h = h
known_there p (Some t) q h = refl

pub known_read : (t : Tree) → known_term (pattern_of t) ≡ constant_of true t
known_read (noted p t n) = known_read t
known_read (list p ts) = known_there p (constant_of true (list p ts)) _ refl
known_read (list_on p t ts u) = known_there p (constant_of true (list_on p t ts u)) _ refl
known_read (tuple p ts) = known_there p (constant_of true (tuple p ts)) _ refl
known_read _ = refl

pub all_known_read : (ts : Row) → known_terms (patterns_of ts C.no_pattern) ≡ constants_of true ts
all_known_read none = refl
all_known_read (more t ts) = ap₂ and_item (known_read t) (all_known_read ts)

known_characters : (p : Place) (cs : List ℕ) → known_terms (character_patterns p cs) ≡ Some (character_terms cs)
known_characters p [] = refl
known_characters p (c ∷ cs) = ap (λ o. and_item (Some (T.int (pos c))) o) (known_characters p cs)

known_row : (ts : Row) (qs : C.Patterns)
    → known_terms (patterns_of ts qs) ≡ both_rows (constants_of true ts) (known_terms qs)
known_row none qs = none_before (known_terms qs)
known_row (more t ts) qs =
    ap₂ and_item (known_read t) (known_row ts qs)
    ∙ item_before (constant_of true t) (constants_of true ts) (known_terms qs)

pub pattern_end_read : (p : Place) (u : Tree) → rest_pattern p u (pattern_of u) ≡ pattern_end_at p (pattern_end u)
pattern_end_read p (noted q t n) = pattern_end_read p t
pattern_end_read p (list_on q t ts u) = pattern_end_read p u
pattern_end_read p _ = refl

known_tail : (p : Place) (u : Tree)
    → constant_list (known_terms (tail_patterns u)) (known_term (pattern_end_at p (pattern_end u))) ≡ constant_of true u
known_tail p (noted q t n) = known_tail p t
known_tail p (string q cs) = ap (λ o. constant_list o (Some T.nil)) (known_characters q cs)
known_tail p (list q ts) = ap (λ o. constant_list o (Some T.nil)) (all_known_read ts)
known_tail p (list_on q t ts u) =
    ap (λ o. constant_list o (known_term (pattern_end_at p (pattern_end u))))
    (ap₂ and_item (known_read t) (known_row ts (tail_patterns u))
    ∙ item_before (constant_of true t) (constants_of true ts) (known_terms (tail_patterns u)))
    ∙ rows_listed (and_item (constant_of true t) (constants_of true ts)) (known_terms (tail_patterns u))
    (known_term (pattern_end_at p (pattern_end u)))
    ∙ ap (constant_list (and_item (constant_of true t) (constants_of true ts))) (known_tail p u)
known_tail p u = nothing_listed (known_term (pattern_of u)) ∙ known_read u

pub closed_pattern_read : (t : Tree) → closed_pattern (read_pattern t) ≡ pattern_of t
closed_pattern_read (string p cs) = refl
closed_pattern_read (noted p t n) = closed_pattern_read t
closed_pattern_read (list p ts) =
    ap (λ o. known_or p (constant_list o (Some T.nil)) (C.list_like p (patterns_of ts C.no_pattern) (C.known p T.nil)))
    (all_known_read ts)
closed_pattern_read (list_on p t ts u) =
    ap₂ (λ o e. known_or p o (C.list_like p (C.and_pattern (pattern_of t) (patterns_of ts (tail_patterns u))) e))
    (known_tail p (list_on p t ts u)) (sym (pattern_end_read p u))
closed_pattern_read _ = refl

before_patterns : (ts : Row) (qs : C.Patterns) → patterns_of ts qs ≡ patterns_before (patterns_of ts C.no_pattern) qs
before_patterns none qs = refl
before_patterns (more t ts) qs = ap (C.and_pattern (pattern_of t)) (before_patterns ts qs)

pub added_patterns_read : (t : Tree) → added_patterns (read_pattern t) ≡ tail_patterns t
added_patterns_read (noted p t n) = added_patterns_read t
added_patterns_read _ = refl

pub behind_patterns_read : (t : Tree) → behind_patterns (read_pattern t) ≡ pattern_end t
behind_patterns_read (noted p t n) = behind_patterns_read t
behind_patterns_read _ = refl

pub list_pattern_read : (p : Place) (t : Tree) (ts : Row) (u : Tree) → read_pattern (list_on p t ts u)
    ≡ joined_patterns p (C.and_pattern (pattern_of t) (patterns_of ts C.no_pattern)) (read_pattern u)
list_pattern_read p t ts u =
    ap₂ (λ qs o. pattern_items p (C.and_pattern (pattern_of t) qs) o)
    (before_patterns ts (tail_patterns u)
    ∙ ap (patterns_before (patterns_of ts C.no_pattern)) (sym (added_patterns_read u)))
    (sym (behind_patterns_read u))

pub tuple_patterns_read : (p : Place) (ts : Row)
    → tuple_of_patterns p (patterns_of ts C.no_pattern) ≡ pattern_of (tuple p ts)
tuple_patterns_read p ts =
    ap (λ o. known_or p (constant_tuple o) (C.tuple_like p (patterns_of ts C.no_pattern))) (all_known_read ts)

pub reads_expressions : ReadsExpressions
reads_expressions = record {
  closed_read = closed_read;
  constants = term_read;
  integers = integer_read;
  counts = count_read;
  lists = list_read;
  tuples = tuple_read;
  maps = map_read;
}

pub reads_patterns : ReadsPatterns
reads_patterns = record {
  closed_read = closed_pattern_read;
  constants = known_read;
  lists = list_pattern_read;
  tuples = tuple_patterns_read;
}
