-- What is one constant is read as one literal.
use Rattle.std.proofs.Common.{◌≡◌, refl, sym, ap, ◌∙◌, ℕ, Bool, true, false, not, ◌&&◌, List, [], ◌∷◌, Option, Some, None}
use Rattle.erl_base.specs.declared.ids.Place.{Place}
use Rattle.erl_term.specs.Term as T
use Rattle.erl_term.specs.Term.{Term}
use Rattle.core_form.specs.Core as C
use Rattle.core_form.specs.SourceTree.{is_literal, are_literals, is_list, is_known, are_known, is_list_pattern, are_constant_pairs}
use Rattle.core_grammar.specs.WrittenTree.{Tree, string, noted, list, list_on, tuple, new_map, binary, Row, none, more, Pairs, no_pair, pair}
use Rattle.core_grammar.specs.ConstantTerms.{and_item, constant_pair, constant_list, constant_tuple, constant_map, constant_bits, constant_of, constants_of, constant_pairs_of, segment_bits}
use Rattle.core_grammar.specs.ModuleOf.{literal_or, known_or, expr_of, exprs_of, tail_items, rest_of, parts_of, pattern_of, patterns_of, tail_patterns, rest_pattern, character_exprs, character_patterns}
use Rattle.core_grammar.proofs.Truths.{is_some}

pub assoc : (a b c : Bool) → ((a && b) && c) ≡ (a && (b && c))
assoc true b c = refl
assoc false b c = refl

pub twice_true : (a : Bool) → ((a && true) && true) ≡ (a && true)
twice_true true = refl
twice_true false = refl

pub and_true : (a : Bool) → (a && true) ≡ a
and_true true = refl
and_true false = refl

pub some_both : {A : Type 0} (o : Option A) (os : Option (List A)) → is_some (and_item o os) ≡ (is_some o && is_some os)
some_both None os = refl
some_both (Some x) None = refl
some_both (Some x) (Some xs) = refl

pub some_list : (o : Option (List Term)) (q : Option Term) → is_some (constant_list o q) ≡ (is_some o && is_some q)
some_list None q = refl
some_list (Some ts) None = refl
some_list (Some ts) (Some t) = refl

pub some_tuple : (o : Option (List Term)) → is_some (constant_tuple o) ≡ is_some o
some_tuple None = refl
some_tuple (Some ts) = refl

pub some_map : (o : Option (List (Term × Term))) → is_some (constant_map o) ≡ is_some o
some_map None = refl
some_map (Some ts) = refl

pub some_bits : (o : Option (List Bool)) → is_some (constant_bits o) ≡ is_some o
some_bits None = refl
some_bits (Some ts) = refl

some_pair : (o : Option Term) (x : Bool) (q : Option Term)
    → is_some (constant_pair o x q) ≡ ((is_some o && is_some q) && not x)
some_pair None x q = refl
some_pair (Some k) true None = refl
some_pair (Some k) true (Some v) = refl
some_pair (Some k) false None = refl
some_pair (Some k) false (Some v) = refl

literal_there : (p : Place) (o : Option Term) (e : C.Expr) → is_literal e ≡ false
    → is_literal (literal_or p o e) ≡ is_some o
literal_there p None e h = h
literal_there p (Some t) e h = refl

known_there : (p : Place) (o : Option Term) (q : C.Pattern) → is_known q ≡ false → is_known (known_or p o q) ≡ is_some o
known_there p None q h = h
known_there p (Some t) q h = refl

pub literal_where : (t : Tree) → is_literal (expr_of t) ≡ is_some (constant_of false t)
literal_where (noted p t n) = literal_where t
literal_where (list p ts) = literal_there p (constant_of false (list p ts)) _ refl
literal_where (list_on p t ts u) = literal_there p (constant_of false (list_on p t ts u)) _ refl
literal_where (tuple p ts) = literal_there p (constant_of false (tuple p ts)) _ refl
literal_where (new_map p ps) = literal_there p (constant_of false (new_map p ps)) _ refl
literal_where (binary p gs) = literal_there p (constant_of false (binary p gs)) _ refl
literal_where _ = refl

pub known_where : (t : Tree) → is_known (pattern_of t) ≡ is_some (constant_of true t)
known_where (noted p t n) = known_where t
known_where (list p ts) = known_there p (constant_of true (list p ts)) _ refl
known_where (list_on p t ts u) = known_there p (constant_of true (list_on p t ts u)) _ refl
known_where (tuple p ts) = known_there p (constant_of true (tuple p ts)) _ refl
known_where _ = refl

pub all_literals : (ts : Row) (es : C.Exprs)
    → are_literals (exprs_of ts es) ≡ (is_some (constants_of false ts) && are_literals es)
all_literals none es = refl
all_literals (more t ts) es =
    ap (λ x. x && are_literals (exprs_of ts es)) (literal_where t)
    ∙ ap (λ x. is_some (constant_of false t) && x) (all_literals ts es)
    ∙ sym (assoc (is_some (constant_of false t)) (is_some (constants_of false ts)) (are_literals es))
    ∙ ap (λ x. x && are_literals es) (sym (some_both (constant_of false t) (constants_of false ts)))

pub all_known : (ts : Row) (qs : C.Patterns)
    → are_known (patterns_of ts qs) ≡ (is_some (constants_of true ts) && are_known qs)
all_known none qs = refl
all_known (more t ts) qs =
    ap (λ x. x && are_known (patterns_of ts qs)) (known_where t)
    ∙ ap (λ x. is_some (constant_of true t) && x) (all_known ts qs)
    ∙ sym (assoc (is_some (constant_of true t)) (is_some (constants_of true ts)) (are_known qs))
    ∙ ap (λ x. x && are_known qs) (sym (some_both (constant_of true t) (constants_of true ts)))

characters_literal : (p : Place) (cs : List ℕ) → are_literals (character_exprs p cs) ≡ true
characters_literal p [] = refl
characters_literal p (c ∷ cs) = characters_literal p cs

characters_known : (p : Place) (cs : List ℕ) → are_known (character_patterns p cs) ≡ true
characters_known p [] = refl
characters_known p (c ∷ cs) = characters_known p cs

-- a first item, items and the items of a tail, and what is left of it
regroup : (a b c d e f : Bool) → a ≡ e → (c && d) ≡ f → ((a && (b && c)) && d) ≡ ((e && b) && f)
regroup true true c d true f h k = k
regroup true false c d true f h k = refl
regroup true b c d false f h k = absurd cc
regroup false b c d false f h k = refl
regroup false b c d true f h k = absurd cc

pub tail_literal : (p : Place) (u : Tree)
    → (are_literals (tail_items u) && is_literal (rest_of p u (expr_of u))) ≡ is_some (constant_of false u)
tail_literal p (noted q t n) = tail_literal p t
tail_literal p (string q cs) = ap (λ x. x && true) (characters_literal q cs)
tail_literal p (list q ts) =
    ap (λ x. x && true) (all_literals ts C.no_expr) ∙ twice_true (is_some (constants_of false ts))
    ∙ sym (some_list (constants_of false ts) (Some T.nil))
tail_literal p (list_on q t ts u) =
    ap (λ x. (is_literal (expr_of t) && x) && is_literal (rest_of p u (expr_of u))) (all_literals ts (tail_items u))
    ∙ regroup (is_literal (expr_of t)) (is_some (constants_of false ts)) (are_literals (tail_items u))
    (is_literal (rest_of p u (expr_of u))) (is_some (constant_of false t)) (is_some (constant_of false u))
    (literal_where t) (tail_literal p u)
    ∙ ap (λ x. x && is_some (constant_of false u)) (sym (some_both (constant_of false t) (constants_of false ts)))
    ∙ sym (some_list (and_item (constant_of false t) (constants_of false ts)) (constant_of false u))
tail_literal p u = literal_where u

pub tail_known : (p : Place) (u : Tree)
    → (are_known (tail_patterns u) && is_known (rest_pattern p u (pattern_of u))) ≡ is_some (constant_of true u)
tail_known p (noted q t n) = tail_known p t
tail_known p (string q cs) = ap (λ x. x && true) (characters_known q cs)
tail_known p (list q ts) =
    ap (λ x. x && true) (all_known ts C.no_pattern) ∙ twice_true (is_some (constants_of true ts))
    ∙ sym (some_list (constants_of true ts) (Some T.nil))
tail_known p (list_on q t ts u) =
    ap (λ x. (is_known (pattern_of t) && x) && is_known (rest_pattern p u (pattern_of u)))
    (all_known ts (tail_patterns u))
    ∙ regroup (is_known (pattern_of t)) (is_some (constants_of true ts)) (are_known (tail_patterns u))
    (is_known (rest_pattern p u (pattern_of u))) (is_some (constant_of true t)) (is_some (constant_of true u))
    (known_where t) (tail_known p u)
    ∙ ap (λ x. x && is_some (constant_of true u)) (sym (some_both (constant_of true t) (constants_of true ts)))
    ∙ sym (some_list (and_item (constant_of true t) (constants_of true ts)) (constant_of true u))
tail_known p u = known_where u

tuple_no_list : (p : Place) (o : Option (List Term)) (es : C.Exprs)
    → is_list (literal_or p (constant_tuple o) (C.tuple p es)) ≡ false
tuple_no_list p None es = refl
tuple_no_list p (Some ts) es = refl

map_no_list : (p : Place) (o : Option (List (Term × Term))) (ps : C.MapParts)
    → is_list (literal_or p (constant_map o) (C.new_map p ps)) ≡ false
map_no_list p None ps = refl
map_no_list p (Some ts) ps = refl

binary_no_list : (p : Place) (o : Option (List Bool)) (gs : C.Segments)
    → is_list (literal_or p (constant_bits o) (C.binary p gs)) ≡ false
binary_no_list p None gs = refl
binary_no_list p (Some bs) gs = refl

pub rest_no_list : (p : Place) (u : Tree) → is_list (rest_of p u (expr_of u)) ≡ false
rest_no_list p (noted q t n) = rest_no_list p t
rest_no_list p (list_on q t ts u) = rest_no_list p u
rest_no_list p (tuple q ts) = tuple_no_list q (constants_of false ts) _
rest_no_list p (new_map q ps) = map_no_list q (constant_pairs_of false ps) _
rest_no_list p (binary q gs) = binary_no_list q (segment_bits false gs) _
rest_no_list p _ = refl

tuple_no_list_pattern : (p : Place) (o : Option (List Term)) (qs : C.Patterns)
    → is_list_pattern (known_or p (constant_tuple o) (C.tuple_like p qs)) ≡ false
tuple_no_list_pattern p None qs = refl
tuple_no_list_pattern p (Some ts) qs = refl

pub rest_no_list_pattern : (p : Place) (u : Tree) → is_list_pattern (rest_pattern p u (pattern_of u)) ≡ false
rest_no_list_pattern p (noted q t n) = rest_no_list_pattern p t
rest_no_list_pattern p (list_on q t ts u) = rest_no_list_pattern p u
rest_no_list_pattern p (tuple q ts) = tuple_no_list_pattern q (constants_of true ts) _
rest_no_list_pattern p _ = refl

pub all_pairs_constant : (ps : Pairs) → are_constant_pairs (parts_of ps) ≡ is_some (constant_pairs_of false ps)
all_pairs_constant no_pair = refl
all_pairs_constant (pair t x u ps) =
    ap (λ y. ((y && is_literal (expr_of u)) && not x) && are_constant_pairs (parts_of ps)) (literal_where t)
    ∙ ap (λ y. ((is_some (constant_of false t) && y) && not x) && are_constant_pairs (parts_of ps)) (literal_where u)
    ∙ ap (λ y. ((is_some (constant_of false t) && is_some (constant_of false u)) && not x) && y) (all_pairs_constant ps)
    ∙ ap (λ y. y && is_some (constant_pairs_of false ps))
    (sym (some_pair (constant_of false t) x (constant_of false u)))
    ∙ sym (some_both (constant_pair (constant_of false t) x (constant_of false u)) (constant_pairs_of false ps))
