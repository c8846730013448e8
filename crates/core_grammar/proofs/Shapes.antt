-- Each expression, pattern and segment of a text has a shape that texts have.
use Rattle.std.proofs.Common.{◌≡◌, refl, sym, ap, ◌∙◌, ℕ, suc, Bool, true, false, not, ◌||◌, eqb, List, [], ◌∷◌, length, Option, Some, None}
use Rattle.erl_base.specs.declared.ids.Place.{Place}
use Rattle.erl_term.specs.Term.{Term}
use Rattle.core_form.specs.Core as C
use Rattle.core_form.specs.Walks.{all_pattern}
use Rattle.core_form.specs.SourceTree.{shapes, source_expr, source_pattern, is_written, is_simple, keys_simple, segs_simple, is_segment_value}
use Rattle.core_grammar.specs.WrittenTree.{Tree, variable, atom, number, wide, float, character, string, function_name, external, noted, alias, list, list_on, tuple, values, new_map, map_on, binary, fun, let_in, letrec, case, apply, call, primop, do_then, catch, try, receive, none, more, Pairs, no_pair, pair, Segment, segment, noted_segment, Segments, no_segment, and_segment}
use Rattle.core_grammar.specs.Standing.{expression, pattern, constant, key, segment_value, a_variable, Stands, PairsStand, SegmentStands, SegmentsStand}
use Rattle.core_grammar.specs.ConstantTerms.{constant_of, constants_of, constant_pairs_of, bits_of_segments}
use Rattle.core_grammar.specs.Signs.{Sign, on, group_count, is_catch_count}
use Rattle.core_grammar.specs.ModuleOf.{literal_or, known_or, term_or_nil, constant_term, group_binders, expr_of, pattern_of, keys_of, seg_of, segs_of}
use Rattle.core_grammar.proofs.Truths.{never, and_in, is_some, Holds, none_held}
use Rattle.core_grammar.proofs.Constants.{Each, Where, Written, code_within, constants_written}
use Rattle.core_grammar.proofs.Literals.{and_true, some_tuple, some_map, all_literals, all_known, tail_literal, tail_known, rest_no_list, rest_no_list_pattern, all_pairs_constant}
use Rattle.core_grammar.proofs.KeysRead.{constant_there, bits_there, pairs_of_key}
use Rattle.core_grammar.proofs.Past.{past, past_group}
use Rattle.core_grammar.proofs.Names.{variable_named, row_named, group_named, group_length, all_functions}
use Rattle.core_grammar.proofs.Walk.{Locals}

-- one answer
pub one : (b : Bool) → b ≡ true → Holds (b ∷ [])
one b h = record { all = and_in b true h refl }

-- a sign that is not marked
abbrev pub Plain : Sign → Type 0
Plain g = g.marked ≡ false

chosen : (p : Place) (o : Option Term) (e : C.Expr) → Where (Written false) o
    → (is_some o ≡ false → source_expr e ≡ true) → source_expr (literal_or p o e) ≡ true
chosen p None e h k = k refl
chosen p (Some v) e h k = h

chosen_pattern : (p : Place) (o : Option Term) (q : C.Pattern) → Where (Written true) o
    → (is_some o ≡ false → source_pattern q ≡ true) → source_pattern (known_or p o q) ≡ true
chosen_pattern p None q h k = k refl
chosen_pattern p (Some v) q h k = h

caught : (n m : ℕ) → n ≡ m → not (is_catch_count m) ≡ false → (eqb n 2 || eqb n 3) ≡ true
caught n m e h = ap is_catch_count e ∙ turned (is_catch_count m) h
  where
    turned : (b : Bool) → not b ≡ false → b ≡ true
    turned true k = refl
    turned false k = never (sym k)

expr_shape : (t : Tree) (d : ℕ) (r : List Sign) → Stands expression t → Each Plain (on true expression d t r)
    → source_expr (expr_of t) ≡ true
expr_shape (variable p x) d r h g = h.1
expr_shape (atom p a) d r h g = refl
expr_shape (number p b z) d r h g = h.1
expr_shape (wide p n) d r h g = refl
expr_shape (float p) d r h g = refl
expr_shape (character p c) d r h g = code_within c h.1
expr_shape (string p cs) d r h g = constants_written false expression (string p cs) h
expr_shape (function_name p a n) d r h g = h.1
expr_shape (external p m f n) d r h g = h.1
expr_shape (noted p t n) d r h g =
    expr_shape t (suc d) _ h.0 g.1
expr_shape (alias x t) d r h g = never h.0
expr_shape (list p none) d r h g = refl
expr_shape (list p (more t ts)) d r h g =
    chosen p (constant_of false (list p (more t ts))) _ (constants_written false expression (list p (more t ts)) h)
    (λ n. ap not (tail_literal p (list p (more t ts)) ∙ n))
expr_shape (list_on p t ts u) d r h g =
    chosen p (constant_of false (list_on p t ts u)) _ (constants_written false expression (list_on p t ts u) h)
    (λ n. and_in _ _ (ap not (rest_no_list p u)) (ap not (tail_literal p (list_on p t ts u) ∙ n)))
expr_shape (tuple p ts) d r h g =
    chosen p (constant_of false (tuple p ts)) _ (constants_written false expression (tuple p ts) h)
    (λ n. ap not (all_literals ts C.no_expr ∙ and_true (is_some (constants_of false ts))
    ∙ sym (some_tuple (constants_of false ts)) ∙ n))
expr_shape (values p ts) d r h g = refl
expr_shape (new_map p ps) d r h g =
    chosen p (constant_of false (new_map p ps)) _ (constants_written false expression (new_map p ps) h)
    (λ n. ap not (all_pairs_constant ps ∙ sym (some_map (constant_pairs_of false ps)) ∙ n))
expr_shape (map_on p ps t) d r h g = refl
expr_shape (binary p gs) d r h g =
    chosen p (constant_of false (binary p gs)) _ (constants_written false expression (binary p gs) h) (λ n. refl)
expr_shape (fun p xs t) d r h g = row_named xs h.1
expr_shape (let_in p xs t u) d r h g = group_named xs h.1
expr_shape (letrec p ds t) d r h g = all_functions ds h.1
expr_shape (case p t c cs) d r h g = refl
expr_shape (apply p t ts) d r h g = refl
expr_shape (call p m f ts) d r h g = refl
expr_shape (primop p a ts) d r h g = refl
expr_shape (do_then p t u) d r h g = refl
expr_shape (catch p t) d r h g = refl
expr_shape (try p t xs u ys v) d r h g =
    let f = past_group Plain true a_variable _ xs _ (past Plain true expression _ t _ g.1).1 in
    let e = past_group Plain true a_variable _ ys _ (past Plain true expression _ u _ f.1).1 in
    and_in _ _ (and_in _ _ (group_named xs h.2) (group_named ys h.4))
    (caught (length (group_binders ys)) (group_count ys) (group_length ys) e.0)
expr_shape (receive p cs t u) d r h g = refl

of_there : (p : Place) (o : Option Term) (e : C.Expr) → is_some o ≡ true → is_simple (literal_or p o e) ≡ true
of_there p None e h = never h
of_there p (Some v) e h = refl

simple : (t : Tree) → Stands key t → is_simple (expr_of t) ≡ true
simple (variable p x) h = refl
simple (atom p a) h = refl
simple (number p g z) h = refl
simple (wide p n) h = refl
simple (float p) h = refl
simple (character p c) h = refl
simple (string p cs) h = refl
simple (external p m f n) h = refl
simple (noted p t n) h = simple t h.0
simple (list p ts) h = of_there p (constant_of false (list p ts)) _ (constant_there (list p ts) (refl, h.1))
simple (list_on p t ts u) h =
    of_there p (constant_of false (list_on p t ts u)) _ (constant_there (list_on p t ts u) (refl, h.1, h.2, h.3))
simple (tuple p ts) h = of_there p (constant_of false (tuple p ts)) _ (constant_there (tuple p ts) (refl, h.1))
simple (new_map p ps) h =
    of_there p (constant_of false (new_map p ps)) _ (constant_there (new_map p ps) (refl, pairs_of_key ps h.1))
simple (binary p gs) h = of_there p (constant_of false (binary p gs)) _ (bits_there (bits_of_segments gs) h.0)
simple _ h = never (assumption h)

all_keys_simple : (ps : Pairs) → PairsStand pattern ps → keys_simple (keys_of ps) ≡ true
all_keys_simple no_pair h = refl
all_keys_simple (pair t x u ps) h = and_in _ _ (simple t h.0) (all_keys_simple ps h.3)

variable_value : (t : Tree) → Stands a_variable t → is_segment_value (pattern_of t) ≡ true
variable_value (variable p x) h = refl
variable_value (noted p t n) h = variable_value t h.0
variable_value _ h = never (assumption h)

value_read : (t : Tree) → Stands segment_value t → is_segment_value (pattern_of t) ≡ true
value_read (variable p x) h = refl
value_read (number p g z) h = refl
value_read (wide p n) h = refl
value_read (noted p t n) h = variable_value t h.0
value_read _ h = never (assumption h)

seg_simple : (g : Segment) (gs : C.SegPatterns) → SegmentStands pattern g → segs_simple gs ≡ true
    → segs_simple (C.and_seg (seg_of g) gs) ≡ true
seg_simple (segment p t u n k f) gs h j = and_in _ _ (and_in _ _ (value_read t h.0) (simple u h.1)) j
seg_simple (noted_segment g n) gs h j = seg_simple g gs h.0 j

all_segs_simple : (gs : Segments) → SegmentsStand pattern gs → segs_simple (segs_of gs) ≡ true
all_segs_simple no_segment h = refl
all_segs_simple (and_segment g gs) h = seg_simple g (segs_of gs) h.0 (all_segs_simple gs h.1)

pattern_shape : (t : Tree) → Stands pattern t → source_pattern (pattern_of t) ≡ true
pattern_shape (variable p x) h = h.1
pattern_shape (atom p a) h = refl
pattern_shape (number p g z) h = h.1
pattern_shape (wide p n) h = refl
pattern_shape (float p) h = refl
pattern_shape (character p c) h = code_within c h.1
pattern_shape (string p cs) h = constants_written true pattern (string p cs) h
pattern_shape (external p m f n) h = h.1
pattern_shape (noted p t n) h = pattern_shape t h.0
pattern_shape (alias x t) h = variable_named x h.1
pattern_shape (list p none) h = refl
pattern_shape (list p (more t ts)) h =
    chosen_pattern p (constant_of true (list p (more t ts))) _ (constants_written true pattern (list p (more t ts)) h)
    (λ n. ap not (tail_known p (list p (more t ts)) ∙ n))
pattern_shape (list_on p t ts u) h =
    chosen_pattern p (constant_of true (list_on p t ts u)) _ (constants_written true pattern (list_on p t ts u) h)
    (λ n. and_in _ _ (ap not (rest_no_list_pattern p u)) (ap not (tail_known p (list_on p t ts u) ∙ n)))
pattern_shape (tuple p ts) h =
    chosen_pattern p (constant_of true (tuple p ts)) _ (constants_written true pattern (tuple p ts) h)
    (λ n. ap not (all_known ts C.no_pattern ∙ and_true (is_some (constants_of true ts))
    ∙ sym (some_tuple (constants_of true ts)) ∙ n))
pattern_shape (new_map p ps) h = all_keys_simple ps h.1
pattern_shape (binary p gs) h = all_segs_simple gs h.1
pattern_shape _ h = never (assumption h)

of_term : (o : Option Term) → Where (Written false) o → is_written false (term_or_nil o) ≡ true
of_term None h = refl
of_term (Some v) h = h

pub term_written : (t : Tree) → Stands constant t → is_written false (constant_term t) ≡ true
term_written t h = of_term (constant_of false t) (constants_written false constant t h)

variable_shape : (t : Tree) → Stands a_variable t → Holds (all_pattern shapes (pattern_of t))
variable_shape (variable p x) h = one _ h.1
variable_shape (noted p t n) h = variable_shape t h.0
variable_shape _ h = never (assumption h)

value_shape : (t : Tree) → Stands segment_value t → Holds (all_pattern shapes (pattern_of t))
value_shape (variable p x) h = one _ h.1
value_shape (number p g z) h = one _ h.1
value_shape (wide p n) h = one _ refl
value_shape (noted p t n) h = variable_shape t h.0
value_shape _ h = never (assumption h)

pub shape_locals : Locals shapes Plain true
shape_locals = record {
  at_literal = λ p v h. one _ h;
  at_known = λ p v h. one _ h;
  at_variable = λ p x h. one _ h;
  at_expr = λ t d r h g. one _ (expr_shape t d r h g);
  at_pattern = λ t h. one _ (pattern_shape t h);
  at_value = value_shape;
  at_segment = λ p u n k f h j. one _ (and_in _ _ (term_written n h) (term_written f j));
  at_clause = λ p. none_held;
}
