-- Where no float and no wide integer is written, a binary of constant segments is one constant.
use Rattle.std.proofs.Common.{◌≡◌, refl, sym, ap, ◌∙◌, ℕ, suc, ℤ, pos, negsuc, Bool, true, false, not, ◌&&◌, List, [], ◌∷◌, Option, Some, None, codes, if◌then◌else◌}
use Rattle.erl_base.specs.Names.{same_name}
use Rattle.erl_base.specs.declared.ids.Place.{Place}
use Rattle.erl_term.specs.Term as T
use Rattle.erl_term.specs.Term.{Term}
use Rattle.erl_term.specs.Segments.{joined}
use Rattle.core_form.specs.Core as C
use Rattle.core_form.specs.Walks.{all_pattern}
use Rattle.core_form.specs.SourceTree.{binaries, is_no_constant_binary, are_constant_segments, is_constant_segment, are_flags}
use Rattle.core_grammar.specs.WrittenTree.{Tree, variable, atom, number, wide, float, character, string, noted, list, list_on, tuple, new_map, binary, Segment, segment, noted_segment, Segments, no_segment, and_segment}
use Rattle.core_grammar.specs.Standing.{Sort, expression, constant, an_atom, segment_value, a_variable, inner_sort, Stands, SegmentStands, SegmentsStand}
use Rattle.core_grammar.specs.ConstantTerms.{and_item, constant_list, constant_tuple, constant_map, constant_bits, constant_of, constants_of, constant_pairs_of, integer_value, count_value, is_integer_kind, is_constant_size, bits_with, bits_written, bits_of, segment_bits}
use Rattle.core_grammar.specs.Signs.{Sign, on, segment_on, segments_on}
use Rattle.core_grammar.specs.ModuleOf.{literal_or, term_or_nil, constant_term, atom_name, expr_of, pattern_of, segment_of, segments_of, float_seen, wide_seen}
use Rattle.core_grammar.proofs.Truths.{never, and_left, and_right, is_some, none_is_none, Holds, none_held}
use Rattle.core_grammar.proofs.Constants.{Each}
use Rattle.core_grammar.proofs.Literals.{some_bits}
use Rattle.core_grammar.proofs.KeysRead.{constant_there}
use Rattle.core_grammar.proofs.Past.{past, past_comma, past_segment}
use Rattle.core_grammar.proofs.Shapes.{one}
use Rattle.core_grammar.proofs.Walk.{Locals}

-- neither a float nor a wide integer
abbrev pub Clean : Sign → Type 0
Clean g = (float_seen g.sight ≡ None) × (wide_seen g.sight ≡ None)

-- the integer that a term is
abbrev pub int_in : Option Term → Option ℤ
int_in (Some (T.int z)) = Some z
int_in _ = None

-- an integer from 0 on
abbrev pub nat_part : Option ℤ → Option ℕ
nat_part (Some (pos n)) = Some n
nat_part _ = None

-- the integer that a literal is
abbrev pub int_of : C.Expr → Option ℤ
int_of (C.literal p t) = int_in (Some t)
int_of _ = None

list_no_int : (o : Option (List Term)) → None ≡ int_in (constant_list o (Some T.nil))
list_no_int None = refl
list_no_int (Some []) = refl
list_no_int (Some (x ∷ xs)) = refl

longer_no_int : (a : Option Term) (b : Option (List Term)) (c : Option Term)
    → None ≡ int_in (constant_list (and_item a b) c)
longer_no_int None b c = refl
longer_no_int (Some x) None c = refl
longer_no_int (Some x) (Some xs) None = refl
longer_no_int (Some x) (Some xs) (Some t) = refl

tuple_no_int : (o : Option (List Term)) → None ≡ int_in (constant_tuple o)
tuple_no_int None = refl
tuple_no_int (Some ts) = refl

map_no_int : (o : Option (List (Term × Term))) → None ≡ int_in (constant_map o)
map_no_int None = refl
map_no_int (Some ts) = refl

bits_no_int : (o : Option (List Bool)) → None ≡ int_in (constant_bits o)
bits_no_int None = refl
bits_no_int (Some bs) = refl

same_integer : (s : Sort) (t : Tree) (d : ℕ) (r : List Sign) → Each Clean (on false s d t r)
    → integer_value t ≡ int_in (constant_of false t)
same_integer s (number p b z) d r g = refl
same_integer s (wide p n) d r g = none_is_none (p, n) (sym g.0.1)
same_integer s (float p) d r g = none_is_none p (sym g.0.0)
same_integer s (character p c) d r g = refl
same_integer s (string p []) d r g = refl
same_integer s (string p (c ∷ cs)) d r g = refl
same_integer s (noted p t n) d r g = same_integer (inner_sort s) t (suc d) r g
same_integer s (list p ts) d r g = list_no_int (constants_of false ts)
same_integer s (list_on p t ts u) d r g = longer_no_int (constant_of false t) (constants_of false ts)
    (constant_of false u)
same_integer s (tuple p ts) d r g = tuple_no_int (constants_of false ts)
same_integer s (new_map p ps) d r g = map_no_int (constant_pairs_of false ps)
same_integer s (binary p gs) d r g = bits_no_int (segment_bits false gs)
same_integer s _ d r g = refl

same_count : (s : Sort) (t : Tree) (d : ℕ) (r : List Sign) → Each Clean (on false s d t r)
    → count_value t ≡ nat_part (integer_value t)
same_count s (number p b (pos n)) d r g = refl
same_count s (number p b (negsuc n)) d r g = refl
same_count s (wide p n) d r g = none_is_none (p, n) (sym g.0.1)
same_count s (noted p t n) d r g = same_count (inner_sort s) t (suc d) r g
same_count s _ d r g = refl

int_chosen : (p : Place) (o : Option Term) (e : C.Expr) → int_of e ≡ None → int_of (literal_or p o e) ≡ int_in o
int_chosen p None e h = h
int_chosen p (Some v) e h = refl

int_read : (t : Tree) → int_of (expr_of t) ≡ int_in (constant_of false t)
int_read (noted p t n) = int_read t
int_read (list p ts) = int_chosen p (constant_of false (list p ts)) _ refl
int_read (list_on p t ts u) = int_chosen p (constant_of false (list_on p t ts u)) _ refl
int_read (tuple p ts) = int_chosen p (constant_of false (tuple p ts)) _ refl
int_read (new_map p ps) = int_chosen p (constant_of false (new_map p ps)) _ refl
int_read (binary p gs) = int_chosen p (constant_of false (binary p gs)) _ refl
int_read _ = refl

-- what is there is the term
there : (o : Option Term) → is_some o ≡ true → o ≡ Some (term_or_nil o)
there None h = never h
there (Some t) h = refl

-- the parts of a constant segment
record Parts (v s : C.Expr) (u : Term) : Type 0 where
  value : ℤ
  size : ℕ
  unit : ℕ
  value_is : int_of v ≡ Some value
  size_is : nat_part (int_of s) ≡ Some size
  unit_is : nat_part (int_in (Some u)) ≡ Some unit
  fits : is_constant_size size unit ≡ true

parts : (v s : C.Expr) (u : Term) → is_constant_segment v s u ≡ true → Parts v s u
parts (C.literal p (T.int z)) (C.literal q (T.int (pos n))) (T.int (pos u)) h =
    record { value = z; size = n; unit = u; value_is = refl; size_is = refl; unit_is = refl; fits = h }
parts _ _ _ h = never h

if_true : {A : Type 0} (b : Bool) (x : A) → b ≡ true → is_some (if b then Some x else None) ≡ true
if_true true x h = refl
if_true false x h = never h

both_hold : (a b : Bool) → a ≡ true → b ≡ true → (a && b) ≡ true
both_hold true b h k = k
both_hold false b h k = h

bits_there : (f : Term) (n u : ℕ) (z : ℤ) → is_constant_size n u ≡ true → are_flags f ≡ true
    → is_some (bits_with f n u z) ≡ true
bits_there f n u z h k = if_true (is_constant_size n u && are_flags f) _ (both_hold _ _ h k)

integer_kind : (k : Tree) → Stands an_atom k → is_integer_kind k ≡ same_name (atom_name k) (codes "integer")
integer_kind (atom p a) h = refl
integer_kind (noted p t n) h = integer_kind t h.0
integer_kind _ h = never (assumption h)

all_joined : (a b : Option (List Bool)) → is_some a ≡ true → is_some b ≡ true → is_some (joined a b) ≡ true
all_joined None b h k = never h
all_joined (Some xs) None h k = never k
all_joined (Some xs) (Some ys) h k = refl

segment_there : (g : Segment) (d : ℕ) (r : List Sign) (gs : C.Segments) → SegmentStands expression g
    → Each Clean (segment_on false expression d g r)
    → are_constant_segments (C.and_segment (segment_of g) gs) ≡ true
    → (is_some (bits_of false g) ≡ true) × (are_constant_segments gs ≡ true)
segment_there (segment p t u n k f) d r gs h g c =
    let b = is_constant_segment (expr_of t) (expr_of u) (constant_term n) in
    let kind = same_name (atom_name k) (codes "integer") in
    let flags = are_flags (constant_term f) in
    let most = and_left ((b && kind) && flags) (are_constant_segments gs) c in
    let head = and_left (b && kind) flags most in
    let m = parts (expr_of t) (expr_of u) (constant_term n) (and_left b kind head) in
    let gu = (past Clean false expression d t _ g.1).1.1 in
    let gn = (past Clean false expression d u _ gu).1 in
    let value : integer_value t ≡ Some m.value = same_integer expression t d _ g.1 ∙ sym (int_read t) ∙ m.value_is in
    let size : count_value u ≡ Some m.size =
    same_count expression u d _ gu ∙ ap nat_part (same_integer expression u d _ gu ∙ sym (int_read u))
    ∙ m.size_is in
    let unit : count_value n ≡ Some m.unit =
    same_count constant n d _ gn ∙ ap nat_part (same_integer constant n d _ gn
    ∙ ap int_in (there (constant_of false n) (constant_there n h.2))) ∙ m.unit_is in
    let flag : constant_of false f ≡ Some (constant_term f) = there (constant_of false f) (constant_there f h.4) in (
      ap (λ x. is_some (if x then bits_written (integer_value t) (count_value u) (count_value n)
          (constant_of false f) else None))
          (integer_kind k h.3 ∙ and_right b kind head)
          ∙ ap (λ x. is_some (bits_written x (count_value u) (count_value n) (constant_of false f))) value
          ∙ ap (λ x. is_some (bits_written (Some m.value) x (count_value n) (constant_of false f))) size
          ∙ ap (λ x. is_some (bits_written (Some m.value) (Some m.size) x (constant_of false f))) unit
          ∙ ap (λ x. is_some (bits_written (Some m.value) (Some m.size) (Some m.unit) x)) flag
          ∙ bits_there (constant_term f) m.size m.unit m.value m.fits (and_right (b && kind) flags most),
      and_right ((b && kind) && flags) (are_constant_segments gs) c,
    )
segment_there (noted_segment s n) d r gs h g c = segment_there s (suc d) r gs h.0 g c

segments_there : (gs : Segments) (first : Bool) (d : ℕ) (r : List Sign) → SegmentsStand expression gs
    → Each Clean (segments_on false first expression d gs r) → are_constant_segments (segments_of gs) ≡ true
    → is_some (segment_bits false gs) ≡ true
segments_there no_segment first d r h g c = refl
segments_there (and_segment s gs) first d r h g c =
    let f = past_comma Clean first d _ g in
    let e = segment_there s d _ (segments_of gs) h.0 f c in
    all_joined (bits_of false s) (segment_bits false gs) e.0
    (segments_there gs false d r h.1 (past_segment Clean false expression d s _ f) e.1)

chosen : (p : Place) (o : Option Term) (e : C.Expr) → (is_some o ≡ false → is_no_constant_binary e ≡ true)
    → is_no_constant_binary (literal_or p o e) ≡ true
chosen p None e k = k refl
chosen p (Some v) e k = refl

none_of : (b c : Bool) → (b ≡ true → c ≡ true) → c ≡ false → not b ≡ true
none_of true c k n = never (sym n ∙ k refl)
none_of false c k n = refl

no_binary : (t : Tree) (d : ℕ) (r : List Sign) → Stands expression t → Each Clean (on false expression d t r)
    → is_no_constant_binary (expr_of t) ≡ true
no_binary (noted p t n) d r h g = no_binary t (suc d) r h.0 g
no_binary (list p ts) d r h g = chosen p (constant_of false (list p ts)) _ (λ n. refl)
no_binary (list_on p t ts u) d r h g = chosen p (constant_of false (list_on p t ts u)) _ (λ n. refl)
no_binary (tuple p ts) d r h g = chosen p (constant_of false (tuple p ts)) _ (λ n. refl)
no_binary (new_map p ps) d r h g = chosen p (constant_of false (new_map p ps)) _ (λ n. refl)
no_binary (binary p gs) d r h g =
    chosen p (constant_of false (binary p gs)) _
    (λ n. none_of (are_constant_segments (segments_of gs)) (is_some (segment_bits false gs))
    (λ c. segments_there gs true _ _ h.1 g.1 c) (sym (some_bits (segment_bits false gs)) ∙ n))
no_binary _ d r h g = refl

variable_value : (t : Tree) → Stands a_variable t → Holds (all_pattern binaries (pattern_of t))
variable_value (variable p x) h = none_held
variable_value (noted p t n) h = variable_value t h.0
variable_value _ h = never (assumption h)

value_held : (t : Tree) → Stands segment_value t → Holds (all_pattern binaries (pattern_of t))
value_held (variable p x) h = none_held
value_held (number p g z) h = none_held
value_held (wide p n) h = none_held
value_held (noted p t n) h = variable_value t h.0
value_held _ h = never (assumption h)

pub binary_locals : Locals binaries Clean false
binary_locals = record {
  at_literal = λ p v h. one _ refl;
  at_known = λ p v h. none_held;
  at_variable = λ p x h. one _ refl;
  at_expr = λ t d r h g. one _ (no_binary t d r h g);
  at_pattern = λ t h. none_held;
  at_value = value_held;
  at_segment = λ p u n k f h j. none_held;
  at_clause = λ p. none_held;
}
