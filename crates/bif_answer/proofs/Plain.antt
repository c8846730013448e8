-- Parts of plain terms, as the definition of answers has them and as the calls on values give them.
use Rattle.std.proofs.Common.{◌≡◌, refl, sym, ap, ◌∙◌, ℕ, zero, suc, ◌/◌, ◌%◌, ◌≤◌, List}
use Rattle.std.proofs.Common.{length, Bool, true, false, ◌&&◌, eqb, Some, None, ℤ, pos, negsuc, arith}
use Rattle.std.specs.Prelude.{option_map, slice_get, ◌<ℤ◌}
use Rattle.std.proofs.lemmas.Int.{ints}
use Rattle.std.proofs.lemmas.Option.{slice_get_past}
use Rattle.erl_term.specs.Term as T
use Rattle.erl_term.specs.Term.{Term, Terms, none, more, Pairs, no_pair, pair}
use Rattle.erl_term.specs.TermOrder.{count, pair_count, same_term}
use Rattle.erl_term.specs.Terms.{listed, word, truth, is_there}
use Rattle.bif_table.specs.BuiltinAnswer as B
use Rattle.bif_table.specs.BuiltinAnswer.{Answer}
use Rattle.bif_table.specs.Kinds as K
use Rattle.shared_term.specs.Parts.{head_of, tail_of, elements_of, element_of, value_of, bit_count_of, key_count_of}
use Rattle.shared_term.specs.Parts.{fun_arity_of}

count-listed : (ts : Terms) → count ts ≡ length (listed ts)
count-listed none = refl
count-listed (more t ts) = ap suc (count-listed ts)

nth-listed : (n : ℕ) (ts : Terms) → B.nth n ts ≡ slice_get (listed ts) n
nth-listed n none = refl
nth-listed zero (more t ts) = refl
nth-listed (suc n) (more t ts) = nth-listed n ts

-- numbers
pub no_number : (f : ℤ → ℤ) (t : Term) (r : Answer) → K.is_int t ≡ false → B.of_number f t r ≡ r
no_number f (T.int z) r e = absurd cc
no_number f t r e = refl

pub no_numbers : (f : ℤ → ℤ → Answer) (t u : Term) → (K.is_int t && K.is_int u) ≡ false
    → B.of_numbers f t u ≡ B.badarith
no_numbers f (T.int x) (T.int y) e = absurd cc
no_numbers f t u e = refl

pub by_zero : (z : ℤ) (r : Answer) → z ≡ pos zero → B.unless_zero z r ≡ B.badarith
by_zero z r e = ap (λ x. B.unless_zero x r) e

pub by_another : (z : ℤ) (r : Answer) → (z ≡ pos zero → ⊥) → B.unless_zero z r ≡ r
by_another (pos zero) r h = absurd (h refl)
by_another (pos (suc n)) r h = refl
by_another (negsuc n) r h = refl

-- sizes
pub sized_tuple : (t : Term) (n : ℕ) → Some n ≡ option_map length (elements_of t) → B.tuple_size t ≡ B.number_of n
sized_tuple (T.tuple ts) n e =
    let h : n ≡ length (listed ts) = cc in ap B.number_of (count-listed ts ∙ sym h)
sized_tuple t n e = absurd cc

pub unsized_tuple : (t : Term) → None ≡ option_map length (elements_of t) → B.tuple_size t ≡ B.bad_argument
unsized_tuple (T.tuple ts) e = absurd cc
unsized_tuple t e = refl

pub size_of_tuple : (t : Term) (n : ℕ) → Some n ≡ option_map length (elements_of t) → B.size t ≡ B.number_of n
size_of_tuple (T.tuple ts) n e =
    let h : n ≡ length (listed ts) = cc in ap B.number_of (count-listed ts ∙ sym h)
size_of_tuple t n e = absurd cc

pub size_of_bits : (t : Term) (n : ℕ) → Some n ≡ bit_count_of t → B.size t ≡ B.number_of (n / 8)
size_of_bits (T.bits bs) n e = let h : n ≡ length bs = cc in ap (λ k. B.number_of (k / 8)) (sym h)
size_of_bits t n e = absurd cc

pub no_size : (t : Term) → None ≡ option_map length (elements_of t) → None ≡ bit_count_of t → B.size t ≡ B.bad_argument
no_size (T.tuple ts) e f = absurd cc
no_size (T.bits bs) e f = absurd cc
no_size t e f = refl

pub bits_sized : (f : ℕ → ℕ) (t : Term) (n : ℕ) → Some n ≡ bit_count_of t → B.bits_size f t ≡ B.number_of (f n)
bits_sized f (T.bits bs) n e = let h : n ≡ length bs = cc in ap (λ k. B.number_of (f k)) (sym h)
bits_sized f t n e = absurd cc

pub bits_unsized : (f : ℕ → ℕ) (t : Term) → None ≡ bit_count_of t → B.bits_size f t ≡ B.bad_argument
bits_unsized f (T.bits bs) e = absurd cc
bits_unsized f t e = refl

pub whole_bytes : (t : Term) (n : ℕ) → Some n ≡ bit_count_of t → K.is_bytes t ≡ eqb (n % 8) 0
whole_bytes (T.bits bs) n e = let h : n ≡ length bs = cc in ap (λ k. eqb (k % 8) 0) (sym h)
whole_bytes t n e = absurd cc

pub no_bytes : (t : Term) → None ≡ bit_count_of t → K.is_bytes t ≡ false
no_bytes (T.bits bs) e = absurd cc
no_bytes t e = refl

pub sized_map : (t : Term) (n : ℕ) → Some n ≡ key_count_of t → B.map_size t ≡ B.number_of n
sized_map (T.map ps) n e = let h : n ≡ pair_count ps = cc in ap B.number_of (sym h)
sized_map t n e = absurd cc

pub unsized_map : (t : Term) → None ≡ key_count_of t → B.map_size t ≡ B.badmap t
unsized_map (T.map ps) e = absurd cc
unsized_map t e = refl

-- lists
pub head_there : (t x : Term) → Some x ≡ head_of t → B.head t ≡ B.value x
head_there (T.cons y z) x e = let h : x ≡ y = cc in ap B.value (sym h)
head_there t x e = absurd cc

pub head_missing : (t : Term) → None ≡ head_of t → B.head t ≡ B.bad_argument
head_missing (T.cons y z) e = absurd cc
head_missing t e = refl

pub tail_there : (t x : Term) → Some x ≡ tail_of t → B.tail t ≡ B.value x
tail_there (T.cons y z) x e = let h : x ≡ z = cc in ap B.value (sym h)
tail_there t x e = absurd cc

pub tail_missing : (t : Term) → None ≡ tail_of t → B.tail t ≡ B.bad_argument
tail_missing (T.cons y z) e = absurd cc
tail_missing t e = refl

-- how many cells a list has, proper or not
abbrev pub cells_in : Term → ℕ
cells_in (T.cons x y) = suc (cells_in y)
cells_in _ = 0

pub cells_fewer : (t x : Term) → Some x ≡ tail_of t → cells_in t ≡ suc (cells_in x)
cells_fewer (T.cons y z) x e = let h : x ≡ z = cc in ap (λ u. suc (cells_in u)) (sym h)
cells_fewer t x e = absurd cc

pub items_more : (n : ℕ) (t x : Term) → Some x ≡ tail_of t → B.items n t ≡ B.items (suc n) x
items_more n (T.cons y z) x e = let h : x ≡ z = cc in ap (B.items (suc n)) (sym h)
items_more n t x e = absurd cc

pub items_end : (n : ℕ) (t : Term) → None ≡ tail_of t → K.is_nil t ≡ false → B.items n t ≡ B.bad_argument
items_end n (T.cons y z) e f = absurd cc
items_end n T.nil e f = absurd cc
items_end n t e f = refl

-- elements
pub element_there : (n : ℕ) (u x : Term) (ts : List Term) → Some ts ≡ elements_of u → Some x ≡ slice_get ts n
    → B.element (T.int (pos (suc n))) u ≡ B.value x
element_there n (T.tuple us) x ts e f =
    let h : ts ≡ listed us = cc in
    ap B.or_badarg (nth-listed n us ∙ ap (λ vs. slice_get vs n) (sym h) ∙ sym f)
element_there n u x ts e f = absurd cc

pub no_element : (t u : Term) (ts : List Term) → Some ts ≡ elements_of u
    → ((n : ℕ) → t ≡ T.int (pos (suc n)) → length ts ≤ n) → B.element t u ≡ B.bad_argument
no_element (T.int (pos (suc n))) (T.tuple us) ts e f =
    let h : ts ≡ listed us = cc in
    ap B.or_badarg (nth-listed n us ∙ ap (λ vs. slice_get vs n) (sym h) ∙ slice_get_past ts n (f n refl))
no_element t u ts e f = refl

pub no_elements : (t u : Term) → None ≡ elements_of u → B.element t u ≡ B.bad_argument
no_elements (T.int (pos (suc n))) (T.tuple us) e = absurd cc
no_elements t u e = refl

-- keys of maps
pub key_sought : (k m : Term) (n : ℕ) → Some n ≡ key_count_of m
    → B.is_map_key k m ≡ B.value (truth (is_there (value_of k m)))
unfolding B.is_map_key
key_sought k (T.map ps) n e = refl
key_sought k m n e = absurd cc

pub key_of_no_map : (k m : Term) → None ≡ key_count_of m → B.is_map_key k m ≡ B.badmap m
unfolding B.is_map_key
key_of_no_map k (T.map ps) e = absurd cc
key_of_no_map k m e = refl

pub value_there : (k m x : Term) → Some x ≡ value_of k m → B.map_get k m ≡ B.value x
unfolding B.map_get
value_there k (T.map ps) x e = ap (B.or_badkey k) (sym e)
value_there k m x e = absurd cc

pub value_missing : (k m : Term) (n : ℕ) → Some n ≡ key_count_of m → None ≡ value_of k m → B.map_get k m ≡ B.badkey k
unfolding B.map_get
value_missing k (T.map ps) n e f = ap (B.or_badkey k) (sym f)
value_missing k m n e f = absurd cc

pub value_of_no_map : (k m : Term) → None ≡ key_count_of m → B.map_get k m ≡ B.badmap m
unfolding B.map_get
value_of_no_map k (T.map ps) e = absurd cc
value_of_no_map k m e = refl

-- funs of an arity
pub arity_there : (t : Term) (a n : ℕ) → Some a ≡ fun_arity_of t → K.has_arity t n ≡ eqb a n
arity_there (T.fun m s b ts) a n e = let h : a ≡ b = cc in ap (λ k. eqb k n) (sym h)
arity_there (T.extern m f b) a n e = let h : a ≡ b = cc in ap (λ k. eqb k n) (sym h)
arity_there t a n e = absurd cc

pub no_arity : (t : Term) (n : ℕ) → None ≡ fun_arity_of t → K.has_arity t n ≡ false
no_arity (T.fun m s b ts) n e = absurd cc
no_arity (T.extern m f b) n e = absurd cc
no_arity t n e = refl

pub asked_arity : (t u : Term) (n : ℕ) → u ≡ T.int (pos n) → B.is_fun_of t u ≡ B.value (truth (K.has_arity t n))
asked_arity t u n e = ap (B.is_fun_of t) e

pub below_arity : (t u : Term) (z : ℤ) → u ≡ T.int z → z <ℤ pos 0 → B.is_fun_of t u ≡ B.bad_argument
below_arity t u (pos n) e h = absurd (omega (arith, ints))
below_arity t u (negsuc n) e h = ap (B.is_fun_of t) e

pub no_asked_arity : (t u : Term) → K.is_int u ≡ false → B.is_fun_of t u ≡ B.bad_argument
no_asked_arity t (T.int z) e = absurd cc
no_asked_arity t u e = refl

-- records
pub tag_there : (t x : Term) (a : List ℕ) → Some x ≡ element_of 0 t → B.has_tag t a ≡ same_term x (word a)
unfolding B.has_tag
tag_there (T.tuple none) x a e = absurd cc
tag_there (T.tuple (more y ys)) x a e = let h : x ≡ y = cc in ap (λ z. same_term z (word a)) (sym h)
tag_there t x a e = absurd cc

pub no_tag : (t : Term) (a : List ℕ) → None ≡ element_of 0 t → B.has_tag t a ≡ false
unfolding B.has_tag
no_tag (T.tuple none) a e = refl
no_tag (T.tuple (more y ys)) a e = absurd cc
no_tag t a e = refl

eqb_same : (n : ℕ) → eqb n n ≡ true
eqb_same n = grind arith

eqb_other : (m n : ℕ) → (m ≡ n → ⊥) → eqb m n ≡ false
eqb_other m n h = grind arith

pub this_size : (t : Term) (n : ℕ) → Some n ≡ option_map length (elements_of t) → B.has_size t (pos n) ≡ true
this_size (T.tuple ts) n e =
    let h : n ≡ length (listed ts) = cc in
    ap (λ k. eqb k n) (count-listed ts ∙ sym h) ∙ eqb_same n
this_size t n e = absurd cc

pub other_size : (t : Term) (n : ℕ) (z : ℤ) → Some n ≡ option_map length (elements_of t) → (z ≡ pos n → ⊥)
    → B.has_size t z ≡ false
other_size (T.tuple ts) n (pos m) e f =
    let h : n ≡ length (listed ts) = cc in
    ap (λ k. eqb k m) (count-listed ts ∙ sym h) ∙ eqb_other n m (λ g. f (ap pos (sym g)))
other_size t n z e f = refl

pub no_tuple_size : (t : Term) (z : ℤ) → None ≡ option_map length (elements_of t) → B.has_size t z ≡ false
no_tuple_size (T.tuple ts) z e = absurd cc
no_tuple_size t z e = refl

abbrev pub Tags : Term → Term → Bool → Type 0
Tags t u b = (a : List ℕ) → u ≡ word a → b ≡ B.has_tag t a

pub recorded : (t u : Term) (b : Bool) → K.is_atom u ≡ true → Tags t u b → B.is_record t u ≡ B.value (truth b)
unfolding B.is_record
recorded t (T.atom a) b e h = ap (λ c. B.value (truth c)) (sym (h a refl))
recorded t u b e h = absurd cc

pub no_record : (t u : Term) → K.is_atom u ≡ false → B.is_record t u ≡ B.bad_argument
unfolding B.is_record
no_record t (T.atom a) e = absurd cc
no_record t u e = refl

pub recorded_of : (t u v : Term) (y z : ℤ) (b : Bool) → K.is_atom u ≡ true → v ≡ T.int z → y ≡ z
    → ((a : List ℕ) → u ≡ word a → b ≡ (B.has_tag t a && B.has_size t y))
    → B.is_record_of t u v ≡ B.value (truth b)
unfolding B.is_record_of
recorded_of t (T.atom a) v y z b e f g h =
    ap (B.is_record_of t (T.atom a)) (f ∙ ap T.int (sym g)) ∙ ap (λ c. B.value (truth c)) (sym (h a refl))
recorded_of t u v y z b e f g h = absurd cc

-- both tests
pub tagged_too : (b : Bool) (c d : Bool) → true ≡ b → d ≡ c → d ≡ (b && c)
tagged_too true c d e f = f
tagged_too false c d e f = absurd cc

pub untagged : (b c : Bool) → false ≡ b → false ≡ (b && c)
untagged true c e = absurd cc
untagged false c e = refl

pub ruleset tagged_and_sized = (tagged_too, untagged)

pub no_tag_of : (t u v : Term) → K.is_atom u ≡ false → B.is_record_of t u v ≡ B.bad_argument
unfolding B.is_record_of
no_tag_of t (T.atom a) v e = absurd cc
no_tag_of t u v e = refl

pub no_size_of : (t u v : Term) → K.is_int v ≡ false → B.is_record_of t u v ≡ B.bad_argument
unfolding B.is_record_of
no_size_of t (T.atom a) (T.int z) e = absurd cc
no_size_of t u v e = refl

pub ruleset numbers = (no_number, no_numbers, by_zero, by_another)

pub ruleset sizes = (
  sized_tuple,
  unsized_tuple,
  size_of_tuple,
  size_of_bits,
  no_size,
  bits_sized,
  bits_unsized,
  sized_map,
  unsized_map,
)

pub ruleset lists = (head_there, head_missing, tail_there, tail_missing, items_more, items_end, cells_fewer)

pub ruleset keys = (key_sought, key_of_no_map, value_there, value_missing, value_of_no_map)

pub ruleset arities = (arity_there, no_arity, asked_arity, below_arity, no_asked_arity)

pub ruleset records = (
  tag_there,
  no_tag,
  this_size,
  other_size,
  no_tuple_size,
  recorded,
  no_record,
  recorded_of,
  no_tag_of,
  no_size_of,
)
