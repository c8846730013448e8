-- The constants of a text are such as can be written.
use Rattle.std.proofs.Common.{arith, refl, ℕ, ◌^◌, ◌<◌, pos, Bool, true, false, ◌&&◌, List, [], ◌∷◌, Option, Some, None, IsTrue}
use Rattle.std.specs.Bool.{⊤}
use Rattle.std.proofs.lemmas.Bool.{ltb-true, lt-ltb}
use Rattle.std.specs.List.{list_all}
use Rattle.std.specs.declared.cmp.Ordering.{Ordering}
use Rattle.std.specs.declared.cmp.Ordering.TheVariants.{Less, Equal, Greater}
use Rattle.erl_term.specs.Term as T
use Rattle.erl_term.specs.Term.{Term}
use Rattle.erl_term.specs.TermOrder.{compare}
use Rattle.erl_term.specs.Terms.{terms, list_of, put, put_all}
use Rattle.erl_term.specs.Ranges.{is_within_128}
use Rattle.core_form.specs.SourceTree.{is_written, are_written, pairs_written}
use Rattle.core_grammar.specs.WrittenTree.{Tree, variable, atom, number, wide, float, character, string, function_name, external, noted, list, list_on, tuple, new_map, binary, Row, none, more, Pairs, no_pair, pair}
use Rattle.core_grammar.specs.Standing.{Sort, Stands, RowStands, PairsStand, inner_sort, item_sort, key_sort, is_code}
use Rattle.core_grammar.specs.ConstantTerms.{character_terms, and_item, constant_pair, constant_list, constant_tuple, constant_map, constant_bits, constant_of, constants_of, constant_pairs_of, segment_bits}
use Rattle.core_grammar.proofs.Truths.{and_in, and_left, and_right}

-- each has it
abbrev pub Each : {A : Type 0} → (A → Type 0) → List A → Type 0
Each P [] = ⊤
Each P (x ∷ xs) = P x × Each P xs

-- it has it where it is there
abbrev pub Where : {A : Type 0} → (A → Type 0) → Option A → Type 0
Where P None = ⊤
Where P (Some x) = P x

-- what both parts have
both_have : {A : Type 0} (P : A → Type 0) (o : Option A) (os : Option (List A)) → Where P o → Where (Each P) os
    → Where (Each P) (and_item o os)
both_have P None os h k = tt
both_have P (Some x) None h k = tt
both_have P (Some x) (Some xs) h k = (h, k)

pub code_within : (c : ℕ) → IsTrue (is_code c) → IsTrue (is_within_128 (pos c))
code_within c h =
    let l : c < 2 ^ 32 = ltb-true c (2 ^ 32) h in lt-ltb c (2 ^ 127) (omega (arith, l))

module _ (b : Bool) where
  -- the term can be written
  abbrev pub Written : Term → Type 0
  Written t = IsTrue (is_written b t)

  -- so can both sides of a pair
  abbrev pub PairWritten : Term × Term → Type 0
  PairWritten p = Written p.0 × Written p.1

  characters : (cs : List ℕ) → IsTrue (list_all is_code cs) → Each Written (character_terms cs)
  characters [] h = tt
  characters (c ∷ cs) h =
      (code_within c (and_left (is_code c) _ h), characters cs (and_right (is_code c) (list_all is_code cs) h))

  listed : (ts : List Term) (t : Term) → Each Written ts → Written t → Written (list_of ts t)
  listed [] t h k = k
  listed (x ∷ xs) t h k = and_in _ _ h.0 (listed xs t h.1 k)

  in_row : (ts : List Term) → Each Written ts → IsTrue (are_written b (terms ts))
  in_row [] h = refl
  in_row (x ∷ xs) h = and_in _ _ h.0 (in_row xs h.1)

  of_list : (o : Option (List Term)) (q : Option Term) → Where (Each Written) o → Where Written q
      → Where Written (constant_list o q)
  of_list None q h k = tt
  of_list (Some ts) None h k = tt
  of_list (Some ts) (Some t) h k = listed ts t h k

  of_tuple : (o : Option (List Term)) → Where (Each Written) o → Where Written (constant_tuple o)
  of_tuple None h = tt
  of_tuple (Some ts) h = in_row ts h

  of_pair : (o : Option Term) (x : Bool) (q : Option Term) → Where Written o → Where Written q
      → Where PairWritten (constant_pair o x q)
  of_pair (Some k) false (Some v) h g = (h, g)
  of_pair (Some k) false None h g = tt
  of_pair (Some k) true q h g = tt
  of_pair None x q h g = tt

  -- the pairs can be written
  abbrev pub PairsWritten : T.Pairs → Type 0
  PairsWritten ps = IsTrue (pairs_written b ps)

  chosen : (o : Ordering) (k v l w : Term) (ps qs : T.Pairs) → Written k → Written v → Written l → Written w
      → PairsWritten ps → PairsWritten qs
      → PairsWritten (elim o [ Less ↦ T.pair k v (T.pair l w ps) | Equal ↦ T.pair k v ps | Greater ↦ T.pair l w qs ])
  chosen Less k v l w ps qs a c d e f g = and_in _ _ (and_in _ _ a c) (and_in _ _ (and_in _ _ d e) f)
  chosen Equal k v l w ps qs a c d e f g = and_in _ _ (and_in _ _ a c) f
  chosen Greater k v l w ps qs a c d e f g = and_in _ _ (and_in _ _ d e) g

  put_in : (k v : Term) (ps : T.Pairs) → Written k → Written v → PairsWritten ps → PairsWritten (put k v ps)
  unfolding put compare
  put_in k v T.no_pair h g f = and_in _ _ (and_in _ _ h g) refl
  put_in k v (T.pair l w ps) h g f =
      let a = and_left (is_written b l && is_written b w) (pairs_written b ps) f in
      let rest = and_right (is_written b l && is_written b w) (pairs_written b ps) f in
      chosen (compare k l) k v l w ps (put k v ps) h g (and_left (is_written b l) (is_written b w) a)
      (and_right (is_written b l) (is_written b w) a) rest (put_in k v ps h g rest)

  all_put : (qs : List (Term × Term)) (ps : T.Pairs) → Each PairWritten qs → PairsWritten ps
      → PairsWritten (put_all qs ps)
  all_put [] ps h k = k
  all_put (q ∷ qs) ps h k = all_put qs (put q.0 q.1 ps) h.1 (put_in q.0 q.1 ps h.0.0 h.0.1 k)

of_map : (o : Option (List (Term × Term))) → Where (Each (PairWritten false)) o → Where (Written false) (constant_map o)
of_map None h = tt
of_map (Some ps) h = all_put false ps T.no_pair h refl

of_bits : (o : Option (List Bool)) → Where (Written false) (constant_bits o)
of_bits None = tt
of_bits (Some bs) = refl

mutual
  pub constants_written : (b : Bool) (s : Sort) (t : Tree) → Stands s t → Where (Written b) (constant_of b t)
  constants_written b s (variable p x) h = tt
  constants_written b s (atom p a) h = refl
  constants_written b s (number p g z) h = h.1
  constants_written b s (wide p n) h = refl
  constants_written b s (float p) h = refl
  constants_written b s (character p c) h = code_within c h.1
  constants_written b s (string p cs) h = listed b (character_terms cs) T.nil (characters b cs h.1) refl
  constants_written b s (function_name p a n) h = tt
  constants_written b s (external p m f n) h = h.1
  constants_written b s (noted p t n) h = constants_written b (inner_sort s) t h.0
  constants_written b s (list p ts) h =
      of_list b (constants_of b ts) (Some T.nil) (rows_written b (item_sort s) ts h.1) refl
  constants_written b s (list_on p t ts u) h =
      of_list b (and_item (constant_of b t) (constants_of b ts)) (constant_of b u)
      (both_have (Written b) (constant_of b t) (constants_of b ts) (constants_written b (item_sort s) t h.1)
      (rows_written b (item_sort s) ts h.2)) (constants_written b (item_sort s) u h.3)
  constants_written b s (tuple p ts) h = of_tuple b (constants_of b ts) (rows_written b (item_sort s) ts h.1)
  constants_written true s (new_map p ps) h = tt
  constants_written false s (new_map p ps) h = of_map (constant_pairs_of false ps) (all_pairs_written s ps h.1)
  constants_written true s (binary p gs) h = tt
  constants_written false s (binary p gs) h = of_bits (segment_bits false gs)
  constants_written b s _ h = tt

  rows_written : (b : Bool) (s : Sort) (ts : Row) → RowStands s ts → Where (Each (Written b)) (constants_of b ts)
  rows_written b s none h = tt
  rows_written b s (more t ts) h =
      both_have (Written b) (constant_of b t) (constants_of b ts) (constants_written b s t h.0)
      (rows_written b s ts h.1)

  all_pairs_written : (s : Sort) (ps : Pairs) → PairsStand s ps
      → Where (Each (PairWritten false)) (constant_pairs_of false ps)
  all_pairs_written s no_pair h = tt
  all_pairs_written s (pair t x u ps) h =
      both_have (PairWritten false) (constant_pair (constant_of false t) x (constant_of false u))
      (constant_pairs_of false ps)
      (of_pair false (constant_of false t) x (constant_of false u) (constants_written false (key_sort s) t h.0)
      (constants_written false (item_sort s) u h.2)) (all_pairs_written s ps h.3)
