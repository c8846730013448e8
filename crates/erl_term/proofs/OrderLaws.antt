-- The order of terms is total, and tells them apart.
use Rattle.std.proofs.Common.{◌≡◌, ℕ, ℤ, pos, List, [], ◌∷◌, Bool, true, false, refl, sym, ap, ap₂, ◌∙◌, subst, ◌<◌, ◌<ℤ◌, ◌↔◌}
use Rattle.std.specs.declared.cmp.Ordering.{Ordering}
use Rattle.std.specs.declared.cmp.Ordering.TheVariants.{Less, Equal, Greater}
use Rattle.std.specs.Ordering.{nat_cmp, int_cmp, bool_cmp, ordering_then, ordering_reverse, MatchOrdering}
use Rattle.std.specs.Cmp.{IsTotalOrder}
use Rattle.std.specs.Cmp.Lexicographic.{slice_cmp}
use Rattle.std.proofs.lemmas.Cmp.{ranked, int_ranked, on_total, tied_itself}
use Rattle.erl_term.specs.Term.{Term, int, atom, nil, cons, tuple, map, bits, fun, extern, pid, reference, port, raw_trace, Terms, none, more, Pairs, no_pair, pair, Class, error, exit, throw}
use Rattle.erl_term.specs.TermOrder.{class_rank, count, pair_count, compare, compare_all, compare_keys, compare_values}
use Rattle.erl_term.proofs.Comparing.{then-assoc}
use Rattle.erl_term.proofs.OrderCode.{Key, Code, node, Codes, key_cmp, code_cmp, codes_cmp, code_total}
use Rattle.erl_term.proofs.OrderCode as C

abbrev key : ℕ → Key
key n = record { rank = n; size = 0; number = pos 0; name = []; other = []; site = 0; arity = 0; bits = [] }

abbrev leaf : Key → Code
leaf k = node k C.none C.none

-- a term as a tree with keys
abbrev mutual
  code : Term → Code
  code (int z) = leaf (record (key 0) { number = z })
  code (atom a) = leaf (record (key 1) { name = a })
  code (reference n) = leaf (record (key 2) { size = n })
  code (fun m s a ts) = node (record (key 3) { name = m; site = s; arity = a }) (codes ts) C.none
  code (extern m f a) = leaf (record (key 4) { name = m; other = f; arity = a })
  code (port n) = leaf (record (key 5) { size = n })
  code (pid n) = leaf (record (key 6) { size = n })
  code (tuple ts) = node (record (key 7) { size = count ts }) (codes ts) C.none
  code (map ps) = node (record (key 8) { size = pair_count ps }) (keys ps) (values ps)
  code nil = leaf (key 9)
  code (cons x y) = node (key 10) (C.more (code x) C.none) (C.more (code y) C.none)
  code (bits bs) = leaf (record (key 11) { bits = bs })
  code (raw_trace c) = leaf (record (key 12) { size = class_rank c })

  codes : Terms → Codes
  codes none = C.none
  codes (more t ts) = C.more (code t) (codes ts)

  keys : Pairs → Codes
  keys no_pair = C.none
  keys (pair k v ps) = C.more (code k) (keys ps)

  values : Pairs → Codes
  values no_pair = C.none
  values (pair k v ps) = C.more (code v) (values ps)

and_no_more : (o : Ordering) → ordering_then o Equal ≡ o
and_no_more Less = refl
and_no_more Equal = refl
and_no_more Greater = refl

plain : (o : Ordering) → o ≡ ordering_then (ordering_then o Equal) Equal
plain o = sym (and_no_more (ordering_then o Equal) ∙ and_no_more o)

with_row : (o p : Ordering) → ordering_then o p ≡ ordering_then (ordering_then o Equal) (ordering_then p Equal)
with_row o p = sym (ap₂ ordering_then (and_no_more o) (and_no_more p))

fun_heads : (a b c d : Ordering) → ordering_then a (ordering_then b (ordering_then c d))
    ≡ ordering_then (ordering_then a (ordering_then b (ordering_then c Equal))) (ordering_then d Equal)
fun_heads a b c d =
    ap (ordering_then a) (then-assoc b c d) ∙ then-assoc a (ordering_then b c) d
    ∙ sym (ap₂ (λ x y. ordering_then (ordering_then a (ordering_then b x)) y) (and_no_more c) (and_no_more d))

mutual
  unfolding compare

  agrees : (a b : Term) → compare a b ≡ code_cmp (code a) (code b)
  agrees (int a) (int b) = plain (int_cmp a b)
  agrees (atom a) (atom b) = plain (slice_cmp nat_cmp a b)
  agrees (reference a) (reference b) = plain (nat_cmp a b)
  agrees (fun m s a ts) (fun n u b us) =
      ap (λ o. ordering_then (slice_cmp nat_cmp m n) (ordering_then (nat_cmp s u) (ordering_then (nat_cmp a b) o)))
      (agrees_all ts us)
      ∙ fun_heads (slice_cmp nat_cmp m n) (nat_cmp s u) (nat_cmp a b) (codes_cmp (codes ts) (codes us))
  agrees (extern m f a) (extern n g b) =
      ap (λ o. ordering_then (slice_cmp nat_cmp m n) (ordering_then (slice_cmp nat_cmp f g) o))
      (sym (and_no_more (nat_cmp a b)))
      ∙ sym (and_no_more _)
  agrees (port a) (port b) = plain (nat_cmp a b)
  agrees (pid a) (pid b) = plain (nat_cmp a b)
  agrees (tuple ts) (tuple us) =
      ap (ordering_then (nat_cmp (count ts) (count us))) (agrees_all ts us)
      ∙ with_row (nat_cmp (count ts) (count us)) (codes_cmp (codes ts) (codes us))
  agrees (map ps) (map qs) =
      ap₂ (λ o p. ordering_then (nat_cmp (pair_count ps) (pair_count qs)) (ordering_then o p)) (agrees_keys ps qs)
      (agrees_values ps qs)
      ∙ ap (λ o. ordering_then o (ordering_then (codes_cmp (keys ps) (keys qs)) (codes_cmp (values ps) (values qs))))
      (sym (and_no_more (nat_cmp (pair_count ps) (pair_count qs))))
  agrees nil nil = refl
  agrees (cons x y) (cons z w) =
      ap₂ ordering_then (agrees x z) (agrees y w) ∙ with_row (code_cmp (code x) (code z)) (code_cmp (code y) (code w))
  agrees (bits a) (bits b) = sym (and_no_more (slice_cmp bool_cmp a b))
  agrees (raw_trace a) (raw_trace b) = plain (nat_cmp (class_rank a) (class_rank b))
  agrees a b = refl

  agrees_all : (ts us : Terms) → compare_all ts us ≡ codes_cmp (codes ts) (codes us)
  agrees_all none none = refl
  agrees_all none (more u us) = refl
  agrees_all (more t ts) none = refl
  agrees_all (more t ts) (more u us) = ap₂ ordering_then (agrees t u) (agrees_all ts us)

  agrees_keys : (ps qs : Pairs) → compare_keys ps qs ≡ codes_cmp (keys ps) (keys qs)
  agrees_keys no_pair no_pair = refl
  agrees_keys no_pair (pair l w qs) = refl
  agrees_keys (pair k v ps) no_pair = refl
  agrees_keys (pair k v ps) (pair l w qs) = ap₂ ordering_then (agrees k l) (agrees_keys ps qs)

  agrees_values : (ps qs : Pairs) → compare_values ps qs ≡ codes_cmp (values ps) (values qs)
  agrees_values no_pair no_pair = refl
  agrees_values no_pair (pair l w qs) = refl
  agrees_values (pair k v ps) no_pair = refl
  agrees_values (pair k v ps) (pair l w qs) = ap₂ ordering_then (agrees v w) (agrees_values ps qs)

abbrev by_code : Term → Term → Ordering
by_code a b = code_cmp (code a) (code b)

by_code_total : IsTotalOrder by_code
by_code_total = on_total code code_total

pub total : IsTotalOrder compare
total = record {
  antisymm = λ x y. agrees x y ∙ by_code_total.antisymm x y ∙ ap ordering_reverse (sym (agrees y x));
  trans = λ x y z p q. agrees x z ∙ by_code_total.trans x y z (sym (agrees x y) ∙ p) (sym (agrees y z) ∙ q);
  congr = λ x y z p. agrees x z ∙ by_code_total.congr x y z (sym (agrees x y) ∙ p) ∙ sym (agrees y z);
}

first_equal : (a b : Ordering) → ordering_then a b ≡ Equal → (a ≡ Equal) × (b ≡ Equal)
first_equal Less b e = absurd cc
first_equal Equal b e = (refl, e)
first_equal Greater b e = absurd cc

nat_same : (x y : ℕ) → nat_cmp x y ≡ Equal → x ≡ y
nat_same x y e = subst (λ o. MatchOrdering o (x < y) (x ≡ y) (y < x)) e (ranked x y (nat_cmp x y) refl)

int_same : (x y : ℤ) → int_cmp x y ≡ Equal → x ≡ y
int_same x y e = subst (λ o. MatchOrdering o (x <ℤ y) (x ≡ y) (y <ℤ x)) e (int_ranked x y (int_cmp x y) refl)

bool_same : (x y : Bool) → bool_cmp x y ≡ Equal → x ≡ y
bool_same false false e = refl
bool_same false true e = absurd cc
bool_same true false e = absurd cc
bool_same true true e = refl

list_same : {A : Type 0} (R : A → A → Ordering) → ((x y : A) → R x y ≡ Equal → x ≡ y) → (xs ys : List A)
    → slice_cmp R xs ys ≡ Equal → xs ≡ ys
list_same R same [] [] e = refl
list_same R same [] (y ∷ ys) e = absurd cc
list_same R same (x ∷ xs) [] e = absurd cc
list_same R same (x ∷ xs) (y ∷ ys) e =
    let h = first_equal _ _ e in ap₂ (λ z zs. z ∷ zs) (same x y h.0) (list_same R same xs ys h.1)

name_same : (x y : List ℕ) → slice_cmp nat_cmp x y ≡ Equal → x ≡ y
name_same = list_same nat_cmp nat_same

class_same : (x y : Class) → nat_cmp (class_rank x) (class_rank y) ≡ Equal → x ≡ y
class_same error error e = refl
class_same exit exit e = refl
class_same throw throw e = refl
class_same x y e = absurd cc

mutual
  unfolding compare

  pub same : (a b : Term) → compare a b ≡ Equal → a ≡ b
  same (int a) (int b) e = ap int (int_same a b e)
  same (atom a) (atom b) e = ap atom (name_same a b e)
  same (reference a) (reference b) e = ap reference (nat_same a b e)
  same (fun m s a ts) (fun n u b us) e =
      let h = first_equal _ _ e in
      let k = first_equal _ _ h.1 in
      let l = first_equal _ _ k.1 in
      λ i. fun (name_same m n h.0 i) (nat_same s u k.0 i) (nat_same a b l.0 i) (same_all ts us l.1 i)
  same (extern m f a) (extern n g b) e =
      let h = first_equal _ _ e in
      let k = first_equal _ _ h.1 in
      λ i. extern (name_same m n h.0 i) (name_same f g k.0 i) (nat_same a b k.1 i)
  same (port a) (port b) e = ap port (nat_same a b e)
  same (pid a) (pid b) e = ap pid (nat_same a b e)
  same (tuple ts) (tuple us) e = ap tuple (same_all ts us (first_equal _ _ e).1)
  same (map ps) (map qs) e =
      let h = first_equal _ _ e in
      let k = first_equal _ _ h.1 in
      ap map (same_pairs ps qs k.0 k.1)
  same nil nil e = refl
  same (cons x y) (cons z w) e = let h = first_equal _ _ e in ap₂ cons (same x z h.0) (same y w h.1)
  same (bits a) (bits b) e = ap bits (list_same bool_cmp bool_same a b e)
  same (raw_trace a) (raw_trace b) e = ap raw_trace (class_same a b e)
  same a b e = absurd cc

  same_all : (ts us : Terms) → compare_all ts us ≡ Equal → ts ≡ us
  same_all none none e = refl
  same_all none (more u us) e = absurd cc
  same_all (more t ts) none e = absurd cc
  same_all (more t ts) (more u us) e = let h = first_equal _ _ e in ap₂ more (same t u h.0) (same_all ts us h.1)

  same_pairs : (ps qs : Pairs) → compare_keys ps qs ≡ Equal → compare_values ps qs ≡ Equal → ps ≡ qs
  same_pairs no_pair no_pair e f = refl
  same_pairs no_pair (pair k v qs) e f = absurd cc
  same_pairs (pair k v ps) no_pair e f = absurd cc
  same_pairs (pair k v ps) (pair l w qs) e f =
      let h = first_equal _ _ e in
      let g = first_equal _ _ f in
      λ i. pair (same k l h.0 i) (same v w g.0 i) (same_pairs ps qs h.1 g.1 i)

pub apart : (a b : Term) → (compare a b ≡ Equal) ↔ (a ≡ b)
apart a b = (same a b, λ e. ap (compare a) (sym e) ∙ tied_itself total a)

pub same_when_equal : (a b : Term) (o : Ordering) → o ≡ compare a b → (o ≡ Equal) ↔ (a ≡ b)
same_when_equal a b o e = (λ p. same a b (sym e ∙ p), λ p. e ∙ (apart a b).1 p)
