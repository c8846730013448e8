-- Trees with a key at each node and two rows below it, and their order, which is total.
use Rattle.std.proofs.Common.{◌≡◌, ℕ, ℤ, List, Bool, refl, sym, ap, ap₂, ◌∙◌}
use Rattle.std.specs.declared.cmp.Ordering.{Ordering}
use Rattle.std.specs.declared.cmp.Ordering.TheVariants.{Less, Equal, Greater}
use Rattle.std.specs.Ordering.{nat_cmp, int_cmp, bool_cmp, ordering_then, ordering_reverse}
use Rattle.std.specs.Cmp.{IsTotalOrder, bool_cmp_total}
use Rattle.std.specs.Cmp.Lexicographic.{slice_cmp}
use Rattle.std.proofs.lemmas.Cmp.{nat_cmp_total, int_cmp_total, nat_list_cmp_total, lists_total, on_total, then_total, alike_right}

pub record Key : Type 0 where
  pub rank : ℕ
  pub size : ℕ
  pub number : ℤ
  pub name : List ℕ
  pub other : List ℕ
  pub site : ℕ
  pub arity : ℕ
  pub bits : List Bool

mutual
  pub data Code : Type 0 where
    node : Key → Codes → Codes → Code

  pub data Codes : Type 0 where
    none : Codes
    more : Code → Codes → Codes

abbrev by_rank : Key → Key → Ordering
by_rank k l = nat_cmp k.rank l.rank

abbrev by_size : Key → Key → Ordering
by_size k l = nat_cmp k.size l.size

abbrev by_number : Key → Key → Ordering
by_number k l = int_cmp k.number l.number

abbrev by_name : Key → Key → Ordering
by_name k l = slice_cmp nat_cmp k.name l.name

abbrev by_other : Key → Key → Ordering
by_other k l = slice_cmp nat_cmp k.other l.other

abbrev by_site : Key → Key → Ordering
by_site k l = nat_cmp k.site l.site

abbrev by_arity : Key → Key → Ordering
by_arity k l = nat_cmp k.arity l.arity

abbrev by_bits : Key → Key → Ordering
by_bits k l = slice_cmp bool_cmp k.bits l.bits

abbrev pub key_cmp : Key → Key → Ordering
key_cmp k l =
    ordering_then (by_rank k l) (ordering_then (by_size k l) (ordering_then (by_number k l) (ordering_then (by_name k l)
    (ordering_then (by_other k l) (ordering_then (by_site k l) (ordering_then (by_arity k l) (by_bits k l)))))))

abbrev mutual
  pub code_cmp : Code → Code → Ordering
  code_cmp (node k as' bs) (node l cs ds) =
      ordering_then (key_cmp k l) (ordering_then (codes_cmp as' cs) (codes_cmp bs ds))

  pub codes_cmp : Codes → Codes → Ordering
  codes_cmp none none = Equal
  codes_cmp none (more y ys) = Less
  codes_cmp (more x xs) none = Greater
  codes_cmp (more x xs) (more y ys) = ordering_then (code_cmp x y) (codes_cmp xs ys)

key_total : IsTotalOrder key_cmp
key_total =
    then_total {R = by_rank} (on_total (λ (k : Key). k.rank) nat_cmp_total)
    (then_total {R = by_size} (on_total (λ (k : Key). k.size) nat_cmp_total)
    (then_total {R = by_number} (on_total (λ (k : Key). k.number) int_cmp_total)
    (then_total {R = by_name} (on_total (λ (k : Key). k.name) nat_list_cmp_total)
    (then_total {R = by_other} (on_total (λ (k : Key). k.other) nat_list_cmp_total)
    (then_total {R = by_site} (on_total (λ (k : Key). k.site) nat_cmp_total)
    (then_total {R = by_arity} (on_total (λ (k : Key). k.arity) nat_cmp_total)
    (on_total (λ (k : Key). k.bits) (lists_total bool_cmp_total))))))))

-- how three things stand: the first to the second, the second to the third, the first to the third
record AtThree (a b c : Ordering) : Type 0 where
  less : a ≡ Less → b ≡ Less → c ≡ Less
  left : a ≡ Equal → c ≡ b
  right : b ≡ Equal → c ≡ a

from_total : {K : Type 0} {R : K → K → Ordering} → IsTotalOrder R → (x y z : K) → AtThree (R x y) (R y z) (R x z)
from_total o x y z = record { less = o.trans x y z; left = o.congr x y z; right = λ e. sym (alike_right o y z x e) }

then_less : (a b c d e f : Ordering) → AtThree a b c → AtThree d e f → ordering_then a d ≡ Less
    → ordering_then b e ≡ Less → ordering_then c f ≡ Less
then_less Less Less c d e f g h p q = ap (λ o. ordering_then o f) (g.less refl refl)
then_less Less Equal c d e f g h p q = ap (λ o. ordering_then o f) (g.right refl)
then_less Less Greater c d e f g h p q = cc
then_less Equal Less c d e f g h p q = ap (λ o. ordering_then o f) (g.left refl)
then_less Equal Equal c d e f g h p q = ap (λ o. ordering_then o f) (g.left refl) ∙ h.less p q
then_less Equal Greater c d e f g h p q = cc
then_less Greater b c d e f g h p q = cc

then_left : (a b c d e f : Ordering) → AtThree a b c → AtThree d e f → ordering_then a d ≡ Equal
    → ordering_then c f ≡ ordering_then b e
then_left Less b c d e f g h p = cc
then_left Equal b c d e f g h p = ap₂ ordering_then (g.left refl) (h.left p)
then_left Greater b c d e f g h p = cc

then_right : (a b c d e f : Ordering) → AtThree a b c → AtThree d e f → ordering_then b e ≡ Equal
    → ordering_then c f ≡ ordering_then a d
then_right a Less c d e f g h p = cc
then_right a Equal c d e f g h p = ap₂ ordering_then (g.right refl) (h.right p)
then_right a Greater c d e f g h p = cc

then_three : {a b c d e f : Ordering} → AtThree a b c → AtThree d e f
    → AtThree (ordering_then a d) (ordering_then b e) (ordering_then c f)
then_three {a} {b} {c} {d} {e} {f} g h =
    record { less = then_less a b c d e f g h; left = then_left a b c d e f g h; right = then_right a b c d e f g h }

mutual
  three : (x y z : Code) → AtThree (code_cmp x y) (code_cmp y z) (code_cmp x z)
  three (node k a b) (node l c d) (node m e f) =
      then_three (from_total key_total k l m) (then_three (all_three a c e) (all_three b d f))

  all_three : (xs ys zs : Codes) → AtThree (codes_cmp xs ys) (codes_cmp ys zs) (codes_cmp xs zs)
  all_three none none none = record { less = λ p q. cc; left = λ p. refl; right = λ p. refl }
  all_three none none (more z zs) = record { less = λ p q. refl; left = λ p. refl; right = λ p. cc }
  all_three none (more y ys) none = record { less = λ p q. cc; left = λ p. cc; right = λ p. cc }
  all_three none (more y ys) (more z zs) = record { less = λ p q. refl; left = λ p. cc; right = λ p. refl }
  all_three (more x xs) none none = record { less = λ p q. cc; left = λ p. cc; right = λ p. refl }
  all_three (more x xs) none (more z zs) = record { less = λ p q. cc; left = λ p. cc; right = λ p. cc }
  all_three (more x xs) (more y ys) none = record { less = λ p q. cc; left = λ p. refl; right = λ p. cc }
  all_three (more x xs) (more y ys) (more z zs) = then_three (three x y z) (all_three xs ys zs)

reversed : (a b : Ordering)
    → ordering_reverse (ordering_then a b) ≡ ordering_then (ordering_reverse a) (ordering_reverse b)
reversed Less b = refl
reversed Equal b = refl
reversed Greater b = refl

then_reversed : (a b c d : Ordering) → a ≡ ordering_reverse b → c ≡ ordering_reverse d
    → ordering_then a c ≡ ordering_reverse (ordering_then b d)
then_reversed a b c d p q = ap₂ ordering_then p q ∙ sym (reversed b d)

mutual
  antisymm : (x y : Code) → code_cmp x y ≡ ordering_reverse (code_cmp y x)
  antisymm (node k a b) (node l c d) =
      then_reversed _ _ _ _ (key_total.antisymm k l) (then_reversed _ _ _ _ (all_antisymm a c) (all_antisymm b d))

  all_antisymm : (xs ys : Codes) → codes_cmp xs ys ≡ ordering_reverse (codes_cmp ys xs)
  all_antisymm none none = refl
  all_antisymm none (more y ys) = refl
  all_antisymm (more x xs) none = refl
  all_antisymm (more x xs) (more y ys) = then_reversed _ _ _ _ (antisymm x y) (all_antisymm xs ys)

pub code_total : IsTotalOrder code_cmp
code_total = record { antisymm = antisymm; trans = λ x y z. (three x y z).less; congr = λ x y z. (three x y z).left }
