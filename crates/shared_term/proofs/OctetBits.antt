-- Bits of bytes, eight at a time.
use Rattle.std.proofs.Common.{◌≡◌, ◌≢◌, ℕ, zero, suc, ◌+◌, ◌-◌, ◌*◌, ◌/◌, ◌%◌, ◌^◌, ◌≤◌, ◌<◌, min, refl, sym, ap, ap₂}
use Rattle.std.proofs.Common.{◌∙◌, subst, List, [], ◌∷◌, ◌++◌, length, take, drop, get_or, Bool, true, false, not}
use Rattle.std.proofs.Common.{eqb, leb, ◌&&◌, IsTrue, arith, length-append, append_assoc, append-nil}
use Rattle.std.specs.List.{list_all}
use Rattle.std.specs.declared.cmp.Ordering.{Ordering}
use Rattle.std.specs.declared.cmp.Ordering.TheVariants.{Less, Equal, Greater}
use Rattle.std.specs.Ordering.{nat_cmp, bool_cmp, ordering_then}
use Rattle.std.specs.Cmp.Lexicographic.{slice_cmp}
use Rattle.std.proofs.lemmas.List.{drop_more, drop-drop, take-append-le, drop-append-le, take-append-drop}
use Rattle.std.proofs.lemmas.List.{length-take-le, length-drop, take-take, drop-take}
use Rattle.std.proofs.lemmas.Nat.{pow-add, pow_pos, div-add-mod'}
use Rattle.std.proofs.Math.Nat.{mul-add-div_right, mul-lt-mul_of_pos_right, div-div-eq-div-mul, mod-lt, pow-suc}
use Rattle.std.proofs.Math.Nat.{div-eq_of_lt}
use Rattle.std.proofs.Math.Seq.{take-append_seam, drop-append_seam, drop-append-add, take-add}
use Rattle.erl_term.proofs.BitOrder.{length-bits_of, length-byte_bits, bytes_step}
use Rattle.erl_term.proofs.Comparing.{then-assoc, first_shorter, first_longer, both_longer}
use Rattle.erl_term.proofs.Forms.{both_true}
use Rattle.erl_term.specs.BitString.{bits_of, byte_bits}
use Rattle.erl_term.specs.View.{bits_view}
use Rattle.erl_term.specs.WellFormed.{IsFull, bits_fit}
use Rattle.erl_term.specs.declared.term.Bits.{Bits}
use Rattle.shared_term.specs.Octets.{octet}

-- the lowest bits of a number depend on nothing above them
bits-low : (k c b : ℕ) → bits_of k (c * 2 ^ k + b) ≡ bits_of k b
bits-low zero c b = refl
bits-low (suc k) c b =
    let q : ℕ = 2 ^ k in
    let e : c * 2 ^ suc k + b ≡ (2 * c) * q + b = ap (λ p. c * p + b) (pow-suc 2 k) ∙ twice c q b in
    let h : ((2 * c) * q + b) / q ≡ 2 * c + b / q = mul-add-div_right (pow_pos k) (2 * c) b in
    ap (bits_of (suc k)) e
    ∙ ap₂ (λ x xs. eqb x 1 ∷ xs) (ap (λ x. x % 2) h ∙ even c (b / q)) (bits-low k (2 * c) b)
  where
    twice : (c q b : ℕ) → c * (q * 2) + b ≡ (2 * c) * q + b
    twice c q b = omega arith

    even : (c x : ℕ) → (2 * c + x) % 2 ≡ x % 2
    even c x = omega arith

-- bits above others
bits-split : (j k n a b : ℕ) → n ≡ j + k → b < 2 ^ k → bits_of n (a * 2 ^ k + b) ≡ bits_of j a ++ bits_of k b
bits-split zero k n a b e l = ap (λ m. bits_of m (a * 2 ^ k + b)) (omega (arith, e)) ∙ bits-low k a b
bits-split (suc j) k zero a b e l = absurd (omega (arith, e))
bits-split (suc j) k (suc n) a b e l =
    let f : n ≡ k + j = omega (arith, e) in
    let p : 2 ^ n ≡ 2 ^ k * 2 ^ j = ap (λ m. 2 ^ m) f ∙ pow-add 2 k j in
    let h : (a * 2 ^ k + b) / 2 ^ n ≡ a / 2 ^ j =
    ap (λ q. (a * 2 ^ k + b) / q) p ∙ sym (div-div-eq-div-mul (a * 2 ^ k + b) (2 ^ k) (2 ^ j))
    ∙ ap (λ x. x / 2 ^ j) (mul-add-div_right (pow_pos k) a b ∙ ap (λ x. a + x) (div-eq_of_lt l) ∙ omega arith) in
    ap₂ (λ x xs. eqb (x % 2) 1 ∷ xs) h (bits-split j k n a b (omega (arith, f)) l)

-- the first bits of a number, the last ones, and those of a remainder
pub bits-parts : (j k n m : ℕ) → n ≡ j + k → bits_of n m ≡ bits_of j (m / 2 ^ k) ++ bits_of k (m % 2 ^ k)
bits-parts j k n m e =
    ap (bits_of n) (sym (div-add-mod' m (2 ^ k))) ∙ bits-split j k n (m / 2 ^ k) (m % 2 ^ k) e (mod-lt m (pow_pos k))

pub bits-mod : (k m : ℕ) → bits_of k (m % 2 ^ k) ≡ bits_of k m
bits-mod k m = sym (bits-low k (m / 2 ^ k) (m % 2 ^ k)) ∙ ap (bits_of k) (div-add-mod' m (2 ^ k))

take_all : (xs ys : List Bool) (k : ℕ) → length xs ≡ k → take k (xs ++ ys) ≡ xs
take_all xs ys k e = ap (λ n. take n (xs ++ ys)) (sym e) ∙ take-append_seam xs ys

drop_all : (xs ys : List Bool) (k : ℕ) → length xs ≡ k → drop k (xs ++ ys) ≡ ys
drop_all xs ys k e = ap (λ n. drop n (xs ++ ys)) (sym e) ∙ drop-append_seam xs ys

pub take-bits_of : (j k n m : ℕ) → n ≡ j + k → take j (bits_of n m) ≡ bits_of j (m / 2 ^ k)
take-bits_of j k n m e = ap (take j) (bits-parts j k n m e)
    ∙ take_all (bits_of j (m / 2 ^ k)) (bits_of k (m % 2 ^ k)) j (length-bits_of j (m / 2 ^ k))

pub drop-bits_of : (j k n m : ℕ) → n ≡ j + k → drop j (bits_of n m) ≡ bits_of k m
drop-bits_of j k n m e =
    ap (drop j) (bits-parts j k n m e)
    ∙ drop_all (bits_of j (m / 2 ^ k)) (bits_of k (m % 2 ^ k)) j (length-bits_of j (m / 2 ^ k)) ∙ bits-mod k m

-- bytes behind others
drop-byte_bits : (q : ℕ) (bs : List ℕ) → drop (8 * q) (byte_bits bs) ≡ byte_bits (drop q bs)
unfolding byte_bits
drop-byte_bits zero bs = refl
drop-byte_bits (suc q) [] = none (8 * suc q)
  where
    none : (n : ℕ) → drop n (byte_bits []) ≡ byte_bits []
    none zero = refl
    none (suc n) = refl
drop-byte_bits (suc q) (b ∷ bs) =
    let e : 8 * suc q ≡ length (bits_of 8 b) + 8 * q = omega (arith, length-bits_of 8 b) in
    ap (λ n. drop n (bits_of 8 b ++ byte_bits bs)) e ∙ drop-append-add (bits_of 8 b) (byte_bits bs) (8 * q)
    ∙ drop-byte_bits q bs

-- what is taken within the first of two
window : (s c : ℕ) (xs ys : List Bool) → s + c ≤ length xs → take c (drop s (xs ++ ys)) ≡ take c (drop s xs)
window s c xs ys h =
    ap (take c) (drop-append-le s xs ys (omega (arith, h)))
    ∙ take-append-le c (drop s xs) ys (omega (arith, h, length-drop s xs))

-- the bits of two bytes, the second of which may be missing where it is not needed
two_bytes : (bs : List ℕ) (q l s c : ℕ) → q < length bs → (q + 1 < length bs → l ≡ get_or bs (q + 1) 0) → s + c ≤ 16
    → (length bs ≤ q + 1 → s + c ≤ 8)
    → take c (drop s (byte_bits (drop q bs))) ≡ take c (drop s (bits_of 8 (get_or bs q 0) ++ bits_of 8 l))
unfolding byte_bits
two_bytes bs q l s c h g u v =
    ap (λ xs. take c (drop s (byte_bits xs))) (drop_more bs q 0 h) ∙ by (drop (q + 1) bs) refl
  where
    first : List Bool
    first = bits_of 8 (get_or bs q 0)

    by : (ds : List ℕ) → drop (q + 1) bs ≡ ds
        → take c (drop s (bits_of 8 (get_or bs q 0) ++ byte_bits ds)) ≡ take c
        (drop s (bits_of 8 (get_or bs q 0) ++ bits_of 8 l))
    by [] e =
        let k : length bs ≤ q + 1 = omega (arith, length-drop (q + 1) bs, ap length e) in
        let w : s + c ≤ length (bits_of 8 (get_or bs q 0)) = omega (arith, v k, length-bits_of 8 (get_or bs q 0)) in
        window s c (bits_of 8 (get_or bs q 0)) [] w ∙ sym (window s c (bits_of 8 (get_or bs q 0)) (bits_of 8 l) w)
    by (d ∷ ds) e =
        let k : q + 1 < length bs = omega (arith, length-drop (q + 1) bs, ap length e) in
        let f : l ≡ d = g k ∙ ap (λ xs. get_or xs 0 0) (sym (drop_more bs (q + 1) 0 k) ∙ e) in
        let w : s + c ≤ length (bits_of 8 (get_or bs q 0) ++ bits_of 8 l) =
        omega (
          arith,
          u,
          length-append (bits_of 8 (get_or bs q 0)) (bits_of 8 l),
          length-bits_of 8
              (get_or bs q 0),
          length-bits_of 8 l,
        ) in
        ap (λ b. take c (drop s (bits_of 8 (get_or bs q 0) ++ (bits_of 8 b ++ byte_bits ds)))) (sym f)
        ∙ ap (λ xs. take c (drop s xs)) (sym (append_assoc (bits_of 8 (get_or bs q 0)) (bits_of 8 l) (byte_bits ds)))
        ∙ window s c (bits_of 8 (get_or bs q 0) ++ bits_of 8 l) (byte_bits ds) w

-- what is computed of two bytes is the octet
pub octet_is : (bs : List ℕ) (at c h l : ℕ) → 0 < c → c ≤ 8 → at + c ≤ 8 * length bs → h ≡ get_or bs (at / 8) 0
    → (at / 8 + 1 < length bs → l ≡ get_or bs (at / 8 + 1) 0) → l < 256
    → bits_of 8 ((h * 256 + l) / 2 ^ (16 - at % 8 - c) % 2 ^ c * 2 ^ (8 - c)) ≡ octet bs at c
octet_is bs at c h l n m w e f g =
    let s : ℕ = at % 8 in
    let q : ℕ = at / 8 in
    let k : ℕ = 16 - s - c in
    let x : ℕ = (h * 256 + l) / 2 ^ k % 2 ^ c in
    let z : x * 2 ^ (8 - c) ≡ x * 2 ^ (8 - c) + 0 = omega arith in
    let high : bits_of 8 (x * 2 ^ (8 - c)) ≡ bits_of c x ++ bits_of (8 - c) 0 =
    ap (bits_of 8) z ∙ bits-split c (8 - c) 8 x 0 (omega (arith, m)) (pow_pos (8 - c)) in
    let cut : bits_of c x ≡ take c (drop s (bits_of 8 h ++ bits_of 8 l)) =
    bits-mod c ((h * 256 + l) / 2 ^ k) ∙ sym (take-bits_of c k (16 - s) (h * 256 + l) (omega (arith, m)))
    ∙ ap (take c) (sym (drop-bits_of s (16 - s) 16 (h * 256 + l) (omega arith)))
    ∙ ap (λ bits. take c (drop s bits)) (bits-split 8 8 16 h l refl g) in
    let both : take c (drop s (byte_bits (drop q bs))) ≡ take c (drop s (bits_of 8 (get_or bs q 0) ++ bits_of 8 l)) =
    two_bytes bs q l s c (omega (arith, n, w)) f (omega (arith, m)) (λ u. omega (arith, w, u)) in
    let there : take c (drop s (byte_bits (drop q bs))) ≡ take c (drop at (byte_bits bs)) =
    ap (λ bits. take c (drop s bits)) (sym (drop-byte_bits q bs)) ∙ ap (take c) (drop-drop s (8 * q) (byte_bits bs))
    ∙ ap (λ i. take c (drop i (byte_bits bs))) (omega arith) in
    high ∙ ap (λ bits. bits ++ bits_of (8 - c) 0)
    (cut ∙ ap (λ y. take c (drop s (bits_of 8 y ++ bits_of 8 l))) e ∙ sym both ∙ there)

-- the powers as they were computed
pub octet_made : (bs : List ℕ) (at c h l p q r : ℕ) → 0 < c → c ≤ 8 → at + c ≤ 8 * length bs → h ≡ get_or bs (at / 8) 0
    → (at / 8 + 1 < length bs → l ≡ get_or bs (at / 8 + 1) 0) → l < 256 → p ≡ 2 ^ (16 - at % 8 - c) → q ≡ 2 ^ c
    → r ≡ 2 ^ (8 - c)
    → bits_of 8 ((h * 256 + l) / p % q * r) ≡ octet bs at c
octet_made bs at c h l p q r n m w e f g u v x =
    ap (λ k. bits_of 8 ((h * 256 + l) / k % q * r)) u
    ∙ ap₂ (λ i j. bits_of 8 ((h * 256 + l) / 2 ^ (16 - at % 8 - c) % i * j)) v x
    ∙ octet_is bs at c h l n m w e f g

pub octet_fits : (x c : ℕ) → c ≤ 8 → x % 2 ^ c * 2 ^ (8 - c) < 256
octet_fits x c m =
    let a : x % 2 ^ c < 2 ^ c = mod-lt x (pow_pos c) in
    let b : x % 2 ^ c * 2 ^ (8 - c) < 2 ^ c * 2 ^ (8 - c) = mul-lt-mul_of_pos_right a (pow_pos (8 - c)) in
    let e : c + (8 - c) ≡ 8 = omega (arith, m) in
    let f : 2 ^ c * 2 ^ (8 - c) ≡ 256 = sym (pow-add 2 c (8 - c)) ∙ ap (λ n. 2 ^ n) e in
    subst (λ n. x % 2 ^ c * 2 ^ (8 - c) < n) f b

pub made_fits : (x q r c : ℕ) → c ≤ 8 → q ≡ 2 ^ c → r ≡ 2 ^ (8 - c) → x % q * r < 256
made_fits x q r c m e f = subst (λ k. k < 256) (sym (ap₂ (λ i j. x % i * j) e f)) (octet_fits x c m)

-- Comparing.

cmp-append : (u v r s : List Bool) → length u ≡ length v
    → slice_cmp bool_cmp (u ++ r) (v ++ s) ≡ ordering_then (slice_cmp bool_cmp u v) (slice_cmp bool_cmp r s)
cmp-append [] [] r s e = refl
cmp-append [] (b ∷ v) r s e = absurd (omega (arith, e))
cmp-append (a ∷ u) [] r s e = absurd (omega (arith, e))
cmp-append (a ∷ u) (b ∷ v) r s e =
    ap (ordering_then (bool_cmp a b)) (cmp-append u v r s (omega (arith, e)))
    ∙ then-assoc (bool_cmp a b) (slice_cmp bool_cmp u v) (slice_cmp bool_cmp r s)

cmp_itself : (z : List Bool) → slice_cmp bool_cmp z z ≡ Equal
cmp_itself [] = refl
cmp_itself (true ∷ z) = cmp_itself z
cmp_itself (false ∷ z) = cmp_itself z

then_equal : (o : Ordering) → ordering_then o Equal ≡ o
then_equal Less = refl
then_equal Equal = refl
then_equal Greater = refl

byte_cmp : (x y : ℕ) → x < 256 → y < 256 → nat_cmp x y ≡ slice_cmp bool_cmp (bits_of 8 x) (bits_of 8 y)
unfolding byte_bits
byte_cmp x y g h =
    sym (then_equal (nat_cmp x y)) ∙ sym (bytes_step (x ∷ []) (y ∷ []) 0 (omega arith) (omega arith) g h)
    ∙ cmp-append (bits_of 8 x) (bits_of 8 y) [] [] (length-bits_of 8 x ∙ sym (length-bits_of 8 y))
    ∙ then_equal (slice_cmp bool_cmp (bits_of 8 x) (bits_of 8 y))

-- the order of two octets, and then of what follows
pub octets_step : (A B z : List Bool) (n c x y : ℕ) → x < 256 → y < 256 → n + c ≤ length A → n + c ≤ length B
    → bits_of 8 x ≡ take c (drop n A) ++ z → bits_of 8 y ≡ take c (drop n B) ++ z
    → slice_cmp bool_cmp (drop n A) (drop n B) ≡ ordering_then (nat_cmp x y)
    (slice_cmp bool_cmp (drop (n + c) A) (drop (n + c) B))
octets_step A B z n c x y g h k l e f =
    let p : length (take c (drop n A)) ≡ c = length-take-le c (drop n A) (omega (arith, length-drop n A, k)) in
    let q : length (take c (drop n B)) ≡ c = length-take-le c (drop n B) (omega (arith, length-drop n B, l)) in
    let o : nat_cmp x y ≡ slice_cmp bool_cmp (take c (drop n A)) (take c (drop n B)) =
    byte_cmp x y g h ∙ ap₂ (slice_cmp bool_cmp) e f ∙ cmp-append (take c (drop n A)) (take c (drop n B)) z z (p ∙ sym q)
    ∙ ap (ordering_then (slice_cmp bool_cmp (take c (drop n A)) (take c (drop n B)))) (cmp_itself z)
    ∙ then_equal (slice_cmp bool_cmp (take c (drop n A)) (take c (drop n B))) in
    ap₂ (slice_cmp bool_cmp) (sym (take-append-drop c (drop n A))) (sym (take-append-drop c (drop n B)))
    ∙ cmp-append (take c (drop n A)) (take c (drop n B)) (drop c (drop n A)) (drop c (drop n B)) (p ∙ sym q)
    ∙ ap₂ ordering_then (sym o) (ap₂ (slice_cmp bool_cmp) (drop-drop c n A) (drop-drop c n B))

pub bits_end : (A B : List Bool) (n : ℕ) → min (length A) (length B) ≤ n → n ≤ length A → n ≤ length B
    → slice_cmp bool_cmp (drop n A) (drop n B) ≡ nat_cmp (length A) (length B)
bits_end [] [] zero h l m = refl
bits_end [] (b ∷ B) zero h l m = sym (first_shorter (length B))
bits_end (a ∷ A) [] zero h l m = sym (first_longer (length A))
bits_end (a ∷ A) (b ∷ B) zero h l m = absurd (omega (arith, h))
bits_end [] B (suc n) h l m = absurd (omega (arith, l))
bits_end (a ∷ A) [] (suc n) h l m = absurd (omega (arith, m))
bits_end (a ∷ A) (b ∷ B) (suc n) h l m =
    bits_end A B n (omega (arith, h)) (omega (arith, l)) (omega (arith, m)) ∙ sym (both_longer (length A) (length B))

-- Bytes of their own.

byte_bits-append : (bs : List ℕ) (x : ℕ) → byte_bits (bs ++ x ∷ []) ≡ byte_bits bs ++ bits_of 8 x
unfolding byte_bits
byte_bits-append [] x = append-nil (bits_of 8 x)
byte_bits-append (b ∷ bs) x =
    ap (λ r. bits_of 8 b ++ r) (byte_bits-append bs x) ∙ sym (append_assoc (bits_of 8 b) (byte_bits bs) (bits_of 8 x))

padded : (m c r : ℕ) (D Z : List Bool) → c ≡ min m (length D) → r ≡ m - length D
    → take m (D ++ Z) ≡ take c D ++ take r Z
padded m zero r [] Z e f = ap (λ k. take k Z) (sym (f ∙ omega arith))
padded m (suc c) r [] Z e f = absurd (omega (arith, e))
padded zero zero zero (d ∷ D) Z e f = refl
padded zero zero (suc r) (d ∷ D) Z e f = absurd (omega (arith, f))
padded zero (suc c) r (d ∷ D) Z e f = absurd (omega (arith, e))
padded (suc m) zero r (d ∷ D) Z e f = absurd (omega (arith, e))
padded (suc m) (suc c) r (d ∷ D) Z e f = ap (λ xs. d ∷ xs) (padded m c r D Z (omega (arith, e)) (omega (arith, f)))

zero_bits : (k r : ℕ) → k + r ≡ 8 → take k (bits_of 8 0) ≡ bits_of k 0
zero_bits k r e = take-bits_of k r 8 0 (sym e) ∙ ap (bits_of k) (div-eq_of_lt (pow_pos r))

-- one more octet of a bit string behind whole ones
pub one_more : (R : List Bool) (bs : List ℕ) (c x : ℕ) → 8 * length bs < length R → c ≡ min 8 (length R - 8 * length bs)
    → byte_bits bs ≡ take (8 * length bs) (R ++ bits_of 8 0)
    → bits_of 8 x ≡ take c (drop (8 * length bs) R) ++ bits_of (8 - c) 0
    → byte_bits (bs ++ x ∷ []) ≡ take (8 * length bs + 8) (R ++ bits_of 8 0)
one_more R bs c x l k e f =
    let n : ℕ = 8 * length bs in
    let p : take 8 (drop n R ++ bits_of 8 0) ≡ take c (drop n R) ++ take (8 - c) (bits_of 8 0) =
    padded 8 c (8 - c) (drop n R) (bits_of 8 0) (omega (arith, k, length-drop n R))
    (omega (arith, k, length-drop n R)) in
    byte_bits-append bs x
    ∙ ap₂ (λ u v. u ++ v) e (f ∙ ap (λ z. take c (drop n R) ++ z) (sym (zero_bits (8 - c) c (omega (arith, k)))) ∙ sym p
    ∙ ap (take 8) (sym (drop-append-le n R (bits_of 8 0) (omega (arith, l)))))
    ∙ sym (take-add n 8 (R ++ bits_of 8 0))

all_zero : (k : ℕ) → IsTrue (list_all not (bits_of k 0))
all_zero zero = refl
all_zero (suc k) =
    both_true (not (eqb (0 / 2 ^ k % 2) 1)) (list_all not (bits_of k 0))
    (subst (λ q. IsTrue (not (eqb (q % 2) 1))) (sym (div-eq_of_lt (pow_pos k))) refl) (all_zero k)

-- bytes that hold a bit string and no more than they must
abbrev pub Holds : List Bool → List ℕ → Type 0
Holds R bs = (byte_bits bs ≡ take (8 * length bs) (R ++ bits_of 8 0)) × (length R ≤ 8 * length bs) ×
    (8 * length bs < length R + 8)

pub held_view : (R : List Bool) (b : Bits) → length R ≡ b.length → Holds R b.bytes → bits_view b ≡ R
held_view R b e h =
    ap (take b.length) h.0 ∙ take-take b.length (8 * length b.bytes) (R ++ bits_of 8 0) (omega (arith, e, h.1))
    ∙ take_all R (bits_of 8 0) b.length e

pub held_full : (R : List Bool) (b : Bits) → length R ≡ b.length → Holds R b.bytes → IsFull b
unfolding bits_fit
held_full R b e h =
    let n : ℕ = b.length in
    let r : ℕ = 8 * length b.bytes - b.length in
    let f : length b.bytes ≡ (b.length + 7) / 8 = omega (arith, e, h.1, h.2) in
    let g : 8 * length b.bytes ≡ n + r = omega (arith, e, h.1) in
    let unused : drop n (byte_bits b.bytes) ≡ bits_of r 0 =
    ap (drop n) h.0 ∙ ap (λ k. drop n (take k (R ++ bits_of 8 0))) g ∙ drop-take n r (R ++ bits_of 8 0)
    ∙ ap (take r) (drop_all R (bits_of 8 0) n e) ∙ zero_bits r (8 - r) (omega (arith, e, h.2)) in
    both_true (eqb (length b.bytes) ((b.length + 7) / 8)) (list_all not (drop b.length (byte_bits b.bytes)))
    (subst (λ k. IsTrue (eqb (length b.bytes) k)) f (eqb_self (length b.bytes)))
    (subst (λ bits. IsTrue (list_all not bits)) (sym unused) (all_zero r))
  where
    eqb_self : (n : ℕ) → IsTrue (eqb n n)
    eqb_self n = grind arith
