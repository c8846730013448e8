-- Ranges of bits, and their parts.
use Rattle.std.proofs.Common.{◌≡◌, ℕ, ◌+◌, ◌-◌, ◌*◌, ◌≤◌, ◌<◌, ◌^◌, ◌++◌, [], ◌∷◌, min, refl, sym, ap, ap₂, ◌∙◌}
use Rattle.std.proofs.Common.{subst, List, length, take, drop, Bool, true, IsTrue, Some, None, leb, if◌then◌else◌}
use Rattle.std.proofs.Common.{arith, length-append}
use Rattle.std.specs.declared.rc.Rc.{Rc}
use Rattle.std.specs.declared.alloc.Global.{Global}
use Rattle.std.proofs.lemmas.List.{drop-drop, take-take, drop-take, length-take-le, length-drop}
use Rattle.std.specs.Ordering.{nat_cmp, bool_cmp, ordering_then}
use Rattle.std.specs.Cmp.Lexicographic.{slice_cmp}
use Rattle.erl_term.specs.BitString.{bits_of, byte_bits}
use Rattle.erl_term.specs.Term as P
use Rattle.erl_term.specs.WellFormed.{maps_rise, IsFull}
use Rattle.erl_term.specs.View.{bits_view}
use Rattle.erl_term.specs.declared.term.Bits.{Bits as Kept}
use Rattle.erl_term.proofs.BitOrder.{length-byte_bits}
use Rattle.shared_term.specs.declared.value.BitRange.{BitRange}
use Rattle.shared_term.specs.declared.value.Value.{Value}
use Rattle.shared_term.specs.declared.value.Value.TheVariants as V
use Rattle.shared_term.specs.Octets.{octet}
use Rattle.shared_term.specs.Parts.{slice_of, bit_count_of}
use Rattle.shared_term.specs.View.{Reading, reading, view, range_view, is_within, IsWhole}
use Rattle.shared_term.proofs.Forms.{bits-out}
use Rattle.shared_term.proofs.OctetBits.{octets_step, bits_end, one_more, Holds, held_view, held_full}

pub part_of_range : (bs : List Bool) (f l g n : ℕ) → g + n ≤ l
    → take n (drop g (take l (drop f bs))) ≡ take n (drop (f + g) bs)
part_of_range bs f l g n h =
    let e : l ≡ g + (l - g) = omega arith in
    ap (λ k. take n (drop g (take k (drop f bs)))) e ∙ ap (take n) (drop-take g (l - g) (drop f bs))
    ∙ take-take n (l - g) (drop g (drop f bs)) (omega arith) ∙ ap (take n) (drop-drop g f bs)

leb_of : (m n : ℕ) → m ≤ n → leb m n ≡ true
leb_of m n h = grind arith

of_leb : (m n : ℕ) → IsTrue (leb m n) → m ≤ n
of_leb m n h = grind arith

-- a range stands within its bytes
pub within : (v : Value) (b : BitRange) → v ≡ V.Bits b → IsWhole v → b.from + b.length ≤ 8 * length b.bytes.value
within v b e h = of_leb _ _ (subst (λ (q : Reading). IsTrue q.right) (bits-out v b e) h.right)

pub range_length : (b : BitRange) → b.from + b.length ≤ 8 * length b.bytes.value → length (range_view b) ≡ b.length
range_length b h =
    length-take-le b.length (drop b.from (byte_bits b.bytes.value))
    (omega (arith, length-drop b.from (byte_bits b.bytes.value), length-byte_bits b.bytes.value))

-- how many bits it has
pub bits_counted : (v : Value) (b : BitRange) → v ≡ V.Bits b → IsWhole v → Some b.length ≡ bit_count_of (view v)
bits_counted v b e h =
    ap Some (sym (range_length b (within v b e h)))
    ∙ ap (λ (q : Reading). bit_count_of q.term) (sym (bits-out v b e))

-- a part of a range
abbrev pub IsPart : BitRange → ℕ → ℕ → BitRange → Type 0
IsPart b f n c = (c.bytes.value ≡ b.bytes.value) × (c.from ≡ b.from + f) × (c.length ≡ n) × (f + n ≤ b.length)

part_reads : (b c : BitRange) (f n : ℕ) → IsPart b f n c → range_view c ≡ take n (drop f (range_view b))
part_reads b c f n h =
    ap₂ (λ l k. take l (drop k (byte_bits c.bytes.value))) h.2 h.1
    ∙ ap (λ bs. take n (drop (b.from + f) (byte_bits bs))) h.0
    ∙ sym (part_of_range (byte_bits b.bytes.value) b.from b.length f n h.3)

pub slice_reads : (v : Value) (b c : BitRange) (f n : ℕ) → v ≡ V.Bits b → IsWhole v → IsPart b f n c
    → Some (view (V.Bits c)) ≡ slice_of f n (view v)
slice_reads v b c f n e h p =
    let l : leb (f + n) (length (range_view b)) ≡ true =
    leb_of _ _ (subst (λ k. f + n ≤ k) (sym (range_length b (within v b e h))) p.3) in
    ap (λ (q : Reading). Some q.term) (bits-out _ c refl) ∙ ap (λ bs. Some (P.bits bs)) (part_reads b c f n p)
    ∙ ap (λ t. if t then Some (P.bits (take n (drop f (range_view b)))) else None) (sym l)
    ∙ ap (λ (q : Reading). slice_of f n q.term) (sym (bits-out v b e))

pub slice_whole : (v : Value) (b c : BitRange) (f n : ℕ) → v ≡ V.Bits b → IsWhole v → IsPart b f n c
    → IsWhole (V.Bits c)
unfolding maps_rise
slice_whole v b c f n e h p =
    let w : b.from + b.length ≤ 8 * length b.bytes.value = within v b e h in
    let k : c.from + c.length ≤ 8 * length c.bytes.value = omega (arith, p.1, p.2, p.3, w, ap length p.0) in
    record {
      right = subst (λ (q : Reading). IsTrue q.right) (sym (bits-out _ c refl)) (leb_of _ _ k);
      rising = subst (λ (q : Reading). IsTrue (maps_rise q.term)) (sym (bits-out _ c refl)) refl;
    }

-- all bits of a term's bytes, whose number they have
pub all_whole : (b : BitRange) → b.from ≡ 0 → b.length ≤ 8 * length b.bytes.value → IsWhole (V.Bits b)
unfolding maps_rise
all_whole b e h = record {
  right = subst (λ (q : Reading). IsTrue q.right) (sym (bits-out _ b refl)) (leb_of _ _ (omega (arith, e, h)));
  rising = subst (λ (q : Reading). IsTrue (maps_rise q.term)) (sym (bits-out _ b refl)) refl;
}

-- a part of a range, in the octet that it makes
pub range_octet : (b : BitRange) (bytes : List ℕ) (n c x : ℕ) → bytes ≡ b.bytes.value → n + c ≤ b.length
    → bits_of 8 x ≡ octet bytes (b.from + n) c
    → bits_of 8 x ≡ take c (drop n (range_view b)) ++ bits_of (8 - c) 0
range_octet b bytes n c x e h f =
    f ∙ ap (λ bs. octet bs (b.from + n) c) e
    ∙ ap (λ bits. bits ++ bits_of (8 - c) 0) (sym (part_of_range (byte_bits b.bytes.value) b.from b.length n c h))

-- ranges eight bits at a time
pub ranges_step : (a b : BitRange) (n c x y : ℕ) → IsTrue (is_within a) → IsTrue (is_within b) → x < 256 → y < 256
    → n + c ≤ min a.length b.length
    → bits_of 8 x ≡ take c (drop n (range_view a)) ++ bits_of (8 - c) 0
    → bits_of 8 y ≡ take c (drop n (range_view b)) ++ bits_of (8 - c) 0
    → slice_cmp bool_cmp (drop n (range_view a)) (drop n (range_view b))
    ≡ ordering_then (nat_cmp x y) (slice_cmp bool_cmp (drop (n + c) (range_view a)) (drop (n + c) (range_view b)))
ranges_step a b n c x y g h k l m e f =
    octets_step (range_view a) (range_view b) (bits_of (8 - c) 0) n c x y k l
    (omega (arith, m, range_length a (of_leb _ _ g))) (omega (arith, m, range_length b (of_leb _ _ h))) e f

pub ranges_end : (a b : BitRange) (n : ℕ) → IsTrue (is_within a) → IsTrue (is_within b) → min a.length b.length ≤ n
    → n ≤ min a.length b.length
    → slice_cmp bool_cmp (drop n (range_view a)) (drop n (range_view b)) ≡ nat_cmp a.length b.length
ranges_end a b n g h k l =
    let p : length (range_view a) ≡ a.length = range_length a (of_leb _ _ g) in
    let q : length (range_view b) ≡ b.length = range_length b (of_leb _ _ h) in
    bits_end (range_view a) (range_view b) n (omega arith) (omega arith) (omega arith) ∙ ap₂ nat_cmp p q

-- a range in bytes of its own
pub all_held : (b : BitRange) (k : Kept) (n : ℕ) → IsTrue (is_within b) → k.length ≡ b.length
    → n ≡ min (8 * length k.bytes) b.length → b.length ≤ n
    → 8 * length k.bytes < b.length + 8 → byte_bits k.bytes ≡ take (8 * length k.bytes) (range_view b ++ bits_of 8 0)
    → (bits_view k ≡ range_view b) × IsFull k
all_held b k n g e i l r f =
    let q : length (range_view b) ≡ b.length = range_length b (of_leb _ _ g) in
    let p : length (range_view b) ≡ k.length = q ∙ sym e in
    let h : Holds (range_view b) k.bytes = (f, omega (arith, q, i, l), omega (arith, q, r)) in
    (held_view (range_view b) k p h, held_full (range_view b) k p h)

pub range_more : (b : BitRange) (bs : List ℕ) (n c x : ℕ) → IsTrue (is_within b) → n ≡ min (8 * length bs) b.length
    → n < b.length → c ≡ min 8 (b.length - n)
    → byte_bits bs ≡ take (8 * length bs) (range_view b ++ bits_of 8 0)
    → bits_of 8 x ≡ take c (drop n (range_view b)) ++ bits_of (8 - c) 0
    → byte_bits (bs ++ x ∷ []) ≡ take (8 * length (bs ++ x ∷ [])) (range_view b ++ bits_of 8 0)
range_more b bs n c x g i l k e f =
    let p : length (range_view b) ≡ b.length = range_length b (of_leb _ _ g) in
    let m : n ≡ 8 * length bs = omega (arith, i, l) in
    let z : 8 * length bs + 8 ≡ 8 * length (bs ++ x ∷ []) = omega (arith, length-append bs (x ∷ [])) in
    one_more (range_view b) bs c x (omega (arith, p, l, m)) (omega (arith, p, k, m)) e
    (f ∙ ap (λ j. take c (drop j (range_view b)) ++ bits_of (8 - c) 0) m)
    ∙ ap (λ j. take j (range_view b ++ bits_of 8 0)) z
