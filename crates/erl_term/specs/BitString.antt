-- Bit strings as lists of bits, and the numbers that they hold (Erlang/OTP 25, bit syntax).
use Rattle.std.specs.Prelude.{ℕ, zero, suc, ◌+◌, ◌-◌, ◌*◌, ◌/◌, ◌%◌, ◌^◌, List, [], ◌∷◌, ◌++◌, length, take, drop, Bool, true, false, not, ◌&&◌, eqb, leb, if◌then◌else◌, ℤ, pos, negsuc}

-- the lowest k bits of a number, the highest of them first
abbrev pub bits_of : ℕ → ℕ → List Bool
bits_of zero m = []
bits_of (suc k) m = eqb ((m / 2 ^ k) % 2) 1 ∷ bits_of k m

-- the bits of bytes, eight of each
unfoldable pub byte_bits : List ℕ → List Bool
byte_bits [] = []
byte_bits (b ∷ bs) = bits_of 8 b ++ byte_bits bs

-- each bit turned over
abbrev pub flipped : List Bool → List Bool
flipped [] = []
flipped (b ∷ bs) = not b ∷ flipped bs

-- the lowest k bits of an integer, which has endlessly many in two's complement
abbrev pub low_bits : ℕ → ℤ → List Bool
low_bits k (pos n) = bits_of k n
low_bits k (negsuc n) = flipped (bits_of k n)

-- the number whose bits are those of n and then these
abbrev pub number_from : ℕ → List Bool → ℕ
number_from n [] = n
number_from n (true ∷ bs) = number_from (2 * n + 1) bs
number_from n (false ∷ bs) = number_from (2 * n) bs

-- in groups of eight bits, the lowest first; a last group of fewer holds the highest. The number bounds the groups.
abbrev pub to_little : ℕ → List Bool → List Bool
to_little zero bs = bs
to_little (suc k) bs =
    let l = length bs in
    elim (leb l 8) [ true ↦ bs | false ↦ drop (l - 8) bs ++ to_little k (take (l - 8) bs) ]

-- and back
abbrev pub from_little : ℕ → List Bool → List Bool
from_little zero bs = bs
from_little (suc k) bs = elim (leb (length bs) 8) [ true ↦ bs | false ↦ from_little k (drop 8 bs) ++ take 8 bs ]

-- the bits of a number in the order that a segment asks for
abbrev pub ordered : Bool → List Bool → List Bool
ordered false bs = bs
ordered true bs = to_little (length bs) bs

-- the sign
abbrev pub first_bit : List Bool → Bool
first_bit [] = false
first_bit (b ∷ bs) = b

-- the number that bits hold, signed or not, the lowest group first or last
abbrev pub number : Bool → Bool → List Bool → ℤ
number signed little bs =
    let big : List Bool = elim little [ true ↦ from_little (length bs) bs | false ↦ bs ] in
    if signed && first_bit big then negsuc (number_from 0 (flipped big)) else pos (number_from 0 big)
