-- Whole numbers as endless two's complement (Erlang/OTP 25: band, bor, bxor, bnot, bsl, bsr).
use Rattle.std.specs.Prelude.{ℕ, suc, ◌-◌, ◌/◌, ◌^◌, ℤ, pos, negsuc, ◌*ℤ◌, bit_and, bit_or, bit_xor}

-- `negsuc n` has the bits that n has not
abbrev pub int_not : ℤ → ℤ
int_not (pos n) = negsuc n
int_not (negsuc n) = pos n

-- the bits that both have
abbrev pub int_and : ℤ → ℤ → ℤ
int_and (pos a) (pos b) = pos (bit_and a b)
int_and (pos a) (negsuc b) = pos (a - bit_and a b)
int_and (negsuc a) (pos b) = pos (b - bit_and a b)
int_and (negsuc a) (negsuc b) = negsuc (bit_or a b)

-- that one or both have
abbrev pub int_or : ℤ → ℤ → ℤ
int_or (pos a) (pos b) = pos (bit_or a b)
int_or (pos a) (negsuc b) = negsuc (b - bit_and a b)
int_or (negsuc a) (pos b) = negsuc (a - bit_and a b)
int_or (negsuc a) (negsuc b) = negsuc (bit_and a b)

-- that one alone has
abbrev pub int_xor : ℤ → ℤ → ℤ
int_xor (pos a) (pos b) = pos (bit_xor a b)
int_xor (pos a) (negsuc b) = negsuc (bit_xor a b)
int_xor (negsuc a) (pos b) = negsuc (bit_xor a b)
int_xor (negsuc a) (negsuc b) = pos (bit_xor a b)

-- divided by a power of two, rounded down
abbrev pub halved : ℤ → ℕ → ℤ
halved (pos n) k = pos (n / 2 ^ k)
halved (negsuc n) k = negsuc (n / 2 ^ k)

-- a negative shift goes the other way
abbrev pub shift_left : ℤ → ℤ → ℤ
shift_left a (pos k) = a *ℤ pos (2 ^ k)
shift_left a (negsuc k) = halved a (suc k)

-- and the other way round
abbrev pub shift_right : ℤ → ℤ → ℤ
shift_right a (pos k) = halved a k
shift_right a (negsuc k) = a *ℤ pos (2 ^ suc k)
