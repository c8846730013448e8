-- Numbers by their bits in endless two's complement, as the program takes them apart.
use Rattle.std.specs.Prelude.{ℕ, ℤ, pos, negsuc}
use Rattle.bif_answer.specs.declared.bits.Endless.{Endless}
use Rattle.bif_answer.specs.declared.bits.Endless.TheVariants as V

-- the number of these bits behind zeros, or of the opposite of them behind ones
abbrev pub endless_view : Endless → ℤ
endless_view (V.Zeros n) = pos n
endless_view (V.Ones n) = negsuc n

-- the bits
abbrev pub endless_number : Endless → ℕ
endless_number (V.Zeros n) = n
endless_number (V.Ones n) = n
