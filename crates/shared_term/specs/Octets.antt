-- Bits of bytes, eight at a time.
use Rattle.std.specs.Prelude.{ℕ, ◌-◌, List, ◌++◌, take, drop, Bool}
use Rattle.erl_term.specs.BitString.{bits_of, byte_bits}

-- so many bits of the bytes from a bit on, filled up with zeros to eight
abbrev pub octet : List ℕ → ℕ → ℕ → List Bool
octet bytes at count = take count (drop at (byte_bits bytes)) ++ bits_of (8 - count) 0
