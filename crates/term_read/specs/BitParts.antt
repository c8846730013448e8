-- The parts that a bit string is read from.
use Rattle.std.specs.Prelude.{◌^◌, Bool, ◌&&◌, nat_le, nat_lt, List, IsTrue}
use Rattle.std.specs.List.{list_all}
use Rattle.term_read.specs.declared.flat.Part.{Part}

-- a number that fits into 1 to 8 bits
abbrev pub is_part : Part → Bool
is_part p = nat_le 1 p.size && nat_le p.size 8 && nat_lt p.number (2 ^ p.size)

-- each part is one
abbrev pub AreParts : List Part → Type 0
AreParts ps = IsTrue (list_all is_part ps)
