-- The bits of a segment.
use Rattle.std.specs.Prelude.{List, Bool, true, false, codes}
use Rattle.erl_base.specs.Names.{same_name}
use Rattle.erl_term.specs.Term.{Term}
use Rattle.erl_term.specs.BitString.{flipped}
use Rattle.core_names.specs.Readings.{atom_in}

-- each bit turned over, or none
abbrev pub turned : Bool → List Bool → List Bool
turned false bs = bs
turned true bs = flipped bs

-- the flag that turns the order of bytes
abbrev pub is_little : Term → Bool
is_little t = same_name (atom_in t) (codes "little")
