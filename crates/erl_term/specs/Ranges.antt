-- The ranges of the numbers in a term.
use Rattle.std.specs.Prelude.{◌^◌, ltb, ℤ, pos, negsuc, Bool, true, ◌&&◌}
use Rattle.erl_term.specs.Term as T
use Rattle.erl_term.specs.Term.{Term, Terms, none, more, Pairs, no_pair, pair}

-- an integer of 128 signed bits
abbrev pub is_within_128 : ℤ → Bool
is_within_128 (pos n) = ltb n (2 ^ 127)
is_within_128 (negsuc n) = ltb n (2 ^ 127)

-- whether the integers in all parts have 128 signed bits
abbrev mutual
  pub is_narrow : Term → Bool
  is_narrow (T.int z) = is_within_128 z
  is_narrow (T.cons t u) = is_narrow t && is_narrow u
  is_narrow (T.tuple ts) = all_narrow ts
  is_narrow (T.map ps) = pairs_narrow ps
  is_narrow (T.fun m s a ts) = all_narrow ts
  is_narrow t = true

  pub all_narrow : Terms → Bool
  all_narrow none = true
  all_narrow (more t ts) = is_narrow t && all_narrow ts

  pub pairs_narrow : Pairs → Bool
  pairs_narrow no_pair = true
  pairs_narrow (pair k v ps) = is_narrow k && is_narrow v && pairs_narrow ps

-- whether in all parts integers have 128 signed bits, numbers and arities of funs 32 bits, and pids, references and
-- ports 64
abbrev mutual
  pub fits : Term → Bool
  fits (T.int z) = is_within_128 z
  fits (T.cons t u) = fits t && fits u
  fits (T.tuple ts) = all_fit ts
  fits (T.map ps) = pairs_fit ps
  fits (T.fun m s n ts) = ltb s (2 ^ 32) && ltb n (2 ^ 32) && all_fit ts
  fits (T.extern m f n) = ltb n (2 ^ 32)
  fits (T.pid n) = ltb n (2 ^ 64)
  fits (T.reference n) = ltb n (2 ^ 64)
  fits (T.port n) = ltb n (2 ^ 64)
  fits _ = true

  pub all_fit : Terms → Bool
  all_fit none = true
  all_fit (more t ts) = fits t && all_fit ts

  pub pairs_fit : Pairs → Bool
  pairs_fit no_pair = true
  pairs_fit (pair k v ps) = fits k && fits v && pairs_fit ps
