-- Segments of bit strings, built and matched (OTP 25, bit syntax).
use Rattle.std.specs.Prelude.{◌≡◌, List, [], ◌∷◌, ◌++◌, codes}
use Rattle.erl_term.specs.BitString.{bits_of}
use Rattle.erl_term.specs.Term as T
use Rattle.erl_term.specs.Term.{Term}
use Rattle.world_model.specs.Run.{gives}
use Rattle.core_form.specs.Core as C
use Rattle.core_form.specs.Core.{Expr, Segment, SegPattern}
use Rattle.core_meaning.specs.CoreRun.{Result}
use Rattle.core_examples.specs.Build.{nine_bits, p0, i, v, a, binary, segment, bits_like, part_like, case, clause, any, int, atom, list_term, bytes, runs, shown, alone, fails}

-- '#{..}#' with X
abbrev pub builds : List Segment → Term → Result
builds ss t = runs ("X" ∷ []) (binary ss) [] (t ∷ []) alone

-- case X of <#{..}#> -> A; <Y> -> 'no'
abbrev pub taken_apart : List SegPattern → Term → Result
taken_apart ss t =
    runs ("X" ∷ []) (case (v "X") (clause (bits_like ss) (v "A") ∷ clause (any "Y") (a "no") ∷ [])) [] (t ∷ []) alone

-- a number of 3 times 4 bits, the lowest byte first
abbrev pub little_number : Segment
little_number = C.segment p0 (i 258) (i 3) (int 4) (codes "integer") (list_term (atom "little" ∷ []))

-- what segments are built of and what they take
pub record BitSegments : Type 0 where
  -- a size counts units: 3 times 4 bits of a number, whose last byte is its highest 4 bits
  pub number_in_units : builds (little_number ∷ []) (int 0)
      ≡ shown [] [] (gives (T.bits (bits_of 8 2 ++ bits_of 4 1)))
  -- and 2 times 3 bits of a bit string
  pub part_in_units : builds (segment (v "X") (i 2) 3 "binary" ∷ []) (bytes (4 ∷ []))
      ≡ shown [] [] (gives (T.bits (bits_of 6 1)))
  -- a part that is longer than the bit string raises
  pub part_too_long : builds (segment (v "X") (i 3) 3 "binary" ∷ []) (bytes (4 ∷ [])) ≡ shown [] [] (fails "badarg")
  -- `all` takes a bit string in whole units alone
  pub whole : builds (segment (v "X") (a "all") 8 "binary" ∷ segment (i 1) (i 8) 1 "integer" ∷ []) (bytes (7 ∷ []))
      ≡ shown [] [] (gives (bytes (7 ∷ 1 ∷ [])))
  pub not_in_bytes : builds (segment (v "X") (a "all") 8 "binary" ∷ []) nine_bits ≡ shown [] [] (fails "badarg")
  pub in_bits : builds (segment (v "X") (a "all") 1 "binary" ∷ []) nine_bits ≡ shown [] [] (gives nine_bits)
  -- where it is matched a size counts units too
  pub matched_number : taken_apart (part_like (any "A") (i 2) 4 "integer" ∷ []) (bytes (7 ∷ []))
      ≡ shown [] [] (gives (int 7))
  -- and `all` takes what is left in whole units alone
  pub matched_in_bytes : taken_apart (part_like (any "A") (a "all") 8 "binary" ∷ []) nine_bits
      ≡ shown [] [] (gives (atom "no"))
  pub matched_in_bits : (taken_apart (part_like (any "A") (a "all") 1 "binary" ∷ []) nine_bits).end ≡ gives nine_bits
