-- Each listed function on a value, and each that can raise on arguments that it refuses.
use Rattle.std.proofs.Common.{◌≡◌, List, [], ◌∷◌, map, Some, true, false, pos, negsuc, codes, refl}
use Rattle.erl_term.specs.Term as T
use Rattle.erl_term.specs.Term.{Term, none, more, no_pair, pair}
use Rattle.erl_term.specs.Terms.{word, truth}
use Rattle.bif_table.specs.Builtins as B
use Rattle.bif_table.specs.Builtins.{Bif, lookup, bif_name, arity_of}
use Rattle.bif_table.specs.BuiltinAnswer.{Answer, value, raised, bad_argument, badarith, badmap, badkey, answer}

-- each function is found by its name and arity
lookup-bif_name : (b : Bif) → lookup (bif_name b) (arity_of b) ≡ Some b
lookup-bif_name B.Add = refl
lookup-bif_name b = refl

abbrev couple : Term
couple = T.tuple (more (word (codes "a")) (more (T.int (pos 1)) none))

abbrev listing : Term
listing = T.cons (T.int (pos 1)) T.nil

abbrev improper : Term
improper = T.cons (T.int (pos 1)) (T.int (pos 2))

abbrev mapping : Term
mapping = T.map (pair (word (codes "a")) (T.int (pos 1)) no_pair)

abbrev five_bits : Term
five_bits = T.bits (true ∷ false ∷ true ∷ true ∷ false ∷ [])

abbrev local : Term
local = T.fun (codes "m") 0 1 none

abbrev external : Term
external = T.extern (codes "m") (codes "f") 1

record Case : Type 0 where
  bif : Bif
  args : List Term
  gives : Answer

abbrev on : Bif → List Term → Answer → Case
on b ts a = record { bif = b; args = ts; gives = a }

-- what each row answers where the own pid is 3, and what it says
abbrev Hold : List Case → Type 0
Hold cs = map (λ c. answer c.bif (T.pid 3) c.args) cs ≡ map (λ c. c.gives) cs

abbrev values : List Case
values =
    on B.Add ((T.int (pos 2)) ∷ (T.int (negsuc 3)) ∷ []) (value (T.int (negsuc 1)))
    ∷ on B.Subtract ((T.int (pos 2)) ∷ (T.int (pos 4)) ∷ []) (value (T.int (negsuc 1)))
    ∷ on B.Multiply ((T.int (negsuc 2)) ∷ (T.int (pos 4)) ∷ []) (value (T.int (negsuc 11)))
    ∷ on B.Plus ((T.int (pos 7)) ∷ []) (value (T.int (pos 7)))
    ∷ on B.Negate ((T.int (pos 7)) ∷ []) (value (T.int (negsuc 6)))
    ∷ on B.Div ((T.int (negsuc 6)) ∷ (T.int (pos 2)) ∷ []) (value (T.int (negsuc 2)))
    ∷ on B.Rem ((T.int (negsuc 6)) ∷ (T.int (pos 2)) ∷ []) (value (T.int (negsuc 0)))
    ∷ on B.Band ((T.int (negsuc 3)) ∷ (T.int (pos 7)) ∷ []) (value (T.int (pos 4)))
    ∷ on B.Bor ((T.int (negsuc 3)) ∷ (T.int (pos 1)) ∷ []) (value (T.int (negsuc 2)))
    ∷ on B.Bxor ((T.int (negsuc 0)) ∷ (T.int (pos 5)) ∷ []) (value (T.int (negsuc 5)))
    ∷ on B.Bnot ((T.int (pos 5)) ∷ []) (value (T.int (negsuc 5)))
    ∷ on B.Bsl ((T.int (pos 3)) ∷ (T.int (pos 2)) ∷ []) (value (T.int (pos 12)))
    ∷ on B.Bsr ((T.int (negsuc 4)) ∷ (T.int (pos 1)) ∷ []) (value (T.int (negsuc 2)))
    ∷ on B.Abs ((T.int (negsuc 6)) ∷ []) (value (T.int (pos 7)))
    ∷ on B.Round ((T.int (pos 7)) ∷ []) (value (T.int (pos 7)))
    ∷ on B.Trunc ((T.int (negsuc 6)) ∷ []) (value (T.int (negsuc 6)))
    ∷ on B.Ceil ((T.int (pos 7)) ∷ []) (value (T.int (pos 7)))
    ∷ on B.Floor ((T.int (negsuc 6)) ∷ []) (value (T.int (negsuc 6)))
    ∷ on B.Equals ((T.int (pos 1)) ∷ (T.int (pos 1)) ∷ []) (value (truth true))
    ∷ on B.Exactly ((T.int (pos 1)) ∷ (word (codes "a")) ∷ []) (value (truth false))
    ∷ on B.Differs ((T.int (pos 1)) ∷ (T.int (pos 1)) ∷ []) (value (truth false))
    ∷ on B.ExactlyNot ((T.int (pos 1)) ∷ (word (codes "a")) ∷ []) (value (truth true))
    ∷ on B.Below ((T.int (pos 1)) ∷ (word (codes "a")) ∷ []) (value (truth true))
    ∷ on B.AtMost (T.nil ∷ listing ∷ []) (value (truth true))
    ∷ on B.Above ((word (codes "b")) ∷ (word (codes "a")) ∷ []) (value (truth true))
    ∷ on B.AtLeast ((T.int (pos 1)) ∷ (T.int (pos 2)) ∷ []) (value (truth false))
    ∷ on B.And ((word (codes "true")) ∷ (word (codes "false")) ∷ []) (value (truth false))
    ∷ on B.Or ((word (codes "true")) ∷ (word (codes "false")) ∷ []) (value (truth true))
    ∷ on B.Xor ((word (codes "true")) ∷ (word (codes "true")) ∷ []) (value (truth false))
    ∷ on B.Not ((word (codes "false")) ∷ []) (value (truth true))
    ∷ on B.IsAtom ((word (codes "a")) ∷ []) (value (truth true))
    ∷ on B.IsBinary (five_bits ∷ []) (value (truth false))
    ∷ on B.IsBitstring (five_bits ∷ []) (value (truth true))
    ∷ on B.IsBoolean ((word (codes "true")) ∷ []) (value (truth true))
    ∷ on B.IsFloat ((T.int (pos 1)) ∷ []) (value (truth false))
    ∷ on B.IsFunction (external ∷ []) (value (truth true))
    ∷ on B.IsInteger ((T.int (pos 1)) ∷ []) (value (truth true))
    ∷ on B.IsList (listing ∷ []) (value (truth true))
    ∷ on B.IsMap (mapping ∷ []) (value (truth true))
    ∷ on B.IsNumber ((word (codes "a")) ∷ []) (value (truth false))
    ∷ on B.IsPid ((T.pid 7) ∷ []) (value (truth true))
    ∷ on B.IsPort ((T.port 7) ∷ []) (value (truth true))
    ∷ on B.IsReference ((T.reference 7) ∷ []) (value (truth true))
    ∷ on B.IsTuple (couple ∷ []) (value (truth true))
    ∷ on B.IsFunction2 (local ∷ (T.int (pos 1)) ∷ []) (value (truth true))
    ∷ on B.IsRecord2 (couple ∷ (word (codes "a")) ∷ []) (value (truth true))
    ∷ on B.IsRecord3 (couple ∷ (word (codes "a")) ∷ (T.int (pos 3)) ∷ []) (value (truth false))
    ∷ on B.Element ((T.int (pos 2)) ∷ couple ∷ []) (value (T.int (pos 1)))
    ∷ on B.TupleSize (couple ∷ []) (value (T.int (pos 2)))
    ∷ on B.Size (five_bits ∷ []) (value (T.int (pos 0)))
    ∷ on B.ByteSize (five_bits ∷ []) (value (T.int (pos 1)))
    ∷ on B.BitSize (five_bits ∷ []) (value (T.int (pos 5)))
    ∷ on B.Length (listing ∷ []) (value (T.int (pos 1)))
    ∷ on B.Hd (listing ∷ []) (value (T.int (pos 1)))
    ∷ on B.Tl (listing ∷ []) (value T.nil)
    ∷ on B.MapSize (mapping ∷ []) (value (T.int (pos 1)))
    ∷ on B.IsMapKey ((word (codes "a")) ∷ mapping ∷ []) (value (truth true))
    ∷ on B.MapGet ((word (codes "a")) ∷ mapping ∷ []) (value (T.int (pos 1)))
    ∷ on B.Self ([]) (value (T.pid 3))
    ∷ []

values_hold : Hold values
unfolding answer
values_hold = refl

abbrev raises : List Case
raises =
    on B.Add ((T.int (pos 2)) ∷ (word (codes "a")) ∷ []) (badarith)
    ∷ on B.Subtract ((word (codes "a")) ∷ (T.int (pos 4)) ∷ []) (badarith)
    ∷ on B.Multiply ((T.int (pos 2)) ∷ couple ∷ []) (badarith)
    ∷ on B.Plus ((word (codes "a")) ∷ []) (badarith)
    ∷ on B.Negate ((word (codes "a")) ∷ []) (badarith)
    ∷ on B.Div ((T.int (pos 1)) ∷ (T.int (pos 0)) ∷ []) (badarith)
    ∷ on B.Rem ((T.int (pos 1)) ∷ (T.int (pos 0)) ∷ []) (badarith)
    ∷ on B.Band ((T.int (pos 1)) ∷ (word (codes "a")) ∷ []) (badarith)
    ∷ on B.Bor ((word (codes "a")) ∷ (T.int (pos 1)) ∷ []) (badarith)
    ∷ on B.Bxor ((word (codes "a")) ∷ (T.int (pos 1)) ∷ []) (badarith)
    ∷ on B.Bnot ((word (codes "a")) ∷ []) (badarith)
    ∷ on B.Bsl ((T.int (pos 1)) ∷ (word (codes "a")) ∷ []) (badarith)
    ∷ on B.Bsr ((word (codes "a")) ∷ (T.int (pos 1)) ∷ []) (badarith)
    ∷ on B.Abs ((word (codes "a")) ∷ []) (bad_argument)
    ∷ on B.Round ((word (codes "a")) ∷ []) (bad_argument)
    ∷ on B.Trunc ((word (codes "a")) ∷ []) (bad_argument)
    ∷ on B.Ceil ((word (codes "a")) ∷ []) (bad_argument)
    ∷ on B.Floor ((word (codes "a")) ∷ []) (bad_argument)
    ∷ on B.And ((word (codes "true")) ∷ (word (codes "a")) ∷ []) (bad_argument)
    ∷ on B.Or ((T.int (pos 1)) ∷ (word (codes "true")) ∷ []) (bad_argument)
    ∷ on B.Xor ((word (codes "a")) ∷ (word (codes "true")) ∷ []) (bad_argument)
    ∷ on B.Not ((word (codes "a")) ∷ []) (bad_argument)
    ∷ on B.IsFunction2 (local ∷ (T.int (negsuc 0)) ∷ []) (bad_argument)
    ∷ on B.IsRecord2 (couple ∷ (T.int (pos 1)) ∷ []) (bad_argument)
    ∷ on B.IsRecord3 (couple ∷ (word (codes "a")) ∷ (word (codes "a")) ∷ []) (bad_argument)
    ∷ on B.Element ((T.int (pos 0)) ∷ couple ∷ []) (bad_argument)
    ∷ on B.TupleSize (listing ∷ []) (bad_argument)
    ∷ on B.Size (listing ∷ []) (bad_argument)
    ∷ on B.ByteSize ((T.int (pos 1)) ∷ []) (bad_argument)
    ∷ on B.BitSize ((T.int (pos 1)) ∷ []) (bad_argument)
    ∷ on B.Length (improper ∷ []) (bad_argument)
    ∷ on B.Hd (T.nil ∷ []) (bad_argument)
    ∷ on B.Tl (T.nil ∷ []) (bad_argument)
    ∷ on B.MapSize ((T.int (pos 1)) ∷ []) (badmap (T.int (pos 1)))
    ∷ on B.IsMapKey ((word (codes "a")) ∷ (T.int (pos 1)) ∷ []) (badmap (T.int (pos 1)))
    ∷ on B.MapGet ((word (codes "b")) ∷ mapping ∷ []) (badkey (word (codes "b")))
    ∷ on B.Error1 ((word (codes "a")) ∷ []) (raised T.error (word (codes "a")))
    ∷ on B.Error2 ((word (codes "a")) ∷ listing ∷ []) (raised T.error (word (codes "a")))
    ∷ on B.Exit1 ((word (codes "a")) ∷ []) (raised T.exit (word (codes "a")))
    ∷ on B.Throw1 ((word (codes "a")) ∷ []) (raised T.throw (word (codes "a")))
    ∷ []

raises_hold : Hold raises
unfolding answer
raises_hold = refl
