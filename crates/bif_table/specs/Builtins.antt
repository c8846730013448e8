-- The functions of the module erlang that a run answers itself (Erlang/OTP 25, module erlang), by name and arity.
use Rattle.std.specs.Prelude.{ℕ, List, [], ◌∷◌, Bool, true, false, not, ◌&&◌, eqb, Option, Some, None, codes}
use Rattle.erl_base.specs.Names.{Name, same_name}

-- the listed functions; a number after a name is the arity, where two functions have the name
pub data Bif : Type 0 where
  Add Subtract Multiply Plus Negate Div Rem : Bif
  Band Bor Bxor Bnot Bsl Bsr : Bif
  Abs Round Trunc Ceil Floor : Bif
  Equals Exactly Differs ExactlyNot Below AtMost Above AtLeast : Bif
  And Or Xor Not : Bif
  IsAtom IsBinary IsBitstring IsBoolean IsFloat IsFunction IsInteger IsList IsMap IsNumber : Bif
  IsPid IsPort IsReference IsTuple IsFunction2 IsRecord2 IsRecord3 : Bif
  Element TupleSize Size ByteSize BitSize Length Hd Tl MapSize IsMapKey MapGet Self : Bif
  Error1 Error2 Exit1 Throw1 : Bif

-- who calls a function: guards and bodies; the same, where the machine collects first, since the number that is
-- answered may take room of its own; bodies alone, since it always raises
pub data Group : Type 0 where
  plain collecting raising : Group

-- a row of the table
pub record BifRow : Type 0 where
  pub name : Name
  pub arity : ℕ
  pub group : Group

-- a row written in one line
abbrev pub bif_row : Name → ℕ → Group → BifRow
bif_row f n g = record { name = f; arity = n; group = g }

-- the table
abbrev pub row_of_bif : Bif → BifRow
row_of_bif Add = bif_row (codes "+") 2 collecting
row_of_bif Subtract = bif_row (codes "-") 2 collecting
row_of_bif Multiply = bif_row (codes "*") 2 collecting
row_of_bif Plus = bif_row (codes "+") 1 collecting
row_of_bif Negate = bif_row (codes "-") 1 collecting
row_of_bif Div = bif_row (codes "div") 2 collecting
row_of_bif Rem = bif_row (codes "rem") 2 collecting
row_of_bif Band = bif_row (codes "band") 2 collecting
row_of_bif Bor = bif_row (codes "bor") 2 collecting
row_of_bif Bxor = bif_row (codes "bxor") 2 collecting
row_of_bif Bnot = bif_row (codes "bnot") 1 collecting
row_of_bif Bsl = bif_row (codes "bsl") 2 collecting
row_of_bif Bsr = bif_row (codes "bsr") 2 collecting
row_of_bif Abs = bif_row (codes "abs") 1 collecting
row_of_bif Round = bif_row (codes "round") 1 collecting
row_of_bif Trunc = bif_row (codes "trunc") 1 collecting
row_of_bif Ceil = bif_row (codes "ceil") 1 collecting
row_of_bif Floor = bif_row (codes "floor") 1 collecting
row_of_bif Equals = bif_row (codes "==") 2 plain
row_of_bif Exactly = bif_row (codes "=:=") 2 plain
row_of_bif Differs = bif_row (codes "/=") 2 plain
row_of_bif ExactlyNot = bif_row (codes "=/=") 2 plain
row_of_bif Below = bif_row (codes "<") 2 plain
row_of_bif AtMost = bif_row (codes "=<") 2 plain
row_of_bif Above = bif_row (codes ">") 2 plain
row_of_bif AtLeast = bif_row (codes ">=") 2 plain
row_of_bif And = bif_row (codes "and") 2 plain
row_of_bif Or = bif_row (codes "or") 2 plain
row_of_bif Xor = bif_row (codes "xor") 2 plain
row_of_bif Not = bif_row (codes "not") 1 plain
row_of_bif IsAtom = bif_row (codes "is_atom") 1 plain
row_of_bif IsBinary = bif_row (codes "is_binary") 1 plain
row_of_bif IsBitstring = bif_row (codes "is_bitstring") 1 plain
row_of_bif IsBoolean = bif_row (codes "is_boolean") 1 plain
row_of_bif IsFloat = bif_row (codes "is_float") 1 plain
row_of_bif IsFunction = bif_row (codes "is_function") 1 plain
row_of_bif IsInteger = bif_row (codes "is_integer") 1 plain
row_of_bif IsList = bif_row (codes "is_list") 1 plain
row_of_bif IsMap = bif_row (codes "is_map") 1 plain
row_of_bif IsNumber = bif_row (codes "is_number") 1 plain
row_of_bif IsPid = bif_row (codes "is_pid") 1 plain
row_of_bif IsPort = bif_row (codes "is_port") 1 plain
row_of_bif IsReference = bif_row (codes "is_reference") 1 plain
row_of_bif IsTuple = bif_row (codes "is_tuple") 1 plain
row_of_bif IsFunction2 = bif_row (codes "is_function") 2 plain
row_of_bif IsRecord2 = bif_row (codes "is_record") 2 plain
row_of_bif IsRecord3 = bif_row (codes "is_record") 3 plain
row_of_bif Element = bif_row (codes "element") 2 plain
row_of_bif TupleSize = bif_row (codes "tuple_size") 1 plain
row_of_bif Size = bif_row (codes "size") 1 collecting
row_of_bif ByteSize = bif_row (codes "byte_size") 1 collecting
row_of_bif BitSize = bif_row (codes "bit_size") 1 collecting
row_of_bif Length = bif_row (codes "length") 1 collecting
row_of_bif Hd = bif_row (codes "hd") 1 plain
row_of_bif Tl = bif_row (codes "tl") 1 plain
row_of_bif MapSize = bif_row (codes "map_size") 1 collecting
row_of_bif IsMapKey = bif_row (codes "is_map_key") 2 plain
row_of_bif MapGet = bif_row (codes "map_get") 2 plain
row_of_bif Self = bif_row (codes "self") 0 plain
row_of_bif Error1 = bif_row (codes "error") 1 raising
row_of_bif Error2 = bif_row (codes "error") 2 raising
row_of_bif Exit1 = bif_row (codes "exit") 1 raising
row_of_bif Throw1 = bif_row (codes "throw") 1 raising

-- all functions, in the order of the table
abbrev pub all_bifs : List Bif
all_bifs =
    Add ∷ Subtract ∷ Multiply ∷ Plus ∷ Negate ∷ Div ∷ Rem ∷ Band ∷ Bor ∷ Bxor ∷ Bnot ∷ Bsl ∷ Bsr ∷ Abs ∷ Round
    ∷ Trunc ∷ Ceil ∷ Floor ∷ Equals ∷ Exactly ∷ Differs ∷ ExactlyNot ∷ Below ∷ AtMost ∷ Above ∷ AtLeast ∷ And
    ∷ Or ∷ Xor ∷ Not ∷ IsAtom ∷ IsBinary ∷ IsBitstring ∷ IsBoolean ∷ IsFloat ∷ IsFunction ∷ IsInteger ∷ IsList
    ∷ IsMap ∷ IsNumber ∷ IsPid ∷ IsPort ∷ IsReference ∷ IsTuple ∷ IsFunction2 ∷ IsRecord2 ∷ IsRecord3
    ∷ Element ∷ TupleSize ∷ Size ∷ ByteSize ∷ BitSize ∷ Length ∷ Hd ∷ Tl ∷ MapSize ∷ IsMapKey ∷ MapGet ∷ Self
    ∷ Error1 ∷ Error2 ∷ Exit1 ∷ Throw1 ∷ []

-- a function's name
abbrev pub bif_name : Bif → Name
bif_name b = (row_of_bif b).name

-- how many arguments it takes
abbrev pub arity_of : Bif → ℕ
arity_of b = (row_of_bif b).arity

-- and its group
abbrev pub group_of : Bif → Group
group_of b = (row_of_bif b).group

-- a row of this name and arity
abbrev pub is_row : BifRow → Name → ℕ → Bool
is_row r f n = eqb r.arity n && same_name r.name f

-- the first of the functions with this name and arity
abbrev pub look_up : List Bif → Name → ℕ → Option Bif
look_up [] f n = None
look_up (b ∷ bs) f n = elim (is_row (row_of_bif b) f n) [ true ↦ Some b | false ↦ look_up bs f n ]

-- the function of this name and arity, if it is listed
abbrev pub lookup : Name → ℕ → Option Bif
lookup f n = look_up all_bifs f n

-- whether a guard may call it; the others always raise
abbrev pub is_guard : Bif → Bool
is_guard b = elim (group_of b) [ plain ↦ true | collecting ↦ true | raising ↦ false ]

-- whether the machine collects for it
abbrev pub is_collecting : Bif → Bool
is_collecting b = elim (group_of b) [ plain ↦ false | collecting ↦ true | raising ↦ false ]

-- whether a function of this name and arity is listed that always raises
abbrev pub raises_always : Name → ℕ → Bool
raises_always f n = elim (lookup f n) [ None ↦ false | Some b ↦ not (is_guard b) ]

-- whether a function is one of the module erlang that always raises
abbrev pub never_returns : (home name : Name) (arity : ℕ) → Bool
never_returns m f n = same_name m (codes "erlang") && raises_always f n
