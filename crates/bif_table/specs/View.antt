-- The listed functions and the tests of terms that the program's stand for.
use Rattle.bif_table.specs.declared.table.Bif.{Bif}
use Rattle.bif_table.specs.declared.table.Bif.TheVariants as V
use Rattle.bif_table.specs.declared.table.Group.{Group}
use Rattle.bif_table.specs.declared.table.Group.TheVariants as G
use Rattle.bif_table.specs.declared.term_test.TypeTest.{TypeTest}
use Rattle.bif_table.specs.declared.term_test.TypeTest.TheVariants as TT
use Rattle.bif_table.specs.declared.term_test.Comparison.{Comparison}
use Rattle.bif_table.specs.declared.term_test.Comparison.TheVariants as CT
use Rattle.bif_table.specs.Builtins as Plain
use Rattle.bif_table.specs.TermTests as Tests

-- the function that a `Bif` stands for
abbrev pub bif_view : Bif → Plain.Bif
bif_view V.Add = Plain.Add
bif_view V.Subtract = Plain.Subtract
bif_view V.Multiply = Plain.Multiply
bif_view V.Plus = Plain.Plus
bif_view V.Negate = Plain.Negate
bif_view V.Div = Plain.Div
bif_view V.Rem = Plain.Rem
bif_view V.Band = Plain.Band
bif_view V.Bor = Plain.Bor
bif_view V.Bxor = Plain.Bxor
bif_view V.Bnot = Plain.Bnot
bif_view V.Bsl = Plain.Bsl
bif_view V.Bsr = Plain.Bsr
bif_view V.Abs = Plain.Abs
bif_view V.Round = Plain.Round
bif_view V.Trunc = Plain.Trunc
bif_view V.Ceil = Plain.Ceil
bif_view V.Floor = Plain.Floor
bif_view V.Equals = Plain.Equals
bif_view V.Exactly = Plain.Exactly
bif_view V.Differs = Plain.Differs
bif_view V.ExactlyNot = Plain.ExactlyNot
bif_view V.Below = Plain.Below
bif_view V.AtMost = Plain.AtMost
bif_view V.Above = Plain.Above
bif_view V.AtLeast = Plain.AtLeast
bif_view V.And = Plain.And
bif_view V.Or = Plain.Or
bif_view V.Xor = Plain.Xor
bif_view V.Not = Plain.Not
bif_view V.IsAtom = Plain.IsAtom
bif_view V.IsBinary = Plain.IsBinary
bif_view V.IsBitstring = Plain.IsBitstring
bif_view V.IsBoolean = Plain.IsBoolean
bif_view V.IsFloat = Plain.IsFloat
bif_view V.IsFunction = Plain.IsFunction
bif_view V.IsInteger = Plain.IsInteger
bif_view V.IsList = Plain.IsList
bif_view V.IsMap = Plain.IsMap
bif_view V.IsNumber = Plain.IsNumber
bif_view V.IsPid = Plain.IsPid
bif_view V.IsPort = Plain.IsPort
bif_view V.IsReference = Plain.IsReference
bif_view V.IsTuple = Plain.IsTuple
bif_view V.IsFunction2 = Plain.IsFunction2
bif_view V.IsRecord2 = Plain.IsRecord2
bif_view V.IsRecord3 = Plain.IsRecord3
bif_view V.Element = Plain.Element
bif_view V.TupleSize = Plain.TupleSize
bif_view V.Size = Plain.Size
bif_view V.ByteSize = Plain.ByteSize
bif_view V.BitSize = Plain.BitSize
bif_view V.Length = Plain.Length
bif_view V.Hd = Plain.Hd
bif_view V.Tl = Plain.Tl
bif_view V.MapSize = Plain.MapSize
bif_view V.IsMapKey = Plain.IsMapKey
bif_view V.MapGet = Plain.MapGet
bif_view V.OwnPid = Plain.Self
bif_view V.Error1 = Plain.Error1
bif_view V.Error2 = Plain.Error2
bif_view V.Exit1 = Plain.Exit1
bif_view V.Throw1 = Plain.Throw1

-- and its group
abbrev pub group_view : Group → Plain.Group
group_view G.Plain = Plain.plain
group_view G.Collecting = Plain.collecting
group_view G.Raising = Plain.raising

-- the test of one term that a `TypeTest` of the program stands for
abbrev pub type_view : TypeTest → Tests.TypeTest
type_view TT.IsAtom = Tests.is_atom
type_view TT.IsInteger = Tests.is_integer
type_view TT.IsNumber = Tests.is_number
type_view TT.IsList = Tests.is_list
type_view TT.IsNonemptyList = Tests.is_nonempty_list
type_view TT.IsNil = Tests.is_nil
type_view TT.IsTuple = Tests.is_tuple
type_view TT.IsBinary = Tests.is_binary
type_view TT.IsBitstr = Tests.is_bitstr
type_view TT.IsBoolean = Tests.is_boolean
type_view TT.IsFunction = Tests.is_function
type_view TT.IsMap = Tests.is_map
type_view TT.IsPid = Tests.is_pid
type_view TT.IsPort = Tests.is_port
type_view TT.IsReference = Tests.is_reference

-- and the test of two that a `Comparison` does
abbrev pub comparison_view : Comparison → Tests.Comparison
comparison_view CT.IsEqExact = Tests.is_eq_exact
comparison_view CT.IsNeExact = Tests.is_ne_exact
comparison_view CT.IsEq = Tests.is_eq
comparison_view CT.IsNe = Tests.is_ne
comparison_view CT.IsLt = Tests.is_lt
comparison_view CT.IsGe = Tests.is_ge
comparison_view CT.IsFunction2 = Tests.is_function2
