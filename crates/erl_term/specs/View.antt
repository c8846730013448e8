-- The plain term that a `Term` of the program stands for.
use Rattle.std.specs.Prelude.{List, Bool, take}
use Rattle.erl_base.specs.Names.{Name}
use Rattle.erl_term.specs.declared.term.Class.{Class}
use Rattle.erl_term.specs.declared.term.Class.TheVariants.{Error, Exit, Throw}
use Rattle.erl_term.specs.declared.term.Bits.{Bits}
use Rattle.erl_term.specs.declared.term.Attribute.{Attribute}
use Rattle.erl_term.specs.declared.term.Term.{Term, fold-Term}
use Rattle.erl_term.specs.declared.term.Pair.{Pair, fold-Pair}
use Rattle.erl_term.specs.declared.term.Term.TheOpen.{Term-F, Pair-F}
use Rattle.erl_term.specs.declared.term.Term.TheOpen as form
use Rattle.erl_term.specs.Term as Plain
use Rattle.erl_term.specs.Terms.{terms, pairs, list_of}
use Rattle.erl_term.specs.BitString.{byte_bits}

-- the plain class
abbrev pub class_view : Class → Plain.Class
class_view Error = Plain.error
class_view Exit = Plain.exit
class_view Throw = Plain.throw

-- its first bits, from the highest bit of the first byte on
abbrev pub bits_view : Bits → List Bool
bits_view b = take b.length (byte_bits b.bytes)

-- the plain term of a value whose parts are plain
abbrev pub view_step : Term-F Plain.Term (Plain.Term × Plain.Term) → Plain.Term
view_step (form.Int z) = Plain.int z
view_step (form.Atom a) = Plain.atom a
view_step form.Nil = Plain.nil
view_step (form.List items tail) = list_of items tail
view_step (form.Tuple items) = Plain.tuple (terms items)
view_step (form.Map ps) = Plain.map (pairs ps)
view_step (form.Bits b) = Plain.bits (bits_view b)
view_step (form.Fun m site arity captured) = Plain.fun m site.0 arity (terms captured)
view_step (form.Extern m f arity) = Plain.extern m f arity
view_step (form.Pid n) = Plain.pid n
view_step (form.Reference n) = Plain.reference n
view_step (form.Port n) = Plain.port n
view_step (form.RawTrace c) = Plain.raw_trace (class_view c)

-- the same, of a pair
abbrev pub pair_step : Pair-F Plain.Term (Plain.Term × Plain.Term) → Plain.Term × Plain.Term
pair_step p = (p.key, p.value)

-- the plain term that a value stands for
abbrev pub view : Term → Plain.Term
view = fold-Term Plain.Term (Plain.Term × Plain.Term) view_step pair_step

-- the plain pair
abbrev pub pair_view : Pair → Plain.Term × Plain.Term
pair_view = fold-Pair Plain.Term (Plain.Term × Plain.Term) view_step pair_step

-- the key and the plain value of an attribute
abbrev pub attribute_view : Attribute → Name × Plain.Term
attribute_view a = (a.key, view a.value)
