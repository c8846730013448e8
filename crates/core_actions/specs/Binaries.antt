-- Segments and binaries of parts that were read.
use Rattle.std.specs.Prelude.{List, Bool, Option, None, if◌then◌else◌, codes}
use Rattle.erl_base.specs.Names.{Name, same_name}
use Rattle.erl_base.specs.declared.ids.Place.{Place}
use Rattle.erl_term.specs.Term.{Term}
use Rattle.core_form.specs.Core as C
use Rattle.core_grammar.specs.ConstantTerms.{bits_written, constant_bits}
use Rattle.core_grammar.specs.ModuleOf.{term_or_nil, literal_or}
use Rattle.core_actions.specs.Read.{ReadExpr, ReadPattern}
use Rattle.core_actions.specs.Joining.{literal_term, closed, integer_in, count_in, closed_pattern}

-- the constant that is read; nothing else is asked for one
abbrev pub constant_in : ReadExpr → Term
constant_in r = term_or_nil (literal_term (closed r))

-- size, unit, type and flags of a segment
pub record SegmentParts : Type 0 where
  pub size : ReadExpr
  pub unit : ReadExpr
  pub kind : Name
  pub flags : ReadExpr

-- a segment
abbrev pub segment_of : Place → ReadExpr → SegmentParts → C.Segment
segment_of p v s = C.segment p (closed v) (closed s.size) (constant_in s.unit) s.kind (constant_in s.flags)

-- the bits of a segment of type integer that are constant
abbrev pub bits_in : ReadExpr → SegmentParts → Option (List Bool)
bits_in v s =
    if same_name s.kind (codes "integer")
    then bits_written (integer_in v) (count_in s.size) (count_in s.unit) (literal_term (closed s.flags)) else None

-- a segment of a pattern
abbrev pub seg_of : Place → ReadPattern → SegmentParts → C.SegPattern
seg_of p v s = C.seg_pattern p (closed_pattern v) (closed s.size) (constant_in s.unit) s.kind (constant_in s.flags)

-- a binary of segments, which have these bits together, if all are constant
abbrev pub binary_of : Place → C.Segments → Option (List Bool) → C.Expr
binary_of p gs o = literal_or p (constant_bits o) (C.binary p gs)
