-- What the parts of a written segment say: its unit, type and flags, and whether its size is the literal 'all'
-- (Core Erlang 1.0.3, section 4: bit strings; OTP 25).
use Rattle.std.specs.Prelude.{Bool, false, codes}
use Rattle.erl_base.specs.Names.{Name, same_name}
use Rattle.erl_term.specs.Term as T
use Rattle.erl_term.specs.Term.{Term}
use Rattle.erl_term.specs.Segments.{Shape, has_flag, unit_of}
use Rattle.core_form.specs.Core.{Expr, literal}

-- whether a size is the literal 'all'
abbrev pub is_all : Expr → Bool
is_all (literal p (T.atom a)) = same_name a (codes "all")
is_all _ = false

-- of a size, a unit, a type and flags; without `signed` numbers are unsigned, without `little` they are big
abbrev pub shape_of : Expr → Term → Name → Term → Shape
shape_of size unit kind flags = record {
  unit = unit_of unit;
  is_binary = same_name kind (codes "binary");
  signed = has_flag (codes "signed") flags;
  little = has_flag (codes "little") flags;
  whole = is_all size;
}
