-- What was read of a text: values on a stack, the last one first.
use Rattle.std.specs.Prelude.{List, [], Bool, Option, Some}
use Rattle.erl_base.specs.Names.{Name}
use Rattle.erl_base.specs.declared.ids.Place.{Place}
use Rattle.erl_term.specs.Term.{Term}
use Rattle.core_form.specs.declared.tree.Binder.{Binder}
use Rattle.core_form.specs.declared.module.FunName.{FunName}
use Rattle.core_form.specs.Core as C
use Rattle.core_actions.specs.Read.{ReadExpr, ReadPattern}
use Rattle.core_build.specs.declared.item.Row.{Row}
use Rattle.core_build.specs.declared.item.Row.TheVariants as R

-- a part, or a row of parts
pub data Value : Type 0 where
  expr : ReadExpr → Value
  pattern : ReadPattern → Value
  binder : Binder → Value
  name : FunName → Value
  atom : Place → Name → Value
  -- whether a pair is written `:=`
  exact : Bool → Value
  -- a segment, and its bits where it is constant
  segment : C.Segment → Option (List Bool) → Value
  seg : C.SegPattern → Value
  clause : C.Clause → Value
  exprs : List C.Expr → Value
  patterns : List C.Pattern → Value
  binders : List Binder → Value
  names : List FunName → Value
  pairs : List C.MapPart → Value
  keys : List C.KeyPattern → Value
  -- segments, and the bits of all of them where they are constant
  segments : List C.Segment → Option (List Bool) → Value
  segs : List C.SegPattern → Value
  clauses : List C.Clause → Value
  defs : List C.Def → Value
  attributes : List (Name × Term) → Value

-- a row without parts
abbrev pub no_parts : Row → Value
no_parts R.Exprs = exprs []
no_parts R.Patterns = patterns []
no_parts R.Binders = binders []
no_parts R.Names = names []
no_parts R.Pairs = pairs []
no_parts R.Keys = keys []
no_parts R.Segments = segments [] (Some [])
no_parts R.Segs = segs []
no_parts R.Clauses = clauses []
no_parts R.Defs = defs []
no_parts R.Attributes = attributes []
