-- Core Erlang modules as plain trees (Core Erlang 1.0.3, section 4; maps and two-variable `catch` as OTP 25 prints
-- them). A node begins with its place. A list of nodes is a family of its own, `no_..` or `and_..` an item and the
-- rest.
use Rattle.std.specs.Prelude.{ℕ, Bool, List, Option}
use Rattle.erl_base.specs.Names.{Name}
use Rattle.erl_base.specs.declared.ids.Place.{Place}
use Rattle.erl_base.specs.declared.ids.FunKey.{FunKey}
use Rattle.erl_term.specs.Term.{Term}
use Rattle.core_form.specs.declared.tree.Binder.{Binder}
use Rattle.core_form.specs.declared.module.FunName.{FunName}

mutual
  pub data Expr : Type 0 where
    values : Place → Exprs → Expr
    var : Place → Name → Expr
    fun_name : Place → FunKey → Expr
    literal : Place → Term → Expr
    -- items and the tail
    list : Place → Exprs → Expr → Expr
    tuple : Place → Exprs → Expr
    -- a map without a base, and one that puts pairs into a base
    new_map : Place → MapParts → Expr
    map_of : Place → MapParts → Expr → Expr
    binary : Place → Segments → Expr
    fun : Place → List Binder → Expr → Expr
    -- variables, their values, and the body
    let_in : Place → List Binder → Expr → Expr → Expr
    letrec : Place → Defs → Expr → Expr
    case : Place → Expr → Clauses → Expr
    apply : Place → Expr → Exprs → Expr
    -- module, function, arguments
    call : Place → Expr → Expr → Exprs → Expr
    primop : Place → Name → Exprs → Expr
    do_then : Place → Expr → Expr → Expr
    catch : Place → Expr → Expr
    -- the tried part; variables and body for its values; variables and body for what it raises
    try : Place → Expr → List Binder → Expr → List Binder → Expr → Expr
    -- clauses, the timeout, the body after it
    receive : Place → Clauses → Expr → Expr → Expr

  pub data Exprs : Type 0 where
    no_expr : Exprs
    and_expr : Expr → Exprs → Exprs

  -- key, value, and whether the key must be there (`:=`)
  pub data MapPart : Type 0 where
    map_part : Expr → Expr → Bool → MapPart

  pub data MapParts : Type 0 where
    no_part : MapParts
    and_part : MapPart → MapParts → MapParts

  -- value, size, unit, type, flags
  pub data Segment : Type 0 where
    segment : Place → Expr → Expr → Term → Name → Term → Segment

  pub data Segments : Type 0 where
    no_segment : Segments
    and_segment : Segment → Segments → Segments

  -- the place of its name, its key, and its right side, which is a `fun`
  pub data Def : Type 0 where
    def : Place → FunKey → Expr → Def

  pub data Defs : Type 0 where
    no_def : Defs
    and_def : Def → Defs → Defs

  -- patterns, guard, body
  pub data Clause : Type 0 where
    clause : Place → Patterns → Expr → Expr → Clause

  pub data Clauses : Type 0 where
    no_clause : Clauses
    and_clause : Clause → Clauses → Clauses

  pub data Pattern : Type 0 where
    any : Place → Name → Pattern
    alias : Place → Name → Pattern → Pattern
    known : Place → Term → Pattern
    list_like : Place → Patterns → Pattern → Pattern
    tuple_like : Place → Patterns → Pattern
    map_like : Place → KeyPatterns → Pattern
    bits_like : Place → SegPatterns → Pattern

  pub data Patterns : Type 0 where
    no_pattern : Patterns
    and_pattern : Pattern → Patterns → Patterns

  -- the key, a variable or a literal, and what its value matches
  pub data KeyPattern : Type 0 where
    key_pattern : Expr → Pattern → KeyPattern

  pub data KeyPatterns : Type 0 where
    no_key : KeyPatterns
    and_key : KeyPattern → KeyPatterns → KeyPatterns

  -- value and size, each a variable or a literal; unit, type, flags
  pub data SegPattern : Type 0 where
    seg_pattern : Place → Pattern → Expr → Term → Name → Term → SegPattern

  pub data SegPatterns : Type 0 where
    no_seg : SegPatterns
    and_seg : SegPattern → SegPatterns → SegPatterns

-- floats: the place of the first float literal. wide: that of the first integer literal past 128 signed bits, with the
-- number of its digits. long: that of the first atom of more than 255 characters, with their number.
pub record Module : Type 0 where
  pub name : Name
  pub exports : List FunName
  pub attributes : List (Name × Term)
  pub defs : Defs
  pub floats : Option Place
  pub wide : Option (Place × ℕ)
  pub long : Option (Place × ℕ)
