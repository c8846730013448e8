-- Kernel form as plain trees (this project's own): lets over simple steps, with decision trees in place of clauses.
-- Variables, receives and falls are numbers. A list of nodes is a family of its own, `no_..` or `and_..` an item and
-- the rest.
use Rattle.std.specs.Prelude.{ℕ, Bool, List}
use Rattle.erl_base.specs.Names.{Name}
use Rattle.erl_base.specs.declared.ids.FunKey.{FunKey}
use Rattle.erl_term.specs.Term.{Term}
use Rattle.erl_term.specs.Segments as Segments
use Rattle.bif_table.specs.Builtins.{Bif}

-- a variable by its number, or a literal
pub data Value : Type 0 where
  var : ℕ → Value
  lit : Term → Value

-- exact: the key has to be there
pub record MapPair : Type 0 where
  pub key : Value
  pub value : Value
  pub exact : Bool

-- a segment of a binary that is built
pub record Part : Type 0 where
  pub shape : Segments.Shape
  pub value : Value
  pub size : Value

-- what gives one value
pub data Simple : Type 0 where
  value : Value → Simple
  cons : Value → Value → Simple
  tuple : List Value → Simple
  -- the base, and what is put into it
  map_put : Value → List MapPair → Simple
  bits : List Part → Simple
  -- a fun of the function at a site, with captured terms
  make_fun : ℕ → List Value → Simple
  bif : Bif → List Value → Simple
  -- calls: of the function at a site, of a fun, of a function of a module by their names
  local : ℕ → List Value → Simple
  apply : Value → List Value → Simple
  remote : Value → Value → List Value → Simple
  send : Value → Value → Simple
  trace : Simple
  -- raises again what a trace keeps, with a reason
  raise : Value → Value → Simple
  -- raises an error
  failing : Value → Simple

mutual
  pub data Pattern : Type 0 where
    any : Pattern
    bind : ℕ → Pattern
    known : Term → Pattern
    cons_like : Pattern → Pattern → Pattern
    tuple_like : Patterns → Pattern
    map_like : KeyPatterns → Pattern
    bits_like : Segs → Pattern
    alias : ℕ → Pattern → Pattern

  pub data Patterns : Type 0 where
    no_pattern : Patterns
    and_pattern : Pattern → Patterns → Patterns

  pub data KeyPattern : Type 0 where
    key_pattern : Value → Pattern → KeyPattern

  pub data KeyPatterns : Type 0 where
    no_key : KeyPatterns
    and_key : KeyPattern → KeyPatterns → KeyPatterns

  -- what it matches, its size, and the rest of what it says
  pub data Seg : Type 0 where
    seg : Pattern → Value → Segments.Shape → Seg

  pub data Segs : Type 0 where
    no_seg : Segs
    and_seg : Seg → Segs → Segs

-- what a term may have the shape of: a term itself, a list cell, a tuple of a size, a map with a key
pub data CaseShape : Type 0 where
  is : Term → CaseShape
  is_cons : CaseShape
  is_tuple : ℕ → CaseShape
  map_has : Value → CaseShape

-- a step on bits; the contexts that it reads and moves on are variables
pub data BinStep : Type 0 where
  -- opens the bits of a variable as a context
  start : ℕ → ℕ → BinStep
  -- takes a segment from a context: a number, or bits
  integer : ℕ → Seg → BinStep
  take_bits : ℕ → Seg → BinStep
  -- nothing is left in a context
  done : ℕ → BinStep
  -- keeps the position of a context, and goes back to it
  mark : ℕ → ℕ → BinStep
  back : ℕ → ℕ → BinStep

mutual
  pub data Expr : Type 0 where
    values : List Value → Expr
    simple : Simple → Expr
    -- variables, what gives their values, and the body
    let_in : List ℕ → Expr → Expr → Expr
    match_in : Tree → Expr
    -- the tried part; variables and body for its values; variables and body for what it raises
    try : Expr → List ℕ → Expr → List ℕ → Expr → Expr
    catch : Expr → Expr
    -- its number, the variable of the message, the clauses, the timeout, the body after it
    receive : ℕ → ℕ → Tree → Value → Expr → Expr

  -- the last part of a switch, a step and so on is the tree to go on with where it fails
  pub data Tree : Type 0 where
    body : Expr → Tree
    -- to the second tree of the nearest `either_in` with this number that holds it in the first one
    fall : ℕ → Tree
    either_in : ℕ → Tree → Tree → Tree
    switch : ℕ → Cases → Tree → Tree
    segments : ℕ → SegRows → Tree → Tree
    step : BinStep → Tree → Tree → Tree
    guarded : Expr → Tree → Tree → Tree

  -- a shape, the variables of its parts, and the tree for it
  pub data Case : Type 0 where
    case : CaseShape → List ℕ → Tree → Case

  pub data Cases : Type 0 where
    no_case : Cases
    and_case : Case → Cases → Cases

  pub data SegRow : Type 0 where
    seg_row : Segs → Tree → SegRow

  pub data SegRows : Type 0 where
    no_row : SegRows
    and_row : SegRow → SegRows → SegRows

-- a clause before it becomes a part of a tree
pub record Row : Type 0 where
  pub patterns : Patterns
  pub guard : Expr
  pub body : Expr

-- the captured terms are the last parameters; next is above every variable of the module
pub record Fun : Type 0 where
  pub key : FunKey
  pub site : ℕ
  pub params : List ℕ
  pub next : ℕ
  pub body : Expr

-- a module in kernel form
pub record Kernel : Type 0 where
  pub name : Name
  pub exports : List FunKey
  pub attributes : List (Name × Term)
  pub funs : List Fun
