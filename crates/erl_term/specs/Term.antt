-- The terms of Erlang as plain trees: the data types of Core Erlang 1.0.3 without floats, with maps, bit strings of any
-- length and external funs as Erlang/OTP 25 has them, and raw traces, which are this project's own.
use Rattle.std.specs.Prelude.{ℕ, ℤ, List, Bool}

-- the class of a raise
pub data Class : Type 0 where
  error exit throw : Class

-- A list is made of cells. A fun has its module, its number in the module, its arity and what it captured; an external
-- fun its module, name and arity. Names are code points. A raw trace keeps the class of its raise.
mutual
  pub data Term : Type 0 where
    int : ℤ → Term
    atom : List ℕ → Term
    nil : Term
    cons : Term → Term → Term
    tuple : Terms → Term
    map : Pairs → Term
    bits : List Bool → Term
    fun : List ℕ → ℕ → ℕ → Terms → Term
    extern : List ℕ → List ℕ → ℕ → Term
    pid : ℕ → Term
    reference : ℕ → Term
    port : ℕ → Term
    raw_trace : Class → Term

  pub data Terms : Type 0 where
    none : Terms
    more : Term → Terms → Terms

  -- the pairs of a map, which rise by their keys in a term that is well formed
  pub data Pairs : Type 0 where
    no_pair : Pairs
    pair : Term → Term → Pairs → Pairs
