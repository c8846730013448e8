-- Texts with the place of their first fault. The line above each says which slip it tells from the grammar.
use Prim.Native.String.{String}
use Rattle.std.specs.Prelude.{◌<◌, ◌≤◌, ℕ, List, [], ◌∷◌, codes}
use Rattle.core_lex.specs.declared.token.Token.{Token}
use Rattle.core_lex.specs.Tokens.{tokens}
use Rattle.core_grammar.specs.Texts.{FirstSyntaxFault, IsDeeper}

-- the first fault of a text of one line is at a column
abbrev pub FaultAt : String → ℕ → Type 0
FaultAt text n = FirstSyntaxFault (tokens (codes text)) (record { line = 1; column = n })

-- texts with the columns of their first faults
pub record FaultExamples : Type 0 where
  -- a clause has a guard
  pub no_when : FaultAt "module 'm' [] attributes [] 'f'/0 = fun () -> case X of Y -> Y end end" 59
  -- a `case` has a clause
  pub no_clause : FaultAt "module 'm' [] attributes [] 'f'/0 = fun () -> case X of end end" 57
  -- brackets are annotations
  pub bare_brackets : FaultAt "module 'm' [] attributes [] 'f'/0 = fun () -> ( 1 ) end" 51
  -- an annotation holds a list
  pub atom_note : FaultAt "module 'm' [] attributes [] 'f'/0 = fun () -> ( 1 -| 'a' ) end" 54
  -- a catch part has two or three variables
  pub one_caught : FaultAt
      "module 'm' [] attributes [] 'f'/0 = fun () -> try X of Y -> Y catch Z -> Z end"
      71
  -- and no more, which its arrow tells
  pub four_caught : FaultAt
      "module 'm' [] attributes [] 'f'/0 = fun () -> try X of Y -> Y catch <A, B, C, D> -> D end"
      82
  -- a pattern's key has to be there
  pub loose_key : FaultAt
      "module 'm' [] attributes [] 'f'/0 = fun () -> case X of ~{1 => Y}~ when 'a' -> Y end end"
      61
  -- an arity has at most nine digits
  pub ten_digits : FaultAt "module 'm' [] attributes [] 'f'/0 = fun () -> 'g'/0000000001 end" 51
  -- and no sign
  pub signed_arity : FaultAt "module 'm' [] attributes [] 'f'/0 = fun () -> 'g'/+1 end" 51
  -- a variable alone may have a pattern
  pub tuple_alias : FaultAt
      "module 'm' [] attributes [] 'f'/0 = fun () -> case X of {Y} = Z when 'a' -> Y end end"
      61
  -- also in annotations
  pub noted_alias : FaultAt
      "module 'm' [] attributes [] 'f'/0 = fun () -> case X of ( {Y} -| [] ) = Z when 'a' -> Y end end"
      71
  -- brackets behind `when` are those of the clause
  pub inner_when : FaultAt
      "module 'm' [] attributes [] 'f'/0 = fun () -> case X of ( Y when 'a' -> Y -| [] ) = Z end end"
      83
  -- the integer that a pattern's segment matches has no annotation
  pub noted_integer : FaultAt
      "module 'm' [] attributes [] 'f'/0 = fun () -> case X of #{#<( 1 -| [])>(8,1,'integer',[])}# when 1 -> X end end"
      63
  -- a key is a variable or a constant
  pub variable_key : FaultAt
      "module 'm' [] attributes [] 'f'/0 = fun () -> case X of ~{{Y} := Z}~ when 'a' -> Z end end"
      60
  -- an attribute is a constant
  pub variable_constant : FaultAt "module 'm' [] attributes ['a' = X] end" 33
  -- a constant map has no base
  pub base_constant : FaultAt "module 'm' [] attributes ['a' = ~{1 => 2 | 3}~] end" 42
  -- where only a constant may stand a segment has an integer
  pub float_value : FaultAt "module 'm' [] attributes ['a' = #{#<1.0>(8, 1, 'integer', [])}#] end" 37
  -- and no wide size
  pub wide_size : FaultAt
      "module 'm' [] attributes ['a' = #{#<1>(999999999999999999999999999999999999999, 1, 'integer', [])}#] end"
      40
  -- and at most 256 bits
  pub many_bits : FaultAt "module 'm' [] attributes ['a' = #{#<1>(16, 17, 'integer', [])}#] end" 44
  -- and a unit
  pub no_unit : FaultAt "module 'm' [] attributes ['a' = #{#<1>(8, 0, 'integer', [])}#] end" 43
  -- and the type integer
  pub binary_kind : FaultAt "module 'm' [] attributes ['a' = #{#<1>(8, 1, 'binary', [])}#] end" 46
  -- and flags, without `native`
  pub native_flag : FaultAt
      "module 'm' [] attributes ['a' = #{#<1>(8, 1, 'integer', ['big'|['native']])}#] end"
      65
  -- in a list
  pub flags_list : FaultAt "module 'm' [] attributes ['a' = #{#<1>(8, 1, 'integer', 'big')}#] end" 57
  -- a module ends at its `end`
  pub more_text : FaultAt "module 'm' [] attributes [] end end" 33
  -- and not before
  pub no_end : FaultAt "module 'm' [] attributes []" 28

-- the last of these tokens is this deep in some text, and no less deep in any
pub record LastDepth (ts : List Token) (d : ℕ) : Type 0 where
  pub deeper : (most : ℕ) → most < d → IsDeeper most ts
  pub within : (most : ℕ) → d ≤ most → IsDeeper most ts → ⊥

-- the tokens before the last one
abbrev pub before_last : List Token → List Token
before_last [] = []
before_last (t ∷ []) = []
before_last (t ∷ u ∷ us) = t ∷ before_last (u ∷ us)

-- a text that breaks off is this deep at its last token
abbrev pub BrokenAt : String → ℕ → Type 0
BrokenAt text d = LastDepth (before_last (tokens (codes text))) d

-- texts that break off, with the least depths of their last tokens
pub record DepthExamples : Type 0 where
  -- a bracket before a clause counts as the clause's
  pub clause_bracket : BrokenAt "module 'm' [] attributes [] 'f'/0 = fun () -> case X of (" 5
  -- what is in it is as deep either way
  pub in_bracket : BrokenAt "module 'm' [] attributes [] 'f'/0 = fun () -> case X of ( Y" 6
  -- the bar tells that it is the pattern's
  pub pattern_bar : BrokenAt "module 'm' [] attributes [] 'f'/0 = fun () -> case X of ( Y -|" 6
  -- and `when` that it is the clause's
  pub clause_when : BrokenAt "module 'm' [] attributes [] 'f'/0 = fun () -> case X of ( Y when" 5
  -- a bracket of a key counts as that of a variable
  pub key_bracket : BrokenAt "module 'm' [] attributes [] 'f'/0 = fun () -> case X of ~{(" 6
  -- a variable as a key counts nothing
  pub variable_key : BrokenAt "module 'm' [] attributes [] 'f'/0 = fun () -> case X of ~{( Y" 6
  -- and a constant one
  pub constant_key : BrokenAt "module 'm' [] attributes [] 'f'/0 = fun () -> case X of ~{( 1" 7
