-- Matching bit strings by contexts, and building them.
use Rattle.std.specs.Prelude.{ℕ, ◌+◌, ◌%◌, List, [], ◌∷◌, ◌++◌, length, slice_get, take, min, Bool, true, false, eqb, Option, Some, None, codes}
use Rattle.erl_base.specs.Names.{same_name}
use Rattle.erl_term.specs.Term as T
use Rattle.erl_term.specs.Segments.{Shape, joined, built, taken_size, segment_value}
use Rattle.step_machine.specs.Frames.{MatchContext, rest_of, moved}
use Rattle.step_machine.specs.Steps.{goes, bad, notes, sub_binary}
use Rattle.beam_table.specs.Code as C
use Rattle.bif_table.specs.BuiltinAnswer.{badarg}
use Rattle.beam_table.specs.Code.{Reg, Source, Flags, Segment, AsmModule}
use Rattle.beam_table.specs.MachineState.{Cell, Machine, term, context, position}
use Rattle.beam_table.specs.GeneralRules.{Effect, if_some, read_reg, read_cell, read, write, write_term, collects, jumps, or_jumps, or_raises}

-- the operand `{atom,all}`, and no other one that holds this atom
abbrev pub is_whole : Source → Bool
is_whole (C.atom a) = same_name a (codes "all")
is_whole _ = false

-- what a segment says beside its value
abbrev pub shape : Bool → Source → ℕ → Flags → Shape
shape binary size unit fs =
    record { unit = unit; is_binary = binary; signed = fs.signed; little = fs.little; whole = is_whole size }

-- of a number
abbrev pub number_shape : ℕ → Flags → Shape
number_shape unit fs = record { unit = unit; is_binary = false; signed = fs.signed; little = fs.little; whole = false }

-- the same in the machine
abbrev pub at_position : ℕ → ℕ → Machine → Machine
at_position n p m = record m { contexts = moved n p m.contexts }

-- a context is wanted
abbrev pub if_context : Cell → (ℕ → Effect) → Effect
if_context (context n) k = k n
if_context _ k = bad

-- a position is wanted
abbrev pub if_position : Cell → (ℕ → Effect) → Effect
if_position (position p) k = k p
if_position _ k = bad

-- the context that a register holds, with its number
abbrev pub context_in : Machine → Reg → (ℕ → MatchContext → Effect) → Effect
context_in m c k = read_reg m c λ v. if_context v λ n. if_some (slice_get m.contexts n) λ w. k n w

-- a sub-binary
abbrev pub write_sub : Machine → Reg → List Bool → Effect
write_sub m d bs = write_term m d (T.bits bs) λ u. notes sub_binary (goes u)

-- {bs_get_tail,C,D,Live}: collects; D := the bits that are left; one sub-binary
abbrev pub do_get_tail : Reg → Reg → ℕ → Machine → Effect
do_get_tail c d live m = collects live m λ u. context_in u c λ n w. write_sub u d (rest_of w)

-- {bs_get_position,C,D,Live}: collects; D := the position of C
abbrev pub do_get_position : Reg → Reg → ℕ → Machine → Effect
do_get_position c d live m = collects live m λ u. context_in u c λ n w. write u d (position w.at) goes

-- {bs_set_position,C,P}: C goes to the position in P, or to the end of its bits where that lies past them
abbrev pub do_set_position : Reg → Reg → Machine → Effect
do_set_position c r m = context_in m c λ n w. read_reg m r λ v. if_position v λ p.
    goes (at_position n (min p (length w.bits)) m)

-- all values and sizes are read; the bits of all segments in a row, or none where one has no bits
abbrev pub read_segments : Machine → List Segment → (Option (List Bool) → Effect) → Effect
read_segments m [] k = k (Some [])
read_segments m (g ∷ gs) k = read m g.value λ t. read m g.size λ u. read_segments m gs λ o.
    k (joined (built (shape g.is_binary g.size g.unit g.flags) t u) o)

module _ (a : AsmModule) where
  -- no match
  abbrev pub or_no_match : Option ℕ → Machine → Effect
  or_no_match None m = bad
  or_no_match (Some l) m = jumps a l m

  -- a context stays one, bits become a new context at their start, any other term does not match
  abbrev pub starts : Option ℕ → Cell → Reg → Machine → Effect
  starts l (context n) d m = write m d (context n) goes
  starts l (term (T.bits bs)) d m =
      write m d (context (length m.contexts)) λ u.
      goes (record u { contexts = u.contexts ++ record { bits = bs; at = 0 } ∷ [] })
  starts l (term t) d m = or_no_match l m
  starts l _ d m = bad

  -- {bs_start_match4,L,Live,S,D}: collects; without a label a term that holds no bits is bad
  abbrev pub do_start_match : Option ℕ → ℕ → Source → Reg → Machine → Effect
  do_start_match l live s d m = collects live m λ u. read_cell u s λ c. starts l c d u

  -- the bits of a segment, if there are so many
  abbrev pub takes : Option ℕ → ℕ → ℕ → MatchContext → Machine → (List Bool → Machine → Effect) → Effect
  takes None l n w m k = jumps a l m
  takes (Some j) l n w m k = k (take j (rest_of w)) (at_position n (w.at + j) m)

  -- takes a segment from a context, or jumps
  abbrev pub takes_segment : Shape → ℕ → Reg → Source → Machine → (List Bool → Machine → Effect) → Effect
  takes_segment h l c s m k = context_in m c λ n w. read m s λ t.
      takes (taken_size h (Some t) (length (rest_of w))) l n w m k

  -- {test,bs_get_integer2,L,Live,[C,S,U,{field_flags,Fs}],D}: collects; takes S times U bits as a number, or jumps
  -- with the position as it was
  abbrev pub do_get_integer : ℕ → ℕ → Reg → Source → ℕ → Flags → Reg → Machine → Effect
  do_get_integer l live c s unit fs d m = collects live m λ u.
      takes_segment (number_shape unit fs) l c s u λ bs v. write_term v d (segment_value (number_shape unit fs) bs) goes

  -- {test,bs_get_binary2,L,Live,[C,S,U,{field_flags,Fs}],D}: collects; takes bits, all that are left in units of U
  -- for {atom,all}; one sub-binary
  abbrev pub do_get_binary : ℕ → ℕ → Reg → Source → ℕ → Flags → Reg → Machine → Effect
  do_get_binary l live c s unit fs d m = collects live m λ u.
      takes_segment (shape true s unit fs) l c s u λ bs v. write_sub v d bs

  -- {test,bs_skip_bits2,L,[C,S,U,{field_flags,Fs}]}
  abbrev pub do_skip_bits : ℕ → Reg → Source → ℕ → Flags → Machine → Effect
  do_skip_bits l c s unit fs m = takes_segment (shape true s unit fs) l c s m λ bs u. goes u

  -- {test,bs_test_tail2,L,[C,N]}: jumps unless N bits are left
  abbrev pub do_test_tail : ℕ → Reg → ℕ → Machine → Effect
  do_test_tail l c j m = context_in m c λ n w. or_jumps a (eqb (length (rest_of w)) j) l m

  -- {test,bs_test_unit,L,[C,U]}: jumps unless a multiple of U bits is left
  abbrev pub do_test_unit : ℕ → Reg → ℕ → Machine → Effect
  do_test_unit l c j m = context_in m c λ n w. or_jumps a (eqb (length (rest_of w) % j) 0) l m

  -- the bits that are built, or a raise
  abbrev pub creates : Option (List Bool) → Option ℕ → Reg → Machine → Effect
  creates None l d m = or_raises a l T.error badarg m
  creates (Some bs) l d m = write_term m d (T.bits bs) goes

  -- {bs_create_bin,L,0,Live,U,D,{list,[Kind,N,U,Fs,S,S,..]}}: collects; all values and sizes are read; badarg jumps
  -- to L, if there is one
  abbrev pub do_create : Option ℕ → ℕ → Reg → List Segment → Machine → Effect
  do_create l live d gs m = collects live m λ u. read_segments u gs λ o. creates o l d u
