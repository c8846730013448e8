-- The line of each answer: a table from statuses to the pieces of a line, and their texts.
use Rattle.std.specs.Prelude.{ℕ, List, [], ◌∷◌, map, codes, decimal}
use Rattle.std.specs.List.{concat}
use Rattle.erl_base.specs.declared.ids.Place.{Place}
use Rattle.erl_base.specs.declared.refusal.ScopeFault.{ScopeFault}
use Rattle.erl_base.specs.declared.refusal.ScopeFault.TheVariants.{UnboundVariable, UnboundFunction, DoubledVariable, DoubledFunction, MissingExport, WrongArity, WrongDegree, ClauseWidth, GuardForm}
use Rattle.erl_base.specs.declared.refusal.Outside.{Outside}
use Rattle.erl_base.specs.declared.refusal.LimitName.{LimitName}
use Rattle.erl_base.specs.declared.refusal.LimitName.TheVariants as Limits
use Rattle.erl_base.specs.declared.refusal.Kind.{Kind}
use Rattle.erl_base.specs.declared.refusal.Kind.TheVariants.{TooLarge, NotUtf8, Syntax, Scope, Profile, Limit, AsmSyntax, Script}
use Rattle.erlc_cli.specs.declared.status.Status.{Status}
use Rattle.erlc_cli.specs.declared.status.Status.TheVariants.{Done, Refused, Usage, ReadFault, WriteFault, NoMemory, Unsafe, Unfinished, Beyond}
use Rattle.erlc_cli.specs.declared.line.Piece as declared
use Rattle.erlc_cli.specs.declared.line.Piece.TheVariants as variants

-- a piece of a line: a text, the name of IN or of OUT, or a number of a refusal
pub data Piece : Type 0 where
  text : List ℕ → Piece
  input : Piece
  output : Piece
  line : Piece
  column : Piece
  count : Piece

-- a piece in the code
abbrev pub piece_view : declared.Piece → Piece
piece_view (variants.Text words) = text words.now
piece_view variants.Input = input
piece_view variants.Output = output
piece_view variants.Line = line
piece_view variants.Column = column
piece_view variants.Count = count

-- pieces behind the place of a refusal
abbrev pub at_place : List Piece → List Piece
at_place pieces = input ∷ text (codes ":") ∷ line ∷ text (codes ":") ∷ column ∷ text (codes ": ") ∷ pieces

-- what is said of a fault of scope
abbrev pub scope_pieces : ScopeFault → List Piece
scope_pieces UnboundVariable = at_place (text (codes "unbound variable\n") ∷ [])
scope_pieces UnboundFunction = at_place (text (codes "unbound function\n") ∷ [])
scope_pieces DoubledVariable = at_place (text (codes "doubled variable\n") ∷ [])
scope_pieces DoubledFunction = at_place (text (codes "doubled function\n") ∷ [])
scope_pieces MissingExport = at_place (text (codes "missing export\n") ∷ [])
scope_pieces WrongArity = at_place (text (codes "wrong arity\n") ∷ [])
scope_pieces WrongDegree = at_place (text (codes "wrong degree\n") ∷ [])
scope_pieces ClauseWidth = at_place (text (codes "wrong clause width\n") ∷ [])
scope_pieces GuardForm = at_place (text (codes "guard form\n") ∷ [])

-- what is said of a form that the profile leaves out
abbrev pub outside_pieces : Outside → List Piece
outside_pieces Outside.Float = at_place (text (codes "outside the profile: float\n") ∷ [])
outside_pieces Outside.Primop = at_place (text (codes "outside the profile: primop\n") ∷ [])
outside_pieces Outside.FloatFunction = at_place (text (codes "outside the profile: float function\n") ∷ [])
outside_pieces Outside.SegmentType = at_place (text (codes "outside the profile: segment type\n") ∷ [])
outside_pieces Outside.Native = at_place (text (codes "outside the profile: native\n") ∷ [])
outside_pieces Outside.SegmentForm = at_place (text (codes "outside the profile: segment form\n") ∷ [])
outside_pieces Outside.NotBuilt = at_place (text (codes "outside the profile: not built\n") ∷ [])

-- what is said of a limit that was passed
abbrev pub limit_pieces : LimitName → List Piece
limit_pieces Limits.Integer = at_place (text (codes "integer literal of ") ∷ count ∷ text (codes " digits\n") ∷ [])
limit_pieces Limits.Atom = at_place (text (codes "atom of ") ∷ count ∷ text (codes " characters\n") ∷ [])
limit_pieces Limits.Arity = at_place (text (codes "arity ") ∷ count ∷ text (codes "\n") ∷ [])
limit_pieces Limits.Nodes = at_place (count ∷ text (codes " nodes\n") ∷ [])
limit_pieces Limits.Definitions = at_place (count ∷ text (codes " definitions\n") ∷ [])
limit_pieces Limits.Receive = at_place (text (codes "receive of ") ∷ count ∷ text (codes " nodes\n") ∷ [])
limit_pieces Limits.Nesting = at_place (text (codes "nesting ") ∷ count ∷ text (codes "\n") ∷ [])

-- the line of a refusal of that kind
abbrev pub refusal_pieces : Kind → List Piece
refusal_pieces TooLarge = input ∷ text (codes ": larger than 16777216 bytes\n") ∷ []
refusal_pieces NotUtf8 = at_place (text (codes "not UTF-8\n") ∷ [])
refusal_pieces Syntax = at_place (text (codes "syntax\n") ∷ [])
refusal_pieces (Scope fault) = scope_pieces fault
refusal_pieces (Profile outside) = outside_pieces outside
refusal_pieces (Limit name passed) = limit_pieces name
refusal_pieces AsmSyntax = at_place (text (codes "assembly syntax\n") ∷ [])
refusal_pieces Script = input ∷ text (codes ": no script for this run\n") ∷ []

-- the line of a status; Done has none
abbrev pub pieces_of : Status → List Piece
pieces_of Done = []
pieces_of (Refused refusal) = refusal_pieces refusal.kind
pieces_of Usage =
    text (codes "usage: erlc_core compile IN OUT, check IN, list PASS IN, ")
    ∷ text (codes "trace S FUN ARGS SCRIPT LIMIT, sample N, verify S\n") ∷ []
pieces_of ReadFault = input ∷ text (codes ": cannot be read\n") ∷ []
pieces_of WriteFault = output ∷ text (codes ": cannot be written\n") ∷ []
pieces_of NoMemory = text (codes "out of memory\n") ∷ []
pieces_of Unsafe = input ∷ text (codes ": unsafe\n") ∷ []
pieces_of Unfinished = input ∷ text (codes ": not ended\n") ∷ []
pieces_of Beyond = input ∷ text (codes ": value out of range\n") ∷ []

-- the place that a status names: line 0 and column 0 where it names none
abbrev pub named_place : Status → Place
named_place (Refused refusal) = refusal.place
named_place status = record { line = 0; column = 0 }

-- the count that passed a limit, 0 where the refusal is of another kind
abbrev pub passed_by : Kind → ℕ
passed_by (Limit name passed) = passed
passed_by kind = 0

-- the count that a status names, 0 where it names none
abbrev pub named_count : Status → ℕ
named_count (Refused refusal) = passed_by refusal.kind
named_count status = 0

-- the text of a piece, for a status of an action that reads the one file and writes the other
abbrev pub text_of : Status → List ℕ → List ℕ → Piece → List ℕ
text_of status in_name out_name (text words) = words
text_of status in_name out_name input = in_name
text_of status in_name out_name output = out_name
text_of status in_name out_name line = decimal (named_place status).line
text_of status in_name out_name column = decimal (named_place status).column
text_of status in_name out_name count = decimal (named_count status)

-- the line of a status
abbrev pub line_of : Status → List ℕ → List ℕ → List ℕ
line_of status in_name out_name = concat (map (text_of status in_name out_name) (pieces_of status))
