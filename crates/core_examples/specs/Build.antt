-- Words for small modules of Core Erlang and for what their calls do. Everything stands at one place of the text.
use Prim.Native.String.{String}
use Rattle.std.specs.Prelude.{ℕ, List, [], ◌∷◌, ◌++◌, length, Bool, true, false, pos, negsuc, None, codes}
use Rattle.erl_base.specs.declared.ids.Place.{Place}
use Rattle.erl_base.specs.declared.ids.FunKey.{FunKey}
use Rattle.erl_term.specs.BitString.{bits_of}
use Rattle.erl_term.specs.Term as T
use Rattle.erl_term.specs.Term.{Term, Class}
use Rattle.erl_term.specs.Terms.{Values, terms, pairs, list_of}
use Rattle.world_model.specs.World as W
use Rattle.world_model.specs.World.{Reply, Script, How, Happening, asked}
use Rattle.world_model.specs.Run.{Entry, Looked, Outcome, raises}
use Rattle.core_form.specs.declared.tree.Binder.{Binder}
use Rattle.core_form.specs.Core as C
use Rattle.core_form.specs.Core.{Module, Expr, Exprs, no_expr, and_expr, Pattern, Clause, Def, MapPart, Segment, KeyPattern, SegPattern}
use Rattle.core_form.specs.View.{exprs, patterns, clauses, defs, parts, segments, keys, segs}
use Rattle.core_meaning.specs.CoreRun.{evaluated, Result}

-- the only place
abbrev pub p0 : Place
p0 = record { line = 1; column = 1 }

-- a function's name and arity
abbrev pub key : String → ℕ → FunKey
key f n = record { name = codes f; arity = n }

-- variables where they are bound
abbrev pub binders : List String → List Binder
binders [] = []
binders (x ∷ xs) = record { name = codes x; place = p0 } ∷ binders xs

-- Terms.

-- an atom
abbrev pub atom : String → Term
atom x = T.atom (codes x)

-- a number from 0 on
abbrev pub int : ℕ → Term
int n = T.int (pos n)

-- the number below 0 that lies n + 1 below it
abbrev pub below_zero : ℕ → Term
below_zero n = T.int (negsuc n)

-- a tuple
abbrev pub tuple_of : Values → Term
tuple_of ts = T.tuple (terms ts)

-- a proper list
abbrev pub list_term : Values → Term
list_term ts = list_of ts T.nil

-- a map, with its keys in their order
abbrev pub map_of : List (Term × Term) → Term
map_of ps = T.map (pairs ps)

-- the bits of bytes
abbrev pub byte_row : List ℕ → List Bool
byte_row [] = []
byte_row (n ∷ ns) = bits_of 8 n ++ byte_row ns

-- a binary
abbrev pub bytes : List ℕ → Term
bytes ns = T.bits (byte_row ns)

-- 9 bits
abbrev pub nine_bits : Term
nine_bits = T.bits (true ∷ byte_row (1 ∷ []))

-- a function that module m made
abbrev pub own_fun : ℕ → ℕ → Values → Term
own_fun site n ts = T.fun (codes "m") site n (terms ts)

-- Expressions.

-- a literal
abbrev pub lit : Term → Expr
lit t = C.literal p0 t

-- an atom as an expression
abbrev pub a : String → Expr
a x = lit (atom x)

-- a number as an expression
abbrev pub i : ℕ → Expr
i n = lit (int n)

-- a variable
abbrev pub v : String → Expr
v x = C.var p0 (codes x)

-- a value list
abbrev pub values : List Expr → Expr
values es = C.values p0 (exprs es)

-- `{E, ..}`
abbrev pub tuple : List Expr → Expr
tuple es = C.tuple p0 (exprs es)

-- `[E, ..|T]`
abbrev pub list : List Expr → Expr → Expr
list es e = C.list p0 (exprs es) e

-- `fun (X, ..) -> E`
abbrev pub fun : List String → Expr → Expr
fun xs e = C.fun p0 (binders xs) e

-- `let <X> = A in B`
abbrev pub let_in : String → Expr → Expr → Expr
let_in x e b = C.let_in p0 (binders (x ∷ [])) e b

-- `letrec 'f'/n = .. in E`
abbrev pub letrec : List Def → Expr → Expr
letrec ds e = C.letrec p0 (defs ds) e

-- `case E of ..`
abbrev pub case : Expr → List Clause → Expr
case e cs = C.case p0 e (clauses cs)

-- `receive .. after T -> E`
abbrev pub receive : List Clause → Expr → Expr → Expr
receive cs t b = C.receive p0 (clauses cs) t b

-- `do A B`
abbrev pub do_then : Expr → Expr → Expr
do_then e b = C.do_then p0 e b

-- `catch E`
abbrev pub catch : Expr → Expr
catch e = C.catch p0 e

-- `try E of <X> -> B catch <C,E,T> -> H`
abbrev pub try : Expr → String → Expr → List String → Expr → Expr
try e x b ys h = C.try p0 e (binders (x ∷ [])) b (binders ys) h

-- `apply E (..)`
abbrev pub apply : Expr → List Expr → Expr
apply e es = C.apply p0 e (exprs es)

-- `'f'/n` as a value
abbrev pub name_of : String → ℕ → Expr
name_of f n = C.fun_name p0 (key f n)

-- `apply 'f'/n (..)` with as many arguments
abbrev pub local : String → List Expr → Expr
local f es = apply (name_of f (length es)) es

-- `call 'm':'f' (..)`
abbrev pub call : String → String → List Expr → Expr
call m f es = C.call p0 (a m) (a f) (exprs es)

-- a call of the module erlang
abbrev pub erlang : String → List Expr → Expr
erlang f es = call "erlang" f es

-- a call of the outside without arguments
abbrev pub asks : String → Expr
asks f = call "p" f []

-- `primop 'n' (..)`
abbrev pub primop : String → List Expr → Expr
primop n es = C.primop p0 (codes n) (exprs es)

-- `A =:= B`
abbrev pub same : Expr → Expr → Expr
same x y = erlang "=:=" (x ∷ y ∷ [])

-- a map of pairs, without a base
abbrev pub new_map : List MapPart → Expr
new_map ps = C.new_map p0 (parts ps)

-- a map that puts pairs into a base
abbrev pub map_with : List MapPart → Expr → Expr
map_with ps e = C.map_of p0 (parts ps) e

-- `K => V`
abbrev pub puts : Expr → Expr → MapPart
puts k e = C.map_part k e false

-- `K := V`
abbrev pub replaces : Expr → Expr → MapPart
replaces k e = C.map_part k e true

-- Patterns and clauses.

-- a variable
abbrev pub any : String → Pattern
any x = C.any p0 (codes x)

-- a literal
abbrev pub literal_like : Term → Pattern
literal_like t = C.known p0 t

-- `X = P`
abbrev pub alias : String → Pattern → Pattern
alias x q = C.alias p0 (codes x) q

-- `{P, ..}`
abbrev pub tuple_like : List Pattern → Pattern
tuple_like qs = C.tuple_like p0 (patterns qs)

-- `[P, ..|P]`
abbrev pub list_like : List Pattern → Pattern → Pattern
list_like qs q = C.list_like p0 (patterns qs) q

-- `~{K := P}~`
abbrev pub key_like : Expr → Pattern → Pattern
key_like e q = C.map_like p0 (keys (C.key_pattern e q ∷ []))

-- the guard 'true'
abbrev pub yes : Expr
yes = a "true"

-- `<P, ..> when G -> E`
abbrev pub when : List Pattern → Expr → Expr → Clause
when qs g e = C.clause p0 (patterns qs) g e

-- `<P> when 'true' -> E`
abbrev pub clause : Pattern → Expr → Clause
clause q e = when (q ∷ []) yes e

-- Bit strings.

-- `unsigned`, `big`
abbrev pub big : Term
big = list_term (atom "unsigned" ∷ atom "big" ∷ [])

-- a segment that is built: its value, size, unit, type
abbrev pub segment : Expr → Expr → ℕ → String → Segment
segment e size unit kind = C.segment p0 e size (int unit) (codes kind) big

-- a segment that is matched
abbrev pub part_like : Pattern → Expr → ℕ → String → SegPattern
part_like q size unit kind = C.seg_pattern p0 q size (int unit) (codes kind) big

-- a byte as a number
abbrev pub byte_like : String → SegPattern
byte_like x = part_like (any x) (i 8) 1 "integer"

-- a byte as bits
abbrev pub bits_byte : String → SegPattern
bits_byte x = part_like (any x) (i 8) 1 "binary"

-- all bytes that are left
abbrev pub rest_like : String → SegPattern
rest_like x = part_like (any x) (a "all") 8 "binary"

-- `#{..}#`
abbrev pub binary : List Segment → Expr
binary ss = C.binary p0 (segments ss)

-- a pattern of segments
abbrev pub bits_like : List SegPattern → Pattern
bits_like ss = C.bits_like p0 (segs ss)

-- #{V, R}#, where V is the first byte as a number, and R the rest
abbrev pub byte_and_rest : Pattern
byte_and_rest = bits_like (byte_like "V" ∷ rest_like "R" ∷ [])

-- Modules and scripts.

-- `'f'/n = fun (X, ..) -> E`
abbrev pub def : String → List String → Expr → Def
def f xs e = C.def p0 (key f (length xs)) (fun xs e)

-- module m
abbrev pub program : List Def → Module
program ds =
    record { name = codes "m"; exports = []; attributes = []; defs = defs ds; floats = None; wide = None; long = None }

-- a mailbox and replies, without choices
abbrev pub script : Values → List Reply → Script
script mailbox replies = record { own = T.pid 1; mailbox = mailbox; replies = replies; choices = [] }

-- nothing is asked
abbrev pub alone : Script
alone = script [] []

-- a reply in some way
abbrev pub reply : Values → How → Term → Reply
reply ts h t = record { arrivals = ts; how = h; term = t }

-- a call returns
abbrev pub back : Term → Reply
back t = reply [] W.return t

-- the reply to a look or a wait that nothing comes with
abbrev pub nothing_came : Reply
nothing_came = back (atom "ok")

-- a call of the outside with its reply
abbrev pub called : String → Reply → Happening
called f r = asked (W.call (codes "p") (codes f) []) r

-- What a call does.

-- a function that is entered, by its site
abbrev pub entry : ℕ → Bool → Entry
entry n tail = record { site = n; tail = tail }

-- a message that is looked at
abbrev pub look : ℕ → Bool → Looked
look n accepted = record { serial = n; accepted = accepted }

-- what is seen of a call that receives nothing and makes no sub-binary
abbrev pub shown : List Happening → List Entry → Outcome Term → Result
shown hs es end = record { happenings = hs; entries = es; looks = []; marks = []; examined = []; subs = 0; end = end }

-- a raise of class error with an atom
abbrev pub fails : String → Outcome Term
fails w = raises T.error (atom w)

-- a raise of class error with a tagged term
abbrev pub fails_with : String → Term → Outcome Term
fails_with w t = raises T.error (tuple_of (atom w ∷ t ∷ []))

-- A loop over the bytes of a binary, which hands each rest on to itself: its parameter is taken apart.
abbrev pub taker : Def
taker =
    def "tk" ("B" ∷ []) (case (v "B")
    (clause byte_and_rest (local "tk" (v "R" ∷ [])) ∷ clause (any "_0") (a "end") ∷ []))

-- A call of the first function of module m, f with these parameters and this body, before these other functions.
abbrev pub runs : List String → Expr → List Def → Values → Script → Result
runs xs e ds ts x = evaluated (program (def "f" xs e ∷ ds)) (key "f" (length xs)) ts x 10
