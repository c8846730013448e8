-- Small trees for worked examples, all at one place.
use Rattle.std.proofs.Common.{ℕ, suc, List, [], ◌∷◌, Bool, None, pos, codes}
use Rattle.erl_base.specs.Names.{Name}
use Rattle.erl_base.specs.declared.ids.Place.{Place}
use Rattle.erl_base.specs.declared.ids.FunKey.{FunKey}
use Rattle.erl_term.specs.Term as T
use Rattle.erl_term.specs.Term.{Term}
use Rattle.erl_term.specs.Terms.{Values, terms, list_of}
use Rattle.world_model.specs.World as W
use Rattle.world_model.specs.World.{Reply, Script, Happening}
use Rattle.world_model.specs.Run.{Outcome, Entry, Looked}
use Rattle.core_form.specs.declared.tree.Binder.{Binder}
use Rattle.core_form.specs.Core as C
use Rattle.core_form.specs.Core.{Module, Expr, Exprs, Pattern, Patterns, Clause, Clauses, Def, Defs, MapPart, MapParts, Segment, Segments, KeyPattern, KeyPatterns, SegPattern, SegPatterns}
use Rattle.core_form.specs.View.{exprs, patterns, clauses, defs, segs}
use Rattle.core_meaning.specs.CoreRun.{Result}

abbrev pub p0 : Place
p0 = record { line = 1; column = 1 }

abbrev pub key : Name → ℕ → FunKey
key f n = record { name = f; arity = n }

abbrev pub binders : List Name → List Binder
binders [] = []
binders (x ∷ xs) = record { name = x; place = p0 } ∷ binders xs

-- Terms.

abbrev pub atom : Name → Term
atom x = T.atom x

abbrev pub int : ℕ → Term
int n = T.int (pos n)

abbrev pub tuple_of : Values → Term
tuple_of ts = T.tuple (terms ts)

abbrev pub list_term : Values → Term
list_term ts = list_of ts T.nil

-- Expressions.

abbrev pub lit : Term → Expr
lit t = C.literal p0 t

abbrev pub a : Name → Expr
a x = lit (atom x)

abbrev pub i : ℕ → Expr
i n = lit (int n)

abbrev pub v : Name → Expr
v x = C.var p0 x

abbrev pub values : List Expr → Expr
values es = C.values p0 (exprs es)

abbrev pub tuple : List Expr → Expr
tuple es = C.tuple p0 (exprs es)

abbrev pub fun : List Name → Expr → Expr
fun xs e = C.fun p0 (binders xs) e

abbrev pub let_in : List Name → Expr → Expr → Expr
let_in xs e b = C.let_in p0 (binders xs) e b

abbrev pub case : Expr → List Clause → Expr
case e cs = C.case p0 e (clauses cs)

abbrev pub receive : List Clause → Expr → Expr → Expr
receive cs t b = C.receive p0 (clauses cs) t b

abbrev pub local : Name → List Expr → Expr
local f es = C.apply p0 (C.fun_name p0 (key f (count es))) (exprs es)
  where
    count : List Expr → ℕ
    count [] = 0
    count (e ∷ es) = suc (count es)

abbrev pub apply : Expr → List Expr → Expr
apply e es = C.apply p0 e (exprs es)

abbrev pub call : Name → Name → List Expr → Expr
call m f es = C.call p0 (a m) (a f) (exprs es)

abbrev pub erlang : Name → List Expr → Expr
erlang f es = call (codes "erlang") f es

abbrev pub primop : Name → List Expr → Expr
primop n es = C.primop p0 n (exprs es)

-- `=:=`
abbrev pub same : Expr → Expr → Expr
same x y = erlang (codes "=:=") (x ∷ y ∷ [])

-- Patterns and clauses.

abbrev pub any : Name → Pattern
any x = C.any p0 x

abbrev pub known : Term → Pattern
known t = C.known p0 t

abbrev pub tuple_like : List Pattern → Pattern
tuple_like qs = C.tuple_like p0 (patterns qs)

abbrev pub yes : Expr
yes = a (codes "true")

abbrev pub clause : List Pattern → Expr → Expr → Clause
clause qs g e = C.clause p0 (patterns qs) g e

-- Binaries.

-- `unsigned`, `big`
abbrev pub unsigned_big : Term
unsigned_big = list_term (atom (codes "unsigned") ∷ atom (codes "big") ∷ [])

abbrev pub integer : Expr → Expr → Term → Segment
integer e size flags = C.segment p0 e size (int 1) (codes "integer") flags

abbrev pub integer_like : Pattern → Expr → Term → SegPattern
integer_like q size flags = C.seg_pattern p0 q size (int 1) (codes "integer") flags

-- all that is left, in bytes
abbrev pub rest_like : Name → SegPattern
rest_like x = C.seg_pattern p0 (any x) (a (codes "all")) (int 8) (codes "binary") unsigned_big

abbrev pub bits_like : List SegPattern → Pattern
bits_like ss = C.bits_like p0 (segs ss)

-- Modules and runs.

abbrev pub def : Name → ℕ → Expr → Def
def f n e = C.def p0 (key f n) e

abbrev pub program : Name → List Def → Module
program m ds = record {
  name = m;
  exports = [];
  attributes = [];
  defs = defs ds;
  floats = None;
  wide = None;
  long = None;
}

abbrev pub script : Values → List Reply → Script
script mailbox replies = record { own = T.pid 1; mailbox = mailbox; replies = replies; choices = [] }

abbrev pub alone : Script
alone = script [] []

abbrev pub returns : Values → Term → Reply
returns ts t = record { arrivals = ts; how = W.return; term = t }

-- a reply to a look or a wait
abbrev pub brings : Values → Reply
brings ts = returns ts (atom (codes "ok"))

abbrev pub entry : ℕ → Bool → Entry
entry n tail = record { site = n; tail = tail }

abbrev pub look : ℕ → Bool → Looked
look n accepted = record { serial = n; accepted = accepted }

-- a run without receives, marking calls or sub-binaries
abbrev pub run : List Happening → List Entry → Outcome Term → Result
run hs es end = record { happenings = hs; entries = es; looks = []; marks = []; examined = []; subs = 0; end = end }
