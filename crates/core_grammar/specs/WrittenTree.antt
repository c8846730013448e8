-- All that is written in a text of Core Erlang, as a plain tree: annotations and what they hold, the spellings of
-- numbers, value lists with one variable or in angle brackets (Core Erlang 1.0.3, section 4; maps and two-variable
-- `catch` as OTP 25 prints them). One family has expressions, patterns and constants: where each of its forms may
-- stand says specs/Standing.antt. Kept are the places that a module's tree needs.
use Rattle.std.specs.Prelude.{ℕ, ℤ, Bool, List}
use Rattle.erl_base.specs.Names.{Name}
use Rattle.erl_base.specs.declared.ids.Place.{Place}

-- an atom where it is written
pub record Spelled : Type 0 where
  pub place : Place
  pub name : Name

mutual
  -- a node begins with the place of its first token
  pub data Tree : Type 0 where
    variable : Place → Name → Tree
    atom : Place → Name → Tree
    -- an integer of 128 signed bits, and whether a sign is written
    number : Place → (signed : Bool) → ℤ → Tree
    -- an integer past 128 signed bits, by the number of its digits
    wide : Place → (digits : ℕ) → Tree
    float : Place → Tree
    character : Place → ℕ → Tree
    string : Place → List ℕ → Tree
    -- 'f'/1
    function_name : Place → Name → (arity : ℕ) → Tree
    -- fun 'm':'f'/1
    external : Place → (called_module called : Spelled) → (arity : ℕ) → Tree
    -- ( tree -| note )
    noted : Place → (inside note : Tree) → Tree
    -- variable = pattern, where the variable may be annotated
    alias : (name pattern : Tree) → Tree
    -- [ items ]
    list : Place → (items : Row) → Tree
    -- [ first, items | tail ]
    list_on : Place → (first : Tree) → (items : Row) → (tail : Tree) → Tree
    -- { items }
    tuple : Place → (items : Row) → Tree
    -- < items >
    values : Place → (items : Row) → Tree
    -- ~{ pairs }~
    new_map : Place → Pairs → Tree
    -- ~{ pairs | base }~
    map_on : Place → Pairs → (base : Tree) → Tree
    -- #{ segments }#
    binary : Place → Segments → Tree
    -- fun ( params ) -> body
    fun : Place → (params : Row) → (body : Tree) → Tree
    -- let vars = bound in body
    let_in : Place → (vars : Group) → (bound body : Tree) → Tree
    -- letrec definitions in body
    letrec : Place → Definitions → (body : Tree) → Tree
    -- case subject of first clauses end
    case : Place → (subject : Tree) → (first : Clause) → Clauses → Tree
    -- apply function ( arguments )
    apply : Place → (function : Tree) → (arguments : Row) → Tree
    -- call module : function ( arguments )
    call : Place → (called_module called : Tree) → (arguments : Row) → Tree
    -- primop name ( arguments )
    primop : Place → Spelled → (arguments : Row) → Tree
    -- do first second
    do_then : Place → (first second : Tree) → Tree
    -- catch body
    catch : Place → (body : Tree) → Tree
    -- try tried of vars -> body catch caught -> handler
    try : Place → (tried : Tree) → (vars : Group) → (body : Tree) → (caught : Group) → (handler : Tree) → Tree
    -- receive clauses after timeout -> body
    receive : Place → Clauses → (timeout body : Tree) → Tree

  -- items with commas between them
  pub data Row : Type 0 where
    none : Row
    more : Tree → Row → Row

  -- one item, or a value list of items
  pub data Group : Type 0 where
    single : Tree → Group
    angled : Place → Row → Group

  -- key => value, or key := value where the key has to be there
  pub data Pairs : Type 0 where
    no_pair : Pairs
    pair : (key : Tree) → (exact : Bool) → (value : Tree) → Pairs → Pairs

  -- #< value > ( size , unit , kind , flags ), which may be annotated
  pub data Segment : Type 0 where
    segment : Place → (value size unit kind flags : Tree) → Segment
    noted_segment : Segment → (note : Tree) → Segment

  pub data Segments : Type 0 where
    no_segment : Segments
    and_segment : Segment → Segments → Segments

  -- patterns when guard -> body, which may be annotated
  pub data Clause : Type 0 where
    clause : (patterns : Group) → (guard body : Tree) → Clause
    noted_clause : Clause → (note : Tree) → Clause

  pub data Clauses : Type 0 where
    no_clause : Clauses
    and_clause : Clause → Clauses → Clauses

  -- name = function
  pub data Definitions : Type 0 where
    no_definition : Definitions
    definition : (name function : Tree) → Definitions → Definitions

-- key = value
pub data Attributes : Type 0 where
  no_attribute : Attributes
  attribute : (key value : Tree) → Attributes → Attributes

-- module name [ exports ] attributes [ attributes ] definitions end, which may be annotated
pub data Written : Type 0 where
  plain_module : Spelled → (exports : Row) → Attributes → Definitions → Written
  noted_module : Written → (note : Tree) → Written

-- the place of a node's first token
abbrev pub first_place : Tree → Place
first_place (variable p x) = p
first_place (atom p a) = p
first_place (number p g z) = p
first_place (wide p n) = p
first_place (float p) = p
first_place (character p c) = p
first_place (string p cs) = p
first_place (function_name p a n) = p
first_place (external p m f n) = p
first_place (noted p t n) = p
first_place (alias x t) = first_place x
first_place (list p ts) = p
first_place (list_on p t ts u) = p
first_place (tuple p ts) = p
first_place (values p ts) = p
first_place (new_map p ps) = p
first_place (map_on p ps t) = p
first_place (binary p gs) = p
first_place (fun p xs t) = p
first_place (let_in p xs t u) = p
first_place (letrec p ds t) = p
first_place (case p t c cs) = p
first_place (apply p t ts) = p
first_place (call p m f ts) = p
first_place (primop p a ts) = p
first_place (do_then p t u) = p
first_place (catch p t) = p
first_place (try p t xs u ys v) = p
first_place (receive p cs t u) = p
