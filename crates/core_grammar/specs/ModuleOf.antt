-- The module that a written one stands for. Annotations are dropped, what is one constant is one literal, and a list
-- in the tail of a list is the same list.
use Rattle.std.specs.Prelude.{ℕ, ltb, pos, List, [], ◌∷◌, length, true, false, Option, None, Some, if◌then◌else◌}
use Rattle.erl_base.specs.Names.{Name}
use Rattle.erl_base.specs.declared.ids.Place.{Place}
use Rattle.erl_base.specs.declared.ids.FunKey.{FunKey}
use Rattle.erl_term.specs.Term as T
use Rattle.erl_term.specs.Term.{Term}
use Rattle.core_lex.specs.declared.token.TokenKind.TheVariants.{Atom, Wide, Float}
use Rattle.core_form.specs.declared.tree.Binder.{Binder}
use Rattle.core_form.specs.declared.module.FunName.{FunName}
use Rattle.core_form.specs.Core as C
use Rattle.core_grammar.specs.WrittenTree.{Tree, variable, atom, number, wide, float, character, string, function_name, external, noted, alias, list, list_on, tuple, values, new_map, map_on, binary, fun, let_in, letrec, case, apply, call, primop, do_then, catch, try, receive, Row, none, more, Group, single, angled, Pairs, no_pair, pair, Segment, segment, noted_segment, Segments, no_segment, and_segment, Clause, clause, noted_clause, Clauses, no_clause, and_clause, Definitions, no_definition, definition, Attributes, no_attribute, attribute, Written, plain_module, noted_module, first_place}
use Rattle.core_grammar.specs.ConstantTerms.{constant_of}
use Rattle.core_grammar.specs.Signs.{Sight, at_place, Sign, signs_outside_notes}

-- the place of a node: its first token inside all its annotations
abbrev pub inner_place : Tree → Place
inner_place (noted p t n) = inner_place t
inner_place (alias x t) = inner_place x
inner_place t = first_place t

-- the variable, annotations aside; nothing else is asked for its name
abbrev pub variable_name : Tree → Name
variable_name (variable p x) = x
variable_name (noted p t n) = variable_name t
variable_name _ = []

-- the atom, annotations aside
abbrev pub atom_name : Tree → Name
atom_name (atom p a) = a
atom_name (noted p t n) = atom_name t
atom_name _ = []

-- the name of a function with its arity
abbrev pub function_key : Name → ℕ → FunKey
function_key a n = record { name = a; arity = n }

-- the same, of what is written, annotations aside
abbrev pub name_key : Tree → FunKey
name_key (function_name p a n) = function_key a n
name_key (noted p t n) = name_key t
name_key _ = function_key [] 0

-- a variable where it is bound
abbrev pub binder_of : Tree → Binder
binder_of x = record { name = variable_name x; place = inner_place x }

-- variables in a row
abbrev pub binders_of : Row → List Binder
binders_of none = []
binders_of (more x xs) = binder_of x ∷ binders_of xs

-- one variable, or some
abbrev pub group_binders : Group → List Binder
group_binders (single x) = binder_of x ∷ []
group_binders (angled p xs) = binders_of xs

-- the term of a constant; nothing else is asked for one
abbrev pub term_or_nil : Option Term → Term
term_or_nil None = T.nil
term_or_nil (Some t) = t

-- a constant
abbrev pub constant_term : Tree → Term
constant_term t = term_or_nil (constant_of false t)

-- a literal where there is a term, and else the expression
abbrev pub literal_or : Place → Option Term → C.Expr → C.Expr
literal_or p None e = e
literal_or p (Some t) e = C.literal p t

-- the same, of patterns
abbrev pub known_or : Place → Option Term → C.Pattern → C.Pattern
known_or p None q = q
known_or p (Some t) q = C.known p t

-- the characters of a string as items, all of them at its place
abbrev pub character_exprs : Place → List ℕ → C.Exprs
character_exprs p [] = C.no_expr
character_exprs p (c ∷ cs) = C.and_expr (C.literal p (T.int (pos c))) (character_exprs p cs)

-- the same, of patterns
abbrev pub character_patterns : Place → List ℕ → C.Patterns
character_patterns p [] = C.no_pattern
character_patterns p (c ∷ cs) = C.and_pattern (C.known p (T.int (pos c))) (character_patterns p cs)

abbrev mutual
  -- the expression that is written; an alias is none
  pub expr_of : Tree → C.Expr
  expr_of (variable p x) = C.var p x
  expr_of (atom p a) = C.literal p (T.atom a)
  expr_of (number p g z) = C.literal p (T.int z)
  expr_of (wide p n) = C.literal p (T.int (pos 0))
  expr_of (float p) = C.literal p (T.int (pos 0))
  expr_of (character p c) = C.literal p (T.int (pos c))
  expr_of (string p cs) = C.literal p (constant_term (string p cs))
  expr_of (function_name p a n) = C.fun_name p (function_key a n)
  expr_of (external p m f n) = C.literal p (T.extern m.name f.name n)
  expr_of (noted p t n) = expr_of t
  expr_of (alias x t) = C.values (first_place x) C.no_expr
  expr_of (list p ts) =
      literal_or p (constant_of false (list p ts)) (C.list p (exprs_of ts C.no_expr) (C.literal p T.nil))
  expr_of (list_on p t ts u) =
      literal_or p (constant_of false (list_on p t ts u))
      (C.list p (C.and_expr (expr_of t) (exprs_of ts (tail_items u))) (rest_of p u (expr_of u)))
  expr_of (tuple p ts) = literal_or p (constant_of false (tuple p ts)) (C.tuple p (exprs_of ts C.no_expr))
  expr_of (values p ts) = C.values p (exprs_of ts C.no_expr)
  expr_of (new_map p ps) = literal_or p (constant_of false (new_map p ps)) (C.new_map p (parts_of ps))
  expr_of (map_on p ps t) = C.map_of p (parts_of ps) (expr_of t)
  expr_of (binary p gs) = literal_or p (constant_of false (binary p gs)) (C.binary p (segments_of gs))
  expr_of (fun p xs t) = C.fun p (binders_of xs) (expr_of t)
  expr_of (let_in p xs t u) = C.let_in p (group_binders xs) (expr_of t) (expr_of u)
  expr_of (letrec p ds t) = C.letrec p (defs_of ds) (expr_of t)
  expr_of (case p t c cs) = C.case p (expr_of t) (C.and_clause (clause_of c) (clauses_of cs))
  expr_of (apply p t ts) = C.apply p (expr_of t) (exprs_of ts C.no_expr)
  expr_of (call p m f ts) = C.call p (expr_of m) (expr_of f) (exprs_of ts C.no_expr)
  expr_of (primop p a ts) = C.primop p a.name (exprs_of ts C.no_expr)
  expr_of (do_then p t u) = C.do_then p (expr_of t) (expr_of u)
  expr_of (catch p t) = C.catch p (expr_of t)
  expr_of (try p t xs u ys v) =
      C.try p (expr_of t) (group_binders xs) (expr_of u) (group_binders ys) (expr_of v)
  expr_of (receive p cs t u) = C.receive p (clauses_of cs) (expr_of t) (expr_of u)

  -- the expressions of a row before others
  pub exprs_of : Row → C.Exprs → C.Exprs
  exprs_of none es = es
  exprs_of (more t ts) es = C.and_expr (expr_of t) (exprs_of ts es)

  -- the items that a tail adds to its list
  pub tail_items : Tree → C.Exprs
  tail_items (noted p t n) = tail_items t
  tail_items (string p cs) = character_exprs p cs
  tail_items (list p ts) = exprs_of ts C.no_expr
  tail_items (list_on p t ts u) = C.and_expr (expr_of t) (exprs_of ts (tail_items u))
  tail_items _ = C.no_expr

  -- what is left of it, which is read as this expression, as the tail of a list at a place; an empty tail stands where
  -- its list does
  pub rest_of : Place → Tree → (read : C.Expr) → C.Expr
  rest_of p (noted q t n) e = rest_of p t e
  rest_of p (string q cs) e = C.literal p T.nil
  rest_of p (list q ts) e = C.literal p T.nil
  rest_of p (list_on q t ts u) e = rest_of p u (expr_of u)
  rest_of p t e = e

  -- parts of a map
  pub parts_of : Pairs → C.MapParts
  parts_of no_pair = C.no_part
  parts_of (pair t x u ps) = C.and_part (C.map_part (expr_of t) (expr_of u) x) (parts_of ps)

  -- a segment
  pub segment_of : Segment → C.Segment
  segment_of (segment p t u n k f) =
      C.segment p (expr_of t) (expr_of u) (constant_term n) (atom_name k) (constant_term f)
  segment_of (noted_segment g n) = segment_of g

  -- segments of a binary
  pub segments_of : Segments → C.Segments
  segments_of no_segment = C.no_segment
  segments_of (and_segment g gs) = C.and_segment (segment_of g) (segments_of gs)

  -- a clause, at the place of its first token inside its own annotations
  pub clause_of : Clause → C.Clause
  clause_of (clause (single t) u v) =
      C.clause (first_place t) (C.and_pattern (pattern_of t) C.no_pattern) (expr_of u) (expr_of v)
  clause_of (clause (angled p ts) u v) = C.clause p (patterns_of ts C.no_pattern) (expr_of u) (expr_of v)
  clause_of (noted_clause c n) = clause_of c

  -- clauses
  pub clauses_of : Clauses → C.Clauses
  clauses_of no_clause = C.no_clause
  clauses_of (and_clause c cs) = C.and_clause (clause_of c) (clauses_of cs)

  -- definitions, at the places of their names
  pub defs_of : Definitions → C.Defs
  defs_of no_definition = C.no_def
  defs_of (definition x t ds) = C.and_def (C.def (inner_place x) (name_key x) (expr_of t)) (defs_of ds)

  -- the pattern that is written; nothing but a pattern is asked for one
  pub pattern_of : Tree → C.Pattern
  pattern_of (variable p x) = C.any p x
  pattern_of (noted p t n) = pattern_of t
  pattern_of (alias x t) = C.alias (inner_place x) (variable_name x) (pattern_of t)
  pattern_of (list p ts) =
      known_or p (constant_of true (list p ts)) (C.list_like p (patterns_of ts C.no_pattern) (C.known p T.nil))
  pattern_of (list_on p t ts u) =
      known_or p (constant_of true (list_on p t ts u))
      (C.list_like p (C.and_pattern (pattern_of t) (patterns_of ts (tail_patterns u)))
      (rest_pattern p u (pattern_of u)))
  pattern_of (tuple p ts) = known_or p (constant_of true (tuple p ts)) (C.tuple_like p (patterns_of ts C.no_pattern))
  pattern_of (new_map p ps) = C.map_like p (keys_of ps)
  pattern_of (binary p gs) = C.bits_like p (segs_of gs)
  pattern_of t = known_or (first_place t) (constant_of true t) (C.bits_like (first_place t) C.no_seg)

  -- the patterns of a row before others
  pub patterns_of : Row → C.Patterns → C.Patterns
  patterns_of none qs = qs
  patterns_of (more t ts) qs = C.and_pattern (pattern_of t) (patterns_of ts qs)

  -- the items that a tail adds to its list
  pub tail_patterns : Tree → C.Patterns
  tail_patterns (noted p t n) = tail_patterns t
  tail_patterns (string p cs) = character_patterns p cs
  tail_patterns (list p ts) = patterns_of ts C.no_pattern
  tail_patterns (list_on p t ts u) = C.and_pattern (pattern_of t) (patterns_of ts (tail_patterns u))
  tail_patterns _ = C.no_pattern

  -- what is left of it
  pub rest_pattern : Place → Tree → (read : C.Pattern) → C.Pattern
  rest_pattern p (noted q t n) e = rest_pattern p t e
  rest_pattern p (string q cs) e = C.known p T.nil
  rest_pattern p (list q ts) e = C.known p T.nil
  rest_pattern p (list_on q t ts u) e = rest_pattern p u (pattern_of u)
  rest_pattern p t e = e

  -- parts of a map pattern
  pub keys_of : Pairs → C.KeyPatterns
  keys_of no_pair = C.no_key
  keys_of (pair t x u ps) = C.and_key (C.key_pattern (expr_of t) (pattern_of u)) (keys_of ps)

  -- a segment of a binary pattern
  pub seg_of : Segment → C.SegPattern
  seg_of (segment p t u n k f) =
      C.seg_pattern p (pattern_of t) (expr_of u) (constant_term n) (atom_name k) (constant_term f)
  seg_of (noted_segment g n) = seg_of g

  -- segments of a binary pattern
  pub segs_of : Segments → C.SegPatterns
  segs_of no_segment = C.no_seg
  segs_of (and_segment g gs) = C.and_seg (seg_of g) (segs_of gs)

-- the exports
abbrev pub exports_of : Row → List FunName
exports_of none = []
exports_of (more x xs) = record { key = name_key x; place = inner_place x } ∷ exports_of xs

-- the attributes
abbrev pub attributes_of : Attributes → List (Name × Term)
attributes_of no_attribute = []
attributes_of (attribute a t bs) = (atom_name a, constant_term t) ∷ attributes_of bs

-- What a sight shows, if it is asked for.

-- a float's place
abbrev pub float_seen : Sight → Option Place
float_seen (at_place p Float) = Some p
float_seen _ = None

-- the place of an integer past 128 signed bits, and the number of its digits
abbrev pub wide_seen : Sight → Option (Place × ℕ)
wide_seen (at_place p (Wide n)) = Some (p, n)
wide_seen _ = None

-- the most characters of an atom
abbrev pub most_characters : ℕ
most_characters = 255

-- the place of an atom with more, and their number
abbrev pub long_seen : Sight → Option (Place × ℕ)
long_seen (at_place p (Atom a)) = if ltb most_characters (length a) then Some (p, length a) else None
long_seen _ = None

-- the first that is seen
abbrev pub first_seen : {A : Type 0} → (Sight → Option A) → List Sign → Option A
first_seen see [] = None
first_seen see (g ∷ gs) = elim (see g.sight) [ None ↦ first_seen see gs | Some x ↦ Some x ]

-- the module without its annotations
abbrev pub bare_module : Written → List Sign → C.Module
bare_module (plain_module a xs bs ds) gs = record {
  name = a.name;
  exports = exports_of xs;
  attributes = attributes_of bs;
  defs = defs_of ds;
  floats = first_seen float_seen gs;
  wide = first_seen wide_seen gs;
  long = first_seen long_seen gs;
}
bare_module (noted_module w n) gs = bare_module w gs

-- the module
abbrev pub module_of : Written → C.Module
module_of w = bare_module w (signs_outside_notes w)
