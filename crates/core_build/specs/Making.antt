-- What is put together of the values that were read last.
use Rattle.std.specs.Prelude.{ℕ, List, [], ◌∷◌, ◌++◌, Option, Some, None}
use Rattle.erl_base.specs.Names.{Name}
use Rattle.erl_term.specs.Term as T
use Rattle.erl_term.specs.Segments.{joined}
use Rattle.core_form.specs.Core as C
use Rattle.core_form.specs.View as Rows
use Rattle.core_grammar.specs.ModuleOf.{function_key}
use Rattle.core_actions.specs.Read.{ReadExpr, whole, items, whole_pattern, pattern_items}
use Rattle.core_actions.specs.Joining as J
use Rattle.core_actions.specs.Joining.{closed, closed_pattern}
use Rattle.core_actions.specs.Binaries.{SegmentParts, constant_in, segment_of, bits_in, seg_of, binary_of}
use Rattle.core_build.specs.declared.item.Row as Rows'
use Rattle.core_build.specs.declared.item.Row.TheVariants as R
use Rattle.core_build.specs.declared.item.Make.{Make}
use Rattle.core_build.specs.declared.item.Make.TheVariants as M
use Rattle.core_build.specs.Values.{Value, expr, pattern, binder, name, atom, exact, segment, seg, clause, exprs, patterns, binders, names, pairs, keys, segments, segs, clauses, defs, attributes, no_parts}

-- one more
abbrev pub with : {A : Type 0} → List A → A → List A
with xs x = xs ++ x ∷ []

-- an expression that is no list and no number
abbrev pub node : C.Expr → Value
node e = expr (whole e)

-- a pattern that is no list
abbrev pub pattern_node : C.Pattern → Value
pattern_node q = pattern (whole_pattern q)

-- the size, the unit, the type and the flags of a segment
abbrev pub segment_parts : (size unit : ReadExpr) → Name → (flags : ReadExpr) → SegmentParts
segment_parts u n k f = record { size = u; unit = n; kind = k; flags = f }

-- a part is added to the row before it
abbrev pub add : Rows'.Row → List Value → Option (List Value)
add R.Exprs (expr e ∷ exprs es ∷ vs) = Some (exprs (with es (closed e)) ∷ vs)
add R.Patterns (pattern q ∷ patterns qs ∷ vs) = Some (patterns (with qs (closed_pattern q)) ∷ vs)
add R.Binders (binder x ∷ binders xs ∷ vs) = Some (binders (with xs x) ∷ vs)
add R.Names (name f ∷ names fs ∷ vs) = Some (names (with fs f) ∷ vs)
add R.Pairs (expr v ∷ exact x ∷ expr k ∷ pairs ps ∷ vs) =
    Some (pairs (with ps (C.map_part (closed k) (closed v) x)) ∷ vs)
add R.Keys (pattern q ∷ expr k ∷ keys ks ∷ vs) =
    Some (keys (with ks (C.key_pattern (closed k) (closed_pattern q))) ∷ vs)
add R.Segments (segment g bs ∷ segments gs cs ∷ vs) = Some (segments (with gs g) (joined cs bs) ∷ vs)
add R.Segs (seg g ∷ segs gs ∷ vs) = Some (segs (with gs g) ∷ vs)
add R.Clauses (clause c ∷ clauses cs ∷ vs) = Some (clauses (with cs c) ∷ vs)
add R.Defs (expr e ∷ name f ∷ defs ds ∷ vs) = Some (defs (with ds (C.def f.place f.key (closed e))) ∷ vs)
add R.Attributes (expr e ∷ atom p a ∷ attributes bs ∷ vs) =
    Some (attributes (with bs (a, constant_in e)) ∷ vs)
add _ _ = None

-- what is put together, in the place of its values; none of other values
abbrev pub make : Make → List Value → Option (List Value)
make (M.Start k) vs = Some (no_parts k ∷ vs)
make (M.Add k) vs = add k vs
make (M.List p) (exprs es ∷ vs) = Some (expr (items p (Rows.exprs es) None) ∷ vs)
make (M.ListOn p) (expr u ∷ exprs es ∷ vs) = Some (expr (J.joined p (Rows.exprs es) u) ∷ vs)
make (M.Tuple p) (exprs es ∷ vs) = Some (node (J.tuple_of_items p (Rows.exprs es)) ∷ vs)
make (M.Values p) (exprs es ∷ vs) = Some (node (C.values p (Rows.exprs es)) ∷ vs)
make (M.Map p) (pairs ps ∷ vs) = Some (node (J.map_of_parts p (Rows.parts ps)) ∷ vs)
make (M.MapOn p) (expr e ∷ pairs ps ∷ vs) = Some (node (C.map_of p (Rows.parts ps) (closed e)) ∷ vs)
make (M.Binary p) (segments gs bs ∷ vs) = Some (node (binary_of p (Rows.segments gs) bs) ∷ vs)
make (M.Segment p) (expr f ∷ atom q k ∷ expr n ∷ expr u ∷ expr v ∷ vs) =
    Some (segment (segment_of p v (segment_parts u n k f)) (bits_in v (segment_parts u n k f)) ∷ vs)
make (M.Fun p) (expr e ∷ binders xs ∷ vs) = Some (node (C.fun p xs (closed e)) ∷ vs)
make (M.Let p) (expr b ∷ expr a ∷ binders xs ∷ vs) = Some (node (C.let_in p xs (closed a) (closed b)) ∷ vs)
make (M.Letrec p) (expr e ∷ defs ds ∷ vs) = Some (node (C.letrec p (Rows.defs ds) (closed e)) ∷ vs)
make (M.Case p) (clauses cs ∷ expr e ∷ vs) = Some (node (C.case p (closed e) (Rows.clauses cs)) ∷ vs)
make (M.Apply p) (exprs es ∷ expr f ∷ vs) = Some (node (C.apply p (closed f) (Rows.exprs es)) ∷ vs)
make (M.Call p) (exprs es ∷ expr f ∷ expr m ∷ vs) =
    Some (node (C.call p (closed m) (closed f) (Rows.exprs es)) ∷ vs)
make (M.Primop p) (exprs es ∷ atom q a ∷ vs) = Some (node (C.primop p a (Rows.exprs es)) ∷ vs)
make (M.Do p) (expr b ∷ expr a ∷ vs) = Some (node (C.do_then p (closed a) (closed b)) ∷ vs)
make (M.Catch p) (expr e ∷ vs) = Some (node (C.catch p (closed e)) ∷ vs)
make (M.Try p) (expr c ∷ binders ys ∷ expr b ∷ binders xs ∷ expr a ∷ vs) =
    Some (node (C.try p (closed a) xs (closed b) ys (closed c)) ∷ vs)
make (M.Receive p) (expr b ∷ expr t ∷ clauses cs ∷ vs) =
    Some (node (C.receive p (Rows.clauses cs) (closed t) (closed b)) ∷ vs)
make (M.Clause p) (expr b ∷ expr g ∷ pattern q ∷ vs) =
    Some (clause (C.clause p (C.and_pattern (closed_pattern q) C.no_pattern) (closed g) (closed b)) ∷ vs)
make (M.Clause p) (expr b ∷ expr g ∷ patterns qs ∷ vs) =
    Some (clause (C.clause p (Rows.patterns qs) (closed g) (closed b)) ∷ vs)
make M.Alias (pattern q ∷ pattern (whole_pattern (C.any p x)) ∷ vs) =
    Some (pattern_node (C.alias p x (closed_pattern q)) ∷ vs)
make (M.PatternList p) (patterns qs ∷ vs) = Some (pattern (pattern_items p (Rows.patterns qs) None) ∷ vs)
make (M.PatternListOn p) (pattern u ∷ patterns qs ∷ vs) =
    Some (pattern (J.joined_patterns p (Rows.patterns qs) u) ∷ vs)
make (M.PatternTuple p) (patterns qs ∷ vs) = Some (pattern_node (J.tuple_of_patterns p (Rows.patterns qs)) ∷ vs)
make (M.PatternMap p) (keys ks ∷ vs) = Some (pattern_node (C.map_like p (Rows.keys ks)) ∷ vs)
make (M.PatternBinary p) (segs gs ∷ vs) = Some (pattern_node (C.bits_like p (Rows.segs gs)) ∷ vs)
make (M.Seg p) (expr f ∷ atom q k ∷ expr n ∷ expr u ∷ pattern v ∷ vs) =
    Some (seg (seg_of p v (segment_parts u n k f)) ∷ vs)
make _ _ = None

-- 'f'/n as an expression, in the place of its atom
abbrev pub called : ℕ → List Value → Option (List Value)
called n (atom p a ∷ vs) = Some (node (C.fun_name p (function_key a n)) ∷ vs)
called n _ = None

-- as a name
abbrev pub named : ℕ → List Value → Option (List Value)
named n (atom p a ∷ vs) = Some (name (record { key = function_key a n; place = p }) ∷ vs)
named n _ = None

-- fun 'm':'f'/n, in the place of its atoms
abbrev pub external_term : ℕ → List Value → Option (T.Term × List Value)
external_term n (atom q f ∷ atom r m ∷ vs) = Some (T.extern m f n, vs)
external_term n _ = None
