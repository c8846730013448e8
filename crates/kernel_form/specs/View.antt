-- The plain trees that the values of the program's types stand for, as folds.
use Rattle.std.specs.Prelude.{ℕ, List, [], ◌∷◌, map}
use Rattle.erl_base.specs.declared.ids.VarId.{VarId}
use Rattle.erl_term.specs.View as Terms
use Rattle.bif_table.specs.View.{bif_view}
use Rattle.kernel_parts.specs.declared.value.KValue.{KValue}
use Rattle.kernel_parts.specs.declared.value.KValue.TheVariants as V
use Rattle.kernel_parts.specs.declared.value.KPair.{KPair}
use Rattle.kernel_parts.specs.declared.value.KPart.{KPart}
use Rattle.kernel_parts.specs.declared.value.KSimple.{KSimple}
use Rattle.kernel_parts.specs.declared.value.KSimple.TheVariants as S
use Rattle.kernel_parts.specs.declared.pattern.KPat.{KPat, fold-KPat}
use Rattle.kernel_parts.specs.declared.pattern.KSeg.{KSeg, fold-KSeg}
use Rattle.kernel_parts.specs.declared.pattern.KPat.TheOpen.{KPat-F, KSeg-F, KKeyPat-F}
use Rattle.kernel_parts.specs.declared.pattern.KPat.TheOpen as pat
use Rattle.kernel_parts.specs.declared.shape.Shape.{Shape}
use Rattle.kernel_parts.specs.declared.shape.Shape.TheVariants as H
use Rattle.kernel_parts.specs.declared.shape.BinStep.{BinStep}
use Rattle.kernel_parts.specs.declared.shape.BinStep.TheVariants as B
use Rattle.kernel_form.specs.declared.tree.Row.{Row}
use Rattle.kernel_form.specs.declared.tree.KExpr.{KExpr, fold-KExpr}
use Rattle.kernel_form.specs.declared.tree.Tree.{Tree, fold-Tree}
use Rattle.kernel_form.specs.declared.tree.Case.{Case, fold-Case}
use Rattle.kernel_form.specs.declared.tree.SegRow.{SegRow, fold-SegRow}
use Rattle.kernel_form.specs.declared.tree.KExpr.TheOpen.{KExpr-F, Tree-F, Case-F, SegRow-F}
use Rattle.kernel_form.specs.declared.tree.KExpr.TheOpen as form
use Rattle.kernel_form.specs.declared.kernel.KFun.{KFun}
use Rattle.kernel_form.specs.declared.kernel.Kernel.{Kernel}
use Rattle.kernel_form.specs.Kernel as Plain

-- the number of a variable
abbrev pub number : VarId → ℕ
number x = x.0

-- the numbers of variables
abbrev pub numbers : List VarId → List ℕ
numbers xs = map number xs

-- Values and simple steps.

-- the plain value
abbrev pub value_view : KValue → Plain.Value
value_view (V.Var x) = Plain.var (number x)
value_view (V.Lit t) = Plain.lit (Terms.view t)

-- the plain pair of a map
abbrev pub pair_view : KPair → Plain.MapPair
pair_view p = record { key = value_view p.key; value = value_view p.value; exact = p.exact }

-- the plain segment that is built
abbrev pub part_view : KPart → Plain.Part
part_view p = record {
  shape = record { unit = p.unit; is_binary = p.binary; signed = p.signed; little = p.little; whole = p.whole };
  value = value_view p.value;
  size = value_view p.size;
}

-- the plain simple step
abbrev pub simple_view : KSimple → Plain.Simple
simple_view (S.Value v) = Plain.value (value_view v)
simple_view (S.Cons v u) = Plain.cons (value_view v) (value_view u)
simple_view (S.Tuple vs) = Plain.tuple (map value_view vs)
simple_view (S.MapPut v ps) = Plain.map_put (value_view v) (map pair_view ps)
simple_view (S.Bits ps) = Plain.bits (map part_view ps)
simple_view (S.Fun n vs) = Plain.make_fun n.0 (map value_view vs)
simple_view (S.Bif b vs) = Plain.bif (bif_view b) (map value_view vs)
simple_view (S.Local n vs) = Plain.local n.0 (map value_view vs)
simple_view (S.Apply v vs) = Plain.apply (value_view v) (map value_view vs)
simple_view (S.Remote m f vs) = Plain.remote (value_view m) (value_view f) (map value_view vs)
simple_view (S.Send v u) = Plain.send (value_view v) (value_view u)
simple_view S.Trace = Plain.trace
simple_view (S.Raise v r) = Plain.raise (value_view v) (value_view r)
simple_view (S.Fail v) = Plain.failing (value_view v)

-- Patterns.

-- patterns as a family of their own
abbrev pub patterns : List Plain.Pattern → Plain.Patterns
patterns [] = Plain.no_pattern
patterns (p ∷ ps) = Plain.and_pattern p (patterns ps)

-- parts of a map pattern likewise
abbrev pub keys : List Plain.KeyPattern → Plain.KeyPatterns
keys [] = Plain.no_key
keys (k ∷ ks) = Plain.and_key k (keys ks)

-- segments of a binary pattern
abbrev pub segs : List Plain.Seg → Plain.Segs
segs [] = Plain.no_seg
segs (s ∷ ss) = Plain.and_seg s (segs ss)

-- a pattern whose parts were read
abbrev pub pat_step : KPat-F Plain.Pattern Plain.KeyPattern Plain.Seg → Plain.Pattern
pat_step pat.Any = Plain.any
pat_step (pat.Var x) = Plain.bind (number x)
pat_step (pat.Lit t) = Plain.known (Terms.view t)
pat_step (pat.Cons p q) = Plain.cons_like p q
pat_step (pat.Tuple ps) = Plain.tuple_like (patterns ps)
pat_step (pat.Map ks) = Plain.map_like (keys ks)
pat_step (pat.Bits ss) = Plain.bits_like (segs ss)
pat_step (pat.Alias x p) = Plain.alias (number x) p

-- a segment of a binary pattern whose value was read
abbrev pub seg_step : KSeg-F Plain.Pattern Plain.KeyPattern Plain.Seg → Plain.Seg
seg_step s = Plain.seg s.value (value_view s.size)
    (record { unit = s.unit; is_binary = s.binary; signed = s.signed; little = s.little; whole = s.whole })

-- a part of a map pattern likewise
abbrev pub key_step : KKeyPat-F Plain.Pattern Plain.KeyPattern Plain.Seg → Plain.KeyPattern
key_step k = Plain.key_pattern (value_view k.key) k.pat

-- the plain pattern
abbrev pub pat_view : KPat → Plain.Pattern
pat_view = fold-KPat Plain.Pattern Plain.KeyPattern Plain.Seg pat_step key_step seg_step

-- the plain segment of a binary pattern
abbrev pub seg_view : KSeg → Plain.Seg
seg_view = fold-KSeg Plain.Pattern Plain.KeyPattern Plain.Seg pat_step key_step seg_step

-- Expressions and trees.

-- the plain shape
abbrev pub shape_view : Shape → Plain.CaseShape
shape_view (H.Lit t) = Plain.is (Terms.view t)
shape_view H.Cons = Plain.is_cons
shape_view (H.Tuple n) = Plain.is_tuple n
shape_view (H.MapHas v) = Plain.map_has (value_view v)

-- the plain step of a binary's match
abbrev pub step_view : BinStep → Plain.BinStep
step_view (B.Start x c) = Plain.start (number x) (number c)
step_view (B.Integer c s) = Plain.integer (number c) (seg_view s)
step_view (B.Bits c s) = Plain.take_bits (number c) (seg_view s)
step_view (B.Done c) = Plain.done (number c)
step_view (B.Mark c p) = Plain.mark (number c) (number p)
step_view (B.Back c p) = Plain.back (number c) (number p)

-- cases as a family of their own
abbrev pub cases : List Plain.Case → Plain.Cases
cases [] = Plain.no_case
cases (c ∷ cs) = Plain.and_case c (cases cs)

-- rows of segments likewise
abbrev pub rows : List Plain.SegRow → Plain.SegRows
rows [] = Plain.no_row
rows (r ∷ rs) = Plain.and_row r (rows rs)

-- a node whose children are read
module _ (F : Type 0 → Type 0 → Type 0 → Type 0 → Type 0) where
  abbrev pub Read : Type 0
  Read = F Plain.Expr Plain.Tree Plain.Case Plain.SegRow

-- an expression whose parts were read
abbrev pub expr_step : Read KExpr-F → Plain.Expr
expr_step (form.Values vs) = Plain.values (map value_view vs)
expr_step (form.Simple s) = Plain.simple (simple_view s)
expr_step (form.Let xs a b) = Plain.let_in (numbers xs) a b
expr_step (form.Match t) = Plain.match_in t
expr_step (form.Try a xs b ys c) = Plain.try a (numbers xs) b (numbers ys) c
expr_step (form.Catch a) = Plain.catch a
expr_step (form.Receive n x t v b) = Plain.receive n (number x) t (value_view v) b

-- a tree likewise
abbrev pub tree_step : Read Tree-F → Plain.Tree
tree_step (form.Body e) = Plain.body e
tree_step (form.Fall k) = Plain.fall k
tree_step (form.Either k a b) = Plain.either_in k a b
tree_step (form.Switch x cs t) = Plain.switch (number x) (cases cs) t
tree_step (form.Segments x rs t) = Plain.segments (number x) (rows rs) t
tree_step (form.Step z a b) = Plain.step (step_view z) a b
tree_step (form.Guarded g a b) = Plain.guarded g a b

-- a case
abbrev pub case_step : Read Case-F → Plain.Case
case_step c = Plain.case (shape_view c.shape) (numbers c.parts) c.then

-- a row of segments
abbrev pub row_step : Read SegRow-F → Plain.SegRow
row_step r = Plain.seg_row (segs (map seg_view r.segs)) r.then

-- the plain expression
abbrev pub view : KExpr → Plain.Expr
view = fold-KExpr Plain.Expr Plain.Tree Plain.Case Plain.SegRow expr_step tree_step case_step row_step

-- the plain tree
abbrev pub tree_view : Tree → Plain.Tree
tree_view = fold-Tree Plain.Expr Plain.Tree Plain.Case Plain.SegRow expr_step tree_step case_step row_step

-- the plain case
abbrev pub case_view : Case → Plain.Case
case_view = fold-Case Plain.Expr Plain.Tree Plain.Case Plain.SegRow expr_step tree_step case_step row_step

-- the plain row of segments
abbrev pub seg_row_view : SegRow → Plain.SegRow
seg_row_view = fold-SegRow Plain.Expr Plain.Tree Plain.Case Plain.SegRow expr_step tree_step case_step row_step

-- the plain row of a match
abbrev pub row_view : Row → Plain.Row
row_view r = record { patterns = patterns (map pat_view r.pats); guard = view r.guard; body = view r.body }

-- the plain function
abbrev pub fun_view : KFun → Plain.Fun
fun_view f = record { key = f.key; site = f.site.0; params = numbers f.params; next = f.next; body = view f.body }

-- the plain module
abbrev pub kernel_view : Kernel → Plain.Kernel
kernel_view k = record {
  name = k.name;
  exports = k.exports;
  attributes = map Terms.attribute_view k.attributes;
  funs = map fun_view k.funs;
}
