-- Which functions in kernel form are well formed: what the construction of blocks may count on (this project's own).
use Rattle.std.specs.Prelude.{◌≡◌, ◌<◌, ℕ, List, [], ◌∷◌, ◌++◌, length, slice_get, Bool, true, false, not, ◌&&◌, ◌||◌, eqb, leb, Some, IsTrue}
use Rattle.std.specs.List.{All, Contains}
use Rattle.erl_base.specs.Lists.{among}
use Rattle.erl_term.specs.Term as T
use Rattle.erl_term.specs.Term.{Term}
use Rattle.erl_term.specs.TermOrder.{same_term}
use Rattle.erl_term.specs.Terms.{listed}
use Rattle.bif_table.specs.Builtins.{arity_of, is_guard}
use Rattle.world_model.specs.RemoteCalls.{takes}
use Rattle.kernel_form.specs.Kernel.{Value, var, lit, MapPair, Part, Simple, value, cons, tuple, map_put, bits, make_fun, bif, local, apply, remote, send, trace, raise, failing, any, bind, known, Seg, seg, Segs, no_seg, and_seg, CaseShape, is, is_cons, is_tuple, map_has, BinStep, start, integer, take_bits, done, mark, back, Expr, values, simple, let_in, match_in, try, catch, receive, Tree, body, fall, either_in, switch, segments, step, guarded, case, Cases, no_case, and_case, seg_row, SegRows, no_row, and_row, Fun}
use Rattle.kernel_meaning.specs.Environment.{width}
use Rattle.kernel_meaning.specs.KernelRun.{widths}
use Rattle.kernel_meaning.specs.Windows.{window_fits}
use Rattle.kernel_meaning.specs.Walks.{gathered, nothing, binders, bound_by_seg, bound_by_segs, receives}

-- The number of values: a raise has every number.

-- of a simple step
abbrev pub simple_gives : Simple → ℕ → Bool
simple_gives (raise v r) n = true
simple_gives (failing v) n = true
simple_gives _ n = eqb n 1

abbrev mutual
  pub gives : Expr → ℕ → Bool
  gives (values vs) n = eqb n (length vs)
  gives (simple s) n = simple_gives s n
  gives (let_in xs a b) n = gives a (length xs) && gives b n
  gives (match_in t) n = tree_gives t n
  gives (try a xs b ys c) n = gives a (length xs) && gives b n && eqb (length ys) 3 && gives c n
  gives (catch a) n = gives a 1 && eqb n 1
  gives (receive k x t v b) n = tree_gives t n && gives b n

  -- a guard gives one value
  pub tree_gives : Tree → ℕ → Bool
  tree_gives (body e) n = gives e n
  tree_gives (fall k) n = true
  tree_gives (either_in k a b) n = tree_gives a n && tree_gives b n
  tree_gives (switch x cs t) n = cases_give cs n && tree_gives t n
  tree_gives (segments x rs t) n = rows_give rs n && tree_gives t n
  tree_gives (step z a b) n = tree_gives a n && tree_gives b n
  tree_gives (guarded g a b) n = gives g 1 && tree_gives a n && tree_gives b n

  pub cases_give : Cases → ℕ → Bool
  cases_give no_case n = true
  cases_give (and_case (case h xs t) cs) n = tree_gives t n && cases_give cs n

  pub rows_give : SegRows → ℕ → Bool
  rows_give no_row n = true
  rows_give (and_row (seg_row ss t) rs) n = tree_gives t n && rows_give rs n

-- Scopes: a variable is read only where it is bound; xs are the terms, cs the places of this tree, and ks
-- the numbers of the `either_in` that a fall may go to. A fall of a match has one; a fall of a receive may have none.

-- a value
abbrev pub sees : List ℕ → Value → Bool
sees xs (var x) = among x xs
sees xs (lit t) = true

-- values
abbrev pub sees_all : List ℕ → List Value → Bool
sees_all xs [] = true
sees_all xs (v ∷ vs) = sees xs v && sees_all xs vs

-- the pairs of a map
abbrev pub sees_pairs : List ℕ → List MapPair → Bool
sees_pairs xs [] = true
sees_pairs xs (p ∷ ps) = sees xs p.key && sees xs p.value && sees_pairs xs ps

-- the segments of a new bit string
abbrev pub sees_parts : List ℕ → List Part → Bool
sees_parts xs [] = true
sees_parts xs (p ∷ ps) = sees xs p.value && sees xs p.size && sees_parts xs ps

-- what a simple step reads
abbrev pub simple_scoped : List ℕ → Simple → Bool
simple_scoped xs (value v) = sees xs v
simple_scoped xs (cons v u) = sees xs v && sees xs u
simple_scoped xs (tuple vs) = sees_all xs vs
simple_scoped xs (map_put v ps) = sees xs v && sees_pairs xs ps
simple_scoped xs (bits ps) = sees_parts xs ps
simple_scoped xs (make_fun n vs) = sees_all xs vs
simple_scoped xs (bif b vs) = sees_all xs vs
simple_scoped xs (local n vs) = sees_all xs vs
simple_scoped xs (apply v vs) = sees xs v && sees_all xs vs
simple_scoped xs (remote m f vs) = sees xs m && sees xs f && sees_all xs vs
simple_scoped xs (send v u) = sees xs v && sees xs u
simple_scoped xs trace = true
simple_scoped xs (raise v r) = sees xs v && sees xs r
simple_scoped xs (failing v) = sees xs v

-- a shape reads at most the key of a map
abbrev pub shape_scoped : List ℕ → CaseShape → Bool
shape_scoped xs (map_has v) = sees xs v
shape_scoped xs _ = true

-- a segment's value is anything, a variable or a literal; later sizes of its binary see the variable
abbrev pub seg_scoped : List ℕ → Seg → Bool
seg_scoped xs (seg any v h) = sees xs v
seg_scoped xs (seg (bind x) v h) = sees xs v
seg_scoped xs (seg (known t) v h) = sees xs v
seg_scoped xs _ = false

-- segments, each seeing what earlier ones bind
abbrev pub segs_scoped : List ℕ → Segs → Bool
segs_scoped xs no_seg = true
segs_scoped xs (and_seg s ss) = seg_scoped xs s && segs_scoped (bound_by_seg s ++ xs) ss

-- whether a segment takes bits as they are
abbrev pub is_binary_seg : Seg → Bool
is_binary_seg (seg q v h) = h.is_binary

-- what a step leaves beside terms: a context, or a position of a context
pub data BitPoint : Type 0 where
  context : ℕ → BitPoint
  position : ℕ → ℕ → BitPoint

-- whether a context is there
abbrev pub has_context : ℕ → List BitPoint → Bool
has_context c [] = false
has_context c (context d ∷ cs) = eqb c d || has_context c cs
has_context c (position p d ∷ cs) = has_context c cs

-- whether a position of a context is there
abbrev pub has_position : ℕ → ℕ → List BitPoint → Bool
has_position p c [] = false
has_position p c (context d ∷ cs) = has_position p c cs
has_position p c (position q d ∷ cs) = eqb p q && eqb c d || has_position p c cs

-- a step on bits reads contexts and positions that are there
abbrev pub step_scoped : List ℕ → List BitPoint → BinStep → Bool
step_scoped xs cs (start x c) = among x xs
step_scoped xs cs (integer c s) = has_context c cs && not (is_binary_seg s) && seg_scoped xs s
step_scoped xs cs (take_bits c s) = has_context c cs && is_binary_seg s && seg_scoped xs s
step_scoped xs cs (done c) = has_context c cs
step_scoped xs cs (mark c p) = has_context c cs
step_scoped xs cs (back c p) = has_context c cs && has_position p c cs

-- the terms and the places that a step binds where it succeeds
abbrev pub step_terms : BinStep → List ℕ
step_terms (integer c s) = bound_by_seg s
step_terms (take_bits c s) = bound_by_seg s
step_terms _ = []

-- the places that it leaves
abbrev pub step_points : BinStep → List BitPoint
step_points (start x c) = context c ∷ []
step_points (mark c p) = position p c ∷ []
step_points _ = []

abbrev mutual
  pub scoped : Expr → List ℕ → Bool
  scoped (values vs) xs = sees_all xs vs
  scoped (simple s) xs = simple_scoped xs s
  scoped (let_in ys a b) xs = scoped a xs && scoped b (ys ++ xs)
  scoped (match_in t) xs = tree_scoped t xs [] true []
  scoped (try a ys b zs c) xs = scoped a xs && scoped b (ys ++ xs) && scoped c (zs ++ xs)
  scoped (catch a) xs = scoped a xs
  scoped (receive n x t v b) xs = sees xs v && tree_scoped t (x ∷ xs) [] false [] && scoped b xs

  -- strict: a fall has an `either_in`
  pub tree_scoped : Tree → List ℕ → List BitPoint → Bool → List ℕ → Bool
  tree_scoped (body e) xs cs strict ks = scoped e xs
  tree_scoped (fall k) xs cs strict ks = not strict || among k ks
  tree_scoped (either_in k a b) xs cs strict ks = tree_scoped a xs cs strict (k ∷ ks) && tree_scoped b xs cs strict ks
  tree_scoped (switch x hs t) xs cs strict ks =
      among x xs && cases_scoped hs xs cs strict ks && tree_scoped t xs cs strict ks
  tree_scoped (segments x rs t) xs cs strict ks =
      among x xs && rows_scoped rs xs cs strict ks && tree_scoped t xs cs strict ks
  tree_scoped (step z a b) xs cs strict ks =
      step_scoped xs cs z && tree_scoped a (step_terms z ++ xs) (step_points z ++ cs) strict ks
      && tree_scoped b xs cs strict ks
  tree_scoped (guarded g a b) xs cs strict ks =
      scoped g xs && tree_scoped a xs cs strict ks && tree_scoped b xs cs strict ks

  pub cases_scoped : Cases → List ℕ → List BitPoint → Bool → List ℕ → Bool
  cases_scoped no_case xs cs strict ks = true
  cases_scoped (and_case (case h ys t) hs) xs cs strict ks =
      shape_scoped xs h && tree_scoped t (ys ++ xs) cs strict ks && cases_scoped hs xs cs strict ks

  pub rows_scoped : SegRows → List ℕ → List BitPoint → Bool → List ℕ → Bool
  rows_scoped no_row xs cs strict ks = true
  rows_scoped (and_row (seg_row ss t) rs) xs cs strict ks =
      segs_scoped xs ss && tree_scoped t (bound_by_segs ss ++ xs) cs strict ks && rows_scoped rs xs cs strict ks

-- Calls have as many arguments as their functions have parameters, and a listed function is one that guards may call:
-- the others are called as functions of the module erlang.

-- of a simple step, where functions have these many parameters
abbrev pub simple_fits : List ℕ → Simple → Bool
simple_fits ws (bif b vs) = eqb (length vs) (arity_of b) && is_guard b
simple_fits ws (local n vs) = takes (slice_get ws n) (length vs)
simple_fits ws (make_fun n vs) = takes (slice_get ws n) (width ws n) && leb (length vs) (width ws n)
simple_fits ws _ = true

-- of a node
abbrev pub calls_fit : List ℕ → Expr → Bool
calls_fit ws (simple s) = simple_fits ws s
calls_fit ws _ = true

-- Switches: no two shapes without a key have a term in common, each case has as many variables as its shape has parts,
-- and the last tree is no switch on the same variable.

-- whether no term has both shapes; a shape with a key may have terms in common with others
abbrev pub apart : CaseShape → CaseShape → Bool
apart (map_has v) h = true
apart h (map_has v) = true
apart (is t) (is u) = not (same_term t u)
apart (is (T.cons t u)) is_cons = false
apart is_cons (is (T.cons t u)) = false
apart (is (T.tuple ts)) (is_tuple n) = not (eqb n (length (listed ts)))
apart (is_tuple n) (is (T.tuple ts)) = not (eqb n (length (listed ts)))
apart is_cons is_cons = false
apart (is_tuple n) (is_tuple m) = not (eqb n m)
apart _ _ = true

-- how many parts a term of the shape has
abbrev pub parts_in : CaseShape → ℕ
parts_in (is t) = 0
parts_in is_cons = 2
parts_in (is_tuple n) = n
parts_in (map_has v) = 1

-- whether a shape is apart from those of cases
abbrev pub apart_from : CaseShape → Cases → Bool
apart_from h no_case = true
apart_from h (and_case (case k xs t) cs) = apart h k && apart_from h cs

-- whether the shapes of cases are apart, and each case binds all parts
abbrev pub all_apart : Cases → Bool
all_apart no_case = true
all_apart (and_case (case h xs t) cs) = eqb (length xs) (parts_in h) && apart_from h cs && all_apart cs

-- whether a case is for a map with a key
abbrev pub has_key_case : Cases → Bool
has_key_case no_case = false
has_key_case (and_case (case (map_has v) xs t) cs) = true
has_key_case (and_case (case h xs t) cs) = has_key_case cs

-- whether a tree switches on this variable, and neither switch looks for keys
abbrev pub switches_again : ℕ → Cases → Tree → Bool
switches_again x cs (switch y ds t) = eqb x y && not (has_key_case cs || has_key_case ds)
switches_again x cs _ = false

-- of a node
abbrev pub switch_fits : Tree → Bool
switch_fits (switch x cs t) = all_apart cs && not (switches_again x cs t)
switch_fits _ = true

-- No segments are left for a tree to match: they are steps by now.

-- of a node
abbrev pub is_by_steps : Tree → Bool
is_by_steps (segments x rs t) = false
is_by_steps _ = true

-- whether all are true
abbrev pub all_true : List Bool → Bool
all_true [] = true
all_true (b ∷ bs) = b && all_true bs

-- whether this holds of each node
abbrev pub everywhere : (Expr → Bool) → (Tree → Bool) → Expr → Bool
everywhere f g e = all_true (gathered (λ x. f x ∷ []) (λ t. g t ∷ []) nothing nothing e)

-- Guards make no request, enter no function and receive nothing. A catch may ask for a trace.

-- of a simple step
abbrev pub is_silent_step : Simple → Bool
is_silent_step (local n vs) = false
is_silent_step (apply v vs) = false
is_silent_step (remote m f vs) = false
is_silent_step (send v u) = false
is_silent_step trace = false
is_silent_step _ = true

-- of a node
abbrev pub is_silent : Expr → Bool
is_silent (simple s) = is_silent_step s
is_silent (catch a) = false
is_silent (receive n x t v b) = false
is_silent _ = true

-- of a node: each node of its guard
abbrev pub has_silent_guard : Tree → Bool
has_silent_guard (guarded g a b) = everywhere is_silent (λ t. true) g
has_silent_guard _ = true

-- A guard opens no handler: it stands before a message is taken, where none may open. What raises in it may stand,
-- since
-- it does not hold then.

-- of a node
abbrev pub opens_none : Expr → Bool
opens_none (try a xs b ys c) = false
opens_none (catch a) = false
opens_none _ = true

-- of a node: each node of its guard
abbrev pub has_plain_guard : Tree → Bool
has_plain_guard (guarded g a b) = everywhere opens_none (λ t. true) g
has_plain_guard _ = true

-- all distinct
abbrev pub Distinct : List ℕ → Type 0
Distinct [] = Unit {0}
Distinct (x ∷ xs) = (Contains xs x → ⊥) × Distinct xs

-- a function, where the functions of its module have these many parameters
pub record WellFormed (ws : List ℕ) (f : Fun) : Type 0 where
  -- one value comes back
  pub gives : IsTrue (gives f.body 1)
  -- each variable is bound once, and read where it is bound; each fall of a match has its tree
  pub fresh : Distinct (f.params ++ binders f.body)
  pub scoped : IsTrue (scoped f.body f.params)
  -- the next variable is new
  pub next : All (λ x. x < f.next) (f.params ++ binders f.body)
  pub calls : IsTrue (everywhere (calls_fit ws) (λ t. true) f.body)
  pub switches : IsTrue (everywhere (λ e. true) switch_fits f.body)
  pub steps : IsTrue (everywhere (λ e. true) is_by_steps f.body)
  pub guards : IsTrue (everywhere (λ e. true) has_silent_guard f.body)
  pub plain_guards : IsTrue (everywhere (λ e. true) has_plain_guard f.body)
  -- the variables of a receive's window have registers of their own
  pub windows : IsTrue (everywhere window_fits (λ t. true) f.body)
  -- its receives have numbers of their own
  pub receives : Distinct (receives f.body)

-- the numbers of all receives of these functions
abbrev pub all_receives : List Fun → List ℕ
all_receives [] = []
all_receives (f ∷ fs) = receives f.body ++ all_receives fs

-- functions stand at their sites, each is well formed, and receives are numbered through the module
pub record WellFormedFuns (fs : List Fun) : Type 0 where
  pub sites : (n : ℕ) (f : Fun) → slice_get fs n ≡ Some f → f.site ≡ n
  pub each : All (WellFormed (widths fs)) fs
  pub receives : Distinct (all_receives fs)
