-- What a function in kernel form does (this project's own; the rules are those of Core Erlang 1.0.3, section 5).
use Rattle.std.specs.Prelude.{ℕ, suc, List, [], ◌∷◌, length, map, slice_get, Bool, true, false, eqb, Option, Some, None, if◌then◌else◌, codes}
use Rattle.erl_base.specs.declared.ids.FunKey.{FunKey}
use Rattle.erl_base.specs.Names.{same_key}
use Rattle.erl_term.specs.Term as T
use Rattle.erl_term.specs.Term.{Term}
use Rattle.erl_term.specs.TermOrder.{same_term}
use Rattle.erl_term.specs.Terms.{Values, terms, class_word, word}
use Rattle.world_model.specs.World.{Script}
use Rattle.world_model.specs.Run.{State, sub_binaries, Outcome, M, ◌>>=◌, give, fail}
use Rattle.world_model.specs.Meaning.{one, either}
use Rattle.world_model.specs.Requests.{exit_of}
use Rattle.world_model.specs.Receive.{timeout_of, Tried, cutting, receiving}
use Rattle.step_machine.specs.Bodies.{Here, BodyMeaning, Bodies, entered_deep}
use Rattle.core_meaning.specs.SegmentMatch.{if_there, match_segs, seg_cuts}
use Rattle.core_meaning.specs.ReceiveCost.{examined}
use Rattle.core_meaning.specs.ClauseChoice.{blank, is_true, none_tried, and_cuts, clause_reason}
use Rattle.core_meaning.specs.MarkingCalls.{marking, beginning}
use Rattle.core_meaning.specs.CoreRun.{Result, ended, start}
use Rattle.kernel_form.specs.Kernel.{remote, Segs, Expr, values, simple, let_in, match_in, try, catch, receive, Tree, body, fall, either_in, switch, segments, step, guarded, case, Cases, no_case, and_case, seg_row, SegRows, and_row, Row, Fun, Kernel}
use Rattle.kernel_meaning.specs.Environment.{Env, no_values, with_value, with_values, Rests, no_rests, read, read_all, Setting, reference_of, is_marking_variable}
use Rattle.kernel_meaning.specs.PatternMatch.{with_bindings, segments_of, each_made, match_all, all_cuts}
use Rattle.kernel_meaning.specs.Steps.{simply, shape_parts, BitsResult, bin_step}

-- where a fall goes, with the contexts as they are then; nothing is tried where no `either_in` has its number
abbrev pub Falls : Type 0
Falls = ℕ → Rests → Tried Values

-- no fall has an alternative
abbrev pub no_falls : Falls
no_falls k r = none_tried

-- falls with number k go on with f
abbrev pub with_fall : Falls → ℕ → (Rests → Tried Values) → Falls
with_fall fs k f = λ j. if eqb j k then f else fs j

-- a row is taken, and does this
abbrev pub taken : M Values → Tried Values
taken m = record { cuts = 0; body = Some m }

-- the first of two if the test holds
abbrev pub select : {A : Type 0} → Bool → A → A → A
select true a b = a
select false a b = b

-- a guard with this result, before two trees: it holds where it gives the atom true
abbrev pub if_holds : State × Outcome Values → Tried Values → Tried Values → Tried Values
if_holds r a b = and_cuts (sub_binaries r.0.notes) (select (is_true r.1) a b)

-- segments that match these bits, before further rows
abbrev pub if_match : List ℕ → Segs → Env → List Bool → (Env → Tried Values) → Tried Values → Tried Values
if_match hs ss env bs f rest =
    and_cuts (seg_cuts (each_made hs ss) (segments_of ss) env bs)
    (elim (match_segs (segments_of ss) env bs) [ None ↦ rest | Some xs ↦ f (with_bindings env xs) ])

-- goes on after a step on bits: where it succeeds, and where it fails
abbrev pub after_step : BitsResult → (Env → Rests → Tried Values) → (Rests → Tried Values) → Tried Values
after_step z f g = and_cuts z.cuts (elim z.bound [ None ↦ g z.rests | Some env ↦ f env z.rests ])

-- a match takes a row; that it does is part of being well formed
abbrev pub or_stuck : Option (M Values) → M Values
or_stuck None = fail T.error (clause_reason [])
or_stuck (Some m) = m

-- a match does what the row does that it takes
abbrev pub matched : Tried Values → M Values
matched t = cutting t.cuts (or_stuck t.body)

-- whether a let binds a call to a variable whose reference marks some receive
abbrev pub is_marked : Setting → List ℕ → Expr → Bool
is_marked w (x ∷ []) (simple (remote m f vs)) = is_marking_variable w.marks x
is_marked w _ _ = false

-- the reference that a receive waits for, where it is marked
abbrev pub marked_reference : Setting → ℕ → Env → Option Term
marked_reference w n env = elim (reference_of w.marks n) [ None ↦ None | Some x ↦ Some (env x) ]

module _ (w : Setting) (here : Here) where
  unfoldable mutual
    unfolding simply shape_parts bin_step same_term

    -- from left to right; tail: whether it stands in tail position
    pub meaning : Expr → Env → Bool → M Values
    meaning (values vs) env tail = give (read_all env vs)
    meaning (simple s) env tail = simply w here s env tail
    meaning (let_in xs a b) env tail =
        marking (is_marked w xs a) (meaning a env false) >>= λ vs. meaning b (with_values env xs vs) tail
    meaning (match_in t) env tail = matched (tree_does t env no_rests tail no_falls)
    meaning (try a xs b ys c) env tail =
        either (meaning a env false)
        (λ vs. meaning b (with_values env xs vs) tail)
        (λ k r. meaning c (with_values env ys (class_word k ∷ r ∷ T.raw_trace k ∷ [])) tail)
    meaning (catch a) env tail = either (meaning a env false) give exit_of
    meaning (receive n x t v b) env tail =
        beginning (marked_reference w n env)
        (receiving (λ m. tree_does t (with_value env x m) no_rests tail no_falls) (timeout_of (read env v))
        (meaning b env tail))

    -- what the taken row does, if one is taken
    pub tree_does : Tree → Env → Rests → Bool → Falls → Tried Values
    tree_does (body e) env r tail fs = taken (meaning e env tail)
    tree_does (fall k) env r tail fs = fs k r
    tree_does (either_in k a b) env r tail fs = tree_does a env r tail (with_fall fs k (λ q. tree_does b env q tail fs))
    tree_does (switch x cs t) env r tail fs = cases_do cs (env x) env r tail fs (tree_does t env r tail fs)
    tree_does (segments x rs t) env r tail fs = rows_do rs (env x) env r tail fs (tree_does t env r tail fs)
    tree_does (step z a b) env r tail fs =
        after_step (bin_step w z env r) (λ e q. tree_does a e q tail fs) (λ q. tree_does b env q tail fs)
    tree_does (guarded g a b) env r tail fs =
        if_holds (meaning g env false blank) (tree_does a env r tail fs) (tree_does b env r tail fs)

    -- the first case whose shape the term has
    pub cases_do : Cases → Term → Env → Rests → Bool → Falls → Tried Values → Tried Values
    cases_do no_case u env r tail fs rest = rest
    cases_do (and_case (case h xs t) cs) u env r tail fs rest =
        if_there (shape_parts h env u) (λ vs. tree_does t (with_values env xs vs) r tail fs)
        (cases_do cs u env r tail fs rest)

    -- the first row whose segments match
    pub rows_do : SegRows → Term → Env → Rests → Bool → Falls → Tried Values → Tried Values
    rows_do (and_row (seg_row ss t) rs) (T.bits bs) env r tail fs rest =
        if_match w.handed ss env bs (λ e. tree_does t e r tail fs) (rows_do rs (T.bits bs) env r tail fs rest)
    rows_do _ u env r tail fs rest = rest

-- what clauses do with values: the first whose patterns match and whose guard holds
unfoldable pub clauses_do : Setting → Here → List Row → Values → Env → Bool → Tried Values
unfolding meaning same_term
clauses_do w here [] vs env tail = none_tried
clauses_do w here (x ∷ xs) vs env tail =
    and_cuts (all_cuts w.handed env x.patterns (terms vs))
    (elim (match_all env x.patterns (terms vs)) [
      | None ↦ clauses_do w here xs vs env tail
      | Some bs ↦
          let e = with_bindings env bs in
          if_holds (meaning w here x.guard e false blank) (taken (meaning w here x.body e tail))
          (clauses_do w here xs vs env tail)
    ])

-- what a function does with arguments, whatever the other functions are; with another number of terms than it has
-- parameters it does what one does that is not there
unfoldable pub fun_does : Setting → Fun → BodyMeaning
unfolding meaning
fun_does w f here vs =
    if eqb (length vs) (length f.params)
    then one (meaning w here f.body (with_values no_values f.params vs) true) give
    else fail T.error (word (codes "undef"))

-- Modules.

-- how many parameters each function has
abbrev pub widths : List Fun → List ℕ
widths fs = map (λ f. length f.params) fs

-- what the functions of a module do, by their sites
unfoldable pub module_bodies : Setting → List Fun → Bodies
unfolding fun_does
module_bodies w fs n = elim (slice_get fs n) as (λ _. BodyMeaning) [
  | None ↦ λ here vs. fail T.error (word (codes "undef"))
  | Some f ↦ fun_does w f
]

-- the site of a function by its name and arity
abbrev pub site_of : List Fun → FunKey → ℕ
site_of [] k = 0
site_of (f ∷ fs) k = if same_key f.key k then f.site else site_of fs k

-- what a call of an export does, with at most n entries
unfoldable pub kernel_run : Setting → Kernel → FunKey → Values → Script → ℕ → Result
unfolding entered_deep module_bodies examined
kernel_run w k f vs x n =
    ended x.choices (entered_deep k.name x.own (module_bodies w k.funs) (suc n) (site_of k.funs f) vs (start x n))
