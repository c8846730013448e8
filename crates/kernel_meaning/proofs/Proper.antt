-- The runs of Core modules and of functions in kernel form have one result, which is lawful where what they enter is.
use Rattle.std.proofs.Common.{◌≡◌, ℕ, zero, suc, List, [], ◌∷◌, length, Bool, true, false, eqb, if◌then◌else◌, Option, Some, None, slice_get, refl, sym, subst, ◌∙◌, codes}
use Rattle.erl_term.specs.Term as T
use Rattle.erl_term.specs.Term.{Term, Class}
use Rattle.erl_term.specs.Terms.{Values, only, class_word, word}
use Rattle.bif_table.specs.BuiltinAnswer.{answer}
use Rattle.world_model.specs.World as W
use Rattle.world_model.specs.Run.{Note, happened, entered, looked, marked, began, cut, State, Outcome, M, ◌>>=◌}
use Rattle.world_model.specs.Meaning.{either}
use Rattle.world_model.specs.Receive.{timeout_of, Tried}
use Rattle.core_form.specs.Sites.{Site}
use Rattle.core_meaning.specs.SegmentMatch.{if_there, match_segs}
use Rattle.core_meaning.specs.ClauseChoice.{blank, is_true}
use Rattle.core_meaning.specs.MarkingCalls.{marking, last_mark}
use Rattle.core_meaning.specs.Evaluation.{bits_or_badarg, build_each}
use Rattle.core_meaning.specs.Calls.{Invocation}
use Rattle.core_meaning.specs.CoreRun.{Known, apart_of, run_site, deep, known}
use Rattle.core_meaning.proofs.Rules.{Move, move_noted, move_answered, move_taken, move_marked, Logic}
use Rattle.core_meaning.proofs.EveryRule.{site_ok}
use Rattle.step_machine.specs.Bodies.{Here, BodyMeaning}
use Rattle.pass_contract.specs.Lawful.{Lawful, IsLawful}
use Rattle.pass_contract.specs.PassContract.{at_once, IsProper}
use Rattle.pass_contract.proofs.Modules.{lawful_itself}
use Rattle.pass_contract.proofs.LawfulSteps.{noting_lawful, answered_lawful, taken_lawful}
use Rattle.pass_contract.proofs.LawfulMeanings.{Goes, give_goes, fail_goes, waits_goes, bind_goes, either_goes, moved_goes, noting_goes, answers_goes, if_goes, remote_goes, put_all_goes, again_goes, trace_goes, exit_goes, send_goes, counted_goes, enters_goes, apply_goes, BodyGoes, receiving_goes}
use Rattle.kernel_form.specs.Kernel.{Simple, value, cons, tuple, map_put, bits, make_fun, bif, local, apply, remote, send, trace, raise, failing, Expr, values, simple, let_in, match_in, try, catch, receive, Tree, body, fall, either_in, switch, segments, step, guarded, case, Cases, no_case, and_case, seg_row, SegRows, no_row, and_row, Fun}
use Rattle.kernel_meaning.specs.Environment.{Env, no_values, with_value, with_values, Rests, no_rests, read, read_all, read_pairs, read_parts, Setting}
use Rattle.kernel_meaning.specs.PatternMatch.{with_bindings, segments_of}
use Rattle.kernel_meaning.specs.Steps.{simply, shape_parts, bin_step}
use Rattle.kernel_meaning.specs.KernelRun.{Falls, no_falls, with_fall, select, or_stuck, is_marked, meaning, tree_does, cases_do, rows_do, fun_does}
use Rattle.kernel_meaning.specs.Forms.{core_body, CoreRunsMean, MeaningsAreProper}

-- Marks are notes.

mark_lawful : (x : Term) (ns : List Note) (s : State) → Lawful s (last_mark x ns s)
mark_lawful x [] s = lawful_itself s
mark_lawful x (happened (W.asked q r) ∷ ns) s = noting_lawful (marked _) s
mark_lawful x (happened (W.taken n) ∷ ns) s = lawful_itself s
mark_lawful x (entered n ∷ ns) s = lawful_itself s
mark_lawful x (looked l ∷ ns) s = lawful_itself s
mark_lawful x (marked y ∷ ns) s = lawful_itself s
mark_lawful x (began o ∷ ns) s = lawful_itself s
mark_lawful x (cut n ∷ ns) s = mark_lawful x ns s

marking_goes : (b : Bool) (m : M Values) → Goes m → Goes (marking b m)
marking_goes false m h = h
marking_goes true m h = bind_goes _ _ h (λ vs. record { at = λ s. mark_lawful (only vs) s.notes s })

-- Functions in kernel form.

badarg_goes : (o : Option (List Bool)) → Goes (bits_or_badarg o)
badarg_goes None = fail_goes _ _
badarg_goes (Some bs) = give_goes _

FallsGo : Falls → Type 0
FallsGo fs = (k : ℕ) (r : Rests) → BodyGoes (fs k r).body

no_falls_go : FallsGo no_falls
unfolding FallsGo BodyGoes
no_falls_go k r = tt

with_fall_goes : (fs : Falls) (k : ℕ) (f : Rests → Tried Values) → FallsGo fs → ((r : Rests) → BodyGoes (f r).body)
    → FallsGo (with_fall fs k f)
unfolding FallsGo
with_fall_goes fs k f h i j r = go (eqb j k)
  where
    go : (b : Bool) → BodyGoes ((if b then f else fs j) r).body
    go true = i r
    go false = h j r

select_goes : (x : Bool) (a b : Tried Values) → BodyGoes a.body → BodyGoes b.body → BodyGoes (select x a b).body
select_goes true a b h i = h
select_goes false a b h i = i

parts_go : (o : Option Values) (f : Values → Tried Values) (a : Tried Values) → ((vs : Values) → BodyGoes (f vs).body)
    → BodyGoes a.body → BodyGoes (if_there o f a).body
parts_go None f a h i = i
parts_go (Some vs) f a h i = h vs

bound_goes : {X : Type 0} (o : Option X) (f : X → Tried Values) (a : Tried Values) → ((x : X) → BodyGoes (f x).body)
    → BodyGoes a.body
    → BodyGoes (let t : Tried Values = elim o as (λ _. Tried Values) [ None ↦ a | Some x ↦ f x ] in t.body)
bound_goes None f a h i = i
bound_goes (Some x) f a h i = h x

stuck_goes : (o : Option (M Values)) → BodyGoes o → Goes (or_stuck o)
unfolding BodyGoes
stuck_goes None h = fail_goes _ _
stuck_goes (Some m) h = h

module _ (w : Setting) (here : Here) (lawful : IsLawful here.enter) where
  simply_goes : (s : Simple) (env : Env) (tail : Bool) → Goes (simply w here s env tail)
  unfolding simply
  simply_goes (value v) env tail = give_goes _
  simply_goes (cons v u) env tail = give_goes _
  simply_goes (tuple vs) env tail = give_goes _
  simply_goes (map_put v ps) env tail = put_all_goes (read_pairs env ps) (read env v)
  simply_goes (bits ps) env tail = badarg_goes (build_each (read_parts env ps))
  simply_goes (make_fun n vs) env tail = give_goes _
  simply_goes (bif b vs) env tail = answers_goes (answer b here.own (read_all env vs))
  simply_goes (local n vs) env tail = enters_goes here.enter lawful n tail (read_all env vs)
  simply_goes (apply v vs) env tail = apply_goes here lawful w.widths (read env v) (read_all env vs)
  simply_goes (remote m h vs) env tail = remote_goes here.own (read env m) (read env h) (read_all env vs)
  simply_goes (send t v) env tail = send_goes _ _
  simply_goes trace env tail = trace_goes
  simply_goes (raise v r) env tail = again_goes (read env v) (read env r)
  simply_goes (failing v) env tail = fail_goes _ _

  mutual
    unfolding meaning FallsGo BodyGoes

    meaning_goes : (e : Expr) (env : Env) (tail : Bool) → Goes (meaning w here e env tail)
    meaning_goes (values vs) env tail = give_goes _
    meaning_goes (simple s) env tail = simply_goes s env tail
    meaning_goes (let_in xs a b) env tail = bind_goes _ _ (marking_goes (is_marked w xs a) _ (meaning_goes a env false))
        (λ vs. meaning_goes b (with_values env xs vs) tail)
    meaning_goes (match_in t) env tail =
        noting_goes _ _ (stuck_goes _ (tree_goes t env no_rests tail no_falls no_falls_go))
    meaning_goes (try a xs b ys c) env tail = either_goes _ _ _ (meaning_goes a env false)
        (λ vs. meaning_goes b (with_values env xs vs) tail)
        (λ k r. meaning_goes c (with_values env ys (class_word k ∷ r ∷ T.raw_trace k ∷ [])) tail)
    meaning_goes (catch a) env tail = either_goes _ _ _ (meaning_goes a env false) (λ vs. give_goes vs) exit_goes
    meaning_goes (receive n x t v b) env tail = noting_goes _ _
        (receiving_goes _ (λ m. tree_goes t (with_value env x m) no_rests tail no_falls no_falls_go)
        (timeout_of (read env v)) _ (meaning_goes b env tail))

    tree_goes : (t : Tree) (env : Env) (r : Rests) (tail : Bool) (fs : Falls) → FallsGo fs
        → BodyGoes (tree_does w here t env r tail fs).body
    tree_goes (body e) env r tail fs h = meaning_goes e env tail
    tree_goes (fall k) env r tail fs h = h k r
    tree_goes (either_in k a b) env r tail fs h =
        tree_goes a env r tail _ (with_fall_goes fs k _ h (λ q. tree_goes b env q tail fs h))
    tree_goes (switch x cs t) env r tail fs h =
        cases_go cs (env x) env r tail fs h _ (tree_goes t env r tail fs h)
    tree_goes (segments x rs t) env r tail fs h =
        rows_go rs (env x) env r tail fs h _ (tree_goes t env r tail fs h)
    tree_goes (step z a b) env r tail fs h =
        bound_goes (bin_step w z env r).bound _ _ (λ e. tree_goes a e _ tail fs h) (tree_goes b env _ tail fs h)
    tree_goes (guarded e a b) env r tail fs h = select_goes (is_true (meaning w here e env false blank).1) _ _
        (tree_goes a env r tail fs h) (tree_goes b env r tail fs h)

    cases_go : (cs : Cases) (u : Term) (env : Env) (r : Rests) (tail : Bool) (fs : Falls) → FallsGo fs
        → (a : Tried Values) → BodyGoes a.body → BodyGoes (cases_do w here cs u env r tail fs a).body
    cases_go no_case u env r tail fs h a i = i
    cases_go (and_case (case s xs t) cs) u env r tail fs h a i =
        parts_go (shape_parts s env u) _ _ (λ vs. tree_goes t (with_values env xs vs) r tail fs h)
        (cases_go cs u env r tail fs h a i)

    rows_go : (rs : SegRows) (u : Term) (env : Env) (r : Rests) (tail : Bool) (fs : Falls) → FallsGo fs
        → (a : Tried Values) → BodyGoes a.body → BodyGoes (rows_do w here rs u env r tail fs a).body
    rows_go no_row u env r tail fs h a i = i
    rows_go (and_row (seg_row ss t) rs) (T.bits bs) env r tail fs h a i =
        bound_goes (match_segs (segments_of ss) env bs) _ _ (λ xs. tree_goes t (with_bindings env xs) r tail fs h)
        (rows_go rs (T.bits bs) env r tail fs h a i)
    rows_go (and_row (seg_row ss t) rs) _ env r tail fs h a i = i

fun_goes : (w : Setting) (f : Fun) (here : Here) (vs : Values) → IsLawful here.enter → Goes (fun_does w f here vs)
unfolding fun_does
fun_goes w f here vs lawful = if_goes (eqb (length vs) (length f.params)) _ _
    (bind_goes _ _ (meaning_goes w here lawful f.body (with_values no_values f.params vs) true)
    (λ us. give_goes (only us)))
    (fail_goes T.error (word (codes "undef")))

-- Core modules.

move_lawful : (f : State → State) → Move f → (s : State) → Lawful s (f s)
move_lawful _ (move_noted n) s = noting_lawful n s
move_lawful _ (move_answered q r rs) s = answered_lawful q r rs s
move_lawful _ (move_taken m) s = taken_lawful m s
move_lawful _ (move_marked t ns) s = mark_lawful t ns s

-- both are the same, and lawful
pub record BothGo {A : Type 0} (m n : M A) : Type 0 where
  pub equal : m ≡ n
  pub goes : Goes m

going : Logic
going = record {
  Rel = λ m n. BothGo m n;
  given = λ a. record { equal = refl; goes = give_goes a };
  failed = λ c r. record { equal = refl; goes = fail_goes c r };
  waited = λ q. record { equal = refl; goes = waits_goes q };
  bound = λ m n f g r h. record {
    equal = λ i. r.equal i >>= λ a. (h a).equal i;
    goes = bind_goes m f r.goes (λ a. (h a).goes);
  };
  caught = λ m n f g h i r k l. record {
    equal = λ j. either (r.equal j) (λ a. (k a).equal j) (λ c t. (l c t).equal j);
    goes = either_goes m f h r.goes (λ a. (k a).goes) (λ c t. (l c t).goes);
  };
  moved = λ f q m n r.
      record { equal = λ i s. r.equal i (f s); goes = moved_goes f m (move_lawful f q.move) r.goes };
  seen = λ g e f h r. record {
    equal = λ i s. (r (g s)).equal i s;
    goes = record { at = λ s. (r (g s)).goes.at s };
  };
  guard = λ m n r i. r.equal i blank;
}

site_goes : (here : Invocation) → IsLawful here.enter → (o : Option Site) (vs : Values) → Goes (run_site here o vs)
unfolding going
site_goes here lawful o vs = (site_ok going here here.enter
    (λ e n us. record { equal = refl; goes = counted_goes e (here.enter n us) (record { at = lawful n us }) }) o
    vs).goes

-- Runs without turns.

some_is : (a b : State × Outcome Term) → Some a ≡ Some b → a ≡ b
some_is a b i = cc

at_once_proper : (m : BodyMeaning) → ((here : Here) (vs : Values) → IsLawful here.enter → Goes (m here vs))
    → IsProper (at_once m)
at_once_proper m h = record {
  one_result = λ here vs s r q c d. sym (some_is _ _ c.gives) ∙ some_is _ _ d.gives;
  lawful = λ here vs s r l c. subst (λ z. Lawful s z.0) (some_is _ _ c.gives) ((h here vs l).at s);
}

pub forms_are_proper : MeaningsAreProper
forms_are_proper = record {
  core = λ m own n. at_once_proper (core_body (known m own) n) (λ here vs l. site_goes _ l _ vs);
  kernel = λ m f. at_once_proper (fun_does _ f) (λ here vs l. fun_goes _ f here vs l);
}

deep_lawful : (k : Known) (d : ℕ) → IsLawful (deep k d)
unfolding deep
deep_lawful k zero n vs s = lawful_itself s
deep_lawful k (suc d) n vs s = (site_goes (record {
  name = k.name;
  own = k.own;
  sites = k.sites;
  reached = k.reached;
  apart = apart_of k.reached n (slice_get k.sites n);
  enter = deep k d;
}) (deep_lawful k d) (slice_get k.sites n) vs).at s

pub core_runs_mean : CoreRunsMean
unfolding deep
core_runs_mean m own = record {
  none = λ n vs s. refl;
  more = λ d n vs s. record { within = 0; gives = refl };
  lawful = deep_lawful (known m own);
}
