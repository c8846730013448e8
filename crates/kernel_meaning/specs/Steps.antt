-- What a simple step gives, what the shape of a term is, and what a step on bits does (Core Erlang 1.0.3, section 5;
-- contexts as OTP 25's bs_match instructions).
use Rattle.std.specs.Prelude.{ℕ, ◌-◌, List, [], ◌∷◌, length, take, drop, Bool, eqb, Option, Some, None, if◌then◌else◌}
use Rattle.erl_term.specs.Term as T
use Rattle.erl_term.specs.Term.{Term}
use Rattle.erl_term.specs.TermOrder.{same_term}
use Rattle.erl_term.specs.Terms.{Values, terms, listed, value_at}
use Rattle.erl_term.specs.Segments.{taken_size, segment_value}
use Rattle.bif_table.specs.BuiltinAnswer.{answer}
use Rattle.world_model.specs.World as W
use Rattle.world_model.specs.Run.{M, ◌>>=◌, fail, ask}
use Rattle.world_model.specs.Meaning.{single}
use Rattle.world_model.specs.MapUpdate.{put_all}
use Rattle.world_model.specs.Requests.{answers, send_to}
use Rattle.world_model.specs.RemoteCalls.{call_terms, apply_term, raise_again}
use Rattle.world_model.specs.Entries.{enter_site}
use Rattle.step_machine.specs.Bodies.{Here, callees}
use Rattle.core_meaning.specs.Evaluation.{build_each, bits_or_badarg}
use Rattle.kernel_form.specs.Kernel.{Simple, value, cons, tuple, map_put, bits, make_fun, bif, local, apply, remote, send, trace, raise, failing, CaseShape, is, is_cons, is_tuple, map_has, BinStep, start, integer, take_bits, done, mark, back, Seg, seg}
use Rattle.kernel_meaning.specs.Environment.{Env, Rests, with_rest, read, read_all, read_pairs, read_parts, Setting, width}
use Rattle.kernel_meaning.specs.PatternMatch.{segment_binds, with_segment, made}

-- a fun of this module; its arity is what its function takes beside the captured terms
abbrev pub fun_of : List ℕ → Here → ℕ → Values → Term
fun_of ws here site cs = T.fun here.name site (width ws site - length cs) (terms cs)

-- what a simple step gives
unfoldable pub simply : Setting → Here → Simple → Env → Bool → M Values
unfolding answer put_all call_terms
simply w here (value v) env tail = single (read env v)
simply w here (cons v u) env tail = single (T.cons (read env v) (read env u))
simply w here (tuple vs) env tail = single (T.tuple (terms (read_all env vs)))
simply w here (map_put v ps) env tail = put_all (read_pairs env ps) (read env v)
simply w here (bits ps) env tail = bits_or_badarg (build_each (read_parts env ps))
simply w here (make_fun n vs) env tail = single (fun_of w.widths here n (read_all env vs))
simply w here (bif b vs) env tail = answers (answer b here.own (read_all env vs))
simply w here (local n vs) env tail = enter_site here.enter n tail (read_all env vs)
simply w here (apply v vs) env tail = apply_term (callees w.widths here) (read env v) (read_all env vs)
simply w here (remote m f vs) env tail = call_terms here.own (read env m) (read env f) (read_all env vs)
simply w here (send to v) env tail = send_to (read env to) (read env v)
simply w here trace env tail = ask W.trace >>= λ r. single r.term
simply w here (raise v r) env tail = raise_again (read env v) (read env r)
simply w here (failing v) env tail = fail T.error (read env v)

-- the parts of a term that has the shape
unfoldable pub shape_parts : CaseShape → Env → Term → Option Values
unfolding same_term
shape_parts (is t) env u = if same_term t u then Some [] else None
shape_parts is_cons env (T.cons x y) = Some (x ∷ y ∷ [])
shape_parts (is_tuple n) env (T.tuple ts) = if eqb n (length (listed ts)) then Some (listed ts) else None
shape_parts (map_has v) env (T.map ps) = elim (value_at ps (read env v)) [ None ↦ None | Some t ↦ Some (t ∷ []) ]
shape_parts _ env _ = None

-- What a step on bits comes to: what is bound and how many sub-binaries it makes where it succeeds, and in either case
-- the contexts as they are then.
pub record BitsResult : Type 0 where
  pub bound : Option Env
  pub rests : Rests
  pub cuts : ℕ

-- with these bindings, contexts and sub-binaries
abbrev pub bits_result : Option Env → Rests → ℕ → BitsResult
bits_result o r n = record { bound = o; rests = r; cuts = n }

-- a match begins: a bit string gets a context
abbrev pub opened : ℕ → Term → Env → Rests → BitsResult
opened c (T.bits bs) env r = bits_result (Some env) (with_rest r c bs) 0
opened c _ env r = bits_result None r 0

-- a match ends: no bits are left
abbrev pub finished : List Bool → Env → Rests → BitsResult
finished [] env r = bits_result (Some env) r 0
finished (b ∷ bs) env r = bits_result None r 0

-- a segment whose bits can be taken moves the context on, also where its value is another one
abbrev pub taken_seg : List ℕ → ℕ → Seg → Env → Rests → BitsResult
taken_seg hs c (seg q v h) env r =
    elim (taken_size h (Some (read env v)) (length (r c))) [
      | None ↦ bits_result None r 0
      | Some n ↦
          let t = segment_value h (take n (r c)) in
          bits_result (elim (segment_binds q t) [ None ↦ None | Some xs ↦ Some (with_segment env q t) ])
          (with_rest r c (drop n (r c))) (made hs h q)
    ]

-- what a step on bits does
unfoldable pub bin_step : Setting → BinStep → Env → Rests → BitsResult
unfolding same_term
bin_step w (start x c) env r = opened c (env x) env r
bin_step w (integer c s) env r = taken_seg w.handed c s env r
bin_step w (take_bits c s) env r = taken_seg w.handed c s env r
bin_step w (done c) env r = finished (r c) env r
bin_step w (mark c p) env r = bits_result (Some env) (with_rest r p (r c)) 0
bin_step w (back c p) env r = bits_result (Some env) (with_rest r c (r p)) 0
