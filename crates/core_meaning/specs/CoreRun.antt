-- What a call of a module's function does, with a bound on the calls of its own functions.
use Rattle.std.specs.Prelude.{ℕ, zero, suc, ◌+◌, List, [], ◌∷◌, ◌++◌, reverse, length, slice_get, Bool, true, eqb, Option, Some, None, if◌then◌else◌, codes}
use Rattle.erl_base.specs.Names.{Name}
use Rattle.erl_base.specs.declared.ids.FunKey.{FunKey}
use Rattle.erl_term.specs.Term as T
use Rattle.erl_term.specs.Term.{Term}
use Rattle.erl_term.specs.Terms.{Values, word}
use Rattle.world_model.specs.World.{Script, Happening}
use Rattle.world_model.specs.Run.{Entry, Looked, Marked, Note, happenings, entries, looks, marks, sub_binaries, State, Outcome, spent, M, give, fail, numbered}
use Rattle.world_model.specs.Meaning.{one}
use Rattle.core_form.specs.Core.{Module}
use Rattle.core_form.specs.Scope.{Use, function_of, numbers_of}
use Rattle.core_form.specs.Sites.{Site, inside, param_numbers, module_scope, module_sites}
use Rattle.core_meaning.specs.PassedOnTail.{Param, all_reached}
use Rattle.core_meaning.specs.ReceiveCost.{examined}
use Rattle.core_meaning.specs.Calls.{Invocation}
use Rattle.core_meaning.specs.EvaluationContext.{holding}
use Rattle.core_meaning.specs.Evaluation.{eval}

-- a function's body, with its arguments and captured terms; where it is not there, or is entered with another number of
-- terms than it takes, it raises undef
unfoldable pub run_site : Invocation → Option Site → Values → M Term
unfolding eval
run_site here None vs = fail T.error (word (codes "undef"))
run_site here (Some x) vs =
    if eqb (length vs) (length x.params + length x.captures)
    then one (eval here x.body (record {
      scope = inside x;
      env = holding (param_numbers x ++ numbers_of x.captures) vs [];
      next = x.first;
      tail = true;
      lets = [];
    })) give
    else fail T.error (word (codes "undef"))

-- the bindings of a function's parameters that passed-on variables reach
abbrev pub apart_of : List Param → ℕ → Option Site → List ℕ
apart_of rs n None = []
apart_of [] n (Some x) = []
apart_of (r ∷ rs) n (Some x) =
    if eqb r.site n then (length x.scope + r.index) ∷ apart_of rs n (Some x) else apart_of rs n (Some x)

-- what is known of a module while it runs
pub record Known : Type 0 where
  pub name : Name
  pub own : Term
  pub sites : List Site
  pub reached : List Param

-- enters a function, where functions are entered at most d deep
unfoldable pub deep : Known → ℕ → ℕ → Values → M Term
unfolding run_site
deep m zero n vs = λ s. (s, spent)
deep m (suc d) n vs =
    run_site (record {
      name = m.name;
      own = m.own;
      sites = m.sites;
      reached = m.reached;
      apart = apart_of m.reached n (slice_get m.sites n);
      enter = deep m d;
    }) (slice_get m.sites n) vs

-- a module's functions are found once
abbrev pub known : Module → Term → Known
known m own = known_by m.name own (module_sites m)
  where
    known_by : Name → Term → List Site → Known
    known_by x t ss = record { name = x; own = t; sites = ss; reached = all_reached ss ss }

-- what a run gives: what happened, the entries after the first, the messages that receives looked at, the marking
-- calls, what it costs, and how it ends
pub record Result : Type 0 where
  pub happenings : List Happening
  pub entries : List Entry
  pub looks : List Looked
  pub marks : List Marked
  pub examined : List ℕ
  pub subs : ℕ
  pub end : Outcome Term

-- from the notes, the earliest first
abbrev pub result_of : List Bool → List Note → Outcome Term → Result
result_of choices ns end = record {
  happenings = happenings ns;
  entries = entries ns;
  looks = looks ns;
  marks = marks ns;
  examined = examined ns (record { bound = []; choices = choices; low = 0 });
  subs = sub_binaries ns;
  end = end;
}

-- the notes were kept latest first
abbrev pub ended : List Bool → State × Outcome Term → Result
ended choices r = result_of choices (reverse r.0.notes) r.1

-- the state in which a call starts, with at most n entries
abbrev pub start : Script → ℕ → State
start x n = record {
  replies = x.replies;
  mailbox = numbered 0 x.mailbox;
  next = length x.mailbox;
  left = n;
  notes = [];
}

-- the site of a function that a scope has
abbrev pub site_named : Option (ℕ × List Use) → ℕ
site_named None = 0
site_named (Some f) = f.0

-- the site of an export
abbrev pub known_export : Module → FunKey → ℕ
known_export m f = site_named (function_of (module_scope m.defs 0 []) f)

-- what a call of an export does, with at most n entries
unfoldable pub evaluated : Module → FunKey → Values → Script → ℕ → Result
unfolding deep examined
evaluated m f vs x n =
    ended x.choices (deep (known m x.own) (suc n) (known_export m f) vs (start x n))
