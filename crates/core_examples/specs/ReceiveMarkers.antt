-- Which messages a receive may pass over that waits for a new reference (this project's own).
use Prim.Native.String.{String}
use Rattle.std.specs.Prelude.{◌≡◌, ℕ, List, [], ◌∷◌, Bool, true, false}
use Rattle.erl_term.specs.Term as T
use Rattle.erl_term.specs.Term.{Term}
use Rattle.world_model.specs.World.{Reply}
use Rattle.world_model.specs.World as W
use Rattle.core_form.specs.Core.{Expr}
use Rattle.core_meaning.specs.CoreRun.{evaluated}
use Rattle.core_meaning.specs.FreshReferences.{occurs}
use Rattle.core_examples.specs.Build.{i, v, erlang, same, let_in, do_then, receive, when, any, def, key, program, own_fun, int, atom, map_of, reply}

-- the reference that most examples wait for
abbrev pub first : Term
first = T.reference 3

-- the other reference
abbrev pub second : Term
second = T.reference 4

-- receive <M> when M =:= X -> M after 0 -> 0
abbrev pub await : String → Expr
await x = receive (when (any "M" ∷ []) (same (v "M") (v x)) (v "M") ∷ []) (i 0) (i 0)

-- a new reference
abbrev pub make_ref : Expr
make_ref = erlang "make_ref" []

-- one reference that three receives wait for
abbrev pub with_one : Expr
with_one = let_in "R" make_ref (do_then (await "R") (do_then (await "R") (await "R")))

-- two references, of which the first is waited for twice
abbrev pub with_two : Expr
with_two = let_in "R" make_ref (let_in "S" make_ref (do_then (await "R") (do_then (await "R") (await "S"))))

-- the messages that a run examines, from a mailbox with a and b, where these replies and choices come
abbrev pub examines : Expr → List Reply → List Bool → List ℕ
examines e rs cs =
    (evaluated (program (def "f" [] e ∷ [])) (key "f" 0) []
    (record { own = T.pid 1; mailbox = atom "a" ∷ atom "b" ∷ []; replies = rs; choices = cs }) 10).examined

-- the reply to make_ref: messages 2 to 5, of which three are the reference
abbrev pub with_answers : Reply
with_answers = reply (first ∷ atom "c" ∷ first ∷ first ∷ []) W.return first

-- a reply that brings a term and returns it
abbrev pub brings : Term → Reply
brings t = reply (t ∷ []) W.return t

-- as many answers as two receives of the first reference take, and one of the second
abbrev pub with_two_answers : List Reply
with_two_answers = reply (first ∷ first ∷ []) W.return first ∷ brings second ∷ []

-- which messages are examined
pub record ReceiveMarkers : Type 0 where
  -- a reference that is kept stays bound: each receive examines nothing that came before it
  pub kept : examines with_one (with_answers ∷ []) (true ∷ true ∷ []) ≡ 2 ∷ 3 ∷ 4 ∷ 3 ∷ 5 ∷ []
  -- where no choice is left it is kept
  pub kept_without_choice : examines with_one (with_answers ∷ []) [] ≡ 2 ∷ 3 ∷ 4 ∷ 3 ∷ 5 ∷ []
  -- a forgotten one is bound no more, so that later receives examine all
  pub forgotten : examines with_one (with_answers ∷ []) (true ∷ false ∷ true ∷ [])
      ≡ 2 ∷ 0 ∷ 1 ∷ 3 ∷ 4 ∷ 0 ∷ 1 ∷ 3 ∷ 5 ∷ []
  -- a receive whose reference is not bound takes no choice: the second `false` is that of the other reference
  pub unbound_takes_no_choice : examines with_two with_two_answers (false ∷ false ∷ [])
      ≡ 0 ∷ 1 ∷ 2 ∷ 0 ∷ 1 ∷ 3 ∷ 0 ∷ 1 ∷ 4 ∷ []
  -- what is forgotten of one reference leaves the other one bound
  pub other_stays_bound : examines with_two with_two_answers (false ∷ true ∷ []) ≡ 0 ∷ 1 ∷ 2 ∷ 0 ∷ 1 ∷ 3 ∷ 4 ∷ []
  -- a reference that is made again is bound to the later serial
  pub bound_anew : examines with_two (brings first ∷ brings first ∷ []) [] ≡ 3 ∷ []
  -- what is no reference is not bound
  pub no_reference : examines with_one (reply (int 7 ∷ int 7 ∷ int 7 ∷ []) W.return (int 7) ∷ []) []
      ≡ 0 ∷ 1 ∷ 2 ∷ 0 ∷ 1 ∷ 3 ∷ 0 ∷ 1 ∷ 4 ∷ []
  -- a reference is found in what a fun captured, and in the keys and values of a map
  pub in_a_fun : occurs 3 (own_fun 0 0 (int 1 ∷ first ∷ [])) ≡ true
  pub in_a_value : occurs 3 (map_of ((atom "a", first) ∷ [])) ≡ true
  pub in_a_key : occurs 3 (map_of ((first, atom "a") ∷ [])) ≡ true
  pub another_one : occurs 3 (own_fun 0 0 (second ∷ [])) ≡ false
