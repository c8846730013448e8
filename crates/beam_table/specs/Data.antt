-- Moves, frames and heap room, building, and taking apart.
use Rattle.std.specs.Prelude.{ℕ, suc, ◌+◌, List, [], ◌∷◌, length, map, slice_get, take, drop, replicate, Bool, not, ◌&&◌, eqb, Option, Some, None, if◌then◌else◌, codes}
use Rattle.erl_term.specs.Term as T
use Rattle.erl_term.specs.Term.{Term, Pairs}
use Rattle.erl_term.specs.TermOrder.{same_term}
use Rattle.erl_term.specs.Terms.{terms, listed, value_at, is_there, tagged, put}
use Rattle.bif_table.specs.BuiltinAnswer.{Answer, value, raised}
use Rattle.step_machine.specs.Frames.{is_tag, no_tags, in_frame, no_frame}
use Rattle.step_machine.specs.Steps.{goes, bad}
use Rattle.beam_table.specs.Code.{Reg, y_reg, Source, AsmModule}
use Rattle.beam_table.specs.MachineState.{Cell, Machine, unset, killed}
use Rattle.beam_table.specs.GeneralRules.{Effect, needs, is_set, tag_in, if_some, read_reg, read_cell, read, read_all, outside_window, write, write_term, collects, builds, jumps, answers}

-- Moves.

-- what may be moved
abbrev pub is_movable : Cell → Bool
is_movable c = is_set c && not (is_tag tag_in c)

-- {move,S,D}: D := S, of any kind but a tag; S is set
abbrev pub do_move : Source → Reg → Machine → Effect
do_move s d m = read_cell m s λ c. needs (is_movable c) (write m d c goes)

-- {swap,D,D}: exchanges two set registers, as move does
abbrev pub do_swap : Reg → Reg → Machine → Effect
do_swap r s m =
    read_reg m r λ c. read_reg m s λ d. needs (is_movable c && is_movable d) (write m r d λ u. write u s c goes)

-- Frames and room.

-- {init_yregs,{list,[Y,..]}}: these slots are killed
abbrev pub do_init : List ℕ → Machine → Effect
do_init [] m = goes m
do_init (n ∷ ns) m = write m (y_reg n) killed λ u. do_init ns u

-- {allocate,N,Live}, {allocate_heap,N,W,Live}: needs no frame and collects; then a frame of N unset slots, and room
-- for W words
abbrev pub do_allocate : ℕ → ℕ → ℕ → Machine → Effect
do_allocate n w live m =
    outside_window m (no_frame bad m.frame (collects live m λ u.
    goes (record u { frame = Some (replicate n unset); room = w })))

-- drops a frame of n slots without a tag
abbrev pub drops : ℕ → Machine → (Machine → Effect) → Effect
drops n m k =
    outside_window m
    (in_frame bad m.frame λ ys. needs (eqb (length ys) n && no_tags tag_in ys) (k (record m { frame = None })))

-- {trim,N,R}: of N + R slots the lowest N, which hold no tag, go; the others move down
abbrev pub do_trim : ℕ → ℕ → Machine → Effect
do_trim n r m = outside_window m (in_frame bad m.frame λ ys.
    needs (eqb (length ys) (n + r) && no_tags tag_in (take n ys)) (goes (record m { frame = Some (drop n ys) })))

-- {test_heap,W,Live}: collects; then room for W words
abbrev pub do_test_heap : ℕ → ℕ → Machine → Effect
do_test_heap w live m = collects live m λ u. goes (record u { room = w })

-- Building.

-- {put_list,S,S,D}: builds two words; D := the list
abbrev pub do_put_list : Source → Source → Reg → Machine → Effect
do_put_list s r d m = builds 2 m λ u. read u s λ t. read u r λ v. write_term u d (T.cons t v) goes

-- {put_tuple2,D,{list,[S,..]}}: builds a word more than there are elements
abbrev pub do_put_tuple : Reg → List Source → Machine → Effect
do_put_tuple d ss m =
    builds (suc (length ss)) m λ u. read_all u ss λ ts. write_term u d (T.tuple (terms ts)) goes

-- keys with values
abbrev pub read_pairs : Machine → List (Source × Source) → (List (Term × Term) → Effect) → Effect
read_pairs m [] k = k []
read_pairs m (p ∷ ps) k = read m p.0 λ t. read m p.1 λ u. read_pairs m ps λ qs. k ((t, u) ∷ qs)

-- pairs put into a map in order; where they must be exact, each key is there
unfoldable pub put_pairs : Bool → List (Term × Term) → Pairs → Answer
unfolding put same_term
put_pairs exact [] ps = value (T.map ps)
put_pairs exact (q ∷ qs) ps =
    if exact && not (is_there (value_at ps q.0))
    then raised T.error (tagged (codes "badkey") q.0)
    else put_pairs exact qs (put q.0 q.1 ps)

-- what putting pairs into a term gives
unfoldable pub put_in : Bool → List (Term × Term) → Term → Answer
unfolding put_pairs
put_in exact qs (T.map ps) = put_pairs exact qs ps
put_in exact qs t = raised T.error (tagged (codes "badmap") t)

-- Taking apart.

-- a list with an item is wanted
abbrev pub if_cons : Term → (Term → Term → Effect) → Effect
if_cons (T.cons t u) k = k t u
if_cons _ k = bad

-- {get_list,S,D,D}: S is a list with an item: the item, and the rest
abbrev pub do_get_list : Source → Reg → Reg → Machine → Effect
do_get_list s d e m = read m s λ l. if_cons l λ t r. write_term m d t λ u. write_term u e r goes

-- {get_hd,S,D}
abbrev pub do_get_hd : Source → Reg → Machine → Effect
do_get_hd s d m = read m s λ l. if_cons l λ t r. write_term m d t goes

-- {get_tl,S,D}
abbrev pub do_get_tl : Source → Reg → Machine → Effect
do_get_tl s d m = read m s λ l. if_cons l λ t r. write_term m d r goes

-- a tuple is wanted
abbrev pub if_tuple : Term → (List Term → Effect) → Effect
if_tuple (T.tuple ts) k = k (listed ts)
if_tuple _ k = bad

-- {get_tuple_element,S,N,D}: element N of a tuple, from 0; it is there
abbrev pub do_get_element : Source → ℕ → Reg → Machine → Effect
do_get_element s n d m = read m s λ t. if_tuple t λ ts. if_some (slice_get ts n) λ v. write_term m d v goes

-- a map is wanted
abbrev pub if_map : Term → (Pairs → Effect) → Effect
if_map (T.map ps) k = k ps
if_map _ k = bad

-- all of them, or none
abbrev pub and_also : {A : Type 0} → Option A → Option (List A) → Option (List A)
and_also None o = None
and_also (Some a) None = None
and_also (Some a) (Some as') = Some (a ∷ as')

-- the values of keys, if all are there
unfoldable pub values_at : Pairs → List Term → Option (List Term)
unfolding same_term
values_at ps [] = Some []
values_at ps (k ∷ ks) = and_also (value_at ps k) (values_at ps ks)

-- one after the other
abbrev pub write_all : Machine → List Reg → List Term → (Machine → Effect) → Effect
write_all m (d ∷ ds) (t ∷ ts) k = write_term m d t λ u. write_all u ds ts k
write_all m _ _ k = k m

-- the first of each pair
abbrev pub firsts : {A B : Type 0} → List (A × B) → List A
firsts ps = map (λ p. p.0) ps

-- and the second
abbrev pub seconds : {A B : Type 0} → List (A × B) → List B
seconds ps = map (λ p. p.1) ps

module _ (a : AsmModule) where
  -- {put_map_assoc,{f,0},S,D,Live,{list,[S,S,..]}} and put_map_exact: collects; D := S with the pairs put in order;
  -- raises badmap, and badkey where keys must be there
  unfoldable pub do_put_map : Bool → Source → Reg → ℕ → List (Source × Source) → Machine → Effect
  unfolding put_in
  do_put_map exact s d live ps m =
      collects live m λ u. read u s λ t. read_pairs u ps λ qs. answers a None (put_in exact qs t) d u

  -- writes the values if all are there
  abbrev pub all_or_jumps : Option (List Term) → List Reg → ℕ → Machine → Effect
  all_or_jumps None ds l m = jumps a l m
  all_or_jumps (Some ts) ds l m = write_all m ds ts goes

  -- {get_map_elements,L,S,{list,[S,D,..]}}: S is a map; jumps where a key is absent, and then nothing is written; all
  -- values are looked up before the first is written
  unfoldable pub do_get_elements : ℕ → Source → List (Source × Reg) → Machine → Effect
  unfolding values_at
  do_get_elements l s ps m =
      read m s λ t. if_map t λ qs. read_all m (firsts ps) λ ks. all_or_jumps (values_at qs ks) (seconds ps) l m
