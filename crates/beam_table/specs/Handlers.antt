-- Raises, and the tags that catch them.
use Rattle.std.specs.Prelude.{ℕ, suc, List, length, get_or, take, ◌&&◌, ltb, Some, None, codes}
use Rattle.erl_term.specs.Term as T
use Rattle.erl_term.specs.Term.{Term, none, more}
use Rattle.erl_term.specs.Terms.{tagged}
use Rattle.world_model.specs.World as W
use Rattle.step_machine.specs.Frames.{no_tags, with_cell, in_frame}
use Rattle.step_machine.specs.Steps.{goes, bad}
use Rattle.bif_table.specs.BuiltinAnswer.{badarg}
use Rattle.beam_table.specs.Code.{x_reg, Source, reg, AsmModule}
use Rattle.beam_table.specs.MachineState.{Kind, Cell, Machine, a_try, a_catch, unset, killed, tag}
use Rattle.beam_table.specs.GeneralRules.{Effect, needs, tag_in, read, outside_window, alone, leaves, raising, asking}

-- {'try',Y,L}, {'catch',Y,L}: no tag stands in Y or below it; Y gets a tag with L
abbrev pub do_tag : Kind → ℕ → ℕ → Machine → Effect
do_tag k n l m = outside_window m (in_frame bad m.frame λ ys.
    needs (ltb n (length ys) && no_tags tag_in (take (suc n) ys))
    (goes (record m { frame = Some (with_cell unset n (tag k l) ys) })))

-- a tag is wanted
abbrev pub if_tag : Cell → (Kind → Effect) → Effect
if_tag (tag k l) f = f k
if_tag _ f = bad

-- the tag in slot n, the lowest one, goes
abbrev pub ends_tag : ℕ → Machine → (Kind → Machine → Effect) → Effect
ends_tag n m f = outside_window m (in_frame bad m.frame λ ys. if_tag (get_or ys n unset) λ k.
    needs (no_tags tag_in (take n ys)) (f k (record m { frame = Some (with_cell unset n killed ys) })))

-- {try_end,Y}: the tag in Y, the lowest one, goes; Y is killed
abbrev pub do_try_end : ℕ → Machine → Effect
do_try_end n m = ends_tag n m λ k u. goes u

-- {try_case,Y}: the first instruction after a raise to a try tag, which stands in Y and goes; x0, x1 and x2 stay
abbrev pub do_try_case : ℕ → Machine → Effect
do_try_case n m = elim m.landing [
  | None ↦ bad
  | Some k ↦ ends_tag n m λ j u. goes (record u { landing = None })
]

-- a tag of catch is wanted
abbrev pub if_catch : Kind → Effect → Effect
if_catch a_catch a = a
if_catch a_try a = bad

-- the value of a catch
abbrev pub caught : Term → Term → Machine → Effect
caught (T.raw_trace T.throw) r m = alone r m
caught (T.raw_trace T.exit) r m = alone (tagged (codes "EXIT") r) m
caught (T.raw_trace T.error) r m =
    asking W.trace m λ q u. alone (tagged (codes "EXIT") (T.tuple (more r (more q.term none)))) u
caught _ r m = bad

-- {catch_end,Y}: the lowest tag, one of catch, stands in Y and goes; after a raise x0 := the value of the catch,
-- alone
abbrev pub do_catch_end : ℕ → Machine → Effect
do_catch_end n m = ends_tag n m λ k u. if_catch k (elim m.landing [
  | None ↦ goes u
  | Some j ↦ read u (reg (x_reg 1)) λ r. read u (reg (x_reg 2)) λ t. caught t r (record u { landing = None })
])

-- build_stacktrace: needs a frame, leaves, and asks for the trace; it is alone in x0
abbrev pub do_stacktrace : Machine → Effect
do_stacktrace m = in_frame bad m.frame λ ys. leaves 1 m λ u. asking W.trace u λ r v. alone r.term v

module _ (a : AsmModule) where
  -- with the class that a raw trace keeps; badarg where there is none
  abbrev pub raises_again : Term → Term → Machine → Effect
  raises_again (T.raw_trace c) r m = raising a c r m
  raises_again _ r m = raising a T.error badarg m

  -- {raise,Trace,Reason}
  abbrev pub do_raise : Source → Source → Machine → Effect
  do_raise s r m = read m s λ t. read m r λ u. raises_again t u m

  -- raises {word, term}
  abbrev pub fails : List ℕ → Source → Machine → Effect
  fails w s m = read m s λ t. raising a T.error (tagged w t) m
