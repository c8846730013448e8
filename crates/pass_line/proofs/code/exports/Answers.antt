use Rattle.std.proofs.Common.{arith, ◌++◌, map, drop, ◌+◌, sym, ap, ◌∙◌}
use Rattle.behaviour.specs.Called.{each_once}
use Rattle.pass_line.proofs.EachOnce.{without_all, without_none, once_step}
use Rattle.pass_line.proofs.Fronts.{next}
use Rattle.pass_line.proofs.code.exports.Goals as goal

pub loop-name-init : goal.loop-name-init
loop-name-init c = record {
  known = c.new-known.ensures ∙ sym c.new-made.ensures;
  so_far = ap (λ l. l ++ without_all l (each_once (map (λ f. f.key) c.args.names.now))) c.new-made.ensures
      ∙ without_none (each_once (map (λ f. f.key) c.args.names.now));
}

pub loop-name-preserved : goal.loop-name-preserved
loop-name-preserved c = record {
  known = c.in_ok-add.ensures.same;
  so_far =
      ap (λ l. l ++ without_all l (each_once (map (λ f. f.key) (drop (c.loop-name.name-index + 1) c.args.names.now))))
      c.in_ok-add.ensures.added
      ∙ sym (once_step c.name-item.result.key c.loop-name.made
      (map (λ f. f.key) (drop (c.loop-name.name-index + 1) c.args.names.now)))
      ∙ ap (λ l. c.loop-name.made ++ without_all c.loop-name.made (each_once (map (λ f. f.key) l)))
      (sym (next c.args.names.now c.loop-name.name-index c.name-item.result (omega arith) c.name-item.is))
      ∙ c.loop-name.invariant.so_far;
}
