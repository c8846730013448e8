use Rattle.std.proofs.Common.{◌≡◌, ◌++◌, drop, map}
use Rattle.behaviour.specs.Called.{each_once}
use Rattle.pass_line.proofs.EachOnce.{without_all}
use Rattle.pass_line.proofs.code.exports.Given as goal

abbrev pub invariant-loop-name : goal.invariant-loop-name
invariant-loop-name l = record {
  known : l.known ≡ l.made;
  so_far : l.made ++ without_all l.made (each_once (map (λ f. f.key) (drop l.name-index l.names)))
      ≡ each_once (map (λ f. f.key) l.names);
}
