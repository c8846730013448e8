use Rattle.std.proofs.Common.{◌≡◌, length}
use Rattle.kernel_form.specs.Chains.{in_lets}
use Rattle.kernel_form.proofs.build.chains.in_lets.Given as goal

abbrev pub invariant-loop-head : goal.invariant-loop-head
invariant-loop-head l = in_lets l.lets l.expr ≡ in_lets l.fn.lets l.fn.expr

abbrev pub decreases-loop-head : goal.decreases-loop-head
decreases-loop-head l = length l.lets
