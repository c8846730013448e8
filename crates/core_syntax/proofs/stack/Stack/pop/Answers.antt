use Rattle.core_syntax.proofs.Shallowness.{shallow_popped, shallow_taken}
use Rattle.core_syntax.proofs.stack.Stack.pop.Goals as goal

pub invariant_of-self : goal.invariant_of-self
invariant_of-self c = shallow_popped c.pop.result c.self.inside.entries c.pop.new.self c.pop.ensures c.self.invariant

pub returns-clause-shallow : goal.returns-clause-shallow
returns-clause-shallow c =
    shallow_taken c.pop.result c.self.inside.entries c.pop.new.self c.pop.ensures c.self.invariant
