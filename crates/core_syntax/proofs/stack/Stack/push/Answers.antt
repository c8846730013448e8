use Rattle.core_syntax.proofs.Shallowness.{shallow_pushed}
use Rattle.core_syntax.proofs.stack.Stack.push.Goals as goal

pub invariant_of-self : goal.invariant_of-self
invariant_of-self c =
    shallow_pushed c.push.result c.self.inside.entries c.push.new.self _ c.push.ensures.ok c.push.ensures.err
    c.self.invariant c.requires
