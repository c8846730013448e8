use Rattle.ssa_form.proofs.WholeBodies.{grown}
use Rattle.ssa_form.proofs.body.Body.add_block.Goals as goal

pub returns-clause-whole : goal.returns-clause-whole
returns-clause-whole c = λ w.
    grown _ _ _ _ _ c.in_ok-id.ensures.updates c.in_ok-chain.ensures.ok_id c.in_ok-chain.ensures.ok_chains
    c.in_ok-chain.ensures.ok_sets w
