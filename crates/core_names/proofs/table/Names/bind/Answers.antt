use Rattle.std.proofs.Common.{sym, subst}
use Rattle.std.specs.Map.{lookup}
use Rattle.core_names.specs.Table.{IsTable}
use Rattle.indexmap.specs.IndexMap.{get}
use Rattle.erl_base.specs.Names.{same_name, same_key}
use Rattle.core_names.proofs.Rows.{variable_bound, variable_seen}
use Rattle.core_names.proofs.table.Names.bind.Goals as goal

pub invariant_of-self-in-Ok : goal.invariant_of-self-in-Ok
invariant_of-self-in-Ok c =
    variable_bound (get same_name c.self.inside.variables) (get same_name c.put_variable.new.variables)
    (get same_key c.self.inside.functions) c.self.inside.bindings c.push.new.self c.args.self.now c.args.name.now
    c.in_ok-key.key c.in_ok-copy.copy c.len-number.result c.binding-before.result c.self.invariant c.self.view_is
    c.in_ok-key.ensures c.in_ok-copy.ensures c.binding-before.ensures c.in_ok-push.ensures.ok c.in-Ok.ensures.ok.0

pub invariant_of-self-in-Err : goal.invariant_of-self-in-Err
invariant_of-self-in-Err c =
    subst (λ es. IsTable (λ q. lookup (same_name q) es) (get same_key c.self.inside.functions) c.take_back.new.bindings)
    (sym c.in-Err.ensures.err)
    (subst (λ bs. IsTable (get same_name c.self.inside.variables) (get same_key c.self.inside.functions) bs)
    (sym (c.take_back.ensures c.self.inside.bindings _ c.in_ok-push.ensures.ok)) c.self.invariant)

pub returns-in-Ok-clause-ok : goal.returns-in-Ok-clause-ok
returns-in-Ok-clause-ok c =
    variable_seen c.self.inside.bindings c.push.new.self c.args.self.now c.args.name.now c.in_ok-copy.copy
    c.len-number.result c.binding-before.result c.self.view_is c.in_ok-copy.ensures c.len-number.ensures.value
    c.in_ok-push.ensures.ok
