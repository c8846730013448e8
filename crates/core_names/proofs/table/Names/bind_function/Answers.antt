use Rattle.std.proofs.Common.{sym, subst}
use Rattle.std.specs.Map.{lookup}
use Rattle.core_names.specs.Table.{IsTable}
use Rattle.indexmap.specs.IndexMap.{get}
use Rattle.erl_base.specs.Names.{same_name, same_key}
use Rattle.core_names.proofs.Rows.{function_bound, function_seen}
use Rattle.core_names.proofs.table.Names.bind_function.Goals as goal

pub invariant_of-self-in-Ok : goal.invariant_of-self-in-Ok
invariant_of-self-in-Ok c =
    function_bound (get same_name c.self.inside.variables) (get same_key c.self.inside.functions)
    (get same_key c.put_function.new.functions) c.self.inside.bindings c.push.new.self c.args.self.now c.args.key.now
    c.in_ok-name.name c.in_ok-copy.copy c.args.site c.len-position.result c.function-before.result c.self.invariant
    c.self.view_is c.in_ok-name.ensures c.in_ok-copy.ensures c.len-position.ensures.value
    c.function-before.ensures.known c.in_ok-push.ensures.ok c.in-Ok.ensures.ok.0

pub invariant_of-self-in-Err : goal.invariant_of-self-in-Err
invariant_of-self-in-Err c =
    subst (λ es. IsTable (get same_name c.self.inside.variables) (λ q. lookup (same_key q) es) c.take_back.new.bindings)
    (sym c.in-Err.ensures.err)
    (subst (λ bs. IsTable (get same_name c.self.inside.variables) (get same_key c.self.inside.functions) bs)
    (sym (c.take_back.ensures c.self.inside.bindings _ c.in_ok-push.ensures.ok)) c.self.invariant)

pub returns-in-Ok-clause-ok : goal.returns-in-Ok-clause-ok
returns-in-Ok-clause-ok c =
    function_seen c.self.inside.bindings c.push.new.self c.args.self.now c.args.key.now c.in_ok-copy.copy c.args.site
    c.function-before.result c.self.view_is c.in_ok-copy.ensures c.in_ok-push.ensures.ok
