use Rattle.std.proofs.Common.{[], ◌∷◌, ◌++◌, ap, ◌∙◌}
use Rattle.indexmap.specs.IndexMap.{get}
use Rattle.erl_base.specs.Names.{same_name, same_key}
use Rattle.core_names.specs.declared.table.Binding.TheVariants.{Variable, Function}
use Rattle.core_names.proofs.Rows.{scope_left, variable_left, variable_stands, function_left, function_stands}
use Rattle.core_names.proofs.table.Names.leave_one.Goals as goal

pub variable_before-requires : goal.variable_before-requires
variable_before-requires c =
    variable_stands (get same_name c.self.inside.variables) (get same_key c.self.inside.functions)
    c.self.inside.bindings c.pop.new.self c.in-Some-Variable.name c.in-Some-Variable.field-0-1
    c.in-Some-Variable.before c.self.invariant (c.in-Some-Variable.ensures
    ∙ ap (λ b. c.pop.new.self ++ b ∷ []) c.in-Some-Variable.field-0-is)

pub invariant_of-self-in-Some-Variable : goal.invariant_of-self-in-Some-Variable
invariant_of-self-in-Some-Variable c =
    variable_left (get same_name c.self.inside.variables) (get same_name c.variable_before.new.variables)
    (get same_key c.self.inside.functions) c.self.inside.bindings c.pop.new.self c.in-Some-Variable.name
    c.in-Some-Variable.field-0-1 c.in-Some-Variable.before c.self.invariant (c.in-Some-Variable.ensures
    ∙ ap (λ b. c.pop.new.self ++ b ∷ []) c.in-Some-Variable.field-0-is)
    c.variable_before.ensures.0

pub returns-in-Some-Variable : goal.returns-in-Some-Variable
returns-in-Some-Variable c =
    scope_left c.self.inside.bindings c.pop.new.self c.args.self.now
    (Variable c.in-Some-Variable.name c.in-Some-Variable.field-0-1 c.in-Some-Variable.before) c.self.view_is
    (c.in-Some-Variable.ensures
    ∙ ap (λ b. c.pop.new.self ++ b ∷ []) c.in-Some-Variable.field-0-is)

pub function_before-requires : goal.function_before-requires
function_before-requires c =
    function_stands (get same_name c.self.inside.variables) (get same_key c.self.inside.functions)
    c.self.inside.bindings c.pop.new.self c.in-Some-Function.key c.in-Some-Function.field-0-1
    c.in-Some-Function.before c.self.invariant (c.in-Some-Function.ensures
    ∙ ap (λ b. c.pop.new.self ++ b ∷ []) c.in-Some-Function.field-0-is)

pub invariant_of-self-in-Some-Function : goal.invariant_of-self-in-Some-Function
invariant_of-self-in-Some-Function c =
    function_left (get same_name c.self.inside.variables) (get same_key c.self.inside.functions)
    (get same_key c.function_before.new.functions) c.self.inside.bindings c.pop.new.self c.in-Some-Function.key
    c.in-Some-Function.field-0-1 c.in-Some-Function.before c.self.invariant (c.in-Some-Function.ensures
    ∙ ap (λ b. c.pop.new.self ++ b ∷ []) c.in-Some-Function.field-0-is)
    c.function_before.ensures.0

pub returns-in-Some-Function : goal.returns-in-Some-Function
returns-in-Some-Function c =
    scope_left c.self.inside.bindings c.pop.new.self c.args.self.now
    (Function c.in-Some-Function.key c.in-Some-Function.field-0-1 c.in-Some-Function.before) c.self.view_is
    (c.in-Some-Function.ensures
    ∙ ap (λ b. c.pop.new.self ++ b ∷ []) c.in-Some-Function.field-0-is)
