use Rattle.std.proofs.Common.{rules, ◌∙◌}
use Rattle.core_form.specs.declared.tree.ExprForm.{the_lemmas}
use Rattle.core_names.proofs.Spelling.{nothing_spelled}
use Rattle.core_names.proofs.words.literal_name.Goals as goal

pub returns : goal.returns
returns c = nothing_spelled ∙ search (rules, the_lemmas)
