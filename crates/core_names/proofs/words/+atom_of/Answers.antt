use Rattle.std.proofs.Common.{rules, sym, ◌∙◌}
use Rattle.erl_term.specs.declared.term.Term.{the_lemmas}
use Rattle.core_names.proofs.Spelling.{nothing_spelled, list_spelled}
use Rattle.core_names.proofs.words.+atom_of.Goals as goal

pub returns-else-is_empty : goal.returns-else-is_empty
returns-else-is_empty t c = nothing_spelled ∙ sym (list_spelled _ _ _ c.in-List.is (λ e. search (rules, e)))

pub returns-in-Int : goal.returns-in-Int
returns-in-Int t c = nothing_spelled ∙ search (rules, the_lemmas)
