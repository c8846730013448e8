use Rattle.std.proofs.Common.{◌≡◌, map, drop, max}
use Rattle.beam_table.specs.View.{fun_view}
use Rattle.beam_table.specs.ValidModule.{all_labels}
use Rattle.beam_table.specs.ModuleForms.{greatest}
use Rattle.asm_text.proofs.first.greatest_label.Given as goal

abbrev pub invariant-loop-function : goal.invariant-loop-function
invariant-loop-function l = max l.most (greatest (all_labels (map fun_view (drop l.function-index l.functions))))
    ≡ greatest (all_labels (map fun_view l.functions))
