use Rattle.std.proofs.Common.{◌≡◌, map, drop, max}
use Rattle.beam_table.specs.View.{insn_view}
use Rattle.beam_table.specs.ValidModule.{labels_in}
use Rattle.beam_table.specs.ModuleForms.{greatest}
use Rattle.asm_text.proofs.first.greatest_in.Given as goal

abbrev pub invariant-loop-insn : goal.invariant-loop-insn
invariant-loop-insn l = max l.most (greatest (labels_in (map insn_view (drop l.insn-index l.code))))
    ≡ greatest (labels_in (map insn_view l.code))
