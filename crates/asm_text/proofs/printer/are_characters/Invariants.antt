use Rattle.std.proofs.Common.{◌≡◌, drop}
use Rattle.beam_table.specs.FormBounds.{is_text}
use Rattle.asm_text.proofs.printer.are_characters.Given as goal

abbrev pub invariant-loop-c : goal.invariant-loop-c
invariant-loop-c l = is_text (drop l.c-index l.text) ≡ is_text l.text
