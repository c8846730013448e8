use Rattle.std.proofs.Common.{◌≡◌, ℕ, List, ◌++◌, true, drop}
use Rattle.beam_table.specs.ModuleForms.{key_term}
use Rattle.insn_text.proofs.Loops.{mapped}
use Rattle.asm_text.proofs.first.put_keys.Given as goal

abbrev pub invariant-loop-key : goal.invariant-loop-key
invariant-loop-key l = (r : List ℕ) → l.out ++ mapped key_term l.first (drop l.key-index l.keys) r
    ≡ l.initial.out ++ mapped key_term true l.keys r
