use Rattle.std.proofs.Common.{◌≡◌, ℕ, List, ◌++◌, true, drop}
use Rattle.asm_text.proofs.Rows.{attribute_row}
use Rattle.asm_text.proofs.first.put_attributes.Given as goal

abbrev pub invariant-loop-attribute : goal.invariant-loop-attribute
invariant-loop-attribute l = (r : List ℕ) → l.out ++ attribute_row l.first (drop l.attribute-index l.attributes) r
    ≡ l.initial.out ++ attribute_row true l.attributes r
