use Rattle.std.proofs.Common.{◌≡◌, drop, eqb}
use Rattle.std.specs.List.{list_any}
use Rattle.pass_line.proofs.text.has_percent.Given as goal

abbrev pub invariant-loop-b : goal.invariant-loop-b
invariant-loop-b l = list_any (λ b. eqb b 37) (drop l.b-index l.bytes) ≡ list_any (λ b. eqb b 37) l.bytes
