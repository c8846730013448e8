use Rattle.std.proofs.Common.{◌≡◌, ◌-◌, ◌≤◌, length, drop}
use Rattle.core_chars.specs.Quoted.{quoted_text}
use Rattle.core_chars.proofs.Quoting.{behind}
use Rattle.core_chars.proofs.quoted.quoted_in.Given as goal

abbrev pub invariant-loop-at : goal.invariant-loop-at
invariant-loop-at l = record {
  fits : l.at ≤ length l.rest;
  rest : behind l.text.items l.at (quoted_text l.quote (drop l.at l.rest) 0) ≡ quoted_text l.quote l.rest 0;
}

abbrev pub decreases-loop-at : goal.decreases-loop-at
decreases-loop-at l = length l.rest - l.at
