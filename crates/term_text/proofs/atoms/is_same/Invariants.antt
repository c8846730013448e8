use Rattle.std.proofs.Common.{◌≡◌, drop}
use Rattle.erl_base.specs.Names.{same_name}
use Rattle.term_text.proofs.atoms.is_same.Given as goal

abbrev pub invariant-loop-i : goal.invariant-loop-i
invariant-loop-i l = same_name (drop l.i l.word) (drop l.i l.name) ≡ same_name l.word l.name
