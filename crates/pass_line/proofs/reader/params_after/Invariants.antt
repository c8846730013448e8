use Rattle.std.proofs.Common.{◌≡◌, ◌≤◌, length, List}
use Rattle.erl_base.specs.declared.ids.Place.{Place}
use Rattle.core_form.specs.declared.module.FunName.{FunName}
use Rattle.core_form.specs.Core as Plain
use Rattle.pass_line.specs.PlainText.{params_after}
use Rattle.pass_line.proofs.reader.params_after.Given as goal

abbrev pub invariant-loop-rest : goal.invariant-loop-rest
invariant-loop-rest l = record {
  same : (ds : List Plain.Def) (f : FunName) (p : Place)
      → params_after ds f p l.xs l.rest ≡ params_after ds f p l.fn.xs l.fn.tokens;
  shorter : length l.rest ≤ length l.fn.tokens;
}

abbrev pub decreases-loop-rest : goal.decreases-loop-rest
decreases-loop-rest l = length l.rest
