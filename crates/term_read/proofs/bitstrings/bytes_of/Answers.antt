use Rattle.std.proofs.Common.{◌≡◌, ◌∙◌, ap, ◌*◌, arith}
use Rattle.std.proofs.lemmas.Grind.{common_steps}
use Rattle.erl_term.specs.BitString.{byte_bits}
use Rattle.term_read.proofs.PartBits.{whole_view, whole_full}
use Rattle.term_read.proofs.bitstrings.bytes_of.Goals as goal

pub returns-clause-value : goal.returns-clause-value
returns-clause-value c =
    let same : c.loop-c.bytes ≡ c.args.text.now = grind (arith, common_steps) in
    whole_view c.loop-c.bytes (c.len.result * 8) (omega (arith, c.len.ensures.value)) ∙ ap byte_bits same

pub returns-clause-full : goal.returns-clause-full
returns-clause-full c = whole_full _ (omega (arith, c.len.ensures.value))
