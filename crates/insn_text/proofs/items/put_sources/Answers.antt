use Rattle.std.proofs.Common.{◌≡◌, [], ◌∷◌, ◌+◌, drop, arith}
use Rattle.std.proofs.lemmas.Grind.{common_steps}
use Rattle.term_text.specs.TermText.{texts}
use Rattle.beam_table.specs.View.{source_view}
use Rattle.insn_text.proofs.Loops.{listed, listed_one, more, done}
use Rattle.insn_text.proofs.ListedItems.{source_on, put_sources_steps}
use Rattle.insn_text.proofs.items.put_sources.Goals as goal

pub loop-value-preserved : goal.loop-value-preserved
unfolding texts
loop-value-preserved c =
    let cons : drop c.loop-value.value-index c.args.values.now
    ≡ c.value-item.result ∷ drop (c.loop-value.value-index + 1) c.args.values.now = grind (arith, common_steps) in
    more (listed source_on source_view) (listed_one source_on source_view) put_sources_steps _ _ _ _ _ _ _ cons
    c.in_ok-put_singles.ensures c.loop-value.invariant

pub returns : goal.returns
returns c =
    let none : drop c.loop-value.value-index c.args.values.now ≡ [] = grind (arith, common_steps) in
    done (listed source_on source_view)
    (listed_one source_on source_view) put_sources_steps _ _ _ _ none c.loop-value.invariant
