use Rattle.std.proofs.Common.{◌≡◌, [], ◌∷◌, ◌+◌, drop, arith}
use Rattle.std.proofs.lemmas.Grind.{common_steps}
use Rattle.term_text.specs.TermText.{texts}
use Rattle.beam_table.specs.View.{put_view}
use Rattle.beam_table.specs.declared.operand.PutPair.{PutPair}
use Rattle.insn_text.specs.Literals.{source_normal}
use Rattle.insn_text.proofs.Kept.{parts_kept}
use Rattle.insn_text.proofs.Loops.{listed, listed_one, more, done}
use Rattle.insn_text.proofs.ListedItems.{put_on, put_put_pairs_steps}
use Rattle.insn_text.proofs.items.put_put_pairs.Goals as goal

pub put_singles-requires : goal.put_singles-requires
put_singles-requires c =
    let cons : drop c.loop-pair.pair-index c.args.pairs.now
    ≡ c.pair-item.result ∷ drop (c.loop-pair.pair-index + 1) c.args.pairs.now = grind (arith, common_steps) in
    parts_kept source_normal (λ (p : PutPair). p.key ∷ p.value
    ∷ []) c.args.pairs.now c.loop-pair.pair-index c.pair-item.result
    _ cons c.requires

pub loop-pair-preserved : goal.loop-pair-preserved
unfolding texts
loop-pair-preserved c =
    let cons : drop c.loop-pair.pair-index c.args.pairs.now
    ≡ c.pair-item.result ∷ drop (c.loop-pair.pair-index + 1) c.args.pairs.now = grind (arith, common_steps) in
    more (listed put_on put_view) (listed_one put_on put_view) put_put_pairs_steps _ _ _ _ _ _ _ cons
    c.in_ok-put_singles.ensures c.loop-pair.invariant

pub returns : goal.returns
returns c =
    let none : drop c.loop-pair.pair-index c.args.pairs.now ≡ [] = grind (arith, common_steps) in
    done (listed put_on put_view) (listed_one put_on put_view) put_put_pairs_steps _ _ _ _ none c.loop-pair.invariant
