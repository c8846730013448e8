use Rattle.std.proofs.Common.{◌≡◌, [], ◌∷◌, ◌+◌, drop, arith}
use Rattle.std.proofs.lemmas.Grind.{common_steps}
use Rattle.term_text.specs.TermText.{texts}
use Rattle.beam_table.specs.View.{segment_view}
use Rattle.beam_table.specs.declared.operand.Segment.{Segment}
use Rattle.insn_text.specs.Literals.{source_normal}
use Rattle.insn_text.proofs.Kept.{parts_kept}
use Rattle.insn_text.proofs.Loops.{listed, listed_one, more, done}
use Rattle.insn_text.proofs.ListedItems.{segment_on, put_segments_steps}
use Rattle.insn_text.proofs.items.put_segments.Goals as goal

pub put_segment-requires : goal.put_segment-requires
put_segment-requires c =
    let cons : drop c.loop-segment.segment-index c.args.segments.now
    ≡ c.segment-item.result ∷ drop (c.loop-segment.segment-index + 1) c.args.segments.now = grind
    (arith, common_steps) in
    parts_kept source_normal (λ (g : Segment). g.value ∷ g.size
    ∷ []) c.args.segments.now c.loop-segment.segment-index c.segment-item.result
    _ cons c.requires

pub loop-segment-preserved : goal.loop-segment-preserved
unfolding texts
loop-segment-preserved c =
    let cons : drop c.loop-segment.segment-index c.args.segments.now
    ≡ c.segment-item.result ∷ drop (c.loop-segment.segment-index + 1) c.args.segments.now = grind
    (arith, common_steps) in
    more (listed segment_on segment_view) (listed_one segment_on segment_view) put_segments_steps _ _ _ _ _ _ _ cons
    c.in_ok-put_segment.ensures c.loop-segment.invariant

pub returns : goal.returns
returns c =
    let none : drop c.loop-segment.segment-index c.args.segments.now ≡ [] = grind (arith, common_steps) in
    done (listed segment_on segment_view)
    (listed_one segment_on segment_view) put_segments_steps _ _ _ _ none c.loop-segment.invariant
