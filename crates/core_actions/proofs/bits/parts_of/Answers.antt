use Rattle.std.proofs.Common.{rules, ◌≡◌, ◌∙◌, ◌++◌}
use Rattle.core_actions.proofs.PartRows.{part_read, last_part_read, all_parts, all_bytes, bytes_and_last, bytes_alone}
use Rattle.core_actions.proofs.bits.parts_of.Goals as goal

pub loop-left-preserved : goal.loop-left-preserved
loop-left-preserved c =
    let cut : c.loop-left.left.now ≡ c.split_at.result.0.now ++ c.split_at.result.1.now = search rules in
    record {
      read = part_read _ _ _ _ _ _ _ c.in_ok-push.ensures.ok c.part_of.ensures.value cut c.loop-left.invariant.read;
      whole = all_bytes _ _ _ c.in_ok-push.ensures.ok c.loop-left.invariant.whole
          (c.part_of.ensures.size ∙ c.split_at.ensures.front_len);
      sizes = all_parts _ _ _ c.in_ok-push.ensures.ok c.loop-left.invariant.sizes c.part_of.ensures.fits;
    }

pub returns-then-is_empty-clause-whole : goal.returns-then-is_empty-clause-whole
returns-then-is_empty-clause-whole c = bytes_alone c.loop-left.parts c.loop-left.invariant.whole

pub returns-clause-value : goal.returns-clause-value
returns-clause-value c =
    last_part_read _ _ _ _ _ c.in_ok-push-2.ensures.ok c.part_of-2.ensures.value c.loop-left.invariant.read

pub returns-clause-whole : goal.returns-clause-whole
returns-clause-whole c = bytes_and_last _ _ _ c.in_ok-push-2.ensures.ok c.loop-left.invariant.whole
