use Rattle.std.proofs.Common.{◌≡◌, take}
use Rattle.kernel_parts.proofs.pattern.+copy.Given as goal

abbrev pub invariant-copy_keys-loop-key : goal.invariant-copy_keys-loop-key
invariant-copy_keys-loop-key l = l.copy ≡ take l.key-index l.keys

abbrev pub invariant-copy_pats-loop-pat : goal.invariant-copy_pats-loop-pat
invariant-copy_pats-loop-pat l = l.copy ≡ take l.pat-index l.pats

abbrev pub invariant-copy_segs-loop-seg : goal.invariant-copy_segs-loop-seg
invariant-copy_segs-loop-seg l = l.copy ≡ take l.seg-index l.segs
