use Rattle.std.proofs.Common.{◌≡◌, ◌<ℤ◌, pos, unsigned_abs, rules}
use Rattle.term_text.proofs.Growth.{magnitude_added}
use Rattle.term_text.proofs.numbers.put_integer.Goals as goal

pub returns : goal.returns
returns c =
    let below : c.args.integer <ℤ pos 0 = search rules in
    let magnitude : c.unsigned_abs-2.result ≡ unsigned_abs c.args.integer = search rules in
    magnitude_added _ _ _ _ _ below magnitude c.in_ok-push_bytes.ensures.joined c.in_ok-put_number.ensures
