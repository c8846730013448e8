use Rattle.std.proofs.Common.{rules, arith}
use Rattle.term_text.proofs.Growth.{on_ok}
use Rattle.term_text.proofs.Walks.{one_digit, two_written}
use Rattle.term_text.proofs.atoms.push_hex.Goals as goal

pub returns-then-byte-lt16 : goal.returns-then-byte-lt16
returns-then-byte-lt16 c = let e = one_digit c.args.byte (omega arith) in search (rules, e)

pub returns : goal.returns
returns c =
    on_ok c.push-3.result
    (two_written _ _ _ c.args.byte _ _ (omega arith) (omega arith) c.hex_digit-2.ensures c.hex_digit-3.ensures
    c.in_ok-push.ensures.ok)
    c.push-3.ensures.ok
