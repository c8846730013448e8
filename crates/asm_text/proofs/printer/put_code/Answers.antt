use Rattle.std.proofs.Common.{◌≡◌, [], ◌∷◌, ◌+◌, ◌<◌, true, drop, length, sym, arith, rules}
use Rattle.std.proofs.lemmas.Grind.{common_steps}
use Rattle.asm_text.proofs.Rows.{code_row, code_item, code_steps}
use Rattle.insn_text.proofs.Loops.{more, done}
use Rattle.asm_text.proofs.printer.put_code.Goals as goal

pub put_line-requires : goal.put_line-requires
put_line-requires c t h =
    let below : c.loop-insn.insn-index < length c.args.code.now = search rules in
    c.requires.literals _ t (c.loop-insn.insn-index, below, sym c.insn-item.is) h

pub loop-insn-preserved : goal.loop-insn-preserved
loop-insn-preserved c =
    let cons : drop c.loop-insn.insn-index c.args.code.now
    ≡ c.insn-item.result ∷ drop (c.loop-insn.insn-index + 1) c.args.code.now = grind (arith, common_steps) in
    more (code_row) (code_item) (code_steps) _ _ _ true _ _ _ cons
    c.in_ok-put_line.ensures c.loop-insn.invariant

pub returns : goal.returns
returns c =
    let none : drop c.loop-insn.insn-index c.args.code.now ≡ [] = grind (arith, common_steps) in
    done (code_row) (code_item) (code_steps) _ true _ _ none c.loop-insn.invariant
