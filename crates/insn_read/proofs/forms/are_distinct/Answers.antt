use Rattle.std.proofs.Common.{◌≡◌, sym, ap, ◌∙◌, [], ◌∷◌, ◌+◌, ◌++◌, ◌&&◌, drop, true}
use Rattle.std.proofs.lemmas.List.{drop_more, drop_all}
use Rattle.insn_read.proofs.Distinct.{new_after, distinct_told}
use Rattle.insn_read.proofs.forms.are_distinct.Goals as goal

pub returns-then-not-branch : goal.returns-then-not-branch
returns-then-not-branch c =
    let rest = drop (c.loop-key.key-index + 1) c.args.keys.now in
    let cons = drop_more c.args.keys.now c.loop-key.key-index c.key-item.result c.loop-key-test.true
    ∙ ap (λ y. y ∷ rest) (sym c.key-item.is) in
    sym (sym (distinct_told c.args.keys.now) ∙ c.loop-key.invariant ∙ ap (new_after c.loop-key.seen) cons
    ∙ ap (λ b. b && new_after (c.loop-key.seen ++ c.key-item.result ∷ []) rest)
    (sym c.in_ok-insert.ensures.added ∙ c.if-not-branch.true))

pub returns : goal.returns
returns c =
    let last : new_after c.loop-key.seen (drop c.loop-key.key-index c.args.keys.now) ≡ true =
    ap (new_after c.loop-key.seen) (drop_all c.loop-key.key-index c.args.keys.now c.loop-key-test.false) in
    sym (sym (distinct_told c.args.keys.now) ∙ c.loop-key.invariant ∙ last)
