use Rattle.std.proofs.Common.{sym, ap, ap₂, ◌∙◌, subst, ◌∷◌, ◌+◌, drop, map}
use Rattle.std.proofs.lemmas.List.{drop_more}
use Rattle.erl_term.specs.View.{view}
use Rattle.erl_term.specs.Comparing.{AllNormal}
use Rattle.insn_terms.specs.Reading.{words_in}
use Rattle.operand_read.proofs.ListRows.{others_normal, raised, word_step}
use Rattle.operand_read.proofs.flags.words_in.Goals as goal

pub loop-term-preserved : goal.loop-term-preserved
loop-term-preserved c =
    let cons = drop_more c.args.terms.now c.loop-term.term-index c.term-item.result c.loop-term-test.true
    ∙ ap (λ y. y ∷ drop (c.loop-term.term-index + 1) c.args.terms.now) (sym c.term-item.is) in
    let s = c.loop-term.flags.signed in
    let l = c.loop-term.flags.little in
    let left = map view (drop (c.loop-term.term-index + 1) c.args.terms.now) in
    record {
      normal = others_normal _ _ (subst AllNormal cons c.loop-term.invariant.normal);
      read = c.loop-term.invariant.read ∙ ap (λ ts. raised s l (words_in (map view ts))) cons
          ∙ word_step (view c.term-item.result) left c.in_ok-word.word.now s l c.in_ok-word.ensures.value
          (sym c.is_flag.ensures ∙ c.if-not-is_flag.false)
          ∙ ap₂ (λ a b. raised a b (words_in left)) (sym c.with_word-flags.ensures.signed)
          (sym c.with_word-flags.ensures.little);
    }
