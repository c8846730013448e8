use Rattle.std.proofs.Common.{◌≡◌, drop, chars}
use Rattle.std.specs.List.{list_any}
use Rattle.erl_base.specs.Names.{same_name}
use Rattle.term_text.proofs.atoms.is_word_among.Given as goal

abbrev pub invariant-loop-word : goal.invariant-loop-word
invariant-loop-word l = list_any (λ word. same_name word.now (chars l.name)) (drop l.word-index l.words)
    ≡ list_any (λ word. same_name word.now (chars l.name)) l.words
