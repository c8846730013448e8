use Rattle.std.proofs.Common.{◌≡◌, drop, map, IsTrue}
use Rattle.core_form.specs.View.{pattern_view, patterns}
use Rattle.core_grammar.specs.ModuleOf.{character_patterns}
use Rattle.core_actions.specs.Joining.{patterns_before}
use Rattle.core_actions.specs.SoundTerms.{all_sound, pattern_sound}
use Rattle.core_actions.proofs.pattern_lists.code_patterns.Given as goal

abbrev pub invariant-loop-code : goal.invariant-loop-code
invariant-loop-code l = record {
  read : patterns_before (patterns (map pattern_view l.items)) (character_patterns l.fn.place
      (drop l.code-index l.codes))
      ≡ character_patterns l.fn.place l.codes;
  sound : IsTrue (all_sound (map pattern_sound l.items));
}
