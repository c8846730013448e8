use Rattle.std.proofs.Common.{◌≡◌, drop, map, IsTrue}
use Rattle.core_form.specs.View.{view, exprs}
use Rattle.core_grammar.specs.ModuleOf.{character_exprs}
use Rattle.core_actions.specs.Joining.{before}
use Rattle.core_actions.specs.SoundTerms.{all_sound, expr_sound}
use Rattle.core_actions.proofs.lists.code_literals.Given as goal

abbrev pub invariant-loop-code : goal.invariant-loop-code
invariant-loop-code l = record {
  read : before (exprs (map view l.items)) (character_exprs l.fn.place (drop l.code-index l.codes))
      ≡ character_exprs l.fn.place l.codes;
  sound : IsTrue (all_sound (map expr_sound l.items));
}
