use Rattle.std.proofs.Common.{◌≡◌, chars, IsUtf8}
use Rattle.core_form.specs.SourceTree.{is_variable_name}
use Rattle.core_syntax.specs.TokenKinds.{is_name_rest}
use Rattle.core_syntax.proofs.kinds.is_variable_name.Given as goal

abbrev pub invariant-loop-c : goal.invariant-loop-c
invariant-loop-c l = record {
  named : is_name_rest l.begun (chars l.c-iterator.rest.now) ≡ is_variable_name l.name;
  utf8 : IsUtf8 l.c-iterator.rest.now;
}
