use Rattle.std.proofs.Common.{◌≡◌, drop}
use Rattle.std.specs.List.{list_all}
use Rattle.core_grammar.specs.Standing.{is_code}
use Rattle.core_syntax.proofs.kinds.are_codes.Given as goal

abbrev pub invariant-loop-code : goal.invariant-loop-code
invariant-loop-code l = list_all is_code (drop l.code-index l.codes) ≡ list_all is_code l.codes
