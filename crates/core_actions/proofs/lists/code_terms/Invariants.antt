use Rattle.std.proofs.Common.{◌≡◌, ◌++◌, drop, map}
use Rattle.erl_term.specs.View as Terms
use Rattle.erl_term.specs.WellRows.{AreWellFormed}
use Rattle.core_grammar.specs.ConstantTerms.{character_terms}
use Rattle.core_actions.proofs.lists.code_terms.Given as goal

abbrev pub invariant-loop-code : goal.invariant-loop-code
invariant-loop-code l = record {
  read : map Terms.view l.items ++ character_terms (drop l.code-index l.codes) ≡ character_terms l.codes;
  well_formed : AreWellFormed l.items;
}
