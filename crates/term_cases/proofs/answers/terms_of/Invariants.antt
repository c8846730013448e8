use Rattle.std.proofs.Common.{All}
use Rattle.erl_term.specs.WellFormed.{IsWellFormed}
use Rattle.term_cases.proofs.answers.terms_of.Given as goal

abbrev pub invariant-loop-text : goal.invariant-loop-text
invariant-loop-text l = All IsWellFormed l.terms
