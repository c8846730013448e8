use Rattle.std.proofs.Common.{◌≡◌, drop, map}
use Rattle.core_lex.specs.Tokens.{listed_as}
use Rattle.core_lex.proofs.listed.listed_as.Given as goal

abbrev pub invariant-loop-spelling : goal.invariant-loop-spelling
invariant-loop-spelling g l =
    listed_as (map (λ row. (row.0.now, row.1)) (drop l.spelling-index l.table)) l.text
    ≡ listed_as (map (λ row. (row.0.now, row.1)) l.table) l.text
