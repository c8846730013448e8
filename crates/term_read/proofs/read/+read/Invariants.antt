use Rattle.std.proofs.Common.{◌≡◌, ◌≤◌, ◌+◌, ◌*◌, length, map}
use Rattle.erl_term.specs.View.{view, pair_view}
use Rattle.term_read.specs.Reading.{before, items_of, pair_by, read_by}
use Rattle.erl_term.specs.WellRows.{AreWellFormed, PairsWellFormed}
use Rattle.term_read.proofs.read.+read.Given as goal

abbrev pub decreases-read_at : goal.decreases-read_at
decreases-read_at l = 10 * l.depth

abbrev pub decreases-form : goal.decreases-form
decreases-form l = 10 * l.depth + 7

abbrev pub decreases-hash_form : goal.decreases-hash_form
decreases-hash_form l = 10 * l.depth + 6

abbrev pub decreases-fun_form : goal.decreases-fun_form
decreases-fun_form l = 10 * l.depth + 5

abbrev pub decreases-map_form : goal.decreases-map_form
decreases-map_form l = 10 * l.depth + 4

abbrev pub decreases-tuple_form : goal.decreases-tuple_form
decreases-tuple_form l = 10 * l.depth + 4

abbrev pub decreases-row : goal.decreases-row
decreases-row l = 10 * l.depth + 3

abbrev pub decreases-list_form : goal.decreases-list_form
decreases-list_form l = 10 * l.depth + 3

abbrev pub decreases-pair_row : goal.decreases-pair_row
decreases-pair_row l = 10 * l.depth + 3

abbrev pub decreases-pairs : goal.decreases-pairs
decreases-pairs l = 10 * l.depth + 2

abbrev pub decreases-pair : goal.decreases-pair
decreases-pair l = 10 * l.depth + 1

abbrev pub decreases-list_from : goal.decreases-list_from
decreases-list_from l = 10 * l.depth + 2

abbrev pub decreases-list_end : goal.decreases-list_end
decreases-list_end l = 10 * l.depth + 1

abbrev pub decreases-tail_at : goal.decreases-tail_at
decreases-tail_at l = 10 * l.depth

abbrev pub decreases-tail_form : goal.decreases-tail_form
decreases-tail_form l = 10 * l.depth + 8

abbrev pub decreases-items : goal.decreases-items
decreases-items l = 10 * l.depth + 1

abbrev pub invariant-items-loop-terms : goal.invariant-items-loop-terms
invariant-items-loop-terms l = record {
  read : before (map view l.terms) (items_of (read_by l.depth) l.rest)
      ≡ before (map view l.fn.found) (items_of (read_by l.depth) l.fn.cs);
  well_formed : AreWellFormed l.terms;
  fits : length l.rest ≤ length l.fn.cs;
}

abbrev pub decreases-items-loop-terms : goal.decreases-items-loop-terms
decreases-items-loop-terms l = length l.rest

abbrev pub invariant-pairs-loop-found : goal.invariant-pairs-loop-found
invariant-pairs-loop-found l = record {
  read : before (map pair_view l.found) (items_of (pair_by (read_by l.depth)) l.rest)
      ≡ items_of (pair_by (read_by l.depth)) l.fn.cs;
  well_formed : PairsWellFormed l.found;
  fits : length l.rest ≤ length l.fn.cs;
}

abbrev pub decreases-pairs-loop-found : goal.decreases-pairs-loop-found
decreases-pairs-loop-found l = length l.rest
