use Rattle.core_actions.proofs.Appending.{row_added, row_sound}
use Rattle.core_actions.proofs.rows.with_row.Goals as goal

pub returns-clause-value : goal.returns-clause-value
returns-clause-value c = row_added c.args.items c.args.rows _ c.in_ok-push.ensures.ok

pub returns-clause-sound : goal.returns-clause-sound
returns-clause-sound c =
    row_sound c.args.items c.args.rows _ c.in_ok-push.ensures.ok c.requires.items c.requires.rows
