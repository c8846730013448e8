use Rattle.pass_line.proofs.Names.{same_name-told}
use Rattle.pass_line.proofs.plain.is_same.Goals as goal

pub returns : goal.returns
returns c = same_name-told c.is.result c.args.name.now c.args.other.now c.is.ensures
