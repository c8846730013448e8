use Rattle.shared_term.proofs.Rows.{fun_captured, fun_whole}
use Rattle.shared_term.proofs.value.Value.captured.Goals as goal

pub returns-in-Fun-clause-captured : goal.returns-in-Fun-clause-captured
returns-in-Fun-clause-captured c = fun_captured _ _ _ _ c.in-Fun.is c.deref.ensures c.as_slice.ensures

pub returns-in-Fun-clause-whole : goal.returns-in-Fun-clause-whole
returns-in-Fun-clause-whole c = fun_whole _ _ _ _ c.in-Fun.is c.deref.ensures c.as_slice.ensures c.requires
