use Rattle.shared_term.proofs.Rows.{tuple_elements, tuple_whole}
use Rattle.shared_term.proofs.value.Value.elements.Goals as goal

pub returns-in-Tuple-clause-elements : goal.returns-in-Tuple-clause-elements
returns-in-Tuple-clause-elements c = tuple_elements _ _ _ _ c.in-Tuple.is c.deref.ensures c.as_slice.ensures

pub returns-in-Tuple-clause-whole : goal.returns-in-Tuple-clause-whole
returns-in-Tuple-clause-whole c = tuple_whole _ _ _ _ c.in-Tuple.is c.deref.ensures c.as_slice.ensures c.requires
