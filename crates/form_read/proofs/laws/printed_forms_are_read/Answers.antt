use Rattle.form_read.proofs.FormsRead.{printed_is_form}
use Rattle.form_read.proofs.laws.printed_forms_are_read.Goals as goal

pub returns : goal.returns
returns c indent t r b l f g k = printed_is_form indent t r b l f g k
