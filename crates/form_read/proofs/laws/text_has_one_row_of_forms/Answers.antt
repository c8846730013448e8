use Rattle.form_read.proofs.FormsRead.{same_forms}
use Rattle.form_read.proofs.laws.text_has_one_row_of_forms.Goals as goal

pub returns : goal.returns
returns c total cs fs gs h k = same_forms total cs fs h gs k
