use Rattle.form_read.proofs.FormsRead.{end_sound, end_complete, form_sound, form_complete}
use Rattle.form_read.proofs.laws.next_form_decides.Goals as goal

pub returns-clause-end : goal.returns-clause-end
returns-clause-end c cs = (end_sound cs, end_complete cs)

pub returns-clause-form : goal.returns-clause-form
returns-clause-form c cs ds t = (form_sound cs ds t, form_complete cs ds t)
