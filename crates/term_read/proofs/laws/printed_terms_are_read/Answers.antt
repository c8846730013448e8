use Rattle.term_read.proofs.TermsRead.{printed_is_read, printed_is_text}
use Rattle.term_read.proofs.laws.printed_terms_are_read.Goals as goal

pub returns-clause-characters : goal.returns-clause-characters
returns-clause-characters c t r l f g e = printed_is_read t r l f g e

pub returns-clause-bytes : goal.returns-clause-bytes
returns-clause-bytes c bytes t u e l f g = printed_is_text bytes t u e l f g
