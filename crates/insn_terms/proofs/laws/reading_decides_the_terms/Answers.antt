use Rattle.insn_terms.proofs.InsnsRead.{insn_sound, insn_complete}
use Rattle.insn_terms.proofs.laws.reading_decides_the_terms.Goals as goal

pub returns : goal.returns
returns c t i f r = (λ h. insn_complete t i h, λ e. insn_sound t i (record { fits = f; rises = r }) e)
