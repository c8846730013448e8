use Rattle.term_read.proofs.FormSound.{reads_sound}
use Rattle.term_read.proofs.FormComplete.{reads_complete}
use Rattle.term_read.proofs.laws.reading_decides_the_grammar.Goals as goal

pub returns : goal.returns
returns c d cs ds t = ((reads_sound d).reads cs ds t, (reads_complete d).read cs ds t)
