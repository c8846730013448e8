use Rattle.core_texts.proofs.Answering.{answer_of}
use Rattle.core_texts.proofs.closed_tokens_have_an_answer.Goals as goal

-- src/lib.rt
pub returns : goal.returns
returns c = answer_of
