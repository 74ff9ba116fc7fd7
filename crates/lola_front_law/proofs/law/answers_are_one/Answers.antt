use Rattle.lola_front_law.proofs.AnswerDeciding.{has_one_answer}
use Rattle.lola_front_law.proofs.Deciding.{decided}
use Rattle.lola_front_law.proofs.law.answers_are_one.Goals as goal

pub returns : goal.returns
returns c bytes = has_one_answer bytes (decided bytes)
