use Rattle.lola_replay.proofs.replay.finding_of_verdicts.Goals as goal

pub returns : goal.returns
returns c = λ start text journal on. c.verdicts_finding.ensures start text journal (c.in_ok-fault.ensures.ended start text journal on)
