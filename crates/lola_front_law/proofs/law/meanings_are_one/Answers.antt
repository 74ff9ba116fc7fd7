use Rattle.lola_front_law.proofs.law.meanings_are_one.Goals as goal

pub returns : goal.returns
returns c bytes plan other p q =
    let alike = (c.answers_are_one.ensures bytes).one_plan plan other p q in
    record {
      entries = c.entries_are_same.ensures plan other alike;
      models = c.models_are_same.ensures plan other alike;
      verdicts = c.verdicts_are_same.ensures plan other alike;
    }
