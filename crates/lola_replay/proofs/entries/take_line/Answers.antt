use Rattle.std.proofs.Common.{Option, subst}
use Rattle.lola_model.specs.declared.journal.Entry.{Entry}
use Rattle.lola_replay.specs.Running.{IsJudged}
use Rattle.lola_replay.proofs.entries.take_line.Goals as goal

pub returns-in_ok-take_entry-in-Some-clause-taken : goal.returns-in_ok-take_entry-in-Some-clause-taken
returns-in_ok-take_entry-in-Some-clause-taken c = λ start text journal on.
    let judged = subst (λ (o : Option Entry). IsJudged c.args.course.now.plan.now start journal c.args.line.now o) c.in-Some.is (c.in_ok-entry.ensures.judged start text journal on) in
    record {
      entry = c.in-Some.entry;
      line_of = judged.0;
      right = judged.1;
      on = c.in_ok-take_entry-in-Some.ensures.on start text journal on;
    }

pub returns-in-None-clause-taken : goal.returns-in-None-clause-taken
returns-in-None-clause-taken c = λ start text journal on.
    subst (λ (o : Option Entry). IsJudged c.args.course.now.plan.now start journal c.args.line.now o) c.in-None.is (c.in_ok-entry.ensures.judged start text journal on)
