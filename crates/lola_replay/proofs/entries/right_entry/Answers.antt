use Rattle.std.proofs.Common.{◌∙◌, Option, subst, sym}
use Rattle.lola_model.specs.declared.journal.Entry.{Entry}
use Rattle.lola_report.specs.Journals.{ReadsLine}
use Rattle.lola_replay.proofs.RunningLemmas.{none-by, right-line, some-by, wrong-entry, wrong-fault}
use Rattle.lola_replay.proofs.entries.right_entry.Goals as goal

pub returns-then-has_fault-clause-judged : goal.returns-then-has_fault-clause-judged
returns-then-has_fault-clause-judged c = λ start text journal on.
    wrong-fault c.args.course.now.plan.now c.one_model_of_accepted.ensures.runs start c.args.course.now.show text journal c.args.run.now on c.args.line.now
    (some-by c.args.run.now.fault (sym c.has_fault.ensures ∙ c.if-has_fault.true))

pub returns-then-is_right-clause-judged : goal.returns-then-is_right-clause-judged
returns-then-is_right-clause-judged c = λ start text journal on.
    let plan = c.args.course.now.plan.now in
    let line = c.args.line.now in
    let e = c.in-Some.entry in
    let reads = subst (λ (o : Option Entry). ReadsLine plan line o) c.in-Some.is (c.in_ok-entry.ensures plan (sym (c.as_slice.ensures ∙ c.requires.kinds))) in (
      reads,
      right-line plan c.one_model_of_accepted.ensures.runs start c.args.course.now.show text journal c.args.run.now on line e reads
          (none-by c.args.run.now.fault (sym c.has_fault.ensures ∙ c.if-has_fault.false)) (sym c.is_right.ensures ∙ c.if-is_right.true),
    )

pub returns-else-is_right-clause-judged : goal.returns-else-is_right-clause-judged
returns-else-is_right-clause-judged c = λ start text journal on.
    let plan = c.args.course.now.plan.now in
    let line = c.args.line.now in
    let e = c.in-Some.entry in
    let reads = subst (λ (o : Option Entry). ReadsLine plan line o) c.in-Some.is (c.in_ok-entry.ensures plan (sym (c.as_slice.ensures ∙ c.requires.kinds))) in
    wrong-entry plan c.one_model_of_accepted.ensures.runs start c.args.course.now.show text journal c.args.run.now on line e reads (sym c.is_right.ensures ∙ c.if-is_right.false)
