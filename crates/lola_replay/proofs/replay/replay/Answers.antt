use Rattle.std.proofs.Common.{ℕ, Option, subst}
use Rattle.lola_replay.specs.Running.{IsTraceTaken}
use Rattle.lola_replay.proofs.FindingLemmas.{finds-ok}
use Rattle.lola_replay.proofs.replay.replay.Goals as goal

pub returns-in-Some : goal.returns-in-Some
returns-in-Some c =
    subst (λ (o : Option ℕ). IsTraceTaken c.args.plan.now c.args.start c.args.show c.args.verdicts.now c.args.trace.now o c.take_lines.new.run) c.in-Some.is
    (c.in_ok-line.ensures.taken c.args.start c.args.verdicts.now c.in_ok-run.ensures.on)

pub returns : goal.returns
returns c =
    let whole = subst (λ (o : Option ℕ). IsTraceTaken c.args.plan.now c.args.start c.args.show c.args.verdicts.now c.args.trace.now o c.take_lines.new.run) c.in-None.is
    (c.in_ok-line.ensures.taken c.args.start c.args.verdicts.now c.in_ok-run.ensures.on) in
    finds-ok (record { plan = c.args.plan.now; start = c.args.start; show = c.args.show; trace = c.args.trace.now; verdicts = c.args.verdicts.now }) whole.journal whole.right
    c.finding_of_verdicts.result (c.finding_of_verdicts.ensures c.args.start c.args.verdicts.now whole.journal whole.on)
