use Rattle.std.proofs.Common.{◌≡◌, ◌∙◌, List, ap, length, subst}
use Rattle.lola_replay_table.specs.Moments.{the_step}
use Rattle.lola_replay_table.specs.Open.{IsOpen}
use Rattle.lola_replay_table.specs.declared.table.KnownStream.{KnownStream}
use Rattle.lola_replay_step.specs.Rests.{Judged}
use Rattle.lola_replay_step.specs.AnsweringOf.{AnswersAll}
use Rattle.lola_replay_step.proofs.StepEnds.{begun-long, judged-step, ok-any}
use Rattle.lola_replay_step.proofs.whole.answer_step.Goals as goal

pub answer_all-requires-clause-long : goal.answer_all-requires-clause-long
answer_all-requires-clause-long c =
    ap (λ (ks : List KnownStream). length ks) c.in_ok-begin.ensures ∙ begun-long c.args.plan.now c.args.first c.args.moment.now.time c.args.known.now c.requires.long ∙ c.requires.long

pub judge-requires-clause-long : goal.judge-requires-clause-long
judge-requires-clause-long c =
    ap (λ (ks : List KnownStream). length ks) c.as_slice.ensures
    ∙ c.in_ok-answer_all.ensures.long
    ∙ ap (λ (ks : List KnownStream). length ks) c.in_ok-begin.ensures
    ∙ begun-long c.args.plan.now c.args.first c.args.moment.now.time c.args.known.now c.requires.long
    ∙ c.requires.long

pub judge-requires-clause-answered : goal.judge-requires-clause-answered
judge-requires-clause-answered c = λ q opened. c.in_ok-answer_all.ensures.answered q (subst (λ (ks : List KnownStream). IsOpen ks q) c.as_slice.ensures opened)

pub returns-clause-long : goal.returns-clause-long
returns-clause-long c =
    ok-any (length c.answer_all.new.known ≡ length c.args.known.now) c.judge.result
    (c.in_ok-answer_all.ensures.long
    ∙ ap (λ (ks : List KnownStream). length ks) c.in_ok-begin.ensures
    ∙ begun-long c.args.plan.now c.args.first c.args.moment.now.time c.args.known.now c.requires.long)

pub returns-clause-answered : goal.returns-clause-answered
returns-clause-answered c = λ rows is born rests.
    let plan = c.args.plan.now in
    let start = c.args.moment.now.start in
    let step = the_step c.args.moment.now in
    let after = c.answer_all.new.known in
    let settles = subst (λ (ks : List KnownStream). AnswersAll plan start step ks after) c.in_ok-begin.ensures c.in_ok-answer_all.ensures in
    let judged = subst (λ (ks : List KnownStream). Judged plan start step ks c.judge.new.closed.items c.judge.result) c.as_slice.ensures c.judge.ensures in
    judged-step plan c.requires.accepted.acyclic start step rows born c.args.first is c.args.known.now after rests settles c.judge.new.closed.items c.judge.result judged
