-- A turn of the loop answers the last open question, or puts the one that it waits for behind it.
use Rattle.std.proofs.Common.{◌<◌, ◌++◌, ◌∙◌, List, [], ◌∷◌, Option, Ok, ap, subst, sym}
use Rattle.lola_replay_table.specs.Moments.{the_step}
use Rattle.lola_replay_table.specs.Open.{open_weight}
use Rattle.lola_replay_step.specs.AnsweringOf.{Answered, plan_rank}
use Rattle.lola_replay_step.specs.Stacks.{work_left}
use Rattle.lola_replay_table.specs.declared.question.Question.{Question}
use Rattle.lola_replay_table.specs.declared.table.KnownStream.{KnownStream}
use Rattle.lola_replay_step.proofs.Underway.{IsUnderway, answered, asked, work-answered, work-asked}
use Rattle.lola_replay_step.proofs.questions.answer_question.Goals as goal

pub loop-question-smaller-in-Continue-branch-5 : goal.loop-question-smaller-in-Continue-branch-5
loop-question-smaller-in-Continue-branch-5 c =
    let plan = c.args.plan.now in
    let start = c.args.moment.now.start in
    let step = the_step c.args.moment.now in
    let rank = plan_rank plan in
    let most = rank c.args.first in
    let known = c.loop-question.known in
    let stack = c.in-Some.ensures.items in
    let under = subst (IsUnderway plan start step c.args.first c.args.known.now known) stack c.loop-question.invariant.0 in
    let waits = subst (λ (o : Option Question). Answered plan start step c.in-Some.question known c.answer.new.known (Ok o)) c.in-Some-2.is c.in_ok-next.ensures in
    let items = c.in_ok-push-in-Some-2-2.ensures.items ∙ ap (λ (s : List Question). s ++ c.in-Some-2.next ∷ []) c.in_ok-push-in-Some-2.ensures.items in
    let less =
    work-asked plan start step c.args.first c.args.known.now c.requires.layers known c.pop.new.self.items c.in-Some.question c.in-Some-2.next (under.long ∙ c.loop-question.invariant.1) under waits.1 in
    subst (λ (s : List Question). work_left rank (open_weight c.answer.new.known) most c.push-in-Some-2-2.new.self.items < work_left rank (open_weight known) most s) (sym stack)
    (subst (λ (s : List Question). work_left rank (open_weight c.answer.new.known) most s < work_left rank (open_weight known) most (c.pop.new.self.items ++ c.in-Some.question ∷ [])) (sym items)
    (subst (λ (ks : List KnownStream).
    work_left rank (open_weight ks) most ((c.pop.new.self.items ++ c.in-Some.question ∷ []) ++ c.in-Some-2.next ∷ [])
    < work_left rank (open_weight known) most (c.pop.new.self.items ++ c.in-Some.question ∷ [])) (sym waits.0) less))

pub loop-question-preserved-in-Continue-branch-5 : goal.loop-question-preserved-in-Continue-branch-5
loop-question-preserved-in-Continue-branch-5 c =
    let plan = c.args.plan.now in
    let start = c.args.moment.now.start in
    let step = the_step c.args.moment.now in
    let known = c.loop-question.known in
    let under = subst (IsUnderway plan start step c.args.first c.args.known.now known) c.in-Some.ensures.items c.loop-question.invariant.0 in
    let waits = subst (λ (o : Option Question). Answered plan start step c.in-Some.question known c.answer.new.known (Ok o)) c.in-Some-2.is c.in_ok-next.ensures in
    let items = c.in_ok-push-in-Some-2-2.ensures.items ∙ ap (λ (s : List Question). s ++ c.in-Some-2.next ∷ []) c.in_ok-push-in-Some-2.ensures.items in
    let more =
    asked plan start step c.args.first c.args.known.now c.requires.layers known c.pop.new.self.items c.in-Some.question c.in-Some-2.next (under.long ∙ c.loop-question.invariant.1) under waits.1 in (
      subst (IsUnderway plan start step c.args.first c.args.known.now c.answer.new.known) (sym items)
          (subst (λ (ks : List KnownStream). IsUnderway plan start step c.args.first c.args.known.now ks ((c.pop.new.self.items ++ c.in-Some.question ∷ []) ++ c.in-Some-2.next ∷ [])) (sym waits.0) more),
      c.loop-question.invariant.1,
    )

pub loop-question-smaller : goal.loop-question-smaller
loop-question-smaller c =
    let plan = c.args.plan.now in
    let start = c.args.moment.now.start in
    let step = the_step c.args.moment.now in
    let rank = plan_rank plan in
    let most = rank c.args.first in
    let known = c.loop-question.known in
    let stack = c.in-Some.ensures.items in
    let under = subst (IsUnderway plan start step c.args.first c.args.known.now known) stack c.loop-question.invariant.0 in
    let notes = subst (λ (o : Option Question). Answered plan start step c.in-Some.question known c.answer.new.known (Ok o)) c.in-None.is c.in_ok-next.ensures in
    subst (λ (s : List Question). work_left rank (open_weight c.answer.new.known) most c.pop.new.self.items < work_left rank (open_weight known) most s) (sym stack)
    (work-answered plan start step c.args.first c.args.known.now known c.answer.new.known c.pop.new.self.items c.in-Some.question under notes)

pub loop-question-preserved : goal.loop-question-preserved
loop-question-preserved c =
    let plan = c.args.plan.now in
    let start = c.args.moment.now.start in
    let step = the_step c.args.moment.now in
    let known = c.loop-question.known in
    let under = subst (IsUnderway plan start step c.args.first c.args.known.now known) c.in-Some.ensures.items c.loop-question.invariant.0 in
    let notes = subst (λ (o : Option Question). Answered plan start step c.in-Some.question known c.answer.new.known (Ok o)) c.in-None.is c.in_ok-next.ensures in
    (answered plan start step c.args.first c.args.known.now known c.answer.new.known c.pop.new.self.items c.in-Some.question under notes, c.loop-question.invariant.1)
