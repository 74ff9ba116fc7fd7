-- The questions that are open wait one for the other, and what is known agrees with what the step comes to.
use Rattle.std.proofs.Common.{◌≡◌, length}
use Rattle.lola_replay_table.specs.Moments.{the_step}
use Rattle.lola_replay_table.specs.Open.{open_weight}
use Rattle.lola_replay_step.specs.AnsweringOf.{plan_rank}
use Rattle.lola_replay_step.specs.Stacks.{work_left}
use Rattle.lola_replay_step.proofs.Underway.{IsUnderway}
use Rattle.lola_replay_step.proofs.questions.answer_question.Given as goal

abbrev pub invariant-loop-question : goal.invariant-loop-question
invariant-loop-question l =
    IsUnderway l.plan l.moment.start (the_step l.moment) l.fn.first l.initial.known l.known l.waiting.items
    × (length l.initial.known ≡ length l.plan.spec.streams)

abbrev pub decreases-loop-question : goal.decreases-loop-question
decreases-loop-question l = work_left (plan_rank l.plan) (open_weight l.known) (plan_rank l.plan l.fn.first) l.waiting.items
