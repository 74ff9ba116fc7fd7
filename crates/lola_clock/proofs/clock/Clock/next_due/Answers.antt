use Rattle.std.proofs.Common.{◌∙◌, ap, subst, None, Some}
use Rattle.lola_clock.specs.Clock.{ClockState, IsClock, IsNextDue, first_to_come}
use Rattle.lola_clock.proofs.Coming.{next_is, next_is_none, least_is_next, none_is_next, is_clock}
use Rattle.lola_clock.proofs.clock.Clock.next_due.Goals as goal

pub returns-then-self-le-LATEST-clause-value : goal.returns-then-self-le-LATEST-clause-value
returns-then-self-le-LATEST-clause-value c =
    next_is c.self.inside.start c.self.inside.passed c.self.inside.timers.items c.self.inside.least c.self.invariant c.if-self-le-LATEST.true ∙ ap first_to_come c.self.view_is

pub returns-then-self-le-LATEST-clause-next : goal.returns-then-self-le-LATEST-clause-next
returns-then-self-le-LATEST-clause-next c =
    subst (λ (s : ClockState). IsNextDue s (Some c.self.inside.least)) c.self.view_is
    (least_is_next c.self.inside.start c.self.inside.passed c.self.inside.timers.items c.self.inside.least c.self.invariant c.if-self-le-LATEST.true)

pub returns-else-self-le-LATEST-clause-value : goal.returns-else-self-le-LATEST-clause-value
returns-else-self-le-LATEST-clause-value c =
    next_is_none c.self.inside.start c.self.inside.passed c.self.inside.timers.items c.self.inside.least c.self.invariant c.if-self-le-LATEST.false ∙ ap first_to_come c.self.view_is

pub returns-else-self-le-LATEST-clause-next : goal.returns-else-self-le-LATEST-clause-next
returns-else-self-le-LATEST-clause-next c =
    subst (λ (s : ClockState). IsNextDue s None) c.self.view_is
    (none_is_next c.self.inside.start c.self.inside.passed c.self.inside.timers.items c.self.inside.least c.self.invariant c.if-self-le-LATEST.false)

pub returns-then-self-le-LATEST-clause-clock : goal.returns-then-self-le-LATEST-clause-clock
returns-then-self-le-LATEST-clause-clock c =
    subst IsClock c.self.view_is (is_clock c.self.inside.start c.self.inside.passed c.self.inside.timers.items c.self.inside.least c.self.invariant)

pub returns-else-self-le-LATEST-clause-clock : goal.returns-else-self-le-LATEST-clause-clock
returns-else-self-le-LATEST-clause-clock c =
    subst IsClock c.self.view_is (is_clock c.self.inside.start c.self.inside.passed c.self.inside.timers.items c.self.inside.least c.self.invariant)
