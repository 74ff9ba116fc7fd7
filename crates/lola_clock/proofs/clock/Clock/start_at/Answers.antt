use Rattle.std.proofs.Common.{◌≡◌, ◌∙◌, ap, arith, subst, sym, Option, Some, None, ℕ, false}
use Rattle.lola_clock.specs.Clock.{ClockState}
use Rattle.lola_clock.specs.Timers.{AreTimers, AreUsable, timer_rates}
use Rattle.lola_clock.proofs.Setting.{new_usable, now_set, same_rates}
use Rattle.lola_clock.proofs.clock.Clock.start_at.Goals as goal

pub set_timers-self-inside-requires-clause-usable : goal.set_timers-self-inside-requires-clause-usable
set_timers-self-inside-requires-clause-usable c =
    let not_started : c.self.inside.start ≡ None = ap (λ (s : ClockState). s.start) c.self.view_is ∙ c.requires.once in
    let new = subst (λ (o : Option ℕ). AreTimers o c.self.inside.passed c.self.inside.timers.items c.self.inside.least) not_started c.self.invariant in
    subst (AreUsable false c.args.start c.args.start) (sym new.0) (new_usable c.args.start c.args.start (timer_rates c.self.inside.timers.items))

pub invariant_of-self : goal.invariant_of-self
invariant_of-self c =
    now_set c.args.start c.args.start c.self.inside.timers.items c.set_timers-self-inside.new.timers.items c.set_timers-self-inside.result (omega arith) c.requires.in_time
    c.set_timers-self-inside.ensures.rates c.set_timers-self-inside.ensures.set c.set_timers-self-inside.ensures.least

pub returns : goal.returns
returns c =
    ap (λ rs. record { rates = rs; start = Some c.args.start; passed = c.args.start })
    (same_rates c.args.start c.args.start c.self.inside.timers.items c.set_timers-self-inside.new.timers.items c.set_timers-self-inside.ensures.set
    ∙ ap (λ (s : ClockState). s.rates) c.self.view_is)
