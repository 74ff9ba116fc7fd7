use Rattle.std.proofs.Common.{◌≡◌, ◌∙◌, ap, arith, subst, sym, max, Option, ℕ}
use Rattle.lola_clock.specs.Clock.{ClockState}
use Rattle.lola_clock.specs.Timers.{AreSet, AreTimers, timer_rates}
use Rattle.lola_clock.proofs.Setting.{now_set, same_rates, set_usable, still_set}
use Rattle.lola_clock.proofs.clock.Clock.advance.Goals as goal

pub invariant_of-self : goal.invariant_of-self
invariant_of-self c =
    let set : AreSet c.in-Some.start c.self.inside.passed c.self.inside.timers.items c.self.inside.least =
    subst (λ (o : Option ℕ). AreTimers o c.self.inside.passed c.self.inside.timers.items c.self.inside.least) c.in-Some.is c.self.invariant in
    subst (λ (o : Option ℕ). AreTimers o c.args.to c.self.inside.timers.items c.self.inside.least) (sym c.in-Some.is)
    (still_set c.in-Some.start c.self.inside.passed c.args.to c.self.inside.timers.items c.self.inside.least set (omega arith) c.requires.in_time (omega arith))

pub set_timers-self-inside-requires-clause-usable : goal.set_timers-self-inside-requires-clause-usable
set_timers-self-inside-requires-clause-usable c =
    let set : AreSet c.in-Some.start c.self.inside.passed c.self.inside.timers.items c.self.inside.least =
    subst (λ (o : Option ℕ). AreTimers o c.self.inside.passed c.self.inside.timers.items c.self.inside.least) c.in-Some.is c.self.invariant in
    set_usable c.in-Some.start c.self.inside.passed c.args.to set.order (omega arith) c.requires.in_time c.self.inside.timers.items set.rates set.set

pub invariant_of-self-2 : goal.invariant_of-self-2
invariant_of-self-2 c =
    let set : AreSet c.in-Some.start c.self.inside.passed c.self.inside.timers.items c.self.inside.least =
    subst (λ (o : Option ℕ). AreTimers o c.self.inside.passed c.self.inside.timers.items c.self.inside.least) c.in-Some.is c.self.invariant in
    subst (λ (o : Option ℕ). AreTimers o c.args.to c.set_timers-self-inside.new.timers.items c.set_timers-self-inside.result) (sym c.in-Some.is)
    (now_set c.in-Some.start c.args.to c.self.inside.timers.items c.set_timers-self-inside.new.timers.items c.set_timers-self-inside.result (omega arith) c.requires.in_time
    c.set_timers-self-inside.ensures.rates c.set_timers-self-inside.ensures.set c.set_timers-self-inside.ensures.least)

pub returns : goal.returns
returns c =
    let rates : timer_rates c.set_timers-self-inside.new.timers.items ≡ c.args.self.now.rates =
    same_rates c.in-Some.start c.args.to c.self.inside.timers.items c.set_timers-self-inside.new.timers.items c.set_timers-self-inside.ensures.set
    ∙ ap (λ (s : ClockState). s.rates) c.self.view_is in
    let start : c.self.inside.start ≡ c.args.self.now.start = ap (λ (s : ClockState). s.start) c.self.view_is in
    let passed : c.self.inside.passed ≡ c.args.self.now.passed = ap (λ (s : ClockState). s.passed) c.self.view_is in
    let later : c.args.to ≡ max c.args.self.now.passed c.args.to = omega arith in
    cc
