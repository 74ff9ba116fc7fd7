-- What holds of the state of a new engine.
use Rattle.std.proofs.Common.{refl, ap, sym, subst, ◌∙◌, arith}
use Rattle.lola_clock.specs.Clock.{ClockState}
use Rattle.lola_model.specs.NextStep.{has_local}
use Rattle.lola_model.specs.Steps.{rates_of}
use Rattle.lola_model.specs.Store.{layout_of, new_seen}
use Rattle.lola_engine.specs.Engines.{AreStarted}
use Rattle.lola_engine.specs.Rates.{HaveDeadlinesOf}
use Rattle.lola_engine.proofs.Ranges.{of_new}
use Rattle.lola_engine.proofs.Sweeping.{count_between}
use Rattle.lola_engine.proofs.engine.new_state.Goals as goal

pub returns : goal.returns
returns c =
    let started_is = ap (λ (z : ClockState). z.start) c.in_ok-clock.ensures in
    record {
      sound = record {
        accepted = c.requires.accepted;
        workers = c.requires.workers;
        rates =
            subst (HaveDeadlinesOf (rates_of c.args.plan.pacings))
            (sym (ap (λ (z : ClockState). z.rates) c.in_ok-clock.ensures ∙ c.as_slice-2.ensures.value))
            (subst (λ ps. HaveDeadlinesOf (rates_of ps) c.in_ok-rates.rates.items) c.as_slice.ensures c.in_ok-rates.ensures);
        local = c.some_of_birth-local.ensures ∙ ap has_local c.as_slice-3.ensures;
        of = of_new c.args.plan;
        started = subst (λ o. AreStarted (new_seen (layout_of c.args.plan)) o) (sym started_is) refl;
        scratch = c.in_ok-scratch.ensures;
        table = c.len-swept.ensures.table;
        texts = c.requires.literals;
        counted = omega arith;
        few_lines = omega arith;
      };
      plan_is = refl;
      given_start_is = refl;
      show_is = refl;
      clock = (started_is, ap (λ (z : ClockState). z.passed) c.in_ok-clock.ensures);
      texts_are = refl;
      swept_is = c.len-swept.ensures.count;
      few_swept = (let most = count_between 0 c.args.texts.given c.args.texts.held c.len-swept.ensures.table.numbers in omega (arith, most, c.len-swept.ensures.count));
      nothing = (refl, refl, refl, refl, refl, refl);
    }
