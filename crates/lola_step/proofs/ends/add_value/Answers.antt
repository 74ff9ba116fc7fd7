use Rattle.lola_step.proofs.Valued.{fit_pushed}
use Rattle.lola_step.proofs.ends.add_value.Goals as goal

pub returns-in-Value-clause-fit : goal.returns-in-Value-clause-fit
returns-in-Value-clause-fit g c =
    fit_pushed (g.S.StreamStore.seen c.args.store.now).layout c.args.step_values.now.items _ c.push_reserved.new.self.items c.push_reserved.ensures.items
    (record { params = c.params_of.ensures.kinds; well_formed = c.params_of.ensures.places }, tt)
