use Rattle.lola_instances.proofs.Beside.{others_stay, these_restored}
use Rattle.lola_instances.proofs.law.other_panes_stay.Goals as goal

pub returns-clause-restored : goal.returns-clause-restored
returns-clause-restored c = λ w i last count parts b same places is h. these_restored c.args._old.now c.args._new.now w i last count parts b same places is h

pub returns-clause-others : goal.returns-clause-others
returns-clause-others c = λ w i last count parts b same places is h v j a e d. others_stay c.args._old.now c.args._new.now w i last count parts b same places is h v j a e d
