use Rattle.lola_save_text.proofs.AcceptedForms.{accepted-storable}
use Rattle.lola_save_text.proofs.SameRuns.{one-state}
use Rattle.lola_save_text.proofs.law.one_state.Goals as goal

pub returns : goal.returns
returns c = λ spec s t. one-state spec c.args._plan.now s t (accepted-storable c.args._plan.now c.requires)
