use Rattle.lola_save_text.proofs.FirstStates.{first-state, unknown-state}
use Rattle.lola_save_text.proofs.restored.first_state_has_no_values.Goals as goal

pub returns-clause-given : goal.returns-clause-given
returns-clause-given c start journal none = first-state c.args._plan.now start journal none

pub returns-clause-unknown : goal.returns-clause-unknown
returns-clause-unknown c start journal none = unknown-state c.args._plan.now start journal none
