use Rattle.std.proofs.Common.{List, ℕ, ◌++◌, ◌∙◌, ap}
use Rattle.lola_save_text.specs.JournalStates.{state_of}
use Rattle.lola_save_text.specs.Lines.{state_text}
use Rattle.lola_monitor.proofs.saving.state_of_engine.Goals as goal

pub returns : goal.returns
returns c before journal stands =
    let e = c.args.engine.now.state in
    c.in_ok-save.ensures.ok before journal stands ∙ ap (λ (l : List ℕ). l ++ state_text c.args.specification.now e.plan (state_of e.plan e.given_start journal)) c.in_ok-text.ensures
