-- The state of a run that took no row.
use Rattle.std.specs.Prelude.{ℕ, List, [], ◌∷◌, Option, None, if◌then◌else◌, map}
use Rattle.lola_model.specs.declared.plan.Plan.{Plan}
use Rattle.lola_save_text.specs.Forms.{forms_of}
use Rattle.lola_save_text.specs.declared.forms.StreamForm.{StreamForm}
use Rattle.lola_save_text.specs.declared.state.SavedInstance.{SavedInstance}
use Rattle.lola_save_text.specs.declared.state.SavedState.{SavedState}

-- an instance of a stream without a spawn clause that was given no value
abbrev pub without_values : StreamForm → SavedInstance
without_values form = record { born = None; params = []; ring = []; panes = map (λ w. None) form.windows }

-- the instances of a stream to begin with
abbrev pub first_instances : StreamForm → List SavedInstance
first_instances form = if form.spawns then [] else without_values form ∷ []

-- the state where a start is given or not
abbrev pub first_state : Plan → Option ℕ → SavedState
first_state plan start = record { start = start; last = None; steps = 0; streams = map first_instances (forms_of plan) }
