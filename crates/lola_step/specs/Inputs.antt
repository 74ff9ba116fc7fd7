-- How the inputs of a step are given their outcomes.
use Rattle.std.specs.Prelude.{ℕ, List, length, slice_get, Option, Some, None, Bool}
use Rattle.lola_value.specs.declared.value.Outcome.{Outcome}
use Rattle.lola_value.specs.declared.value.Outcome.TheVariants as outcome
use Rattle.lola_value.specs.Naming.{Naming}
use Rattle.lola_model.specs.Store.{Memories, Seen, Stands, start_seen}
use Rattle.lola_model.specs.Table.{Step, TableRow}
use Rattle.lola_model.specs.declared.plan.Plan.{Plan}
use Rattle.lola_step_contents.specs.Stages.{Stage, content_so_far, first_stage, layer_stage}
use Rattle.lola_step.specs.Progress.{IsRun}
use Rattle.lola_step.specs.Steps.{ReadFields}

abbrev pub or_missing : Option Outcome → Outcome
or_missing None = outcome.Missing
or_missing (Some o) = o

-- the outcome of the input of a number, missing where there is none
abbrev pub input_outcome_at : List Outcome → ℕ → Outcome
input_outcome_at inputs i = or_missing (slice_get inputs i)

-- in each run: a store that stood at the first stage stands where all inputs have their fields
abbrev pub TakesInputs : Plan → Bool → List Outcome → Memories → Seen → Memories → Seen → Type 0
TakesInputs plan is_row inputs remembers s remembers' s' =
    (names : Naming) (rows : List TableRow) (step : Step) → IsRun plan names rows → ReadFields names inputs is_row step.fields
    → Stands names remembers s (content_so_far plan (start_seen s) rows step first_stage)
    → Stands names remembers' s' (content_so_far plan (start_seen s) rows step (layer_stage (length plan.spec.streams) 0))

-- the inputs below a number have their fields
abbrev pub input_stage : ℕ → Stage
input_stage n = record { inputs = n; layer = 0; spawns = 0; evals = 0 }

-- in each run: a store that stood at the first stage stands where the inputs below a number have their fields
abbrev pub TakesInputsTo : Plan → Bool → List Outcome → ℕ → Memories → Seen → Memories → Seen → Type 0
TakesInputsTo plan is_row inputs n remembers s remembers' s' =
    (names : Naming) (rows : List TableRow) (step : Step) → IsRun plan names rows → ReadFields names inputs is_row step.fields
    → Stands names remembers s (content_so_far plan (start_seen s) rows step first_stage)
    → Stands names remembers' s' (content_so_far plan (start_seen s) rows step (input_stage n))
