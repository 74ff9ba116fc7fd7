-- The first deadline whose step comes next, by what is known between steps.
use Rattle.std.specs.Prelude.{ℕ, ◌+◌, List, [], ◌∷◌, Option, Some, None, ◌||◌, if◌then◌else◌, slice_get}
use Rattle.std.specs.Option.{option_and_then}
use Rattle.lola_value.specs.Ratio.{Ratio}
use Rattle.lola_value.specs.Times.{up_to_latest}
use Rattle.lola_model.specs.NextStep.{earlier, first_due, is_local, local_rates}
use Rattle.lola_model.specs.Steps.{rate_of}
use Rattle.lola_model.specs.declared.pacing.ClausePacings.{ClausePacings}
use Rattle.lola_model.specs.declared.plan.Plan.{Plan}
use Rattle.lola_replay_table.specs.declared.table.KnownLife.{KnownLife}
use Rattle.lola_replay_table.specs.declared.table.KnownStream.{KnownStream}

-- a moment, if it is a time
abbrev pub in_time : Option ℕ → Option ℕ
in_time o = option_and_then up_to_latest o

-- the first deadline, from a moment on, of rates that count from another, if it is a time
abbrev pub timely_due : ℕ → List Ratio → ℕ → Option ℕ
timely_due counted rates from = in_time (first_due counted rates from)

-- of instances, or of others before
abbrev pub due_of_lives : List Ratio → ℕ → Option ℕ → List KnownLife → Option ℕ
due_of_lives rates from best [] = best
due_of_lives rates from best (l ∷ ls) = due_of_lives rates from (earlier best (timely_due l.born rates from)) ls

-- of a stream whose clauses have these pacings
abbrev pub due_of_stream : Option ClausePacings → ℕ → List KnownLife → Option ℕ
due_of_stream None from ls = None
due_of_stream (Some c) from ls = if is_local c.eval || is_local c.close then due_of_lives (local_rates (Some c)) from None ls else None

-- of clauses that count from the start
abbrev pub clauses_due : ℕ → ℕ → List ClausePacings → Option ℕ
clauses_due start from [] = None
clauses_due start from (c ∷ cs) =
    earlier (timely_due start (rate_of c.spawn) from) (earlier (timely_due start (rate_of c.eval) from) (earlier (timely_due start (rate_of c.close) from) (clauses_due start from cs)))

module _ (plan : Plan) (from : ℕ) where
  -- of all instances, from stream n on
  abbrev pub due_of_known : ℕ → List KnownStream → Option ℕ
  due_of_known n [] = None
  due_of_known n (k ∷ ks) = earlier (due_of_stream (slice_get plan.pacings n) from k.lives) (due_of_known (n + 1) ks)

  -- of these and of the rates that count from the start
  abbrev pub known_due : ℕ → List KnownStream → Option ℕ
  known_due start known = earlier (clauses_due start from plan.pacings) (due_of_known 0 known)
