-- What holds where the phase refuses nothing.
use Rattle.std.specs.Prelude.{ℕ, ◌≡◌, List, [], Option, Some, None, All, true, false, slice_get}
use Rattle.lola_value.specs.Ratio.{Ratio}
use Rattle.lola_model.specs.Bounds.{pacing_at}
use Rattle.lola_model.specs.Named.{IsNamed, all_streams, has_clause, is_stream_paced_in_range}
use Rattle.lola_model.specs.Typed.{IsTyped}
use Rattle.lola_model.specs.WindowRefusals.{IsFineEnough}
use Rattle.lola_model.specs.declared.pacing.ClausePacings.{ClausePacings}
use Rattle.lola_model.specs.declared.pacing.Pacing.TheVariants.{Periodic}
use Rattle.lola_model.specs.declared.spec.WindowSpec.{WindowSpec}
use Rattle.lola_model.specs.declared.spec.Clause.{Clause}
use Rattle.lola_model.specs.declared.spec.Spec.{Spec}
use Rattle.lola_model.specs.declared.spec.Stream.{Stream}
use Rattle.lola_model.specs.PacingFound.{finding_at, is_unpaced}
use Rattle.lola_model.specs.declared.finding.FoundPacing.{FoundPacing}
use Rattle.lola_model.specs.Pacings.{ArePacings, Found, refusals_of}

-- a clause, if there is one, has a pacing
abbrev pub IsPacedWhere : Option Clause → FoundPacing → Type 0
IsPacedWhere None finding = Unit {0}
IsPacedWhere (Some c) finding = is_unpaced finding ≡ false

-- so it is with the three clauses of stream n; a close clause stands beside an eval clause
pub record IsStreamPaced (spawns evals closes : List FoundPacing) (n : ℕ) (s : Stream) : Type 0 where
  pub spawn : IsPacedWhere s.spawn (finding_at spawns n)
  pub eval : IsPacedWhere s.eval (finding_at evals n)
  pub close : has_clause s.eval ≡ true → IsPacedWhere s.close (finding_at closes n)

-- where rates are in their ranges and nothing is refused, each clause has a pacing
pub record PacesAll : Type 0 where
  pub paced : (spec : Spec) (f : Found spec) → all_streams is_stream_paced_in_range spec.streams ≡ true → refusals_of spec f ≡ []
      → (n : ℕ) (s : Stream) → slice_get spec.streams n ≡ Some s → IsStreamPaced f.spawns f.evals f.closes n s

-- a window stands in a clause of a rate, whose period is a whole number of nanoseconds, and has at most 65,536 panes
pub record IsWindowPaced (pacings : List ClausePacings) (w : WindowSpec) : Type 0 where
  pub rate : Ratio
  pub periodic : pacing_at pacings w.stream w.part ≡ Some (Periodic rate)
  pub fine : IsFineEnough rate w.over

-- where these are the pacings and nothing is refused, it is so with each window
pub record PacesWindows : Type 0 where
  pub paced : (spec : Spec) (pacings : List ClausePacings) → IsNamed spec → IsTyped spec → ArePacings spec pacings → All (IsWindowPaced pacings) spec.windows
