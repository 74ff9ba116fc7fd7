-- What a run has to keep of the past: values of each stream, and panes of each window.
use Rattle.std.specs.Prelude.{ℕ, ◌≡◌, ◌≤◌, ◌+◌, ◌*◌, ◌/◌, ◌%◌, List, [], ◌∷◌, Option, Some, if◌then◌else◌, length, max, nat_eq, slice_get}
use Rattle.std.specs.Int.{IsGcd}
use Rattle.lola_value.specs.Ratio.{Ratio}
use Rattle.lola_value.specs.Rate.{period_over}
use Rattle.lola_model.specs.Model.{eval_pacing, spawn_pacing, close_pacing}
use Rattle.lola_model.specs.Parts.{listed_spec}
use Rattle.lola_model.specs.declared.expr.Access.{Access}
use Rattle.lola_model.specs.declared.expr.Access.TheVariants as access
use Rattle.lola_model.specs.declared.expr.Expr.{Expr}
use Rattle.lola_model.specs.declared.expr.Expr.TheVariants.{Read}
use Rattle.lola_model.specs.declared.spec.Spec.{Spec}
use Rattle.lola_model.specs.declared.spec.Part.{Part}
use Rattle.lola_model.specs.declared.spec.Part.TheVariants as part
use Rattle.lola_model.specs.declared.spec.WindowSpec.{WindowSpec}
use Rattle.lola_model.specs.declared.pacing.Pacing.{Pacing}
use Rattle.lola_model.specs.declared.pacing.Pacing.TheVariants.{Periodic}
use Rattle.lola_model.specs.declared.pacing.ClausePacings.{ClausePacings}
use Rattle.lola_model.specs.declared.plan.Plan.{Plan}
use Rattle.lola_model.specs.declared.plan.PaneSize.{PaneSize}

-- by how many values an access goes back
abbrev pub offset_by : Access → List ℕ
offset_by (access.Offset k) = k ∷ []
offset_by _ = []

-- the offset of an expression that is itself an access of stream n
abbrev pub offset_onto : ℕ → Expr → List ℕ
offset_onto n (Read place m how args) = if nat_eq m n then offset_by how else []
offset_onto n _ = []

-- all offsets onto stream n, of all parts of all clauses
abbrev pub offsets_onto : ℕ → Spec → List ℕ
offsets_onto n spec = listed_spec (offset_onto n) spec

-- the greatest of some offsets, 0 where there is none
abbrev pub greatest_offset : List ℕ → ℕ
greatest_offset [] = 0
greatest_offset (k ∷ ks) = max k (greatest_offset ks)

-- of stream n so many values are kept: one, and as many more as the greatest offset onto it
abbrev pub IsKept : Spec → ℕ → ℕ → Type 0
IsKept spec n k = k ≡ 1 + greatest_offset (offsets_onto n spec)

-- the panes of a window over a length of time, in a clause of this rate: the period is a whole number of
-- nanoseconds, a pane is the greatest common divisor of period and length, and so many panes make the length
pub record ArePanes (r : Ratio) (over : ℕ) (p : PaneSize) : Type 0 where
  pub whole : period_over r % r.num ≡ 0
  pub pane : IsGcd (period_over r / r.num) over p.pane
  pub count : p.count * p.pane ≡ over

-- a window has panes where its clause is periodic
abbrev pub ArePanesOf : Option Pacing → ℕ → Option PaneSize → Type 0
ArePanesOf (Some (Periodic r)) over (Some p) = ArePanes r over p
ArePanesOf _ over _ = ⊥

-- the pacing of a clause of stream n
abbrev pub pacing_at : List ClausePacings → ℕ → Part → Option Pacing
pacing_at ps n part.Spawn = spawn_pacing (slice_get ps n)
pacing_at ps n part.Eval = eval_pacing (slice_get ps n)
pacing_at ps n part.Close = close_pacing (slice_get ps n)

-- a plan's bounds are those of its streams and of its windows, none of which has more than 65,536 panes
pub record HasBounds (plan : Plan) : Type 0 where
  pub kept_count : length plan.kept ≡ length plan.spec.streams
  pub kept : (n k : ℕ) → slice_get plan.kept n ≡ Some k → IsKept plan.spec n k
  pub pane_count : length plan.panes ≡ length plan.spec.windows
  pub panes : (i : ℕ) (w : WindowSpec) → slice_get plan.spec.windows i ≡ Some w → ArePanesOf (pacing_at plan.pacings w.stream w.part) w.over (slice_get plan.panes i)
  pub few : (i : ℕ) (p : PaneSize) → slice_get plan.panes i ≡ Some p → p.count ≤ 65536
