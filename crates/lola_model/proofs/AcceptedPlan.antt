-- A plan that is accepted: one input alone. So the conditions of acceptance can all be met at once.
use Rattle.std.proofs.Common.{◌≡◌, refl, arith, ℕ, zero, suc, ◌≤◌, List, [], ◌∷◌, Some, length, slice_get}
use Rattle.lola_model.specs.Acceptance.{IsAccepted}
use Rattle.lola_model.specs.Accepted.{HasLayers, IsAcyclic}
use Rattle.lola_model.specs.Bounds.{HasBounds, IsKept}
use Rattle.lola_model.specs.NextStep.{HasRates, local_rates}
use Rattle.lola_model.specs.Graph.{IsWalk}
use Rattle.lola_model.specs.StepOrder.{AreRates}
use Rattle.lola_model.specs.Named.{IsNamed}
use Rattle.lola_model.specs.Pacings.{ArePacings}
use Rattle.lola_model.specs.Typed.{IsTyped}
use Rattle.lola_model.specs.declared.finding.FoundPacing.{FoundPacing}
use Rattle.lola_model.specs.declared.finding.FoundPacing.TheVariants.{Paced, Unpaced}
use Rattle.lola_model.specs.declared.graph.Edge.{Edge}
use Rattle.lola_model.specs.declared.pacing.Pacing.TheVariants.{Event}
use Rattle.lola_model.specs.declared.plan.Plan.{Plan}
use Rattle.lola_model.proofs.Build.{input, on_a, plan_of}

abbrev one_input : Plan
one_input = record (plan_of (input ∷ []) [] (on_a ∷ [])) { kept = 1 ∷ [] }

is_named : IsNamed one_input.spec
is_named = record {
  few_streams = omega arith;
  few_inputs = omega arith;
  few_parameters = refl;
  shapes = refl;
  names = refl;
  numbers = record { clauses = (tt, tt, tt, tt); targets = tt };
  resolved = refl;
  offsets = refl;
  window_numbers = refl;
  window_places = refl;
  texts = refl;
  text_numbers = refl;
  texts_used = λ i lt. absurd (omega (arith, lt));
  ranges = λ e. record { rates = refl; offsets = refl; window_spans = refl };
  formulas = (tt, tt, tt, tt);
}

is_typed : IsTyped one_input.spec
is_typed = record { kinds = refl; typed = refl; constants = refl; ranges = refl; ranged = record { rates = refl; offsets = refl; window_spans = refl } }

abbrev on_rows : FoundPacing
on_rows = Paced (Event (record { 0 = 1 } ∷ []))

are_pacings : ArePacings one_input.spec one_input.pacings
are_pacings = record {
  found = record {
    owns = on_rows ∷ [];
    spawns = Unpaced ∷ [];
    evals = on_rows ∷ [];
    closes = Unpaced ∷ [];
    window_refusals = [];
    are = record { are_own = (refl, tt); are_spawns = (refl, tt); are_evals = (refl, tt); are_closes = (refl, tt); are_window_refusals = tt };
  };
  accepted = refl;
  are = refl;
}

no_walk : (n m : ℕ) (walk : List Edge) → IsWalk [] n walk m → length walk ≤ 0
no_walk n m [] h = omega arith
no_walk n m (e ∷ es) h = absurd (omega (arith, h.0.1))

is_acyclic : IsAcyclic one_input.spec
is_acyclic = record { none = λ n h. let short = no_walk n n h.0 h.1 in omega (arith, short, h.2) }

has_layers : HasLayers one_input
has_layers = record { layers = λ n. record { reached = ([], n, refl, tt, refl); greatest = λ walk to h w. no_walk n to walk h } }

kept_one : (n k : ℕ) → slice_get (1 ∷ []) n ≡ Some k → IsKept one_input.spec n k
kept_one zero k e = cc
kept_one (suc n) k e = absurd (cc)

has_bounds : HasBounds one_input
has_bounds = record { kept_count = refl; kept = kept_one; pane_count = refl; panes = λ i w e. absurd (cc); few = λ i p e. absurd (cc) }

has_rates : HasRates one_input.pacings
has_rates = record { counted_from_start = tt; counted_from_births = no_births }
  where
    no_births : (n : ℕ) → AreRates (local_rates (slice_get one_input.pacings n))
    no_births zero = tt
    no_births (suc n) = tt

is_accepted : IsAccepted one_input
is_accepted = record { named = is_named; typed = is_typed; paced = are_pacings; acyclic = is_acyclic; layers = has_layers; layer_count = refl; bounds = has_bounds; rates = has_rates }
