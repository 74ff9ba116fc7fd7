-- Each specification has pacings, or a refusal for them.
use Rattle.std.proofs.Common.{refl, ◌⊎◌, inl, inr, ℕ, zero, suc, ◌+◌, List, [], ◌∷◌, Option, Some, None, slice_get}
use Rattle.lola_value.specs.declared.front.Refusal.{Refusal}
use Rattle.lola_model.proofs.FirstRefusal.{means_first}
use Rattle.lola_model.specs.NextStep.{local_rate_of, local_rates}
use Rattle.lola_model.specs.PacingFound.{finding_at}
use Rattle.lola_model.specs.Pacings.{IsRefused, pacing_of, pacings_from, refusals_of}
use Rattle.lola_model.specs.Refusals.{IsFirstOf, first_of}
use Rattle.lola_model.specs.StepOrder.{AreRates}
use Rattle.lola_model.specs.Steps.{rate_of, rates_of}
use Rattle.lola_model.specs.declared.finding.FoundPacing.{FoundPacing}
use Rattle.lola_model.specs.declared.finding.FoundPacing.TheVariants.{Paced, Refused, Unpaced}
use Rattle.lola_model.specs.declared.pacing.Pacing.TheVariants.{Event, Periodic, Local}
use Rattle.lola_model.specs.declared.spec.Spec.{Spec}
use Rattle.lola_model.specs.declared.spec.Stream.{Stream}
use Rattle.lola_front_law.specs.Planned.{FindsPacings, HasPacings}
use Rattle.lola_front_law.proofs.ClausesFound.{AreRatedFindings, HasFound, IsRatedFinding, found_of, rated_at}
use Rattle.lola_front_law.proofs.RatesFound.{rates_both}

-- ---- the rates of pacings

start_rates : (k : FoundPacing) → IsRatedFinding k → AreRates (rate_of (pacing_of k))
start_rates (Paced (Event sets)) h = tt
start_rates (Paced (Periodic r)) h = (h, tt)
start_rates (Paced (Local r)) h = tt
start_rates (Refused r) h = tt
start_rates Unpaced h = tt

birth_rates : (k : FoundPacing) → IsRatedFinding k → AreRates (local_rate_of (pacing_of k))
birth_rates (Paced (Event sets)) h = tt
birth_rates (Paced (Periodic r)) h = tt
birth_rates (Paced (Local r)) h = (h, tt)
birth_rates (Refused r) h = tt
birth_rates Unpaced h = tt

module _ (spawns evals closes : List FoundPacing) (h : AreRatedFindings spawns) (g : AreRatedFindings evals) (f : AreRatedFindings closes) where
  from_start : (n : ℕ) (ss : List Stream) → AreRates (rates_of (pacings_from spawns evals closes n ss))
  from_start n [] = tt
  from_start n (s ∷ ss) =
      rates_both (rate_of (pacing_of (finding_at spawns n))) _ (start_rates (finding_at spawns n) (rated_at spawns n h))
      (rates_both (rate_of (pacing_of (finding_at evals n))) _ (start_rates (finding_at evals n) (rated_at evals n g))
      (rates_both (rate_of (pacing_of (finding_at closes n))) _ (start_rates (finding_at closes n) (rated_at closes n f)) (from_start (n + 1) ss)))

  from_births : (n : ℕ) (ss : List Stream) (i : ℕ) → AreRates (local_rates (slice_get (pacings_from spawns evals closes n ss) i))
  from_births n [] i = tt
  from_births n (s ∷ ss) zero =
      rates_both (local_rate_of (pacing_of (finding_at evals n))) (local_rate_of (pacing_of (finding_at closes n))) (birth_rates (finding_at evals n) (rated_at evals n g))
      (birth_rates (finding_at closes n) (rated_at closes n f))
  from_births n (s ∷ ss) (suc i) = from_births (n + 1) ss i

-- ---- the answer

answer : (spec : Spec) (h : HasFound spec) (o : Option Refusal) → IsFirstOf (refusals_of spec h.found) o → HasPacings spec ⊎ ((r : Refusal) × IsRefused spec r)
answer spec h None none =
    let k = h.found in
    inl (record {
      pacings = pacings_from k.spawns k.evals k.closes 0 spec.streams;
      are = record { found = k; accepted = none; are = refl };
      rates = record {
        counted_from_start = from_start k.spawns k.evals k.closes h.spawns h.evals h.closes 0 spec.streams;
        counted_from_births = from_births k.spawns k.evals k.closes h.spawns h.evals h.closes 0 spec.streams;
      };
    })
answer spec h (Some r) first = inr (r, record { found = h.found; first = first })

pub finds_pacings : FindsPacings
finds_pacings spec named rated =
    let h = found_of spec named.few_inputs named.numbers.clauses named.formulas rated in
    answer spec h (first_of (refusals_of spec h.found)) (means_first.is_first (refusals_of spec h.found))
