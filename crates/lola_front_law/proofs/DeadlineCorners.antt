-- Computed: what a store finds of two instances of a stream, and what the premises of the laws are for.
use Rattle.std.proofs.Common.{◌≡◌, refl, ℕ, zero, suc, arith, List, [], ◌∷◌, Some, None, false, true}
use Rattle.lola_value.specs.Ratio.{Ratio}
use Rattle.lola_value.specs.Rate.{IsDeadline}
use Rattle.lola_value.specs.declared.value.Kind.TheVariants as kind
use Rattle.lola_value.specs.declared.value.Outcome.TheVariants as outcome
use Rattle.lola_model.specs.Activity.{is_deadline}
use Rattle.lola_model.specs.Dues.{due_places, due_seen}
use Rattle.lola_model.specs.Store.{Seen, SeenInstance, New, no_params}
use Rattle.lola_front_law.specs.LocalDues.{HasLocalRates}

abbrev hz : ℕ → Ratio
hz n = record { num = n; den = 1 }

abbrev born_at : ℕ → SeenInstance
born_at t = record { params = no_params; born = t; outcome = outcome.Missing }

-- a store of one stream, with these local rates and two instances
abbrev two_born : List Ratio → ℕ → ℕ → Seen
two_born rates t u = record {
  layout = record { streams = record { kind = kind.Int64; parameters = []; spawns = true; kept = 1; locals = rates } ∷ []; windows = []; panes = [] };
  phase = New;
  prepared = false;
  steps = 0;
  streams = record { bad = false; spawned = false; instances = born_at t ∷ born_at u ∷ [] } ∷ [];
}

-- at 1 Hz, born 5 and 9 nanoseconds after 0
abbrev one_hz : Seen
one_hz = two_born (hz 1 ∷ []) 5 9

are_rates : HasLocalRates one_hz
are_rates zero = (record { num = omega arith; den = omega arith }, tt)
are_rates (suc n) = tt

-- not before the births, each deadline once it is reached, and the next behind it
from_zero : due_seen one_hz 0 ≡ Some 1000000005
from_zero = refl

at_the_first : due_seen one_hz 1000000005 ≡ Some 1000000005
at_the_first = refl

behind_the_first : due_seen one_hz 1000000006 ≡ Some 1000000009
behind_the_first = refl

behind_both : due_seen one_hz 1000000010 ≡ Some 2000000005
behind_both = refl

none_in_time : due_seen one_hz 3999999999000000010 ≡ None
none_in_time = refl

places_at_the_first : due_places one_hz 0 1000000005 ≡ 0 ∷ []
places_at_the_first = refl

places_between : due_places one_hz 0 1000000006 ≡ []
places_between = refl

-- births that are a period apart are due together, and the later of two births is not due at its birth
together : due_places (two_born (hz 1 ∷ []) 5 1000000005) 0 2000000005 ≡ 0 ∷ 1 ∷ []
together = refl

not_at_its_birth : due_places (two_born (hz 1 ∷ []) 5 1000000005) 0 1000000005 ≡ 0 ∷ []
not_at_its_birth = refl

-- the limit of a rate is what keeps its deadlines off the moment from which it counts: at 2 GHz the first one is cut to it
too_fast : IsDeadline (hz 2000000000) 0
too_fast = (1, omega arith, refl)

not_found : is_deadline (hz 2000000000) 0 ≡ false
not_found = refl

-- of 0 Hz a store would tell a moment that has passed
no_rate : due_seen (two_born (hz 0 ∷ []) 5 5) 9 ≡ Some 5
no_rate = refl
