-- A naming that has more texts serves as well.
use Rattle.std.proofs.Common.{◌≡◌, ℕ, List, [], ◌∷◌, ◌++◌, map, refl, ap, sym, ◌∙◌, Option, Some, None}
use Rattle.lola_value.specs.declared.text.Field.{Field}
use Rattle.lola_value.specs.declared.value.Value.{Value}
use Rattle.lola_value.specs.declared.value.Value.TheVariants as value
use Rattle.lola_value.specs.declared.value.Outcome.{Outcome}
use Rattle.lola_value.specs.declared.value.Outcome.TheVariants as outcome
use Rattle.lola_value.specs.Answer.{Given}
use Rattle.lola_value.specs.Naming.{Naming, read, read_outcome, the_text, IsHeld, IsHeldIn}
use Rattle.lola_model.specs.Accesses.{one_more}
use Rattle.lola_model.specs.Reading.{IsHeldBy}
use Rattle.lola_store.specs.declared.tally.Timed.{Timed}
use Rattle.lola_store.specs.declared.instance.Instance.{Instance}
use Rattle.lola_store.specs.declared.store.WholeStore.{WholeStore}
use Rattle.lola_store.specs.Instances.{shown, AllHeld, RecallsAt}
use Rattle.lola_store.specs.Populations.{instance_at}
use Rattle.lola_instances.specs.Phases.{time_in}
use Rattle.lola_store.specs.Stores.{whole_remembers}
use Rattle.lola_store.specs.Tallies.{read_timed}

module _ (names more : Naming) (k : IsHeldBy names more) where
  value_read : (v : Value) → IsHeld names v → read more v ≡ read names v
  value_read (value.Bool b) h = refl
  value_read (value.Int z) h = refl
  value_read (value.Text id) h = ap the_text (k id.0 h.0 h.1) ∙ sym (ap the_text h.1)

  value_held : (v : Value) → IsHeld names v → IsHeld more v
  value_held (value.Bool b) h = tt
  value_held (value.Int z) h = tt
  value_held (value.Text id) h = (h.0, k id.0 h.0 h.1)

  all_read : (vs : List Timed) → AllHeld names vs → map (read_timed more) vs ≡ map (read_timed names) vs
  all_read [] h = refl
  all_read (v ∷ vs) h = let e = value_read v.item h.0 in λ i. (v.at, e i) ∷ all_read vs h.1 i

  all_held : (vs : List Timed) → AllHeld names vs → AllHeld more vs
  all_held [] h = tt
  all_held (v ∷ vs) h = (value_held v.item h.0, all_held vs h.1)

  outcome_read : (o : Outcome) → IsHeldIn names o → read_outcome more o ≡ read_outcome names o
  outcome_read (outcome.Value v) h = ap Given (value_read v h)
  outcome_read outcome.Missing h = refl
  outcome_read (outcome.Fault f) h = refl
  outcome_read outcome.Poison h = refl

  outcome_held : (o : Outcome) → IsHeldIn names o → IsHeldIn more o
  outcome_held (outcome.Value v) h = value_held v h
  outcome_held outcome.Missing h = tt
  outcome_held (outcome.Fault f) h = tt
  outcome_held outcome.Poison h = tt

  recalls : (time step : ℕ) (o : Option Instance) (values : List (ℕ × Field)) → RecallsAt time step names o values → RecallsAt time step more o values
  recalls time step None values h = h
  recalls time step (Some x) values h =
      record {
        all = all_read x.values.items h.held ∙ (h.all ∙ sym (ap (λ a. values ++ one_more time a) (outcome_read (shown step x) h.now_held)));
        held = all_held x.values.items h.held;
        now_held = outcome_held (shown step x) h.now_held;
      }

pub whole_renamed : (s : WholeStore) (names more : Naming) (n i : ℕ) (values : List (ℕ × Field)) → IsHeldBy names more → whole_remembers s names n i values → whole_remembers s more n i values
whole_renamed s names more n i values k h = recalls names more k (time_in s.phase) s.step (instance_at s.streams.items n i) values h
