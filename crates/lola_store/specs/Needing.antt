-- What is shown and remembered, through a naming that has the texts that the store holds.
use Rattle.std.proofs.Common.{◌≡◌, ℕ, zero, suc, List, [], ◌∷◌, ◌++◌, map, refl, ap, sym, ◌∙◌, subst, Option, Some, None, slice_get}
use Rattle.std.specs.Prelude.{flat_map}
use Rattle.lola_value.specs.declared.text.Field.{Field}
use Rattle.lola_value.specs.declared.value.TextId.{TextId}
use Rattle.lola_value.specs.Naming.{Naming, the_values}
use Rattle.lola_model.specs.Accesses.{one_more}
use Rattle.lola_model.specs.Store.{SeenInstance, instances_of, instances_seen}
use Rattle.lola_text.specs.Needed.{texts_in, text_of_outcome, AreAmong, IsAmongIn, KeepsTexts}
use Rattle.lola_store.specs.declared.tally.Timed.{Timed}
use Rattle.lola_store.specs.declared.instance.Instance.{Instance}
use Rattle.lola_store.specs.declared.population.Population.{Population}
use Rattle.lola_store.specs.declared.store.WholeStore.{WholeStore}
use Rattle.lola_store.specs.Instances.{shown, instance_seen, AllHeld, RecallsAt}
use Rattle.lola_store.specs.Populations.{population_seen, instance_at}
use Rattle.lola_instances.specs.Phases.{time_in}
use Rattle.lola_store.specs.Stores.{whole_seen, whole_remembers}
use Rattle.lola_store.specs.Tallies.{read_timed}
use Rattle.lola_store.specs.Texts.{items_of, instance_texts, population_texts, whole_texts}
use Rattle.lola_text.proofs.Among.{AreWithin, within_front, within_back, item_within, all_within, outcome_within, keeps_within, all_among, outcome_among, value_read, value_held, outcome_read, outcome_held}

none_at : {X : Type 0} (P : Type 0) (i : ℕ) (x : X) → slice_get [] i ≡ Some x → P
none_at P zero x e = absurd (cc)
none_at P (suc i) x e = absurd (cc)

-- an instance

module _ (step : ℕ) (x : Instance) where
  abbrev its_params : List TextId
  its_params = texts_in (the_values x.params)

  abbrev its_values : List TextId
  its_values = texts_in (items_of x.values.items)

  abbrev its_outcome : List TextId
  its_outcome = text_of_outcome (shown step x)

  params_among : AreAmong (instance_texts step x) (the_values x.params)
  params_among =
      all_within its_params (instance_texts step x) (λ id h. within_front (its_params ++ its_values) its_outcome id (within_front its_params its_values id h)) (the_values x.params) (all_among (the_values x.params))

  values_among : AreAmong (instance_texts step x) (items_of x.values.items)
  values_among =
      all_within its_values (instance_texts step x) (λ id h. within_front (its_params ++ its_values) its_outcome id (within_back its_params its_values id h)) (items_of x.values.items) (all_among (items_of x.values.items))

  shown_among : IsAmongIn (instance_texts step x) (shown step x)
  shown_among = outcome_within its_outcome (instance_texts step x) (within_back (its_params ++ its_values) its_outcome) (shown step x) (outcome_among (shown step x))

module _ (ids : List TextId) (names fewer : Naming) (k : KeepsTexts ids names fewer) where
  timed_read : (vs : List Timed) → AreAmong ids (items_of vs) → AllHeld names vs → map (read_timed fewer) vs ≡ map (read_timed names) vs
  timed_read [] a h = refl
  timed_read (v ∷ vs) a h =
      let e = value_read ids names fewer k v.item a.0 h.0 in
      let es = timed_read vs a.1 h.1 in
      λ i. (v.at, e i) ∷ es i

  timed_held : (vs : List Timed) → AreAmong ids (items_of vs) → AllHeld names vs → AllHeld fewer vs
  timed_held [] a h = tt
  timed_held (v ∷ vs) a h = (value_held ids names fewer k v.item a.0 h.0, timed_held vs a.1 h.1)

recalls_kept : (time step : ℕ) (names fewer : Naming) (o : Option Instance) (values : List (ℕ × Field)) → ((x : Instance) → o ≡ Some x → KeepsTexts (instance_texts step x) names fewer)
    → RecallsAt time step names o values → RecallsAt time step fewer o values
recalls_kept time step names fewer None values w h = h
recalls_kept time step names fewer (Some x) values w h =
    let ids = instance_texts step x in
    let k = w x refl in
    let all = values_among step x in
    let now = shown_among step x in
    record {
      all = timed_read ids names fewer k x.values.items all h.held ∙ (h.all ∙ sym (ap (λ a. values ++ one_more time a) (outcome_read ids names fewer k (shown step x) now h.now_held)));
      held = timed_held ids names fewer k x.values.items all h.held;
      now_held = outcome_held ids names fewer k (shown step x) now h.now_held;
    }

-- a stream's instances

abbrev Shows : List TextId → SeenInstance → Type 0
Shows ids x = AreAmong ids (the_values x.params) × IsAmongIn ids x.outcome

shows_within : (xs ys : List TextId) → AreWithin xs ys → (x : SeenInstance) → Shows xs x → Shows ys x
shows_within xs ys w x h = (all_within xs ys w (the_values x.params) h.0, outcome_within xs ys w x.outcome h.1)

lives_show : (step : ℕ) (ls : List Instance) (i : ℕ) (x : SeenInstance) → slice_get (map (instance_seen step) ls) i ≡ Some x → Shows (flat_map (instance_texts step) ls) x
lives_show step [] zero x e = absurd (cc)
lives_show step [] (suc i) x e = absurd (cc)
lives_show step (l ∷ ls) zero x e =
    let same : instance_seen step l ≡ x = cc in
    subst (Shows (instance_texts step l ++ flat_map (instance_texts step) ls)) same
    (shows_within (instance_texts step l) (instance_texts step l ++ flat_map (instance_texts step) ls) (within_front (instance_texts step l) (flat_map (instance_texts step) ls)) (instance_seen step l) (params_among step l, shown_among step l))
lives_show step (l ∷ ls) (suc i) x e =
    shows_within (flat_map (instance_texts step) ls) (instance_texts step l ++ flat_map (instance_texts step) ls) (within_back (instance_texts step l) (flat_map (instance_texts step) ls)) x (lives_show step ls i x e)

-- all streams

streams_show : (step : ℕ) (ps : List Population) (n i : ℕ) (x : SeenInstance) → slice_get (instances_of (slice_get (map (population_seen step) ps) n)) i ≡ Some x → Shows (flat_map (population_texts step) ps) x
streams_show step [] zero i x e = none_at (Shows [] x) i x e
streams_show step [] (suc n) i x e = none_at (Shows [] x) i x e
streams_show step (p ∷ ps) zero i x e =
    shows_within (population_texts step p) (population_texts step p ++ flat_map (population_texts step) ps) (within_front (population_texts step p) (flat_map (population_texts step) ps)) x (lives_show step p.lives.items i x e)
streams_show step (p ∷ ps) (suc n) i x e =
    shows_within (flat_map (population_texts step) ps) (population_texts step p ++ flat_map (population_texts step) ps) (within_back (population_texts step p) (flat_map (population_texts step) ps)) x (streams_show step ps n i x e)

instance_within : (step : ℕ) (ps : List Population) (n i : ℕ) (x : Instance) → instance_at ps n i ≡ Some x → AreWithin (instance_texts step x) (flat_map (population_texts step) ps)
instance_within step [] zero i x e = none_at (AreWithin (instance_texts step x) []) i x e
instance_within step [] (suc n) i x e = none_at (AreWithin (instance_texts step x) []) i x e
instance_within step (p ∷ ps) zero i x e = λ id h. within_front (population_texts step p) (flat_map (population_texts step) ps) id (item_within (instance_texts step) p.lives.items i x e id h)
instance_within step (p ∷ ps) (suc n) i x e = λ id h. within_back (population_texts step p) (flat_map (population_texts step) ps) id (instance_within step ps n i x e id h)

-- no text but these is shown
pub whole_shows : (s : WholeStore) (n i : ℕ) (x : SeenInstance) → slice_get (instances_seen (whole_seen s) n) i ≡ Some x → AreAmong (whole_texts s) (the_values x.params) × IsAmongIn (whole_texts s) x.outcome
whole_shows s n i x e = streams_show s.step s.streams.items n i x e

-- and earlier values are remembered through each naming that has these texts
pub whole_kept : (s : WholeStore) (names fewer : Naming) (n i : ℕ) (values : List (ℕ × Field)) → KeepsTexts (whole_texts s) names fewer → whole_remembers s names n i values
    → whole_remembers s fewer n i values
whole_kept s names fewer n i values k h =
    recalls_kept (time_in s.phase) s.step names fewer (instance_at s.streams.items n i) values
    (λ x e. keeps_within (instance_texts s.step x) (whole_texts s) names fewer (instance_within s.step s.streams.items n i x e) k) h
