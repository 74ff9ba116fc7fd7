-- What is shown and remembered, through a naming that has the texts that the store holds.
use Rattle.std.proofs.Common.{◌≡◌, ℕ, zero, suc, List, [], ◌∷◌, ◌++◌, map, refl, Some, slice_get}
use Rattle.std.specs.Prelude.{flat_map}
use Rattle.lola_value.specs.declared.text.Field.{Field}
use Rattle.lola_value.specs.Naming.{Naming, the_values}
use Rattle.lola_model.specs.Store.{SeenInstance, instances_of, instances_seen}
use Rattle.lola_text.specs.Needed.{AreAmong, IsAmongIn, KeepsTexts}
use Rattle.lola_instances_one.specs.Holdings.{Holdings}
use Rattle.lola_instances_one.specs.Texts.{slot_texts, KeepsOutcome}
use Rattle.lola_text.proofs.Among.{AreWithin, within_front, within_back, item_within}
use Rattle.lola_instances_stream.specs.Crowds.{Crowd, crowd_seen}
use Rattle.lola_instances_stream.specs.Each.{Each}
use Rattle.lola_instances_stream.specs.Texts.{crowd_texts}
use Rattle.lola_instances_stream.proofs.Needing.{Shows, shows_within, lives_show, kept_at}
use Rattle.lola_instances.specs.declared.store.BoundedStore.{BoundedStore}
use Rattle.lola_instances.specs.Phases.{start_in, time_in}
use Rattle.lola_instances.specs.Stores.{bounded_seen, bounded_remembers}
use Rattle.lola_instances.specs.Streams.{slot_at}
use Rattle.lola_instances.specs.Texts.{bounded_texts}

none_at : {X : Type 0} (P : Type 0) (i : ℕ) (x : X) → slice_get [] i ≡ Some x → P
none_at P zero x e = absurd (cc)
none_at P (suc i) x e = absurd (cc)

-- each instance of each stream has the value that it was given last among those that it keeps
abbrev KeepOutcomes : List Crowd → Type 0
KeepOutcomes = Each (λ c. Each KeepsOutcome c.slots)

streams_show : (step : ℕ) (cs : List Crowd) (n i : ℕ) (x : SeenInstance) → KeepOutcomes cs → slice_get (instances_of (slice_get (map (crowd_seen step) cs) n)) i ≡ Some x → Shows (flat_map crowd_texts cs) x
streams_show step [] zero i x keep e = none_at (Shows [] x) i x e
streams_show step [] (suc n) i x keep e = none_at (Shows [] x) i x e
streams_show step (c ∷ cs) zero i x keep e =
    shows_within (crowd_texts c) (crowd_texts c ++ flat_map crowd_texts cs) (within_front (crowd_texts c) (flat_map crowd_texts cs)) x (lives_show step c.slots i x (keep 0 c refl) e)
streams_show step (c ∷ cs) (suc n) i x keep e =
    shows_within (flat_map crowd_texts cs) (crowd_texts c ++ flat_map crowd_texts cs) (within_back (crowd_texts c) (flat_map crowd_texts cs)) x (streams_show step cs n i x (λ m. keep (suc m)) e)

slot_within : (cs : List Crowd) (n i : ℕ) (s : Holdings) → KeepOutcomes cs → slot_at cs n i ≡ Some s → KeepsOutcome s × AreWithin (slot_texts s) (flat_map crowd_texts cs)
slot_within [] zero i s keep e = none_at (KeepsOutcome s × AreWithin (slot_texts s) []) i s e
slot_within [] (suc n) i s keep e = none_at (KeepsOutcome s × AreWithin (slot_texts s) []) i s e
slot_within (c ∷ cs) zero i s keep e = (keep 0 c refl i s e, λ id h. within_front (crowd_texts c) (flat_map crowd_texts cs) id (item_within slot_texts c.slots i s e id h))
slot_within (c ∷ cs) (suc n) i s keep e =
    let later = slot_within cs n i s (λ m. keep (suc m)) e in
    (later.0, λ id h. within_back (crowd_texts c) (flat_map crowd_texts cs) id (later.1 id h))

bounded_keeps : (s : BoundedStore) → KeepOutcomes s.streams.items
bounded_keeps s n c at i x e = ((s.right n c at).each i x e).steady.newest

-- no text but these is shown
pub bounded_shows : (s : BoundedStore) (n i : ℕ) (x : SeenInstance) → slice_get (instances_seen (bounded_seen s) n) i ≡ Some x → AreAmong (bounded_texts s) (the_values x.params) × IsAmongIn (bounded_texts s) x.outcome
bounded_shows s n i x e = streams_show s.step s.streams.items n i x (bounded_keeps s) e

-- and earlier values are remembered through each naming that has these texts
pub bounded_kept : (s : BoundedStore) (names fewer : Naming) (n i : ℕ) (values : List (ℕ × Field)) → KeepsTexts (bounded_texts s) names fewer → bounded_remembers s names n i values
    → bounded_remembers s fewer n i values
bounded_kept s names fewer n i values k h =
    kept_at (bounded_texts s) names fewer (start_in s.phase) (time_in s.phase) s.step (slot_at s.streams.items n i) values (λ x e. slot_within s.streams.items n i x (bounded_keeps s) e) k h
