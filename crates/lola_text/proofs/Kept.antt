-- What a store stands for through one naming it stands for through each that has the texts that it holds.
use Rattle.std.proofs.Common.{◌≡◌, ℕ, suc, ◌+◌, refl, List, [], ◌∷◌, Some, ◌∙◌, slice_get}
use Rattle.lola_value.specs.declared.text.Field.{Field}
use Rattle.lola_value.specs.declared.value.TextId.{TextId}
use Rattle.lola_value.specs.Naming.{Naming, the_values}
use Rattle.lola_model.specs.Content.{Life, StreamContent, Content}
use Rattle.lola_model.specs.Standing.{StandsBetween}
use Rattle.lola_model.specs.Store.{Seen, SeenStream, SeenInstance, StreamLayout, Memories, StandForStreams, StandForLives, instances_of, instances_seen}
use Rattle.lola_text.specs.Needed.{AreAmong, IsAmongIn, KeepsTexts}
use Rattle.lola_text.proofs.Among.{all_read, all_held, outcome_read, outcome_held}

module _ (ids : List TextId) (names fewer : Naming) (keeps : KeepsTexts ids names fewer) (remembers : Memories)
    (kept : (n i : ℕ) (values : List (ℕ × Field)) → remembers names n i values → remembers fewer n i values) where
  -- instances that show no other texts
  still_lives : (n i : ℕ) (xs : List SeenInstance) (ls : List Life)
      → ((j : ℕ) (x : SeenInstance) → slice_get xs j ≡ Some x → AreAmong ids (the_values x.params) × IsAmongIn ids x.outcome)
      → StandForLives names remembers n i xs ls → StandForLives fewer remembers n i xs ls
  still_lives n i [] [] shows h = tt
  still_lives n i [] (l ∷ ls) shows h = h
  still_lives n i (x ∷ xs) [] shows h = h
  still_lives n i (x ∷ xs) (l ∷ ls) shows h =
      let among = shows 0 x refl in (
        record {
          params = all_read ids names fewer keeps (the_values x.params) among.0 h.0.params_held ∙ h.0.params;
          params_held = all_held ids names fewer keeps (the_values x.params) among.0 h.0.params_held;
          outcome = outcome_read ids names fewer keeps x.outcome among.1 h.0.outcome_held ∙ h.0.outcome;
          outcome_held = outcome_held ids names fewer keeps x.outcome among.1 h.0.outcome_held;
          earlier = kept n i l.earlier h.0.earlier;
        },
        still_lives n (i + 1) xs ls (λ j y e. shows (suc j) y e) h.1,
      )

  still_streams : (layouts : List StreamLayout) (n : ℕ) (ss : List SeenStream) (cs : List StreamContent)
      → ((m j : ℕ) (x : SeenInstance) → slice_get (instances_of (slice_get ss m)) j ≡ Some x → AreAmong ids (the_values x.params) × IsAmongIn ids x.outcome)
      → StandForStreams layouts names remembers n ss cs → StandForStreams layouts fewer remembers n ss cs
  still_streams layouts n [] [] shows h = tt
  still_streams layouts n [] (c ∷ cs) shows h = h
  still_streams layouts n (x ∷ xs) [] shows h = h
  still_streams layouts n (x ∷ xs) (c ∷ cs) shows h = (
    record { bad = h.0.bad; lives = still_lives n 0 x.instances c.lives (shows 0) h.0.lives; births = h.0.births },
    still_streams layouts (n + 1) xs cs (λ m. shows (suc m)) h.1,
  )

  -- between steps such a store stands for the same content through both
  pub stands_still : (s : Seen) (c : Content)
      → ((n i : ℕ) (x : SeenInstance) → slice_get (instances_seen s n) i ≡ Some x → AreAmong ids (the_values x.params) × IsAmongIn ids x.outcome)
      → StandsBetween names remembers s c → StandsBetween fewer remembers s c
  stands_still s c shows h = (
    h.0,
    record { start = h.1.start; time = h.1.time; streams = still_streams s.layout.streams 0 s.streams h.0.streams shows h.1.streams },
    h.2,
  )
