-- What a store stands for through one naming it stands for through a larger one.
use Rattle.std.proofs.Common.{◌≡◌, ℕ, ◌+◌, refl, List, [], ◌∷◌, ap, sym, ◌∙◌, map}
use Rattle.lola_value.specs.declared.text.Field.{Field}
use Rattle.lola_value.specs.declared.value.Value.{Value}
use Rattle.lola_value.specs.declared.value.Value.TheVariants as value
use Rattle.lola_value.specs.declared.value.Outcome.{Outcome}
use Rattle.lola_value.specs.declared.value.Outcome.TheVariants as outcome
use Rattle.lola_value.specs.Answer.{Given}
use Rattle.lola_value.specs.Naming.{Naming, the_text, read, read_outcome, the_values, IsHeld, AreHeld, IsHeldIn}
use Rattle.lola_model.specs.Content.{Life, StreamContent, Content}
use Rattle.lola_model.specs.Reading.{IsHeldBy}
use Rattle.lola_model.specs.Store.{Seen, SeenStream, SeenInstance, StreamLayout, Memories, Stands, StandForStreams, StandForLives}

module _ (names more : Naming) (holds : IsHeldBy names more) where
  -- a value that is held is held by the larger naming, and reads the same there
  pub held_more : (v : Value) → IsHeld names v → IsHeld more v
  held_more (value.Bool b) h = tt
  held_more (value.Int z) h = tt
  held_more (value.Text id) h = (h.0, holds id.0 h.0 h.1)

  pub read_more : (v : Value) → IsHeld names v → read more v ≡ read names v
  read_more (value.Bool b) h = refl
  read_more (value.Int z) h = refl
  read_more (value.Text id) h = ap the_text (holds id.0 h.0 h.1 ∙ sym h.1)

  -- and so do lists of values, and outcomes
  pub all_held_more : (vs : List Value) → AreHeld names vs → AreHeld more vs
  all_held_more [] h = tt
  all_held_more (v ∷ vs) h = (held_more v h.0, all_held_more vs h.1)

  pub all_read_more : (vs : List Value) → AreHeld names vs → map (read more) vs ≡ map (read names) vs
  all_read_more [] h = refl
  all_read_more (v ∷ vs) h = ap (λ f. f ∷ map (read more) vs) (read_more v h.0) ∙ ap (λ fs. read names v ∷ fs) (all_read_more vs h.1)

  pub outcome_held_more : (o : Outcome) → IsHeldIn names o → IsHeldIn more o
  outcome_held_more (outcome.Value v) h = held_more v h
  outcome_held_more outcome.Missing h = tt
  outcome_held_more (outcome.Fault k) h = tt
  outcome_held_more outcome.Poison h = tt

  pub outcome_read_more : (o : Outcome) → IsHeldIn names o → read_outcome more o ≡ read_outcome names o
  outcome_read_more (outcome.Value v) h = ap Given (read_more v h)
  outcome_read_more outcome.Missing h = refl
  outcome_read_more (outcome.Fault k) h = refl
  outcome_read_more outcome.Poison h = refl

  module _ (remembers : Memories) (renamed : (n i : ℕ) (values : List (ℕ × Field)) → remembers names n i values → remembers more n i values) where
    renamed_lives : (n i : ℕ) (xs : List SeenInstance) (ls : List Life) → StandForLives names remembers n i xs ls → StandForLives more remembers n i xs ls
    renamed_lives n i [] [] h = tt
    renamed_lives n i [] (l ∷ ls) h = h
    renamed_lives n i (x ∷ xs) [] h = h
    renamed_lives n i (x ∷ xs) (l ∷ ls) h = (
      record {
        params = all_read_more (the_values x.params) h.0.params_held ∙ h.0.params;
        params_held = all_held_more (the_values x.params) h.0.params_held;
        outcome = outcome_read_more x.outcome h.0.outcome_held ∙ h.0.outcome;
        outcome_held = outcome_held_more x.outcome h.0.outcome_held;
        earlier = renamed n i l.earlier h.0.earlier;
      },
      renamed_lives n (i + 1) xs ls h.1,
    )

    renamed_streams : (layouts : List StreamLayout) (n : ℕ) (ss : List SeenStream) (cs : List StreamContent)
        → StandForStreams layouts names remembers n ss cs → StandForStreams layouts more remembers n ss cs
    renamed_streams layouts n [] [] h = tt
    renamed_streams layouts n [] (c ∷ cs) h = h
    renamed_streams layouts n (x ∷ xs) [] h = h
    renamed_streams layouts n (x ∷ xs) (c ∷ cs) h = (
      record { bad = h.0.bad; lives = renamed_lives n 0 x.instances c.lives h.0.lives; births = h.0.births },
      renamed_streams layouts (n + 1) xs cs h.1,
    )

    -- through a larger naming a store stands for the same content
    pub stands_renamed : (s : Seen) (c : Content) → Stands names remembers s c → Stands more remembers s c
    stands_renamed s c h = record { start = h.start; time = h.time; streams = renamed_streams s.layout.streams 0 s.streams c.streams h.streams }
