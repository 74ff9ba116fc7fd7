-- When the instance of a stream without a spawn clause was born, a store does not look at.
use Rattle.std.proofs.Common.{ℕ, ◌+◌, List, [], ◌∷◌, ◌∙◌, subst}
use Rattle.lola_value.specs.declared.text.Field.{Field}
use Rattle.lola_value.specs.Naming.{Naming}
use Rattle.lola_model.specs.Content.{Life, StreamContent, Content}
use Rattle.lola_model.specs.Store.{Seen, SeenStream, SeenInstance, StreamLayout, Memories, Stands, StandForStreams, StandForLives}
use Rattle.lola_step_contents.specs.Changed.{AreSameLives, AreSameStreams, AreSameButBorn}

module _ (names : Naming) (remembers : Memories) where
  same_lives : (n i : ℕ) (xs : List SeenInstance) (ls ms : List Life) → AreSameLives ls ms
      → StandForLives names remembers n i xs ls → StandForLives names remembers n i xs ms
  same_lives n i [] [] [] e h = tt
  same_lives n i (x ∷ xs) (l ∷ ls) (m ∷ ms) e h = (
    record {
      params = h.0.params ∙ e.0.params;
      params_held = h.0.params_held;
      outcome = h.0.outcome ∙ e.0.outcome;
      outcome_held = h.0.outcome_held;
      earlier = subst (λ (values : List (ℕ × Field)). remembers names n i values) e.0.earlier h.0.earlier;
    },
    same_lives n (i + 1) xs ls ms e.1 h.1,
  )
  same_lives n i [] [] (m ∷ ms) e h = absurd e
  same_lives n i xs (l ∷ ls) [] e h = absurd e
  same_lives n i [] (l ∷ ls) (m ∷ ms) e h = absurd h
  same_lives n i (x ∷ xs) [] ms e h = absurd h

  same_streams : (layouts : List StreamLayout) (n : ℕ) (ss : List SeenStream) (cs ds : List StreamContent) → AreSameStreams layouts n cs ds
      → StandForStreams layouts names remembers n ss cs → StandForStreams layouts names remembers n ss ds
  same_streams layouts n [] [] [] e h = tt
  same_streams layouts n (x ∷ xs) (c ∷ cs) (d ∷ ds) e h = (
    record {
      bad = h.0.bad ∙ e.0.bad;
      lives = same_lives n 0 x.instances c.lives d.lives e.0.lives h.0.lives;
      births = λ spawns. h.0.births spawns ∙ e.0.births spawns;
    },
    same_streams layouts (n + 1) xs cs ds e.1 h.1,
  )
  same_streams layouts n [] [] (d ∷ ds) e h = absurd e
  same_streams layouts n xs (c ∷ cs) [] e h = absurd e
  same_streams layouts n [] (c ∷ cs) (d ∷ ds) e h = absurd h
  same_streams layouts n (x ∷ xs) [] ds e h = absurd h

  -- what stands for a content stands for each that differs at most in when such instances were born
  pub stands_unborn : (s : Seen) (c d : Content) → AreSameButBorn s.layout.streams c d → Stands names remembers s c → Stands names remembers s d
  stands_unborn s c d e h =
      record { start = h.start ∙ e.start; time = h.time ∙ e.time; streams = same_streams s.layout.streams 0 s.streams c.streams d.streams e.streams h.streams }
