-- What a store stands for, where one of its streams changes.
use Rattle.std.proofs.Common.{◌≡◌, ℕ, zero, suc, ◌+◌, ◌≤◌, arith, refl, List, [], ◌∷◌, subst, sym, Some, slice_get}
use Rattle.lola_value.specs.declared.text.Field.{Field}
use Rattle.lola_value.specs.Naming.{Naming}
use Rattle.lola_model.specs.Content.{Life, StreamContent, Content}
use Rattle.lola_model.specs.Store.{Seen, SeenStream, SeenInstance, StreamLayout, Memories, Stands, StandsForStream, StandForStreams, StandsForLife, StandForLives, changed_at, spawns_in}
use Rattle.lola_step_contents.specs.Changed.{changed, with_stream}

-- what is remembered of the instances of stream n is remembered still
abbrev pub KeepsStream : Naming → Memories → Memories → ℕ → Type 0
KeepsStream names old new n = (i : ℕ) (values : List (ℕ × Field)) → old names n i values → new names n i values

-- of all streams but one
abbrev pub KeepsOtherStreams : Naming → Memories → Memories → ℕ → Type 0
KeepsOtherStreams names old new n = (m : ℕ) → (m ≡ n → ⊥) → KeepsStream names old new m

module _ (names : Naming) (old new : Memories) where
  -- an instance may have another place
  pub moved_life : (n i j : ℕ) (x : SeenInstance) (l : Life) → (old names n i l.earlier → new names n j l.earlier)
      → StandsForLife names old n i x l → StandsForLife names new n j x l
  moved_life n i j x l keeps h =
      record {
        params = h.params;
        params_held = h.params_held;
        outcome = h.outcome;
        outcome_held = h.outcome_held;
        earlier = keeps h.earlier;
      }

  pub kept_lives : (n : ℕ) → KeepsStream names old new n → (i : ℕ) (xs : List SeenInstance) (ls : List Life)
      → StandForLives names old n i xs ls → StandForLives names new n i xs ls
  kept_lives n keeps i [] [] h = tt
  kept_lives n keeps i [] (l ∷ ls) h = h
  kept_lives n keeps i (x ∷ xs) [] h = h
  kept_lives n keeps i (x ∷ xs) (l ∷ ls) h = (moved_life n i i x l (keeps i l.earlier) h.0, kept_lives n keeps (i + 1) xs ls h.1)

  -- streams from number k on, of which each keeps what it remembers
  kept_streams : (layouts : List StreamLayout) (k : ℕ) → ((n : ℕ) → k ≤ n → KeepsStream names old new n) → (ss : List SeenStream) (cs : List StreamContent)
      → StandForStreams layouts names old k ss cs → StandForStreams layouts names new k ss cs
  kept_streams layouts k keeps [] [] h = tt
  kept_streams layouts k keeps [] (c ∷ cs) h = h
  kept_streams layouts k keeps (x ∷ xs) [] h = h
  kept_streams layouts k keeps (x ∷ xs) (c ∷ cs) h = (
    record { bad = h.0.bad; lives = kept_lives k (keeps k (omega arith)) 0 x.instances c.lives h.0.lives; births = h.0.births },
    kept_streams layouts (k + 1) (λ n le. keeps n (omega (arith, le))) xs cs h.1,
  )

  -- a store that shows the same and remembers as much stands for what it stood for
  pub stands_kept : ((n : ℕ) → KeepsStream names old new n) → (s : Seen) (c : Content) → Stands names old s c → Stands names new s c
  stands_kept keeps s c h =
      record { start = h.start; time = h.time; streams = kept_streams s.layout.streams 0 (λ n le. keeps n) s.streams c.streams h.streams }

  module _ (n : ℕ) (keeps : KeepsOtherStreams names old new n) (f : SeenStream → SeenStream) (g : StreamContent → StreamContent) where
    changed_streams : (layouts : List StreamLayout) (k m : ℕ) → n ≡ k + m → (ss : List SeenStream) (cs : List StreamContent)
        → ((x : SeenStream) (c : StreamContent) → slice_get ss m ≡ Some x
        → StandsForStream names old n (spawns_in (slice_get layouts n)) x c → StandsForStream names new n (spawns_in (slice_get layouts n)) (f x) (g c))
        → StandForStreams layouts names old k ss cs → StandForStreams layouts names new k (changed_at ss m f) (changed cs m g)
    changed_streams layouts k m e [] [] changes h = tt
    changed_streams layouts k m e [] (c ∷ cs) changes h = absurd h
    changed_streams layouts k m e (x ∷ xs) [] changes h = absurd h
    changed_streams layouts k zero e (x ∷ xs) (c ∷ cs) changes h =
        let at : n ≡ k = omega (arith, e) in (
          subst (λ j. StandsForStream names new j (spawns_in (slice_get layouts j)) (f x) (g c)) at
              (changes x c refl (subst (λ j. StandsForStream names old j (spawns_in (slice_get layouts j)) x c) (sym at) h.0)),
          kept_streams layouts (k + 1) (λ j le. keeps j (λ q. omega (arith, at, le, q))) xs cs h.1,
        )
    changed_streams layouts k (suc m) e (x ∷ xs) (c ∷ cs) changes h = (
      record { bad = h.0.bad; lives = kept_lives k (keeps k (λ q. omega (arith, e, q))) 0 x.instances c.lives h.0.lives; births = h.0.births },
      changed_streams layouts (k + 1) m (omega (arith, e)) xs cs changes h.1,
    )

    -- a store that changes in stream n alone stands for a content that changes there
    pub stands_changed : (s : Seen) (c : Content)
        → ((x : SeenStream) (d : StreamContent) → slice_get s.streams n ≡ Some x
        → StandsForStream names old n (spawns_in (slice_get s.layout.streams n)) x d → StandsForStream names new n (spawns_in (slice_get s.layout.streams n)) (f x) (g d))
        → Stands names old s c → Stands names new (record s { streams = changed_at s.streams n f }) (with_stream c n g)
    stands_changed s c changes h =
        record {
          start = h.start;
          time = h.time;
          streams = changed_streams s.layout.streams 0 n (omega arith) s.streams c.streams changes h.streams;
        }
