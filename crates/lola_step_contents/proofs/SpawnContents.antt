-- What a store stands for after a spawn, and what the spawn comes to.
use Rattle.std.proofs.Common.{◌≡◌, ℕ, suc, ◌+◌, refl, arith, List, [], ◌∷◌, ◌++◌, Option, Some, None, Bool, true, false, ap, sym, ◌∙◌, subst, length, map, slice_get, nat_lt, if◌then◌else◌, ◌⊎◌, inl, inr, IsTrue}
use Rattle.std.proofs.lemmas.List.{map-append}
use Rattle.lola_value.specs.declared.text.Field.{Field}
use Rattle.lola_value.specs.declared.value.Params.{Params}
use Rattle.lola_value.specs.Arithmetic.{all_equal}
use Rattle.lola_value.specs.Naming.{Naming, IsNaming, read_params, the_values, AreHeld}
use Rattle.lola_model.specs.Content.{Life, StreamContent, Content}
use Rattle.lola_model.specs.Accesses.{life_with}
use Rattle.lola_model.specs.Model.{most_instances}
use Rattle.lola_model.specs.Spawning.{has_room, spawn_end}
use Rattle.lola_model.specs.Store.{Seen, SeenStream, SeenInstance, Memories, Stands, StandForLives, after_spawn, newborn_seen, instances_seen, instances_of, place_of, place_among, time_seen}
use Rattle.lola_model.specs.declared.store.SpawnEnd.{SpawnEnd}
use Rattle.lola_model.specs.declared.store.SpawnEnd.TheVariants as spawn
use Rattle.lola_model.proofs.Lookups.{found_or_none, Found, at_stream, Both}
use Rattle.lola_step_contents.specs.Changed.{born, newborn_life, lives_among, lives_in, spawn_end_among, after_spawning}
use Rattle.lola_step_contents.proofs.OneStream.{KeepsStream, moved_life, stands_kept, stands_changed}

-- an instance is among lives where it is found

none_lives : (p : List Field) (ls : List Life) → life_with p ls ≡ None → lives_among p ls ≡ false
none_lives p [] e = refl
none_lives p (l ∷ ls) e = by_first (all_equal p l.params) (none_lives p ls) e
  where
    by_first : (b : Bool) → (life_with p ls ≡ None → lives_among p ls ≡ false)
        → (if b then Some l else life_with p ls) ≡ None → (if b then true else lives_among p ls) ≡ false
    by_first true rest e = absurd (cc)
    by_first false rest e = rest e

one_lives : (p : List Field) (ls : List Life) (x : Life) → life_with p ls ≡ Some x → lives_among p ls ≡ true
one_lives p [] x e = absurd (cc)
one_lives p (l ∷ ls) x e = by_first (all_equal p l.params) (one_lives p ls x) e
  where
    by_first : (b : Bool) → (life_with p ls ≡ Some x → lives_among p ls ≡ true)
        → (if b then Some l else life_with p ls) ≡ Some x → (if b then true else lives_among p ls) ≡ true
    by_first true rest e = refl
    by_first false rest e = rest e

-- what a spawn comes to, where its instance lives or not among so many
abbrev end_for : List Life → Bool → SpawnEnd
end_for ls b = if b then spawn.Living else if nat_lt (length ls) most_instances then spawn.Born else spawn.TooMany

module _ (names : Naming) (old : Memories) (n : ℕ) where
  same_count : (k : ℕ) (xs : List SeenInstance) (ls : List Life) → StandForLives names old n k xs ls → length xs ≡ length ls
  same_count k [] [] h = refl
  same_count k [] (l ∷ ls) h = absurd h
  same_count k (x ∷ xs) [] h = absurd h
  same_count k (x ∷ xs) (l ∷ ls) h = let q : length xs ≡ length ls = same_count (k + 1) xs ls h.1 in omega (arith, q)

module _ (names : Naming) (naming : IsNaming names) (old : Memories) (n : ℕ) (p : Params) (held : AreHeld names (the_values p)) where
  end_among : (xs : List SeenInstance) (ls : List Life) → StandForLives names old n 0 xs ls
      → spawn_end (place_among p xs 0) (length xs) ≡ spawn_end_among (read_params names p) ls
  end_among xs ls h = by_found (found_or_none names naming old n p held 0 xs ls h)
    where
      by_found : ((place_among p xs 0 ≡ None) × (life_with (read_params names p) ls ≡ None)) ⊎ Found names old n p 0 xs ls
          → spawn_end (place_among p xs 0) (length xs) ≡ spawn_end_among (read_params names p) ls
      by_found (inl e) =
          ap (λ o. spawn_end o (length xs)) e.0
          ∙ (ap (λ (k : ℕ). if nat_lt k most_instances then spawn.Born else spawn.TooMany) (same_count names old n 0 xs ls h)
          ∙ sym (ap (end_for ls) (none_lives (read_params names p) ls e.1)))
      by_found (inr f) =
          ap (λ o. spawn_end o (length xs)) f.at ∙ sym (ap (end_for ls) (one_lives (read_params names p) ls f.life f.found))

  -- what a spawn comes to is told by the lives of its stream
  pub spawn_ends : (s : Seen) (c : Content) → Stands names old s c
      → spawn_end (place_of s n p) (length (instances_seen s n)) ≡ spawn_end_among (read_params names p) (lives_in (slice_get c.streams n))
  spawn_ends s c h = by_stream (slice_get s.streams n) (slice_get c.streams n) (at_stream s.layout.streams names old 0 s.streams c.streams n n (omega arith) h.streams)
    where
      by_stream : (o : Option SeenStream) (q : Option StreamContent) → ((o ≡ None) × (q ≡ None)) ⊎ Both s.layout.streams names old n o q
          → spawn_end (place_among p (instances_of o) 0) (length (instances_of o)) ≡ spawn_end_among (read_params names p) (lives_in q)
      by_stream o q (inl e) =
          ap (λ o. spawn_end (place_among p (instances_of o) 0) (length (instances_of o))) e.0
          ∙ sym (ap (λ q. spawn_end_among (read_params names p) (lives_in q)) e.1)
      by_stream o q (inr b) =
          ap (λ o. spawn_end (place_among p (instances_of o) 0) (length (instances_of o))) b.is
          ∙ (end_among b.seen.instances b.content.lives b.stands.lives
          ∙ sym (ap (λ q. spawn_end_among (read_params names p) (lives_in q)) b.is_content))

-- born at the same times, and one more at the same time
more_births : (xs : List SeenInstance) (ls : List Life) (x : SeenInstance) (l : Life) → x.born ≡ l.born → map (λ (x : SeenInstance). x.born) xs ≡ map (λ (l : Life). l.born) ls
    → map (λ (x : SeenInstance). x.born) (xs ++ x ∷ []) ≡ map (λ (l : Life). l.born) (ls ++ l ∷ [])
more_births xs ls x l same e =
    map-append (λ (x : SeenInstance). x.born) xs (x ∷ [])
    ∙ (ap (λ bs. bs ++ x.born ∷ []) e
    ∙ (ap (λ b. map (λ (l : Life). l.born) ls ++ b ∷ []) same
    ∙ sym (map-append (λ (l : Life). l.born) ls (l ∷ []))))

module _ (names : Naming) (old new : Memories) (keeps : (m : ℕ) → KeepsStream names old new m) (n : ℕ) (p : Params) (held : AreHeld names (the_values p)) where
  born_lives : (seen time k : ℕ) (xs : List SeenInstance) (ls : List Life) → new names n (k + length xs) []
      → StandForLives names old n k xs ls → StandForLives names new n k (xs ++ newborn_seen seen p ∷ []) (ls ++ newborn_life time (read_params names p) ∷ [])
  born_lives seen time k [] [] fresh h = (
    record {
      params = refl;
      params_held = held;
      outcome = refl;
      outcome_held = tt;
      earlier = (let e : k + 0 ≡ k = omega arith in subst (λ (j : ℕ). new names n j []) e fresh);
    },
    tt,
  )
  born_lives seen time k [] (l ∷ ls) fresh h = absurd h
  born_lives seen time k (x ∷ xs) [] fresh h = absurd h
  born_lives seen time k (x ∷ xs) (l ∷ ls) fresh h = (
    moved_life names old new n k k x l (keeps n k l.earlier) h.0,
    born_lives seen time (k + 1) xs ls (let e : k + suc (length xs) ≡ k + 1 + length xs = omega arith in subst (λ (j : ℕ). new names n j []) e fresh) h.1,
  )

  module _ (s : Seen) (c : Content) (h : Stands names old s c) where
    -- after a birth a store stands for the content with a newborn instance, of which it remembers no value
    pub stands_born : new names n (length (instances_seen s n)) [] → Stands names new (after_spawn s n p true) (born c n (read_params names p))
    stands_born fresh =
        stands_changed names old new n (λ m other. keeps m) _ _ s c
        (λ x d at e.
        record {
          bad = e.bad;
          lives = born_lives (time_seen s) c.time 0 x.instances d.lives
              (let q : length (instances_seen s n) ≡ 0 + length x.instances = (let r : length (instances_seen s n) ≡ length x.instances = ap (λ o. length (instances_of o)) at in omega (arith, r)) in
              subst (λ (j : ℕ). new names n j []) q fresh)
              e.lives;
          births = λ spawns. more_births x.instances d.lives (newborn_seen (time_seen s) p) (newborn_life c.time (read_params names p)) h.time (e.births spawns);
        }) h

    spawned_at : (o : Option ℕ) (count : ℕ) → (IsTrue (has_room o count) → new names n (length (instances_seen s n)) [])
        → Stands names new (after_spawn s n p (has_room o count)) (after_spawning (spawn_end o count) c n (read_params names p))
    spawned_at (Some i) count fresh = stands_kept names old new keeps s c h
    spawned_at None count fresh = by_room (nat_lt count most_instances) fresh
      where
        by_room : (b : Bool) → (IsTrue b → new names n (length (instances_seen s n)) [])
            → Stands names new (after_spawn s n p b) (after_spawning (if b then spawn.Born else spawn.TooMany) c n (read_params names p))
        by_room true fresh = stands_born (fresh refl)
        by_room false fresh = stands_kept names old new keeps s c h

    -- after a spawn it stands for the content that its end gives
    pub stands_spawned : (o : Option ℕ) (count : ℕ) (end : SpawnEnd) → end ≡ spawn_end o count
        → (IsTrue (has_room o count) → new names n (length (instances_seen s n)) [])
        → Stands names new (after_spawn s n p (has_room o count)) (after_spawning end c n (read_params names p))
    stands_spawned o count end e fresh =
        subst (λ (d : SpawnEnd). Stands names new (after_spawn s n p (has_room o count)) (after_spawning d c n (read_params names p))) (sym e) (spawned_at o count fresh)
