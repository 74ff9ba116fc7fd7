-- What a store shows that stands for a row.
use Rattle.std.proofs.Common.{◌≡◌, refl, ap, ◌∙◌, sym, subst, true, ℕ, zero, suc, ◌+◌, ◌≤◌, List, [], ◌∷◌, Some, if◌then◌else◌, slice_get, length, map, drop, arith, add-one}
use Rattle.lola_value.specs.Naming.{Naming, AreHeld, the_values}
use Rattle.lola_model.specs.Accepted.{IsAcyclic}
use Rattle.lola_model.specs.Content.{Content, Life, StreamContent, content, life_of, streams_from}
use Rattle.lola_model.specs.Model.{is_input, outcomes_from}
use Rattle.lola_model.specs.Store.{Memories, Seen, SeenInstance, SeenStream, Stands, StandForLives, StandForStreams, StreamLayout, instances_of, instances_seen, spawns_in}
use Rattle.lola_model.specs.Table.{Step, StreamRow, TableRow}
use Rattle.lola_model.specs.declared.plan.Plan.{Plan}
use Rattle.lola_model.specs.declared.spec.Stream.{Stream}
use Rattle.lola_model.proofs.Rounds.{row_of}
use Rattle.lola_step_contents.specs.Stages.{full_row}
use Rattle.lola_step_contents.proofs.Fixed.{full, fixed}
use Rattle.lola_step.specs.Rooms.{room_of, rooms, total}

-- a row has all streams of its plan
module _ (plan : Plan) (acyclic : IsAcyclic plan.spec) (start : ℕ) (rows : List TableRow) (step : Step) where
  length-outcomes : (row : TableRow) (n i : ℕ) (ss : List Stream) → length (outcomes_from plan start rows step row n i ss) ≡ length ss
  length-outcomes row n i [] = refl
  length-outcomes row n i (s ∷ ss) = ap suc (length-outcomes row (n + 1) (if is_input s then i + 1 else i) ss)

  pub length-full : length (full_row plan start rows step).streams ≡ length plan.spec.streams
  length-full = ap length (fixed plan start rows step acyclic) ∙ length-outcomes (row_of step (full plan start rows step)) 0 0 plan.spec.streams

-- the instances that are shown stand for those of the row
module _ (names : Naming) (remembers : Memories) where
  module _ (layouts : List StreamLayout) (rows : List TableRow) (time : ℕ) where
    lives_from : (k : ℕ) (xs : List SeenStream) (ys : List StreamRow) → StandForStreams layouts names remembers k xs (streams_from rows time k ys)
        → (i n : ℕ) (y : StreamRow) → n ≡ k + i → slice_get ys i ≡ Some y → StandForLives names remembers n 0 (instances_of (slice_get xs i)) (map (life_of rows time n) y.living)
    lives_from k xs [] h i n y e at = absurd (cc)
    lives_from k [] (z ∷ ys) h i n y e at = absurd h
    lives_from k (x ∷ xs) (z ∷ ys) h zero n y e at =
        let a : k ≡ n = omega arith in
        let b : z ≡ y = cc in
        subst (λ (r : StreamRow). StandForLives names remembers n 0 x.instances (map (life_of rows time n) r.living)) b
        (subst (λ j. StandForLives names remembers j 0 x.instances (map (life_of rows time j) z.living)) a h.0.lives)
    lives_from k (x ∷ xs) (z ∷ ys) h (suc i) n y e at = lives_from (k + 1) xs ys h.1 i n y (omega arith) at

    -- and were born when they were, in a stream with a spawn clause
    births_from : (k : ℕ) (xs : List SeenStream) (ys : List StreamRow) → StandForStreams layouts names remembers k xs (streams_from rows time k ys)
        → (i n : ℕ) (y : StreamRow) → n ≡ k + i → slice_get ys i ≡ Some y → spawns_in (slice_get layouts n) ≡ true
        → map (λ (x : SeenInstance). x.born) (instances_of (slice_get xs i)) ≡ map (λ (l : Life). l.born) (map (life_of rows time n) y.living)
    births_from k xs [] h i n y e at spawns = absurd (cc)
    births_from k [] (z ∷ ys) h i n y e at spawns = absurd h
    births_from k (x ∷ xs) (z ∷ ys) h zero n y e at spawns =
        let a : n ≡ k = omega arith in
        let b : z ≡ y = cc in
        h.0.births (subst (λ j. spawns_in (slice_get layouts j) ≡ true) a spawns)
        ∙ (ap (λ (r : StreamRow). map (λ (l : Life). l.born) (map (life_of rows time k) r.living)) b
        ∙ ap (λ j. map (λ (l : Life). l.born) (map (life_of rows time j) y.living)) (sym a))
    births_from k (x ∷ xs) (z ∷ ys) h (suc i) n y e at spawns = births_from (k + 1) xs ys h.1 i n y (omega arith) at spawns

  module _ (s : Seen) (start : ℕ) (rows : List TableRow) (row : TableRow) (h : Stands names remembers s (content start rows row)) where
    pub lives_shown : (n : ℕ) (y : StreamRow) → slice_get row.streams n ≡ Some y → StandForLives names remembers n 0 (instances_seen s n) (map (life_of rows row.step.time n) y.living)
    lives_shown n y at = lives_from s.layout.streams rows row.step.time 0 s.streams row.streams h.streams n n y (omega arith) at

    pub births_shown : (n : ℕ) (y : StreamRow) → slice_get row.streams n ≡ Some y → spawns_in (slice_get s.layout.streams n) ≡ true
        → map (λ (x : SeenInstance). x.born) (instances_seen s n) ≡ map (λ (l : Life). l.born) (map (life_of rows row.step.time n) y.living)
    births_shown n y at spawns = births_from s.layout.streams rows row.step.time 0 s.streams row.streams h.streams n n y (omega arith) at spawns

  -- the texts of an instance's parameters are held
  held_of : (n i : ℕ) (xs : List SeenInstance) (ls : List Life) → StandForLives names remembers n i xs ls → (j : ℕ) (x : SeenInstance) → slice_get xs j ≡ Some x → AreHeld names (the_values x.params)
  held_of n i [] ls h j x at = absurd (cc)
  held_of n i (z ∷ xs) [] h j x at = absurd h
  held_of n i (z ∷ xs) (l ∷ ls) h zero x at = let b : z ≡ x = cc in subst (λ (r : SeenInstance). AreHeld names (the_values r.params)) b h.0.params_held
  held_of n i (z ∷ xs) (l ∷ ls) h (suc j) x at = held_of n (i + 1) xs ls h.1 j x at

  held_from : (layouts : List StreamLayout) (k : ℕ) (xs : List SeenStream) (cs : List StreamContent) → StandForStreams layouts names remembers k xs cs
      → (n j : ℕ) (x : SeenInstance) → slice_get (instances_of (slice_get xs n)) j ≡ Some x → AreHeld names (the_values x.params)
  held_from layouts k [] cs h n j x at = absurd (cc)
  held_from layouts k (z ∷ xs) [] h n j x at = absurd h
  held_from layouts k (z ∷ xs) (c ∷ cs) h zero j x at = held_of k 0 z.instances c.lives h.0.lives j x at
  held_from layouts k (z ∷ xs) (c ∷ cs) h (suc n) j x at = held_from layouts (k + 1) xs cs h.1 n j x at

  pub params_held : (s : Seen) (c : Content) → Stands names remembers s c → (n j : ℕ) (x : SeenInstance) → slice_get (instances_seen s n) j ≡ Some x → AreHeld names (the_values x.params)
  params_held s c h n j x at = held_from s.layout.streams 0 s.streams c.streams h.streams n j x at

-- the instances of a stream have room beside those of later streams
room_from : (xs : List SeenStream) (n : ℕ) → length (instances_of (slice_get xs n)) + total (drop (suc n) (map room_of xs)) ≤ total (drop n (map room_of xs))
room_from [] n = omega arith
room_from (x ∷ xs) zero = omega arith
room_from (x ∷ xs) (suc n) = room_from xs n

pub room_there : (s : Seen) (n : ℕ) → length (instances_seen s n) + total (drop (n + 1) (rooms s)) ≤ total (drop n (rooms s))
room_there s n = rw add-one (room_from s.streams n)

-- and room for themselves
alone_from : (xs : List SeenStream) (n : ℕ) → length (instances_of (slice_get xs n)) ≤ total (map room_of xs)
alone_from [] n = omega arith
alone_from (x ∷ xs) zero = omega arith
alone_from (x ∷ xs) (suc n) = omega (arith, alone_from xs n)

pub room_alone : (s : Seen) (n : ℕ) → length (instances_seen s n) ≤ total (rooms s)
room_alone s n = alone_from s.streams n
