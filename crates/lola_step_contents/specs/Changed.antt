-- What becomes of a content by the calls of a store.
use Rattle.std.specs.Prelude.{ℕ, ◌≡◌, ◌+◌, zero, suc, List, [], ◌∷◌, ◌++◌, Option, Some, None, Bool, true, false, if◌then◌else◌, nat_lt, length, map, remove, slice_get}
use Rattle.lola_value.specs.declared.text.Field.{Field}
use Rattle.lola_value.specs.Answer.{Answer, Missing}
use Rattle.lola_value.specs.Arithmetic.{all_equal}
use Rattle.lola_model.specs.Content.{Life, StreamContent, Content}
use Rattle.lola_model.specs.Model.{most_instances}
use Rattle.lola_model.specs.Store.{StreamLayout, spawns_in}
use Rattle.lola_model.specs.declared.store.SpawnEnd.{SpawnEnd}
use Rattle.lola_model.specs.declared.store.SpawnEnd.TheVariants as spawn

-- a life with another outcome
abbrev pub with_outcome : Answer → Life → Life
with_outcome a l = record { params = l.params; born = l.born; earlier = l.earlier; outcome = a }

-- the life at a place gets its outcome
abbrev pub told_at : List Life → ℕ → Answer → List Life
told_at [] i a = []
told_at (l ∷ ls) i a = elim i [ zero ↦ with_outcome a l ∷ ls | suc j ↦ l ∷ told_at ls j a ]

-- the stream of a number changes
abbrev pub changed : List StreamContent → ℕ → (StreamContent → StreamContent) → List StreamContent
changed [] n f = []
changed (s ∷ ss) n f = elim n [ zero ↦ f s ∷ ss | suc m ↦ s ∷ changed ss m f ]

-- a content in which a stream changes
abbrev pub with_stream : Content → ℕ → (StreamContent → StreamContent) → Content
with_stream c n f = record { start = c.start; time = c.time; streams = changed c.streams n f }

-- the instance at a place of stream n gets its outcome
abbrev pub told : Content → ℕ → ℕ → Answer → Content
told c n i a = with_stream c n (λ s. record { bad = s.bad; lives = told_at s.lives i a })

-- stream n is bad in this step
abbrev pub spoiled : Content → ℕ → Content
spoiled c n = with_stream c n (λ s. record { bad = true; lives = s.lives })

-- an instance that is born at this time
abbrev pub newborn_life : ℕ → List Field → Life
newborn_life time p = record { params = p; born = time; earlier = []; outcome = Missing }

-- stream n has a newborn instance with these parameters behind the others
abbrev pub born : Content → ℕ → List Field → Content
born c n p = with_stream c n (λ s. record { bad = s.bad; lives = s.lives ++ newborn_life c.time p ∷ [] })

-- whether an instance with these parameters lives
abbrev pub lives_among : List Field → List Life → Bool
lives_among p [] = false
lives_among p (l ∷ ls) = if all_equal p l.params then true else lives_among p ls

-- what a spawn of these parameters comes to among these lives
abbrev pub spawn_end_among : List Field → List Life → SpawnEnd
spawn_end_among p ls = if lives_among p ls then spawn.Living else if nat_lt (length ls) most_instances then spawn.Born else spawn.TooMany

-- the lives of a stream, if there is one
abbrev pub lives_in : Option StreamContent → List Life
lives_in None = []
lives_in (Some s) = s.lives

-- the content after a spawn, by its end
abbrev pub after_spawning : SpawnEnd → Content → ℕ → List Field → Content
after_spawning spawn.Born c n p = born c n p
after_spawning spawn.Living c n p = c
after_spawning spawn.TooMany c n p = c

-- the instance at a place of stream n is gone, and later ones move up
abbrev pub closed : Content → ℕ → ℕ → Content
closed c n i = with_stream c n (λ s. record { bad = s.bad; lives = remove s.lives i })

-- two lives that differ at most in when they were born
pub record IsSameLife (l m : Life) : Type 0 where
  pub params : l.params ≡ m.params
  pub earlier : l.earlier ≡ m.earlier
  pub outcome : l.outcome ≡ m.outcome

-- lives in step, each the same as its own
abbrev pub AreSameLives : List Life → List Life → Type 0
AreSameLives [] [] = Unit {0}
AreSameLives (l ∷ ls) (m ∷ ms) = IsSameLife l m × AreSameLives ls ms
AreSameLives _ _ = ⊥

-- two streams that differ at most in when their instances were born, and where they have a spawn clause not even in that
pub record IsSameStream (spawns : Bool) (s t : StreamContent) : Type 0 where
  pub bad : s.bad ≡ t.bad
  pub lives : AreSameLives s.lives t.lives
  pub births : spawns ≡ true → map (λ (l : Life). l.born) s.lives ≡ map (λ (l : Life). l.born) t.lives

-- streams in step from stream n on, each the same as its own
abbrev pub AreSameStreams : List StreamLayout → ℕ → List StreamContent → List StreamContent → Type 0
AreSameStreams layouts n [] [] = Unit {0}
AreSameStreams layouts n (s ∷ ss) (t ∷ ts) = IsSameStream (spawns_in (slice_get layouts n)) s t × AreSameStreams layouts (n + 1) ss ts
AreSameStreams layouts n _ _ = ⊥

-- two contents that differ at most in when the instances of streams without a spawn clause were born
pub record AreSameButBorn (layouts : List StreamLayout) (c d : Content) : Type 0 where
  pub start : c.start ≡ d.start
  pub time : c.time ≡ d.time
  pub streams : AreSameStreams layouts 0 c.streams d.streams
