-- What a store stands for, where an instance or a stream is told what it comes to.
use Rattle.std.proofs.Common.{◌≡◌, ℕ, zero, suc, ◌+◌, refl, List, [], ◌∷◌, ap, sym, ◌∙◌, map}
use Rattle.lola_value.specs.declared.value.Outcome.{Outcome}
use Rattle.lola_value.specs.Answer.{Answer}
use Rattle.lola_value.specs.Naming.{Naming, read_outcome, IsHeldIn}
use Rattle.lola_model.specs.Content.{Life, Content}
use Rattle.lola_model.specs.Store.{Seen, SeenInstance, Memories, Stands, StandForLives, after_outcome, after_poison_stream}
use Rattle.lola_model.specs.Store.{told_at as shown_told_at}
use Rattle.lola_step_contents.specs.Changed.{told_at, told, spoiled}
use Rattle.lola_step_contents.proofs.OneStream.{KeepsStream, kept_lives, moved_life, stands_changed}

-- an outcome changes no time of birth
shown_births : (xs : List SeenInstance) (i : ℕ) (o : Outcome) → map (λ (x : SeenInstance). x.born) (shown_told_at xs i o) ≡ map (λ (x : SeenInstance). x.born) xs
shown_births [] i o = refl
shown_births (x ∷ xs) zero o = refl
shown_births (x ∷ xs) (suc i) o = ap (λ bs. x.born ∷ bs) (shown_births xs i o)

told_births : (ls : List Life) (i : ℕ) (a : Answer) → map (λ (l : Life). l.born) (told_at ls i a) ≡ map (λ (l : Life). l.born) ls
told_births [] i a = refl
told_births (l ∷ ls) zero a = refl
told_births (l ∷ ls) (suc i) a = ap (λ bs. l.born ∷ bs) (told_births ls i a)

module _ (names : Naming) (old new : Memories) where
  told_lives : (n : ℕ) → KeepsStream names old new n → (o : Outcome) → IsHeldIn names o → (k i : ℕ) (xs : List SeenInstance) (ls : List Life)
      → StandForLives names old n k xs ls → StandForLives names new n k (shown_told_at xs i o) (told_at ls i (read_outcome names o))
  told_lives n keeps o held k i [] [] h = tt
  told_lives n keeps o held k i [] (l ∷ ls) h = absurd h
  told_lives n keeps o held k i (x ∷ xs) [] h = absurd h
  told_lives n keeps o held k zero (x ∷ xs) (l ∷ ls) h = (
    record {
      params = h.0.params;
      params_held = h.0.params_held;
      outcome = refl;
      outcome_held = held;
      earlier = keeps k l.earlier h.0.earlier;
    },
    kept_lives names old new n keeps (k + 1) xs ls h.1,
  )
  told_lives n keeps o held k (suc i) (x ∷ xs) (l ∷ ls) h =
      (moved_life names old new n k k x l (keeps k l.earlier) h.0, told_lives n keeps o held (k + 1) i xs ls h.1)

  module _ (keeps : (n : ℕ) → KeepsStream names old new n) (s : Seen) (c : Content) (n : ℕ) where
    -- after `push` or `poison` a store stands for the content in which the instance has that outcome
    pub stands_told : (i : ℕ) (o : Outcome) → IsHeldIn names o → Stands names old s c
        → Stands names new (after_outcome s n i o) (told c n i (read_outcome names o))
    stands_told i o held h =
        stands_changed names old new n (λ m other. keeps m) _ _ s c
        (λ x d at e.
        record {
          bad = e.bad;
          lives = told_lives n (keeps n) o held 0 i x.instances d.lives e.lives;
          births = λ spawns. shown_births x.instances i o ∙ e.births spawns ∙ sym (told_births d.lives i (read_outcome names o));
        }) h

    -- after `poison_stream` it stands for the content in which the stream is bad
    pub stands_spoiled : Stands names old s c → Stands names new (after_poison_stream s n) (spoiled c n)
    stands_spoiled h =
        stands_changed names old new n (λ m other. keeps m) _ _ s c
        (λ x d at e. record { bad = refl; lives = kept_lives names old new n (keeps n) 0 x.instances d.lives e.lives; births = e.births }) h
