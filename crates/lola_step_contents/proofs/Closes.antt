-- What a store stands for after a close.
use Rattle.std.proofs.Common.{◌≡◌, ℕ, zero, suc, ◌+◌, ◌<◌, ◌≤◌, refl, arith, List, [], ◌∷◌, map, Bool, ap, sym, ◌∙◌, subst, ◌&&◌, if◌then◌else◌, nat_le, eq-eqb}
use Rattle.std.proofs.lemmas.Bool.{ne_eqb, le-leb, lt-leb}
use Rattle.std.specs.Prelude.{remove}
use Rattle.lola_value.specs.declared.text.Field.{Field}
use Rattle.lola_value.specs.Naming.{Naming}
use Rattle.lola_model.specs.Content.{Life, Content}
use Rattle.lola_model.specs.Reading.{moved_up, KeepsOthers}
use Rattle.lola_model.specs.Store.{Seen, SeenInstance, Memories, Stands, StandForLives, after_close}
use Rattle.lola_step_contents.specs.Changed.{closed}
use Rattle.lola_step_contents.proofs.OneStream.{KeepsOtherStreams, moved_life, stands_changed}

-- where an instance was before the close

other_place : (n index m i : ℕ) → (m ≡ n → ⊥) → moved_up n index m i ≡ i
other_place n index m i other = ap (λ b. if b && nat_le index i then i + 1 else i) (ne_eqb m n other)

later_place : (n index i : ℕ) → index ≤ i → moved_up n index n i ≡ i + 1
later_place n index i later =
    ap (λ b. if b && nat_le index i then i + 1 else i) (eq-eqb n n refl) ∙ ap (λ (b : Bool). if b then i + 1 else i) (le-leb index i later)

earlier_place : (n index i : ℕ) → i < index → moved_up n index n i ≡ i
earlier_place n index i earlier =
    ap (λ b. if b && nat_le index i then i + 1 else i) (eq-eqb n n refl) ∙ ap (λ (b : Bool). if b then i + 1 else i) (lt-leb index i earlier)

-- what is left when one is taken away

born_left : (xs : List SeenInstance) (i : ℕ) → map (λ (x : SeenInstance). x.born) (remove xs i) ≡ remove (map (λ (x : SeenInstance). x.born) xs) i
born_left [] zero = refl
born_left [] (suc i) = refl
born_left (x ∷ xs) zero = refl
born_left (x ∷ xs) (suc i) = ap (λ bs. x.born ∷ bs) (born_left xs i)

lives_left : (ls : List Life) (i : ℕ) → map (λ (l : Life). l.born) (remove ls i) ≡ remove (map (λ (l : Life). l.born) ls) i
lives_left [] zero = refl
lives_left [] (suc i) = refl
lives_left (l ∷ ls) zero = refl
lives_left (l ∷ ls) (suc i) = ap (λ bs. l.born ∷ bs) (lives_left ls i)

module _ (names : Naming) (old new : Memories) (n index : ℕ) (keeps : KeepsOthers n index old new) where
  kept_at : (m i j : ℕ) → moved_up n index m i ≡ j → (values : List (ℕ × Field)) → old names m j values → new names m i values
  kept_at m i j e values h = keeps names m i values (subst (λ (k : ℕ). old names m k values) (sym e) h)

  keeps_other_streams : KeepsOtherStreams names old new n
  keeps_other_streams m other i values h = kept_at m i i (other_place n index m i other) values h

  later_lives : (k : ℕ) → index ≤ k → (xs : List SeenInstance) (ls : List Life)
      → StandForLives names old n (k + 1) xs ls → StandForLives names new n k xs ls
  later_lives k later [] [] h = tt
  later_lives k later [] (l ∷ ls) h = h
  later_lives k later (x ∷ xs) [] h = h
  later_lives k later (x ∷ xs) (l ∷ ls) h = (
    moved_life names old new n (k + 1) k x l (kept_at n k (k + 1) (later_place n index k later) l.earlier) h.0,
    later_lives (k + 1) (omega (arith, later)) xs ls h.1,
  )

  left_lives : (k i : ℕ) → index ≡ k + i → (xs : List SeenInstance) (ls : List Life)
      → StandForLives names old n k xs ls → StandForLives names new n k (remove xs i) (remove ls i)
  left_lives k zero e [] [] h = tt
  left_lives k (suc i) e [] [] h = tt
  left_lives k i e [] (l ∷ ls) h = absurd h
  left_lives k i e (x ∷ xs) [] h = absurd h
  left_lives k zero e (x ∷ xs) (l ∷ ls) h = later_lives k (omega (arith, e)) xs ls h.1
  left_lives k (suc i) e (x ∷ xs) (l ∷ ls) h = (
    moved_life names old new n k k x l (kept_at n k k (earlier_place n index k (omega (arith, e))) l.earlier) h.0,
    left_lives (k + 1) i (omega (arith, e)) xs ls h.1,
  )

  -- after `close` a store stands for the content without that instance
  pub stands_closed : (s : Seen) (c : Content) → Stands names old s c → Stands names new (after_close s n index) (closed c n index)
  stands_closed s c h =
      stands_changed names old new n keeps_other_streams _ _ s c
      (λ x d at e.
      record {
        bad = e.bad;
        lives = left_lives 0 index (omega arith) x.instances d.lives e.lives;
        births = λ spawns. born_left x.instances index ∙ ap (λ bs. remove bs index) (e.births spawns) ∙ sym (lives_left d.lives index);
      }) h
