-- Telling instances their outcomes: nothing changes where an instance that has none is told none.
use Rattle.std.proofs.Common.{◌≡◌, refl, ap, ◌∙◌, sym, subst, ℕ, zero, suc, ◌+◌, ◌≤◌, List, [], ◌∷◌, Option, Some, None, Bool, true, false, nat_eq, if◌then◌else◌, slice_get, arith}
use Rattle.std.proofs.lemmas.Bool.{eq-eqb, eqb-true, ne_eqb}
use Rattle.lola_value.specs.Answer.{Answer, Missing}
use Rattle.lola_value.specs.Naming.{Naming, IsHeldIn, read_outcome}
use Rattle.lola_value.specs.declared.value.Outcome.{Outcome}
use Rattle.lola_model.specs.Content.{Content, Life, StreamContent, seen}
use Rattle.lola_model.specs.Store.{Memories, SeenInstance, StandForLives, is_silent, now_at}
use Rattle.lola_model.specs.Table.{Living}
use Rattle.lola_step_contents.specs.Changed.{changed, lives_in, told, told_at}
use Rattle.lola_step_contents.specs.Nexts.{told_each, told_from}
use Rattle.lola_step.specs.Given.{AreHeldIn, told_outcomes}
use Rattle.lola_step.specs.Notes.{AreOfStream, AreSilent, OneOf, ReadEach}
use Rattle.lola_step.specs.declared.tasks.Task.{Task}
use Rattle.lola_step.proofs.OneByOne.{is_missing}

-- the outcome of a life, if there is one
abbrev pub outcome_at : Option Life → Answer
outcome_at None = Missing
outcome_at (Some l) = l.outcome

-- the lives of stream n from a place on have no outcome
abbrev pub IsQuiet : Content → ℕ → ℕ → Type 0
IsQuiet c n i = (j : ℕ) → i ≤ j → outcome_at (slice_get (lives_in (slice_get c.streams n)) j) ≡ Missing

pub quiet_same : (c d : Content) (n i : ℕ) → slice_get d.streams n ≡ slice_get c.streams n → IsQuiet c n i → IsQuiet d n i
quiet_same c d n i e q j h = ap (λ o. outcome_at (slice_get (lives_in o) j)) e ∙ q j h

-- telling nothing where there is no outcome

lives_as_before : (ls : List Life) (i : ℕ) → outcome_at (slice_get ls i) ≡ Missing → told_at ls i Missing ≡ ls
lives_as_before [] i e = refl
lives_as_before (l ∷ ls) zero e = ap (λ a. record { params = l.params; born = l.born; earlier = l.earlier; outcome = a } ∷ ls) (sym e)
lives_as_before (l ∷ ls) (suc i) e = ap (λ ms. l ∷ ms) (lives_as_before ls i e)

streams_as_before : (ss : List StreamContent) (n i : ℕ) → outcome_at (slice_get (lives_in (slice_get ss n)) i) ≡ Missing
    → changed ss n (λ s. record { bad = s.bad; lives = told_at s.lives i Missing }) ≡ ss
streams_as_before [] n i e = refl
streams_as_before (s ∷ ss) zero i e = ap (λ ls. record { bad = s.bad; lives = ls } ∷ ss) (lives_as_before s.lives i e)
streams_as_before (s ∷ ss) (suc n) i e = ap (λ ts. s ∷ ts) (streams_as_before ss n i e)

told_nothing : (c : Content) (n i : ℕ) → outcome_at (slice_get (lives_in (slice_get c.streams n)) i) ≡ Missing → told c n i Missing ≡ c
told_nothing c n i e = ap (λ ss. record { start = c.start; time = c.time; streams = ss }) (streams_as_before c.streams n i e)

-- other places and other streams

place_else : (ls : List Life) (i j : ℕ) (a : Answer) → (j ≡ i → ⊥) → slice_get (told_at ls i a) j ≡ slice_get ls j
place_else [] i j a h = refl
place_else (l ∷ ls) zero zero a h = absurd (h refl)
place_else (l ∷ ls) zero (suc j) a h = refl
place_else (l ∷ ls) (suc i) zero a h = refl
place_else (l ∷ ls) (suc i) (suc j) a h = place_else ls i j a (λ e. h (ap suc e))

lives_else : (ss : List StreamContent) (n i j : ℕ) (a : Answer) → (j ≡ i → ⊥)
    → slice_get (lives_in (slice_get (changed ss n (λ s. record { bad = s.bad; lives = told_at s.lives i a })) n)) j ≡ slice_get (lives_in (slice_get ss n)) j
lives_else [] n i j a h = refl
lives_else (s ∷ ss) zero i j a h = place_else s.lives i j a h
lives_else (s ∷ ss) (suc n) i j a h = lives_else ss n i j a h

quiet_behind : (c : Content) (n i : ℕ) (a : Answer) → IsQuiet c n i → IsQuiet (told c n i a) n (i + 1)
quiet_behind c n i a q j h = ap outcome_at (lives_else c.streams n i j a (λ e. omega (arith, h, e))) ∙ q j (omega (arith, h))

stream_else : (ss : List StreamContent) (f : StreamContent → StreamContent) (n m : ℕ) → (m ≡ n → ⊥) → slice_get (changed ss n f) m ≡ slice_get ss m
stream_else [] f n m h = refl
stream_else (s ∷ ss) f zero zero h = absurd (h refl)
stream_else (s ∷ ss) f zero (suc m) h = refl
stream_else (s ∷ ss) f (suc n) zero h = refl
stream_else (s ∷ ss) f (suc n) (suc m) h = stream_else ss f n m (λ e. h (ap suc e))

each_else : (n i m : ℕ) (ls : List Living) (c : Content) → (m ≡ n → ⊥) → slice_get (told_each c (told_from n i ls)).streams m ≡ slice_get c.streams m
each_else n i m [] c h = refl
each_else n i m (l ∷ ls) c h =
    each_else n (i + 1) m ls (told c n i (seen l.outcome)) h
    ∙ stream_else c.streams (λ s. record { bad = s.bad; lives = told_at s.lives i (seen l.outcome) }) n m h

pub told_else : (b : Bool) (n m : ℕ) (ls : List Living) (c : Content) → (m ≡ n → ⊥) → slice_get (told_each c (if b then told_from n 0 ls else [])).streams m ≡ slice_get c.streams m
told_else true n m ls c h = each_else n 0 m ls c h
told_else false n m ls c h = refl

-- silent instances are told nothing
told_silent : (n i : ℕ) (ls : List Living) (c : Content) → AreSilent ls → IsQuiet c n i → told_each c (told_from n i ls) ≡ c
told_silent n i [] c h q = refl
told_silent n i (l ∷ ls) c h q =
    ap (λ a. told_each (told c n i (seen a)) (told_from n (i + 1) ls)) h.0
    ∙ (ap (λ d. told_each d (told_from n (i + 1) ls)) (told_nothing c n i (q i (omega arith)))
    ∙ told_silent n (i + 1) ls c h.1 (λ j e. q j (omega (arith, e))))

module _ (names : Naming) where
  -- the lives of silent instances have no outcome
  quiet_at : (remembers : Memories) (n i j : ℕ) (xs : List SeenInstance) (vs : List Life) → StandForLives names remembers n i xs vs → is_silent (now_at (slice_get xs j)) ≡ true
      → outcome_at (slice_get vs j) ≡ Missing
  quiet_at remembers n i j [] [] h e = refl
  quiet_at remembers n i j [] (v ∷ vs) h e = absurd h
  quiet_at remembers n i j (x ∷ xs) [] h e = absurd h
  quiet_at remembers n i zero (x ∷ xs) (v ∷ vs) h e = sym h.0.outcome ∙ sym (ap (read_outcome names) (is_missing x.outcome e))
  quiet_at remembers n i (suc j) (x ∷ xs) (v ∷ vs) h e = quiet_at remembers n (i + 1) j xs vs h.1 e

  pub quiet_lives : (remembers : Memories) (n : ℕ) (xs : List SeenInstance) (c : Content) → StandForLives names remembers n 0 xs (lives_in (slice_get c.streams n))
      → ((j : ℕ) → is_silent (now_at (slice_get xs j)) ≡ true) → IsQuiet c n 0
  quiet_lives remembers n xs c h silent j le = quiet_at remembers n 0 j xs (lives_in (slice_get c.streams n)) h (silent j)

  -- one instance more: it was asked, or it is silent

  abbrev pub Here : ℕ → List Task → Outcome → List Outcome → Living → List Living → Type 0
  Here i ts r rs l ls = (read_outcome names r ≡ l.outcome) × IsHeldIn names r × ReadEach names (i + 1) ts rs ls

  abbrev pub Past : ℕ → List Task → List Outcome → Living → List Living → Type 0
  Past i ts rs l ls = (l.outcome ≡ Missing) × ReadEach names (i + 1) ts rs ls

  pub read_asked : (n i : ℕ) (ts : List Task) (r : Outcome) (rs : List Outcome) (l : Living) (ls : List Living) → Here i ts r rs l ls
      → ReadEach names i (record { stream = n; index = i } ∷ ts) (r ∷ rs) (l ∷ ls)
  read_asked n i ts r rs l ls h =
      subst (λ b. OneOf b (Here i ts r rs l ls) (Past i (record { stream = n; index = i } ∷ ts) (r ∷ rs) l ls)) (sym (eq-eqb i i refl)) h

  pub read_past : (n i k : ℕ) (ts : List Task) (rs : List Outcome) (l : Living) (ls : List Living) → AreOfStream n (i + 1) k ts → Past i ts rs l ls → ReadEach names i ts rs (l ∷ ls)
  read_past n i k [] [] l ls o h = h
  read_past n i k [] (r ∷ rs) l ls o h = absurd h.1
  read_past n i k (t ∷ ts) [] l ls o h = absurd h.1
  read_past n i k (t ∷ ts) (r ∷ rs) l ls o h =
      subst (λ b. OneOf b (Here i ts r rs l ls) (Past i (t ∷ ts) (r ∷ rs) l ls)) (sym (ne_eqb t.index i (λ e. omega (arith, e, o.1)))) h

  -- outcomes that read as those of instances are told as the model tells all instances

  abbrev Tells : ℕ → List Living → Type 0
  Tells n ls = (i j k : ℕ) (ts : List Task) (rs : List Outcome) (c : Content) → AreOfStream n j k ts → IsQuiet c n i → ReadEach names i ts rs ls
      → told_outcomes names c ts rs ≡ told_each c (told_from n i ls)

  tells_one : (n : ℕ) (l : Living) (ls : List Living) → Tells n ls → (i j k : ℕ) (t : Task) (ts : List Task) (r : Outcome) (rs : List Outcome) (c : Content)
      → AreOfStream n j k (t ∷ ts) → IsQuiet c n i → (b : Bool) → nat_eq t.index i ≡ b → OneOf b (Here i ts r rs l ls) (Past i (t ∷ ts) (r ∷ rs) l ls)
      → told_outcomes names c (t ∷ ts) (r ∷ rs) ≡ told_each c (told_from n i (l ∷ ls))
  tells_one n l ls rest i j k t ts r rs c o q true e h =
      let same : told c t.stream t.index (seen (read_outcome names r)) ≡ told c n i (seen l.outcome) =
      ap (λ z. told c z t.index (seen (read_outcome names r))) o.0
      ∙ (ap (λ z. told c n z (seen (read_outcome names r))) (eqb-true t.index i e) ∙ ap (λ a. told c n i (seen a)) h.0) in
      ap (λ d. told_outcomes names d ts rs) same
      ∙ rest (i + 1) (t.index + 1) k ts rs (told c n i (seen l.outcome)) o.3 (quiet_behind c n i (seen l.outcome) q) h.2
  tells_one n l ls rest i j k t ts r rs c o q false e h =
      rest (i + 1) j k (t ∷ ts) (r ∷ rs) c o (λ z le. q z (omega (arith, le))) h.1
      ∙ sym (ap (λ a. told_each (told c n i (seen a)) (told_from n (i + 1) ls)) h.0
      ∙ ap (λ d. told_each d (told_from n (i + 1) ls)) (told_nothing c n i (q i (omega arith))))

  tells : (n : ℕ) (ls : List Living) → Tells n ls
  tells n [] i j k [] [] c o q h = refl
  tells n [] i j k [] (r ∷ rs) c o q h = absurd h
  tells n [] i j k (t ∷ ts) [] c o q h = absurd h
  tells n [] i j k (t ∷ ts) (r ∷ rs) c o q h = absurd h
  tells n (l ∷ ls) i j k [] [] c o q h = sym (told_silent n i (l ∷ ls) c h q)
  tells n (l ∷ ls) i j k [] (r ∷ rs) c o q h = absurd h
  tells n (l ∷ ls) i j k (t ∷ ts) [] c o q h = absurd h
  tells n (l ∷ ls) i j k (t ∷ ts) (r ∷ rs) c o q h = tells_one n l ls (tells n ls) i j k t ts r rs c o q (nat_eq t.index i) refl h

  pub told_stream : (n k : ℕ) (ts : List Task) (rs : List Outcome) (ls : List Living) (c : Content) → AreOfStream n 0 k ts → IsQuiet c n 0 → ReadEach names 0 ts rs ls
      → told_outcomes names c ts rs ≡ told_each c (told_from n 0 ls)
  told_stream n k ts rs ls c o q h = tells n ls 0 0 k ts rs c o q h

  -- and their texts are held

  abbrev Holds : List Living → Type 0
  Holds ls = (i : ℕ) (ts : List Task) (rs : List Outcome) → ReadEach names i ts rs ls → AreHeldIn names rs

  holds_one : (l : Living) (ls : List Living) → Holds ls → (i : ℕ) (t : Task) (ts : List Task) (r : Outcome) (rs : List Outcome) (b : Bool)
      → OneOf b (Here i ts r rs l ls) (Past i (t ∷ ts) (r ∷ rs) l ls) → AreHeldIn names (r ∷ rs)
  holds_one l ls rest i t ts r rs true h = (h.1, rest (i + 1) ts rs h.2)
  holds_one l ls rest i t ts r rs false h = rest (i + 1) (t ∷ ts) (r ∷ rs) h.1

  holds : (ls : List Living) → Holds ls
  holds [] i [] [] h = tt
  holds [] i [] (r ∷ rs) h = absurd h
  holds [] i (t ∷ ts) [] h = absurd h
  holds [] i (t ∷ ts) (r ∷ rs) h = absurd h
  holds (l ∷ ls) i [] [] h = tt
  holds (l ∷ ls) i [] (r ∷ rs) h = absurd h
  holds (l ∷ ls) i (t ∷ ts) [] h = absurd h
  holds (l ∷ ls) i (t ∷ ts) (r ∷ rs) h = holds_one l ls (holds ls) i t ts r rs (nat_eq t.index i) h

  pub held_of_stream : (ts : List Task) (rs : List Outcome) (ls : List Living) → ReadEach names 0 ts rs ls → AreHeldIn names rs
  held_of_stream ts rs ls h = holds ls 0 ts rs h
