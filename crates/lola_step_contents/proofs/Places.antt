-- What is seen of each stream at a stage, by its number; and contents that differ in one stream.
use Rattle.std.proofs.Common.{◌≡◌, refl, ap, ◌∙◌, sym, ℕ, zero, suc, ◌+◌, ◌⊎◌, inl, inr, List, [], ◌∷◌, Option, Some, None, slice_get, arith, map}
use Rattle.std.proofs.lemmas.Bool.{cases_eq}
use Rattle.lola_model.specs.Accepted.{IsAcyclic}
use Rattle.lola_model.specs.Content.{Content, StreamContent, streams_from, life_of, is_bad}
use Rattle.lola_model.specs.Model.{survivors, last_row}
use Rattle.lola_model.specs.Table.{Step, StreamRow, TableRow}
use Rattle.lola_model.specs.declared.plan.Plan.{Plan}
use Rattle.lola_model.specs.declared.spec.Stream.{Stream}
use Rattle.lola_step_contents.specs.Changed.{changed}
use Rattle.lola_step_contents.specs.Stages.{Stage, is_spawned, is_evaluated, so_far, rows_so_far, content_so_far}
use Rattle.lola_step_contents.proofs.Agree.{rows_at}
use Rattle.lola_step_contents.proofs.Fixed.{full, full_at, at_full}

-- lists are the same that have the same at each place
pub same_list : {A : Type 0} (xs ys : List A) → ((n : ℕ) → slice_get xs n ≡ slice_get ys n) → xs ≡ ys
same_list [] [] h = refl
same_list [] (y ∷ ys) h = let e = h 0 in absurd (cc)
same_list (x ∷ xs) [] h = let e = h 0 in absurd (cc)
same_list (x ∷ xs) (y ∷ ys) h =
    let e = h 0 in
    let a : x ≡ y = cc in
    let b : xs ≡ ys = same_list xs ys (λ n. h (suc n)) in
    cc

-- what stands at a place, changed
abbrev pub change_in : (StreamContent → StreamContent) → Option StreamContent → Option StreamContent
change_in f None = None
change_in f (Some s) = Some (f s)

-- only the stream of that number changes
pub changed_here : (cs : List StreamContent) (n : ℕ) (f : StreamContent → StreamContent) → slice_get (changed cs n f) n ≡ change_in f (slice_get cs n)
changed_here [] n f = refl
changed_here (c ∷ cs) zero f = refl
changed_here (c ∷ cs) (suc n) f = changed_here cs n f

pub changed_else : (cs : List StreamContent) (n m : ℕ) (f : StreamContent → StreamContent) → (m ≡ n → ⊥) → slice_get (changed cs n f) m ≡ slice_get cs m
changed_else [] n m f h = refl
changed_else (c ∷ cs) zero zero f h = absurd (h refl)
changed_else (c ∷ cs) zero (suc m) f h = refl
changed_else (c ∷ cs) (suc n) zero f h = refl
changed_else (c ∷ cs) (suc n) (suc m) f h = changed_else cs n m f (λ e. h (ap suc e))

-- a stream of a number, or none
pub stream_or_none : {A : Type 0} (xs : List A) (n : ℕ) → ((x : A) × (slice_get xs n ≡ Some x)) ⊎ (slice_get xs n ≡ None)
stream_or_none [] n = inr refl
stream_or_none (x ∷ xs) zero = inl (x, refl)
stream_or_none (x ∷ xs) (suc n) = stream_or_none xs n

module _ (plan : Plan) (start : ℕ) (rows : List TableRow) (step : Step) where
  abbrev streams : List Stream
  streams = plan.spec.streams

  -- what is seen of a stream's row
  abbrev pub seen_of : ℕ → StreamRow → StreamContent
  seen_of n y = record { bad = is_bad y.spawned; lives = map (life_of rows step.time n) y.living }

  -- of all streams at a stage
  abbrev pub contents : Stage → List StreamContent
  contents g = streams_from rows step.time 0 (rows_at plan start rows step g)

  -- the content with these streams
  abbrev pub with_contents : List StreamContent → Content
  with_contents cs = record { start = start; time = step.time; streams = cs }

  pub content_is : (g : Stage) → content_so_far plan start rows step g ≡ with_contents (contents g)
  unfolding content_so_far
  content_is g = refl

  -- the row of a stream as far as a stage is
  abbrev pub row_at : Stage → ℕ → Stream → StreamRow
  row_at g n s = so_far (is_spawned plan.layers g n) (is_evaluated plan.layers g n s) (survivors n s (last_row rows)) (full_at plan start rows step n s)

  rows_past : (g : Stage) (n m : ℕ) (ss : List Stream) (ys : List StreamRow) → slice_get ss m ≡ None → slice_get (streams_from rows step.time n (rows_so_far plan rows g n ss ys)) m ≡ None
  rows_past g n m [] ys e = refl
  rows_past g n m (s ∷ ss) [] e = refl
  rows_past g n zero (s ∷ ss) (y ∷ ys) e = absurd (cc)
  rows_past g n (suc m) (s ∷ ss) (y ∷ ys) e = rows_past g (n + 1) m ss ys e

  row_there : (g : Stage) (n m k : ℕ) (ss : List Stream) (ys : List StreamRow) (s : Stream) (y : StreamRow) → k ≡ n + m → slice_get ss m ≡ Some s → slice_get ys m ≡ Some y
      → slice_get (rows_so_far plan rows g n ss ys) m ≡ Some (so_far (is_spawned plan.layers g k) (is_evaluated plan.layers g k s) (survivors k s (last_row rows)) y)
  row_there g n m k [] ys s y e a b = absurd (cc)
  row_there g n m k (r ∷ ss) [] s y e a b = absurd (cc)
  row_there g n zero k (r ∷ ss) (z ∷ ys) s y e a b =
      let c : k ≡ n = omega arith in
      let d : r ≡ s = cc in
      let f : z ≡ y = cc in
      rw (c, d, f) refl
  row_there g n (suc m) k (r ∷ ss) (z ∷ ys) s y e a b = row_there g (n + 1) m k ss ys s y (omega arith) a b

  seen_there : (n m k : ℕ) (ys : List StreamRow) (y : StreamRow) → k ≡ n + m → slice_get ys m ≡ Some y → slice_get (streams_from rows step.time n ys) m ≡ Some (seen_of k y)
  seen_there n m k [] y e a = absurd (cc)
  seen_there n zero k (z ∷ ys) y e a =
      let c : k ≡ n = omega arith in
      let f : z ≡ y = cc in
      rw (c, f) refl
  seen_there n (suc m) k (z ∷ ys) y e a = seen_there (n + 1) m k ys y (omega arith) a

  module _ (acyclic : IsAcyclic plan.spec) where
    -- the row of each stream at a stage
    pub at_rows : (g : Stage) (n : ℕ) (s : Stream) → slice_get streams n ≡ Some s → slice_get (rows_at plan start rows step g) n ≡ Some (row_at g n s)
    at_rows g n s e = row_there g 0 n n streams (full plan start rows step) s (full_at plan start rows step n s) (omega arith) e (at_full plan start rows step acyclic n s e)

    -- and what is seen of it
    pub at_contents : (g : Stage) (n : ℕ) (s : Stream) → slice_get streams n ≡ Some s → slice_get (contents g) n ≡ Some (seen_of n (row_at g n s))
    at_contents g n s e = seen_there 0 n n (rows_at plan start rows step g) (row_at g n s) (omega arith) (at_rows g n s e)

    -- past the streams there is nothing
    pub past_contents : (g : Stage) (n : ℕ) → slice_get streams n ≡ None → slice_get (contents g) n ≡ None
    past_contents g n e = rows_past g 0 n streams (full plan start rows step) e

    -- two stages are the same that differ in no stream
    pub same_contents : (g h : Stage) → ((n : ℕ) (s : Stream) → slice_get streams n ≡ Some s → seen_of n (row_at g n s) ≡ seen_of n (row_at h n s)) → contents g ≡ contents h
    same_contents g h f = same_list (contents g) (contents h) (λ n. by_stream n (stream_or_none streams n))
      where
        by_stream : (n : ℕ) → ((s : Stream) × (slice_get streams n ≡ Some s)) ⊎ (slice_get streams n ≡ None) → slice_get (contents g) n ≡ slice_get (contents h) n
        by_stream n (inl p) = at_contents g n p.0 p.1 ∙ (ap Some (f n p.0 p.1) ∙ sym (at_contents h n p.0 p.1))
        by_stream n (inr e) = past_contents g n e ∙ sym (past_contents h n e)

    -- one stream changes from a stage to the other
    pub changes_contents : (g h : Stage) (k : ℕ) (s : Stream) (f : StreamContent → StreamContent) → slice_get streams k ≡ Some s
        → ((n : ℕ) (r : Stream) → slice_get streams n ≡ Some r → (n ≡ k → ⊥) → seen_of n (row_at g n r) ≡ seen_of n (row_at h n r))
        → seen_of k (row_at h k s) ≡ f (seen_of k (row_at g k s)) → contents h ≡ changed (contents g) k f
    changes_contents g h k s f at others here = same_list (contents h) (changed (contents g) k f) (λ n. by_stream n (cases_eq n k) (stream_or_none streams n))
      where
        by_stream : (n : ℕ) → (n ≡ k) ⊎ (n ≡ k → ⊥) → ((r : Stream) × (slice_get streams n ≡ Some r)) ⊎ (slice_get streams n ≡ None) → slice_get (contents h) n ≡ slice_get (changed (contents g) k f) n
        by_stream n (inl e) p = rw e (at_contents h k s at ∙ (ap Some here ∙ sym (changed_here (contents g) k f ∙ ap (change_in f) (at_contents g k s at))))
        by_stream n (inr d) (inl p) = at_contents h n p.0 p.1 ∙ (ap Some (sym (others n p.0 p.1 d)) ∙ sym (changed_else (contents g) k n f d ∙ at_contents g n p.0 p.1))
        by_stream n (inr d) (inr a) = past_contents h n a ∙ sym (changed_else (contents g) k n f d ∙ past_contents g n a)

    -- no stream changes if this one does not
    pub keeps_contents : (g h : Stage) (k : ℕ) (s : Stream) → slice_get streams k ≡ Some s
        → ((n : ℕ) (r : Stream) → slice_get streams n ≡ Some r → (n ≡ k → ⊥) → seen_of n (row_at g n r) ≡ seen_of n (row_at h n r))
        → seen_of k (row_at g k s) ≡ seen_of k (row_at h k s) → contents g ≡ contents h
    keeps_contents g h k s at others here = same_contents g h (λ n r e. by_stream n r e (cases_eq n k))
      where
        by_stream : (n : ℕ) (r : Stream) → slice_get streams n ≡ Some r → (n ≡ k) ⊎ (n ≡ k → ⊥) → seen_of n (row_at g n r) ≡ seen_of n (row_at h n r)
        by_stream n r e (inl q) = let p : r ≡ s = (let a : slice_get streams k ≡ Some r = rw (← q) e in cc) in rw (q, p) here
        by_stream n r e (inr d) = others n r e d
