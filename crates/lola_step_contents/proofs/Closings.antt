-- What close clauses leave is what is left once their instances are taken one after the other, the last places first.
use Rattle.std.proofs.Common.{◌≡◌, refl, ap, ◌∙◌, sym, subst, ℕ, ◌+◌, arith, List, [], ◌∷◌, ◌++◌, Option, Bool, true, false, ◌&&◌, ◌||◌, if◌then◌else◌, map, length, reverse, append_assoc, length-append}
use Rattle.std.specs.Prelude.{remove}
use Rattle.std.proofs.lemmas.List.{reverse-append}
use Rattle.lola_value.specs.declared.text.Field.TheVariants as field
use Rattle.lola_value.specs.Answer.{Answer, Given}
use Rattle.lola_model.specs.Content.{Life, StreamContent, Content, content, life_of, streams_from, is_bad}
use Rattle.lola_model.specs.Model.{asked_to_close, close_answer, closed_among, add_closed, is_closed, is_closing_for, closes_from, with_closes}
use Rattle.lola_model.specs.Standing.{left_of, without_closed}
use Rattle.lola_model.specs.Table.{Instance, is_instance, Step, Living, StreamRow, TableRow}
use Rattle.lola_model.specs.declared.plan.Plan.{Plan}
use Rattle.lola_model.specs.declared.spec.Clause.{Clause}
use Rattle.lola_model.specs.declared.spec.Stream.{Stream}
use Rattle.lola_step_contents.specs.Changed.{changed, closed}
use Rattle.lola_step_contents.specs.Ends.{Place, add_place, places_closed, closings_from, closed_each}
use Rattle.lola_model.proofs.Orderly.{instance_self}
use Rattle.lola_step_contents.proofs.Instances.{same_instance}
use Rattle.lola_step_contents.proofs.Quiet.{AreQuiet}

-- whether a condition is true
abbrev is_true : Answer → Bool
is_true (Given (field.Bool true)) = true
is_true a = false

same_bools : (a b : Bool) → (a ≡ true → b ≡ true) → (b ≡ true → a ≡ true) → a ≡ b
same_bools true b f g = sym (f refl)
same_bools false true f g = g refl
same_bools false false f g = refl

-- the close clause of stream n
module _ (plan : Plan) (start : ℕ) (rows : List TableRow) (step : Step) (c : Content) (k : Option Clause) (n : ℕ) where
  -- is active for an instance
  abbrev asks : Instance → Bool
  asks x = is_closing_for plan start rows step n x

  abbrev answer : Instance → Answer
  answer x = close_answer plan.spec c k x.params

  -- and closes it
  abbrev closes : Instance → Bool
  closes x = asks x && is_true (answer x)

  -- the others are left
  abbrev kept : List Living → List Living
  kept [] = []
  kept (l ∷ ls) = if closes l.instance then kept ls else l ∷ kept ls

  -- the instances that it closes
  abbrev closing : List Living → List Instance
  closing ls = closed_among plan.spec c k (asked_to_close plan start rows step n ls)

  -- with one more, for which it is active or not
  abbrev one_more : Bool → Answer → Instance → List Instance → List Instance
  one_more b a x is = if b then add_closed a x is else is

  closing_is : (l : Living) (ls : List Living) → closing (l ∷ ls) ≡ one_more (asks l.instance) (answer l.instance) l.instance (closing ls)
  closing_is l ls = by (asks l.instance)
    where
      by : (b : Bool) → closed_among plan.spec c k (if b then l ∷ asked_to_close plan start rows step n ls else asked_to_close plan start rows step n ls) ≡ one_more b (answer l.instance) l.instance (closing ls)
      by true = refl
      by false = refl

  -- all that close are among these
  abbrev HasClosing : List Instance → List Living → Type 0
  HasClosing closed [] = Unit {0}
  HasClosing closed (l ∷ ls) = (closes l.instance ≡ true → is_closed closed l.instance ≡ true) × HasClosing closed ls

  closing_more : (x : Instance) (closed : List Instance) (ls : List Living) → HasClosing closed ls → HasClosing (x ∷ closed) ls
  closing_more x closed [] h = tt
  closing_more x closed (l ∷ ls) h = (λ e. either (is_instance x l.instance) (is_closed closed l.instance) (h.0 e), closing_more x closed ls h.1)
    where
      either : (a b : Bool) → b ≡ true → (a || b) ≡ true
      either true b e = refl
      either false b e = e

  has_closing : (ls : List Living) → HasClosing (closing ls) ls
  has_closing [] = tt
  has_closing (l ∷ ls) = subst (λ (is : List Instance). HasClosing is (l ∷ ls)) (sym (closing_is l ls)) (with_answer (asks l.instance) (answer l.instance) (has_closing ls))
    where
      with_answer : (b : Bool) (a : Answer) → HasClosing (closing ls) ls
          → ((b && is_true a) ≡ true → is_closed (one_more b a l.instance (closing ls)) l.instance ≡ true) × HasClosing (one_more b a l.instance (closing ls)) ls
      with_answer true (Given (field.Bool true)) h = (λ e. rw (instance_self l.instance) refl, closing_more l.instance (closing ls) ls h)
      with_answer true a h = (λ e. absurd (cc), h)
      with_answer false a h = (λ e. absurd (cc), h)

  only_closing : (ls : List Living) (x : Instance) → is_closed (closing ls) x ≡ true → closes x ≡ true
  only_closing [] x e = absurd (cc)
  only_closing (l ∷ ls) x e =
      with_answer (asks l.instance) (answer l.instance) refl refl (only_closing ls x) (subst (λ (is : List Instance). is_closed is x ≡ true) (closing_is l ls) e)
    where
      same_one : (b : Bool) → is_instance l.instance x ≡ b → closes l.instance ≡ true → (is_closed (closing ls) x ≡ true → closes x ≡ true)
          → (b || is_closed (closing ls) x) ≡ true → closes x ≡ true
      same_one true q t h e = subst (λ (y : Instance). closes y ≡ true) (same_instance l.instance x q) t
      same_one false q t h e = h e

      with_answer : (b : Bool) (a : Answer) → asks l.instance ≡ b → answer l.instance ≡ a → (is_closed (closing ls) x ≡ true → closes x ≡ true)
          → is_closed (one_more b a l.instance (closing ls)) x ≡ true → closes x ≡ true
      with_answer true (Given (field.Bool true)) p q h e = same_one (is_instance l.instance x) refl (ap (λ b. b && is_true (answer l.instance)) p ∙ ap is_true q) h e
      with_answer true a p q h e = h e
      with_answer false a p q h e = h e

  left_by : (closed : List Instance) (ls : List Living) → ((x : Instance) → is_closed closed x ≡ true → closes x ≡ true) → HasClosing closed ls → left_of closed ls ≡ kept ls
  left_by closed [] only has = refl
  left_by closed (l ∷ ls) only has =
      ap (λ b. if b then left_of closed ls else l ∷ left_of closed ls) (same_bools (is_closed closed l.instance) (closes l.instance) (only l.instance) has.0)
      ∙ ap (λ (r : List Living). if closes l.instance then r else l ∷ r) (left_by closed ls only has.1)

  -- what is left of instances
  pub left_is : (ls : List Living) → left_of (closing ls) ls ≡ kept ls
  left_is ls = left_by (closing ls) ls (only_closing ls) (has_closing ls)

left_all : (closed : List Instance) (ls : List Living) → closed ≡ [] → left_of closed ls ≡ ls
left_all closed ls e = ap (λ (is : List Instance). left_of is ls) e ∙ of_none ls
  where
    of_none : (ls : List Living) → left_of [] ls ≡ ls
    of_none [] = refl
    of_none (l ∷ ls) = ap (λ (r : List Living). l ∷ r) (of_none ls)

-- a stream without the life at a place
abbrev without : ℕ → StreamContent → StreamContent
without i s = record { bad = s.bad; lives = remove s.lives i }

-- streams without these places, the last taken first
abbrev taken : List StreamContent → List Place → List StreamContent
taken cs [] = cs
taken cs (p ∷ ps) = changed (taken cs ps) p.stream (without p.index)

taken-append : (cs : List StreamContent) (ps qs : List Place) → taken cs (ps ++ qs) ≡ taken (taken cs qs) ps
taken-append cs [] qs = refl
taken-append cs (p ∷ ps) qs = ap (λ (ds : List StreamContent). changed ds p.stream (without p.index)) (taken-append cs ps qs)

each-append : (c : Content) (ps qs : List Place) → closed_each c (ps ++ qs) ≡ closed_each (closed_each c ps) qs
each-append c [] qs = refl
each-append c (p ∷ ps) qs = each-append (closed c p.stream p.index) ps qs

-- one after the other, from the last on
each_is_taken : (start time : ℕ) (cs : List StreamContent) (ps : List Place)
    → closed_each (record { start = start; time = time; streams = cs }) (reverse ps) ≡ record { start = start; time = time; streams = taken cs ps }
each_is_taken start time cs [] = refl
each_is_taken start time cs (p ∷ ps) =
    let c : Content = record { start = start; time = time; streams = cs } in
    ap (closed_each c) (reverse-append (p ∷ []) ps)
    ∙ (each-append c (reverse ps) (p ∷ [])
    ∙ ap (λ (d : Content). closed d p.stream p.index) (each_is_taken start time cs ps))

changed_at : (before : List StreamContent) (s : StreamContent) (rest : List StreamContent) (n : ℕ) (f : StreamContent → StreamContent) → length before ≡ n
    → changed (before ++ s ∷ rest) n f ≡ before ++ f s ∷ rest
changed_at before s rest n f e = ap (λ m. changed (before ++ s ∷ rest) m f) (sym e) ∙ there before
  where
    there : (before : List StreamContent) → changed (before ++ s ∷ rest) (length before) f ≡ before ++ f s ∷ rest
    there [] = refl
    there (b ∷ bs) = ap (λ (r : List StreamContent). b ∷ r) (there bs)

removed_at : (before : List Life) (x : Life) (rest : List Life) (i : ℕ) → length before ≡ i → remove (before ++ x ∷ rest) i ≡ before ++ rest
removed_at before x rest i e = ap (λ j. remove (before ++ x ∷ rest) j) (sym e) ∙ there before
  where
    there : (before : List Life) → remove (before ++ x ∷ rest) (length before) ≡ before ++ rest
    there [] = refl
    there (b ∷ bs) = ap (λ (r : List Life). b ∷ r) (there bs)

module _ (plan : Plan) (start : ℕ) (rows : List TableRow) (row : TableRow) where
  -- what streams see before the close clauses
  abbrev now : Content
  now = content start rows row

  -- the places of one stream
  module _ (k : Option Clause) (n : ℕ) (before : List StreamContent) (at : length before ≡ n) (bad : Bool) (rest : List StreamContent) (f : Living → Life) where
    -- the streams where this one has these lives
    abbrev with_lives : List Life → List StreamContent
    with_lives ls = before ++ record { bad = bad; lives = ls } ∷ rest

    -- the instances that are left of these
    abbrev others : List Living → List Living
    others ls = kept plan start rows row.step now k n ls

    place_taken : (b : Bool) (a : Answer) (first : List Life) (i : ℕ) → length first ≡ i → (l : Living) (ks : List Living) (whole : List StreamContent) (later : List Place)
        → taken whole later ≡ with_lives (first ++ f l ∷ map f ks)
        → taken whole (if b then add_place a n i later else later) ≡ with_lives (first ++ map f (if b && is_true a then ks else l ∷ ks))
    place_taken true (Given (field.Bool true)) first i e l ks whole later h =
        ap (λ (ds : List StreamContent). changed ds n (without i)) h
        ∙ (changed_at before (record { bad = bad; lives = first ++ f l ∷ map f ks }) rest n (without i) at
        ∙ ap with_lives (removed_at first (f l) (map f ks) i e))
    place_taken true a first i e l ks whole later h = h
    place_taken false a first i e l ks whole later h = h

    places_taken : (first : List Life) (i : ℕ) → length first ≡ i → (ls : List Living)
        → taken (with_lives (first ++ map f ls)) (places_closed plan start rows row.step now k n i ls) ≡ with_lives (first ++ map f (others ls))
    places_taken first i e [] = refl
    places_taken first i e (l ∷ ls) =
        let later : List Place = places_closed plan start rows row.step now k n (i + 1) ls in
        let more : length (first ++ f l ∷ []) ≡ i + 1 = omega (arith, length-append first (f l ∷ [])) in
        place_taken (is_closing_for plan start rows row.step n l.instance) (close_answer plan.spec now k l.instance.params) first i e l (others ls) (with_lives (first ++ f l ∷ map f ls)) later
        (ap (λ (xs : List Life). taken (with_lives xs) later) (sym (append_assoc first (f l ∷ []) (map f ls)))
        ∙ (places_taken (first ++ f l ∷ []) (i + 1) more ls
        ∙ ap with_lives (append_assoc first (f l ∷ []) (map f (others ls)))))

  -- what is seen of the instances of a stream
  abbrev lives_at : ℕ → List Living → List Life
  lives_at n ls = map (life_of rows row.step.time n) ls

  -- and of the stream
  abbrev stream_at : ℕ → StreamRow → StreamContent
  stream_at n y = record { bad = is_bad y.spawned; lives = lives_at n y.living }

  stream_taken : (n : ℕ) (before : List StreamContent) → length before ≡ n → (s : Stream) (y : StreamRow) (whole rest : List StreamContent) (later : List Place)
      → taken whole later ≡ before ++ stream_at n y ∷ rest
      → taken whole (places_closed plan start rows row.step now s.close n 0 y.living ++ later) ≡ before ++ stream_at n (without_closed (with_closes plan start rows row n s y)) ∷ rest
  stream_taken n before at s y whole rest later h =
      let places : List Place = places_closed plan start rows row.step now s.close n 0 y.living in
      taken-append whole places later
      ∙ (ap (λ (ds : List StreamContent). taken ds places) h
      ∙ (places_taken s.close n before at (is_bad y.spawned) rest (life_of rows row.step.time n) [] 0 refl y.living
      ∙ ap (λ (ls : List Living). before ++ record { bad = is_bad y.spawned; lives = lives_at n ls } ∷ rest) (sym (left_is plan start rows row.step now s.close n y.living))))

  none_left : (n : ℕ) (ys : List StreamRow) → AreQuiet ys → streams_from rows row.step.time n ys ≡ streams_from rows row.step.time n (map without_closed ys)
  none_left n [] q = refl
  none_left n (y ∷ ys) q =
      ap (λ (ls : List Living). record { bad = is_bad y.spawned; lives = lives_at n ls } ∷ streams_from rows row.step.time (n + 1) ys) (sym (left_all y.closed y.living q.0))
      ∙ ap (λ (cs : List StreamContent). stream_at n (without_closed y) ∷ cs) (none_left (n + 1) ys q.2)

  streams_taken : (n : ℕ) (before : List StreamContent) → length before ≡ n → (ss : List Stream) (ys : List StreamRow) → AreQuiet ys
      → taken (before ++ streams_from rows row.step.time n ys) (closings_from plan start rows row.step now n ss ys)
      ≡ before ++ streams_from rows row.step.time n (map without_closed (closes_from plan start rows row n ss ys))
  streams_taken n before at [] ys q = ap (λ (cs : List StreamContent). before ++ cs) (none_left n ys q)
  streams_taken n before at (s ∷ ss) [] q = refl
  streams_taken n before at (s ∷ ss) (y ∷ ys) q =
      let later : List Place = closings_from plan start rows row.step now (n + 1) ss ys in
      let here : List StreamContent = stream_at n y ∷ [] in
      let rest : List StreamContent = streams_from rows row.step.time (n + 1) (map without_closed (closes_from plan start rows row (n + 1) ss ys)) in
      let more : length (before ++ here) ≡ n + 1 = omega (arith, length-append before here) in
      stream_taken n before at s y (before ++ stream_at n y ∷ streams_from rows row.step.time (n + 1) ys) rest later
      (ap (λ (cs : List StreamContent). taken cs later) (sym (append_assoc before here (streams_from rows row.step.time (n + 1) ys)))
      ∙ (streams_taken (n + 1) (before ++ here) more ss ys q.2
      ∙ append_assoc before here rest))

  -- what is left after the close clauses of a row
  pub closes_leave : AreQuiet row.streams
      → content start rows (record { step = row.step; streams = map without_closed (closes_from plan start rows row 0 plan.spec.streams row.streams) })
      ≡ closed_each now (reverse (closings_from plan start rows row.step now 0 plan.spec.streams row.streams))
  closes_leave q =
      let places : List Place = closings_from plan start rows row.step now 0 plan.spec.streams row.streams in
      ap (λ (cs : List StreamContent). record { start = start; time = row.step.time; streams = cs }) (sym (streams_taken 0 [] refl plan.spec.streams row.streams q))
      ∙ sym (each_is_taken start row.step.time now.streams places)
