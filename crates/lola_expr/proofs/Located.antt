-- What reading calls promise is what accesses answer.
use Rattle.std.proofs.Common.{◌++◌, ◌||◌, ◌&&◌, nat_lt, ◌≡◌, ℕ, ◌+◌, ◌-◌, refl, arith, List, [], Option, Some, None, Bool, true, false, ap, sym, ◌∙◌, slice_get, subst, if◌then◌else◌, ◌⊎◌, inl, inr, MatchOption}
use Rattle.lola_value.specs.declared.text.Field.{Field}
use Rattle.lola_value.specs.declared.value.Params.{Params}
use Rattle.lola_value.specs.declared.value.Outcome.{Outcome}
use Rattle.lola_value.specs.declared.value.Outcome.TheVariants as outcome
use Rattle.lola_value.specs.Answer.{Answer, Missing, Poisoned}
use Rattle.lola_value.specs.Naming.{Naming, IsNaming, read_params, read_outcome, the_values, AreHeld, IsHeldIn}
use Rattle.lola_model.specs.declared.expr.Access.TheVariants as access
use Rattle.lola_model.specs.Content.{Life, Content}
use Rattle.lola_model.specs.Accesses as accesses
use Rattle.lola_model.specs.Accesses.{life_in, bad_in, held, held_of, unless_bad, from_end, answer_of, one_more}
use Rattle.lola_model.specs.Windows.{aggregated, values_within, window_values, is_poisoned, window_answer}
use Rattle.lola_model.specs.declared.spec.WindowSpec.{WindowSpec}
use Rattle.lola_value.specs.declared.value.Kind.{Kind}
use Rattle.lola_model.specs.Reading.{held_answer, window_over, spoiled}
use Rattle.lola_model.specs.Store.{Seen, SeenInstance, Memories, Stands, StandsForLife, place_of, place_among, instances_of, instances_seen, is_bad_seen, now_at, now_at_place, now_of, time_seen, start_seen}
use Rattle.lola_model.proofs.Lookups.{Found, found_or_none, Both, at_stream}

module _ (names : Naming) (remembers : Memories) (s : Seen) (c : Content) (n : ℕ) (p : Params) where
  -- an instance that lives, where it stands and what it stands for
  pub record Located : Type 0 where
    pub place : ℕ
    pub instance : SeenInstance
    pub life : Life
    pub at : place_of s n p ≡ Some place
    pub shown : slice_get (instances_seen s n) place ≡ Some instance
    pub found : life_in (read_params names p) (slice_get c.streams n) ≡ Some life
    pub stands : StandsForLife names remembers n place instance life

  -- one that does not
  pub record Nowhere : Type 0 where
    pub at : place_of s n p ≡ None
    pub found : life_in (read_params names p) (slice_get c.streams n) ≡ None

module _ (names : Naming) (h : IsNaming names) (remembers : Memories) (s : Seen) (c : Content) (stands : Stands names remembers s c) (n : ℕ) (p : Params) (held' : AreHeld names (the_values p)) where
  -- it is one of the two
  pub located : Nowhere names remembers s c n p ⊎ Located names remembers s c n p
  located = by_stream (at_stream s.layout.streams names remembers 0 s.streams c.streams n n (omega arith) stands.streams)
    where
      of_found : (b : Both s.layout.streams names remembers n (slice_get s.streams n) (slice_get c.streams n))
          → ((place_among p b.seen.instances 0 ≡ None) × (Rattle.lola_model.specs.Accesses.life_with (read_params names p) b.content.lives ≡ None)) ⊎ Found names remembers n p 0 b.seen.instances b.content.lives
          → Nowhere names remembers s c n p ⊎ Located names remembers s c n p
      of_found b (inl w) =
          inl (record {
            at = ap (λ o. place_among p (instances_of o) 0) b.is ∙ w.0;
            found = ap (life_in (read_params names p)) b.is_content ∙ w.1;
          })
      of_found b (inr f) =
          inr (record {
            place = f.place;
            instance = f.instance;
            life = f.life;
            at = ap (λ o. place_among p (instances_of o) 0) b.is ∙ f.at;
            shown = ap (λ o. slice_get (instances_of o) f.place) b.is ∙ (let k : f.place ≡ f.place - 0 = omega arith in ap (λ (j : ℕ). slice_get b.seen.instances j) k ∙ f.shown);
            found = ap (life_in (read_params names p)) b.is_content ∙ f.found;
            stands = f.stands;
          })

      by_stream : ((slice_get s.streams n ≡ None) × (slice_get c.streams n ≡ None)) ⊎ Both s.layout.streams names remembers n (slice_get s.streams n) (slice_get c.streams n)
          → Nowhere names remembers s c n p ⊎ Located names remembers s c n p
      by_stream (inl w) =
          inl (record {
            at = ap (λ o. place_among p (instances_of o) 0) w.0;
            found = ap (life_in (read_params names p)) w.1;
          })
      by_stream (inr b) = of_found b (found_or_none names h remembers n p held' 0 b.seen.instances b.content.lives b.stands.lives)

  -- a stream is poisoned where it is in the content
  pub bad_same : is_bad_seen (slice_get s.streams n) ≡ bad_in (slice_get c.streams n)
  bad_same = by_stream (at_stream s.layout.streams names remembers 0 s.streams c.streams n n (omega arith) stands.streams)
    where
      by_stream : ((slice_get s.streams n ≡ None) × (slice_get c.streams n ≡ None)) ⊎ Both s.layout.streams names remembers n (slice_get s.streams n) (slice_get c.streams n)
          → is_bad_seen (slice_get s.streams n) ≡ bad_in (slice_get c.streams n)
      by_stream (inl w) = ap is_bad_seen w.0 ∙ ap bad_in (sym w.1)
      by_stream (inr b) = ap is_bad_seen b.is ∙ (b.stands.bad ∙ ap bad_in (sym b.is_content))

  -- this step's outcome
  pub record Answers (r : Outcome) (a : Answer) : Type 0 where
    pub value : read_outcome names r ≡ a
    pub held : IsHeldIn names r

  -- the outcome that is shown of an instance
  now_shown : (w : Located names remembers s c n p) → now_at_place s n (place_of s n p) ≡ w.instance.outcome
  now_shown w = ap (now_at_place s n) w.at ∙ ap now_at w.shown

  -- the outcome at a place, and the one of the life
  now_placed : Nowhere names remembers s c n p ⊎ Located names remembers s c n p
      → Answers (now_at_place s n (place_of s n p)) (accesses.now_of (life_in (read_params names p) (slice_get c.streams n)))
  now_placed (inl w) =
      record {
        value = ap (λ o. read_outcome names (now_at_place s n o)) w.at ∙ ap accesses.now_of (sym w.found);
        held = subst (λ (o : Option ℕ). IsHeldIn names (now_at_place s n o)) (sym w.at) tt;
      }
  now_placed (inr w) =
      record {
        value = ap (read_outcome names) (now_shown w) ∙ (w.stands.outcome ∙ ap accesses.now_of (sym w.found));
        held = subst (λ (o : Outcome). IsHeldIn names o) (sym (now_shown w)) w.stands.outcome_held;
      }

  -- poison of the stream, on both sides
  unless : (a b : Bool) → a ≡ b → (x : Outcome) (y : Answer) → Answers x y → Answers (if a then outcome.Poison else x) (unless_bad b y)
  unless true true e x y w = record { value = refl; held = tt }
  unless true false e x y w = absurd (cc)
  unless false true e x y w = absurd (cc)
  unless false false e x y w = w

  -- the value at this step
  pub now_answers : Answers (now_of s n p) (answer_of c access.Get n (read_params names p))
  now_answers = unless (is_bad_seen (slice_get s.streams n)) (bad_in (slice_get c.streams n)) bad_same _ _ (now_placed located)

  -- poison of the stream stays poison
  held_unless : (b : Bool) (a : Answer) (earlier : List (ℕ × Field)) → held (unless_bad b a) earlier ≡ unless_bad b (held a earlier)
  held_unless true a earlier = refl
  held_unless false a earlier = refl

  -- the newest value
  pub newest_answers : (r : Outcome)
      → MatchOption (place_of s n p) (r ≡ now_of s n p) (λ i. (names : Naming) (values : List (ℕ × Field)) → remembers names n i values → IsHeldIn names (now_of s n p) → (read_outcome names r ≡ held_answer (read_outcome names (now_of s n p)) values) × IsHeldIn names r)
      → Answers r (answer_of c access.Hold n (read_params names p))
  newest_answers r m = by_place located
    where
      by_place : Nowhere names remembers s c n p ⊎ Located names remembers s c n p → Answers r (answer_of c access.Hold n (read_params names p))
      by_place (inl w) =
          let e : r ≡ now_of s n p = subst (λ (o : Option ℕ). MatchOption o (r ≡ now_of s n p) (λ i. (names : Naming) (values : List (ℕ × Field)) → remembers names n i values → IsHeldIn names (now_of s n p) → (read_outcome names r ≡ held_answer (read_outcome names (now_of s n p)) values) × IsHeldIn names r)) w.at m in
          record {
            value =
                ap (read_outcome names) e
                ∙ (now_answers.value
                ∙ (ap (λ l. unless_bad (bad_in (slice_get c.streams n)) (accesses.now_of l)) w.found
                ∙ ap (λ l. unless_bad (bad_in (slice_get c.streams n)) (held_of l)) (sym w.found)));
            held = subst (λ (o : Outcome). IsHeldIn names o) (sym e) now_answers.held;
          }
      by_place (inr w) =
          let e : (read_outcome names r ≡ held_answer (read_outcome names (now_of s n p)) w.life.earlier) × IsHeldIn names r = subst (λ (o : Option ℕ). MatchOption o (r ≡ now_of s n p) (λ i. (names : Naming) (values : List (ℕ × Field)) → remembers names n i values → IsHeldIn names (now_of s n p) → (read_outcome names r ≡ held_answer (read_outcome names (now_of s n p)) values) × IsHeldIn names r)) w.at m names w.life.earlier w.stands.earlier now_answers.held in
          record {
            value =
                e.0
                ∙ (ap (λ a. held a w.life.earlier) (now_answers.value ∙ ap (λ l. unless_bad (bad_in (slice_get c.streams n)) (accesses.now_of l)) w.found)
                ∙ (held_unless (bad_in (slice_get c.streams n)) w.life.outcome w.life.earlier
                ∙ ap (λ l. unless_bad (bad_in (slice_get c.streams n)) (held_of l)) (sym w.found)));
            held = e.1;
          }

module _ (w : WindowSpec) (k : Kind) where
  -- a window's answer, of what it depends on
  abbrev windowed : Bool → Bool → ℕ → ℕ → List Field → Answer
  windowed bad spoilt time start values =
      if bad || spoilt then Poisoned
      else if w.exact && nat_lt time (start + w.over) then Missing
      else aggregated w.using k values

  -- what is read of a stream that is poisoned or not
  over_windowed : (s : Seen) (b : Bool) (a : Answer) (values : List (ℕ × Field))
      → window_over s (Some w) k (unless_bad b a) values ≡ windowed b (spoiled a) (time_seen s) (start_seen s) (values_within w.over (time_seen s) (values ++ one_more (time_seen s) a))
  over_windowed s true a values = refl
  over_windowed s false a values = refl

module _ (names : Naming) (h : IsNaming names) (remembers : Memories) (s : Seen) (c : Content) (stands : Stands names remembers s c) (w : WindowSpec) (k : Kind) (p : Params) (held' : AreHeld names (the_values p)) where
  -- time and start are those of the content
  time_same : (b : Bool) (l : Option Life) → windowed w k b (is_poisoned l) (time_seen s) (start_seen s) (window_values w.over (time_seen s) l) ≡ windowed w k b (is_poisoned l) c.time c.start (window_values w.over c.time l)
  time_same b l = ap (λ (t : ℕ). windowed w k b (is_poisoned l) t (start_seen s) (window_values w.over t l)) stands.time ∙ ap (λ (t : ℕ). windowed w k b (is_poisoned l) c.time t (window_values w.over c.time l)) stands.start

  -- the answer of a window
  pub window_answers : (r : Outcome)
      → MatchOption (place_of s w.target p)
      ((names : Naming) → read_outcome names r ≡ window_over s (Some w) k (read_outcome names (now_of s w.target p)) [])
      (λ i. (names : Naming) (values : List (ℕ × Field)) → remembers names w.target i values → read_outcome names r ≡ window_over s (Some w) k (read_outcome names (now_of s w.target p)) values)
      → read_outcome names r ≡ window_answer c w k (read_params names p)
  window_answers r m = by_place (located names h remembers s c stands w.target p held')
    where
      at_place : (o : Option ℕ) → place_of s w.target p ≡ o → MatchOption o
          ((names : Naming) → read_outcome names r ≡ window_over s (Some w) k (read_outcome names (now_of s w.target p)) [])
          (λ i. (names : Naming) (values : List (ℕ × Field)) → remembers names w.target i values → read_outcome names r ≡ window_over s (Some w) k (read_outcome names (now_of s w.target p)) values)
      at_place o e = subst (λ (o : Option ℕ). MatchOption o
          ((names : Naming) → read_outcome names r ≡ window_over s (Some w) k (read_outcome names (now_of s w.target p)) [])
          (λ i. (names : Naming) (values : List (ℕ × Field)) → remembers names w.target i values → read_outcome names r ≡ window_over s (Some w) k (read_outcome names (now_of s w.target p)) values)) e m

      by_place : Nowhere names remembers s c w.target p ⊎ Located names remembers s c w.target p → read_outcome names r ≡ window_answer c w k (read_params names p)
      by_place (inl f) =
          at_place None f.at names
          ∙ (ap (λ a. window_over s (Some w) k a []) ((now_answers names h remembers s c stands w.target p held').value ∙ ap (λ l. unless_bad (bad_in (slice_get c.streams w.target)) (accesses.now_of l)) f.found)
          ∙ (over_windowed w k s (bad_in (slice_get c.streams w.target)) Missing []
          ∙ (time_same (bad_in (slice_get c.streams w.target)) None
          ∙ ap (λ l. windowed w k (bad_in (slice_get c.streams w.target)) (is_poisoned l) c.time c.start (window_values w.over c.time l)) (sym f.found))))
      by_place (inr f) =
          at_place (Some f.place) f.at names f.life.earlier f.stands.earlier
          ∙ (ap (λ a. window_over s (Some w) k a f.life.earlier) ((now_answers names h remembers s c stands w.target p held').value ∙ ap (λ l. unless_bad (bad_in (slice_get c.streams w.target)) (accesses.now_of l)) f.found)
          ∙ (over_windowed w k s (bad_in (slice_get c.streams w.target)) f.life.outcome f.life.earlier
          ∙ (time_same (bad_in (slice_get c.streams w.target)) (Some f.life)
          ∙ ap (λ l. windowed w k (bad_in (slice_get c.streams w.target)) (is_poisoned l) c.time c.start (window_values w.over c.time l)) (sym f.found))))
