-- Which instances of a layer are asked: the others have no outcome.
use Rattle.std.proofs.Common.{◌≡◌, refl, ap, ◌∙◌, sym, subst, ℕ, zero, suc, ◌+◌, ◌<◌, ◌≤◌, ◌⊎◌, inl, inr, List, [], ◌∷◌, Option, Some, Bool, true, false, IsTrue, slice_get, slice_set, length, replicate, arith}
use Rattle.std.proofs.lemmas.Bool.{cases_eq, cases_lt}
use Rattle.lola_value.specs.declared.value.Kind.{Kind}
use Rattle.lola_value.specs.declared.text.Field.{Field}
use Rattle.lola_value.specs.Answer.{Missing}
use Rattle.lola_value.specs.Kinds.{are_of_kinds}
use Rattle.lola_value.specs.Naming.{read_params, the_values}
use Rattle.lola_model.specs.Acceptance.{IsAccepted}
use Rattle.lola_model.specs.Content.{Content}
use Rattle.lola_model.specs.Denotation.{truth}
use Rattle.lola_model.specs.Model.{eval_outcome, eval_pacing, first_answer, guarded, when_answer}
use Rattle.lola_model.specs.NextStep.{is_local}
use Rattle.lola_model.specs.Store.{Layout, Memories, Seen, parameters_of}
use Rattle.lola_model.specs.declared.plan.Plan.{Plan}
use Rattle.lola_model.specs.declared.spec.Clause.{Clause}
use Rattle.lola_model.specs.declared.spec.Spec.{Spec}
use Rattle.lola_model.specs.declared.spec.Stream.{Stream}
use Rattle.lola_model.specs.declared.store.Whereabouts.{Whereabouts}
use Rattle.lola_model.specs.declared.store.Whereabouts.TheVariants.{Unknown}
use Rattle.lola_step_contents.proofs.Clauses.{eval_may_ask}
use Rattle.lola_step_contents.specs.Stages.{eval_stage}
use Rattle.lola_step.specs.Clauses.{eval_answer}
use Rattle.lola_step.specs.Moments.{active_for_in}
use Rattle.lola_step.specs.Notes.{runs_in, sought_at}
use Rattle.lola_step.specs.Progress.{IsAt, IsMomentOf}
use Rattle.lola_step.specs.Schedules.{has_parameters}
use Rattle.lola_step.specs.Sought.{AreSought, AreUnsought, IsFalseElsewhere, IsSilentElsewhere, MayAskWhen}
use Rattle.lola_step.specs.declared.spawn_result.SpawnResult.{SpawnResult}
use Rattle.lola_step.specs.declared.moment.Moment.{Moment}
use Rattle.lola_step.proofs.Activities.{active_for_is}
use Rattle.lola_step.proofs.Alone.{active_alike}
use Rattle.lola_step.proofs.LayerTasks.{at_step, may_there}
use Rattle.lola_step.proofs.Layouts.{parameters_there}

-- where the condition is false there is no outcome
none_where_false : (spec : Spec) (c : Content) (active : Bool) (k : Clause) (p : List Field) → when_answer spec c p k.when ≡ truth false → eval_outcome spec c false active (Some k) p ≡ Missing
none_where_false spec c true k p e = ap (λ a. guarded a (first_answer spec c p k.with)) e
none_where_false spec c false k p e = refl

module _ (plan : Plan) (m : Moment) (remembers : Memories) (s : Seen) (n : ℕ) (x : Stream) (k : Clause) (there : slice_get plan.spec.streams n ≡ Some x) (evals : x.eval ≡ Some k) where
  pub silent_elsewhere : (w : Whereabouts) → IsFalseElsewhere plan remembers s n k w → IsSilentElsewhere plan m remembers s n w
  silent_elsewhere w false_there names c shown i y at out =
      let active = active_for_in m y.born (eval_pacing (slice_get plan.pacings n)) in
      let p = read_params names y.params in
      ap (λ o. eval_answer plan.spec active o c p) there
      ∙ (ap (λ o. eval_outcome plan.spec c false active o p) evals
      ∙ none_where_false plan.spec c active k p (false_there names c shown i y at out))

  -- the clause of a stream that runs may be asked for its condition, if it is active for all instances alike
  pub eval_may_ask_when : (accepted : IsAccepted plan) (spawn_results : List SpawnResult) (sought : List Whereabouts) (layer : ℕ) (at : IsAt plan (eval_stage (length plan.spec.streams) layer) s) (moment : IsMomentOf m s)
      → runs_in plan m spawn_results layer n x ≡ true → is_local (eval_pacing (slice_get plan.pacings n)) ≡ false → MayAskWhen plan s n k
  eval_may_ask_when accepted spawn_results sought layer at moment runs alike p kinds =
      let pacing = eval_pacing (slice_get plan.pacings n) in
      let same : parameters_of (slice_get s.layout.streams n) ≡ x.parameters =
      ap (λ (l : Layout). parameters_of (slice_get l.streams n)) at.of.layout ∙ parameters_there plan.spec.streams plan.kept plan.pacings n x there in
      let active = active_alike m pacing 0 alike (may_there plan m spawn_results sought s layer accepted at moment n x runs) in
      (eval_may_ask plan m.start moment.step s n x k p accepted (at_step plan m spawn_results sought s layer accepted at moment) there evals 0
      (sym (active_for_is m.start moment.step m moment.is 0 0 pacing (λ l. refl)) ∙ active) (subst (λ (ks : List Kind). IsTrue (are_of_kinds ks (the_values p))) same kinds)).when

-- one place of a list is written

read_set : (ws : List Whereabouts) (n : ℕ) (w : Whereabouts) → n < length ws → sought_at (slice_set ws n w) n ≡ w
read_set [] n w h = absurd (omega (arith, h))
read_set (v ∷ ws) zero w h = refl
read_set (v ∷ ws) (suc n) w h = read_set ws n w (omega (arith, h))

read_else : (ws : List Whereabouts) (n i : ℕ) (w : Whereabouts) → (i ≡ n → ⊥) → sought_at (slice_set ws n w) i ≡ sought_at ws i
read_else [] n i w ne = refl
read_else (v ∷ ws) zero zero w ne = absurd (ne refl)
read_else (v ∷ ws) zero (suc i) w ne = refl
read_else (v ∷ ws) (suc n) zero w ne = refl
read_else (v ∷ ws) (suc n) (suc i) w ne = read_else ws n i w (λ q. ne (ap suc q))

one_stream : (a b : Stream) (o : Option Stream) → o ≡ Some a → o ≡ Some b → a ≡ b
one_stream a b o e f = let q : Some a ≡ Some b = sym e ∙ f in cc

under : (a b : ℕ) → (a ≡ b → ⊥) → a < b + 1 → a < b
under a b q le = by (cases_lt a b)
  where
    by : (a < b) ⊎ (b ≤ a) → a < b
    by (inl h) = h
    by (inr h) = absurd (q (omega (arith, h, le)))

within : (xs : List Stream) (i : ℕ) (y : Stream) → slice_get xs i ≡ Some y → i < length xs
within [] i y e = absurd (cc)
within (z ∷ xs) zero y e = omega arith
within (z ∷ xs) (suc i) y e = omega (arith, within xs i y e)

module _ (plan : Plan) (m : Moment) (spawn_results : List SpawnResult) (remembers : Memories) (s : Seen) (layer : ℕ) where
  -- of the streams before one of a number it is noted
  abbrev pub SoughtUpTo : ℕ → List Whereabouts → Type 0
  SoughtUpTo k sought =
      (n : ℕ) (x : Stream) → n < k → slice_get plan.spec.streams n ≡ Some x → runs_in plan m spawn_results layer n x ≡ true → IsSilentElsewhere plan m remembers s n (sought_at sought n)

  pub sought_next : (k : ℕ) (y : Stream) (w : Whereabouts) (sought : List Whereabouts) → k < length sought → slice_get plan.spec.streams k ≡ Some y
      → (runs_in plan m spawn_results layer k y ≡ true → IsSilentElsewhere plan m remembers s k w) → SoughtUpTo k sought → SoughtUpTo (k + 1) (slice_set sought k w)
  sought_next k y w sought within there here h n x below at runs = by (cases_eq n k)
    where
      by : (n ≡ k) ⊎ (n ≡ k → ⊥) → IsSilentElsewhere plan m remembers s n (sought_at (slice_set sought k w) n)
      by (inl e) =
          let same : x ≡ y = one_stream x y (slice_get plan.spec.streams k) (ap (λ i. slice_get plan.spec.streams i) (sym e) ∙ at) there in
          let P : ℕ → Type 0 = λ i. IsSilentElsewhere plan m remembers s i (sought_at (slice_set sought k w) i) in
          let Q : Whereabouts → Type 0 = λ v. IsSilentElsewhere plan m remembers s k v in
          let R : ℕ → Type 0 = λ i. runs_in plan m spawn_results layer i y ≡ true in
          subst P (sym e) (subst Q (sym (read_set sought k w within)) (here (subst R e (subst (λ (z : Stream). runs_in plan m spawn_results layer n z ≡ true) same runs))))
      by (inr ne) =
          let Q : Whereabouts → Type 0 = λ v. IsSilentElsewhere plan m remembers s n v in
          subst Q (sym (read_else sought k n w ne)) (h n x (under n k ne below) at runs)

  -- where a stream does not run nothing is to be noted of it
  pub sought_none : (k : ℕ) (y : Stream) (sought : List Whereabouts) → slice_get plan.spec.streams k ≡ Some y → runs_in plan m spawn_results layer k y ≡ false
      → SoughtUpTo k sought → SoughtUpTo (k + 1) sought
  sought_none k y sought there idle h n x below at runs = by (cases_eq n k)
    where
      by : (n ≡ k) ⊎ (n ≡ k → ⊥) → IsSilentElsewhere plan m remembers s n (sought_at sought n)
      by (inl e) =
          let same : x ≡ y = one_stream x y (slice_get plan.spec.streams k) (ap (λ i. slice_get plan.spec.streams i) (sym e) ∙ at) there in
          let R : ℕ → Type 0 = λ i. runs_in plan m spawn_results layer i y ≡ true in
          let run : runs_in plan m spawn_results layer k y ≡ true = subst R e (subst (λ (z : Stream). runs_in plan m spawn_results layer n z ≡ true) same runs) in
          absurd (cc)
      by (inr ne) = h n x (under n k ne below) at runs

  -- where what is noted of it serves, that stays
  pub sought_kept : (k : ℕ) (y : Stream) (sought : List Whereabouts) → slice_get plan.spec.streams k ≡ Some y → IsSilentElsewhere plan m remembers s k (sought_at sought k)
      → SoughtUpTo k sought → SoughtUpTo (k + 1) sought
  sought_kept k y sought there here h n x below at runs = by (cases_eq n k)
    where
      by : (n ≡ k) ⊎ (n ≡ k → ⊥) → IsSilentElsewhere plan m remembers s n (sought_at sought n)
      by (inl e) =
          let P : ℕ → Type 0 = λ i. IsSilentElsewhere plan m remembers s i (sought_at sought i) in
          subst P (sym e) here
      by (inr ne) = h n x (under n k ne below) at runs

  pub sought_all : (k : ℕ) (sought : List Whereabouts) → length plan.spec.streams ≤ k → SoughtUpTo k sought → AreSought plan m spawn_results sought remembers s layer
  sought_all k sought past h n x at runs = h n x (omega (arith, past, within plan.spec.streams n x at)) at runs

-- where nothing is known no instance stands elsewhere
pub unknown_silent : (plan : Plan) (m : Moment) (remembers : Memories) (s : Seen) (n : ℕ) (w : Whereabouts) → w ≡ Unknown → IsSilentElsewhere plan m remembers s n w
unknown_silent plan m remembers s n w e =
    let P : Whereabouts → Type 0 = λ v. IsSilentElsewhere plan m remembers s n v in
    subst P (sym e) (λ names c shown i y at out. absurd (cc))

-- nothing is noted of streams without parameters

unknown_at : (k n : ℕ) → sought_at (replicate k Unknown) n ≡ Unknown
unknown_at zero n = refl
unknown_at (suc k) zero = refl
unknown_at (suc k) (suc n) = unknown_at k n

pub all_unsought : (plan : Plan) (k : ℕ) (sought : List Whereabouts) → sought ≡ replicate k Unknown → AreUnsought plan sought
all_unsought plan k sought e n x at none = ap (λ ws. sought_at ws n) e ∙ unknown_at k n

pub unsought_set : (plan : Plan) (k : ℕ) (y : Stream) (w : Whereabouts) (sought : List Whereabouts) → slice_get plan.spec.streams k ≡ Some y → has_parameters y ≡ true
    → AreUnsought plan sought → AreUnsought plan (slice_set sought k w)
unsought_set plan k y w sought there some h n x at none = by (cases_eq n k)
  where
    by : (n ≡ k) ⊎ (n ≡ k → ⊥) → sought_at (slice_set sought k w) n ≡ Unknown
    by (inl e) =
        let same : x ≡ y = one_stream x y (slice_get plan.spec.streams k) (ap (λ i. slice_get plan.spec.streams i) (sym e) ∙ at) there in
        let has : has_parameters x ≡ true = ap has_parameters same ∙ some in
        absurd (cc)
    by (inr ne) = read_else sought k n w ne ∙ h n x at none
