-- What close conditions come to: over the store as it shows the instances, and over the row for which it stands.
use Rattle.std.proofs.Common.{◌≡◌, refl, ap, ◌∙◌, sym, subst, ℕ, suc, ◌+◌, ◌<◌, ◌≤◌, List, [], ◌∷◌, ◌++◌, Option, Some, None, Bool, true, false, if◌then◌else◌, slice_get, length, map, drop, arith, append_assoc, append-nil}
use Rattle.std.proofs.lemmas.List.{map-append}
use Rattle.lola_value.specs.declared.value.FaultKind.{FaultKind}
use Rattle.lola_value.specs.declared.value.Outcome.{Outcome}
use Rattle.lola_value.specs.declared.value.Outcome.TheVariants as outcome
use Rattle.lola_value.specs.declared.value.Value.TheVariants as value
use Rattle.lola_value.specs.Answer.{Answer, Given, Missing, Faulted, Poisoned}
use Rattle.lola_value.specs.Naming.{Naming, read_outcome, read_params, text_at, the_text}
use Rattle.lola_model.specs.Acceptance.{IsAccepted}
use Rattle.lola_model.specs.Content.{Content, Life, content, life_of, time_of}
use Rattle.lola_model.specs.Faults.{RowFault, add_faulted, least_kind}
use Rattle.lola_model.specs.Model.{add_fault, asked_to_close, close_answer, close_faults_among, close_pacing, is_closing_for}
use Rattle.lola_model.specs.NextStep.{is_local}
use Rattle.lola_model.specs.Store.{Memories, Seen, SeenInstance, Stands, StandForLives, instances_seen, layout_of}
use Rattle.lola_model.specs.Table.{Step, Living, StreamRow, TableRow}
use Rattle.lola_model.specs.declared.pacing.Pacing.{Pacing}
use Rattle.lola_model.specs.declared.plan.Plan.{Plan}
use Rattle.lola_model.specs.declared.spec.Clause.{Clause}
use Rattle.lola_model.specs.declared.spec.Stream.{Stream}
use Rattle.lola_expr.specs.Evaluation.{Sees}
use Rattle.lola_step_contents.specs.Ends.{Place, add_place, closing_fault, closings, closings_from, close_fault, first_close_fault, places_closed}
use Rattle.lola_step_contents.specs.Stages.{full_row}
use Rattle.lola_step_contents.proofs.Fixed.{full_is}
use Rattle.lola_step.specs.Clauses.{IsAnswer, closing_answer}
use Rattle.lola_step.specs.Closings.{FindsAll, FindsAmong, FindsIn, IsShown, all_places, closed_by, condition_of, first_condition, least_condition, places_true, stream_condition, stream_places}
use Rattle.lola_step.specs.Ends.{FindsClosings}
use Rattle.lola_step.specs.Found.{fault_or, least_of}
use Rattle.lola_step.specs.Found as found
use Rattle.lola_step.specs.Moments.{IsMoment, active_for_in, birth_at, born_seen, may_be_active_in}
use Rattle.lola_step.specs.Notes.{place_of_task, places_of, read_fault}
use Rattle.lola_step.specs.Progress.{IsOf}
use Rattle.lola_step.specs.Tasks.{params_at, params_seen}
use Rattle.lola_step.specs.declared.moment.Moment.{Moment}
use Rattle.lola_step.specs.declared.tasks.Task.{Task}
use Rattle.lola_step.proofs.Activities.{active_for_is, never_active_in}
use Rattle.lola_step.proofs.Asking.{closes_locally}
use Rattle.lola_step.proofs.Faulty.{least_of_none, outcome_moves, same_kind}
use Rattle.lola_step.proofs.Elements.{Element, cut, drop_past, element}
use Rattle.lola_step.proofs.Standing.{births_shown, length-full, lives_shown, params_held}

-- one instance

module _ (names : Naming) where
  -- a true condition lists its instance
  pub place_listed : (o : Outcome) (t : Task) (rest : List Place) → places_of (closed_by o t) ++ rest ≡ add_place (read_outcome names o) t.stream t.index rest
  place_listed (outcome.Value (value.Bool true)) t rest = refl
  place_listed (outcome.Value (value.Bool false)) t rest = refl
  place_listed (outcome.Value (value.Int z)) t rest = refl
  place_listed (outcome.Value (value.Text id)) t rest = of_text (text_at names id.0)
    where
      of_text : (o : Option (List ℕ)) → rest ≡ add_place (Given (the_text o)) t.stream t.index rest
      of_text None = refl
      of_text (Some s) = refl
  place_listed outcome.Missing t rest = refl
  place_listed (outcome.Fault k) t rest = refl
  place_listed outcome.Poison t rest = refl

  module _ (plan : Plan) (c : Content) (m : Moment) (p : Option Pacing) (k : Option Clause) (n i : ℕ) (xs : List SeenInstance) where
    -- the fault so far and those to come
    fault_noted : (x : SeenInstance) (o : Outcome) (least next : Option FaultKind) → slice_get xs i ≡ Some x → read_outcome names o ≡ condition_of plan names c m p k x → next ≡ found.add_fault o least
        → least_of least (least_condition plan names c m p k (drop i xs)) ≡ least_condition plan names c m p k xs
        → least_of next (least_condition plan names c m p k (drop (i + 1) xs)) ≡ least_condition plan names c m p k xs
    fault_noted x o least next at answer e so_far =
        let rest : Option FaultKind = least_condition plan names c m p k (drop (i + 1) xs) in
        ap (λ f. least_of f rest) e
        ∙ (outcome_moves o least rest
        ∙ (ap (least_of least) (same_kind names o rest ∙ ap (λ a. add_faulted a rest) answer)
        ∙ (ap (λ ys. least_of least (least_condition plan names c m p k ys)) (sym (cut xs i x at))
        ∙ so_far)))

    -- the places so far and those to come
    place_noted : (x : SeenInstance) (o : Outcome) (old new : List Task) (all : List Place) → slice_get xs i ≡ Some x → read_outcome names o ≡ condition_of plan names c m p k x
        → new ≡ old ++ closed_by o (record { stream = n; index = i })
        → places_of old ++ places_true plan names c m p k n i (drop i xs) ≡ all
        → places_of new ++ places_true plan names c m p k n (i + 1) (drop (i + 1) xs) ≡ all
    place_noted x o old new all at answer e so_far =
        let t : Task = record { stream = n; index = i } in
        let rest : List Place = places_true plan names c m p k n (i + 1) (drop (i + 1) xs) in
        ap (λ (ts : List Task). places_of ts ++ rest) e
        ∙ (ap (λ (ps : List Place). ps ++ rest) (map-append place_of_task old (closed_by o t))
        ∙ (append_assoc (places_of old) (places_of (closed_by o t)) rest
        ∙ (ap (λ (ps : List Place). places_of old ++ ps) (place_listed o t rest ∙ ap (λ a. add_place a n i rest) answer)
        ∙ (ap (λ ys. places_of old ++ places_true plan names c m p k n i ys) (sym (cut xs i x at))
        ∙ so_far))))

-- instances of a stream, whose conditions are asked one after the other
module _ (plan : Plan) (m : Moment) (p : Option Pacing) (remembers : Memories) (s : Seen) (k : Option Clause) (n : ℕ) where
  -- up to a place
  abbrev pub FoundUpTo : ℕ → Option FaultKind → List Task → List Task → Type 0
  FoundUpTo i least old new =
      (names : Naming) (c : Content) → IsShown plan names c remembers s
      → (least_of least (least_condition plan names c m p k (drop i (instances_seen s n))) ≡ least_condition plan names c m p k (instances_seen s n))
      × (places_of new ++ places_true plan names c m p k n i (drop i (instances_seen s n)) ≡ places_of old ++ places_true plan names c m p k n 0 (instances_seen s n))

  -- the next one
  pub found_next : s.layout ≡ layout_of plan → (i : ℕ) → i < length (instances_seen s n) → (o : Outcome) (least next : Option FaultKind) (old now new : List Task)
      → IsAnswer plan remembers s (params_seen s n i) (closing_answer plan.spec (active_for_in m (born_seen s n i) p) k) o
      → next ≡ found.add_fault o least → new ≡ now ++ closed_by o (record { stream = n; index = i })
      → FoundUpTo i least old now → FoundUpTo (i + 1) next old new
  found_next layout i below o least next old now new answers e f so_far names c shown =
      let xs : List SeenInstance = instances_seen s n in
      let x : Element xs i = element xs i below in
      let sees : Sees plan names c remembers s x.at.params = record { naming = shown.naming; layout = layout; held = params_held names remembers s c shown.stands n i x.at x.is; stands = shown.stands } in
      let h = subst (λ (t : Option SeenInstance). IsAnswer plan remembers s (params_at t) (closing_answer plan.spec (active_for_in m (birth_at t) p) k) o) x.is answers in
      let answer : read_outcome names o ≡ condition_of plan names c m p k x.at = (h names c sees shown.texts).0 in
      let before = so_far names c shown in (
        fault_noted names plan c m p k n i xs x.at o least next x.is answer e before.0,
        place_noted names plan c m p k n i xs x.at o now new _ x.is answer f before.1,
      )

  -- all of them
  pub found_among : (i : ℕ) (least : Option FaultKind) (old new : List Task) → length (instances_seen s n) ≤ i → FoundUpTo i least old new → FindsAmong plan m p remembers s k n least old new
  found_among i least old new past so_far names c shown =
      let none : drop i (instances_seen s n) ≡ [] = drop_past (instances_seen s n) i past in
      let h = so_far names c shown in (
        sym (least_of_none least) ∙ (ap (λ ys. least_of least (least_condition plan names c m p k ys)) (sym none) ∙ h.0),
        sym (append-nil (places_of new)) ∙ (ap (λ ys. places_of new ++ places_true plan names c m p k n i ys) (sym none) ∙ h.1),
      )

-- a stream

module _ (plan : Plan) (m : Moment) (remembers : Memories) (s : Seen) (n : ℕ) where
  -- nothing is found where no condition is asked
  module _ (p : Option Pacing) (k : Option Clause) (ts : List Task) (never : (names : Naming) (c : Content) (x : SeenInstance) → condition_of plan names c m p k x ≡ Missing) where
    no_condition : (names : Naming) (c : Content) (xs : List SeenInstance) → least_condition plan names c m p k xs ≡ None
    no_condition names c [] = refl
    no_condition names c (x ∷ xs) = ap (λ a. add_faulted a (least_condition plan names c m p k xs)) (never names c x) ∙ no_condition names c xs

    no_place : (names : Naming) (c : Content) (i : ℕ) (xs : List SeenInstance) → places_true plan names c m p k n i xs ≡ []
    no_place names c i [] = refl
    no_place names c i (x ∷ xs) = ap (λ a. add_place a n i (places_true plan names c m p k n (i + 1) xs)) (never names c x) ∙ no_place names c (i + 1) xs

    nothing_in : FindsAmong plan m p remembers s k n None ts ts
    nothing_in names c shown = (
      sym (no_condition names c (instances_seen s n)),
      sym (append-nil (places_of ts)) ∙ ap (λ (ps : List Place). places_of ts ++ ps) (sym (no_place names c 0 (instances_seen s n))),
    )

  module _ (x : Stream) (ts : List Task) where
    abbrev pacing : Option Pacing
    pacing = close_pacing (slice_get plan.pacings n)

    -- there is no close clause
    pub none_without : x.close ≡ None → FindsIn plan m remembers s n x None ts ts
    none_without e = nothing_in pacing x.close ts (λ names c y. ap (λ k. condition_of plan names c m pacing k y) e ∙ either (active_for_in m y.born pacing))
      where
        either : (b : Bool) → (if b then Missing else Missing) ≡ Missing
        either true = refl
        either false = refl

    -- or it is active for no instance
    pub none_active : may_be_active_in m pacing ≡ false → FindsIn plan m remembers s n x None ts ts
    none_active e = nothing_in pacing x.close ts
        (λ names c y. ap (λ b. closing_answer plan.spec b x.close c (read_params names y.params)) (never_active_in m y.born pacing e))

    -- or it is asked
    pub found_in : (p : Option Pacing) (k : Clause) (found : Option FaultKind) (us : List Task) → p ≡ pacing → x.close ≡ Some k → FindsAmong plan m p remembers s (Some k) n found ts us
        → FindsIn plan m remembers s n x found ts us
    found_in p k found us e f h =
        subst (λ o. FindsAmong plan m o remembers s x.close n found ts us) e (subst (λ o. FindsAmong plan m p remembers s o n found ts us) (sym f) h)

-- all streams, one after the other
module _ (plan : Plan) (m : Moment) (remembers : Memories) (s : Seen) where
  -- up to a stream, of which none has a fault
  abbrev pub FoundBefore : ℕ → List Task → Type 0
  FoundBefore n ts =
      (names : Naming) (c : Content) → IsShown plan names c remembers s
      → (first_condition plan names c m s n (drop n plan.spec.streams) ≡ first_condition plan names c m s 0 plan.spec.streams)
      × (places_of ts ++ all_places plan names c m s n (drop n plan.spec.streams) ≡ all_places plan names c m s 0 plan.spec.streams)

  module _ (n : ℕ) (x : Stream) (at : slice_get plan.spec.streams n ≡ Some x) (old new : List Task) (so_far : FoundBefore n old) where
    -- the next one has none
    pub found_stream : FindsIn plan m remembers s n x None old new → FoundBefore (n + 1) new
    found_stream finds names c shown =
        let h = finds names c shown in
        let before = so_far names c shown in
        let rest : List Place = all_places plan names c m s (n + 1) (drop (n + 1) plan.spec.streams) in (
          ap (λ o. fault_or n o (first_condition plan names c m s (n + 1) (drop (n + 1) plan.spec.streams))) h.0
              ∙ (ap (first_condition plan names c m s n) (sym (cut plan.spec.streams n x at))
              ∙ before.0),
          ap (λ (ps : List Place). ps ++ rest) h.1
              ∙ (append_assoc (places_of old) (stream_places plan names c m s n x) rest
              ∙ (ap (λ ys. places_of old ++ all_places plan names c m s n ys) (sym (cut plan.spec.streams n x at))
              ∙ before.1)),
        )

    -- or has one
    pub found_fault : (k : FaultKind) → FindsIn plan m remembers s n x (Some k) old new → FindsAll plan m remembers s (Some (n, k)) new
    found_fault k finds names c shown = (
      ap (λ o. fault_or n o (first_condition plan names c m s (n + 1) (drop (n + 1) plan.spec.streams))) (finds names c shown).0
          ∙ (ap (first_condition plan names c m s n) (sym (cut plan.spec.streams n x at))
          ∙ (so_far names c shown).0),
      λ e. absurd (cc),
    )

  -- none has one
  pub found_all : (n : ℕ) (ts : List Task) → length plan.spec.streams ≤ n → FoundBefore n ts → FindsAll plan m remembers s None ts
  found_all n ts past so_far names c shown =
      let none : drop n plan.spec.streams ≡ [] = drop_past plan.spec.streams n past in
      let h = so_far names c shown in (
        ap (first_condition plan names c m s n) (sym none) ∙ h.0,
        λ e. sym (append-nil (places_of ts)) ∙ (ap (λ ys. places_of ts ++ all_places plan names c m s n ys) (sym none) ∙ h.1),
      )

-- over a row

kinds_counted : (a : Answer) (ks : List FaultKind) → least_kind (add_fault a ks) ≡ add_faulted a (least_kind ks)
kinds_counted (Faulted k) ks = refl
kinds_counted (Given v) ks = refl
kinds_counted Missing ks = refl
kinds_counted Poisoned ks = refl

faulted_if : (b : Bool) (a : Answer) (ks : Option FaultKind) → add_faulted (if b then a else Missing) ks ≡ (if b then add_faulted a ks else ks)
faulted_if true a ks = refl
faulted_if false a ks = refl

place_if : (b : Bool) (a : Answer) (n i : ℕ) (rest : List Place) → add_place (if b then a else Missing) n i rest ≡ (if b then add_place a n i rest else rest)
place_if true a n i rest = refl
place_if false a n i rest = refl

module _ (plan : Plan) (names : Naming) (remembers : Memories) (c : Content) (m : Moment) (rows : List TableRow) (step : Step) (moment : IsMoment m.start step m) (k : Option Clause) (n : ℕ) where
  abbrev paced : Option Pacing
  paced = close_pacing (slice_get plan.pacings n)

  abbrev asked : List Living → List Living
  asked ls = asked_to_close plan m.start rows step n ls

  -- where the clause is local, these instances were born when those of the row were
  abbrev BornAs : List SeenInstance → List Living → Type 0
  BornAs xs ls = is_local paced ≡ true → map (λ (x : SeenInstance). x.born) xs ≡ map (λ (l : Life). l.born) (map (life_of rows step.time n) ls)

  same_for : (x : SeenInstance) (xs : List SeenInstance) (l : Living) (ls : List Living) → BornAs (x ∷ xs) (l ∷ ls) → active_for_in m x.born paced ≡ is_closing_for plan m.start rows step n l.instance
  same_for x xs l ls born = active_for_is m.start step m moment x.born (time_of step.time (slice_get rows l.instance.born)) paced (λ local. (let e = born local in cc))

  born_later : (x : SeenInstance) (xs : List SeenInstance) (l : Living) (ls : List Living) → BornAs (x ∷ xs) (l ∷ ls) → BornAs xs ls
  born_later x xs l ls born local = let e = born local in cc

  counted : (b : Bool) (l : Living) (ls : List Living)
      → (if b then add_faulted (close_answer plan.spec c k l.instance.params) (least_kind (close_faults_among plan.spec c k ls)) else least_kind (close_faults_among plan.spec c k ls))
      ≡ least_kind (close_faults_among plan.spec c k (if b then l ∷ ls else ls))
  counted true l ls = sym (kinds_counted (close_answer plan.spec c k l.instance.params) (close_faults_among plan.spec c k ls))
  counted false l ls = refl

  -- a condition is asked of the same instances
  same_condition : (i : ℕ) (x : SeenInstance) (xs : List SeenInstance) (l : Living) (ls : List Living) → read_params names x.params ≡ l.instance.params → BornAs (x ∷ xs) (l ∷ ls)
      → condition_of plan names c m paced k x ≡ (if is_closing_for plan m.start rows step n l.instance then close_answer plan.spec c k l.instance.params else Missing)
  same_condition i x xs l ls params born =
      ap (λ b. closing_answer plan.spec b k c (read_params names x.params)) (same_for x xs l ls born)
      ∙ ap (λ p. closing_answer plan.spec (is_closing_for plan m.start rows step n l.instance) k c p) params

  least_is : (i : ℕ) (xs : List SeenInstance) (ls : List Living) → StandForLives names remembers n i xs (map (life_of rows step.time n) ls) → BornAs xs ls
      → least_condition plan names c m paced k xs ≡ least_kind (close_faults_among plan.spec c k (asked ls))
  least_is i [] [] h born = refl
  least_is i [] (l ∷ ls) h born = absurd h
  least_is i (x ∷ xs) [] h born = absurd h
  least_is i (x ∷ xs) (l ∷ ls) h born =
      let b = is_closing_for plan m.start rows step n l.instance in
      ap (λ a. add_faulted a (least_condition plan names c m paced k xs)) (same_condition i x xs l ls h.0.params born)
      ∙ (faulted_if b (close_answer plan.spec c k l.instance.params) (least_condition plan names c m paced k xs)
      ∙ (ap (λ ks. if b then add_faulted (close_answer plan.spec c k l.instance.params) ks else ks) (least_is (i + 1) xs ls h.1 (born_later x xs l ls born))
      ∙ counted b l (asked ls)))

  places_are : (i : ℕ) (xs : List SeenInstance) (ls : List Living) → StandForLives names remembers n i xs (map (life_of rows step.time n) ls) → BornAs xs ls
      → places_true plan names c m paced k n i xs ≡ places_closed plan m.start rows step c k n i ls
  places_are i [] [] h born = refl
  places_are i [] (l ∷ ls) h born = absurd h
  places_are i (x ∷ xs) [] h born = absurd h
  places_are i (x ∷ xs) (l ∷ ls) h born =
      let b = is_closing_for plan m.start rows step n l.instance in
      ap (λ a. add_place a n i (places_true plan names c m paced k n (i + 1) xs)) (same_condition i x xs l ls h.0.params born)
      ∙ (place_if b (close_answer plan.spec c k l.instance.params) n i (places_true plan names c m paced k n (i + 1) xs)
      ∙ ap (λ ps. if b then add_place (close_answer plan.spec c k l.instance.params) n i ps else ps) (places_are (i + 1) xs ls h.1 (born_later x xs l ls born)))

module _ (plan : Plan) (accepted : IsAccepted plan) (m : Moment) (remembers : Memories) (s : Seen) (of : IsOf plan s) where
  module _ (names : Naming) (rows : List TableRow) (step : Step) (moment : IsMoment m.start step m) (stands : Stands names remembers s (content m.start rows (full_row plan m.start rows step))) where
    abbrev row : TableRow
    row = full_row plan m.start rows step

    abbrev all : Content
    all = content m.start rows row

    -- the fault of a stream, and its places
    SameAs : ℕ → Stream → StreamRow → Type 0
    SameAs n x y =
        (stream_condition plan names all m s n x ≡ close_fault plan m.start rows step all n x y)
        × (stream_places plan names all m s n x ≡ places_closed plan m.start rows step all x.close n 0 y.living)

    same_as : (n : ℕ) (x : Stream) (y : StreamRow) → slice_get plan.spec.streams n ≡ Some x → slice_get row.streams n ≡ Some y → SameAs n x y
    unfolding SameAs
    same_as n x y there at =
        let at_time : row.step.time ≡ step.time = ap (λ (r : TableRow). r.step.time) (full_is plan m.start rows step) in
        let xs : List SeenInstance = instances_seen s n in
        let lives : StandForLives names remembers n 0 xs (map (life_of rows step.time n) y.living) =
        subst (λ t. StandForLives names remembers n 0 xs (map (life_of rows t n) y.living)) at_time (lives_shown names remembers s m.start rows row stands n y at) in
        let born : BornAs plan names remembers all m rows step moment x.close n xs y.living =
        λ local.
        births_shown names remembers s m.start rows row stands n y at (closes_locally plan accepted s of n x there local)
        ∙ ap (λ t. map (λ (l : Life). l.born) (map (life_of rows t n) y.living)) at_time in (
          least_is plan names remembers all m rows step moment x.close n 0 xs y.living lives born,
          places_are plan names remembers all m rows step moment x.close n 0 xs y.living lives born,
        )

    fault_then : (n : ℕ) (o p : Option FaultKind) (rest : Option (ℕ × FaultKind)) (others : Option RowFault) → o ≡ p → read_fault rest ≡ others
        → read_fault (fault_or n o rest) ≡ elim p as (λ _. Option RowFault) [ None ↦ others | Some k ↦ Some (record { stream = n; kind = k }) ]
    fault_then n o p rest others e f = ap (λ q. read_fault (fault_or n q rest)) e ∙ by p
      where
        by : (p : Option FaultKind) → read_fault (fault_or n p rest) ≡ elim p as (λ _. Option RowFault) [ None ↦ others | Some k ↦ Some (record { stream = n; kind = k }) ]
        by None = f
        by (Some k) = refl

    rows_are : (n : ℕ) (xs : List Stream) (ys : List StreamRow) → length ys ≡ length xs → ((i j : ℕ) (x : Stream) (y : StreamRow) → j ≡ n + i → slice_get xs i ≡ Some x → slice_get ys i ≡ Some y → SameAs j x y)
        → (read_fault (first_condition plan names all m s n xs) ≡ first_close_fault plan m.start rows step all n xs ys)
        × (all_places plan names all m s n xs ≡ closings_from plan m.start rows step all n xs ys)
    unfolding SameAs
    rows_are n [] ys e each = (refl, refl)
    rows_are n (x ∷ xs) [] e each = absurd (omega arith)
    rows_are n (x ∷ xs) (y ∷ ys) e each =
        let here = each 0 n x y (omega arith) refl refl in
        let rest = rows_are (n + 1) xs ys (omega arith) (λ i j z w f g h. each (suc i) j z w (omega arith) g h) in (
          fault_then n _ _ (first_condition plan names all m s (n + 1) xs) _ here.0 rest.0,
          ap (λ (ps : List Place). ps ++ all_places plan names all m s (n + 1) xs) here.1
              ∙ ap (λ (ps : List Place). places_closed plan m.start rows step all x.close n 0 y.living ++ ps) rest.1,
        )

    pub of_row : (read_fault (first_condition plan names all m s 0 plan.spec.streams) ≡ closing_fault plan m.start rows step)
        × (all_places plan names all m s 0 plan.spec.streams ≡ closings plan m.start rows step)
    of_row = rows_are 0 plan.spec.streams row.streams (length-full plan accepted.acyclic m.start rows step)
        (λ i j x y e there at. same_as j x y (subst (λ k. slice_get plan.spec.streams k ≡ Some x) (omega arith) there) (subst (λ k. slice_get row.streams k ≡ Some y) (omega arith) at))

  -- what is found of conditions over whatever the store stands for is what close clauses do in the row
  pub finds_closings : (found : Option (ℕ × FaultKind)) (ts : List Task) → FindsAll plan m remembers s found ts → FindsClosings plan m remembers s found ts
  finds_closings found ts h names rows step run moment stands =
      let g = h names (content m.start rows (full_row plan m.start rows step)) (record { naming = run.naming; texts = run.texts; stands = stands }) in
      let of = of_row names rows step moment stands in
      (ap read_fault g.0 ∙ of.0, λ e. g.1 e ∙ of.1)
