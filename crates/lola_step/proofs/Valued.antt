-- The values that are collected are those of the row that may have lines.
use Rattle.std.proofs.Common.{◌≡◌, refl, ap, ◌∙◌, sym, subst, ℕ, zero, suc, ◌+◌, ◌<◌, ◌≤◌, List, [], ◌∷◌, ◌++◌, Option, Some, Bool, true, false, if◌then◌else◌, slice_get, length, map, drop, arith, append_assoc, append-nil, nat_eq, get_or, min, ◌-◌, take}
use Rattle.std.proofs.lemmas.Bool.{eqb-true}
use Rattle.std.proofs.lemmas.List.{length-drop, length-take}
use Rattle.std.proofs.lemmas.Option.{slice_get-get_or}
use Rattle.lola_value.specs.declared.text.Field.{Field}
use Rattle.lola_value.specs.declared.value.Kind.{Kind}
use Rattle.lola_value.specs.declared.value.Outcome.{Outcome}
use Rattle.lola_value.specs.declared.value.Outcome.TheVariants as outcome
use Rattle.lola_value.specs.declared.value.Params.{Params}
use Rattle.lola_value.specs.Answer.{Answer, Missing}
use Rattle.lola_value.specs.Kinds.{are_of_kinds}
use Rattle.lola_value.specs.Naming.{Naming, AreHeld, IsHeldIn, read_outcome, read_params, the_values}
use Rattle.lola_model.specs.Acceptance.{IsAccepted}
use Rattle.lola_model.specs.Content.{content, life_of}
use Rattle.lola_model.specs.Model.{is_input}
use Rattle.lola_model.specs.Named.{has_clause}
use Rattle.lola_model.specs.Store.{Layout, Memories, Seen, SeenInstance, Stands, StandForLives, instances_seen, kind_in, layout_of, no_params, parameters_of}
use Rattle.lola_model.specs.Table.{Step, Living, StreamRow, TableRow}
use Rattle.lola_model.specs.declared.journal.Show.{Show}
use Rattle.lola_model.specs.declared.plan.Plan.{Plan}
use Rattle.lola_model.specs.declared.spec.Stream.{Stream}
use Rattle.lola_step_contents.specs.Ends.{RowValue, add_value, values_among}
use Rattle.lola_step_contents.specs.Nexts.{living_in}
use Rattle.lola_step_contents.specs.Stages.{full_row}
use Rattle.lola_step.specs.Ends.{CollectsStepValues, shown_values}
use Rattle.lola_step.specs.Found.{FitLayout, add_step_value, step_values_among, step_values_with, all_step_values, is_hidden}
use Rattle.lola_step.specs.Notes.{AreNoted, AreOfStream, AreOutcomesOf, AreSilent, AreSpans, AreStepValues, AreStepValuesHeld, OneOf, ReadEach, ShowLiving, asked_in, in_span, read_step_value}
use Rattle.lola_step.specs.Tasks.{params_given}
use Rattle.lola_step.specs.Progress.{IsRun}
use Rattle.lola_step.specs.declared.spawn_result.SpawnResult.{SpawnResult}
use Rattle.lola_step.specs.declared.scratch.Span.{Span}
use Rattle.lola_step.specs.declared.tasks.Task.{Task}
use Rattle.lola_step.specs.declared.step_value.StepValue.{StepValue}
use Rattle.lola_step.proofs.Elements.{AreFrom, cut, drop_past, from_first, from_here, from_later}
use Rattle.lola_step.proofs.Silenced.{not_hidden}
use Rattle.lola_step.proofs.Layouts.{parameters_there}
use Rattle.lola_step.proofs.Single.{AreBare, bare_living, given_reads}
use Rattle.lola_step.proofs.Standing.{length-full, lives_shown}

-- lists of step values

fit_more : (l : Layout) (vs ws : List StepValue) → FitLayout l vs → FitLayout l ws → FitLayout l (vs ++ ws)
fit_more l [] ws h k = k
fit_more l (v ∷ vs) ws h k = (h.0, fit_more l vs ws h.1 k)

pub fit_pushed : (l : Layout) (vs us ws : List StepValue) → ws ≡ vs ++ us → FitLayout l us → FitLayout l vs → FitLayout l ws
fit_pushed l vs us ws e h f = subst (FitLayout l) (sym e) (fit_more l vs us f h)

fit_parts : (l : Layout) (vs ws : List StepValue) → FitLayout l (vs ++ ws) → FitLayout l vs × FitLayout l ws
fit_parts l [] ws h = (tt, h)
fit_parts l (v ∷ vs) ws h = let k : FitLayout l vs × FitLayout l ws = fit_parts l vs ws h.1 in ((h.0, k.0), k.1)

step_values_more : (plan : Plan) (vs ws : List StepValue) → AreStepValues plan vs → AreStepValues plan ws → AreStepValues plan (vs ++ ws)
step_values_more plan [] ws h k = k
step_values_more plan (v ∷ vs) ws h k = (h.0, step_values_more plan vs ws h.1 k)

held_more : (names : Naming) (vs ws : List StepValue) → AreStepValuesHeld names vs → AreStepValuesHeld names ws → AreStepValuesHeld names (vs ++ ws)
held_more names [] ws h k = k
held_more names (v ∷ vs) ws h k = (h.0, held_more names vs ws h.1 k)

-- a step value moves from those so far to those to come
pub step_value_moves : (n : ℕ) (p : Params) (o : Outcome) (vs rest : List StepValue) → (vs ++ add_step_value n p o []) ++ rest ≡ vs ++ add_step_value n p o rest
step_value_moves n p (outcome.Value v) vs rest = append_assoc vs _ rest
step_value_moves n p outcome.Missing vs rest = append_assoc vs [] rest
step_value_moves n p (outcome.Fault k) vs rest = append_assoc vs [] rest
step_value_moves n p outcome.Poison vs rest = append_assoc vs [] rest

no_outcome : (s : Seen) (n : ℕ) (ts : List Task) → step_values_among s n ts [] ≡ []
no_outcome s n [] = refl
no_outcome s n (t ∷ ts) = refl

-- each instance that was asked lives
pub asked_lives : (n i k : ℕ) (ts : List Task) → AreOfStream n i k ts → (j : ℕ) (t : Task) → slice_get ts j ≡ Some t → t.index < k
asked_lives n i k [] h j t at = absurd (cc)
asked_lives n i k (u ∷ ts) h zero t at = let e : u ≡ t = cc in subst (λ (v : Task). v.index < k) e h.2
asked_lives n i k (u ∷ ts) h (suc j) t at = asked_lives n (u.index + 1) k ts h.3 j t at

-- each is a step value of the plan

module _ (plan : Plan) where
  module _ (n : ℕ) (s : Stream) (at : slice_get plan.spec.streams n ≡ Some s) (no_input : is_input s ≡ false) where
    are_step_values : (r : Seen) (ts : List Task) (os : List Outcome) → AreOutcomesOf (kind_in (slice_get (layout_of plan).streams n)) os → FitLayout (layout_of plan) (step_values_among r n ts os)
        → AreStepValues plan (step_values_among r n ts os)
    are_step_values r [] os k f = tt
    are_step_values r (t ∷ ts) [] k f = tt
    are_step_values r (t ∷ ts) (outcome.Value v ∷ os) k f = (
      record {
        stream = s;
        stream_is = at;
        no_input = no_input;
        kind = k.0;
        params = subst (λ (ks : List Kind). are_of_kinds ks (the_values (params_given r n t.index)) ≡ true) (parameters_there plan.spec.streams plan.kept plan.pacings n s at) f.0.params;
        well_formed = f.0.well_formed;
      },
      are_step_values r ts os k.1 f.1,
    )
    are_step_values r (t ∷ ts) (outcome.Missing ∷ os) k f = are_step_values r ts os k.1 f
    are_step_values r (t ∷ ts) (outcome.Fault e ∷ os) k f = are_step_values r ts os k.1 f
    are_step_values r (t ∷ ts) (outcome.Poison ∷ os) k f = are_step_values r ts os k.1 f

  module _ (show : Show) (s : Seen) (layout : s.layout ≡ layout_of plan) (tasks : List Task) (results : List Outcome) where
    -- of one stream
    of_stream : (b : Bool) (n : ℕ) (x : Stream) (p : Span) → is_hidden show x ≡ b → slice_get plan.spec.streams n ≡ Some x → AreOutcomesOf (kind_in (slice_get s.layout.streams n)) (in_span results (Some p))
        → FitLayout (layout_of plan) (if b then [] else step_values_among s n (asked_in tasks (Some p)) (in_span results (Some p)))
        → AreStepValues plan (if b then [] else step_values_among s n (asked_in tasks (Some p)) (in_span results (Some p)))
    of_stream true n x p e at k f = tt
    of_stream false n x p e at k f =
        are_step_values n x at (not_hidden show x e) s (asked_in tasks (Some p)) (in_span results (Some p))
        (subst (λ (l : Layout). AreOutcomesOf (kind_in (slice_get l.streams n)) (in_span results (Some p))) layout k) f

    all_from : (n : ℕ) (xs : List Stream) (ps : List Span)
        → ((i m : ℕ) (x : Stream) (p : Span) → m ≡ n + i → slice_get xs i ≡ Some x → slice_get ps i ≡ Some p
        → (slice_get plan.spec.streams m ≡ Some x) × AreOutcomesOf (kind_in (slice_get s.layout.streams m)) (in_span results (Some p)))
        → FitLayout (layout_of plan) (all_step_values show s tasks results n xs ps) → AreStepValues plan (all_step_values show s tasks results n xs ps)
    all_from n [] ps each f = tt
    all_from n (x ∷ xs) [] each f = tt
    all_from n (x ∷ xs) (p ∷ ps) each f =
        let here : List StepValue = if is_hidden show x then [] else step_values_among s n (asked_in tasks (Some p)) (in_span results (Some p)) in
        let rest : List StepValue = all_step_values show s tasks results (n + 1) xs ps in
        let g : FitLayout (layout_of plan) here × FitLayout (layout_of plan) rest = fit_parts (layout_of plan) here rest f in
        let first = each 0 n x p (omega arith) refl refl in
        step_values_more plan here rest (of_stream (is_hidden show x) n x p refl first.0 first.1 g.0)
        (all_from (n + 1) xs ps (λ i m y q e a b. each (suc i) m y q (omega arith) a b) g.1)

    -- all that is collected
    step_values_are : (spans : List Span) → AreSpans s tasks results spans → FitLayout (layout_of plan) (all_step_values show s tasks results 0 plan.spec.streams spans)
        → AreStepValues plan (all_step_values show s tasks results 0 plan.spec.streams spans)
    step_values_are spans within f =
        all_from 0 plan.spec.streams spans
        (λ i m x p e a b. let c : i ≡ m = omega arith in (subst (λ j. slice_get plan.spec.streams j ≡ Some x) c a, (within m p (subst (λ j. slice_get spans j ≡ Some p) c b)).kinds)) f

-- they read as those of the row

module _ (names : Naming) (remembers : Memories) where
  -- the values, and that their texts are held
  abbrev ReadAs : List StepValue → List RowValue → Type 0
  ReadAs vs ws = (map (read_step_value names) vs ≡ ws) × AreStepValuesHeld names vs

  one_more : (n : ℕ) (p : Params) (q : List Field) (o : Outcome) (vs : List StepValue) (ws : List RowValue) → read_params names p ≡ q → AreHeld names (the_values p) → IsHeldIn names o
      → ReadAs vs ws → ReadAs (add_step_value n p o vs) (add_value n q (read_outcome names o) ws)
  one_more n p q (outcome.Value v) vs ws e f g h = (rw (e, h.0) refl, ((f, g), h.1))
  one_more n p q outcome.Missing vs ws e f g h = h
  one_more n p q (outcome.Fault k) vs ws e f g h = h
  one_more n p q outcome.Poison vs ws e f g h = h

  module _ (rows : List TableRow) (time n : ℕ) where
    none_read : (ls : List Living) → AreSilent ls → values_among n ls ≡ []
    none_read [] h = refl
    none_read (l ∷ ls) h = ap (λ a. add_value n l.instance.params a (values_among n ls)) h.0 ∙ none_read ls h.1

    module _ (plan : Plan) (s : Seen) (layout : s.layout ≡ layout_of plan) (stream : Stream) (stream_at : slice_get plan.spec.streams n ≡ Some stream) where
      -- an instance that was asked has its outcome's value, and another none
      one_read : (i : ℕ) (x : SeenInstance) (t : Task) (o : Outcome) (ts : List Task) (os : List Outcome) (l : Living) (ls : List Living) (here there : Type 0)
          → slice_get (instances_seen s n) i ≡ Some x → read_params names x.params ≡ l.instance.params → AreHeld names (the_values x.params) → (has_clause stream.spawn ≡ false → l.instance.params ≡ [])
          → (b : Bool) → nat_eq t.index i ≡ b → OneOf b ((read_outcome names o ≡ l.outcome) × IsHeldIn names o × here) ((l.outcome ≡ Missing) × there)
          → (here → ReadAs (step_values_among s n ts os) (values_among n ls)) → (there → ReadAs (step_values_among s n (t ∷ ts) (o ∷ os)) (values_among n ls))
          → ReadAs (step_values_among s n (t ∷ ts) (o ∷ os)) (values_among n (l ∷ ls))
      one_read i x t o ts os l ls here there at params held bare true same h asked other =
          let is : params_given s n i ≡ params_given s n t.index = sym (ap (λ k. params_given s n k) (eqb-true t.index i same)) in
          let reads = given_reads plan s layout n stream stream_at names i x l at params held bare in
          subst (λ (a : Answer). ReadAs (add_step_value n (params_given s n t.index) o (step_values_among s n ts os)) (add_value n l.instance.params a (values_among n ls))) h.0
          (one_more n (params_given s n t.index) l.instance.params o (step_values_among s n ts os) (values_among n ls)
          (ap (read_params names) (sym is) ∙ reads.0) (subst (λ (p : Params). AreHeld names (the_values p)) is reads.1) h.1 (asked h.2))
      one_read i x t o ts os l ls here there at params held bare false same h asked other =
          subst (λ (a : Answer). ReadAs (step_values_among s n (t ∷ ts) (o ∷ os)) (add_value n l.instance.params a (values_among n ls))) (sym h.0) (other h.1)

      values_read : (i : ℕ) (xs : List SeenInstance) (ts : List Task) (os : List Outcome) (ls : List Living) → AreFrom (instances_seen s n) i xs → ReadEach names i ts os ls
          → StandForLives names remembers n i xs (map (life_of rows time n) ls) → (has_clause stream.spawn ≡ false → AreBare ls) → ReadAs (step_values_among s n ts os) (values_among n ls)
      values_read i xs [] [] ls from r h bare = (sym (none_read ls r), tt)
      values_read i xs [] (o ∷ os) ls from r h bare = absurd r
      values_read i xs (t ∷ ts) [] ls from r h bare = absurd r
      values_read i xs (t ∷ ts) (o ∷ os) [] from r h bare = absurd r
      values_read i [] (t ∷ ts) (o ∷ os) (l ∷ ls) from r h bare = absurd h
      values_read i (x ∷ xs) (t ∷ ts) (o ∷ os) (l ∷ ls) from r h bare =
          let later : AreFrom (instances_seen s n) (i + 1) xs = from_later (instances_seen s n) i x xs from in
          one_read i x t o ts os l ls _ _ (from_here (instances_seen s n) i x xs from) h.0.params h.0.params_held (λ e. (bare e).0) (nat_eq t.index i) refl r
          (λ q. values_read (i + 1) xs ts os ls later q h.1 (λ e. (bare e).1)) (λ q. values_read (i + 1) xs (t ∷ ts) (o ∷ os) ls later q h.1 (λ e. (bare e).1))

      values_shown : (ts : List Task) (os : List Outcome) (ls : List Living) → ShowLiving names ts os ls → StandForLives names remembers n 0 (instances_seen s n) (map (life_of rows time n) ls)
          → (has_clause stream.spawn ≡ false → AreBare ls) → ReadAs (step_values_among s n ts os) (values_among n ls)
      values_shown ts os ls r h bare =
          values_read 0 (instances_seen s n) ts os ls (from_first (instances_seen s n)) r h bare

  module _ (show : Show) (s : Seen) (tasks : List Task) (results : List Outcome) where
    both_read : (vs ws : List StepValue) (us ts : List RowValue) → ReadAs vs us → ReadAs ws ts → ReadAs (vs ++ ws) (us ++ ts)
    both_read vs ws us ts h k = (map-both vs ∙ (ap (λ zs. zs ++ map (read_step_value names) ws) h.0 ∙ ap (λ (zs : List RowValue). us ++ zs) k.0), held_more names vs ws h.1 k.1)
      where
        map-both : (zs : List StepValue) → map (read_step_value names) (zs ++ ws) ≡ map (read_step_value names) zs ++ map (read_step_value names) ws
        map-both [] = refl
        map-both (z ∷ zs) = ap (λ (ys : List RowValue). read_step_value names z ∷ ys) (map-both zs)

    -- of one stream
    stream_read : (b : Bool) (n : ℕ) (p : Span) (y : StreamRow)
        → (b ≡ false → ReadAs (step_values_among s n (asked_in tasks (Some p)) (in_span results (Some p))) (values_among n y.living))
        → ReadAs (if b then [] else step_values_among s n (asked_in tasks (Some p)) (in_span results (Some p))) (if b then [] else values_among n y.living)
    stream_read true n p y h = (refl, tt)
    stream_read false n p y h = h refl

    all_read : (n : ℕ) (xs : List Stream) (ps : List Span) (ys : List StreamRow) → length ps ≡ length xs → length ys ≡ length xs
        → ((i m : ℕ) (x : Stream) (p : Span) (y : StreamRow) → m ≡ n + i → slice_get xs i ≡ Some x → slice_get ps i ≡ Some p → slice_get ys i ≡ Some y → is_hidden show x ≡ false
        → ReadAs (step_values_among s m (asked_in tasks (Some p)) (in_span results (Some p))) (values_among m y.living))
        → ReadAs (all_step_values show s tasks results n xs ps) (shown_values show n xs ys)
    all_read n [] ps ys e f each = (refl, tt)
    all_read n (x ∷ xs) [] ys e f each = absurd (omega arith)
    all_read n (x ∷ xs) (p ∷ ps) [] e f each = absurd (omega arith)
    all_read n (x ∷ xs) (p ∷ ps) (y ∷ ys) e f each =
        both_read _ _ _ _ (stream_read (is_hidden show x) n p y (each 0 n x p y (omega arith) refl refl refl))
        (all_read (n + 1) xs ps ys (omega arith) (omega arith) (λ i m z q w g a b c. each (suc i) m z q w (omega arith) a b c))

-- what is collected, where a span is noted for each stream
module _ (plan : Plan) (accepted : IsAccepted plan) (show : Show) (spans : List Span) (tasks : List Task) (results : List Outcome) (remembers : Memories) (s : Seen) (layout : s.layout ≡ layout_of plan) where
  module _ (names : Naming) (start : ℕ) (rows : List TableRow) (step : Step) (run : IsRun plan names rows) (spawn_results : List SpawnResult) (noted : AreNoted plan (full_row plan start rows step).streams names spawn_results spans tasks results)
      (stands : Stands names remembers s (content start rows (full_row plan start rows step))) where
    abbrev full : List StreamRow
    full = (full_row plan start rows step).streams

    each : (i m : ℕ) (x : Stream) (p : Span) (y : StreamRow) → m ≡ 0 + i → slice_get plan.spec.streams i ≡ Some x → slice_get spans i ≡ Some p → slice_get full i ≡ Some y → is_hidden show x ≡ false
        → ReadAs names remembers (step_values_among s m (asked_in tasks (Some p)) (in_span results (Some p))) (values_among m y.living)
    each i m x p y e a b c shown =
        let other : is_input x ≡ false = not_hidden show x shown in
        let same : i ≡ m = omega arith in
        let is_stream : slice_get plan.spec.streams m ≡ Some x = subst (λ j. slice_get plan.spec.streams j ≡ Some x) same a in
        let is_row : slice_get full m ≡ Some y = subst (λ j. slice_get full j ≡ Some y) same c in
        let is_span : slice_get spans m ≡ Some p = subst (λ j. slice_get spans j ≡ Some p) same b in
        let shows : ShowLiving names (asked_in tasks (slice_get spans m)) (in_span results (slice_get spans m)) (living_in (slice_get full m)) = noted.results_show m x is_stream other in
        values_shown names remembers rows (full_row plan start rows step).step.time m plan s layout x is_stream (asked_in tasks (Some p)) (in_span results (Some p)) y.living
        (subst (λ (o : Option StreamRow). ShowLiving names (asked_in tasks (Some p)) (in_span results (Some p)) (living_in o)) is_row
        (subst (λ (o : Option Span). ShowLiving names (asked_in tasks o) (in_span results o) (living_in (slice_get full m))) is_span shows))
        (lives_shown names remembers s start rows (full_row plan start rows step) stands m y is_row)
        (λ none. subst (λ (o : Option StreamRow). AreBare (living_in o)) is_row (bare_living plan accepted start rows step run.settled m x is_stream other none))

  collects_step_values : length spans ≡ length plan.spec.streams → CollectsStepValues plan show spans tasks results remembers s (all_step_values show s tasks results 0 plan.spec.streams spans)
  collects_step_values count names start rows step spawn_results run noted stands =
      all_read names remembers show s tasks results 0 plan.spec.streams spans (full_row plan start rows step).streams count (length-full plan accepted.acyclic start rows step)
      (each names start rows step run spawn_results noted stands)

-- where no instance has parameters of its own, all have the same
pub among_alone : (s : Seen) (n : ℕ) (p : Params) → ((i : ℕ) → params_given s n i ≡ p) → (ts : List Task) (os : List Outcome) → length ts ≡ length os → step_values_among s n ts os ≡ step_values_with n p os
among_alone s n p h [] [] e = refl
among_alone s n p h [] (o ∷ os) e = absurd (omega (arith, e))
among_alone s n p h (t ∷ ts) [] e = absurd (omega (arith, e))
among_alone s n p h (t ∷ ts) (o ∷ os) e =
    ap (λ (q : Params). add_step_value n q o (step_values_among s n ts os)) (h t.index) ∙ ap (λ (vs : List StepValue). add_step_value n p o vs) (among_alone s n p h ts os (omega (arith, e)))

-- of an empty span there are no values
pub none_asked : (s : Seen) (n : ℕ) (tasks : List Task) (results : List Outcome) (p : Span) (b : Bool) → p.count ≡ 0
    → (if b then [] else step_values_among s n (asked_in tasks (Some p)) (in_span results (Some p))) ≡ []
none_asked s n tasks results p true e = refl
none_asked s n tasks results p false e = ap (λ k. step_values_among s n (take k (drop p.from tasks)) (take k (drop p.from results))) e

-- there is an outcome for each task of a span
pub as_many : (tasks : List Task) (results : List Outcome) (p : Span) → length tasks ≡ length results → length (asked_in tasks (Some p)) ≡ length (in_span results (Some p))
as_many tasks results p e =
    length-take p.count (drop p.from tasks) ∙ (ap (λ k. min p.count k) (length-drop p.from tasks ∙ (ap (λ k. k - p.from) e ∙ sym (length-drop p.from results))) ∙ sym (length-take p.count (drop p.from results)))

-- and these fit a layout that has none
pub fit_alone : (l : Layout) (n : ℕ) → parameters_of (slice_get l.streams n) ≡ [] → (os : List Outcome) → FitLayout l (step_values_with n no_params os)
fit_alone l n e [] = tt
fit_alone l n e (outcome.Value v ∷ os) = (record { params = ap (λ (ks : List Kind). are_of_kinds ks []) e; well_formed = refl }, fit_alone l n e os)
fit_alone l n e (outcome.Missing ∷ os) = fit_alone l n e os
fit_alone l n e (outcome.Fault k ∷ os) = fit_alone l n e os
fit_alone l n e (outcome.Poison ∷ os) = fit_alone l n e os

-- the steps of the loops

module _ (n : ℕ) (p : Params) (os : List Outcome) (i : ℕ) (vs all : List StepValue) (so_far : vs ++ step_values_with n p (drop i os) ≡ all) where
  pub with_step : (d : Outcome) (ws : List StepValue) → i < length os → ws ≡ vs ++ add_step_value n p (get_or os i d) [] → ws ++ step_values_with n p (drop (i + 1) os) ≡ all
  with_step d ws within f =
      let o : Outcome = get_or os i d in
      let rest : List StepValue = step_values_with n p (drop (i + 1) os) in
      ap (λ (us : List StepValue). us ++ rest) f
      ∙ (step_value_moves n p o vs rest
      ∙ (ap (λ (us : List StepValue). vs ++ us) (sym (ap (step_values_with n p) (cut os i o (slice_get-get_or os i d within))))
      ∙ so_far))

  pub with_end : length os ≤ i → vs ≡ all
  with_end past =
      sym (append-nil vs)
      ∙ (ap (λ (us : List StepValue). vs ++ us) (sym (ap (step_values_with n p) (drop_past os i past)))
      ∙ so_far)

module _ (s : Seen) (n : ℕ) (ts : List Task) (os : List Outcome) (i : ℕ) (vs all : List StepValue) (so_far : vs ++ step_values_among s n (drop i ts) (drop i os) ≡ all) where
  pub values_step : (e : Task) (d : Outcome) (ws : List StepValue) → i < length ts → i < length os → ws ≡ vs ++ add_step_value n (params_given s n (get_or ts i e).index) (get_or os i d) []
      → ws ++ step_values_among s n (drop (i + 1) ts) (drop (i + 1) os) ≡ all
  values_step e d ws below within f =
      let t : Task = get_or ts i e in
      let o : Outcome = get_or os i d in
      let rest : List StepValue = step_values_among s n (drop (i + 1) ts) (drop (i + 1) os) in
      ap (λ (us : List StepValue). us ++ rest) f
      ∙ (step_value_moves n (params_given s n t.index) o vs rest
      ∙ (ap (λ (us : List StepValue). vs ++ us) (sym (ap (λ ys. step_values_among s n ys (drop i os)) (cut ts i t (slice_get-get_or ts i e below)) ∙ ap (λ ys. step_values_among s n (t ∷ drop (i + 1) ts) ys) (cut os i o (slice_get-get_or os i d within))))
      ∙ so_far))

  pub values_end : length os ≤ i → vs ≡ all
  values_end past =
      sym (append-nil vs)
      ∙ (ap (λ (us : List StepValue). vs ++ us) (sym (ap (step_values_among s n (drop i ts)) (drop_past os i past) ∙ no_outcome s n (drop i ts)))
      ∙ so_far)

module _ (show : Show) (s : Seen) (tasks : List Task) (results : List Outcome) (xs : List Stream) (ps : List Span) (n : ℕ) (vs : List StepValue)
    (so_far : vs ++ all_step_values show s tasks results n (drop n xs) (drop n ps) ≡ all_step_values show s tasks results 0 xs ps) where
  pub streams_step : (x : Stream) (d : Span) (ts : List Task) (os : List Outcome) (ws : List StepValue) → slice_get xs n ≡ Some x → n < length ps
      → ts ≡ asked_in tasks (Some (get_or ps n d)) → os ≡ in_span results (Some (get_or ps n d))
      → ws ≡ vs ++ (if is_hidden show x then [] else step_values_among s n ts os)
      → ws ++ all_step_values show s tasks results (n + 1) (drop (n + 1) xs) (drop (n + 1) ps) ≡ all_step_values show s tasks results 0 xs ps
  streams_step x d ts os ws at within asked of e =
      let p : Span = get_or ps n d in
      let here : List StepValue = if is_hidden show x then [] else step_values_among s n (asked_in tasks (Some p)) (in_span results (Some p)) in
      let rest : List StepValue = all_step_values show s tasks results (n + 1) (drop (n + 1) xs) (drop (n + 1) ps) in
      ap (λ (us : List StepValue). us ++ rest) (e ∙ (ap (λ ys. vs ++ (if is_hidden show x then [] else step_values_among s n ts ys)) of
      ∙ ap (λ ys. vs ++ (if is_hidden show x then [] else step_values_among s n ys (in_span results (Some p)))) asked))
      ∙ (append_assoc vs here rest
      ∙ (ap (λ (us : List StepValue). vs ++ us) (sym (ap (λ ys. all_step_values show s tasks results n ys (drop n ps)) (cut xs n x at) ∙ ap (λ ys. all_step_values show s tasks results n (x ∷ drop (n + 1) xs) ys) (cut ps n p (slice_get-get_or ps n d within))))
      ∙ so_far))

  streams_end : length xs ≤ n → vs ≡ all_step_values show s tasks results 0 xs ps
  streams_end past =
      sym (append-nil vs)
      ∙ (ap (λ (us : List StepValue). vs ++ us) (sym (ap (λ ys. all_step_values show s tasks results n ys (drop n ps)) (drop_past xs n past)))
      ∙ so_far)

-- where the loop over all streams ends
module _ (plan : Plan) (show : Show) (spans : List Span) (tasks : List Task) (results : List Outcome) (s : Seen) (n : ℕ) (vs : List StepValue)
    (so_far : vs ++ all_step_values show s tasks results n (drop n plan.spec.streams) (drop n spans) ≡ all_step_values show s tasks results 0 plan.spec.streams spans) (past : length plan.spec.streams ≤ n) where
  all_collected : all_step_values show s tasks results 0 plan.spec.streams spans ≡ vs
  all_collected = sym (streams_end show s tasks results plan.spec.streams spans n vs so_far past)

  pub step_values_end : s.layout ≡ layout_of plan → AreSpans s tasks results spans → FitLayout s.layout vs → AreStepValues plan vs
  step_values_end layout within fit =
      subst (AreStepValues plan) all_collected
      (step_values_are plan show s layout tasks results spans within (subst (FitLayout (layout_of plan)) (sym all_collected) (subst (λ (l : Layout). FitLayout l vs) layout fit)))

  pub collects_end : (remembers : Memories) → IsAccepted plan → s.layout ≡ layout_of plan → length spans ≡ length plan.spec.streams → CollectsStepValues plan show spans tasks results remembers s vs
  collects_end remembers accepted layout count =
      subst (CollectsStepValues plan show spans tasks results remembers s) all_collected (collects_step_values plan accepted show spans tasks results remembers s layout count)
