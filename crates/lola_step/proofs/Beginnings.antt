-- How a step begins: its inputs, its moment, and what the store shows.
use Rattle.std.proofs.Common.{◌≡◌, refl, ap, ◌∙◌, sym, subst, ℕ, zero, suc, ◌+◌, ◌*◌, ◌≤◌, List, [], ◌∷◌, Option, Some, None, Bool, true, false, cond, if◌then◌else◌, map, length, slice_get, arith}
use Rattle.std.proofs.lemmas.List.{length-map}
use Rattle.std.specs.List.{filter}
use Rattle.std.specs.Option.{option_map}
use Rattle.lola_value.specs.declared.text.Field.{Field}
use Rattle.lola_value.specs.declared.text.Field.TheVariants as field
use Rattle.lola_value.specs.declared.value.Outcome.{Outcome}
use Rattle.lola_value.specs.declared.value.Outcome.TheVariants as outcome
use Rattle.lola_value.specs.Naming.{Naming, read_outcome}
use Rattle.lola_value.specs.Times.{latest}
use Rattle.lola_model.specs.Activity.{bit_of, present}
use Rattle.lola_model.specs.Content.{Content}
use Rattle.lola_model.specs.Model.{field_outcome, is_input}
use Rattle.lola_model.specs.Runs.{begun, content_after}
use Rattle.lola_model.specs.Standing.{StandsBetween}
use Rattle.lola_model.specs.Store.{Memories, Seen, SeenInstance, SeenStream, Stands, after_begin, after_prepare, has_spawned, instances_of, is_silent, layout_of, now_at, quiet, silent, start_seen, time_seen}
use Rattle.lola_model.specs.Table.{Step, TableRow}
use Rattle.lola_model.specs.declared.journal.Show.{Show}
use Rattle.lola_model.specs.declared.plan.Plan.{Plan}
use Rattle.lola_model.specs.declared.spec.Stream.{Stream}
use Rattle.lola_step_contents.specs.Stages.{content_so_far, first_stage, layer_stage}
use Rattle.lola_step_contents.proofs.Begin.{begins}
use Rattle.lola_step.specs.Beginnings.{moment_at}
use Rattle.lola_step.specs.Conclusions.{Concludes}
use Rattle.lola_step.specs.Inputs.{TakesInputs}
use Rattle.lola_step.specs.Moments.{IsMoment, ReadAs, bit_of_outcome, present_in}
use Rattle.lola_step.specs.Progress.{IsAt, IsMomentOf, IsOf, IsRun, IsRunAt}
use Rattle.lola_step.specs.Rooms.{room_of, rooms, total}
use Rattle.lola_step.specs.Scratches.{EvaluatesAll, instances_to_come, of_streams}
use Rattle.lola_step.specs.Steps.{AreInputs, AreOfInputs, BeginsWith, ReadFields, StepEnds}
use Rattle.lola_step.specs.declared.end.StepEnd.{StepEnd}
use Rattle.lola_step.specs.declared.moment.Moment.{Moment}
use Rattle.lola_step.specs.declared.scratch.Scratch.{Scratch}
use Rattle.lola_step.specs.declared.step_value.StepValue.{StepValue}

-- the inputs

one_more_input : (s : Stream) (ss : List Stream) → ((os : List Outcome) → AreOfInputs ss os → length os ≡ length (filter is_input ss))
    → (b : Bool) (os : List Outcome) → BeginsWith b s (AreOfInputs ss) os → length os ≡ length (cond b (s ∷ filter is_input ss) (filter is_input ss))
one_more_input s ss more false os h = more os h
one_more_input s ss more true [] h = absurd h
one_more_input s ss more true (o ∷ os) h = ap suc (more os h.1)

-- as many outcomes as there are inputs
as_many : (ss : List Stream) (os : List Outcome) → AreOfInputs ss os → length os ≡ length (filter is_input ss)
as_many [] os h = ap length h
as_many (s ∷ ss) os h = one_more_input s ss (λ qs g. as_many ss qs g) (is_input s) os h

-- no more than there may be
pub few_inputs : (is_row : Bool) (ss : List Stream) (os : List Outcome) → AreInputs is_row ss os → length (filter is_input ss) ≤ 64 → length os ≤ 64
few_inputs true ss os h few = let e : length os ≡ length (filter is_input ss) = as_many ss os h in omega arith
few_inputs false ss os h few = let e : length os ≡ 0 = ap length h in omega arith

-- the moment

same_bit : (names : Naming) (o : Outcome) (f : Field) → read_outcome names o ≡ field_outcome (Some f) → bit_of_outcome o ≡ bit_of f
same_bit names (outcome.Value v) field.Absent e = absurd (cc)
same_bit names (outcome.Value v) (field.Bool b) e = refl
same_bit names (outcome.Value v) (field.Int i) e = refl
same_bit names (outcome.Value v) (field.Text t) e = refl
same_bit names outcome.Missing field.Absent e = refl
same_bit names outcome.Missing (field.Bool b) e = absurd (cc)
same_bit names outcome.Missing (field.Int i) e = absurd (cc)
same_bit names outcome.Missing (field.Text t) e = absurd (cc)
same_bit names (outcome.Fault k) field.Absent e = absurd (cc)
same_bit names (outcome.Fault k) (field.Bool b) e = absurd (cc)
same_bit names (outcome.Fault k) (field.Int i) e = absurd (cc)
same_bit names (outcome.Fault k) (field.Text t) e = absurd (cc)
same_bit names outcome.Poison field.Absent e = absurd (cc)
same_bit names outcome.Poison (field.Bool b) e = absurd (cc)
same_bit names outcome.Poison (field.Int i) e = absurd (cc)
same_bit names outcome.Poison (field.Text t) e = absurd (cc)

-- the inputs that have a value are the fields that are present
same_present : (names : Naming) (os : List Outcome) (fs : List Field) → ReadAs names os fs → present_in os ≡ present fs
same_present names [] [] h = refl
same_present names [] (f ∷ fs) h = absurd h
same_present names (o ∷ os) [] h = absurd h
same_present names (o ∷ os) (f ∷ fs) h =
    let a : bit_of_outcome o ≡ bit_of f = same_bit names o f h.0 in
    let b : present_in os ≡ present fs = same_present names os fs h.2 in
    ap (λ x. x + 2 * present_in os) a ∙ ap (λ x. bit_of f + 2 * x) b

-- of a step whose fields the inputs read as
pub moment_reads : (start time : ℕ) (is_row : Bool) (inputs : List Outcome) (names : Naming) (step : Step) → step.time ≡ time → ReadFields names inputs is_row step.fields
    → IsMoment start step (moment_at start time is_row inputs)
moment_reads start time is_row inputs names step e h = record { start_is = refl; time_is = sym e; present_is = go is_row step.fields h }
  where
    go : (b : Bool) (o : Option (List Field)) → ReadFields names inputs b o → (if b then Some (present_in inputs) else None) ≡ option_map present o
    go true None h = absurd h
    go true (Some fields) h = ap (λ x. Some x) (same_present names inputs fields h)
    go false None h = refl
    go false (Some fields) h = absurd h

-- some field for each input
field_of : Outcome → Field
field_of (outcome.Value v) = field.Bool true
field_of _ = field.Absent

bit_of_field : (o : Outcome) → bit_of_outcome o ≡ bit_of (field_of o)
unfolding field_of
bit_of_field (outcome.Value v) = refl
bit_of_field outcome.Missing = refl
bit_of_field (outcome.Fault k) = refl
bit_of_field outcome.Poison = refl

present_of_fields : (os : List Outcome) → present_in os ≡ present (map field_of os)
present_of_fields [] = refl
present_of_fields (o ∷ os) = ap (λ x. x + 2 * present_in os) (bit_of_field o) ∙ ap (λ x. bit_of (field_of o) + 2 * x) (present_of_fields os)

-- of some step
pub moment_of_some : (start time : ℕ) (is_row : Bool) (inputs : List Outcome) (s : Seen) → start_seen s ≡ start → time_seen s ≡ time → IsMomentOf (moment_at start time is_row inputs) s
moment_of_some start time is_row inputs s e f = record {
  start_is = sym e;
  time_is = sym f;
  step = record { time = time; fields = if is_row then Some (map field_of inputs) else None };
  is = record { start_is = refl; time_is = refl; present_is = go is_row };
}
  where
    go : (b : Bool) → (if b then Some (present_in inputs) else None) ≡ option_map present (if b then Some (map field_of inputs) else None)
    go true = ap (λ x. Some x) (present_of_fields inputs)
    go false = refl

-- what the store shows

quiet_count : (ss : List SeenStream) (n : ℕ) → length (instances_of (slice_get (map quiet ss) n)) ≡ length (instances_of (slice_get ss n))
quiet_count [] n = refl
quiet_count (s ∷ ss) zero = length-map s.instances silent
quiet_count (s ∷ ss) (suc n) = quiet_count ss n

silent_at : (xs : List SeenInstance) (i : ℕ) → is_silent (now_at (slice_get (map silent xs) i)) ≡ true
silent_at [] i = refl
silent_at (x ∷ xs) zero = refl
silent_at (x ∷ xs) (suc i) = silent_at xs i

quiet_at : (ss : List SeenStream) (n i : ℕ) → is_silent (now_at (slice_get (instances_of (slice_get (map quiet ss) n)) i)) ≡ true
quiet_at [] n i = refl
quiet_at (s ∷ ss) zero i = silent_at s.instances i
quiet_at (s ∷ ss) (suc n) i = quiet_at ss n i

quiet_unspawned : (ss : List SeenStream) (n : ℕ) → has_spawned (slice_get (map quiet ss) n) ≡ false
quiet_unspawned [] n = refl
quiet_unspawned (s ∷ ss) zero = refl
quiet_unspawned (s ∷ ss) (suc n) = quiet_unspawned ss n

-- a step that has begun is at its first stage
pub at_first : (plan : Plan) (s : Seen) (time : ℕ) → IsOf plan s → time_seen s ≤ time → time ≤ latest → IsAt plan first_stage (after_begin (after_prepare s) time)
at_first plan s time of le last = record {
  of = record {
    layout = of.layout;
    streams = length-map s.streams quiet ∙ of.streams;
    few = λ n. let e = quiet_count s.streams n in omega (arith, e, of.few n);
    single = λ n x at none. quiet_count s.streams n ∙ of.single n x at none;
    order = omega (arith, of.order, le);
    in_time = last;
  };
  running = refl;
  silent = λ n i x at not. quiet_at s.streams n i;
  unspawned = λ n not. quiet_unspawned s.streams n;
}

quiet_rooms : (ss : List SeenStream) → total (map room_of (map quiet ss)) ≡ of_streams ss
quiet_rooms [] = refl
quiet_rooms (s ∷ ss) = ap (λ k. (k + 1) + total (map room_of (map quiet ss))) (length-map s.instances silent) ∙ ap (λ k. (length s.instances + 1) + k) (quiet_rooms ss)

-- with room for all that may be born
pub first_room : (s : Seen) (time : ℕ) → total (rooms (after_begin (after_prepare s) time)) ≡ instances_to_come s
first_room s time = quiet_rooms s.streams

-- what the whole step comes to

module _ (plan : Plan) (show : Show) (start time : ℕ) (is_row : Bool) (inputs : List Outcome) (m : Moment) (same : m ≡ moment_at start time is_row inputs) where
  -- in a run
  moment_in : (names : Naming) (step : Step) → step.time ≡ time → ReadFields names inputs is_row step.fields → IsMoment m.start step m
  moment_in names step e h = subst (λ (k : Moment). IsMoment k.start step k) (sym same) (moment_reads start time is_row inputs names step e h)

  starts : m.start ≡ start
  starts = ap (λ (k : Moment). k.start) same

  pub whole_step : (r0 : Memories) (s0 : Seen) (r1 : Memories) (s1 : Seen) (r2 : Memories) (s2 : Seen) (r3 : Memories) (s3 : Seen) (r4 : Memories) (s4 : Seen) (r5 : Memories) (s5 : Seen)
      (n : Scratch) (end : StepEnd) (step_values : List StepValue)
      → ((names : Naming) (c : Content) → Stands names r0 s0 c → Stands names r1 s1 c)
      → ((names : Naming) (c : Content) → Stands names r1 s1 c → Stands names r2 s2 (begun c time))
      → start_seen s2 ≡ start → s2.layout ≡ layout_of plan
      → TakesInputs plan is_row inputs r2 s2 r3 s3
      → EvaluatesAll plan m r3 s3 r4 s4 n
      → Concludes plan show m n.spawn_results.items n.spans.items n.tasks.items n.results.items r4 s4 end r5 s5 step_values
      → (names : Naming) (rows : List TableRow) (step : Step) → IsRun plan names rows → step.time ≡ time → ReadFields names inputs is_row step.fields
      → StandsBetween names r0 s0 (content_after plan start rows)
      → StepEnds end plan show start rows step names r5 s5 step_values
  whole_step r0 s0 r1 s1 r2 s2 r3 s3 r4 s4 r5 s5 n end step_values prepares begins_so at_start layout takes evaluates concludes names rows step run e reads between =
      let whole : Content = between.0 in
      let begun_there : Stands names r2 s2 (begun whole step.time) =
      subst (λ t. Stands names r2 s2 (begun whole t)) (sym e) (begins_so names whole (prepares names whole between.1)) in
      let first : Stands names r2 s2 (content_so_far plan start rows step first_stage) = begins plan start rows step run.settled r2 s2 layout names whole between.2 begun_there in
      let told : Stands names r3 s3 (content_so_far plan (start_seen s2) rows step (layer_stage (length plan.spec.streams) 0)) =
      takes names rows step run reads (subst (λ a. Stands names r2 s2 (content_so_far plan a rows step first_stage)) (sym at_start) first) in
      let moment : IsMoment m.start step m = moment_in names step e reads in
      let there : IsRunAt plan m (layer_stage (length plan.spec.streams) 0) r3 s3 names rows step =
      record {
        run = run;
        moment = moment;
        stands = subst (λ a. Stands names r3 s3 (content_so_far plan a rows step (layer_stage (length plan.spec.streams) 0))) (at_start ∙ sym starts) told;
      } in
      let done = evaluates names rows step there in
      subst (λ a. StepEnds end plan show a rows step names r5 s5 step_values) starts (concludes names rows step run moment done.0 done.1)
