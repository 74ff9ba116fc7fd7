-- What holds of an engine goes on to hold, and numbers stay in their ranges.
use Rattle.std.proofs.Common.{◌≡◌, refl, ap, sym, subst, ◌∙◌, ℕ, zero, suc, ◌+◌, ◌*◌, ◌^◌, ◌-◌, ◌<◌, ◌≤◌, List, [], ◌∷◌, Option, Some, None, Bool, true, false, length, map, drop, slice_get, if◌then◌else◌, cond, lit≤, max, arith}
use Rattle.std.proofs.lemmas.Slice.Zip.{AllZip-long}
use Rattle.std.specs.List.{AllZip, filter}
use Rattle.lola_value.specs.declared.text.Field.{Field}
use Rattle.lola_value.specs.declared.value.TextId.{TextId}
use Rattle.lola_value.specs.Times.{latest}
use Rattle.lola_clock.specs.Clock.{ClockState}
use Rattle.lola_model.specs.Steps.{rates_of}
use Rattle.lola_model.specs.Acceptance.{IsAccepted}
use Rattle.lola_model.specs.Model.{is_input, most_instances, filled_kind}
use Rattle.lola_model.specs.Store.{Seen, SeenInstance, after_start, instances_of, layout_of, layouts_from, new_seen, newborn_seen, no_params, opened, time_seen}
use Rattle.lola_model.specs.Trace.{IsFieldOf, input_kinds}
use Rattle.lola_model.specs.declared.pacing.ClausePacings.{ClausePacings}
use Rattle.lola_model.specs.declared.plan.Plan.{Plan}
use Rattle.lola_model.specs.declared.spec.Clause.{Clause}
use Rattle.lola_model.specs.declared.spec.Stream.{Stream}
use Rattle.lola_step_contents.specs.Ready.{HasTexts}
use Rattle.lola_text.specs.Texts.{IsTable, Texts}
use Rattle.lola_step.specs.Progress.{IsOf}
use Rattle.lola_engine.specs.Rates.{HaveDeadlinesOf}
use Rattle.lola_engine.specs.Engines.{AreStarted, IsEngine, IsSound}
use Rattle.lola_engine.specs.Going.{HasKept, HasTaken, IsBelow}
use Rattle.lola_engine.specs.Sweeps.{LetsGo}
use Rattle.lola_engine.specs.declared.engine.EngineState.{EngineState}
use Rattle.lola_engine.proofs.Joining.{some_is, start_low}
use Rattle.lola_engine.proofs.Loop.{sound_clock}
use Rattle.lola_engine.proofs.Sweeping.{few_left}

-- a row has at most 64 fields

kinds_are_inputs : (ss : List Stream) → length (input_kinds ss) ≡ length (filter is_input ss)
kinds_are_inputs [] = refl
kinds_are_inputs (s ∷ ss) = go (is_input s) (kinds_are_inputs ss)
  where
    go : (b : Bool) → length (input_kinds ss) ≡ length (filter is_input ss)
        → length (if b then filled_kind s ∷ input_kinds ss else input_kinds ss) ≡ length (cond b (s ∷ filter is_input ss) (filter is_input ss))
    go true e = ap suc e
    go false e = e

pub few_fields : (plan : Plan) (fields : List Field) → IsAccepted plan → AllZip IsFieldOf (input_kinds plan.spec.streams) fields → length fields ≤ 64
few_fields plan fields accepted h =
    let long : length fields ≡ length (input_kinds plan.spec.streams) = AllZip-long IsFieldOf (input_kinds plan.spec.streams) fields h in
    omega (arith, long, kinds_are_inputs plan.spec.streams, accepted.named.few_inputs)

-- so their texts get numbers
pub few_numbers : (e : EngineState) (s : Seen) (fields : List Field) → IsEngine e s → e.rows < 2 ^ 47 → AllZip IsFieldOf (input_kinds e.plan.spec.streams) fields → e.texts.given + length fields ≤ 2 ^ 62 + 2 ^ 53
few_numbers e s fields h more zip = omega (arith, few_fields e.plan fields h.sound.accepted zip, h.few_texts, more)

-- and so is what a sweep leaves
pub few_swept : (e : EngineState) (s : Seen) → IsEngine e s → (bounded : Bool) (holds : List TextId) (between : Texts) (left : ℕ) → LetsGo bounded holds e.plan.spec.texts e.texts e.swept between left
    → left ≤ 2 ^ 62 + 64 * e.rows
few_swept e s h bounded holds between left goes =
    few_left bounded holds e.plan.spec.texts e.texts e.swept between left goes (2 ^ 62 + 64 * e.rows) h.sound.table h.few_swept h.few_texts

-- a state with another table that has the texts of its plan
pub sound_texts : (e : EngineState) (s : Seen) (t : Texts) (ids : List TextId) (left : ℕ) → IsTable t → HasTexts t.held e.plan.spec.texts → IsSound e s
    → IsSound (record e { texts = t; ids = ids; swept = left }) s
sound_texts e s t ids left table texts h = record {
  accepted = h.accepted;
  workers = h.workers;
  rates = h.rates;
  local = h.local;
  of = h.of;
  started = h.started;
  scratch = h.scratch;
  table = table;
  texts = texts;
  counted = h.counted;
  few_lines = h.few_lines;
}

-- and with a row more
pub sound_rows : (e : EngineState) (s : Seen) (rows merged : ℕ) → IsSound e s → IsSound (record e { rows = rows; merged = merged }) s
sound_rows e s rows merged h = record {
  accepted = h.accepted;
  workers = h.workers;
  rates = h.rates;
  local = h.local;
  of = h.of;
  started = h.started;
  scratch = h.scratch;
  table = h.table;
  texts = h.texts;
  counted = h.counted;
  few_lines = h.few_lines;
}

-- a store that has started
of_started : (plan : Plan) (s : Seen) (start : ℕ) → start ≤ latest → IsOf plan s → IsOf plan (after_start s start)
of_started plan s start le h = record { layout = h.layout; streams = h.streams; few = h.few; single = h.single; order = omega arith; in_time = le }

-- store and clock start together
pub sound_started : (e : EngineState) (s s2 : Seen) (k : ClockState) (start : ℕ) → start ≤ latest → k ≡ record e.clock { start = Some start; passed = start } → s2 ≡ after_start s start → IsSound e s
    → IsSound (record e { clock = k }) s2
sound_started e s s2 k start le at shows h =
    subst (λ z. IsSound (record e { clock = k }) z) (sym shows) (record {
      accepted = h.accepted;
      workers = h.workers;
      rates = subst (HaveDeadlinesOf (rates_of e.plan.pacings)) (sym (ap (λ (z : ClockState). z.rates) at)) h.rates;
      local = h.local;
      of = of_started e.plan s start le h.of;
      started = subst (λ o. AreStarted (after_start s start) o) (sym (ap (λ (z : ClockState). z.start) at)) (refl, refl);
      scratch = h.scratch;
      table = h.table;
      texts = h.texts;
      counted = h.counted;
      few_lines = h.few_lines;
    })

module _ (e : EngineState) (s s2 : Seen) (k : ClockState) (t : Texts) (ids : List TextId) (left : ℕ) (start stamp from : ℕ)
    (engine : IsEngine e s) (le : stamp ≤ latest) (order : e.merged ≤ stamp) (from_is : from ≡ max e.merged start) (table : IsTable t) (texts : HasTexts t.held e.plan.spec.texts) where
  abbrev read : EngineState
  read = record e { texts = t; ids = ids; swept = left }

  abbrev ready : EngineState
  ready = record e { texts = t; ids = ids; swept = left; clock = k }

  ready_going : e.clock.start ≡ Some start → k ≡ e.clock → s2 ≡ s → IsBelow ready s2 start from stamp
  ready_going at same shows =
      let passed_is : k.passed ≡ e.clock.passed = ap (λ (z : ClockState). z.passed) same in
      let before : start ≤ e.merged = start_low e s start engine at in
      let passed : e.clock.passed ≡ max start (e.merged - 1) = engine.passed start at in
      subst (λ z. IsBelow ready z start from stamp) (sym shows) (record {
        sound = sound_clock read s k (ap (λ (z : ClockState). z.rates) same) (ap (λ (z : ClockState). z.start) same) (sound_texts e s t ids left table texts engine.sound);
        start_is = ap (λ (z : ClockState). z.start) same ∙ at;
        low = omega (arith, from_is);
        time = omega (arith, from_is, engine.time);
        passed = omega (arith, passed_is, passed, before, from_is);
        below = omega (arith, from_is, before, order);
        few_behind = engine.few_behind;
        few_rows = engine.few_rows;
        few_steps = omega (arith, from_is, engine.few_steps);
      })

  ready_first : e.clock.start ≡ None → start ≡ stamp → k ≡ record e.clock { start = Some stamp; passed = stamp } → s2 ≡ after_start s stamp → IsBelow ready s2 start from stamp
  ready_first none first at shows =
      let passed_is : k.passed ≡ stamp = ap (λ (z : ClockState). z.passed) at in
      let time_is : time_seen s2 ≡ stamp = ap time_seen shows in
      let steps_are : s2.steps ≡ s.steps = ap (λ (z : Seen). z.steps) shows in
      record {
        sound = sound_started read s s2 k stamp le at shows (sound_texts e s t ids left table texts engine.sound);
        start_is = ap (λ (z : ClockState). z.start) at ∙ ap (λ z. Some z) (sym first);
        low = omega (arith, from_is);
        time = omega (arith, from_is, time_is, first);
        passed = omega (arith, passed_is, first, from_is, order);
        below = omega (arith, from_is, first, order);
        few_behind = engine.few_behind;
        few_rows = engine.few_rows;
        few_steps = omega (arith, steps_are, engine.few_steps, from_is, order, first);
      }

  -- an engine that has read a row and started may run the deadlines before it
  pub ready_below : ((a : ℕ) → e.clock.start ≡ Some a → (start ≡ a) × (k ≡ e.clock) × (s2 ≡ s))
      → (e.clock.start ≡ None → (start ≡ stamp) × (k ≡ record e.clock { start = Some stamp; passed = stamp }) × (s2 ≡ after_start s stamp)) → IsBelow ready s2 start from stamp
  ready_below going first = go e.clock.start refl
    where
      go : (o : Option ℕ) → e.clock.start ≡ o → IsBelow ready s2 start from stamp
      go None q = let f = first q in ready_first q f.0 f.1 f.2
      go (Some a) q = let f = going a q in ready_going (q ∙ ap (λ z. Some z) (sym f.0)) f.1 f.2

  -- and holds again once the row is run
  pub engine_again : (d : EngineState) (s' : Seen) (fields : List Field) → HasTaken ready d s' start stamp → HasKept ready d → e.rows < 2 ^ 47 → AllZip IsFieldOf (input_kinds e.plan.spec.streams) fields
      → t.given ≤ e.texts.given + length fields → left ≤ 2 ^ 62 + 64 * e.rows → IsEngine (record d { rows = d.rows + 1; merged = stamp }) s'
  engine_again d s' fields taken kept more zip given few =
      let same_given : d.texts.given ≡ t.given = ap (λ (z : Texts). z.given) kept.texts in
      record {
        sound = sound_rows d s' (d.rows + 1) stamp taken.sound;
        time = omega (arith, taken.time);
        passed = λ a q. let same : start ≡ a = some_is d.clock.start start a taken.start_is q in omega (arith, taken.passed);
        merged = le;
        few_behind = omega (arith, kept.behind, engine.few_behind);
        few_rows = omega (arith, kept.rows, more);
        few_steps = omega (arith, kept.behind, kept.rows, taken.few_steps);
        few_texts = omega (arith, same_given, kept.rows, given, engine.few_texts, few_fields e.plan fields engine.sound.accepted zip);
        few_swept = omega (arith, kept.swept, kept.rows, few);
      }

-- a new store is that of its plan

abbrev instances_for : Option Clause → List SeenInstance
instances_for o = if (elim o [ None ↦ false | Some k ↦ true ]) then [] else newborn_seen 0 no_params ∷ []

few_for : (o : Option Clause) → length (instances_for o) ≤ most_instances
few_for None = lit≤ tt
few_for (Some k) = lit≤ tt

one_for : (o : Option Clause) → o ≡ None → length (instances_for o) ≡ 1
one_for None e = refl
one_for (Some k) e = absurd (cc)

few_opened : (ss : List Stream) (kept : List ℕ) (pacings : List ClausePacings) (n : ℕ) → length (instances_of (slice_get (map opened (layouts_from ss kept pacings)) n)) ≤ most_instances
few_opened [] kept pacings n = lit≤ tt
few_opened (s ∷ ss) kept pacings zero = few_for s.spawn
few_opened (s ∷ ss) kept pacings (suc n) = few_opened ss (drop 1 kept) (drop 1 pacings) n

one_opened : (ss : List Stream) (kept : List ℕ) (pacings : List ClausePacings) (n : ℕ) (s : Stream) → slice_get ss n ≡ Some s → s.spawn ≡ None → length (instances_of (slice_get (map opened (layouts_from ss kept pacings)) n)) ≡ 1
one_opened [] kept pacings n s e none = absurd (cc)
one_opened (r ∷ ss) kept pacings zero s e none = let k : r ≡ s = cc in one_for r.spawn (ap (λ (z : Stream). z.spawn) k ∙ none)
one_opened (r ∷ ss) kept pacings (suc n) s e none = one_opened ss (drop 1 kept) (drop 1 pacings) n s e none

length_opened : (ss : List Stream) (kept : List ℕ) (pacings : List ClausePacings) → length (map opened (layouts_from ss kept pacings)) ≡ length ss
length_opened [] kept pacings = refl
length_opened (s ∷ ss) kept pacings = ap suc (length_opened ss (drop 1 kept) (drop 1 pacings))

pub of_new : (plan : Plan) → IsOf plan (new_seen (layout_of plan))
of_new plan = record {
  layout = refl;
  streams = length_opened plan.spec.streams plan.kept plan.pacings;
  few = few_opened plan.spec.streams plan.kept plan.pacings;
  single = one_opened plan.spec.streams plan.kept plan.pacings;
  order = lit≤ tt;
  in_time = lit≤ tt;
}
