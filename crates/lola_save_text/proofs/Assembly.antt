-- The state of a journal is one that the plan can have.
use Rattle.std.proofs.Common.{◌≡◌, ℕ, zero, suc, ◌+◌, ◌-◌, ◌≤◌, List, [], ◌∷◌, length, drop, map, refl, sym, subst, ap, ◌∙◌, arith, Bool, true, false, Option, Some, None, if◌then◌else◌, slice_get}
use Rattle.std.specs.Prelude.{is_some}
use Rattle.std.specs.List.{list_all, cons_option}
use Rattle.std.proofs.lemmas.Bool.{and_from, or_from}
use Rattle.std.proofs.lemmas.List.{length-drop, length-map}
use Rattle.lola_value.specs.declared.text.Field.{Field}
use Rattle.lola_value.specs.declared.value.Kind.{Kind}
use Rattle.lola_value.specs.Answer.{Answer, Given, Missing, Faulted, Poisoned}
use Rattle.lola_value.specs.Arithmetic.{all_equal}
use Rattle.lola_model.specs.Content.{values_over, timed, outcome_in, time_of}
use Rattle.lola_model.specs.Model.{filled_kind, survivors, last_row, the_instance}
use Rattle.lola_model.specs.Runs.{life_after, streams_after}
use Rattle.lola_model.specs.Store.{layouts_from}
use Rattle.lola_model.specs.Table.{Instance, TableRow}
use Rattle.lola_model.specs.declared.pacing.ClausePacings.{ClausePacings}
use Rattle.lola_model.specs.declared.plan.Plan.{Plan}
use Rattle.lola_model.specs.declared.spec.Clause.{Clause}
use Rattle.lola_model.specs.declared.spec.Stream.{Stream}
use Rattle.lola_save_text.specs.declared.state.Times.{Times}
use Rattle.lola_save_text.specs.Fitting.{time_or, is_value, are_values, is_among, are_panes}
use Rattle.lola_save_text.specs.declared.forms.WindowForm.{WindowForm}
use Rattle.lola_save_text.specs.declared.forms.StreamForm.{StreamForm}
use Rattle.lola_save_text.specs.Forms.{HaveLength, AreStorable, stream_forms}
use Rattle.lola_save_text.specs.Lines.{count_of}
use Rattle.lola_save_text.specs.declared.state.SavedInstance.{SavedInstance}
use Rattle.lola_save_text.specs.Validity.{AllPanes, IsBorn, IsInstance, AreInstances, IsStream, AreStreams}
use Rattle.lola_save_text.specs.PaneFolds.{panes_of}
use Rattle.lola_save_text.specs.JournalStates.{last_values, saved_life, saved_streams}
use Rattle.lola_save_text.proofs.Crowds.{AreBehind, AreInLine, AreBornBefore, IsCrowd}
use Rattle.lola_save_text.proofs.KindedRows.{AreInstancesOf, IsTableOf, few-since, values-since}
use Rattle.lola_save_text.proofs.PanesOfLives.{AreTimedValues, panes-right}
use Rattle.lola_save_text.proofs.Seen.{AreOfKind}
use Rattle.lola_save_text.proofs.StepTimes.{AreTimed, AreUpTo, time-between, times-rise}

-- values of a life

-- times of some rows' values
abbrev AreTimesOf : ℕ → ℕ → List (ℕ × Field) → Type 0
AreTimesOf low high [] = Unit {0}
AreTimesOf low high (v ∷ vs) = (low ≤ v.0) × (v.0 ≤ high) × AreTimesOf low high vs

one-time : (low high time : ℕ) (a : Answer) (vs : List (ℕ × Field)) → low ≤ time → time ≤ high → AreTimesOf low high vs → AreTimesOf low high (cons_option (timed time a) vs)
one-time low high time (Given v) vs h g on = (h, g, on)
one-time low high time Missing vs h g on = on
one-time low high time (Faulted f) vs h g on = on
one-time low high time Poisoned vs h g on = on

lower-times : (low mid high : ℕ) (vs : List (ℕ × Field)) → low ≤ mid → AreTimesOf mid high vs → AreTimesOf low high vs
lower-times low mid high [] le h = tt
lower-times low mid high (v ∷ vs) le h = ((let a = h.0 in omega (arith, a, le)), h.1, lower-times low mid high vs le h.2)

times-over : (n : ℕ) (i : Instance) (low high : ℕ) (rows : List TableRow) → AreTimed low rows → AreUpTo high rows → AreTimesOf low high (values_over n i rows)
times-over n i low high [] h u = tt
times-over n i low high (row ∷ rows) h u =
    one-time low high row.step.time (outcome_in i (slice_get row.streams n)) (values_over n i rows) h.0 u.0
    (lower-times low row.step.time high (values_over n i rows) h.0 (times-over n i row.step.time high rows h.1 u.1))

pub timed-drop : (low n : ℕ) (rows : List TableRow) → AreTimed low rows → AreTimed low (drop n rows)
timed-drop low zero rows h = h
timed-drop low (suc n) [] h = tt
timed-drop low (suc n) (r ∷ rows) h = weaker low r.step.time (drop n rows) h.0 (timed-drop r.step.time n rows h.1)
  where
    weaker : (a b : ℕ) (rs : List TableRow) → a ≤ b → AreTimed b rs → AreTimed a rs
    weaker a b [] le g = tt
    weaker a b (q ∷ rs) le g = ((let c = g.0 in omega (arith, c, le)), g.1)

up-drop : (high n : ℕ) (rows : List TableRow) → AreUpTo high rows → AreUpTo high (drop n rows)
up-drop high zero rows h = h
up-drop high (suc n) [] h = tt
up-drop high (suc n) (r ∷ rows) h = up-drop high n rows h.1

both-of : (k : Kind) (low high : ℕ) (vs : List (ℕ × Field)) → AreOfKind k vs → AreTimesOf low high vs → AreTimedValues k low high vs
both-of k low high [] h g = tt
both-of k low high (v ∷ vs) h g = (record { value = h.0; low = g.0; high = g.1 }, both-of k low high vs h.1 g.2)

-- the ring

drop-kind : (k : Kind) (n : ℕ) (vs : List (ℕ × Field)) → AreOfKind k vs → AreOfKind k (drop n vs)
drop-kind k zero vs h = h
drop-kind k (suc n) [] h = tt
drop-kind k (suc n) (v ∷ vs) h = drop-kind k n vs h.1

all-kind : (k : Kind) (vs : List (ℕ × Field)) → AreOfKind k vs → list_all (is_value k) (map (λ v. v.1) vs) ≡ true
all-kind k [] h = refl
all-kind k (v ∷ vs) h = and_from (is_value k v.1) (list_all (is_value k) (map (λ v. v.1) vs)) h.0 (all-kind k vs h.1)

ring-few : (kept : ℕ) (vs : List (ℕ × Field)) → length (last_values kept vs) ≤ kept
ring-few kept vs =
    let a = length-map (drop (length vs - kept) vs) (λ (v : ℕ × Field). v.1) in
    let b = length-drop (length vs - kept) vs in
    omega (arith, a, b)

ring-none : (kept : ℕ) (vs : List (ℕ × Field)) → length vs ≡ 0 → length (last_values kept vs) ≡ 0
ring-none kept [] e = none (length {A = ℕ × Field} [] - kept)
  where
    none : (n : ℕ) → length (map (λ (v : ℕ × Field). v.1) (drop n [])) ≡ 0
    none zero = refl
    none (suc n) = refl
ring-none kept (v ∷ vs) e = absurd (omega arith)

-- the panes of all windows
all-panes : (times : Times) (k : Kind) (vs : List (ℕ × Field)) (ws : List WindowForm) → HaveLength ws
    → ((w : WindowForm) → 1 ≤ w.pane → are_panes times k w (panes_of (time_or 0 times.start) w vs) ≡ true)
    → AllPanes times k ws (map (λ w. panes_of (time_or 0 times.start) w vs) ws)
all-panes times k vs [] h each = tt
all-panes times k vs (w ∷ ws) h each = (each w h.0, all-panes times k vs ws h.1 each)

-- the parameters of instances behind others
abbrev AreNew : List (List Field) → List Instance → Type 0
AreNew seen [] = Unit {0}
AreNew seen (i ∷ is) = (is_among i.params seen ≡ false) × AreNew seen is

new-more : (i : Instance) (seen : List (List Field)) (is : List Instance) → AreBehind i is → AreNew seen is → AreNew (i.params ∷ seen) is
new-more i seen [] h g = tt
new-more i seen (j ∷ js) h g = (or_from (all_equal j.params i.params) (is_among j.params seen) h.0.other g.0, new-more i seen js h.1 g.1)

new-first : (is : List Instance) → AreNew [] is
new-first [] = tt
new-first (i ∷ is) = (refl, new-first is)

count-map : {A : Type 0} (f : A → SavedInstance) (xs : List A) → count_of (map f xs) ≡ length xs
count-map f [] = refl
count-map f (x ∷ xs) = let on = count-map f xs in omega (arith, on)

-- what is known of a run's table
pub record IsKnownTable (plan : Plan) (times : Times) (table : List TableRow) : Type 0 where
  pub timed : AreTimed (time_or 0 times.start) table
  pub up_to : AreUpTo (time_or 0 times.last) table
  pub kinds : IsTableOf plan.spec.streams table
  pub steps : times.steps ≡ length table
  pub none : is_some times.last ≡ false → table ≡ []

module _ (plan : Plan) (times : Times) (table : List TableRow) (known : IsKnownTable plan times table) where
  abbrev start : ℕ
  start = time_or 0 times.start

  abbrev last : ℕ
  last = time_or 0 times.last

  module _ (n : ℕ) (s : Stream) (at : slice_get plan.spec.streams n ≡ Some s) (form : StreamForm) (kind_is : form.kind ≡ filled_kind s) (params_are : form.parameters ≡ s.parameters) (sized : HaveLength form.windows) where
    kinded : (i : Instance) → AreOfKind form.kind (values_over n i (drop i.born table))
    kinded i = subst (λ (k : Kind). AreOfKind k (values_over n i (drop i.born table))) (sym kind_is) (values-since plan.spec.streams table known.kinds n s at i)

    pub few : (i : Instance) → length (values_over n i (drop i.born table)) ≤ times.steps
    few i = let a = few-since n i table in let b = known.steps in omega (arith, a, b)

    none-of : (i : Instance) → is_some times.last ≡ false → length (values_over n i (drop i.born table)) ≡ 0
    none-of i e =
        let a = few-since n i table in
        let b : length table ≡ 0 = ap (λ (rows : List TableRow). length rows) (known.none e) in
        omega (arith, a, b)

    pub timed-values : (i : Instance) → AreTimedValues form.kind start last (values_over n i (drop i.born table))
    timed-values i =
        both-of form.kind start last (values_over n i (drop i.born table)) (kinded i)
        (times-over n i start last (drop i.born table) (timed-drop start i.born table known.timed) (up-drop last i.born table known.up_to))

    -- an instance by itself
    instance-is : (i : Instance) → are_values s.parameters i.params ≡ true → IsInstance times form (saved_life start form (life_after table n i))
    instance-is i h =
        let vs : List (ℕ × Field) = values_over n i (drop i.born table) in
        record {
          params = subst (λ (ks : List Kind). are_values ks i.params ≡ true) (sym params_are) h;
          ring = all-kind form.kind (drop (length vs - form.kept) vs) (drop-kind form.kind (length vs - form.kept) vs (kinded i));
          kept = ring-few form.kept vs;
          none = λ e. ring-none form.kept vs (none-of i e);
          panes = all-panes times form.kind vs form.windows sized (λ w pane. panes-right times form.kind w vs pane (timed-values i) (few i) (none-of i));
        }

    -- none was born before a time
    abbrev AreNotBefore : ℕ → List Instance → Type 0
    AreNotBefore low [] = Unit {0}
    AreNotBefore low (i ∷ is) = (low ≤ time_of 0 (slice_get table i.born)) × AreNotBefore low is

    behind-times : (i : Instance) (is : List Instance) → AreBehind i is → AreBornBefore (length table) is → AreNotBefore (time_of 0 (slice_get table i.born)) is
    behind-times i [] h b = tt
    behind-times i (j ∷ js) h b = (times-rise start table i.born j.born known.timed h.0.born b.0, behind-times i js h.1 b.1)

    all-not-before : (is : List Instance) → AreBornBefore (length table) is → AreNotBefore start is
    all-not-before [] b = tt
    all-not-before (i ∷ is) b = ((time-between start last table i.born known.timed known.up_to b.0).0, all-not-before is b.1)

    -- a time of birth, where there is a spawn clause
    born-is : (low t : ℕ) (b : Bool) → form.spawns ≡ b → (form.spawns ≡ true → (low ≤ t) × (t ≤ last)) → IsBorn form low last (if b then Some t else None)
    born-is low t true e h = (e, (h e).0, (h e).1)
    born-is low t false e h = e

    next-later : (low : ℕ) (i : Instance) (is : List Instance) (b : Bool) → form.spawns ≡ b → AreBehind i is → (form.spawns ≡ true → AreBornBefore (length table) is)
        → form.spawns ≡ true → AreNotBefore (time_or low (if b then Some (time_of 0 (slice_get table i.born)) else None)) is
    next-later low i is true e line born sp = behind-times i is line (born sp)
    next-later low i is false e line born sp = absurd (cc)

    instances-are : (seen : List (List Field)) (low : ℕ) (is : List Instance) → AreInLine is → AreInstancesOf s is → AreNew seen is → (form.spawns ≡ true → AreBornBefore (length table) is)
        → (form.spawns ≡ true → AreNotBefore low is) → AreInstances times form seen low (map (saved_life start form) (map (life_after table n) is))
    instances-are seen low [] line params new born later = tt
    instances-are seen low (i ∷ is) line params new born later = (
      instance-is i params.0,
      born-is low (time_of 0 (slice_get table i.born)) form.spawns refl (λ e. ((later e).0, (time-between start last table i.born known.timed known.up_to (born e).0).1)),
      new.0,
      instances-are (i.params ∷ seen) (time_or low (if form.spawns then Some (time_of 0 (slice_get table i.born)) else None)) is line.1 params.1 (new-more i seen is line.0 new.1) (λ e. (born e).1)
          (next-later low i is form.spawns refl line.0 (λ e. (born e).1)),
    )

    -- all instances of the stream
    module _ (spawns_is : form.spawns ≡ elim s.spawn as (λ _. Bool) [ None ↦ false | Some k ↦ true ]) (crowd : IsCrowd s (length table) (survivors n s (last_row table))) (params : AreInstancesOf s (survivors n s (last_row table))) where
      abbrev alive : List Instance
      alive = survivors n s (last_row table)

      no-clause : (o : Option Clause) → s.spawn ≡ o → elim o as (λ _. Bool) [ None ↦ false | Some k ↦ true ] ≡ false → s.spawn ≡ None
      no-clause None e h = e
      no-clause (Some k) e h = absurd (cc)

      a-clause : (o : Option Clause) → s.spawn ≡ o → elim o as (λ _. Bool) [ None ↦ false | Some k ↦ true ] ≡ true → (k : Clause) × (s.spawn ≡ Some k)
      a-clause None e h = absurd (cc)
      a-clause (Some k) e h = (k, e)

      unspawned : form.spawns ≡ false → s.spawn ≡ None
      unspawned e = no-clause s.spawn refl (sym spawns_is ∙ e)

      spawned : form.spawns ≡ true → (k : Clause) × (s.spawn ≡ Some k)
      spawned e = a-clause s.spawn refl (sym spawns_is ∙ e)

      counted : count_of (map (saved_life start form) (map (life_after table n) alive)) ≡ length alive
      counted = count-map (saved_life start form) (map (life_after table n) alive) ∙ length-map alive (life_after table n)

      nobody : (rows : List TableRow) → rows ≡ [] → (k : Clause) → s.spawn ≡ Some k → survivors n s (last_row rows) ≡ []
      nobody rows e k q = ap (λ (rs : List TableRow). survivors n s (last_row rs)) e ∙ ap (λ (o : Option Clause). elim o as (λ _. List Instance) [ None ↦ the_instance ∷ [] | Some c ↦ [] ]) q

      born-all : form.spawns ≡ true → AreBornBefore (length table) alive
      born-all e = crowd.born (spawned e).0 (spawned e).1

      pub stream-is : IsStream times form (map (saved_life start form) (map (life_after table n) alive))
      stream-is = record {
        plain = λ e. counted ∙ ap (λ (is : List Instance). length is) (crowd.plain (unspawned e));
        few = λ e. let a = crowd.few in let b = counted in omega (arith, a, b);
        unborn = λ e q. counted ∙ ap (λ (is : List Instance). length is) (nobody table (known.none q) (spawned e).0 (spawned e).1);
        instances = instances-are [] start alive crowd.line params (new-first alive) born-all (λ e. all-not-before alive (born-all e));
      }

  -- all streams from one on
  pub streams-are : (n : ℕ) (ss : List Stream) (kept : List ℕ) (pacings : List ClausePacings) → ((j : ℕ) (s : Stream) → slice_get ss j ≡ Some s → slice_get plan.spec.streams (n + j) ≡ Some s)
      → ((m : ℕ) (s : Stream) → slice_get plan.spec.streams m ≡ Some s → IsCrowd s (length table) (survivors m s (last_row table)))
      → ((m : ℕ) (s : Stream) → slice_get plan.spec.streams m ≡ Some s → AreInstancesOf s (survivors m s (last_row table)))
      → AreStorable (stream_forms plan n (layouts_from ss kept pacings))
      → AreStreams times (stream_forms plan n (layouts_from ss kept pacings)) (saved_streams start (stream_forms plan n (layouts_from ss kept pacings)) (streams_after table n ss))
  streams-are n [] kept pacings at crowds params storable = tt
  streams-are n (s ∷ ss) kept pacings at crowds params storable =
      let here : slice_get plan.spec.streams n ≡ Some s = subst (λ (x : ℕ). slice_get plan.spec.streams x ≡ Some s) (omega arith) (at 0 s refl) in (
        stream-is n s here _ refl refl storable.1 refl (crowds n s here) (params n s here),
        streams-are (n + 1) ss (drop 1 kept) (drop 1 pacings) (λ j t q. subst (λ (x : ℕ). slice_get plan.spec.streams x ≡ Some t) (omega arith) (at (suc j) t q)) crowds params storable.2,
      )
