use Rattle.std.proofs.Common.{◌≡◌, ◌∙◌, ◌++◌, ◌+◌, ◌-◌, ◌^◌, ◌<◌, ◌≤◌, ℕ, List, ap, arith, drop, length, length-append, subst, sym, take}
use Rattle.lola_value.specs.Times.{latest}
use Rattle.lola_value.specs.declared.value.Outcome.{Outcome}
use Rattle.lola_model.specs.Content.{Content}
use Rattle.lola_model.specs.Store.{Layout, Memories, Seen, Stands}
use Rattle.lola_step_contents.specs.Stages.{content_so_far, eval_stage, full_row, layer_stage}
use Rattle.lola_step.specs.Evals.{IsReadyFor}
use Rattle.lola_step.specs.Found.{has_fault}
use Rattle.lola_step.specs.Given.{AreHeldIn, AreKnown, AreResults, CanGiveAll, after_all, told_outcomes}
use Rattle.lola_step.specs.Notes.{ShowResults, layer_tasks}
use Rattle.lola_step.specs.Progress.{GoesOn, IsAt}
use Rattle.lola_step.specs.Rooms.{rooms}
use Rattle.lola_step.specs.Tasks.{AreTasks}
use Rattle.lola_step.specs.declared.scratch.Span.{Span}
use Rattle.lola_step.specs.declared.tasks.Task.{Task}
use Rattle.lola_step.proofs.Faultless.{faultless_more}
use Rattle.lola_step.proofs.Gathering.{all_rooms, layer_fits}
use Rattle.lola_step.proofs.LayerNotes.{ready_after, rooms_after, spans_after}
use Rattle.lola_step.proofs.LayerTasks.{are_tasks, at_after, can_give_layer, goes_on, numbered}
use Rattle.lola_step.proofs.Layouts.{layouts_length, pacings_length}
use Rattle.lola_step.proofs.LayerTold.{held_all, next_content, shows_more}
use Rattle.lola_step.proofs.Results.{behind_is}
use Rattle.lola_step.proofs.evals.eval_layer.Given.{Over}
use Rattle.lola_step.proofs.evals.eval_layer.Goals as goal
use Rattle.lola_step.proofs.evals.eval_layer.Goals.{After-give_shared}

-- a list with more is no shorter
no_less : {A : Type 0} (a b n m : ℕ) (old new more : List A) → a ≡ n → n ≡ length old → b ≡ m → m ≡ length new → new ≡ old ++ more → a ≤ b
no_less a b n m old new more p q r s e = omega (arith, p, q, r, s, ap length e, length-append old more)

-- as many outcomes as tasks
as_many : {A B : Type 0} (given asked tasks : List A) (gives fresh old new : List B) (n m : ℕ) → given ≡ tasks → asked ≡ tasks → gives ≡ fresh → new ≡ old ++ fresh → n ≡ length old → m ≡ length new → m ≡ n + length asked
    → length given ≡ length gives
as_many given asked tasks gives fresh old new n m a b d e p q more =
    omega (arith, ap length a, ap length b, ap length d, ap length e, length-append old fresh, p, q, more)

pub answer_tasks-requires-clause-numbered : goal.answer_tasks-requires-clause-numbered
answer_tasks-requires-clause-numbered g c κs within =
    let P : List Task → Type 0 = λ ts. length ts < 2 ^ 32 in
    subst P
    (sym (behind_is c.deref.result.now c.args.tasks.now.items
    (layer_tasks c.args.plan.now c.args.moment.now c.args.spawn_results.now c.seek_layer.new.sought (g.S.StreamStore.seen c.args.store.now) c.args.layer 0 c.args.plan.now.spec.streams) c.len-from.result
    (c.deref.ensures.value ∙ c.gather.ensures.tasks) (c.len-from.ensures ∙ c.args.tasks.now.ok.0)))
    (numbered c.args.plan.now c.args.moment.now c.args.spawn_results.now c.seek_layer.new.sought (g.S.StreamStore.seen c.args.store.now) c.args.layer c.requires.accepted c.requires.at c.requires.moment)

pub answer_tasks-requires-clause-ready : goal.answer_tasks-requires-clause-ready
answer_tasks-requires-clause-ready g c κs within =
    let P : List Task → Type 0 = λ ts. AreTasks c.args.plan.now c.args.moment.now (g.S.StreamStore.seen c.args.store.now) ts in
    subst P
    (sym (behind_is c.deref.result.now c.args.tasks.now.items
    (layer_tasks c.args.plan.now c.args.moment.now c.args.spawn_results.now c.seek_layer.new.sought (g.S.StreamStore.seen c.args.store.now) c.args.layer 0 c.args.plan.now.spec.streams) c.len-from.result
    (c.deref.ensures.value ∙ c.gather.ensures.tasks) (c.len-from.ensures ∙ c.args.tasks.now.ok.0)))
    (are_tasks c.args.plan.now c.args.moment.now c.args.spawn_results.now c.seek_layer.new.sought (g.S.StreamStore.seen c.args.store.now) c.args.layer c.requires.accepted c.requires.at c.requires.moment)

pub answer_tasks-requires-clause-room : goal.answer_tasks-requires-clause-room
answer_tasks-requires-clause-room g c κs within =
    let plan = c.args.plan.now in
    let seen = g.S.StreamStore.seen c.args.store.now in
    let tasks = layer_tasks plan c.args.moment.now c.args.spawn_results.now c.seek_layer.new.sought seen c.args.layer 0 plan.spec.streams in
    let asked = behind_is c.deref.result.now c.args.tasks.now.items tasks c.len-from.result (c.deref.ensures.value ∙ c.gather.ensures.tasks) (c.len-from.ensures ∙ c.args.tasks.now.ok.0) in
    let fits = layer_fits plan c.args.moment.now c.args.spawn_results.now c.seek_layer.new.sought seen c.args.layer 0 plan.spec.streams (rooms seen) (omega arith)
    (all_rooms plan c.args.moment.now c.args.spawn_results.now c.seek_layer.new.sought seen c.args.layer c.requires.at.of.streams) in
    omega (arith, ap length asked, fits, c.requires.rooms.results_room)

pub give_shared-requires-clause-known : goal.give_shared-requires-clause-known
give_shared-requires-clause-known g c κs within =
    let plan = c.args.plan.now in
    let shown = g.S.StreamStore.seen c.args.store.now in
    let tasks = layer_tasks plan c.args.moment.now c.args.spawn_results.now c.seek_layer.new.sought shown c.args.layer 0 plan.spec.streams in
    let from = c.len-from.ensures ∙ c.args.tasks.now.ok.0 in
    let laid_out : length shown.layout.streams ≡ length plan.spec.streams = ap (λ (l : Layout). length l.streams) c.requires.at.of.layout ∙ layouts_length plan.spec.streams plan.kept plan.pacings in
    let paced = pacings_length plan c.requires.accepted in
    let known : AreKnown shown tasks = λ i t e.
    let task = (are_tasks plan c.args.moment.now c.args.spawn_results.now c.seek_layer.new.sought shown c.args.layer c.requires.accepted c.requires.at c.requires.moment i t e).paced in
    omega (arith, task, paced, laid_out) in
    subst (AreKnown shown) (sym (behind_is c.deref-2.result.now c.args.tasks.now.items tasks c.len-from.result (c.deref-2.ensures.value ∙ c.gather.ensures.tasks) from)) known

pub give_shared-requires-clause-can : goal.give_shared-requires-clause-can
give_shared-requires-clause-can g c κs within =
    let shown = g.S.StreamStore.seen c.args.store.now in
    let tasks = layer_tasks c.args.plan.now c.args.moment.now c.args.spawn_results.now c.seek_layer.new.sought shown c.args.layer 0 c.args.plan.now.spec.streams in
    let answered = c.answer_tasks.ensures.answered in
    let from = c.len-from.ensures ∙ c.args.tasks.now.ok.0 in
    let A : List Task → Type 0 = λ ts. AreResults c.args.plan.now c.args.moment.now (g.S.StreamStore.remembers c.args.store.now) shown ts answered.fresh in
    let are : A tasks = subst A (behind_is c.deref.result.now c.args.tasks.now.items tasks c.len-from.result (c.deref.ensures.value ∙ c.gather.ensures.tasks) from) answered.are in
    let same : answered.fresh ≡ take (length c.deref-3.result.now - c.len-done.result) (drop c.len-done.result c.deref-3.result.now) =
    sym (behind_is c.deref-3.result.now c.args.results.now.items answered.fresh c.len-done.result (c.deref-3.ensures.value ∙ answered.is) (c.len-done.ensures ∙ c.args.results.now.ok.0)) in
    let P : List Task → Type 0 = λ ts. CanGiveAll shown ts answered.fresh in
    let Q : List Outcome → Type 0 = λ rs. CanGiveAll shown (take (length c.deref-2.result.now - c.len-from.result) (drop c.len-from.result c.deref-2.result.now)) rs in
    subst Q same
    (subst P (sym (behind_is c.deref-2.result.now c.args.tasks.now.items tasks c.len-from.result (c.deref-2.ensures.value ∙ c.gather.ensures.tasks) from))
    (can_give_layer c.args.plan.now c.args.moment.now c.args.spawn_results.now c.seek_layer.new.sought shown c.args.layer c.requires.accepted c.requires.at c.requires.moment (g.S.StreamStore.remembers c.args.store.now) answered.fresh are))

module _ (g : Over) (c : After-give_shared g) where
  abbrev shown : Seen
  shown = g.S.StreamStore.seen c.args.store.now

  abbrev remembers : Memories
  remembers = g.S.StreamStore.remembers c.args.store.now

  abbrev tasks : List Task
  tasks = layer_tasks c.args.plan.now c.args.moment.now c.args.spawn_results.now c.seek_layer.new.sought shown c.args.layer 0 c.args.plan.now.spec.streams

  abbrev before : List Task
  before = c.args.tasks.now.items

  abbrev first : List Outcome
  first = c.args.results.now.items

  abbrev fresh : List Outcome
  fresh = c.answer_tasks.ensures.answered.fresh

  abbrev given : List Task
  given = take (length c.deref-2.result.now - c.len-from.result) (drop c.len-from.result c.deref-2.result.now)

  abbrev gives : List Outcome
  gives = take (length c.deref-3.result.now - c.len-done.result) (drop c.len-done.result c.deref-3.result.now)

  from_is : c.len-from.result ≡ length before
  from_is = c.len-from.ensures ∙ c.args.tasks.now.ok.0

  tasks_are : before ++ tasks ≡ c.gather.new.tasks.items
  tasks_are = sym c.gather.ensures.tasks

  asked_are : take (length c.deref.result.now - c.len-from.result) (drop c.len-from.result c.deref.result.now) ≡ tasks
  asked_are = behind_is c.deref.result.now before tasks c.len-from.result (c.deref.ensures.value ∙ c.gather.ensures.tasks) from_is

  given_are : given ≡ tasks
  given_are = behind_is c.deref-2.result.now before tasks c.len-from.result (c.deref-2.ensures.value ∙ c.gather.ensures.tasks) from_is

  are_results : AreResults c.args.plan.now c.args.moment.now remembers shown tasks fresh
  are_results = subst (λ ts. AreResults c.args.plan.now c.args.moment.now remembers shown ts fresh) asked_are c.answer_tasks.ensures.answered.are

  gives_are : gives ≡ fresh
  gives_are = behind_is c.deref-3.result.now first fresh c.len-done.result (c.deref-3.ensures.value ∙ c.answer_tasks.ensures.answered.is) (c.len-done.ensures ∙ c.args.results.now.ok.0)

  seen_is : after_all shown tasks fresh ≡ g.S.StreamStore.seen c.give_shared.new.store
  seen_is = sym (c.give_shared.ensures.seen ∙ (ap (λ ts. after_all shown ts gives) given_are ∙ ap (λ rs. after_all shown tasks rs) gives_are))

  results_is : first ++ fresh ≡ c.answer_tasks.new.results.items
  results_is = sym c.answer_tasks.ensures.answered.is

  spans_is : spans_after c.args.plan.now c.args.moment.now c.args.spawn_results.now c.seek_layer.new.sought remembers shown c.args.layer before first fresh c.args.spans.now ≡ c.gather.new.spans
  spans_is = sym c.gather.ensures.spans

pub returns-clause-at : goal.returns-clause-at
returns-clause-at g c =
    let P : Seen → Type 0 = λ s. IsAt c.args.plan.now (layer_stage (length c.args.plan.now.spec.streams) (c.args.layer + 1)) s in
    subst P (seen_is g c)
    (at_after c.args.plan.now c.args.moment.now c.args.spawn_results.now c.seek_layer.new.sought (shown g c) c.args.layer c.requires.accepted c.requires.at c.requires.moment (fresh g c))

pub returns-clause-goes_on : goal.returns-clause-goes_on
returns-clause-goes_on g c =
    let P : Seen → Type 0 = λ s. GoesOn (shown g c) s in
    subst P (seen_is g c)
    (goes_on c.args.plan.now c.args.moment.now c.args.spawn_results.now c.seek_layer.new.sought (shown g c) c.args.layer c.requires.accepted c.requires.at c.requires.moment (fresh g c))

pub returns-clause-rooms : goal.returns-clause-rooms
returns-clause-rooms g c =
    let asked : length c.gather.new.tasks.items ≡ length (before g c) + length (tasks g c) = ap length c.gather.ensures.tasks ∙ length-append (before g c) (tasks g c) in
    rooms_after c.args.plan.now c.args.moment.now c.args.spawn_results.now c.seek_layer.new.sought (shown g c) (g.S.StreamStore.seen c.give_shared.new.store) c.args.layer
    c.args.places.now c.gather.new.places c.args.tasks.now c.gather.new.tasks c.args.results.now c.answer_tasks.new.results c.requires.at c.requires.rooms
    (returns-clause-goes_on g c).rooms c.gather.ensures.places c.gather.ensures.capacity c.answer_tasks.ensures.capacity
    (omega (arith, asked, c.gather.new.tasks.ok.0, c.args.tasks.now.ok.0))
    (omega (arith, ap length (asked_are g c), c.answer_tasks.ensures.more))

pub returns-clause-spans : goal.returns-clause-spans
returns-clause-spans g c =
    let plan = c.args.plan.now in
    let next = layer_stage (length plan.spec.streams) (c.args.layer + 1) in
    let spans = spans_after plan c.args.moment.now c.args.spawn_results.now c.seek_layer.new.sought (remembers g c) (shown g c) c.args.layer (before g c) (first g c) (fresh g c) c.args.spans.now in
    let new = g.S.StreamStore.seen c.give_shared.new.store in
    let results = c.answer_tasks.new.results.items in
    let P : Seen → Type 0 = λ s. IsReadyFor plan next s (before g c ++ tasks g c) (first g c ++ fresh g c) spans in
    let T : List Task → Type 0 = λ ts. IsReadyFor plan next new ts (first g c ++ fresh g c) spans in
    let Q : List Outcome → Type 0 = λ rs. IsReadyFor plan next new c.gather.new.tasks.items rs spans in
    let R : List Span → Type 0 = λ ps. IsReadyFor plan next new c.gather.new.tasks.items results ps in
    subst R (spans_is g c) (subst Q (results_is g c) (subst T (tasks_are g c) (subst P (seen_is g c)
    (ready_after plan c.args.moment.now c.args.spawn_results.now c.seek_layer.new.sought (remembers g c) (shown g c) c.args.layer (before g c) (first g c) (fresh g c) c.args.spans.now c.requires.rooms.each (are_results g c) c.requires.spans))))

pub returns-clause-takes : goal.returns-clause-takes
returns-clause-takes g c names rows step run with_spawn_results =
    let now = content_so_far c.args.plan.now c.args.moment.now.start rows step (eval_stage (length c.args.plan.now.spec.streams) c.args.layer) in
    let held = held_all c.args.plan.now c.args.moment.now c.args.spawn_results.now c.seek_layer.new.sought (remembers g c) (shown g c) c.args.layer c.requires.accepted names rows step c.requires.at run with_spawn_results c.seek_layer.ensures.sought (fresh g c) (are_results g c) in
    let told = next_content c.args.plan.now c.args.moment.now c.args.spawn_results.now c.seek_layer.new.sought (remembers g c) (shown g c) c.args.layer c.requires.accepted names rows step c.requires.at run with_spawn_results c.seek_layer.ensures.sought (fresh g c) (are_results g c) in
    let H : List Outcome → Type 0 = λ rs. AreHeldIn names rs in
    let P : Content → Type 0 = λ d. Stands names (g.S.StreamStore.remembers c.give_shared.new.store) (g.S.StreamStore.seen c.give_shared.new.store) d in
    record {
      run = run.run;
      moment = run.moment;
      stands = subst P (ap (λ ts. told_outcomes names now ts (gives g c)) (given_are g c) ∙ (ap (λ rs. told_outcomes names now (tasks g c) rs) (gives_are g c) ∙ told))
          (c.give_shared.ensures.stands names now (subst H (sym (gives_are g c)) held) run.stands);
    }

pub returns-clause-shows : goal.returns-clause-shows
returns-clause-shows g c names rows step run with_spawn_results earlier =
    let plan = c.args.plan.now in
    let full = (full_row plan c.args.moment.now.start rows step).streams in
    let next = layer_stage (length plan.spec.streams) (c.args.layer + 1) in
    let P : List Span → Type 0 = λ ps. ShowResults plan full next names ps (before g c ++ tasks g c) (first g c ++ fresh g c) in
    let T : List Task → Type 0 = λ ts. ShowResults plan full next names c.gather.new.spans ts (first g c ++ fresh g c) in
    let Q : List Outcome → Type 0 = λ rs. ShowResults plan full next names c.gather.new.spans c.gather.new.tasks.items rs in
    subst Q (results_is g c) (subst T (tasks_are g c) (subst P (spans_is g c)
    (shows_more plan c.args.moment.now c.args.spawn_results.now c.seek_layer.new.sought (remembers g c) (shown g c) c.args.layer c.requires.accepted names rows step c.requires.at run with_spawn_results c.seek_layer.ensures.sought
    (fresh g c) (are_results g c) (before g c) (first g c) c.requires.rooms.each c.args.spans.now c.requires.spans earlier)))

pub returns-clause-faultless : goal.returns-clause-faultless
returns-clause-faultless g c none before_none =
    faultless_more (first g c) (fresh g c) c.answer_tasks.new.results.items (results_is g c) before_none
    (ap has_fault (sym (gives_are g c)) ∙ (sym c.give_shared.ensures.faulty ∙ none))

pub overflow_sub-len : goal.overflow_sub-len
overflow_sub-len g c =
    no_less c.len-from.result c.len.result _ _ c.args.tasks.now.items c.gather.new.tasks.items _ c.len-from.ensures c.args.tasks.now.ok.0 c.len.ensures c.gather.new.tasks.ok.0 c.gather.ensures.tasks

pub slice_bounds-answer_tasks-count : goal.slice_bounds-answer_tasks-count
slice_bounds-answer_tasks-count g c =
    no_less c.len-from.result (length c.deref.result.now) _ _ c.args.tasks.now.items c.gather.new.tasks.items _ c.len-from.ensures c.args.tasks.now.ok.0 c.deref.ensures.len c.gather.new.tasks.ok.0 c.gather.ensures.tasks

pub slice_bounds-give_shared-count : goal.slice_bounds-give_shared-count
slice_bounds-give_shared-count g c =
    no_less c.len-from.result (length c.deref-2.result.now) _ _ c.args.tasks.now.items c.gather.new.tasks.items _ c.len-from.ensures c.args.tasks.now.ok.0 c.deref-2.ensures.len c.gather.new.tasks.ok.0 c.gather.ensures.tasks

pub slice_bounds-give_shared-count-2 : goal.slice_bounds-give_shared-count-2
slice_bounds-give_shared-count-2 g c =
    no_less c.len-done.result (length c.deref-3.result.now) _ _ c.args.results.now.items c.answer_tasks.new.results.items _ c.len-done.ensures c.args.results.now.ok.0 c.deref-3.ensures.len c.answer_tasks.new.results.ok.0 c.answer_tasks.ensures.answered.is

pub give_shared-requires-clause-places : goal.give_shared-requires-clause-places
give_shared-requires-clause-places g c κs within =
    let tasks = layer_tasks c.args.plan.now c.args.moment.now c.args.spawn_results.now c.seek_layer.new.sought (g.S.StreamStore.seen c.args.store.now) c.args.layer 0 c.args.plan.now.spec.streams in
    let answered = c.answer_tasks.ensures.answered in
    let from = c.len-from.ensures ∙ c.args.tasks.now.ok.0 in
    as_many _ _ tasks _ answered.fresh c.args.results.now.items c.answer_tasks.new.results.items _ _
    (behind_is c.deref-2.result.now c.args.tasks.now.items tasks c.len-from.result (c.deref-2.ensures.value ∙ c.gather.ensures.tasks) from)
    (behind_is c.deref.result.now c.args.tasks.now.items tasks c.len-from.result (c.deref.ensures.value ∙ c.gather.ensures.tasks) from)
    (behind_is c.deref-3.result.now c.args.results.now.items answered.fresh c.len-done.result (c.deref-3.ensures.value ∙ answered.is) (c.len-done.ensures ∙ c.args.results.now.ok.0))
    answered.is c.args.results.now.ok.0 c.answer_tasks.new.results.ok.0 c.answer_tasks.ensures.more

pub answer_tasks-requires-clause-code : goal.answer_tasks-requires-clause-code
answer_tasks-requires-clause-code g c κs within = c.requires.code

pub answer_tasks-requires-clause-none : goal.answer_tasks-requires-clause-none
answer_tasks-requires-clause-none g c κs within = c.requires.none

pub answer_tasks-requires-clause-workers : goal.answer_tasks-requires-clause-workers
answer_tasks-requires-clause-workers g c κs within =
    (c.sharers_of-sharers.ensures.0, few c.sharers_of-sharers.result c.args.workers c.sharers_of-sharers.ensures.1 c.requires.workers.1)
  where
    few : (a b : ℕ) → a ≤ b → b ≤ 64 → a ≤ 64
    few a b p q = omega arith

pub answer_tasks-requires-clause-in_time : goal.answer_tasks-requires-clause-in_time
answer_tasks-requires-clause-in_time g c κs within = subst (λ (t : ℕ). t ≤ latest) (sym c.requires.moment.time_is) c.requires.at.of.in_time

pub answer_tasks-requires-clause-layout : goal.answer_tasks-requires-clause-layout
answer_tasks-requires-clause-layout g c κs within = c.requires.at.of.layout

pub answer_tasks-requires-clause-running : goal.answer_tasks-requires-clause-running
answer_tasks-requires-clause-running g c κs within = c.requires.at.running

pub gather-requires-clause-of : goal.gather-requires-clause-of
gather-requires-clause-of g c = c.requires.at.of

pub gather-requires-clause-places_room : goal.gather-requires-clause-places_room
gather-requires-clause-places_room g c = c.requires.rooms.places_room

pub gather-requires-clause-spans : goal.gather-requires-clause-spans
gather-requires-clause-spans g c = c.requires.spans.each

pub gather-requires-clause-tasks_room : goal.gather-requires-clause-tasks_room
gather-requires-clause-tasks_room g c = c.requires.rooms.tasks_room

pub returns-clause-unsought : goal.returns-clause-unsought
returns-clause-unsought g c = c.seek_layer.ensures.unsought

pub returns-clause-places : goal.returns-clause-places
returns-clause-places g c = c.gather.ensures.places

pub returns-clause-capacities : goal.returns-clause-capacities
returns-clause-capacities g c = (c.gather.ensures.capacity, c.answer_tasks.ensures.capacity)
