use Rattle.std.proofs.Common.{◌≡◌, ◌∙◌, ℕ, Some, false, length, map, slice_get, ap, refl, sym, subst, arith, IsTrue, List}
use Rattle.lola_value.specs.declared.value.Kind.{Kind}
use Rattle.lola_model.specs.Store.{New, kind_in, layouts_from, opened}
use Rattle.lola_model.specs.Typing.{takes}
use Rattle.lola_instances_one.specs.Unborn.{AllSound}
use Rattle.lola_instances_stream.specs.Crowds.{Crowd}
use Rattle.lola_instances.specs.Opening.{ArePlaces, IsOpened, count_onto, onto}
use Rattle.lola_instances.specs.Placed.{ArePlaced}
use Rattle.lola_instances.specs.Spawning.{AreNumbered}
use Rattle.lola_instances.specs.Streams.{crowd_layout}
use Rattle.lola_instances.proofs.Asking.{layout_at, slots_count}
use Rattle.lola_instances.proofs.Covering.{onto_count}
use Rattle.lola_instances.proofs.Opened.{all_opened, blank_at, onto_sound, opened_placed}
use Rattle.lola_instances.proofs.store.BoundedStore.create.Goals as goal

pub open_all-requires-clause-sound : goal.open_all-requires-clause-sound
open_all-requires-clause-sound c = λ n l e.
    let plan = c.args.plan.now in
    let at : slice_get (layouts_from plan.spec.streams plan.kept plan.pacings) n ≡ Some l = (λ j. slice_get (layouts_from (sym c.as_slice-2.ensures j) (sym c.as_slice-3.ensures j) (sym c.as_slice-4.ensures j)) n) ∙ e in
    let sound : AllSound (onto n l.kind plan.spec.windows plan.panes) = onto_sound n l.kind plan.spec.windows plan.panes c.requires.sizes
    (λ i w f t. subst (λ (k : Kind). IsTrue (takes w.using k)) (ap kind_in (ap (slice_get (layouts_from plan.spec.streams plan.kept plan.pacings)) t ∙ at)) (c.requires.taken i w f)) c.requires.cut in
    subst (λ t. t) (λ j. AllSound (onto n l.kind (sym c.as_slice-5.ensures j) (sym c.as_slice-6.ensures j))) sound

pub invariant_of-result : goal.invariant_of-result
invariant_of-result c =
    let plan = c.args.plan.now in
    let ls = c.in_ok-streams.streams.items in
    let lay : map crowd_layout ls ≡ layouts_from plan.spec.streams plan.kept plan.pacings = c.in_ok-streams.ensures.layouts ∙ (λ j. layouts_from (c.as_slice-2.ensures j) (c.as_slice-3.ensures j) (c.as_slice-4.ensures j)) in
    let made : (n : ℕ) (k : Crowd) → slice_get ls n ≡ Some k → IsOpened plan.spec.windows plan.panes n k =
    λ n k e. subst (λ t. t) (λ j. IsOpened (c.as_slice-5.ensures j) (c.as_slice-6.ensures j) n k) (c.in_ok-streams.ensures.opened n k e) in
    let places : ArePlaces plan.spec.windows c.in_ok-places.places.items = subst (λ ws. ArePlaces ws c.in_ok-places.places.items) c.as_slice.ensures c.in_ok-places.ensures in
    record {
      step_ge = omega arith;
      step_le = omega arith;
      begun = λ e. cc;
      time_ge = omega arith;
      offset_is = refl;
      right = λ i k at. (made i k at).right (c.requires.plain i k.layout (ap (λ xs. slice_get xs i) (sym lay) ∙ layout_at ls i k at));
      placed = subst (λ t. t) (λ j. ArePlaced (sym c.in_ok-windows.ensures j) (sym c.in_ok-sizes.ensures j) c.in_ok-places.places.items ls)
          (opened_placed plan.spec.windows plan.panes c.in_ok-places.places.items ls c.requires.sizes c.requires.cut places made);
      at_places = subst (λ ws. ArePlaces ws c.in_ok-places.places.items) (sym c.in_ok-windows.ensures) places;
      covered = λ n k e. ap length (made n k e).windows ∙ (onto_count n k.layout.kind plan.spec.windows plan.panes ∙ ap (count_onto n) (sym c.in_ok-windows.ensures));
      numbered = subst (λ (xs : List Crowd). AreNumbered xs c.in_ok-spawning.spawning.items) c.as_slice-7.ensures.value c.in_ok-spawning.ensures;
    }

pub returns-clause-seen : goal.returns-clause-seen
returns-clause-seen c =
    let ls = c.in_ok-streams.streams.items in
    let plan = c.args.plan.now in
    let lay : map crowd_layout ls ≡ layouts_from plan.spec.streams plan.kept plan.pacings = c.in_ok-streams.ensures.layouts ∙ (λ j. layouts_from (c.as_slice-2.ensures j) (c.as_slice-3.ensures j) (c.as_slice-4.ensures j)) in
    let q = all_opened c.as_slice-5.result.now c.as_slice-6.result.now ls (λ n k e. (n, c.in_ok-streams.ensures.opened n k e)) ∙ ap (map opened) lay in
    λ j. record {
      layout = record { streams = lay j; windows = c.in_ok-windows.ensures j; panes = c.in_ok-sizes.ensures j };
      phase = New;
      prepared = false;
      steps = 0;
      streams = q j;
    }

pub returns-clause-past : goal.returns-clause-past
returns-clause-past c = λ names n i l.
    let ls = c.in_ok-streams.streams.items in
    blank_at c.as_slice-5.result.now c.as_slice-6.result.now names ls n i (λ m k e. (m, c.in_ok-streams.ensures.opened m k e)) (omega (arith, l, slots_count 1 ls n))
