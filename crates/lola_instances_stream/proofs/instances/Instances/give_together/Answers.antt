-- Each instance was given what it comes to, or nothing has changed.
use Rattle.std.proofs.Common.{◌≡◌, ◌∙◌, ℕ, true, false, length, map, slice_get, refl, ap, sym, subst, IsTrue}
use Rattle.lola_model.specs.Given.{AreOutcomesOf, given_each}
use Rattle.lola_model.specs.Store.{StreamLayout, is_silent}
use Rattle.lola_instances_one.specs.Holdings.{slot_seen}
use Rattle.lola_instances_stream.specs.Births.{births_of}
use Rattle.lola_instances_stream.specs.Crowds.{Crowd, RemembersAt, shown_at}
use Rattle.lola_instances_stream.specs.Givings.{AreGiven}
use Rattle.lola_instances_stream.specs.Rights.{AreRight, HasPlaces}
use Rattle.lola_instances_stream.proofs.Gifts.{are_ready, given_births, given_count, given_past, given_right, given_seen}
use Rattle.lola_instances_stream.proofs.instances.Instances.give_together.Goals as goal

pub give_together-requires-clause-ready : goal.give_together-requires-clause-ready
give_together-requires-clause-ready g c κs within =
    let w = c.self.view_is in
    let layout : StreamLayout = record { kind = c.self.inside.kind; parameters = c.self.inside.parameters; spawns = c.self.inside.spawns; kept = c.self.inside.kept; locals = c.self.inside.dues.rates } in
    are_ready c.args.step c.args.offset layout c.self.inside.windows.items c.requires.step_le c.self.inside.slots.items c.args.outcomes.now
    (subst (λ (k : Crowd). length c.args.outcomes.now ≡ length k.slots) (sym w) c.requires.each)
    (subst (AreRight true c.args.step c.args.offset) (sym w) c.requires.right)
    (subst (λ (k : Crowd). (i : ℕ) → IsTrue (is_silent (shown_at c.args.step (slice_get k.slots i)))) (sym w) c.requires.silent)
    (subst (λ (k : Crowd). AreOutcomesOf k.layout.kind c.args.outcomes.now) (sym w) c.requires.kinds)

pub invariant_of-self : goal.invariant_of-self
invariant_of-self g c =
    let xs = c.self.inside.slots.items in
    let ys = c.give_together.new.self.items in
    let listed = subst (HasPlaces c.self.inside.spares.items) (sym c.give_together.ensures.rest) c.self.invariant.1 in
    let dated = c.self.invariant.2 in
    let births : births_of ys ≡ births_of xs = (elim c.give_together.result as (λ b. (b ≡ true → AreGiven c.args.step c.args.offset xs c.args.outcomes.now ys) → (b ≡ false → ys ≡ xs) → births_of ys ≡ births_of xs) [
      | true ↦ λ h q. given_births c.args.step c.args.offset xs c.args.outcomes.now ys (h refl)
      | false ↦ λ h q. ap births_of (q refl)
    ]) c.give_together.ensures.given c.give_together.ensures.none in (
      c.self.invariant.0,
      listed,
      record {
        births = λ timed. dated.births timed ∙ sym births;
        room = dated.room;
      },
    )

pub returns-clause-right : goal.returns-clause-right
returns-clause-right g c = λ yes.
    let w = c.self.view_is in
    let layout : StreamLayout = record { kind = c.self.inside.kind; parameters = c.self.inside.parameters; spawns = c.self.inside.spawns; kept = c.self.inside.kept; locals = c.self.inside.dues.rates } in
    given_right c.args.step c.args.offset layout c.self.inside.windows.items c.requires.step_ge c.self.invariant.0.kept_ge c.self.inside.slots.items c.args.outcomes.now c.give_together.new.self.items (c.give_together.ensures.given yes)
    (subst (AreRight true c.args.step c.args.offset) (sym w) c.requires.right)
    (subst (λ (k : Crowd). (i : ℕ) → IsTrue (is_silent (shown_at c.args.step (slice_get k.slots i)))) (sym w) c.requires.silent)
    (subst (λ (k : Crowd). AreOutcomesOf k.layout.kind c.args.outcomes.now) (sym w) c.requires.kinds)

pub returns-clause-count : goal.returns-clause-count
returns-clause-count g c = λ yes.
    given_count c.args.step c.args.offset c.self.inside.slots.items c.args.outcomes.now c.give_together.new.self.items (c.give_together.ensures.given yes)
    ∙ ap (λ (k : Crowd). length k.slots) c.self.view_is

pub returns-clause-seen : goal.returns-clause-seen
returns-clause-seen g c = λ yes.
    given_seen c.args.step c.args.offset c.self.inside.slots.items c.args.outcomes.now c.give_together.new.self.items (c.give_together.ensures.given yes)
    ∙ ap (λ (k : Crowd). given_each (map (slot_seen c.args.step) k.slots) c.args.outcomes.now) c.self.view_is

pub returns-clause-past : goal.returns-clause-past
returns-clause-past g c = λ yes start time names i values o l held m.
    let w = c.self.view_is in
    given_past c.args.step c.args.offset start time names values o l c.self.inside.slots.items c.args.outcomes.now c.give_together.new.self.items (c.give_together.ensures.given yes)
    (subst (λ (k : Crowd). (i : ℕ) → IsTrue (is_silent (shown_at c.args.step (slice_get k.slots i)))) (sym w) c.requires.silent)
    held i (subst (λ (k : Crowd). RemembersAt start time c.args.step names (slice_get k.slots i) values) (sym w) m)
