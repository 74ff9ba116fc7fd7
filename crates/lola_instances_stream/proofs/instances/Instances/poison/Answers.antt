use Rattle.std.proofs.Common.{◌∙◌, map, slice_get, ap, sym, subst, true, IsTrue}
use Rattle.lola_value.specs.declared.value.Outcome.TheVariants as outcome
use Rattle.lola_model.specs.Store.{StreamLayout, is_silent, told_at}
use Rattle.lola_instances_one.specs.Holdings.{Holdings, shown, slot_seen}
use Rattle.lola_instances_stream.specs.Changes.{WasPoisoned}
use Rattle.lola_instances_stream.specs.Crowds.{Crowd, RemembersAt, shown_at}
use Rattle.lola_instances_stream.specs.Rights.{AreRight, HasPlaces, SlotRight}
use Rattle.lola_instances_stream.proofs.Outcomes.{changed_each, changed_seen, changed_past, changed_silent, is_missing, poisoned_right, poisoned_seen}
use Rattle.lola_instances_stream.proofs.Dues.{changed_births}
use Rattle.lola_instances_stream.proofs.instances.Instances.poison.Goals as goal

pub returns-clause-right : goal.returns-clause-right
returns-clause-right c =
    let off = c.args._offset in
    let w = c.self.view_is in
    let layout : StreamLayout = record { kind = c.self.inside.kind; parameters = c.self.inside.parameters; spawns = c.self.inside.spawns; kept = c.self.inside.kept; locals = c.self.inside.dues.rates } in
    let windows = c.self.inside.windows.items in
    let xs = c.self.inside.slots.items in
    let ys = c.poison.new.self.items in
    let h = c.poison.ensures.changed in
    let silent = changed_silent (WasPoisoned c.args.step) c.args.index xs ys h c.args.step (subst (λ (k : Crowd). IsTrue (is_silent (shown_at c.args.step (slice_get k.slots c.args.index)))) (sym w) c.requires.silent) in
    changed_each (WasPoisoned c.args.step) c.args.index xs ys h (SlotRight layout windows true c.args.step off) (subst (AreRight true c.args.step off) (sym w) c.requires.right)
    (λ p. poisoned_right layout windows c.args.step off h.x h.y p h.related)

pub returns-clause-seen : goal.returns-clause-seen
returns-clause-seen c =
    let w = c.self.view_is in
    let h = c.poison.ensures.changed in
    changed_seen (WasPoisoned c.args.step) c.args.index c.self.inside.slots.items c.poison.new.self.items h c.args.step outcome.Poison (poisoned_seen c.args.step h.x h.y h.related)
    ∙ ap (λ (k : Crowd). told_at (map (slot_seen c.args.step) k.slots) c.args.index outcome.Poison) w

pub returns-clause-past : goal.returns-clause-past
returns-clause-past c = λ start time names i values m.
    let w = c.self.view_is in
    let xs = c.self.inside.slots.items in
    let ys = c.poison.new.self.items in
    let h = c.poison.ensures.changed in
    let silent = changed_silent (WasPoisoned c.args.step) c.args.index xs ys h c.args.step (subst (λ (k : Crowd). IsTrue (is_silent (shown_at c.args.step (slice_get k.slots c.args.index)))) (sym w) c.requires.silent) in
    let none = is_missing (shown c.args.step h.x) silent in
    changed_past (WasPoisoned c.args.step) c.args.index xs ys h (λ o. RemembersAt start time c.args.step names o values) i (λ q. h.related.past start time names values q none)
    (subst (λ (k : Crowd). RemembersAt start time c.args.step names (slice_get k.slots i) values) (sym w) m)

pub invariant_of-self : goal.invariant_of-self
invariant_of-self c =
    let h = c.poison.ensures.changed in
    let listed = subst (HasPlaces c.self.inside.spares.items) (sym c.poison.ensures.rest) c.self.invariant.1 in
    let dated = c.self.invariant.2 in (
      c.self.invariant.0,
      listed,
      record {
        births = λ timed. dated.births timed ∙ sym (changed_births (WasPoisoned c.args.step) c.args.index c.self.inside.slots.items c.poison.new.self.items h (ap (λ (s : Holdings). s.born) h.related.slot));
        room = dated.room;
      },
    )
