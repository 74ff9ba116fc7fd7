use Rattle.std.proofs.Common.{◌∙◌, ◌<◌, length, map, slice_get, ap, sym, subst, true, IsTrue}
use Rattle.lola_value.specs.declared.value.Outcome.TheVariants as outcome
use Rattle.lola_value.specs.Kinds.{is_of_kind}
use Rattle.lola_model.specs.Store.{StreamLayout, is_silent, told_at}
use Rattle.lola_instances_one.specs.Holdings.{shown, slot_seen}
use Rattle.lola_instances_stream.specs.Changes.{HasTold}
use Rattle.lola_instances_stream.specs.Crowds.{Crowd, RemembersAt, shown_at}
use Rattle.lola_instances_stream.specs.Rights.{AreRight, HasPlaces, SlotRight}
use Rattle.lola_instances_stream.proofs.Outcomes.{changed_each, changed_seen, changed_past, changed_silent, is_missing, told_right, told_seen, ready_at}
use Rattle.lola_instances_stream.proofs.Dues.{changed_births}
use Rattle.lola_instances_stream.proofs.instances.Instances.push.Goals as goal

pub returns-clause-right : goal.returns-clause-right
returns-clause-right c =
    let off = c.args.offset in
    let w = c.self.view_is in
    let layout : StreamLayout = record { kind = c.self.inside.kind; parameters = c.self.inside.parameters; spawns = c.self.inside.spawns; kept = c.self.inside.kept; locals = c.self.inside.dues.rates } in
    let windows = c.self.inside.windows.items in
    let xs = c.self.inside.slots.items in
    let ys = c.add_value.new.self.items in
    let h = c.add_value.ensures.changed in
    let silent = changed_silent (HasTold c.args.step c.args.offset c.args.value) c.args.index xs ys h c.args.step (subst (λ (k : Crowd). IsTrue (is_silent (shown_at c.args.step (slice_get k.slots c.args.index)))) (sym w) c.requires.silent) in
    let kind = subst (λ (k : Crowd). IsTrue (is_of_kind k.layout.kind c.args.value)) (sym w) c.requires.kind in
    changed_each (HasTold c.args.step c.args.offset c.args.value) c.args.index xs ys h (SlotRight layout windows true c.args.step off) (subst (AreRight true c.args.step off) (sym w) c.requires.right)
    (λ p. told_right layout windows c.args.step off c.args.value h.x h.y p h.related silent kind c.requires.step_ge c.self.invariant.0.kept_ge)

pub returns-clause-seen : goal.returns-clause-seen
returns-clause-seen c =
    let w = c.self.view_is in
    let h = c.add_value.ensures.changed in
    changed_seen (HasTold c.args.step c.args.offset c.args.value) c.args.index c.self.inside.slots.items c.add_value.new.self.items h c.args.step (outcome.Value c.args.value) (told_seen c.args.step c.args.offset c.args.value h.x h.y h.related)
    ∙ ap (λ (k : Crowd). told_at (map (slot_seen c.args.step) k.slots) c.args.index (outcome.Value c.args.value)) w

pub returns-clause-past : goal.returns-clause-past
returns-clause-past c = λ start time names i values o l held m.
    let w = c.self.view_is in
    let xs = c.self.inside.slots.items in
    let ys = c.add_value.new.self.items in
    let h = c.add_value.ensures.changed in
    let silent = changed_silent (HasTold c.args.step c.args.offset c.args.value) c.args.index xs ys h c.args.step (subst (λ (k : Crowd). IsTrue (is_silent (shown_at c.args.step (slice_get k.slots c.args.index)))) (sym w) c.requires.silent) in
    let none = is_missing (shown c.args.step h.x) silent in
    changed_past (HasTold c.args.step c.args.offset c.args.value) c.args.index xs ys h (λ o. RemembersAt start time c.args.step names o values) i (λ q. h.related.past start time names values q held none o l)
    (subst (λ (k : Crowd). RemembersAt start time c.args.step names (slice_get k.slots i) values) (sym w) m)

pub add_value-requires-clause-ready : goal.add_value-requires-clause-ready
add_value-requires-clause-ready c =
    let w = c.self.view_is in
    let layout : StreamLayout = record { kind = c.self.inside.kind; parameters = c.self.inside.parameters; spawns = c.self.inside.spawns; kept = c.self.inside.kept; locals = c.self.inside.dues.rates } in
    ready_at layout c.self.inside.windows.items c.args.step c.args.offset c.args.value c.self.inside.slots.items c.args.index
    (subst (AreRight true c.args.step c.args.offset) (sym w) c.requires.right)
    (subst (λ (k : Crowd). c.args.index < length k.slots) (sym w) c.requires.index)
    (subst (λ (k : Crowd). IsTrue (is_silent (shown_at c.args.step (slice_get k.slots c.args.index)))) (sym w) c.requires.silent)
    (subst (λ (k : Crowd). IsTrue (is_of_kind k.layout.kind c.args.value)) (sym w) c.requires.kind)
    c.requires.step_le

pub invariant_of-self : goal.invariant_of-self
invariant_of-self c =
    let h = c.add_value.ensures.changed in
    let listed = subst (HasPlaces c.self.inside.spares.items) (sym c.add_value.ensures.rest) c.self.invariant.1 in
    let dated = c.self.invariant.2 in (
      c.self.invariant.0,
      listed,
      record {
        births = λ timed. dated.births timed ∙ sym (changed_births (HasTold c.args.step c.args.offset c.args.value) c.args.index c.self.inside.slots.items c.add_value.new.self.items h h.related.born);
        room = dated.room;
      },
    )
