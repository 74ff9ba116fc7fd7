use Rattle.std.proofs.Common.{◌∙◌, ◌-◌, map, slice_get, ap, sym, subst, true, arith, IsTrue}
use Rattle.lola_value.specs.Kinds.{is_of_kind}
use Rattle.lola_model.specs.Store.{StreamLayout, is_silent}
use Rattle.lola_instances_one.specs.Holdings.{slot_seen}
use Rattle.lola_instances_stream.specs.Changes.{IsChangedAt}
use Rattle.lola_instances_stream.specs.Crowds.{Crowd, shown_at}
use Rattle.lola_instances_stream.specs.Restoring.{HasOneMore, IsRested}
use Rattle.lola_instances_stream.specs.Rights.{AreRight, HasPlaces, SlotRight}
use Rattle.lola_instances_stream.proofs.Dues.{changed_births}
use Rattle.lola_instances_stream.proofs.Outcomes.{changed_each, changed_silent}
use Rattle.lola_instances_stream.proofs.Restored.{changed_still, one_more_right, rested_seen, restored_at}
use Rattle.lola_instances_stream.proofs.instances.Instances.restore_value.Goals as goal

pub returns-clause-right : goal.returns-clause-right
returns-clause-right c =
    let step = c.args.step in
    let off = c.args._offset in
    let w = c.self.view_is in
    let layout : StreamLayout = record { kind = c.self.inside.kind; parameters = c.self.inside.parameters; spawns = c.self.inside.spawns; kept = c.self.inside.kept; locals = c.self.inside.dues.rates } in
    let windows = c.self.inside.windows.items in
    let xs = c.self.inside.slots.items in
    let ys = c.restore_value.new.self.items in
    let h = c.restore_value.ensures.changed in
    let R = IsRested (step - 1) (HasOneMore c.args.value) in
    let silent = changed_silent R c.args.index xs ys h step (subst (λ (k : Crowd). IsTrue (is_silent (shown_at step (slice_get k.slots c.args.index)))) (sym w) c.requires.silent) in
    let kind = subst (λ (k : Crowd). IsTrue (is_of_kind k.layout.kind c.args.value)) (sym w) c.requires.kind in
    changed_each R c.args.index xs ys h (SlotRight layout windows true step off) (subst (AreRight true step off) (sym w) c.requires.right)
    (λ p. one_more_right layout windows step off c.args.value h.x h.y p h.related silent kind c.requires.step_ge)

pub returns-clause-seen : goal.returns-clause-seen
returns-clause-seen c =
    let step = c.args.step in
    let w = c.self.view_is in
    let xs = c.self.inside.slots.items in
    let ys = c.restore_value.new.self.items in
    let h = c.restore_value.ensures.changed in
    let R = IsRested (step - 1) (HasOneMore c.args.value) in
    let silent = changed_silent R c.args.index xs ys h step (subst (λ (k : Crowd). IsTrue (is_silent (shown_at step (slice_get k.slots c.args.index)))) (sym w) c.requires.silent) in
    let r = h.related.related in
    changed_still R c.args.index xs ys h step (rested_seen (HasOneMore c.args.value) step h.x h.y h.related (omega (arith, c.requires.step_ge)) r.params r.born silent)
    ∙ ap (λ (k : Crowd). map (slot_seen step) k.slots) w

pub returns-clause-slot : goal.returns-clause-slot
returns-clause-slot c =
    let xs = c.self.inside.slots.items in
    let ys = c.restore_value.new.self.items in
    let h = c.restore_value.ensures.changed in
    subst (λ (k : Crowd). IsChangedAt (HasOneMore c.args.value) c.args.index k.slots ys) c.self.view_is (restored_at (HasOneMore c.args.value) (c.args.step - 1) c.args.index xs ys h)

pub invariant_of-self : goal.invariant_of-self
invariant_of-self c =
    let h = c.restore_value.ensures.changed in
    let listed = subst (HasPlaces c.self.inside.spares.items) (sym c.restore_value.ensures.rest) c.self.invariant.1 in
    let dated = c.self.invariant.2 in (
      c.self.invariant.0,
      listed,
      record {
        births = λ timed. dated.births timed ∙ sym (changed_births (IsRested (c.args.step - 1) (HasOneMore c.args.value)) c.args.index c.self.inside.slots.items c.restore_value.new.self.items h h.related.related.born);
        room = dated.room;
      },
    )
