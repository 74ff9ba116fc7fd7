use Rattle.std.proofs.Common.{◌∙◌, ◌-◌, ◌≤◌, map, slice_get, ap, sym, subst, true, arith, IsTrue, MatchOption}
use Rattle.lola_model.specs.Store.{StreamLayout, is_silent}
use Rattle.lola_panes.specs.Restored.{first_offset}
use Rattle.lola_panes.specs.Standing.{Partials}
use Rattle.lola_instances_one.specs.Holdings.{Holdings, slot_seen}
use Rattle.lola_instances_stream.specs.Changes.{IsChangedAt}
use Rattle.lola_instances_stream.specs.Crowds.{Crowd, shown_at}
use Rattle.lola_instances_stream.specs.Restoring.{HasPanesRestored, IsRested}
use Rattle.lola_instances_stream.specs.Rights.{AreRight, HasPlaces, SlotRight}
use Rattle.lola_instances_stream.proofs.Dues.{changed_births}
use Rattle.lola_instances_stream.proofs.Outcomes.{changed_each, changed_silent}
use Rattle.lola_instances_stream.proofs.Restored.{changed_still, panes_restored_right, rested_seen, restored_at, said_of}
use Rattle.lola_instances_stream.proofs.instances.Instances.restore_panes.Goals as goal

pub returns-clause-right : goal.returns-clause-right
returns-clause-right c =
    let step = c.args.step in
    let off = c.args._offset in
    let w = c.self.view_is in
    let layout : StreamLayout = record { kind = c.self.inside.kind; parameters = c.self.inside.parameters; spawns = c.self.inside.spawns; kept = c.self.inside.kept; locals = c.self.inside.dues.rates } in
    let windows = c.self.inside.windows.items in
    let xs = c.self.inside.slots.items in
    let ys = c.restore_panes.new.self.items in
    let h = c.restore_panes.ensures.changed in
    let R = IsRested (step - 1) (HasPanesRestored c.args.last c.args.partials.now (c.args.step - 2) c.args.place) in
    let silent = changed_silent R c.args.index xs ys h step (subst (λ (k : Crowd). IsTrue (is_silent (shown_at step (slice_get k.slots c.args.index)))) (sym w) c.requires.silent) in
    let from = said_of (λ (s : Holdings). MatchOption (slice_get s.panes c.args.place) ⊥ (λ (p : Partials). first_offset p.pane c.args.last ≤ off)) (slice_get xs c.args.index) h.x h.at
    (subst (λ (k : Crowd). MatchOption (slice_get k.slots c.args.index) ⊥ (λ (s : Holdings). MatchOption (slice_get s.panes c.args.place) ⊥ (λ (p : Partials). first_offset p.pane c.args.last ≤ off))) (sym w) c.requires.newest) in
    changed_each R c.args.index xs ys h (SlotRight layout windows true step off) (subst (AreRight true step off) (sym w) c.requires.right)
    (λ p. panes_restored_right layout windows step off c.args.last c.args.partials.now c.args.place h.x h.y p h.related silent from c.requires.step_ge)

pub returns-clause-seen : goal.returns-clause-seen
returns-clause-seen c =
    let step = c.args.step in
    let w = c.self.view_is in
    let xs = c.self.inside.slots.items in
    let ys = c.restore_panes.new.self.items in
    let h = c.restore_panes.ensures.changed in
    let R = IsRested (step - 1) (HasPanesRestored c.args.last c.args.partials.now (c.args.step - 2) c.args.place) in
    let silent = changed_silent R c.args.index xs ys h step (subst (λ (k : Crowd). IsTrue (is_silent (shown_at step (slice_get k.slots c.args.index)))) (sym w) c.requires.silent) in
    let r = h.related.related in
    changed_still R c.args.index xs ys h step (rested_seen (HasPanesRestored c.args.last c.args.partials.now (c.args.step - 2) c.args.place) step h.x h.y h.related (omega (arith, c.requires.step_ge)) r.params r.born silent)
    ∙ ap (λ (k : Crowd). map (slot_seen step) k.slots) w

pub returns-clause-slot : goal.returns-clause-slot
returns-clause-slot c =
    let xs = c.self.inside.slots.items in
    let ys = c.restore_panes.new.self.items in
    let h = c.restore_panes.ensures.changed in
    subst (λ (k : Crowd). IsChangedAt (HasPanesRestored c.args.last c.args.partials.now (c.args.step - 2) c.args.place) c.args.index k.slots ys) c.self.view_is (restored_at (HasPanesRestored c.args.last c.args.partials.now (c.args.step - 2) c.args.place) (c.args.step - 1) c.args.index xs ys h)

pub invariant_of-self : goal.invariant_of-self
invariant_of-self c =
    let h = c.restore_panes.ensures.changed in
    let listed = subst (HasPlaces c.self.inside.spares.items) (sym c.restore_panes.ensures.rest) c.self.invariant.1 in
    let dated = c.self.invariant.2 in (
      c.self.invariant.0,
      listed,
      record {
        births = λ timed. dated.births timed ∙ sym (changed_births (IsRested (c.args.step - 1) (HasPanesRestored c.args.last c.args.partials.now (c.args.step - 2) c.args.place)) c.args.index c.self.inside.slots.items c.restore_panes.new.self.items h h.related.related.born);
        room = dated.room;
      },
    )
