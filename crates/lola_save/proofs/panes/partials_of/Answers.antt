use Rattle.std.proofs.Common.{◌-◌, arith}
use Rattle.lola_instances.specs.Saved.{panes_at}
use Rattle.lola_instances_one.specs.Saved.{HasPane, IsPartial}
use Rattle.lola_save.specs.Taken.{ArePartsOf, HavePanes}
use Rattle.lola_save.proofs.WindowPanes.{ArePartsTo, both, has-pane, one, parts-all, parts-more, parts-none}
use Rattle.lola_save.proofs.panes.partials_of.Goals as goal

pub loop-left-init : goal.loop-left-init
loop-left-init c = record {
  within = omega arith;
  parts = one (HavePanes c.args.count) (ArePartsTo c.args.count c.args.count c.create-partials.result) (panes_at c.args.store.now c.args.window c.args.index) (λ p h. parts-none c.args.count c.create-partials.result p c.create-partials.ensures) c.requires.panes;
}

pub partial-requires-clause-pane : goal.partial-requires-clause-pane
partial-requires-clause-pane c =
    one (HavePanes c.args.count) (HasPane (c.loop-left.left - 1)) (panes_at c.args.store.now c.args.window c.args.index)
    (λ p h. has-pane c.args.count c.loop-left.left p c.loop-left-test.true c.loop-left.invariant.within h) c.requires.panes

pub loop-left-preserved : goal.loop-left-preserved
loop-left-preserved c = record {
  within = omega arith;
  parts = both (ArePartsTo c.args.count c.loop-left.left c.loop-left.partials) (IsPartial (c.loop-left.left - 1) c.partial.result)
      (ArePartsTo c.args.count (c.loop-left.left - 1) _) (panes_at c.args.store.now c.args.window c.args.index)
      (λ p h is. parts-more c.args.count c.loop-left.left c.loop-left.partials _ c.partial.result p c.loop-left-test.true c.in_ok-push.ensures.ok h is) c.loop-left.invariant.parts c.partial.ensures;
}

pub returns : goal.returns
returns c =
    one (ArePartsTo c.args.count c.loop-left.left c.loop-left.partials) (ArePartsOf c.args.count c.loop-left.partials) (panes_at c.args.store.now c.args.window c.args.index)
    (λ p h. parts-all c.args.count c.loop-left.left c.loop-left.partials p (omega arith) h) c.loop-left.invariant.parts
