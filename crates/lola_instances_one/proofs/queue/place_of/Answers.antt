use Rattle.std.proofs.Common.{◌<◌, ◌≤◌, ◌+◌, ◌-◌, ◌/◌, length, get_or, refl, ap, arith}
use Rattle.std.proofs.lemmas.List.{get_or_read}
use Rattle.lola_instances_one.specs.declared.queue.Birth.{Birth}
use Rattle.lola_instances_one.proofs.queue.place_of.Goals as goal

pub loop-low-preserved-then-stands_before : goal.loop-low-preserved-then-stands_before
loop-low-preserved-then-stands_before c =
    let es = c.args.queue.now.items in
    let middle = c.loop-low.low + (c.loop-low.high - c.loop-low.low) / 2 in
    let within : middle < length es = omega arith in
    record {
      low = omega arith;
      high = c.loop-low.invariant.high;
      before = λ k d low.
          let above : (get_or es k d).due ≤ (get_or es middle d).due = c.requires k middle d (omega arith) within in
          let is = ap (λ (e : Birth). e.due) (get_or_read es middle c.index.result.now within c.index.ensures d) in
          let there = c.if-stands_before.ensures.before refl in
          omega arith;
      behind = c.loop-low.invariant.behind;
    }

pub loop-low-preserved : goal.loop-low-preserved
loop-low-preserved c =
    let es = c.args.queue.now.items in
    let middle = c.loop-low.low + (c.loop-low.high - c.loop-low.low) / 2 in
    let within : middle < length es = omega arith in
    record {
      low = omega arith;
      high = omega arith;
      before = c.loop-low.invariant.before;
      behind = λ k d high inside.
          let above : (get_or es middle d).due ≤ (get_or es k d).due = c.requires middle k d high inside in
          let is = ap (λ (e : Birth). e.due) (get_or_read es middle c.index.result.now within c.index.ensures d) in
          let there = c.if-stands_before.ensures.behind refl in
          omega arith;
    }
