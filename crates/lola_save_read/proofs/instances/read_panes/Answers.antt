use Rattle.std.proofs.Common.{arith, ap, length, refl}
use Rattle.lola_save_read.proofs.InstanceTurns.{length-in, panes-end, panes-next-in, panes-stop-in}
use Rattle.lola_save_read.proofs.instances.read_panes.Goals as goal

pub panes_line-requires-clause-length : goal.panes_line-requires-clause-length
panes_line-requires-clause-length c =
    length-in c.args.form.now c.as_slice-window-items.result.now c.as_slice-window-items.ensures c.loop-window.window-index _ _ c.loop-window-test.true refl c.requires.lengths

pub returns-in-None : goal.returns-in-None
returns-in-None c = panes-stop-in c.args.times c.args.form.now c.args.bytes.now c.as_slice-window-items.result.now c.as_slice-window-items.ensures c.loop-window.window-index _ _ c.loop-window.panes c.loop-window.left.now c.loop-window-test.true refl c.loop-window.invariant (rw c.in-None.is at c.in_ok-panes_line.ensures)

pub loop-window-preserved : goal.loop-window-preserved
loop-window-preserved c =
    rw c.in_ok-push-in-Some.ensures.ok
    (panes-next-in c.args.times c.args.form.now c.args.bytes.now c.as_slice-window-items.result.now c.as_slice-window-items.ensures c.loop-window.window-index _ _ c.loop-window.panes c.loop-window.left.now c.in-Some.of_window c.in-Some.rest.now c.loop-window-test.true refl c.loop-window.invariant (rw c.in-Some.is at c.in_ok-panes_line.ensures))

pub returns : goal.returns
returns c =
    panes-end c.args.times c.args.form.now c.args.bytes.now c.loop-window.window-index c.loop-window.panes c.loop-window.left.now
    (let e = ap length c.as_slice-window-items.ensures in omega (arith, e, c.loop-window-test.false)) c.loop-window.invariant
