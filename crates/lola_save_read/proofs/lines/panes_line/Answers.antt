use Rattle.lola_save_read.proofs.LineKinds.{no-lf-panes, no-panes-line, panes-line}
use Rattle.lola_save_read.proofs.lines.panes_line.Goals as goal

pub returns-in-None : goal.returns-in-None
returns-in-None c =
    no-lf-panes c.args.times c.args.form.now c.args.window.now c.args.bytes.now c.in-None.ensures

pub returns-in-None-2 : goal.returns-in-None-2
returns-in-None-2 c =
    no-panes-line c.args.times c.args.form.now c.args.window.now c.args.bytes.now c.in-Some.body.now c.in-Some.rest.now c.in-Some.ensures (rw c.in-None-2.is at c.in_ok-panes_body-in-Some.ensures)

pub returns-in-Some-2 : goal.returns-in-Some-2
returns-in-Some-2 c =
    panes-line c.args.times c.args.form.now c.args.window.now c.args.bytes.now c.in-Some.body.now c.in-Some.rest.now c.in-Some.ensures c.in-Some-2.panes (rw c.in-Some-2.is at c.in_ok-panes_body-in-Some.ensures)
