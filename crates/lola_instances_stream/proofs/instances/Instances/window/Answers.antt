use Rattle.std.proofs.Common.{◌-◌}
use Rattle.lola_instances_stream.proofs.Finding.{found_below}
use Rattle.lola_instances_stream.proofs.Answering.{panes_below, panes_newest, panes_whole, window_found, kind_found}
use Rattle.lola_instances_stream.proofs.instances.Instances.window.Goals as goal

pub slot-requires : goal.slot-requires
slot-requires c = found_below c.args.params.now c.args.self.now.slots c.in-Some.i c.in-Some.ensures

pub window-requires-clause-place : goal.window-requires-clause-place
window-requires-clause-place c =
    panes_below c.args.self.now.windows c.slot.result.now.panes c.args.place (c.requires.steady c.in-Some.i c.slot.result.now c.slot.ensures).panes c.requires.place

pub window-requires-clause-newest : goal.window-requires-clause-newest
window-requires-clause-newest c =
    let k = c.args.self.now in
    let x = c.slot.result.now in
    panes_newest c.args.offset (x.stamp - 1) k.layout.kind x.panes c.args.place (c.requires.timely c.in-Some.i x c.slot.ensures).given
    (panes_below k.windows x.panes c.args.place (c.requires.steady c.in-Some.i x c.slot.ensures).panes c.requires.place)

pub window-requires-clause-whole : goal.window-requires-clause-whole
window-requires-clause-whole c =
    panes_whole c.args.offset c.args.self.now.windows c.slot.result.now.panes c.args.place (c.requires.steady c.in-Some.i c.slot.result.now c.slot.ensures).panes c.requires.whole

pub returns-in-Some-clause-living : goal.returns-in-Some-clause-living
returns-in-Some-clause-living c =
    let x = c.slot.result.now in
    window_found c.args.step c.args.offset c.args.self.now c.args.params.now c.in-Some.i x c.window.result c.args.place c.if-is_bad.ensures c.in-Some.ensures c.slot.ensures
    (c.requires.steady c.in-Some.i x c.slot.ensures).panes c.window.ensures.value

pub returns-in-Some-clause-kind : goal.returns-in-Some-clause-kind
returns-in-Some-clause-kind c =
    let x = c.slot.result.now in
    kind_found c.args.self.now.windows x.panes c.args.place c.window.result (c.requires.steady c.in-Some.i x c.slot.ensures).panes c.window.ensures.kind
