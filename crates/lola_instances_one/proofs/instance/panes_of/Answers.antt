use Rattle.std.proofs.Common.{◌<◌, length, arith}
use Rattle.lola_instances_one.proofs.Births.{sound_within}
use Rattle.lola_instances_one.proofs.instance.panes_of.Goals as goal

pub create-requires-clause-pane : goal.create-requires-clause-pane
create-requires-clause-pane c =
    let l : c.loop-w.w-index < length c.args.windows.now = omega (arith, c.loop-w-test.true) in
    (sound_within c.args.windows.now c.loop-w.w-index _ c.requires l).pane

pub create-requires-clause-count : goal.create-requires-clause-count
create-requires-clause-count c =
    let l : c.loop-w.w-index < length c.args.windows.now = omega (arith, c.loop-w-test.true) in
    (sound_within c.args.windows.now c.loop-w.w-index _ c.requires l).count

pub create-requires-clause-kind : goal.create-requires-clause-kind
create-requires-clause-kind c =
    let l : c.loop-w.w-index < length c.args.windows.now = omega (arith, c.loop-w-test.true) in
    (sound_within c.args.windows.now c.loop-w.w-index _ c.requires l).kind
