-- Nothing changes, or the stream is bad.
use Rattle.std.proofs.Common.{refl, true, false}
use Rattle.lola_model.specs.Store.{no_params}
use Rattle.lola_step.proofs.Births.{not_born}
use Rattle.lola_step.proofs.spawns.take.Goals as goal

pub returns-in-Idle-clause-seen : goal.returns-in-Idle-clause-seen
returns-in-Idle-clause-seen g c = record { params = no_params; born = false; bad = false; room = not_born (g.S.StreamStore.seen c.args.store.now) c.args.stream; is = refl }

pub returns-in-Fault-clause-seen : goal.returns-in-Fault-clause-seen
returns-in-Fault-clause-seen g c =
    record { params = no_params; born = false; bad = true; room = not_born (g.S.StreamStore.seen c.args.store.now) c.args.stream; is = c.poison_stream.ensures.seen }

pub returns-in-Poison-clause-seen : goal.returns-in-Poison-clause-seen
returns-in-Poison-clause-seen g c =
    record { params = no_params; born = false; bad = true; room = not_born (g.S.StreamStore.seen c.args.store.now) c.args.stream; is = c.poison_stream-in-Poison.ensures.seen }
