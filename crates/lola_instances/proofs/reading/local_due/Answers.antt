use Rattle.std.proofs.Common.{◌∙◌, ap}
use Rattle.lola_instances_stream.specs.Dues.{in_time}
use Rattle.lola_instances.specs.Dues.{due_of_crowds}
use Rattle.lola_instances.proofs.Dues.{dues_shown}
use Rattle.lola_instances.proofs.reading.local_due.Goals as goal

pub returns : goal.returns
returns c =
    let s = c.args.s.now in
    c.due_of_streams.ensures ∙ ap (λ cs. in_time (due_of_crowds c.args.from cs)) c.as_slice.ensures.value ∙ ap in_time (dues_shown s.step c.args.from s.streams.items)
