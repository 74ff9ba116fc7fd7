use Rattle.std.proofs.Common.{◌∙◌, ap, arith, Option, ℕ, drop, ◌+◌}
use Rattle.lola_model.specs.NextStep.{earlier}
use Rattle.lola_instances_stream.specs.Dues.{in_time}
use Rattle.lola_instances.specs.Dues.{due_of_crowds}
use Rattle.lola_instances.proofs.Dues.{next_stream, last_stream}
use Rattle.lola_instances.proofs.reading.due_of_streams.Goals as goal

pub loop-lives-preserved : goal.loop-lives-preserved
loop-lives-preserved c =
    let streams = c.args.streams.now in
    let i = c.loop-lives.lives-index in
    ap (λ (first : Option ℕ). earlier first (in_time (due_of_crowds c.args.from (drop (i + 1) streams)))) c.earlier-first.ensures
    ∙ (next_stream c.args.from c.loop-lives.first c.local_due.result streams i c.lives-item.result c.loop-lives-test.true c.lives-item.is c.local_due.ensures ∙ c.loop-lives.invariant)

pub returns : goal.returns
returns c = last_stream c.args.from c.args.streams.now c.loop-lives.lives-index c.loop-lives.first (omega arith) ∙ c.loop-lives.invariant
