use Rattle.std.proofs.Common.{◌∙◌, map, string_bytes}
use Rattle.lola_monitor_command.proofs.Goes.{some_in_front, name_goes}
use Rattle.lola_monitor_command.proofs.words.push_names.Goals as goal

pub loop-at-preserved : goal.loop-at-preserved
loop-at-preserved c =
    let ws = map string_bytes c.args.words.now in
    let front = some_in_front string_bytes c.args.words.now c.loop-at.at c.loop-at-test.true in
    rw (c.in_ok-push.ensures.ok) (name_goes c.loop-at.said ws front.0 c.loop-at.at front.1 ∙ c.loop-at.invariant)
