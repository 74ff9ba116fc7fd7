use Rattle.std.proofs.Common.{arith}
use Rattle.lola_pacing.proofs.OwnLemmas.{window_refusals_all}
use Rattle.lola_pacing.proofs.window_refusals.of_windows.Goals as goal

pub returns : goal.returns
returns c =
    window_refusals_all c.args.spawns.now c.args.evals.now c.args.closes.now c.args.windows.now c.args.windows.now c.loop-window.window-index c.loop-window.window_refusals.items (omega arith) c.loop-window.invariant.grows
