use Rattle.lola_monitor_threads.proofs.Passing.{all_stay}
use Rattle.lola_monitor_threads.proofs.here.hand_in.Goals as goal

pub returns-then-place-len-clause-here : goal.returns-then-place-len-clause-here
returns-then-place-len-clause-here g c = all_stay c.args.here.now.items
