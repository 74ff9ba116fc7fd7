use Rattle.lola_monitor_threads.proofs.Passing.{all_go_on_twice}
use Rattle.lola_monitor_threads.proofs.here.turn_here.Goals as goal

pub returns-clause-here : goal.returns-clause-here
returns-clause-here g c = all_go_on_twice c.args.here.now.items c.look_all.new.here.items c.hand_in_many.new.here.items c.look_all.ensures.here c.hand_in_many.ensures.here
