use Rattle.std.proofs.Common.{◌∙◌, refl}
use Rattle.lola_monitor_threads.proofs.Passing.{all_go_on_twice, all_stay}
use Rattle.lola_monitor_threads.proofs.here.hand_in_many.Goals as goal

pub loop-init : goal.loop-init
loop-init g c = record { went = all_stay c.args.here.now.items; room = refl }

pub loop-preserved : goal.loop-preserved
loop-preserved g c = record {
  went = all_go_on_twice c.args.here.now.items c.loop.here.items c.hand_in.new.here.items c.loop.invariant.went c.hand_in.ensures.here;
  room = c.hand_in.ensures.room ∙ c.loop.invariant.room;
}

pub returns-in-None-clause-here : goal.returns-in-None-clause-here
returns-in-None-clause-here g c = all_go_on_twice c.args.here.now.items c.loop.here.items c.hand_in.new.here.items c.loop.invariant.went c.hand_in.ensures.here
