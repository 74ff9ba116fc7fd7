use Rattle.std.proofs.Common.{◌∙◌, refl}
use Rattle.lola_monitor_threads.proofs.Passing.{all_go_on_twice, all_stay, as_many_on}
use Rattle.lola_monitor_threads.proofs.here.look_all.Goals as goal

pub loop-place-init : goal.loop-place-init
loop-place-init g c = record { many = refl; went = all_stay c.args.here.now.items; room = refl }

pub loop-place-preserved : goal.loop-place-preserved
loop-place-preserved g c = record {
  many = as_many_on c.loop-place.here.items c.look_one.new.here.items c.look_one.ensures.here ∙ c.loop-place.invariant.many;
  went = all_go_on_twice c.args.here.now.items c.loop-place.here.items c.look_one.new.here.items c.loop-place.invariant.went c.look_one.ensures.here;
  room = c.look_one.ensures.room ∙ c.loop-place.invariant.room;
}
