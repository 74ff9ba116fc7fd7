use Rattle.std.proofs.Common.{[]}
use Rattle.lola_save_read.specs.Spelled.{AreSpelled}
use Rattle.lola_save_read.specs.Turns.{seen_after}
use Rattle.lola_save_read.proofs.InstanceTurns.{AreInstancesSoFar}
use Rattle.lola_save_read.proofs.instances.read_each.Given as goal

abbrev pub invariant-loop-turn : goal.invariant-loop-turn
invariant-loop-turn l =
    record {
      so_far : AreInstancesSoFar l.times l.form l.count l.bytes l._turn l.instances l.low l.left;
      spelled : AreSpelled l.spelled (seen_after [] l.instances);
    }
