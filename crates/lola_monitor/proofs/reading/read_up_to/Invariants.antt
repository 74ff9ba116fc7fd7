use Rattle.std.proofs.Common.{◌≡◌, ◌≤◌, ◌+◌, length}
use Rattle.lola_monitor.proofs.BytesRead.{IsReadTo}
use Rattle.lola_monitor.proofs.reading.read_up_to.Given as goal

abbrev pub invariant-loop-bytes : goal.invariant-loop-bytes
invariant-loop-bytes g l =
    let state = g.S.Source.state in
    record {
      read : IsReadTo (state l.fn.source).left (state l.source).left l.bytes.items;
      count : (state l.source).count ≡ (state l.fn.source).count;
      place : (state l.source).place ≡ (state l.fn.source).place;
      few : length l.bytes.items ≤ l.most + 1;
    }

abbrev pub decreases-loop-bytes : goal.decreases-loop-bytes
decreases-loop-bytes g l = (g.S.Source.state l.source).to_come
