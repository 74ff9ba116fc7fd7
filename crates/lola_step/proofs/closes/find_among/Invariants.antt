use Rattle.std.proofs.Common.{◌≡◌, ◌+◌, ◌≤◌, Some, vec_len}
use Rattle.std.specs.Vec.{vec_capacity}
use Rattle.lola_step.specs.Closings.{AreUpTo}
use Rattle.lola_step.proofs.Conditions.{FoundUpTo}
use Rattle.lola_step.proofs.closes.find_among.Given as goal

-- the conditions so far are noted
abbrev pub invariant-loop-index : goal.invariant-loop-index
invariant-loop-index g l =
    let s = g.S.StreamStore.seen l.store in
    record {
      closable : AreUpTo s (record { stream = l.stream; index = l.index }) l.closing.items;
      found : FoundUpTo l.plan l.moment l.pacing (g.S.StreamStore.remembers l.store) s (Some l.clause) l.stream l.index l.least l.initial.closing.items l.closing.items;
      count : vec_len l.closing ≤ vec_len l.initial.closing + l.index;
      capacity : vec_capacity l.closing ≡ vec_capacity l.initial.closing;
    }
