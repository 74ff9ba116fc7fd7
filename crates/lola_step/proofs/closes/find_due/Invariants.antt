use Rattle.std.proofs.Common.{◌≡◌, ◌+◌, ◌≤◌, Some, vec_len}
use Rattle.std.specs.Vec.{vec_capacity}
use Rattle.lola_step.proofs.ClosesDue.{FoundUpToDue, IsUpToDue}
use Rattle.lola_step.proofs.closes.find_due.Given as goal

-- the conditions so far are noted
abbrev pub invariant-loop-place : goal.invariant-loop-place
invariant-loop-place g l =
    let s = g.S.StreamStore.seen l.store in
    record {
      closable : IsUpToDue s l.stream l.moment.time l.place-index l.closing.items;
      found : FoundUpToDue l.plan l.moment l.pacing (g.S.StreamStore.remembers l.store) s (Some l.clause) l.stream l.place-index l.least l.initial.closing.items l.closing.items;
      count : vec_len l.closing ≤ vec_len l.initial.closing + l.place-index;
      capacity : vec_capacity l.closing ≡ vec_capacity l.initial.closing;
    }
