use Rattle.std.proofs.Common.{◌≡◌, ◌≤◌, length, vec_capacity}
use Rattle.lola_monitor_threads.proofs.run.new_flags.Given as goal

abbrev pub invariant-loop : goal.invariant-loop
invariant-loop l = (length l.flags.items ≡ l.counter) × (l.fn.count ≤ vec_capacity l.flags)
