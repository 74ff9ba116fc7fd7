-- The fields so far are copied.
use Rattle.std.proofs.Common.{◌≡◌, take}
use Rattle.lola_replay_table.proofs.table.copied.Given as goal

abbrev pub invariant-loop-field : goal.invariant-loop-field
invariant-loop-field l = l.copy ≡ take l.field-index l.fields
