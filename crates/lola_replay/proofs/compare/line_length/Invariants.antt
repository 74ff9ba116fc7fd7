-- So many bytes are no LF; and how long the rest is.
use Rattle.std.proofs.Common.{◌≡◌, ◌+◌, drop}
use Rattle.lola_replay.specs.Comparing.{line_long}
use Rattle.lola_replay.proofs.compare.line_length.Given as goal

abbrev pub invariant-loop-byte : goal.invariant-loop-byte
invariant-loop-byte l = (l.long ≡ l.byte-index) × (l.long + line_long (drop l.byte-index l.text) ≡ line_long l.text)
