-- So many bytes are no space; and how long the rest is.
use Rattle.std.proofs.Common.{◌≡◌, ◌+◌, drop}
use Rattle.lola_replay.specs.EndLines.{word_long}
use Rattle.lola_replay.proofs.written.word_length.Given as goal

abbrev pub invariant-loop-byte : goal.invariant-loop-byte
invariant-loop-byte l = (l.long ≡ l.byte-index) × (l.long + word_long (drop l.byte-index l.text) ≡ word_long l.text)
