use Rattle.std.proofs.Common.{◌≡◌, ◌≤◌, take}
use Rattle.lola_save_text.specs.Runs.{count_lines}
use Rattle.lola_save_read.proofs.read.count_lines.Given as goal

abbrev pub invariant-loop-byte : goal.invariant-loop-byte
invariant-loop-byte l = (l.lines ≡ count_lines (take l.byte-index l.bytes)) × (l.lines ≤ l.byte-index)
