use Rattle.std.proofs.Common.{◌≡◌, ◌+◌, ◌-◌, ◌≤◌, length, drop}
use Rattle.std.specs.List.{prefix_len}
use Rattle.lola_lexer.specs.Lexical.{in_class}
use Rattle.lola_lexer.proofs.scan.bytes.Class.run.Given as goal

abbrev pub invariant-loop-len : goal.invariant-loop-len
invariant-loop-len l =
    (l.len + prefix_len (in_class l.self) (drop (l.at + l.len) l.bytes) ≡ prefix_len (in_class l.self) (drop l.at l.bytes)) × (l.at + l.len ≤ length l.bytes)

abbrev pub decreases-loop-len : goal.decreases-loop-len
decreases-loop-len l = length l.bytes - l.len
