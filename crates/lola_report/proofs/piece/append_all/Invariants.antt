use Rattle.std.proofs.Common.{◌≡◌, ◌++◌, flat_map, take}
use Rattle.lola_report.specs.Pieces.{piece_text}
use Rattle.lola_report.proofs.piece.append_all.Given as goal

abbrev pub invariant-loop-piece : goal.invariant-loop-piece
invariant-loop-piece l = l.to ≡ l.initial.to ++ flat_map piece_text (take l.piece-index l.pieces)
