use Rattle.std.proofs.Common.{arith}
use Rattle.lola_report.specs.Pieces.{piece_text}
use Rattle.lola_report.proofs.Sequences.{on_err, part_within}
use Rattle.lola_report.proofs.piece.append_all.Goals as goal

pub returns-in_err-append_piece-clause-memory : goal.returns-in_err-append_piece-clause-memory
returns-in_err-append_piece-clause-memory c =
    on_err _ (part_within piece_text c.args.pieces.now c.loop-piece.piece-index _ _ c.args.to.now c.loop-piece.to _ (omega arith) c.piece-item.is c.loop-piece.invariant c.in_err-append_piece.ensures.memory)
