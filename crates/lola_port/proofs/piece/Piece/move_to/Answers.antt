use Rattle.std.proofs.Common.{◌-◌, ◌^◌, drop, ◌∙◌, ap, arith}
use Rattle.lola_port.specs.Bytes.{PieceState}
use Rattle.lola_port.proofs.BytePieces.{left_behind}
use Rattle.lola_port.proofs.piece.Piece.move_to.Goals as goal

pub returns-clause-rest : goal.returns-clause-rest
returns-clause-rest c =
    let n = c.min-count.result in
    ap (λ l. record { bytes = l; room = 2 ^ 17 - c.self.inside.end }) (left_behind c.self.inside.room.items c.self.inside.at c.self.inside.end n (omega arith))
    ∙ ap (λ (s : PieceState). record s { bytes = drop n s.bytes }) c.self.view_is
