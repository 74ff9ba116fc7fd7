-- What the pieces of a line are.
use Rattle.std.specs.Prelude.{ℕ, List, Bool, codes, decimal, if◌then◌else◌}
use Rattle.lola_value.specs.Times.{time_text}
use Rattle.lola_model.specs.Texts.{quoted, value_text, params_text}
use Rattle.lola_model.specs.Trace.{field_bytes, mark_text}
use Rattle.lola_report.specs.declared.piece.LinePiece.{LinePiece}
use Rattle.lola_report.specs.declared.piece.LinePiece.TheVariants as piece

-- a truth value
abbrev pub bool_name : Bool → List ℕ
bool_name b = if b then codes "true" else codes "false"

-- the text of a piece
abbrev pub piece_text : LinePiece → List ℕ
piece_text (piece.Words bytes) = bytes.now
piece_text (piece.Number n) = decimal n
piece_text (piece.Wide n) = decimal n
piece_text (piece.Time t) = time_text t
piece_text (piece.Quoted bytes) = quoted bytes.now
piece_text (piece.Value value) = value_text value.now
piece_text (piece.Params params) = params_text params.now
piece_text (piece.Mark mark) = mark_text mark
piece_text (piece.Field field) = field_bytes field.now
