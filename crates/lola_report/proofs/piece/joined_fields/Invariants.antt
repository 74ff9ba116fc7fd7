use Rattle.std.proofs.Common.{◌≡◌, ◌∷◌, ◌++◌, flat_map, take}
use Rattle.lola_model.specs.Trace.{field_bytes}
use Rattle.lola_report.proofs.piece.joined_fields.Given as goal

abbrev pub invariant-loop-field : goal.invariant-loop-field
invariant-loop-field l = l.to ≡ l.initial.to ++ flat_map (λ f. 44 ∷ field_bytes f) (take l.field-index l.fields)
