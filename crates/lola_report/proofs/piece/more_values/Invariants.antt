use Rattle.std.proofs.Common.{◌≡◌, ◌∷◌, ◌++◌, flat_map, take}
use Rattle.lola_model.specs.Texts.{value_text}
use Rattle.lola_report.proofs.piece.more_values.Given as goal

abbrev pub invariant-loop-value : goal.invariant-loop-value
invariant-loop-value l = l.to ≡ l.initial.to ++ flat_map (λ v. 44 ∷ value_text v) (take l.value-index l.values)
