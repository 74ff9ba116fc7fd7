use Rattle.std.proofs.Common.{◌≡◌, ◌∷◌, ◌++◌, flat_map, take}
use Rattle.lola_save_text.specs.Lines.{partial_text}
use Rattle.lola_save.proofs.words.partials_text.Given as goal

abbrev pub invariant-loop-partial : goal.invariant-loop-partial
invariant-loop-partial l = l.to ≡ l.initial.to ++ flat_map (λ v. 32 ∷ partial_text v) (take l.partial-index l.partials)
