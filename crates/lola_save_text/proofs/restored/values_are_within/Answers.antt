use Rattle.lola_save_text.proofs.ValuesOfLives.{values-within}
use Rattle.lola_save_text.proofs.restored.values_are_within.Goals as goal

pub returns : goal.returns
returns c times kind values h = values-within times kind values h
