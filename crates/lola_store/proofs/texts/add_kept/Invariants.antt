use Rattle.std.proofs.Common.{◌≡◌, ◌++◌, drop}
use Rattle.lola_text.specs.Needed.{texts_in}
use Rattle.lola_store.specs.Texts.{items_of}
use Rattle.lola_store.proofs.texts.add_kept.Given as goal

abbrev pub invariant-loop-value : goal.invariant-loop-value
invariant-loop-value l = l.into ++ texts_in (items_of (drop l.value-index l.values)) ≡ l.fn.into ++ texts_in (items_of l.values)
