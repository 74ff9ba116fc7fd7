use Rattle.std.proofs.Common.{◌∷◌, sym, subst}
use Rattle.std.specs.List.Sorted.{IsPermutation}
use Rattle.std.proofs.lemmas.List.Sorted.{IsPermutation-insert}
use Rattle.lola_instances_one.proofs.queue.put.Goals as goal

pub returns-in-Ok-clause-entries : goal.returns-in-Ok-clause-entries
returns-in-Ok-clause-entries c =
    subst (IsPermutation (c.args.entry ∷ c.args.queue.now.items)) (sym c.in-Ok.ensures.items) (IsPermutation-insert c.args.queue.now.items c.place_of-place.result c.args.entry)
