use Rattle.std.proofs.Common.{rules}
use Rattle.std.proofs.lemmas.Map.Made.{map_same_pairs}
use Rattle.lola_instances_stream.specs.Listings.{packed}
use Rattle.lola_instances_stream.proofs.directory.renumber.Goals as goal

pub returns-clause-entries : goal.returns-clause-entries
returns-clause-entries c = map_same_pairs _ (packed c.args.flags.now) _ (λ k v b w f' t. search rules) _ _ c.retain.ensures.filtered
