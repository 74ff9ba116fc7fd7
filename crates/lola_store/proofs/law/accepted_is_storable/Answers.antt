-- The law, at this plan.
use Rattle.lola_store.proofs.law.accepted_is_storable.Goals as goal

pub returns : goal.returns
returns c = record {
  taken = c.accepted_is_storable.ensures.taken;
  plain = c.accepted_is_storable.ensures.plain;
}
