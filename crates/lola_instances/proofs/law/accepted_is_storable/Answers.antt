-- The law, at this plan.
use Rattle.lola_instances.proofs.Accepted.{cut_of, kept_from, kept_of}
use Rattle.lola_instances.proofs.Plain.{plain_of}
use Rattle.lola_instances.proofs.Taken.{taken_of}
use Rattle.lola_instances.proofs.law.accepted_is_storable.Goals as goal

pub returns : goal.returns
returns c = record {
  taken = taken_of c.args._plan.now.spec c.args._plan.now.kept c.args._plan.now.pacings c.requires.named c.requires.typed;
  plain = plain_of c.args._plan.now.spec.streams c.args._plan.now.kept c.args._plan.now.pacings c.requires.named.shapes;
  kept = kept_from c.args._plan.now.spec.streams c.args._plan.now.kept c.args._plan.now.pacings (kept_of c.args._plan.now c.requires.bounds);
  sizes = c.requires.bounds.pane_count;
  cut = cut_of c.args._plan.now c.requires.bounds c.requires.typed.ranged.window_spans;
}
