use Rattle.std.proofs.Common.{◌≡◌, ◌++◌, drop}
use Rattle.std.specs.Prelude.{flat_map}
use Rattle.lola_instances_stream.specs.Texts.{crowd_texts}
use Rattle.lola_instances.proofs.texts.add_all.Given as goal

abbrev pub invariant-loop-lives : goal.invariant-loop-lives
invariant-loop-lives l = l.into ++ flat_map crowd_texts (drop l.lives-index l.streams) ≡ l.fn.into ++ flat_map crowd_texts l.streams
