use Rattle.std.proofs.Common.{drop}
use Rattle.lola_names.specs.Making.{AreBegun, GrowsByStreams}
use Rattle.lola_names.proofs.streams.streams.Given as goal

abbrev pub invariant-loop-declaration : goal.invariant-loop-declaration
invariant-loop-declaration l = record {
  begun : AreBegun l.declarations l.made l.triggers (drop l.declaration-index l.declarations) l.streams;
  grown : GrowsByStreams l.fn.made l.made l.streams;
}
