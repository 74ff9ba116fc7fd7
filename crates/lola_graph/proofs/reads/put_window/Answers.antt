use Rattle.std.proofs.Common.{sym}
use Rattle.std.proofs.lemmas.Bool.{ltb-true}
use Rattle.lola_graph.specs.Readable.{is_readable_window}
use Rattle.lola_graph.proofs.ReadLemmas.{passes_at}
use Rattle.lola_graph.proofs.reads.put_window.Goals as goal

pub put_edge-requires : goal.put_edge-requires
put_edge-requires c = ltb-true _ _ (passes_at is_readable_window c.args.windows.now c.args.window c.in-Some.spec c.requires (sym c.in-Some.ensures))
