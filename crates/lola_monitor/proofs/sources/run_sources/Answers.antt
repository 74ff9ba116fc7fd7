use Rattle.std.proofs.Common.{Global, inl, inr, map, string_bytes}
use Rattle.lola_feed.specs.Lending.{names_at}
use Rattle.lola_monitor.proofs.Calls.{grew_none}
use Rattle.lola_monitor.proofs.Lent.{not_begun}
use Rattle.lola_monitor.proofs.sources.run_sources.Goals as goal

-- no memory
pub returns-in_default-clause-runs : goal.returns-in_default-clause-runs
returns-in_default-clause-runs g c = inr (inl (not_begun (g.F.Shelf.state c.args.shelf.now) (g.F.Shelf.state c.args.shelf.now) (g.K.Sink.state c.args.out.now) (g.T.Sink.state c.args.trace.now)))

pub returns-in_default-clause-cause : goal.returns-in_default-clause-cause
returns-in_default-clause-cause g c = tt

pub returns-in_default-clause-asked : goal.returns-in_default-clause-asked
returns-in_default-clause-asked g c = grew_none (names_at (map (string_bytes {Z = Global}) c.args.words.now) c.args.command.now.sources) (g.F.Shelf.state c.args.shelf.now)
