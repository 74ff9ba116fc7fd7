use Rattle.std.proofs.Common.{map, string_bytes, Global}
use Rattle.lola_monitor.specs.Monitor.{outside}
use Rattle.lola_monitor.proofs.AnyEnds.{any_decided, any_decided_resumed, any_decided_snapshot, any_ended, any_resumed, any_snapshot}
use Rattle.lola_monitor.proofs.monitor.run_monitor.Goals as goal

pub returns-clause-ended : goal.returns-clause-ended
returns-clause-ended g c =
    let words = map (string_bytes {Z = Global}) c.args.words.now in
    let before = outside (g.F.Shelf.state c.args.shelf.now) (g.K.Sink.state c.args.out.now) (g.T.Sink.state c.args.trace.now) in
    let after = outside (g.F.Shelf.state c.work-outcome.new.shelf) (g.K.Sink.state c.work-outcome.new.out) (g.T.Sink.state c.work-outcome.new.trace) in
    any_ended words before after (g.K.Sink.state c.conclude.new.out) c.conclude.result c.work-outcome.result c.puts_add_up.ensures.parts c.conclude.ensures c.work-outcome.ensures.works

pub returns-clause-resumed : goal.returns-clause-resumed
returns-clause-resumed g c =
    let words = map (string_bytes {Z = Global}) c.args.words.now in
    let before = outside (g.F.Shelf.state c.args.shelf.now) (g.K.Sink.state c.args.out.now) (g.T.Sink.state c.args.trace.now) in
    let after = outside (g.F.Shelf.state c.work-outcome.new.shelf) (g.K.Sink.state c.work-outcome.new.out) (g.T.Sink.state c.work-outcome.new.trace) in
    any_resumed words before after (g.K.Sink.state c.conclude.new.out) c.conclude.result c.work-outcome.result c.puts_add_up.ensures.parts c.conclude.ensures c.work-outcome.ensures.works

pub returns-clause-snapshot : goal.returns-clause-snapshot
returns-clause-snapshot g c =
    let words = map (string_bytes {Z = Global}) c.args.words.now in
    let before = outside (g.F.Shelf.state c.args.shelf.now) (g.K.Sink.state c.args.out.now) (g.T.Sink.state c.args.trace.now) in
    let after = outside (g.F.Shelf.state c.work-outcome.new.shelf) (g.K.Sink.state c.work-outcome.new.out) (g.T.Sink.state c.work-outcome.new.trace) in
    any_snapshot words before after (g.K.Sink.state c.conclude.new.out) c.conclude.result c.work-outcome.result c.puts_add_up.ensures.parts c.conclude.ensures c.work-outcome.ensures.works

pub returns-clause-decided : goal.returns-clause-decided
returns-clause-decided g c =
    let words = map (string_bytes {Z = Global}) c.args.words.now in
    let before = outside (g.F.Shelf.state c.args.shelf.now) (g.K.Sink.state c.args.out.now) (g.T.Sink.state c.args.trace.now) in
    let after = outside (g.F.Shelf.state c.work-outcome.new.shelf) (g.K.Sink.state c.work-outcome.new.out) (g.T.Sink.state c.work-outcome.new.trace) in
    any_decided words before after (g.K.Sink.state c.conclude.new.out) c.conclude.result c.work-outcome.result c.puts_add_up.ensures.parts c.conclude.ensures c.one_finding.ensures c.work-outcome.ensures.works

pub returns-clause-decided_resumed : goal.returns-clause-decided_resumed
returns-clause-decided_resumed g c =
    let words = map (string_bytes {Z = Global}) c.args.words.now in
    let before = outside (g.F.Shelf.state c.args.shelf.now) (g.K.Sink.state c.args.out.now) (g.T.Sink.state c.args.trace.now) in
    let after = outside (g.F.Shelf.state c.work-outcome.new.shelf) (g.K.Sink.state c.work-outcome.new.out) (g.T.Sink.state c.work-outcome.new.trace) in
    any_decided_resumed words before after (g.K.Sink.state c.conclude.new.out) c.conclude.result c.work-outcome.result c.puts_add_up.ensures.parts c.conclude.ensures c.work-outcome.ensures.works

pub returns-clause-decided_snapshot : goal.returns-clause-decided_snapshot
returns-clause-decided_snapshot g c =
    let words = map (string_bytes {Z = Global}) c.args.words.now in
    let before = outside (g.F.Shelf.state c.args.shelf.now) (g.K.Sink.state c.args.out.now) (g.T.Sink.state c.args.trace.now) in
    let after = outside (g.F.Shelf.state c.work-outcome.new.shelf) (g.K.Sink.state c.work-outcome.new.out) (g.T.Sink.state c.work-outcome.new.trace) in
    any_decided_snapshot words before after (g.K.Sink.state c.conclude.new.out) c.conclude.result c.work-outcome.result c.puts_add_up.ensures.parts c.conclude.ensures c.work-outcome.ensures.works
