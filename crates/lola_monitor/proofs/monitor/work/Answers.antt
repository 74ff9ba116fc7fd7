use Rattle.std.proofs.Common.{Global, ◌≡◌, None, Some, IfSome, arith, inl, inr, map, refl, rules, string_bytes, subst}
use Rattle.lola_monitor_command.specs.Bounds.{IsDrillInBounds, IsInBounds}
use Rattle.lola_monitor_command.specs.Command.{command_of}
use Rattle.lola_monitor_command.specs.declared.command.Command.TheVariants.{Analyse, Drill, Replay, Snapshot}
use Rattle.lola_monitor.specs.Command.{names_asked, snapshot_with}
use Rattle.lola_monitor.specs.Monitor.{outside}
use Rattle.lola_monitor.proofs.AnyCommand.{analysis_without, drill_without, none_without, replay_without}
use Rattle.lola_monitor.proofs.AnyEnds.{no_memory}
use Rattle.lola_monitor.proofs.Asking.{drill_is, snapshot_is}
use Rattle.lola_monitor.proofs.Calls.{asked, grew_none}
use Rattle.lola_monitor.proofs.Working.{works_drilled}
use Rattle.lola_monitor.proofs.monitor.work.Goals as goal

-- nothing was asked
pub returns-in-Err-clause-asked : goal.returns-in-Err-clause-asked
returns-in-Err-clause-asked g c =
    let names = names_asked (map (string_bytes {Z = Global}) c.args.words.now) in
    let shelf = g.F.Shelf.state c.args.shelf.now in
    asked names shelf shelf (grew_none names shelf)

pub returns-in-Err-clause-works : goal.returns-in-Err-clause-works
returns-in-Err-clause-works g c =
    no_memory (map (string_bytes {Z = Global}) c.args.words.now) (outside (g.F.Shelf.state c.args.shelf.now) (g.K.Sink.state c.args.out.now) (g.T.Sink.state c.args.trace.now))

-- no command
pub returns-in-Ok-None-clause-works : goal.returns-in-Ok-None-clause-works
returns-in-Ok-None-clause-works g c =
    let words = map (string_bytes {Z = Global}) c.args.words.now in
    let is : command_of words ≡ None = first_of (search rules, cc (c.in-Ok-None.ensures.command)) in
    inl (none_without words is, record { no_command = is; shelf = refl; early = record { trace = refl; out = refl } })

-- an analysis
pub returns-in-Ok-Some-Analyse-clause-works : goal.returns-in-Ok-Some-Analyse-clause-works
returns-in-Ok-Some-Analyse-clause-works g c =
    let words = map (string_bytes {Z = Global}) c.args.words.now in
    let is : command_of words ≡ Some (Analyse c.in-Ok-Some-Analyse.specification) = first_of (search rules, cc (c.in-Ok-Some-Analyse.ensures.command)) in
    inl (analysis_without words c.in-Ok-Some-Analyse.specification is, c.analyse.ensures.works (g.K.Sink.state c.args.out.now) (g.T.Sink.state c.args.trace.now))

-- a replay
pub returns-in-Ok-Some-Replay-clause-works : goal.returns-in-Ok-Some-Replay-clause-works
returns-in-Ok-Some-Replay-clause-works g c =
    let words = map (string_bytes {Z = Global}) c.args.words.now in
    let is : command_of words ≡ Some (Replay c.in-Ok-Some-Replay.command) = first_of (search rules, cc (c.in-Ok-Some-Replay.ensures.command)) in
    inl (replay_without words c.in-Ok-Some-Replay.command is, c.replay.ensures.works (g.K.Sink.state c.args.out.now) (g.T.Sink.state c.args.trace.now))

-- a snapshot
pub returns-in-Ok-Some-Snapshot-clause-works : goal.returns-in-Ok-Some-Snapshot-clause-works
returns-in-Ok-Some-Snapshot-clause-works g c =
    let words = map (string_bytes {Z = Global}) c.args.words.now in
    let command = c.in-Ok-Some-Snapshot.command in
    let is : command_of words ≡ Some (Snapshot command) = first_of (search rules, cc (c.in-Ok-Some-Snapshot.ensures.command)) in
    inr (inr (record {
      names = snapshot_with words command;
      is_command = snapshot_is words command is;
      works = c.snapshot.ensures.works (g.K.Sink.state c.args.out.now) (g.T.Sink.state c.args.trace.now);
      cause = c.snapshot.ensures.cause (g.K.Sink.state c.args.out.now) (g.T.Sink.state c.args.trace.now);
    }))

-- a drill
pub drill-requires-clause-number : goal.drill-requires-clause-number
drill-requires-clause-number g c κs within =
    let is : c.in-Ok-Some-Drill.field-0 ≡ Some (Drill c.in-Ok-Some-Drill.command) = search in
    let bounds : IsDrillInBounds c.in-Ok-Some-Drill.command = subst (λ o. IfSome o IsInBounds) is c.in-Ok-Some-Drill.ensures.bounds in
    omega (arith, bounds.number)

pub drill-requires-clause-workers : goal.drill-requires-clause-workers
drill-requires-clause-workers g c κs within =
    let is : c.in-Ok-Some-Drill.field-0 ≡ Some (Drill c.in-Ok-Some-Drill.command) = search in
    let bounds : IsDrillInBounds c.in-Ok-Some-Drill.command = subst (λ o. IfSome o IsInBounds) is c.in-Ok-Some-Drill.ensures.bounds in
    bounds.workers

pub returns-in-Ok-Some-Drill-clause-works : goal.returns-in-Ok-Some-Drill-clause-works
returns-in-Ok-Some-Drill-clause-works g c =
    let words = map (string_bytes {Z = Global}) c.args.words.now in
    let is : command_of words ≡ Some (Drill c.in-Ok-Some-Drill.command) = first_of (search rules, cc (c.in-Ok-Some-Drill.ensures.command)) in
    inl (
      drill_without words c.in-Ok-Some-Drill.command is,
      works_drilled words (outside (g.F.Shelf.state c.args.shelf.now) (g.K.Sink.state c.args.out.now) (g.T.Sink.state c.args.trace.now)) c.in-Ok-Some-Drill.command c.drill.result
          (drill_is words c.in-Ok-Some-Drill.command is) c.drill.ensures,
    )
