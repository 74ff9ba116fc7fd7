use Rattle.std.proofs.Common.{sym, ◌∙◌, string_bytes, map, drop}
use Rattle.lola_monitor_command.proofs.Bounds.{analysis_in_bounds, drill_in_bounds, replay_in_bounds, run_in_bounds, snapshot_in_bounds}
use Rattle.lola_monitor_command.proofs.Named.{drills, is_none, replays, snapshots}
use Rattle.lola_monitor_command.proofs.command.read_command.Goals as goal

pub returns-in-run-clause-bounds : goal.returns-in-run-clause-bounds
returns-in-run-clause-bounds c = run_in_bounds (drop 2 (map string_bytes c.args.words.now)) c.read_run.result c.read_run.ensures

pub returns-in-analyse-clause-bounds : goal.returns-in-analyse-clause-bounds
returns-in-analyse-clause-bounds c = analysis_in_bounds (drop 2 (map string_bytes c.args.words.now)) c.read_analysis.result c.read_analysis.ensures

pub returns-in-drill-clause-command : goal.returns-in-drill-clause-command
returns-in-drill-clause-command c = rw (drills string_bytes c.args.words.now c.index-words-1.result c.if-words-lt2.false c.index-words-1.is (sym c.as_str.ensures.value ∙ c.in-drill.is)) c.read_drill.ensures

pub returns-in-drill-clause-bounds : goal.returns-in-drill-clause-bounds
returns-in-drill-clause-bounds c = drill_in_bounds (drop 2 (map string_bytes c.args.words.now)) c.read_drill.result (map string_bytes c.args.words.now) c.read_drill.ensures

pub returns-in-replay-clause-command : goal.returns-in-replay-clause-command
returns-in-replay-clause-command c = rw (replays string_bytes c.args.words.now c.index-words-1.result c.if-words-lt2.false c.index-words-1.is (sym c.as_str.ensures.value ∙ c.in-replay.is)) c.read_replay.ensures

pub returns-in-replay-clause-bounds : goal.returns-in-replay-clause-bounds
returns-in-replay-clause-bounds c = replay_in_bounds (drop 2 (map string_bytes c.args.words.now)) c.read_replay.result c.read_replay.ensures

pub returns-in-snapshot-clause-command : goal.returns-in-snapshot-clause-command
returns-in-snapshot-clause-command c = rw (snapshots string_bytes c.args.words.now c.index-words-1.result c.if-words-lt2.false c.index-words-1.is (sym c.as_str.ensures.value ∙ c.in-snapshot.is)) c.read_snapshot.ensures

pub returns-in-snapshot-clause-bounds : goal.returns-in-snapshot-clause-bounds
returns-in-snapshot-clause-bounds c = snapshot_in_bounds (drop 2 (map string_bytes c.args.words.now)) c.read_snapshot.result c.read_snapshot.ensures

pub returns-in_default-clause-command : goal.returns-in_default-clause-command
returns-in_default-clause-command c =
    let named = c.as_str.ensures.value in let d = c.in_default in
    sym (is_none string_bytes c.args.words.now c.index-words-1.result c.if-words-lt2.false c.index-words-1.is (λ h. d.not-run (named ∙ h)) (λ h. d.not-analyse (named ∙ h)) (λ h. d.not-drill (named ∙ h)) (λ h. d.not-replay (named ∙ h)) (λ h. d.not-snapshot (named ∙ h)))
