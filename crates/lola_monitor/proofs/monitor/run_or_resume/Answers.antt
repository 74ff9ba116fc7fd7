use Rattle.std.proofs.Common.{Global, ◌≡◌, None, Some, inl, inr, map, string_bytes}
use Rattle.lola_monitor.specs.Command.{resumption_with}
use Rattle.lola_monitor.proofs.AnyCommand.{run_without}
use Rattle.lola_monitor.proofs.Asking.{resumption_is}
use Rattle.lola_monitor.proofs.monitor.run_or_resume.Goals as goal

pub returns-in-Some-clause-works : goal.returns-in-Some-clause-works
returns-in-Some-clause-works g c =
    let words = map (string_bytes {Z = Global}) c.args.words.now in
    let command = c.args.command.now in
    let stated : command.state ≡ Some c.in-Some.place = search in
    inr (inl (record { names = resumption_with words command c.in-Some.place; is_command = resumption_is words command c.requires.is_run c.in-Some.place stated; works = c.resume.ensures.works; cause = c.resume.ensures.cause }))

pub returns-in-None-clause-works : goal.returns-in-None-clause-works
returns-in-None-clause-works g c =
    let words = map (string_bytes {Z = Global}) c.args.words.now in
    let command = c.args.command.now in
    let anew : command.state ≡ None = search in
    inl (run_without words command c.requires.is_run anew, c.run.ensures.works)
