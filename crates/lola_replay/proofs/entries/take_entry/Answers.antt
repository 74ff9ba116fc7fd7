use Rattle.std.proofs.Common.{◌∙◌, ◌++◌, [], ◌∷◌, ap, subst, sym}
use Rattle.lola_replay.specs.Running.{IsFitRun, IsOn}
use Rattle.lola_replay.specs.Tracked.{IsTallied, noted}
use Rattle.lola_replay.specs.declared.tracking.Tracking.{Tracking}
use Rattle.lola_replay.proofs.RunningLemmas.{entry-on, low-source}
use Rattle.lola_replay.proofs.entries.take_entry.Goals as goal

pub note-requires-clause-source : goal.note-requires-clause-source
note-requires-clause-source c = low-source c.args.run.now.tracking c.args.entry.now c.requires.right

pub note-requires-clause-tallied : goal.note-requires-clause-tallied
note-requires-clause-tallied c = subst IsTallied (sym c.in_ok-take_steps.ensures.tracking) c.requires.fit.tallied

pub returns-clause-fit : goal.returns-clause-fit
returns-clause-fit c =
    let after = c.take_steps.new.run in
    let same = c.note.ensures ∙ ap (noted c.args.entry.now) c.in_ok-take_steps.ensures.tracking in
    subst (λ (t : Tracking). IsFitRun c.args.course.now.plan.now (record { tracking = t; progress = after.progress; fault = after.fault })) (sym same) c.in_ok-take_steps.ensures.fit

pub returns-clause-on : goal.returns-clause-on
returns-clause-on c = λ start text journal on.
    let plan = c.args.course.now.plan.now in
    let show = c.args.course.now.show in
    let e = c.args.entry.now in
    let after = c.take_steps.new.run in
    let same = c.note.ensures ∙ ap (noted e) c.in_ok-take_steps.ensures.tracking in
    subst (λ (t : Tracking). IsOn plan start show text (journal ++ e ∷ []) (record { tracking = t; progress = after.progress; fault = after.fault })) (sym same)
    (entry-on plan start show text journal e c.args.run.now after.progress after.fault on c.requires.fit.tallied c.requires.right (c.in_ok-take_steps.ensures.settled start text journal on))
