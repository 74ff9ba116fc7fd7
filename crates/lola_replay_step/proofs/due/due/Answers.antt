use Rattle.std.proofs.Common.{◌≡◌, ◌≤◌, IfSome, rules, subst, sym}
use Rattle.lola_replay_step.specs.Dues.{known_due}
use Rattle.lola_replay_step.proofs.DueLate.{due-late}
use Rattle.lola_replay_step.proofs.due.due.Goals as goal

pub returns-clause-late : goal.returns-clause-late
returns-clause-late c =
    let value : c.earlier.result ≡ known_due c.args.plan.now c.args.from c.args.start c.args.known.now = search rules in
    subst (λ o. IfSome o (λ t. c.args.from ≤ t)) (sym value) (due-late c.args.from c.args.plan.now c.requires.rates c.args.start c.args.known.now)
