use Rattle.std.proofs.Common.{[]}
use Rattle.lola_model.specs.Store.{layout_of}
use Rattle.lola_save.proofs.LoadedEngine.{follows, going-on, new-is}
use Rattle.lola_save.proofs.load.store_of.Goals as goal

pub resume_at-requires-clause-new : goal.resume_at-requires-clause-new
resume_at-requires-clause-new c = new-is _ (layout_of c.args.plan.now) c.in_ok-store.ensures.seen

pub resume_at-requires-clause-order : goal.resume_at-requires-clause-order
resume_at-requires-clause-order c = follows c.args.state.now.start c.args.state.now.last c.requires.saved.last

pub resume_at-requires-clause-few : goal.resume_at-requires-clause-few
resume_at-requires-clause-few c = c.requires.saved.steps

pub load_lives-requires-clause-new : goal.load_lives-requires-clause-new
load_lives-requires-clause-new c =
    going-on c.args.plan.now c.args.state.now c.in_ok-store.store c.resume_at.new.self c.in_ok-store.ensures.seen c.in_ok-store.ensures.past c.resume_at.ensures.seen (λ names n i h. c.resume_at.ensures.past names n i [] h)
