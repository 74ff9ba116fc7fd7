use Rattle.lola_save.proofs.LoadedEngine.{left-at, texts-on}
use Rattle.lola_save.proofs.load.engine_of.Goals as goal

pub resume-requires-clause-literals : goal.resume-requires-clause-literals
resume-requires-clause-literals c κs = texts-on c.in_ok-texts.texts.held c.store_of.new.texts.held c.args.plan.spec.texts c.in_ok-store.ensures.more.held c.in_ok-texts.ensures.texts

pub returns-clause-stands : goal.returns-clause-stands
returns-clause-stands c start journal run fine is =
    c.in_ok-engine.ensures.stands start journal
    (left-at c.args.plan c.args.state.now c.store_of.new.texts.held c.in_ok-store.store c.in_ok-store.ensures.store c.restored_stands.ensures c.content_is_of_journal.ensures.start
    c.first_state_has_no_values.ensures.unknown c.resumed_is_there.ensures.new start journal run fine is)
