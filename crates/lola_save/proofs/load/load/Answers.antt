use Rattle.std.proofs.Common.{◌∙◌, sym}
use Rattle.lola_save_text.specs.JournalStates.{state_of}
use Rattle.lola_save.proofs.load.load.Goals as goal

pub returns : goal.returns
returns c = record {
  state = c.in-Ok.state;
  saved = c.in-Ok.ensures.saved;
  written = c.in-Ok.ensures.written;
  on = c.in-Ok-engine_of.ensures.on;
  stands = λ start journal run fine text.
      c.in-Ok-engine_of.ensures.stands start journal run fine
      (c.one_state.ensures c.args.spec.now c.in-Ok.state (state_of c.args.plan start journal) c.in-Ok.ensures.saved (c.state_of_journal_is_saved.ensures.saved start journal run) (sym c.in-Ok.ensures.written ∙ text));
}
