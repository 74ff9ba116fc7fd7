-- A text is held under its number.
use Rattle.std.proofs.Common.{[], ◌∷◌}
use Rattle.lola_engine.proofs.Interned.{asked}
use Rattle.lola_engine.proofs.RowsRead.{text-outcome}
use Rattle.lola_engine.proofs.Sweeping.{adds_none, adds_one}
use Rattle.lola_engine.proofs.fields.outcome_of.Goals as goal

pub returns-in_ok-id-in-Text-clause-ok : goal.returns-in_ok-id-in-Text-clause-ok
returns-in_ok-id-in-Text-clause-ok c =
    let is = asked c.as_bytes.result.now c.in_ok-id-in-Text.id.0 c.args.texts.now c.intern_again.new.self c.requires.table c.in_ok-id-in-Text.ensures.ok in
    text-outcome c.intern_again.new.self.held c.args.field.now c.in-Text.t c.as_bytes.result.now c.in_ok-id-in-Text.id c.in-Text.is c.as_bytes.ensures is.there

pub returns-in_ok-id-in-Text-clause-held : goal.returns-in_ok-id-in-Text-clause-held
returns-in_ok-id-in-Text-clause-held c = (asked c.as_bytes.result.now c.in_ok-id-in-Text.id.0 c.args.texts.now c.intern_again.new.self c.requires.table c.in_ok-id-in-Text.ensures.ok).held

pub returns-in_ok-id-in-Text-clause-adds : goal.returns-in_ok-id-in-Text-clause-adds
returns-in_ok-id-in-Text-clause-adds c =
    adds_one c.args.field.now c.in-Text.t c.as_bytes.result.now c.in_ok-id-in-Text.id.0 c.args.texts.now c.intern_again.new.self c.in-Text.is c.as_bytes.ensures c.in_ok-id-in-Text.ensures.ok

pub returns-in-Absent-clause-adds : goal.returns-in-Absent-clause-adds
returns-in-Absent-clause-adds c = adds_none (c.args.field.now ∷ []) c.args.texts.now.held

pub returns-in-Bool-clause-adds : goal.returns-in-Bool-clause-adds
returns-in-Bool-clause-adds c = adds_none (c.args.field.now ∷ []) c.args.texts.now.held

pub returns-in-Int-clause-adds : goal.returns-in-Int-clause-adds
returns-in-Int-clause-adds c = adds_none (c.args.field.now ∷ []) c.args.texts.now.held
