-- The fields so far are read.
use Rattle.std.proofs.Common.{◌+◌, ◌≤◌, take, vec_len}
use Rattle.lola_model.specs.Reading.{IsHeldBy}
use Rattle.lola_text.specs.Texts.{IsTable}
use Rattle.lola_engine.specs.Sweeps.{AddsTexts}
use Rattle.lola_engine.proofs.RowsRead.{AreOutcomesOf}
use Rattle.lola_engine.proofs.fields.read_fields.Given as goal

abbrev pub invariant-loop-place : goal.invariant-loop-place
invariant-loop-place l = record {
  read : AreOutcomesOf l.texts.held (take l.place l.inputs.items) (take l.place l.fields);
  there : l.place ≤ vec_len l.inputs;
  table : IsTable l.texts;
  held : IsHeldBy l.fn.texts.held l.texts.held;
  adds : AddsTexts (take l.place l.fields) l.fn.texts.held l.texts.held;
  given : l.texts.given ≤ l.fn.texts.given + l.place;
}
