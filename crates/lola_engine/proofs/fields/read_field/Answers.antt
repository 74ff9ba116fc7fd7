-- An absent field is missing, and asks for no text.
use Rattle.std.proofs.Common.{[], ◌∷◌, Result, Ok, Err, OnOk}
use Rattle.lola_engine.proofs.Sweeping.{adds_none}
use Rattle.lola_engine.proofs.fields.read_field.Goals as goal

-- a fact that holds, whatever a call answered
on_ok : {T E P : Type 0} (r : Result T E) → P → OnOk r P
on_ok (Ok _) p = p
on_ok (Err _) p = tt

pub returns-in-Absent-clause-adds : goal.returns-in-Absent-clause-adds
returns-in-Absent-clause-adds c = on_ok c.put.result (adds_none (c.args.field.now ∷ []) c.args.texts.now.held)
