-- What the trace of a call tells of the rows that it took.
use Rattle.std.specs.Prelude.{ℕ, ◌≡◌, ◌↔◌, ◌++◌, List, Some}
use Rattle.lola_model.specs.declared.journal.Entry.{Entry}
use Rattle.lola_report.specs.Journals.{Spells}
use Rattle.lola_monitor.specs.Monitor.{Call, Rows}

-- the trace tells its bytes, and these came in this call
pub record Received (c : Call) (text : List ℕ) : Type 0 where
  pub held : List ℕ
  pub before : c.before.trace.written ≡ Some held
  pub after : c.after.trace.written ≡ Some (held ++ text)

-- what the trace received spells the journal of these rows, and no other
abbrev pub TellsThem : (c : Call) → Rows c → Type 0
TellsThem c run = (text : List ℕ) → Received c text → (journal : List Entry) → Spells run.plan text journal ↔ (journal ≡ run.journal)
