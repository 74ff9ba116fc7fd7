-- What an entry behind a journal brings to a trace and to verdicts.
use Rattle.std.proofs.Common.{◌≡◌, ℕ, ◌<◌, ◌≤◌, ◌^◌, List, [], ◌∷◌, ◌++◌, refl, sym, subst}
use Rattle.lola_value.specs.Times.{latest}
use Rattle.lola_model.specs.Journal.{IsRightlyMarked}
use Rattle.lola_model.specs.Trace.{IsMarkInTime, IsTraceable}
use Rattle.lola_model.specs.Runs.{settled_lines}
use Rattle.lola_model.specs.declared.plan.Plan.{Plan}
use Rattle.lola_model.specs.declared.journal.Row.{Row}
use Rattle.lola_model.specs.declared.journal.Entry.{Entry}
use Rattle.lola_model.specs.declared.journal.Mark.{Mark}
use Rattle.lola_model.specs.declared.journal.Mark.TheVariants as mark
use Rattle.lola_monitor_run.specs.Verdicts.{AreTraceable, Setting}
use Rattle.lola_monitor_run.specs.Running.{IsAccepted, IsGoing, IsNext, IsRowFor, Keeping}

-- the lines that an entry brings, in a setting
abbrev pub BringsIn : Setting → List Entry → Entry → List (List ℕ) → Type 0
BringsIn s journal entry lines = settled_lines s.plan s.start (journal ++ entry ∷ []) s.show ≡ settled_lines s.plan s.start journal s.show ++ lines

-- an accepted entry is its row, marked so
marked_so : (row : Row) (m : Mark) → IsAccepted (record { row = row; mark = m }) → ◌≡◌ {A = Entry} (record { row = row; mark = m }) (record { row = row; mark = mark.Accepted })
marked_so row mark.Accepted is = refl
marked_so row (mark.Late t) is = absurd is

pub accepted_is : (entry : Entry) → IsAccepted entry → entry ≡ record { row = entry.row; mark = mark.Accepted }
accepted_is entry is = marked_so entry.row entry.mark is

-- a rightly marked entry's mark is not past the greatest time
mark_in_time : (m : Mark) (row : Row) (merged : ℕ) → merged ≤ latest → IsRightlyMarked merged (record { row = row; mark = m }) → IsMarkInTime m
mark_in_time mark.Accepted row merged most right = tt
mark_in_time (mark.Late t) row merged most right = subst (λ n. n ≤ latest) (sym right.0) most

-- an entry that a run takes is one that a line of its plan's trace can tell
pub taken_is_told : (kept : Keeping) (entry : Entry) → entry.row.source < 2 ^ 32 → entry.row.number < 2 ^ 64 → IsGoing kept → IsRowFor kept.state.plan entry.row → IsNext kept entry → IsTraceable kept.state.plan entry
taken_is_told kept entry source number going fits next = record {
  fields = fits.fields;
  source = source;
  number = number;
  stamp = fits.stamp;
  mark = mark_in_time entry.mark entry.row kept.state.merged going.merged next;
}

-- one entry more that a line can tell
pub told_more : (plan : Plan) (journal : List Entry) (entry : Entry) → AreTraceable plan journal → IsTraceable plan entry → AreTraceable plan (journal ++ entry ∷ [])
told_more plan [] entry all is = (is, tt)
told_more plan (e ∷ journal) entry all is = (all.0, told_more plan journal entry all.1 is)
