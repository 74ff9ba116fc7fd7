-- What the lines of a trace tell so far apart from the steps.
use Rattle.std.specs.Prelude.{ℕ, ◌≡◌, ◌<◌, ◌≤◌, ◌+◌, List, [], ◌++◌, Option, Some, None, Bool, ◌&&◌, get_or, length, nat_eq, nat_le, nat_lt, slice_set}
use Rattle.lola_value.specs.Times.{latest}
use Rattle.lola_model.specs.Journal.{accepted, merged_from, opening_time, rows_of}
use Rattle.lola_model.specs.NextStep.{after_last}
use Rattle.lola_model.specs.Steps.{start_of}
use Rattle.lola_model.specs.declared.journal.Entry.{Entry}
use Rattle.lola_model.specs.declared.journal.Mark.{Mark}
use Rattle.lola_model.specs.declared.journal.Mark.TheVariants as mark
use Rattle.lola_model.specs.declared.journal.Row.{Row}
use Rattle.lola_replay.specs.Ends.{late_count}
use Rattle.lola_replay.specs.Traces.{last_number}
use Rattle.lola_replay.specs.declared.tracking.Tracking.{Tracking}

-- whether a number is one more than another
abbrev pub is_next : ℕ → ℕ → Bool
is_next number last = nat_eq number (last + 1)

-- whether a mark is right where the merged time is this
abbrev pub is_marked : ℕ → ℕ → Mark → Bool
is_marked merged stamp mark.Accepted = nat_le merged stamp
is_marked merged stamp (mark.Late m) = nat_eq m merged && nat_lt stamp merged

-- whether an entry is right behind those so far
abbrev pub is_right : Tracking → Entry → Bool
is_right t e = nat_lt e.row.source 64 && (is_next e.row.number (get_or t.numbers e.row.source 0) && is_marked t.merged e.row.stamp e.mark)

-- where time counts from, once that is known: from one moment, whatever rows are still accepted; it is not known before the first
-- accepted row, where there is no option
abbrev pub IsBegin : Option ℕ → List Row → Option ℕ → Type 0
IsBegin start rows None = (start ≡ None) × (rows ≡ [])
IsBegin start rows (Some t) = (more : List Row) → start_of start (rows ++ more) ≡ t

-- what the lines that tell a journal tell
pub record Tracks (start : Option ℕ) (journal : List Entry) (t : Tracking) : Type 0 where
  pub numbers_are : (s : ℕ) → s < 64 → get_or t.numbers s 0 ≡ last_number (rows_of s journal)
  pub merged_is : t.merged ≡ merged_from (opening_time start) journal
  pub entries_are : t.entries ≡ length journal
  pub late_are : t.late ≡ late_count journal
  pub rows_are : t.rows ≡ length (accepted journal)
  pub begin_is : IsBegin start (accepted journal) t.begin
  pub limit_is : t.limit ≡ after_last (accepted journal)

-- whatever journal it is: there is a number for each source, entries are counted, and times are in range
pub record IsTallied (t : Tracking) : Type 0 where
  pub sources : length t.numbers ≡ 64
  pub fewer_late : t.late ≤ t.entries
  pub fewer_rows : t.rows ≤ t.entries
  pub limit_low : t.limit ≤ latest + 1

-- where time counts from, where a row of this stamp is accepted
abbrev pub start_at : Option ℕ → ℕ → ℕ
start_at None stamp = stamp
start_at (Some t) stamp = t

-- once a row of this stamp is accepted
abbrev pub accepted_in : ℕ → Tracking → Tracking
accepted_in stamp t = record t { merged = stamp; rows = t.rows + 1; begin = Some (start_at t.begin stamp); limit = stamp + 1 }

-- once the last number of a source is this
abbrev pub numbered_in : ℕ → ℕ → Tracking → Tracking
numbered_in source number t = record t { numbers = slice_set t.numbers source number; entries = t.entries + 1 }

-- with one more entry
abbrev pub marked_in : Mark → ℕ → Tracking → Tracking
marked_in mark.Accepted stamp t = accepted_in stamp t
marked_in (mark.Late m) stamp t = record t { late = t.late + 1 }

abbrev pub noted : Entry → Tracking → Tracking
noted e t = numbered_in e.row.source e.row.number (marked_in e.mark e.row.stamp t)
