-- How many rows there are in a journal, by sources, and what sources may still take.
use Rattle.std.proofs.Common.{◌≡◌, ℕ, zero, suc, ◌<◌, ◌≤◌, ◌+◌, ◌*◌, cond, List, [], ◌∷◌, Option, Some, None, length, set, eq-eqb, ne_eqb, refl, sym, ap, inl, inr, arith}
use Rattle.std.proofs.lemmas.List.Elements.{All-head, All-tail}
use Rattle.std.specs.Prelude.{slice_get}
use mathlib.Core.Logic.{dite}
use native.Mathlib.Decide.{ℕ_discrete}
use Rattle.lola_model.specs.Journal.{accepted, rows_of}
use Rattle.lola_model.specs.declared.journal.Row.{Row}
use Rattle.lola_model.specs.declared.journal.Entry.{Entry}
use Rattle.lola_model.specs.declared.journal.Mark.{Mark}
use Rattle.lola_model.specs.declared.journal.Mark.TheVariants as mark
use Rattle.lola_model.proofs.Growing.{slice_get_some}
use Rattle.lola_feed.specs.declared.worker.SourceEnd as worker
use Rattle.lola_monitor_run.specs.Verdicts.{AreOfSources, late_count, most_rows}
use Rattle.lola_monitor_run.specs.Running.{HasRoom}
use Rattle.lola_monitor_run.specs.Feeds.{Supply, World}
use Rattle.lola_monitor_run.specs.Turning.{SatOut, SoFar, Touched, left_by, left_of}
use Rattle.lola_monitor_run.proofs.Lists.{some_is, some_not}

-- each entry is accepted or late
all_counted : (journal : List Entry) → length (accepted journal) + late_count journal ≡ length journal
all_counted [] = refl
all_counted (e ∷ es) = by_mark e.row e.mark (all_counted es)
  where
    by_mark : (row : Row) (m : Mark) → length (accepted es) + late_count es ≡ length es
        → length (accepted (record { row = row; mark = m } ∷ es)) + late_count (record { row = row; mark = m } ∷ es) ≡ suc (length es)
    by_mark row mark.Accepted i = omega arith
    by_mark row (mark.Late t) i = omega arith

-- the rows of so many sources
abbrev total : (ℕ → List Row) → ℕ → ℕ
total f zero = 0
total f (suc m) = total f m + length (f m)

no_fewer : (f g : ℕ → List Row) (m : ℕ) → ((s : ℕ) → length (f s) ≤ length (g s)) → total f m ≤ total g m
no_fewer f g zero each = omega arith
no_fewer f g (suc m) each = let i = no_fewer f g m each in let l = each m in omega arith

one_more : (f g : ℕ → List Row) (j m : ℕ) → j < m → length (g j) ≡ suc (length (f j)) → ((s : ℕ) → length (f s) ≤ length (g s)) → suc (total f m) ≤ total g m
one_more f g j zero below more each = absurd (omega arith)
one_more f g j (suc m) below more each = dite (ℕ_discrete j m)
    (λ same. let i = no_fewer f g m each in let e = ap (λ n. length (g n)) same in let d = ap (λ n. length (f n)) same in omega arith)
    (λ apart. let i = one_more f g j m (omega arith) more each in let l = each m in omega arith)

rows_first : (e : Entry) (es : List Entry) → length (rows_of e.row.source (e ∷ es)) ≡ suc (length (rows_of e.row.source es))
rows_first e es = ap (λ b. length (cond b (e.row ∷ rows_of e.row.source es) (rows_of e.row.source es))) (eq-eqb e.row.source e.row.source refl)

rows_grow : (e : Entry) (es : List Entry) (s : ℕ) → length (rows_of s es) ≤ length (rows_of s (e ∷ es))
rows_grow e es s = dite (ℕ_discrete e.row.source s)
    (λ same. let b = ap (λ b. length (cond b (e.row ∷ rows_of s es) (rows_of s es))) (eq-eqb e.row.source s same) in omega arith)
    (λ apart. let b = ap (λ b. length (cond b (e.row ∷ rows_of s es) (rows_of s es))) (ne_eqb e.row.source s apart) in omega arith)

abbrev IsBelow : ℕ → Entry → Type 0
IsBelow n e = e.row.source < n

journal_total : (m : ℕ) (journal : List Entry) → AreOfSources m journal → length journal ≤ total (λ s. rows_of s journal) m
journal_total m [] all = omega arith
journal_total m (e ∷ es) all =
    let i = journal_total m es (All-tail (IsBelow m) e es all) in
    let more = one_more (λ s. rows_of s es) (λ s. rows_of s (e ∷ es)) e.row.source m (All-head (IsBelow m) e es all) (rows_first e es) (rows_grow e es) in
    omega arith

few_total : (f : ℕ → List Row) (m : ℕ) → ((s : ℕ) → s < m → length (f s) ≤ most_rows) → total f m ≤ m * 1099511627776
few_total f zero each = omega arith
few_total f (suc m) each = let i = few_total f m (λ s less. each s (omega arith)) in let l = each m (omega arith) in omega arith

-- so few rows leave room for one more
pub room_left : (first : World) (n k : ℕ) (now : World) → SoFar first n k now → HasRoom now.kept
room_left first n k now so =
    let fed = so.drawn.fed in
    let count = all_counted so.journal in
    let few = few_total (λ s. rows_of s so.journal) (length first.sources) (λ s less.
    let old = slice_get_some first.sources s less in
    let new = slice_get_some now.sources s (let e = fed.many in omega arith) in
    (fed.each s old.0 new.0 old.1 new.1).few) in
    let rows = journal_total (length first.sources) so.journal so.drawn.of_sources in
    let m = so.few in
    record {
      engine = omega (arith, so.rows, count, few, rows, m);
      rows = omega (arith, so.accepted, so.late, count, few, rows, m);
    }

-- what is left of sources falls where one is changed and may take less
less_left : (olds : List Supply) (k : ℕ) (old new : Supply) → slice_get olds k ≡ Some old → left_by new < left_by old → left_of (set olds k new) < left_of olds
less_left [] k old new was less = absurd (some_not (sym was))
less_left (x ∷ xs) zero old new was less = let e = ap left_by (some_is was) in omega arith
less_left (x ∷ xs) (suc k) old new was less = let i = less_left xs k old new was less in omega arith

left_none : (source : Supply) → source.end ≡ None → left_by source ≡ source.bound + 1
left_none source none = ap (λ (e : Option worker.SourceEnd). elim e [ None ↦ source.bound + 1 | Some how ↦ 0 ]) none

left_over : (source : Supply) (how : worker.SourceEnd) → source.end ≡ Some how → left_by source ≡ 0
left_over source how over = ap (λ (e : Option worker.SourceEnd). elim e [ None ↦ source.bound + 1 | Some how ↦ 0 ]) over

pub took_less : (k : ℕ) (olds news : List Supply) (at : Touched k olds news) → at.new.end ≡ None → at.new.bound < at.old.bound → left_of news < left_of olds
took_less k olds news at goes_on less =
    let l = less_left olds k at.old at.new at.was (let a = left_none at.old at.went_on in let b = left_none at.new goes_on in omega arith) in
    let e = ap left_of at.now in omega arith

pub sat_no_more : (k : ℕ) (olds news : List Supply) → SatOut k olds news → left_of news ≤ left_of olds
sat_no_more k olds news (inl r) = let e = ap left_of r.same in omega arith
sat_no_more k olds news (inr f) =
    let at = f.1.1.at in
    let l = less_left olds k at.old at.new at.was (let a = left_none at.old at.went_on in let b = left_over at.new f.0 f.1.1.over in omega arith) in
    let e = ap left_of at.now in omega arith
