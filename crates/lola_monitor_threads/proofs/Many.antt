-- How many entries there are in a journal, by sources.
use Rattle.std.proofs.Common.{◌≡◌, ℕ, zero, suc, ◌<◌, ◌≤◌, ◌+◌, ◌*◌, cond, List, [], ◌∷◌, length, eq-eqb, ne_eqb, refl, ap, arith}
use Rattle.std.proofs.lemmas.List.Elements.{All-head, All-tail}
use mathlib.Core.Logic.{dite}
use native.Mathlib.Decide.{ℕ_discrete}
use Rattle.lola_model.specs.Journal.{accepted, rows_of}
use Rattle.lola_model.specs.declared.journal.Row.{Row}
use Rattle.lola_model.specs.declared.journal.Entry.{Entry}
use Rattle.lola_model.specs.declared.journal.Mark.{Mark}
use Rattle.lola_model.specs.declared.journal.Mark.TheVariants as mark
use Rattle.lola_monitor_run.specs.Verdicts.{AreOfSources, late_count, most_rows}

-- each entry is accepted or late
pub all_counted : (journal : List Entry) → length (accepted journal) + late_count journal ≡ length journal
all_counted [] = refl
all_counted (e ∷ es) = by_mark e.row e.mark (all_counted es)
  where
    by_mark : (row : Row) (m : Mark) → length (accepted es) + late_count es ≡ length es
        → length (accepted (record { row = row; mark = m } ∷ es)) + late_count (record { row = row; mark = m } ∷ es) ≡ suc (length es)
    by_mark row mark.Accepted i = omega arith
    by_mark row (mark.Late t) i = omega arith

-- an entry gives a row of its source
pub rows_first : (e : Entry) (es : List Entry) (s : ℕ) → e.row.source ≡ s → rows_of s (e ∷ es) ≡ e.row ∷ rows_of s es
rows_first e es s is = ap (λ b. cond b (e.row ∷ rows_of s es) (rows_of s es)) (eq-eqb e.row.source s is)

-- the rows of so many sources
abbrev total : (ℕ → List Row) → ℕ → ℕ
total f zero = 0
total f (suc m) = total f m + length (f m)

no_fewer : (f g : ℕ → List Row) (m : ℕ) → ((s : ℕ) → length (f s) ≤ length (g s)) → total f m ≤ total g m
no_fewer f g zero each = omega arith
no_fewer f g (suc m) each = let i = no_fewer f g m each in let l = each m in omega arith

one_more : (f g : ℕ → List Row) (j m : ℕ) → j < m → length (g j) ≡ suc (length (f j)) → ((s : ℕ) → length (f s) ≤ length (g s)) → suc (total f m) ≤ total g m
one_more f g j zero below more each = absurd (omega arith)
one_more f g j (suc m) below more each = dite (ℕ_discrete j m)
    (λ same. let i = no_fewer f g m each in let e = ap (λ n. length (g n)) same in let d = ap (λ n. length (f n)) same in omega arith)
    (λ apart. let i = one_more f g j m (omega arith) more each in let l = each m in omega arith)

rows_grow : (e : Entry) (es : List Entry) (s : ℕ) → length (rows_of s es) ≤ length (rows_of s (e ∷ es))
rows_grow e es s = dite (ℕ_discrete e.row.source s)
    (λ same. let b = ap length (rows_first e es s same) in omega arith)
    (λ apart. let b = ap (λ b. length (cond b (e.row ∷ rows_of s es) (rows_of s es))) (ne_eqb e.row.source s apart) in omega arith)

abbrev IsBelow : ℕ → Entry → Type 0
IsBelow n e = e.row.source < n

journal_total : (m : ℕ) (journal : List Entry) → AreOfSources m journal → length journal ≤ total (λ s. rows_of s journal) m
journal_total m [] all = omega arith
journal_total m (e ∷ es) all =
    let i = journal_total m es (All-tail (IsBelow m) e es all) in
    let more = one_more (λ s. rows_of s es) (λ s. rows_of s (e ∷ es)) e.row.source m (All-head (IsBelow m) e es all) (ap length (rows_first e es e.row.source refl)) (rows_grow e es) in
    omega arith

few_total : (f : ℕ → List Row) (m : ℕ) → ((s : ℕ) → s < m → length (f s) ≤ most_rows) → total f m ≤ m * 1099511627776
few_total f zero each = omega arith
few_total f (suc m) each = let i = few_total f m (λ s less. each s (omega arith)) in let l = each m (omega arith) in omega arith

-- as many as these sources may have
pub journal_few : (m : ℕ) (journal : List Entry) → AreOfSources m journal → ((s : ℕ) → s < m → length (rows_of s journal) ≤ most_rows) → length journal ≤ m * 1099511627776
journal_few m journal all each = let a = journal_total m journal all in let b = few_total (λ s. rows_of s journal) m each in omega arith
