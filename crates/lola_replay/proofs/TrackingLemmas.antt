-- One more entry is told.
use Rattle.std.proofs.Common.{◌≡◌, ◌≢◌, ◌∙◌, refl, sym, ap, subst, inl, inr, ◌⊎◌, ℕ, suc, zero, ◌+◌, ◌<◌, ◌≤◌, List, [], ◌∷◌, ◌++◌, Option, Some, None, Bool, true, false, if◌then◌else◌, ◌&&◌, arith, append_assoc, append-nil, get_or, length, nat_eq, nat_lt, replicate, set}
use Rattle.std.proofs.lemmas.Bool.{and_from, and_parts, eqb-true, leb-true, ltb-true, eq-eqb, le-leb, lt-ltb, ltb-false}
use Rattle.std.proofs.lemmas.List.{get_or-set_other, get_or-set_same, length-append, length-replicate}
use Rattle.std.proofs.Math.ListN.{length-set}
use Rattle.lola_value.specs.Times.{latest}
use Rattle.lola_model.proofs.Journals.{accepted-append_accepted, accepted-append_late, merged_from-append_accepted, merged_from-append_late, rows_of-append}
use Rattle.lola_model.specs.Journal.{IsRightlyMarked, accepted, merged_from, opening_time, rows_of}
use Rattle.lola_model.specs.NextStep.{after_last}
use Rattle.lola_model.specs.Steps.{start_of}
use Rattle.lola_model.specs.declared.journal.Entry.{Entry}
use Rattle.lola_model.specs.declared.journal.Mark.{Mark}
use Rattle.lola_model.specs.declared.journal.Mark.TheVariants as mark
use Rattle.lola_model.specs.declared.journal.Row.{Row}
use Rattle.lola_model.specs.declared.plan.Plan.{Plan}
use Rattle.lola_replay.specs.Ends.{late_count, most_sources}
use Rattle.lola_replay.specs.Traces.{IsMismarked, IsMisnumbered, last_number}
use Rattle.lola_replay.specs.Tracked.{IsBegin, IsTallied, Tracks, is_marked, is_next, is_right, marked_in, noted, numbered_in, start_at}
use Rattle.lola_replay.specs.declared.tracking.Tracking.{Tracking}

-- the last of rows

last-more : (rs : List Row) (r : Row) → last_number (rs ++ r ∷ []) ≡ r.number
last-more [] r = refl
last-more (q ∷ []) r = refl
last-more (q ∷ (p ∷ rs)) r = last-more (p ∷ rs) r

after-more : (rs : List Row) (r : Row) → after_last (rs ++ r ∷ []) ≡ r.stamp + 1
after-more [] r = refl
after-more (q ∷ []) r = refl
after-more (q ∷ (p ∷ rs)) r = after-more (p ∷ rs) r

late-accepted : (js : List Entry) (e : Entry) → e.mark ≡ mark.Accepted → late_count (js ++ e ∷ []) ≡ late_count js
late-accepted [] e is = rw is refl
late-accepted (j ∷ js) e is = go (late-accepted js e is) j.mark
  where
    go : late_count (js ++ e ∷ []) ≡ late_count js → (m : Mark) → elim m as (λ _. ℕ) [ mark.Accepted ↦ late_count (js ++ e ∷ []) | mark.Late t ↦ late_count (js ++ e ∷ []) + 1 ]
        ≡ elim m as (λ _. ℕ) [ mark.Accepted ↦ late_count js | mark.Late t ↦ late_count js + 1 ]
    go rest mark.Accepted = rest
    go rest (mark.Late t) = ap (λ n. n + 1) rest

late-late : (js : List Entry) (e : Entry) (t : ℕ) → e.mark ≡ mark.Late t → late_count (js ++ e ∷ []) ≡ late_count js + 1
late-late [] e t is = rw is refl
late-late (j ∷ js) e t is = go (late-late js e t is) j.mark
  where
    go : late_count (js ++ e ∷ []) ≡ late_count js + 1 → (m : Mark) → elim m as (λ _. ℕ) [ mark.Accepted ↦ late_count (js ++ e ∷ []) | mark.Late t ↦ late_count (js ++ e ∷ []) + 1 ]
        ≡ elim m as (λ _. ℕ) [ mark.Accepted ↦ late_count js | mark.Late t ↦ late_count js + 1 ] + 1
    go rest mark.Accepted = rest
    go rest (mark.Late t) = ap (λ n. n + 1) rest

-- where time counts from

none-yet : (s n : ℕ) → let none : ℕ = get_or (replicate n 0) s 0 in none ≡ 0
none-yet s zero = refl
none-yet zero (suc n) = refl
none-yet (suc s) (suc n) = none-yet s n

start-at-is : (start : Option ℕ) (rows : List Row) (r : Row) (b : Option ℕ) → IsBegin start rows b → (more : List Row) → start_of start ((rows ++ r ∷ []) ++ more) ≡ start_at b r.stamp
start-at-is start rows r None is more =
    ap (λ o. start_of o ((rows ++ r ∷ []) ++ more)) is.0 ∙ ap (λ (rs : List Row). start_of None ((rs ++ r ∷ []) ++ more)) is.1
start-at-is start rows r (Some t) is more = ap (start_of start) (append_assoc rows (r ∷ []) more) ∙ is (r ∷ more)

begin-of : (start : Option ℕ) → IsBegin start [] start
begin-of None = (refl, refl)
begin-of (Some t) = λ more. refl

-- before the first line
pub none-tracked : (start : Option ℕ) (merged : ℕ) → merged ≡ opening_time start
    → Tracks start [] (record { numbers = replicate 64 0; merged = merged; entries = 0; late = 0; rows = 0; begin = start; limit = 0 })
none-tracked start merged is = record {
  numbers_are = λ s low. none-yet s 64;
  merged_is = is;
  entries_are = refl;
  late_are = refl;
  rows_are = refl;
  begin_is = begin-of start;
  limit_is = refl;
}

pub none-tallied : (start : Option ℕ) (merged : ℕ) → IsTallied (record { numbers = replicate 64 0; merged = merged; entries = 0; late = 0; rows = 0; begin = start; limit = 0 })
none-tallied start merged = record { sources = length-replicate {A = ℕ} 64 0; fewer_late = omega arith; fewer_rows = omega arith; limit_low = omega arith }

-- the numbers of sources

module _ (start : Option ℕ) (journal : List Entry) (e : Entry) (t : Tracking) (is : Tracks start journal t) (low : e.row.source < 64) (long : length t.numbers ≡ 64) where
  numbers-more : (s : ℕ) → s < 64 → get_or (set t.numbers e.row.source e.row.number) s 0 ≡ last_number (rows_of s (journal ++ e ∷ []))
  numbers-more s within = go (nat_eq e.row.source s) refl
    where
      all : rows_of s (journal ++ e ∷ []) ≡ rows_of s journal ++ rows_of s (e ∷ [])
      all = rows_of-append s journal (e ∷ [])

      go : (b : Bool) → nat_eq e.row.source s ≡ b → get_or (set t.numbers e.row.source e.row.number) s 0 ≡ last_number (rows_of s (journal ++ e ∷ []))
      go true hit =
          let same : e.row.source ≡ s = eqb-true e.row.source s hit in
          subst (λ k. get_or (set t.numbers e.row.source e.row.number) k 0 ≡ e.row.number) same (get_or-set_same t.numbers e.row.source e.row.number 0 (omega (arith, low, long)))
          ∙ sym (last-more (rows_of s journal) e.row)
          ∙ ap (λ b. last_number (rows_of s journal ++ (if b then e.row ∷ [] else []))) (sym hit)
          ∙ ap last_number (sym all)
      go false miss =
          let off : e.row.source ≢ s = λ same. (let both : true ≡ false = sym (eq-eqb e.row.source s same) ∙ miss in absurd (cc both)) in
          get_or-set_other t.numbers e.row.source s e.row.number 0 (λ same. off (sym same))
          ∙ is.numbers_are s within
          ∙ ap last_number (sym (append-nil (rows_of s journal)))
          ∙ ap (λ b. last_number (rows_of s journal ++ (if b then e.row ∷ [] else []))) (sym miss)
          ∙ ap last_number (sym all)

  pub tracks-more : Tracks start (journal ++ e ∷ []) (noted e t)
  tracks-more = go (length-append journal (e ∷ [])) e.mark refl
    where
      go : length (journal ++ e ∷ []) ≡ length journal + 1 → (m : Mark) → e.mark ≡ m → Tracks start (journal ++ e ∷ []) (numbered_in e.row.source e.row.number (marked_in m e.row.stamp t))
      go count mark.Accepted marked =
          let rows = accepted-append_accepted journal e marked in
          let entries = is.entries_are in
          record {
            numbers_are = numbers-more;
            merged_is = sym (merged_from-append_accepted (opening_time start) journal e marked);
            entries_are = omega (arith, entries, count);
            late_are = is.late_are ∙ sym (late-accepted journal e marked);
            rows_are = (let were = is.rows_are in let longer = length-append (accepted journal) (e.row ∷ []) in let whole = ap (λ (rs : List Row). length rs) rows in omega (arith, were, longer, whole));
            begin_is = λ more. ap (λ (rs : List Row). start_of start (rs ++ more)) rows ∙ start-at-is start (accepted journal) e.row t.begin is.begin_is more;
            limit_is = sym (after-more (accepted journal) e.row) ∙ ap after_last (sym rows);
          }
      go count (mark.Late m) marked =
          let rows = accepted-append_late journal e m marked in
          let entries = is.entries_are in
          record {
            numbers_are = numbers-more;
            merged_is = is.merged_is ∙ sym (merged_from-append_late (opening_time start) journal e m marked);
            entries_are = omega (arith, entries, count);
            late_are = ap (λ n. n + 1) is.late_are ∙ sym (late-late journal e m marked);
            rows_are = is.rows_are ∙ ap (λ (rs : List Row). length rs) (sym rows);
            begin_is = subst (λ (rs : List Row). IsBegin start rs t.begin) (sym rows) is.begin_is;
            limit_is = is.limit_is ∙ ap after_last (sym rows);
          }

pub tallied-more : (e : Entry) (t : Tracking) → e.row.stamp ≤ latest → IsTallied t → IsTallied (noted e t)
tallied-more e t stamp is = go (length-set t.numbers e.row.source e.row.number ∙ is.sources) is.fewer_late is.fewer_rows is.limit_low e.mark
  where
    go : length (set t.numbers e.row.source e.row.number) ≡ 64 → t.late ≤ t.entries → t.rows ≤ t.entries → t.limit ≤ latest + 1 → (m : Mark) → IsTallied (numbered_in e.row.source e.row.number (marked_in m e.row.stamp t))
    go long a b c mark.Accepted = record { sources = long; fewer_late = omega (arith, a); fewer_rows = omega (arith, b); limit_low = omega (arith, stamp) }
    go long a b c (mark.Late m) = record { sources = long; fewer_late = omega (arith, a); fewer_rows = omega (arith, b); limit_low = c }

-- what the test of an entry tells

module _ (plan : Plan) (start : Option ℕ) (journal : List Entry) (e : Entry) (t : Tracking) (is : Tracks start journal t) where
  abbrev IsMarked : ℕ → Mark → Type 0
  IsMarked merged m = elim m [ mark.Accepted ↦ merged ≤ e.row.stamp | mark.Late u ↦ (u ≡ merged) × (e.row.stamp < merged) ]

  marked-yes : (m : Mark) → is_marked t.merged e.row.stamp m ≡ true → IsMarked t.merged m
  marked-yes mark.Accepted hit = leb-true t.merged e.row.stamp hit
  marked-yes (mark.Late u) hit = let p = and_parts (nat_eq u t.merged) (nat_lt e.row.stamp t.merged) hit in (eqb-true u t.merged p.0, ltb-true e.row.stamp t.merged p.1)

  marked-no : (m : Mark) → is_marked t.merged e.row.stamp m ≡ false → ¬ (IsMarked t.merged m)
  marked-no mark.Accepted miss low = let both : true ≡ false = sym (le-leb t.merged e.row.stamp low) ∙ miss in absurd (cc both)
  marked-no (mark.Late u) miss low =
      let both : true ≡ false = sym (and_from (nat_eq u t.merged) (nat_lt e.row.stamp t.merged) (eq-eqb u t.merged low.0) (lt-ltb e.row.stamp t.merged low.1)) ∙ miss in absurd (cc both)

  marked-by : (m : Mark) → e.mark ≡ m → IsMarked t.merged m → IsRightlyMarked (merged_from (opening_time start) journal) e
  marked-by m same marked = subst (λ n. IsMarked n e.mark) is.merged_is (subst (IsMarked t.merged) (sym same) marked)

  -- it is right
  pub right-is : is_right t e ≡ true → (e.row.source < most_sources) × (e.row.number ≡ last_number (rows_of e.row.source journal) + 1) × IsRightlyMarked (merged_from (opening_time start) journal) e
  right-is hit =
      let p = and_parts (nat_lt e.row.source 64) (is_next e.row.number (get_or t.numbers e.row.source 0) && is_marked t.merged e.row.stamp e.mark) hit in
      let q = and_parts (is_next e.row.number (get_or t.numbers e.row.source 0)) (is_marked t.merged e.row.stamp e.mark) p.1 in
      let low : e.row.source < 64 = ltb-true e.row.source 64 p.0 in (
        low,
        eqb-true e.row.number (get_or t.numbers e.row.source 0 + 1) q.0 ∙ ap (λ n. n + 1) (is.numbers_are e.row.source low),
        marked-by e.mark refl (marked-yes e.mark q.1),
      )

  -- its source, its number or its mark is wrong
  pub wrong-is : is_right t e ≡ false → (most_sources ≤ e.row.source) ⊎ (IsMisnumbered plan start journal e ⊎ IsMismarked plan start journal e)
  wrong-is miss = by-source (nat_lt e.row.source 64) refl
    where
      by-mark : is_marked t.merged e.row.stamp e.mark ≡ false → IsMismarked plan start journal e
      by-mark off right = marked-no e.mark off (subst (λ n. IsMarked n e.mark) (sym is.merged_is) right)

      by-number : e.row.source < 64 → (b : Bool) → is_next e.row.number (get_or t.numbers e.row.source 0) ≡ b → (b && is_marked t.merged e.row.stamp e.mark) ≡ false
          → IsMisnumbered plan start journal e ⊎ IsMismarked plan start journal e
      by-number low true is_b off = inr (by-mark off)
      by-number low false is_b off = inl (λ next.
          let hit : is_next e.row.number (get_or t.numbers e.row.source 0) ≡ true =
          eq-eqb e.row.number (get_or t.numbers e.row.source 0 + 1) (next ∙ ap (λ n. n + 1) (sym (is.numbers_are e.row.source low))) in
          let both : true ≡ false = sym hit ∙ is_b in absurd (cc both))

      by-source : (b : Bool) → nat_lt e.row.source 64 ≡ b → (most_sources ≤ e.row.source) ⊎ (IsMisnumbered plan start journal e ⊎ IsMismarked plan start journal e)
      by-source true low =
          inr (by-number (ltb-true e.row.source 64 low) (is_next e.row.number (get_or t.numbers e.row.source 0)) refl
          (ap (λ b. b && (is_next e.row.number (get_or t.numbers e.row.source 0) && is_marked t.merged e.row.stamp e.mark)) (sym low) ∙ miss))
      by-source false high = inl (ltb-false e.row.source 64 high)
