-- The stamps of accepted rows, and the start of a longer journal.
use Rattle.std.proofs.Common.{◌≡◌, refl, ap, sym, ◌∙◌, ℕ, List, [], ◌∷◌, ◌++◌, Option, Some, None, IsSome}
use Rattle.lola_model.specs.Journal.{accepted, merged_from, opening_time, time_after}
use Rattle.lola_model.specs.Steps.{start_of}
use Rattle.lola_model.specs.declared.journal.Entry.{Entry}
use Rattle.lola_model.specs.declared.journal.Mark.{Mark}
use Rattle.lola_model.specs.declared.journal.Mark.TheVariants as mark
use Rattle.lola_model.specs.declared.journal.Row.{Row}
use Rattle.lola_model.proofs.Journals.{accepted_is_row, late_is_none, time_after-accepted, time_after-late}

-- the stamp of the last of these rows, or else this one
abbrev pub last_or : ℕ → List Row → ℕ
last_or m [] = m
last_or m (r ∷ rs) = last_or r.stamp rs

-- the merged time is that of the last accepted row
pub merged_is_last : (m : ℕ) (es : List Entry) → merged_from m es ≡ last_or m (accepted es)
merged_is_last m [] = refl
merged_is_last m (e ∷ es) = go e.mark refl (merged_is_last (time_after m e) es)
  where
    go : (k : Mark) → e.mark ≡ k → merged_from (time_after m e) es ≡ last_or (time_after m e) (accepted es) → merged_from (time_after m e) es ≡ last_or m (accepted (e ∷ es))
    go mark.Accepted q ih = ih ∙ (ap (λ n. last_or n (accepted es)) (time_after-accepted m e q) ∙ ap (last_or m) (sym (accepted_is_row e (accepted es) q)))
    go (mark.Late t) q ih = ih ∙ (ap (λ n. last_or n (accepted es)) (time_after-late m e t q) ∙ ap (last_or m) (sym (late_is_none e (accepted es) t q)))

-- the start of a longer journal
pub start_stays : (given_start : Option ℕ) (rows : List Row) (row : Row) → (rows ≡ [] → IsSome given_start) → start_of given_start (rows ++ row ∷ []) ≡ start_of given_start rows
start_stays (Some t) rows row k = refl
start_stays None [] row k = let e = k refl in absurd (cc)
start_stays None (r ∷ rows) row k = refl

-- where there is a start and no row, it is the merged time
pub opening_is_start : (given_start : Option ℕ) (rows : List Row) → (rows ≡ [] → IsSome given_start) → rows ≡ [] → opening_time given_start ≡ start_of given_start rows
opening_is_start (Some t) rows k e = refl
opening_is_start None rows k e = let f = k e in absurd (cc)
