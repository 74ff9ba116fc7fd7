-- The steps of a run are the only list in their order that has them all.
use Rattle.std.proofs.Common.{◌≡◌, refl, ap, sym, subst, ◌∙◌, ℕ, zero, suc, ◌+◌, ◌-◌, ◌<◌, ◌≤◌, ◌⊎◌, inl, inr, ◌↔◌, List, [], ◌∷◌, ◌++◌, Option, Some, None, true, false, nat_lt, map, arith}
use Rattle.std.proofs.lemmas.Bool.{ltb-true, ltb-false}
use Rattle.std.proofs.lemmas.List.{map-append}
use Rattle.std.proofs.lemmas.List.Elements.{All-contains, Contains-append_left, Contains-append_right, Contains-append_cases}
use Rattle.std.specs.List.{AllPairs, Contains, slice_get}
use Rattle.lola_value.specs.Ratio.{Ratio}
use Rattle.lola_value.specs.Rate.{IsDeadline}
use Rattle.lola_model.proofs.Strictly.{Contains-here, Contains-there, Contains-cases, Contains-none, Contains-map, Contains-map_cases, All-from_members, AllPairs-nil, AllPairs-cons, AllPairs-first, AllPairs-rest, AllPairs-append, same_by_members}
use Rattle.lola_model.proofs.Deadlines.{IsSomeDeadline, deadlines_sound, deadlines_complete, deadlines_rise, Contains-from_in, rate_of_some, some_of_rate}
use Rattle.lola_model.proofs.Journals.{rightly_accepted, accepted_is_row, late_is_none, time_after-accepted, time_after-late}
use Rattle.lola_model.specs.Journal.{opening_time, time_after, IsLegalFrom, IsLegal, add_accepted, accepted}
use Rattle.lola_model.specs.Table.{Step}
use Rattle.lola_model.specs.Steps.{deadline_step, row_step, rates_of, deadlines_between, deadline_steps, steps_from, last_deadline, start_of, all_steps}
use Rattle.lola_model.specs.StepOrder.{AreRates, Origin, OfRow, OfDeadlines, step_of, moment_of, IsFirst, IsBefore, last_stamp, IsDue, IsOrigin, IsSettledOrigin, AreStepsOf, DoNotFall, HasTheSteps}
use Rattle.lola_model.specs.declared.journal.Row.{Row}
use Rattle.lola_model.specs.declared.journal.Entry.{Entry}
use Rattle.lola_model.specs.declared.journal.Mark.{Mark}
use Rattle.lola_model.specs.declared.journal.Mark.TheVariants as mark
use Rattle.lola_model.specs.declared.pacing.ClausePacings.{ClausePacings}

-- the order of origins

-- not both are first
no_first_both : (a b : Origin) → IsFirst a b → IsFirst b a → ⊥
no_first_both (OfRow j q) (OfRow k r) h g = absurd (omega arith)
no_first_both (OfRow j q) (OfDeadlines t) h g = g
no_first_both (OfDeadlines t) b h g = h

-- not both are before the other
pub before_is_strict : (a b : Origin) → IsBefore a b → IsBefore b a → ⊥
before_is_strict a b (inl h) (inl g) = omega arith
before_is_strict a b (inl h) (inr g) = omega (arith, h, g.0)
before_is_strict a b (inr h) (inl g) = omega (arith, g, h.0)
before_is_strict a b (inr h) (inr g) = no_first_both a b h.1 g.1

-- no later, and first of two at one moment
before_by : (a b : Origin) → moment_of a ≤ moment_of b → IsFirst a b → IsBefore a b
before_by a b h g = elim (nat_lt (moment_of a) (moment_of b)) as (λ c. nat_lt (moment_of a) (moment_of b) ≡ c → IsBefore a b) [
  | true ↦ λ q. inl (ltb-true (moment_of a) (moment_of b) q)
  | false ↦ λ q. inr ((let le : moment_of b ≤ moment_of a = ltb-false (moment_of a) (moment_of b) q in omega arith), g)
] refl

-- a list in this order with these members is the only one
pub only_steps : (Origins : Origin → Type 0) (os : List Origin) → AllPairs IsBefore os → ((o : Origin) → Contains os o ↔ Origins o)
    → (steps : List Step) → AreStepsOf Origins steps ↔ (steps ≡ map step_of os)
only_steps Origins os ordered members steps = (
  λ h. h.steps_are ∙ ap (map step_of) (same_by_members IsBefore before_is_strict h.origins os h.ordered ordered
      (λ o c. (members o).1 ((h.members o).0 c)) (λ o c. (h.members o).1 ((members o).0 c))),
  λ e. record { origins = os; ordered = ordered; members = members; steps_are = e },
)

-- stamps

-- from an earlier time on too
DoNotFall-later : (a b : ℕ) (rows : List Row) → a ≤ b → DoNotFall b rows → DoNotFall a rows
DoNotFall-later a b [] le h = tt
DoNotFall-later a b (r ∷ rs) le h = (let k : b ≤ r.stamp = h.0 in omega arith, h.1)

-- no stamp is below the time
stamp_low : (low : ℕ) (rows : List Row) (i : ℕ) (r : Row) → DoNotFall low rows → slice_get rows i ≡ Some r → low ≤ r.stamp
stamp_low low [] i r h e = absurd (cc)
stamp_low low (q ∷ rows) zero r h e = let k : q ≡ r = cc in subst (λ (x : Row). low ≤ x.stamp) k h.0
stamp_low low (q ∷ rows) (suc i) r h e = let k : low ≤ q.stamp = h.0 in let l : q.stamp ≤ r.stamp = stamp_low q.stamp rows i r h.1 e in omega arith

-- the first stamp is at most the last
last_low : (low : ℕ) (r : Row) (rows : List Row) → DoNotFall low (r ∷ rows) → r.stamp ≤ last_stamp (r ∷ rows)
last_low low r [] h = omega arith
last_low low r (q ∷ rows) h = let k : r.stamp ≤ q.stamp = h.1.0 in let l : q.stamp ≤ last_stamp (q ∷ rows) = last_low r.stamp q rows h.1 in omega arith

-- and the last of fewer rows
last_high : (r : Row) (rows : List Row) → last_stamp rows ≤ last_stamp (r ∷ rows)
last_high r [] = omega arith
last_high r (q ∷ rows) = omega arith

-- no stamp is above the last
stamp_high : (low : ℕ) (rows : List Row) (i : ℕ) (r : Row) → DoNotFall low rows → slice_get rows i ≡ Some r → r.stamp ≤ last_stamp rows
stamp_high low [] i r h e = absurd (cc)
stamp_high low (q ∷ rows) zero r h e = let k : q ≡ r = cc in subst (λ (x : Row). x.stamp ≤ last_stamp (q ∷ rows)) k (last_low low q rows h)
stamp_high low (q ∷ rows) (suc i) r h e =
    let k : r.stamp ≤ last_stamp rows = stamp_high q.stamp rows i r h.1 e in let l : last_stamp rows ≤ last_stamp (q ∷ rows) = last_high q rows in omega arith

module _ (rates : List Ratio) (start : ℕ) (positive : AreRates rates) where
  -- the origins of deadlines between two offsets
  abbrev due_origins : ℕ → ℕ → List Origin
  due_origins passed limit = map (λ t. OfDeadlines (start + t)) (deadlines_between rates passed limit)

  -- the origins of the steps that are made, in the order in which they are made
  abbrev origins_from : ℕ → ℕ → List Row → List Origin
  origins_from place passed [] = []
  origins_from place passed (r ∷ rs) = due_origins passed (r.stamp - start) ++ (OfRow place r ∷ origins_from (place + 1) (r.stamp - start - 1) rs)

  -- the origin of the deadline at the last stamp, if there is one
  abbrev last_origins : List Row → List Origin
  last_origins [] = []
  last_origins (r ∷ []) = due_origins (r.stamp - start - 1) (r.stamp - start + 1)
  last_origins (r ∷ q ∷ rs) = last_origins (q ∷ rs)

  -- their steps
  due_steps : (ts : List ℕ) → map step_of (map (λ t. OfDeadlines (start + t)) ts) ≡ map (λ t. deadline_step (start + t)) ts
  due_steps [] = refl
  due_steps (t ∷ ts) = ap (λ ss. deadline_step (start + t) ∷ ss) (due_steps ts)

  -- the steps of the origins are the steps that are made
  steps_of_origins : (place passed : ℕ) (rows : List Row) → map step_of (origins_from place passed rows) ≡ steps_from rates start passed rows
  steps_of_origins place passed [] = refl
  steps_of_origins place passed (r ∷ rs) =
      map-append step_of (due_origins passed (r.stamp - start)) (OfRow place r ∷ origins_from (place + 1) (r.stamp - start - 1) rs)
      ∙ (ap (λ ss. ss ++ map step_of (OfRow place r ∷ origins_from (place + 1) (r.stamp - start - 1) rs)) (due_steps (deadlines_between rates passed (r.stamp - start)))
      ∙ ap (λ ss. deadline_steps rates start passed (r.stamp - start) ++ (row_step r ∷ ss)) (steps_of_origins (place + 1) (r.stamp - start - 1) rs))

  -- and so is the step of the last
  steps_of_last : (rows : List Row) → map step_of (last_origins rows) ≡ last_deadline rates start rows
  steps_of_last [] = refl
  steps_of_last (r ∷ []) = due_steps (deadlines_between rates (r.stamp - start - 1) (r.stamp - start + 1))
  steps_of_last (r ∷ q ∷ rs) = steps_of_last (q ∷ rs)

  -- a deadline after one offset and before a moment
  record IsDeadlineAt (passed t : ℕ) : Type 0 where
    pub offset : ℕ
    pub at : t ≡ start + offset
    pub some : IsSomeDeadline rates offset
    pub above : passed < offset

  -- what the steps of these rows come from, where rows are numbered from `place` and deadlines up to an offset are passed
  abbrev IsOf : ℕ → ℕ → List Row → Origin → Type 0
  IsOf place passed rows (OfRow k r) = (i : ℕ) × (k ≡ place + i) × (slice_get rows i ≡ Some r)
  IsOf place passed rows (OfDeadlines t) = IsDeadlineAt passed t × (t < last_stamp rows)

  -- each is of a deadline between the two offsets
  due_is : (passed limit : ℕ) (o : Origin) → Contains (due_origins passed limit) o
      → (t : ℕ) × (OfDeadlines (start + t) ≡ o) × IsSomeDeadline rates t × (passed < t) × (t < limit)
  due_is passed limit o c =
      let w : (t : ℕ) × Contains (deadlines_between rates passed limit) t × (OfDeadlines (start + t) ≡ o) = Contains-map_cases (λ t. OfDeadlines (start + t)) (deadlines_between rates passed limit) o c in
      let s : IsSomeDeadline rates w.0 × (passed < w.0) × (w.0 < limit) = deadlines_sound rates passed limit w.0 positive w.1 in
      (w.0, w.2, s.0, s.1, s.2)

  -- and each such deadline is among them
  is_due : (passed limit t : ℕ) → IsSomeDeadline rates t → passed < t → t < limit → Contains (due_origins passed limit) (OfDeadlines (start + t))
  is_due passed limit t d above below =
      Contains-map (λ t. OfDeadlines (start + t)) (deadlines_between rates passed limit) t
      (Contains-from_in t (deadlines_between rates passed limit) (deadlines_complete rates passed limit t positive d above below))

  -- a deadline before the first row
  due_of : (low place passed : ℕ) (r : Row) (rows : List Row) (o : Origin) → DoNotFall low (r ∷ rows) → Contains (due_origins passed (r.stamp - start)) o → IsOf place passed (r ∷ rows) o
  due_of low place passed r rows (OfRow k q) h c = let w = due_is passed (r.stamp - start) (OfRow k q) c in absurd (cc (w.1))
  due_of low place passed r rows (OfDeadlines t) h c =
      let w = due_is passed (r.stamp - start) (OfDeadlines t) c in
      let e : start + w.0 ≡ t = cc (w.1) in
      let below : w.0 < r.stamp - start = w.4 in
      let last : r.stamp ≤ last_stamp (r ∷ rows) = last_low low r rows h in
      (record { offset = w.0; at = sym e; some = w.2; above = w.3 }, omega arith)

  -- the first row
  row_of : (place passed : ℕ) (r : Row) (rows : List Row) (o : Origin) → OfRow place r ≡ o → IsOf place passed (r ∷ rows) o
  row_of place passed r rows o e = subst (λ x. IsOf place passed (r ∷ rows) x) e (0, omega arith, refl)

  -- what comes of the rows behind it
  rest_of : (place passed : ℕ) (r : Row) (rows : List Row) (o : Origin) → passed ≤ r.stamp - start - 1 → IsOf (place + 1) (r.stamp - start - 1) rows o → IsOf place passed (r ∷ rows) o
  rest_of place passed r rows (OfRow k q) le w = (suc w.0, omega (arith, w.1), w.2)
  rest_of place passed r rows (OfDeadlines t) le w =
      let d = w.0 in
      let above : r.stamp - start - 1 < d.offset = d.above in
      let last : last_stamp rows ≤ last_stamp (r ∷ rows) = last_high r rows in
      (record { offset = d.offset; at = d.at; some = d.some; above = omega arith }, omega (arith, w.1))

  -- the made origins are such
  members_sound : (low place passed : ℕ) (rows : List Row) → start ≤ low → passed ≤ low - start - 1 → DoNotFall low rows → (o : Origin) → Contains (origins_from place passed rows) o → IsOf place passed rows o
  members_sound low place passed [] from le h o c = absurd (Contains-none o c)
  members_sound low place passed (r ∷ rows) from le h o c =
      let rise : low ≤ r.stamp = h.0 in
      let on : passed ≤ r.stamp - start - 1 = omega arith in
      cases (Contains-append_cases (due_origins passed (r.stamp - start)) (OfRow place r ∷ origins_from (place + 1) (r.stamp - start - 1) rows) o c)
      (λ d. rest_of place passed r rows o on (members_sound r.stamp (place + 1) (r.stamp - start - 1) rows (omega arith) (omega arith) h.1 o d))
    where
      cases : Contains (due_origins passed (r.stamp - start)) o ⊎ Contains (OfRow place r ∷ origins_from (place + 1) (r.stamp - start - 1) rows) o
          → (Contains (origins_from (place + 1) (r.stamp - start - 1) rows) o → IsOf place passed (r ∷ rows) o) → IsOf place passed (r ∷ rows) o
      cases (inl d) more = due_of low place passed r rows o h d
      cases (inr d) more = elim (Contains-cases (OfRow place r) o (origins_from (place + 1) (r.stamp - start - 1) rows) d) [ inl e ↦ row_of place passed r rows o e | inr q ↦ more q ]

  -- the first row and what is before it, or the rest
  in_rest_of : (place passed : ℕ) (r : Row) (rows : List Row) (k : ℕ) (q : Row) (i : ℕ) → k ≡ place + i → slice_get (r ∷ rows) i ≡ Some q
      → (OfRow place r ≡ OfRow k q) ⊎ IsOf (place + 1) (r.stamp - start - 1) rows (OfRow k q)
  in_rest_of place passed r rows k q zero e f = let a : place ≡ k = omega arith in let b : r ≡ q = cc in inl (cc)
  in_rest_of place passed r rows k q (suc i) e f = inr (i, omega arith, f)

  -- a moment below the last stamp and not below the first row
  below_last : (r : Row) (rows : List Row) (t : ℕ) → t < last_stamp (r ∷ rows) → r.stamp ≤ t → t < last_stamp rows
  below_last r [] t h g = absurd (omega arith)
  below_last r (q ∷ rows) t h g = h

  -- a deadline that is not before the first row
  later_than : (place passed : ℕ) (r : Row) (rows : List Row) (t : ℕ) (d : IsDeadlineAt passed t) → start ≤ r.stamp → r.stamp - start ≤ d.offset → t < last_stamp (r ∷ rows)
      → IsOf (place + 1) (r.stamp - start - 1) rows (OfDeadlines t)
  later_than place passed r rows t d from on below =
      let at : t ≡ start + d.offset = d.at in
      let above : passed < d.offset = d.above in
      (record { offset = d.offset; at = d.at; some = d.some; above = omega arith }, below_last r rows t below (omega arith))

  -- and such origins are made
  members_complete : (low place passed : ℕ) (rows : List Row) → start ≤ low → DoNotFall low rows → (o : Origin) → IsOf place passed rows o → Contains (origins_from place passed rows) o
  members_complete low place passed [] from h (OfRow k q) w = absurd (cc (w.2))
  members_complete low place passed [] from h (OfDeadlines t) w = absurd (omega (arith, w.1))
  members_complete low place passed (r ∷ rows) from h (OfRow k q) w =
      Contains-append_right (due_origins passed (r.stamp - start)) _ (OfRow k q)
      (cases (in_rest_of place passed r rows k q w.0 w.1 w.2) (members_complete r.stamp (place + 1) (r.stamp - start - 1) rows (let l : low ≤ r.stamp = h.0 in omega arith) h.1 (OfRow k q)))
    where
      cases : (OfRow place r ≡ OfRow k q) ⊎ IsOf (place + 1) (r.stamp - start - 1) rows (OfRow k q)
          → (IsOf (place + 1) (r.stamp - start - 1) rows (OfRow k q) → Contains (origins_from (place + 1) (r.stamp - start - 1) rows) (OfRow k q))
          → Contains (OfRow place r ∷ origins_from (place + 1) (r.stamp - start - 1) rows) (OfRow k q)
      cases (inl e) more = subst (λ x. Contains (OfRow place r ∷ origins_from (place + 1) (r.stamp - start - 1) rows) x) e (Contains-here _ _)
      cases (inr v) more = Contains-there _ _ _ (more v)
  members_complete low place passed (r ∷ rows) from h (OfDeadlines t) w =
      let d = w.0 in
      let l : low ≤ r.stamp = h.0 in
      elim (nat_lt d.offset (r.stamp - start)) as (λ b. nat_lt d.offset (r.stamp - start) ≡ b → Contains (origins_from place passed (r ∷ rows)) (OfDeadlines t)) [
        | true ↦ λ q. Contains-append_left (due_origins passed (r.stamp - start)) _ (OfDeadlines t)
            (subst (λ x. Contains (due_origins passed (r.stamp - start)) (OfDeadlines x)) (sym d.at) (is_due passed (r.stamp - start) d.offset d.some d.above (ltb-true _ _ q)))
        | false ↦ λ q. Contains-append_right (due_origins passed (r.stamp - start)) _ (OfDeadlines t)
            (Contains-there (OfRow place r) (OfDeadlines t) _ (members_complete r.stamp (place + 1) (r.stamp - start - 1) rows (omega arith) h.1 (OfDeadlines t)
            (later_than place passed r rows t d (omega arith) (ltb-false _ _ q) w.1)))
      ] refl

  -- the deadlines of one stretch are in order
  due_in_order : (ts : List ℕ) → AllPairs (λ (a b : ℕ). a < b) ts → AllPairs IsBefore (map (λ t. OfDeadlines (start + t)) ts)
  due_in_order [] h = AllPairs-nil IsBefore
  due_in_order (t ∷ ts) h =
      AllPairs-cons IsBefore (OfDeadlines (start + t)) (map (λ x. OfDeadlines (start + x)) ts)
      (All-from_members (IsBefore (OfDeadlines (start + t))) (map (λ x. OfDeadlines (start + x)) ts) (λ o c.
      let w : (x : ℕ) × Contains ts x × (OfDeadlines (start + x) ≡ o) = Contains-map_cases (λ x. OfDeadlines (start + x)) ts o c in
      let lt : t < w.0 = All-contains (λ x. t < x) ts w.0 (AllPairs-first (λ (a b : ℕ). a < b) t ts h) w.1 in
      subst (λ x. IsBefore (OfDeadlines (start + t)) x) w.2 (inl (omega arith))))
      (due_in_order ts (AllPairs-rest (λ (a b : ℕ). a < b) t ts h))

  -- a row is before all that comes of the rows behind it
  row_before : (place : ℕ) (r : Row) (rows : List Row) → start ≤ r.stamp → DoNotFall r.stamp rows → (o : Origin) → IsOf (place + 1) (r.stamp - start - 1) rows o → IsBefore (OfRow place r) o
  row_before place r rows from h (OfRow k q) w = before_by (OfRow place r) (OfRow k q) (stamp_low r.stamp rows w.0 q h w.2) (omega (arith, w.1))
  row_before place r rows from h (OfDeadlines t) w =
      let d = w.0 in
      let at : t ≡ start + d.offset = d.at in
      let above : r.stamp - start - 1 < d.offset = d.above in
      before_by (OfRow place r) (OfDeadlines t) (omega arith) tt

  -- a deadline below a row's stamp is before the row, and before all behind it
  due_before : (place passed : ℕ) (r : Row) (rows : List Row) → start ≤ r.stamp → DoNotFall r.stamp rows → (a b : Origin) → Contains (due_origins passed (r.stamp - start)) a
      → (OfRow place r ≡ b) ⊎ IsOf (place + 1) (r.stamp - start - 1) rows b → IsBefore a b
  due_before place passed r rows from h a b c w =
      let u = due_is passed (r.stamp - start) a c in
      let below : u.0 < r.stamp - start = u.4 in
      let later : r.stamp ≤ moment_of b = not_before b w in
      subst (λ x. IsBefore x b) u.1 (inl (omega arith))
    where
      not_before : (o : Origin) → (OfRow place r ≡ o) ⊎ IsOf (place + 1) (r.stamp - start - 1) rows o → r.stamp ≤ moment_of o
      not_before o (inl e) = subst (λ x. r.stamp ≤ moment_of x) e (omega arith)
      not_before (OfRow k q) (inr v) = stamp_low r.stamp rows v.0 q h v.2
      not_before (OfDeadlines t) (inr v) =
          let d = v.0 in
          let at : t ≡ start + d.offset = d.at in
          let above : r.stamp - start - 1 < d.offset = d.above in
          omega arith

  -- the made origins are in order
  made_in_order : (low place passed : ℕ) (rows : List Row) → start ≤ low → DoNotFall low rows → AllPairs IsBefore (origins_from place passed rows)
  made_in_order low place passed [] from h = AllPairs-nil IsBefore
  made_in_order low place passed (r ∷ rows) from h =
      let l : low ≤ r.stamp = h.0 in
      let on : start ≤ r.stamp = omega arith in
      let sound : (o : Origin) → Contains (origins_from (place + 1) (r.stamp - start - 1) rows) o → IsOf (place + 1) (r.stamp - start - 1) rows o =
      λ o c. members_sound r.stamp (place + 1) (r.stamp - start - 1) rows on (omega arith) h.1 o c in
      AllPairs-append IsBefore (due_origins passed (r.stamp - start)) (OfRow place r ∷ origins_from (place + 1) (r.stamp - start - 1) rows)
      (due_in_order (deadlines_between rates passed (r.stamp - start)) (deadlines_rise rates passed (r.stamp - start) positive))
      (AllPairs-cons IsBefore (OfRow place r) (origins_from (place + 1) (r.stamp - start - 1) rows)
      (All-from_members (IsBefore (OfRow place r)) (origins_from (place + 1) (r.stamp - start - 1) rows) (λ o c. row_before place r rows on h.1 o (sound o c)))
      (made_in_order r.stamp (place + 1) (r.stamp - start - 1) rows on h.1))
      (λ a b c e. due_before place passed r rows on h.1 a b c (tail_of b (sound b) (Contains-cases (OfRow place r) b (origins_from (place + 1) (r.stamp - start - 1) rows) e)))
    where
      tail_of : (b : Origin) → (Contains (origins_from (place + 1) (r.stamp - start - 1) rows) b → IsOf (place + 1) (r.stamp - start - 1) rows b)
          → (OfRow place r ≡ b) ⊎ Contains (origins_from (place + 1) (r.stamp - start - 1) rows) b → (OfRow place r ≡ b) ⊎ IsOf (place + 1) (r.stamp - start - 1) rows b
      tail_of b sound (inl e) = inl e
      tail_of b sound (inr c) = inr (sound c)

  -- the deadline at the last stamp
  record IsLastDeadline (rows : List Row) (o : Origin) : Type 0 where
    pub offset : ℕ
    pub origin : OfDeadlines (start + offset) ≡ o
    pub some : IsSomeDeadline rates offset
    pub above : 0 < offset
    pub last : start + offset ≡ last_stamp rows

  -- the last is a deadline at the last stamp
  last_sound : (low : ℕ) (rows : List Row) → start ≤ low → DoNotFall low rows → (o : Origin) → Contains (last_origins rows) o → IsLastDeadline rows o
  last_sound low [] from h o c = absurd (Contains-none o c)
  last_sound low (r ∷ []) from h o c =
      let w = due_is (r.stamp - start - 1) (r.stamp - start + 1) o c in
      let l : low ≤ r.stamp = h.0 in
      let above : r.stamp - start - 1 < w.0 = w.3 in
      let below : w.0 < r.stamp - start + 1 = w.4 in
      record { offset = w.0; origin = w.1; some = w.2; above = omega arith; last = omega arith }
  last_sound low (r ∷ q ∷ rows) from h o c =
      let l : low ≤ r.stamp = h.0 in
      let w = last_sound r.stamp (q ∷ rows) (omega arith) h.1 o c in
      record { offset = w.offset; origin = w.origin; some = w.some; above = w.above; last = w.last }

  -- and such a deadline is the last
  last_complete : (rows : List Row) (d : ℕ) → IsSomeDeadline rates d → 0 < d → start + d ≡ last_stamp rows → Contains (last_origins rows) (OfDeadlines (start + d))
  last_complete [] d some above e = absurd (omega arith)
  last_complete (r ∷ []) d some above e = is_due (r.stamp - start - 1) (r.stamp - start + 1) d some (omega arith) (omega arith)
  last_complete (r ∷ q ∷ rows) d some above e = last_complete (q ∷ rows) d some above e

  -- it is alone
  last_in_order : (rows : List Row) → AllPairs IsBefore (last_origins rows)
  last_in_order [] = AllPairs-nil IsBefore
  last_in_order (r ∷ []) = due_in_order (deadlines_between rates (r.stamp - start - 1) (r.stamp - start + 1)) (deadlines_rise rates (r.stamp - start - 1) (r.stamp - start + 1) positive)
  last_in_order (r ∷ q ∷ rows) = last_in_order (q ∷ rows)

  -- all others are before it
  before_last : (low : ℕ) (rows : List Row) → DoNotFall low rows → (a b : Origin) → IsOf 0 0 rows a → IsLastDeadline rows b → IsBefore a b
  before_last low rows h (OfRow k q) b w v =
      let high : q.stamp ≤ last_stamp rows = stamp_high low rows w.0 q h w.2 in
      let e : start + v.offset ≡ last_stamp rows = v.last in
      subst (λ x. IsBefore (OfRow k q) x) v.origin (before_by (OfRow k q) (OfDeadlines (start + v.offset)) (omega arith) tt)
  before_last low rows h (OfDeadlines t) b w v =
      let below : t < last_stamp rows = w.1 in
      let e : start + v.offset ≡ last_stamp rows = v.last in
      subst (λ x. IsBefore (OfDeadlines t) x) v.origin (inl (omega arith))

  -- with it they are in order
  all_in_order : (rows : List Row) → DoNotFall start rows → AllPairs IsBefore (origins_from 0 0 rows ++ last_origins rows)
  all_in_order rows h =
      AllPairs-append IsBefore (origins_from 0 0 rows) (last_origins rows) (made_in_order start 0 0 rows (omega arith) h) (last_in_order rows)
      (λ a b c e. before_last start rows h a b (members_sound start 0 0 rows (omega arith) (omega arith) h a c) (last_sound start rows (omega arith) h b e))

-- from origins as they are made to origins as they are said
module _ (pacings : List ClausePacings) (start : ℕ) (positive : AreRates (rates_of pacings)) where
  -- a deadline above the start is due
  due_by : (t : ℕ) → IsDeadlineAt (rates_of pacings) start positive 0 t → IsDue pacings start t
  due_by t d =
      let at : t ≡ start + d.offset = d.at in
      let above : 0 < d.offset = d.above in
      let e : t - start ≡ d.offset = omega arith in
      let w = rate_of_some (rates_of pacings) d.offset d.some in
      record { rate = w.0; listed = w.1; later = omega arith; deadline = subst (λ x. IsDeadline w.0 x) (sym e) w.2 }

  -- and back
  by_due : (t : ℕ) → IsDue pacings start t → IsDeadlineAt (rates_of pacings) start positive 0 t
  by_due t d =
      let later : start < t = d.later in
      record { offset = t - start; at = omega arith; some = some_of_rate (rates_of pacings) d.rate (t - start) d.listed d.deadline; above = omega arith }

  -- without the deadline at the last stamp
  settled_members : (rows : List Row) → DoNotFall start rows → (o : Origin) → Contains (origins_from (rates_of pacings) start positive 0 0 rows) o ↔ IsSettledOrigin pacings start rows o
  settled_members rows h o = (
    λ c. said o (members_sound (rates_of pacings) start positive start 0 0 rows (omega arith) (omega arith) h o c),
    λ w. members_complete (rates_of pacings) start positive start 0 0 rows (omega arith) h o (made o w),
  )
    where
      said : (o : Origin) → IsOf (rates_of pacings) start positive 0 0 rows o → IsSettledOrigin pacings start rows o
      said (OfRow k q) w = let e : w.0 ≡ k = omega (arith, w.1) in subst (λ x. slice_get rows x ≡ Some q) e w.2
      said (OfDeadlines t) w = (due_by t w.0, w.1)

      made : (o : Origin) → IsSettledOrigin pacings start rows o → IsOf (rates_of pacings) start positive 0 0 rows o
      made (OfRow k q) w = (k, omega arith, w)
      made (OfDeadlines t) w = (by_due t w.0, w.1)

  -- with it
  all_members : (rows : List Row) → DoNotFall start rows → (o : Origin)
      → Contains (origins_from (rates_of pacings) start positive 0 0 rows ++ last_origins (rates_of pacings) start positive rows) o ↔ IsOrigin pacings start rows o
  all_members rows h o = (
    λ c. said o (Contains-append_cases (origins_from (rates_of pacings) start positive 0 0 rows) (last_origins (rates_of pacings) start positive rows) o c),
    λ w. made o w,
  )
    where
      said : (o : Origin) → Contains (origins_from (rates_of pacings) start positive 0 0 rows) o ⊎ Contains (last_origins (rates_of pacings) start positive rows) o → IsOrigin pacings start rows o
      said (OfRow k q) (inl c) = (settled_members rows h (OfRow k q)).0 c
      said (OfRow k q) (inr c) =
          let w = last_sound (rates_of pacings) start positive start rows (omega arith) h (OfRow k q) c in absurd (cc (w.origin))
      said (OfDeadlines t) (inl c) = let w = (settled_members rows h (OfDeadlines t)).0 c in (w.0, let lt : t < last_stamp rows = w.1 in omega arith)
      said (OfDeadlines t) (inr c) =
          let w = last_sound (rates_of pacings) start positive start rows (omega arith) h (OfDeadlines t) c in
          let e : start + w.offset ≡ t = cc (w.origin) in
          let last : start + w.offset ≡ last_stamp rows = w.last in
          (due_by t (record { offset = w.offset; at = sym e; some = w.some; above = w.above }), omega arith)

      made : (o : Origin) → IsOrigin pacings start rows o → Contains (origins_from (rates_of pacings) start positive 0 0 rows ++ last_origins (rates_of pacings) start positive rows) o
      made (OfRow k q) w = Contains-append_left (origins_from (rates_of pacings) start positive 0 0 rows) _ (OfRow k q) ((settled_members rows h (OfRow k q)).1 w)
      made (OfDeadlines t) w =
          let le : t ≤ last_stamp rows = w.1 in
          elim (nat_lt t (last_stamp rows)) as (λ b. nat_lt t (last_stamp rows) ≡ b → Contains (origins_from (rates_of pacings) start positive 0 0 rows ++ last_origins (rates_of pacings) start positive rows) (OfDeadlines t)) [
            | true ↦ λ q. Contains-append_left (origins_from (rates_of pacings) start positive 0 0 rows) _ (OfDeadlines t) ((settled_members rows h (OfDeadlines t)).1 (w.0, ltb-true t (last_stamp rows) q))
            | false ↦ λ q.
                let d = by_due t w.0 in
                let at : t ≡ start + d.offset = d.at in
                let not_below : last_stamp rows ≤ t = ltb-false t (last_stamp rows) q in
                Contains-append_right (origins_from (rates_of pacings) start positive 0 0 rows) _ (OfDeadlines t)
                (subst (λ x. Contains (last_origins (rates_of pacings) start positive rows) (OfDeadlines x)) (sym at)
                (last_complete (rates_of pacings) start positive rows d.offset d.some d.above (omega arith)))
          ] refl

-- the accepted rows of a legal journal have stamps that do not fall

-- from a merged time on
legal_rows : (merged : ℕ) (es : List Entry) → IsLegalFrom merged es → DoNotFall merged (accepted es)
legal_rows merged [] h = tt
legal_rows merged (e ∷ es) h = go e.mark refl (legal_rows (time_after merged e) es h.1)
  where
    go : (k : Mark) → e.mark ≡ k → DoNotFall (time_after merged e) (accepted es) → DoNotFall merged (add_accepted e (accepted es))
    go mark.Accepted q more =
        subst (λ rows. DoNotFall merged rows) (sym (accepted_is_row e (accepted es) q))
        (rightly_accepted merged e q h.0, subst (λ t. DoNotFall t (accepted es)) (time_after-accepted merged e q) more)
    go (mark.Late t) q more =
        subst (λ rows. DoNotFall merged rows) (sym (late_is_none e (accepted es) t q))
        (subst (λ s. DoNotFall s (accepted es)) (time_after-late merged e t q) more)

-- of the whole journal
pub legal_do_not_fall : (start : Option ℕ) (journal : List Entry) → IsLegal start journal → DoNotFall (opening_time start) (accepted journal)
legal_do_not_fall start journal h = legal_rows (opening_time start) journal h

-- none of them is below the start
pub from_start : (start : Option ℕ) (rows : List Row) → DoNotFall (opening_time start) rows → DoNotFall (start_of start rows) rows
from_start (Some t) rows h = h
from_start None [] h = tt
from_start None (r ∷ rows) h = (omega arith, h.1)

-- the law
pub has_the_steps : (pacings : List ClausePacings) → AreRates (rates_of pacings) → HasTheSteps pacings
has_the_steps pacings positive = record {
  all = λ start rows h steps.
      let begin = start_of start rows in
      let rates = rates_of pacings in
      let low : DoNotFall begin rows = from_start start rows h in
      let e : map step_of (origins_from rates begin positive 0 0 rows ++ last_origins rates begin positive rows) ≡ all_steps pacings start rows =
      map-append step_of (origins_from rates begin positive 0 0 rows) (last_origins rates begin positive rows)
      ∙ (ap (λ ss. ss ++ map step_of (last_origins rates begin positive rows)) (steps_of_origins rates begin positive 0 0 rows)
      ∙ ap (λ ss. steps_from rates begin 0 rows ++ ss) (steps_of_last rates begin positive rows)) in
      subst (λ ss. AreStepsOf (IsOrigin pacings begin rows) steps ↔ (steps ≡ ss)) e
      (only_steps (IsOrigin pacings begin rows) _ (all_in_order rates begin positive rows low) (all_members pacings begin positive rows low) steps);
  settled = λ start rows h steps.
      let begin = start_of start rows in
      let rates = rates_of pacings in
      let low : DoNotFall begin rows = from_start start rows h in
      subst (λ ss. AreStepsOf (IsSettledOrigin pacings begin rows) steps ↔ (steps ≡ ss)) (steps_of_origins rates begin positive 0 0 rows)
      (only_steps (IsSettledOrigin pacings begin rows) _ (made_in_order rates begin positive begin 0 0 rows (omega arith) low) (settled_members pacings begin positive rows low) steps);
  legal = legal_do_not_fall;
}
