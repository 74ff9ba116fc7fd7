-- What each call of the merge object under its lock tells, of its seats as those of an intake that threads share.
use Rattle.std.proofs.Common.{◌≡◌, ℕ, Bool, true, false, true≢false, List, [], ◌∷◌, ◌++◌, map, length, refl, sym, ap, ◌∙◌, subst, arith, append_assoc}
use Rattle.std.proofs.lemmas.List.{append-nil, map-append}
use Rattle.atomic_table.specs.Seated.{TableId}
use Rattle.lola_intake.specs.declared.view.Turn.{Turn}
use Rattle.lola_intake.specs.Turns.{Runs, turn_by}
use Rattle.lola_model.specs.Journal.{IsLegalFrom, opening_time}
use Rattle.lola_model.specs.declared.journal.Row.{Row}
use Rattle.lola_model.specs.declared.journal.Entry.{Entry}
use Rattle.lola_merge.specs.declared.state.Offer.{Offer}
use Rattle.lola_merge.specs.declared.state.Offer.TheVariants as reply
use Rattle.lola_merge.specs.declared.state.Take.{Take}
use Rattle.lola_merge.specs.declared.state.Take.TheVariants.{Rows, AllDone, Nothing}
use Rattle.lola_merge.specs.Merging.{Merging, let_in, TakeIsDue, has_finished, sources_of}
use Rattle.lola_merge.proofs.Answering.{take_is_due}
use Rattle.lola_intake.specs.declared.event.Event.{Event}
use Rattle.lola_intake.specs.declared.event.Event.TheVariants.{Offered, Finished, Took, Closed}
use Rattle.lola_intake.specs.declared.event.Setting.{Setting}
use Rattle.lola_intake.specs.Histories.{Changes, IsLegal, entries, has_close, taken}
use Rattle.lola_intake.specs.Intakes.{Shown, Told}
use Rattle.lola_feed.specs.SharedIntakes.{IsAnswered, Takes, after_finish, after_offer}
use Rattle.lola_feed.specs.declared.intake.Finish.TheVariants as finish
use Rattle.lola_feed.specs.LockSeats.{are_in_order, ends_done, has_any_finish, has_met_closed, is_closed, seat_shown, taker_shown}

-- the rows of one call more

entries-append : (xs ys : List Event) → entries (xs ++ ys) ≡ entries xs ++ entries ys
entries-append [] ys = refl
entries-append (Offered row r ∷ es) ys = ap (λ l. let_in row r ++ l) (entries-append es ys) ∙ sym (append_assoc (let_in row r) (entries es) (entries ys))
entries-append (Finished s ∷ es) ys = entries-append es ys
entries-append (Took t rows ∷ es) ys = entries-append es ys
entries-append (Closed ∷ es) ys = entries-append es ys

abbrev rows_of_calls : List Event → List Row
rows_of_calls mine = map (λ (e : Entry). e.row) (entries mine)

rows-append : (xs ys : List Event) → rows_of_calls (xs ++ ys) ≡ rows_of_calls xs ++ rows_of_calls ys
rows-append xs ys = ap (map (λ (e : Entry). e.row)) (entries-append xs ys) ∙ map-append (λ (e : Entry). e.row) (entries xs) (entries ys)

rows-none : (mine : List Event) (e : Event) → rows_of_calls (e ∷ []) ≡ [] → rows_of_calls (mine ++ e ∷ []) ≡ rows_of_calls mine
rows-none mine e none = rows-append mine (e ∷ []) ∙ (ap (λ (l : List Row). rows_of_calls mine ++ l) none ∙ append-nil (rows_of_calls mine))

-- the finishes among them

finish-offered : (xs : List Event) (row : Row) (r : Offer) → has_any_finish (xs ++ Offered row r ∷ []) ≡ has_any_finish xs
finish-offered [] row r = refl
finish-offered (Offered q a ∷ es) row r = finish-offered es row r
finish-offered (Finished s ∷ es) row r = refl
finish-offered (Took t rows ∷ es) row r = finish-offered es row r
finish-offered (Closed ∷ es) row r = finish-offered es row r

finish-finished : (xs : List Event) (s : ℕ) → has_any_finish (xs ++ Finished s ∷ []) ≡ true
finish-finished [] s = refl
finish-finished (Offered q a ∷ es) s = finish-finished es s
finish-finished (Finished q ∷ es) s = refl
finish-finished (Took t rows ∷ es) s = finish-finished es s
finish-finished (Closed ∷ es) s = finish-finished es s

-- where there was none, calls are in order, with one more too
order-none : (xs : List Event) → has_any_finish xs ≡ false → are_in_order xs ≡ true
order-none [] none = refl
order-none (Offered q a ∷ es) none = order-none es none
order-none (Finished q ∷ es) none = absurd (true≢false none)
order-none (Took t rows ∷ es) none = order-none es none
order-none (Closed ∷ es) none = order-none es none

order-offered : (xs : List Event) (row : Row) (r : Offer) → has_any_finish xs ≡ false → are_in_order (xs ++ Offered row r ∷ []) ≡ true
order-offered [] row r none = refl
order-offered (Offered q a ∷ es) row r none = order-offered es row r none
order-offered (Finished q ∷ es) row r none = absurd (true≢false none)
order-offered (Took t rows ∷ es) row r none = order-offered es row r none
order-offered (Closed ∷ es) row r none = order-offered es row r none

order-finished : (xs : List Event) (s : ℕ) → has_any_finish xs ≡ false → are_in_order (xs ++ Finished s ∷ []) ≡ true
order-finished [] s none = refl
order-finished (Offered q a ∷ es) s none = order-finished es s none
order-finished (Finished q ∷ es) s none = absurd (true≢false none)
order-finished (Took t rows ∷ es) s none = order-finished es s none
order-finished (Closed ∷ es) s none = order-finished es s none

-- closed answers among them

always-closed : (r : Offer) → is_closed r true ≡ true
always-closed reply.Accepted = refl
always-closed (reply.Late m) = refl
always-closed (reply.Full q) = refl
always-closed (reply.Closed q) = refl

met-more : (xs : List Event) (row : Row) (r : Offer) → ((b : Bool) → is_closed r b ≡ b) → has_met_closed (xs ++ Offered row r ∷ []) ≡ has_met_closed xs
met-more [] row r other = other false
met-more (Offered q a ∷ es) row r other = ap (is_closed a) (met-more es row r other)
met-more (Finished q ∷ es) row r other = met-more es row r other
met-more (Took t rows ∷ es) row r other = met-more es row r other
met-more (Closed ∷ es) row r other = met-more es row r other

met-now : (xs : List Event) (row back : Row) → has_met_closed (xs ++ Offered row (reply.Closed back) ∷ []) ≡ true
met-now [] row back = refl
met-now (Offered q a ∷ es) row back = ap (is_closed a) (met-now es row back) ∙ always-closed a
met-now (Finished q ∷ es) row back = met-now es row back
met-now (Took t rows ∷ es) row back = met-now es row back
met-now (Closed ∷ es) row back = met-now es row back

met-finished : (xs : List Event) (s : ℕ) → has_met_closed (xs ++ Finished s ∷ []) ≡ has_met_closed xs
met-finished [] s = refl
met-finished (Offered q a ∷ es) s = ap (is_closed a) (met-finished es s)
met-finished (Finished q ∷ es) s = met-finished es s
met-finished (Took t rows ∷ es) s = met-finished es s
met-finished (Closed ∷ es) s = met-finished es s

-- a source's seat

module _ (old new : Shown) (intake : new.intake ≡ old.intake) (source : new.source ≡ old.source) where
  shown-so : (rows : List Row) (finished in_order met : Bool) → rows_of_calls new.mine ≡ rows → has_any_finish new.mine ≡ finished → are_in_order new.mine ≡ in_order → has_met_closed new.mine ≡ met
      → seat_shown new ≡ record { intake = old.intake ∷ []; source = old.source; rows = rows; finished = finished; in_order = in_order; met_closed = met }
  shown-so rows finished in_order met r f o m = λ i. record { intake = intake i ∷ []; source = source i; rows = r i; finished = f i; in_order = o i; met_closed = m i }

  module _ (none : has_any_finish old.mine ≡ false) where
    module _ (row : Row) (r : Offer) (mine : new.mine ≡ old.mine ++ Offered row r ∷ []) where
      still-unfinished : has_any_finish new.mine ≡ has_any_finish old.mine
      still-unfinished = ap has_any_finish mine ∙ finish-offered old.mine row r

      still-in_order : are_in_order new.mine ≡ are_in_order old.mine
      still-in_order = ap are_in_order mine ∙ (order-offered old.mine row r none ∙ sym (order-none old.mine none))

      still-not_met : ((b : Bool) → is_closed r b ≡ b) → has_met_closed new.mine ≡ has_met_closed old.mine
      still-not_met other = ap has_met_closed mine ∙ met-more old.mine row r other

      one-row : rows_of_calls (Offered row r ∷ []) ≡ row ∷ [] → rows_of_calls new.mine ≡ rows_of_calls old.mine ++ row ∷ []
      one-row one = ap rows_of_calls mine ∙ (rows-append old.mine (Offered row r ∷ []) ∙ ap (λ (l : List Row). rows_of_calls old.mine ++ l) one)

      no-row : rows_of_calls (Offered row r ∷ []) ≡ [] → rows_of_calls new.mine ≡ rows_of_calls old.mine
      no-row none_in = ap rows_of_calls mine ∙ rows-none old.mine (Offered row r) none_in

    pub offered : (row : Row) (r : Offer) → new.mine ≡ old.mine ++ Offered row r ∷ [] → seat_shown new ≡ after_offer (seat_shown old) row r
    offered row reply.Accepted mine = shown-so _ _ _ _ (one-row row reply.Accepted mine refl) (still-unfinished row reply.Accepted mine) (still-in_order row reply.Accepted mine) (still-not_met row reply.Accepted mine (λ b. refl))
    offered row (reply.Late m) mine = shown-so _ _ _ _ (one-row row (reply.Late m) mine refl) (still-unfinished row (reply.Late m) mine) (still-in_order row (reply.Late m) mine) (still-not_met row (reply.Late m) mine (λ b. refl))
    offered row (reply.Full q) mine = shown-so _ _ _ _ (no-row row (reply.Full q) mine refl) (still-unfinished row (reply.Full q) mine) (still-in_order row (reply.Full q) mine) (still-not_met row (reply.Full q) mine (λ b. refl))
    offered row (reply.Closed q) mine = shown-so _ _ _ _ (no-row row (reply.Closed q) mine refl) (still-unfinished row (reply.Closed q) mine) (still-in_order row (reply.Closed q) mine) (ap has_met_closed mine ∙ met-now old.mine row q)

    pub finished : (s : ℕ) → new.mine ≡ old.mine ++ Finished s ∷ [] → seat_shown new ≡ after_finish (seat_shown old) finish.Finished
    finished s mine = shown-so _ _ _ _ (ap rows_of_calls mine ∙ rows-none old.mine (Finished s) refl) (ap has_any_finish mine ∙ finish-finished old.mine s)
        (ap are_in_order mine ∙ (order-finished old.mine s none ∙ sym (order-none old.mine none))) (ap has_met_closed mine ∙ met-finished old.mine s)

-- the taker's seat

taken-append : (xs ys : List Event) → taken (xs ++ ys) ≡ taken xs ++ taken ys
taken-append [] ys = refl
taken-append (Offered row r ∷ xs) ys = taken-append xs ys
taken-append (Finished s ∷ xs) ys = taken-append xs ys
taken-append (Took t rows ∷ xs) ys = ap (λ l. rows ++ l) (taken-append xs ys) ∙ sym (append_assoc rows (taken xs) (taken ys))
taken-append (Closed ∷ xs) ys = taken-append xs ys

close-append : (xs : List Event) (e : Event) → has_close (e ∷ []) ≡ false → has_close (xs ++ e ∷ []) ≡ has_close xs
close-append [] e other = other
close-append (Offered row r ∷ xs) e other = close-append xs e other
close-append (Finished s ∷ xs) e other = close-append xs e other
close-append (Took t rows ∷ xs) e other = close-append xs e other
close-append (Closed ∷ xs) e other = refl

close-closed : (xs : List Event) → has_close (xs ++ Closed ∷ []) ≡ true
close-closed [] = refl
close-closed (Offered row r ∷ xs) = close-closed xs
close-closed (Finished s ∷ xs) = close-closed xs
close-closed (Took t rows ∷ xs) = close-closed xs
close-closed (Closed ∷ xs) = refl

done-closed : (xs : List Event) (b : Bool) → ends_done (xs ++ Closed ∷ []) b ≡ ends_done xs b
done-closed [] b = refl
done-closed (Offered row r ∷ xs) b = done-closed xs b
done-closed (Finished s ∷ xs) b = done-closed xs b
done-closed (Took AllDone rows ∷ xs) b = done-closed xs true
done-closed (Took (Rows n) rows ∷ xs) b = done-closed xs false
done-closed (Took Nothing rows ∷ xs) b = done-closed xs false
done-closed (Closed ∷ xs) b = done-closed xs b

abbrev ends_by : Take → Bool
ends_by AllDone = true
ends_by (Rows n) = false
ends_by Nothing = false

done-last : (t : Take) (rows : List Entry) (b : Bool) → ends_done (Took t rows ∷ []) b ≡ ends_by t
done-last AllDone rows b = refl
done-last (Rows n) rows b = refl
done-last Nothing rows b = refl

done-took : (xs : List Event) (t : Take) (rows : List Entry) (b : Bool) → ends_done (xs ++ Took t rows ∷ []) b ≡ ends_by t
done-took [] t rows b = done-last t rows b
done-took (Offered row r ∷ xs) t rows b = done-took xs t rows b
done-took (Finished s ∷ xs) t rows b = done-took xs t rows b
done-took (Took AllDone q ∷ xs) t rows b = done-took xs t rows true
done-took (Took (Rows n) q ∷ xs) t rows b = done-took xs t rows false
done-took (Took Nothing q ∷ xs) t rows b = done-took xs t rows false
done-took (Closed ∷ xs) t rows b = done-took xs t rows b

-- a history is run call by call
pub runs-split : (h : List (Turn Event)) (e : Turn Event) (m n : Merging) → Runs Changes m (h ++ e ∷ []) n → (z : Merging) × Runs Changes m h z × Changes z e n
runs-split [] e m n r = (m, refl, subst (λ (y : Merging). Changes m e y) r.2 r.1)
runs-split (x ∷ h) e m n r = let s = runs-split h e r.0 n r.2 in (s.0, (r.0, r.1, s.1), s.2)

empty : (xs : List Entry) → length xs ≡ 0 → xs ≡ []
empty [] none = refl
empty (x ∷ xs) none = absurd (omega (arith, none))

answered-so : (t : Take) (z : Merging) (rows : List Entry) (done : Bool) → rows ≡ z.pending → done ≡ ends_by t → TakeIsDue (length z.pending) (sources_of z) (has_finished z) t → IsAnswered t rows done
answered-so (Rows n) z rows done are is due = (due.0 ∙ ap length (sym are), due.1)
answered-so AllDone z rows done are is due = (are ∙ empty z.pending due.0, is)
answered-so Nothing z rows done are is due = (are ∙ empty z.pending due.0, is)

-- what a take is answered
answered : (k : Setting) (h : List (Turn Event)) (by : ℕ) (t : Take) (rows : List Entry) (done : Bool) → done ≡ ends_by t → IsLegal k (h ++ turn_by by (Took t rows) ∷ []) → IsAnswered t rows done
answered k h by t rows done is legal =
    let s = runs-split h (turn_by by (Took t rows)) legal.1.0 legal.0 legal.1.2 in
    let d = s.2 in
    answered-so t s.0 rows done d.2 is (subst (λ (r : Take). TakeIsDue (length s.0.pending) (sources_of s.0) (has_finished s.0) r) (sym d.1) (take_is_due s.0))

pub took : (t : Take) (rows : List Entry) (old new : Shown) → Told (Took t rows) old new → IsLegalFrom (opening_time old.setting.start) (taken new.mine) → Takes t rows (taker_shown old) (taker_shown new)
took t rows old new told marked =
    let seen : new.seen ≡ (old.seen ++ told.seen.0) ++ turn_by old.caller (Took t rows) ∷ [] = told.seen.1 in
    record {
      intake = ap (λ (id : TableId). id ∷ []) told.intake;
      sources = ap (λ (k : Setting). k.sources) told.setting;
      start = ap (λ (k : Setting). k.start) told.setting;
      closed = ap has_close told.mine ∙ close-append old.mine (Took t rows) refl;
      taken = ap taken told.mine ∙ (taken-append old.mine (Took t rows ∷ []) ∙ ap (λ l. taken old.mine ++ l) (append-nil rows));
      marked = marked;
      answer = answered old.setting (old.seen ++ told.seen.0) old.caller t rows (ends_done new.mine false) (ap (λ (l : List Event). ends_done l false) told.mine ∙ done-took old.mine t rows false) (subst (IsLegal old.setting) seen told.legal);
    }

pub closed : (old new : Shown) → Told Closed old new → taker_shown new ≡ record (taker_shown old) { closed = true }
closed old new told =
    let taken_is : taken new.mine ≡ taken old.mine = ap taken told.mine ∙ (taken-append old.mine (Closed ∷ []) ∙ append-nil (taken old.mine)) in
    let done_is : ends_done new.mine false ≡ ends_done old.mine false = ap (λ (l : List Event). ends_done l false) told.mine ∙ done-closed old.mine false in
    let closed_is : has_close new.mine ≡ true = ap has_close told.mine ∙ close-closed old.mine in
    λ i. record { intake = told.intake i ∷ []; sources = (told.setting i).sources; start = (told.setting i).start; taken = taken_is i; done = done_is i; closed = closed_is i }
