-- Each turn keeps what every order of turns has.
use Rattle.std.proofs.Common.{◌≡◌, ◌≢◌, ◌<◌, ℕ, zero, suc, true≢false, List, [], ◌∷◌, ◌++◌, cond, length, length-append, eq-eqb, ne_eqb, set, get_or-set_same, get_or-set_other, append_assoc, append-nil, Option, refl, sym, ap, ◌∙◌, subst, arith}
use mathlib.Core.Logic.{dite}
use native.Mathlib.Decide.{ℕ_discrete}
use Rattle.lola_model.specs.Journal.{opening_time, IsLegalFrom, merged_from, rows_of}
use Rattle.lola_model.specs.declared.journal.Row.{Row}
use Rattle.lola_model.specs.declared.journal.Entry.{Entry}
use Rattle.lola_model.specs.declared.journal.Mark.{Mark}
use Rattle.lola_model.specs.declared.journal.Mark.TheVariants as mark
use Rattle.lola_model.proofs.Journals.{merged_from-append, IsLegalFrom-append, rows_of-append}
use Rattle.lola_merge.specs.declared.state.Offer.{Offer}
use Rattle.lola_merge.specs.declared.state.Offer.TheVariants.{Accepted, Late, Full, Closed}
use Rattle.lola_merge.specs.declared.world.Actor.{Actor}
use Rattle.lola_merge.specs.declared.world.Actor.TheVariants.{Source, Engine}
use Rattle.lola_merge.specs.Merging.{marked, offer_reply}
use Rattle.lola_merge.specs.Interleaving.{Situation, beginning, list_of, after_reply, after_source, after_turn, run, AreOf, StandRight, Interleaves, EveryOrderInterleaves}
use Rattle.lola_merge.proofs.Answering.{OfferFits, offer_is_due, let_in_legal}

-- a list that has a row is there
pub within : (lists : List (List Row)) (s : ℕ) (row : Row) (rows : List Row) → list_of lists s ≡ row ∷ rows → s < length lists
within [] s row rows e = absurd (cc)
within (x ∷ lists) zero row rows e = omega arith
within (x ∷ lists) (suc s) row rows e = let l = within lists s row rows e in omega arith

-- what is left of a source's rows is of that source
pub AreOf-right : (s : ℕ) (xs ys : List Row) → AreOf s (xs ++ ys) → AreOf s ys
AreOf-right s [] ys a = a
AreOf-right s (x ∷ xs) ys a = AreOf-right s xs ys a.1

-- so the rows to come stand right
pub still_right : (lists : List (List Row)) (start : Option ℕ) (w : Situation) → StandRight lists → Interleaves lists start w → StandRight w.to_come
still_right lists start w right i s = AreOf-right s (rows_of s (w.taken ++ w.merging.pending)) (list_of w.to_come s) (subst (AreOf s) (sym (i.rows s)) (right s))

-- the rows of one source in one entry
rows_of_own : (row : Row) (m : Mark) (s : ℕ) → row.source ≡ s → rows_of s (marked row m ∷ []) ≡ row ∷ []
rows_of_own row m s e = ap (λ b. cond b (row ∷ []) []) (eq-eqb row.source s e)

rows_of_other : (row : Row) (m : Mark) (s : ℕ) → row.source ≢ s → rows_of s (marked row m ∷ []) ≡ []
rows_of_other row m s n = ap (λ b. cond b (row ∷ []) []) (ne_eqb row.source s n)

module _ (lists : List (List Row)) (start : Option ℕ) (right : StandRight lists) (w : Situation) (i : Interleaves lists start w) where
  abbrev journal : List Entry
  journal = w.taken ++ w.merging.pending

  -- a row is let in with a mark
  let_in_keeps : (s : ℕ) (row : Row) (rows : List Row) (m : Mark) (t : ℕ) → list_of w.to_come s ≡ row ∷ rows → length w.merging.pending < 1024
      → IsLegalFrom w.merging.merged (marked row m ∷ []) → merged_from w.merging.merged (marked row m ∷ []) ≡ t
      → Interleaves lists start record w { to_come = set w.to_come s rows; merging = record w.merging { pending = w.merging.pending ++ marked row m ∷ []; merged = t } }
  let_in_keeps s row rows m t first room rightly after =
      let one : List Entry = marked row m ∷ [] in
      let longer : w.taken ++ (w.merging.pending ++ one) ≡ journal ++ one = sym (append_assoc w.taken w.merging.pending one) in
      let own : row.source ≡ s = (subst (AreOf s) first (still_right lists start w right i s)).0 in record {
        legal = subst (IsLegalFrom (opening_time start)) (sym longer)
            (IsLegalFrom-append (opening_time start) journal one i.legal (subst (λ z. IsLegalFrom z one) (sym i.time) rightly));
        rows = λ k. ap (λ j. rows_of k j ++ list_of (set w.to_come s rows) k) longer ∙ (ap (λ l. l ++ list_of (set w.to_come s rows) k) (rows_of-append k journal one) ∙ dite (ℕ_discrete k s)
            (λ same. ap (λ l. (rows_of k journal ++ l) ++ list_of (set w.to_come s rows) k) (rows_of_own row m k (own ∙ sym same))
            ∙ (ap (λ l. (rows_of k journal ++ row ∷ []) ++ l) (ap (λ z. list_of (set w.to_come s rows) z) same ∙ get_or-set_same w.to_come s rows [] (within w.to_come s row rows first))
            ∙ (append_assoc (rows_of k journal) (row ∷ []) rows ∙ (ap (λ l. rows_of k journal ++ l) (sym (ap (list_of w.to_come) same ∙ first)) ∙ i.rows k))))
            (λ apart. ap (λ l. (rows_of k journal ++ l) ++ list_of (set w.to_come s rows) k) (rows_of_other row m k (λ e. apart (sym e ∙ own)))
            ∙ (ap (λ l. l ++ list_of (set w.to_come s rows) k) (append-nil (rows_of k journal)) ∙ (ap (λ l. rows_of k journal ++ l) (get_or-set_other w.to_come s k rows [] apart) ∙ i.rows k))));
        fits = omega (arith, length-append w.merging.pending one);
        time = ap (merged_from (opening_time start)) longer ∙ (merged_from-append (opening_time start) journal one ∙ (ap (λ z. merged_from z one) i.time ∙ after));
        not_closed = i.not_closed;
      }

  -- a row was answered
  reply_keeps : (s : ℕ) (row : Row) (rows : List Row) → list_of w.to_come s ≡ row ∷ rows → (r : Offer) → OfferFits w.merging row r → Interleaves lists start (after_reply w s row rows r)
  reply_keeps s row rows first Accepted d = let_in_keeps s row rows mark.Accepted row.stamp first d.1 (let_in_legal w.merging row Accepted d) refl
  reply_keeps s row rows first (Late t) d = let_in_keeps s row rows (mark.Late t) w.merging.merged first d.2 (let_in_legal w.merging row (Late t) d) refl
  reply_keeps s row rows first (Full q) d = i
  reply_keeps s row rows first (Closed q) d = absurd (true≢false (sym d.1 ∙ i.not_closed))

  source_keeps : (s : ℕ) (rows : List Row) → list_of w.to_come s ≡ rows → Interleaves lists start (after_source w s rows)
  source_keeps s [] first = record { legal = i.legal; rows = i.rows; fits = i.fits; time = i.time; not_closed = i.not_closed }
  source_keeps s (row ∷ rows) first = reply_keeps s row rows first (offer_reply w.merging row) (offer_is_due w.merging row)

  engine_keeps : Interleaves lists start (after_turn w Engine)
  engine_keeps = record {
    legal = subst (IsLegalFrom (opening_time start)) (sym (append-nil journal)) i.legal;
    rows = λ k. ap (λ j. rows_of k j ++ list_of w.to_come k) (append-nil journal) ∙ i.rows k;
    fits = omega arith;
    time = ap (merged_from (opening_time start)) (append-nil journal) ∙ i.time;
    not_closed = i.not_closed;
  }

-- whoever's turn it was
pub turn_keeps : (lists : List (List Row)) (start : Option ℕ) → StandRight lists → (w : Situation) → Interleaves lists start w → (actor : Actor) → Interleaves lists start (after_turn w actor)
turn_keeps lists start right w i (Source s) = source_keeps lists start right w i s (list_of w.to_come s) refl
turn_keeps lists start right w i Engine = engine_keeps lists start right w i

-- and at first
pub begins : (lists : List (List Row)) (start : Option ℕ) → Interleaves lists start (beginning lists start)
begins lists start = record { legal = tt; rows = λ k. refl; fits = omega arith; time = refl; not_closed = refl }

-- whatever the order
pub run_keeps : (lists : List (List Row)) (start : Option ℕ) → StandRight lists → (actors : List Actor) (w : Situation) → Interleaves lists start w → Interleaves lists start (run w actors)
run_keeps lists start right [] w i = i
run_keeps lists start right (actor ∷ actors) w i = run_keeps lists start right actors (after_turn w actor) (turn_keeps lists start right w i actor)

pub every_order_interleaves : EveryOrderInterleaves
every_order_interleaves lists start actors right = run_keeps lists start right actors (beginning lists start) (begins lists start)
