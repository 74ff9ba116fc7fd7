-- A source's turn, step by step.
use Rattle.std.proofs.Common.{◌≡◌, ◌≢◌, ◌<◌, ℕ, Bool, true, false, true≢false, not, List, [], ◌∷◌, length, get_or, set, get_or-set_same, refl, sym, ap, ◌∙◌, arith}
use Rattle.std.proofs.lemmas.List.{set-set, set-get_or}
use Rattle.lola_model.specs.declared.journal.Row.{Row}
use Rattle.lola_model.specs.declared.journal.Entry.{Entry}
use Rattle.lola_merge.specs.declared.state.Offer.{Offer}
use Rattle.lola_merge.specs.declared.state.Offer.TheVariants.{Accepted, Late, Full, Closed}
use Rattle.lola_merge.specs.Merging.{Merging, offer_reply, replied, offer_after, finish_after}
use Rattle.lola_merge.proofs.Answering.{OfferFits}
use Rattle.lola_merge.specs.Interleaving.{Situation, list_of, after_reply, after_source, Changed}
use Rattle.lola_merge.specs.Queues.{PopsNone, PopsRow}

abbrev pub situation : List (List Row) → Merging → List Entry → Situation
situation to_come merging taken = record { to_come = to_come; merging = merging; taken = taken }

set_kept : (bits : List Bool) (s : ℕ) → get_or bits s false ≡ true → set bits s true ≡ bits
set_kept bits s e = ap (set bits s) (sym e) ∙ set-get_or bits s false

-- where there is no row, the source has finished; that is new where it had not
pub finish_changes : (w : Situation) (s : ℕ) (to' : List (List Row)) (m' : Merging) (b : Bool) → PopsNone w.to_come s to' → m' ≡ finish_after w.merging s → s < length w.merging.finished
    → b ≡ get_or w.merging.finished s false → Changed (not b) w (situation to' m' w.taken)
finish_changes w s to' m' true e is l had = ap (λ (z : List (List Row) × Merging). situation z.0 z.1 w.taken) (λ i. (e.1 i, same i))
  where
    same : m' ≡ w.merging
    same = is ∙ ap (λ f. record w.merging { finished = f }) (set_kept w.merging.finished s (sym had))
finish_changes w s to' m' false e is l had = λ same.
    let before : get_or w.merging.finished s false ≡ true = sym (ap (λ (z : Situation). get_or z.merging.finished s false) same) ∙ (ap (λ (z : Merging). get_or z.finished s false) is ∙ get_or-set_same w.merging.finished s true false l) in
    true≢false (sym before ∙ sym had)

no_longer : (row : Row) (xs : List Row) → xs ≢ row ∷ xs
no_longer row xs e = let l = ap length e in omega arith

-- a row that there was room for is to come no more
pub offer_turned : (w : Situation) (s : ℕ) (row : Row) (to' : List (List Row)) (r : Offer) (m' : Merging) → PopsRow w.to_come s row to' → r ≡ offer_reply w.merging row → m' ≡ offer_after w.merging row
    → ((q : Row) → r ≢ Full q) → situation to' m' w.taken ≡ after_source w s (list_of w.to_come s)
offer_turned w s row to' r m' e is after fits = ap (λ (z : List (List Row) × Merging). situation z.0 z.1 w.taken) (λ i. (e.1 i, after i))
    ∙ (sym (by_reply (offer_reply w.merging row) (λ q f. fits q (is ∙ f))) ∙ ap (after_source w s) (sym e.0))
  where
    by_reply : (r : Offer) → ((q : Row) → r ≢ Full q) → after_reply w s row (list_of to' s) r ≡ situation (set w.to_come s (list_of to' s)) (replied w.merging row r) w.taken
    by_reply Accepted n = refl
    by_reply (Late t) n = refl
    by_reply (Full q) n = absurd (n q refl)
    by_reply (Closed q) n = refl

pub offer_changes : (w : Situation) (s : ℕ) (row : Row) (to' : List (List Row)) (m' : Merging) → PopsRow w.to_come s row to' → situation to' m' w.taken ≢ w
offer_changes w s row to' m' e same = no_longer row (list_of to' s) (ap (λ (z : Situation). list_of z.to_come s) same ∙ e.0)

-- one that there was no room for is still the first to come
pub full_same : (w : Situation) (s : ℕ) (row back : Row) (to' to2 : List (List Row)) (m' : Merging) → PopsRow w.to_come s row to' → Full back ≡ offer_reply w.merging row → OfferFits w.merging row (Full back)
    → m' ≡ offer_after w.merging row → to2 ≡ set to' s (back ∷ list_of to' s) → situation to2 m' w.taken ≡ w
full_same w s row back to' to2 m' e is due after put = ap (λ (z : List (List Row) × Merging). situation z.0 z.1 w.taken) (λ i. (lists i, (after ∙ ap (replied w.merging row) (sym is)) i))
  where
    lists : to2 ≡ w.to_come
    lists = put ∙ (ap (λ l. set l s (back ∷ list_of to' s)) e.1 ∙ (set-set w.to_come s (list_of to' s) (back ∷ list_of to' s)
        ∙ (ap (λ r. set w.to_come s (r ∷ list_of to' s)) due.0 ∙ (ap (set w.to_come s) (sym e.0) ∙ set-get_or w.to_come s []))))

pub full_turned : (w : Situation) (s : ℕ) (row back : Row) (to' : List (List Row)) → PopsRow w.to_come s row to' → Full back ≡ offer_reply w.merging row → after_source w s (list_of w.to_come s) ≡ w
full_turned w s row back to' e is = ap (after_source w s) e.0 ∙ ap (after_reply w s row (list_of to' s)) (sym is)
