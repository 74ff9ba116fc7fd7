-- Each answer of the merge object is due, and what an offer lets in is rightly marked.
use Rattle.std.proofs.Common.{◌≡◌, ◌<◌, ℕ, zero, suc, Bool, true, false, true≢false, List, [], ◌∷◌, cond, length, nat_lt, nat_le, ltb-true, ltb-false, leb-true, leb-false, get_or, refl, sym, arith}
use Rattle.std.specs.List.{list_all}
use Rattle.lola_model.specs.Journal.{IsLegalFrom}
use Rattle.lola_model.specs.declared.journal.Row.{Row}
use Rattle.lola_merge.specs.declared.state.Offer.{Offer}
use Rattle.lola_merge.specs.declared.state.Offer.TheVariants.{Accepted, Late, Full, Closed}
use Rattle.lola_merge.specs.declared.state.Take.{Take}
use Rattle.lola_merge.specs.declared.state.Take.TheVariants.{Rows, AllDone, Nothing}
use Rattle.lola_merge.specs.Merging.{Merging, sources_of, offer_reply, let_in, OfferIsDue, take_reply, TakeIsDue, has_finished}

-- an empty list
pub none_left : {A : Type 0} (xs : List A) → length xs ≡ 0 → xs ≡ []
none_left [] e = refl
none_left (x ∷ xs) e = absurd (omega arith)

-- where all are true, each is
pub all_at : (bits : List Bool) (s : ℕ) → list_all (λ b. b) bits ≡ true → s < length bits → get_or bits s false ≡ true
all_at [] s e l = absurd (omega arith)
all_at (true ∷ bits) zero e l = refl
all_at (true ∷ bits) (suc s) e l = all_at bits s e (omega arith)
all_at (false ∷ bits) s e l = absurd (true≢false (sym e))

-- where not all are, one is not
pub some_at : (bits : List Bool) → list_all (λ b. b) bits ≡ false → (s : ℕ) × (s < length bits) × (get_or bits s false ≡ false)
some_at [] e = absurd (true≢false e)
some_at (false ∷ bits) e = (0, omega arith, refl)
some_at (true ∷ bits) e = let r = some_at bits e in (suc r.0, omega arith, r.2)

-- what is due at the object as it is
abbrev pub OfferFits : Merging → Row → Offer → Type 0
OfferFits m row r = OfferIsDue m.closed (length m.pending) m.merged row r

abbrev pub TakeFits : Merging → Take → Type 0
TakeFits m t = TakeIsDue (length m.pending) (sources_of m) (has_finished m) t

-- the answer to an offer is due
pub offer_is_due : (m : Merging) (row : Row) → OfferFits m row (offer_reply m row)
offer_is_due m row = by_closed m.closed refl
  where
    by_late : m.closed ≡ false → length m.pending < 1024 → (b : Bool) → nat_lt row.stamp m.merged ≡ b → OfferFits m row (cond b (Late m.merged) Accepted)
    by_late not_closed room true e = (refl, not_closed, room, ltb-true row.stamp m.merged e)
    by_late not_closed room false e = (not_closed, room, ltb-false row.stamp m.merged e)

    by_full : m.closed ≡ false → (b : Bool) → nat_le 1024 (length m.pending) ≡ b → OfferFits m row (cond b (Full row) (cond (nat_lt row.stamp m.merged) (Late m.merged) Accepted))
    by_full not_closed true e = (refl, not_closed, leb-true 1024 (length m.pending) e)
    by_full not_closed false e = by_late not_closed (leb-false 1024 (length m.pending) e) (nat_lt row.stamp m.merged) refl

    by_closed : (b : Bool) → m.closed ≡ b → OfferFits m row (cond b (Closed row) (cond (nat_le 1024 (length m.pending)) (Full row) (cond (nat_lt row.stamp m.merged) (Late m.merged) Accepted)))
    by_closed true e = (refl, e)
    by_closed false e = by_full e (nat_le 1024 (length m.pending)) refl

-- the answer of a take is due
pub take_is_due : (m : Merging) → TakeFits m (take_reply m)
take_is_due m = by_some (nat_lt 0 (length m.pending)) refl
  where
    by_all : length m.pending ≡ 0 → (b : Bool) → list_all (λ d. d) m.finished ≡ b → TakeFits m (cond b AllDone Nothing)
    by_all none true e = (none, λ s l. all_at m.finished s e l)
    by_all none false e = (none, some_at m.finished e)

    by_some : (b : Bool) → nat_lt 0 (length m.pending) ≡ b → TakeFits m (cond b (Rows (length m.pending)) (cond (list_all (λ d. d) m.finished) AllDone Nothing))
    by_some true e = (refl, ltb-true 0 (length m.pending) e)
    by_some false e = by_all (let l = ltb-false 0 (length m.pending) e in omega arith) (list_all (λ d. d) m.finished) refl

-- what is let in is rightly marked
pub let_in_legal : (m : Merging) (row : Row) (r : Offer) → OfferFits m row r → IsLegalFrom m.merged (let_in row r)
let_in_legal m row Accepted d = (d.2, tt)
let_in_legal m row (Late t) d = ((d.0, d.3), tt)
let_in_legal m row (Full q) d = tt
let_in_legal m row (Closed q) d = tt
