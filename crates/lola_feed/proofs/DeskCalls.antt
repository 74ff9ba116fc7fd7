-- What a desk's calls leave of its seat.
use Rattle.std.proofs.Common.{◌≡◌, Bool, true, false, true≢false, refl, sym, ap, ◌∙◌}
use Rattle.lola_model.specs.declared.journal.Row.{Row}
use Rattle.lola_merge.specs.declared.state.Offer.{Offer}
use Rattle.lola_merge.specs.declared.state.Offer.TheVariants as reply
use Rattle.lola_feed.specs.declared.intake.Finish.{Finish}
use Rattle.lola_feed.specs.declared.intake.Finish.TheVariants as finish
use Rattle.lola_feed.specs.SharedIntakes.{SeatShown, after_finish, after_offer, is_owed}

-- no offer changes which seat it is, and whether it has finished
pub offer-intake : (p : SeatShown) (row : Row) (r : Offer) → (after_offer p row r).intake ≡ p.intake
offer-intake p row reply.Accepted = refl
offer-intake p row (reply.Late m) = refl
offer-intake p row (reply.Full q) = refl
offer-intake p row (reply.Closed q) = refl

pub offer-source : (p : SeatShown) (row : Row) (r : Offer) → (after_offer p row r).source ≡ p.source
offer-source p row reply.Accepted = refl
offer-source p row (reply.Late m) = refl
offer-source p row (reply.Full q) = refl
offer-source p row (reply.Closed q) = refl

pub offer-finished : (p : SeatShown) (row : Row) (r : Offer) → (after_offer p row r).finished ≡ p.finished
offer-finished p row reply.Accepted = refl
offer-finished p row (reply.Late m) = refl
offer-finished p row (reply.Full q) = refl
offer-finished p row (reply.Closed q) = refl

-- nor does a finish
pub finish-intake : (p : SeatShown) (f : Finish) → (after_finish p f).intake ≡ p.intake
finish-intake p finish.Finished = refl
finish-intake p finish.Full = refl
finish-intake p finish.Closed = refl

pub finish-source : (p : SeatShown) (f : Finish) → (after_finish p f).source ≡ p.source
finish-source p finish.Finished = refl
finish-source p finish.Full = refl
finish-source p finish.Closed = refl

-- where it is owed it is not made
pub owed-unfinished : (p : SeatShown) (f : Finish) → p.finished ≡ false → is_owed f ≡ true → (after_finish p f).finished ≡ false
owed-unfinished p finish.Finished none owed = absurd (true≢false (sym owed))
owed-unfinished p finish.Full none owed = none
owed-unfinished p finish.Closed none owed = none

-- a finish was made again
pub made-again : (told owes : Bool) (p q : SeatShown) (f : Finish) → told ≡ true → p.finished ≡ false → q ≡ after_finish p f → owes ≡ is_owed f
    → (told ≡ false → q.finished ≡ false) × (owes ≡ true → (told ≡ true) × (q.finished ≡ false))
made-again told owes p q f was none is owed = (
  (λ not. absurd (true≢false (sym was ∙ not))),
  λ again. (was, ap (λ (s : SeatShown). s.finished) is ∙ owed-unfinished p f none (sym owed ∙ again)),
)
