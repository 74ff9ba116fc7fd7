-- What seats at the queue show, as those of an intake that threads share.
use Rattle.std.specs.Prelude.{ℕ, zero, suc, nat_lt, Bool, true, ◌&&◌, List, [], ◌∷◌}
use Rattle.atomic_table.specs.Seated.{TableId}
use Rattle.lola_merge.specs.declared.state.Offer.{Offer}
use Rattle.lola_merge.specs.declared.state.Offer.TheVariants as offer
use Rattle.lola_feed.specs.SharedIntakes as sharing
use Rattle.lola_queue_intake.specs.declared.item.Item.{Item}
use Rattle.lola_queue_intake.specs.declared.answer.Push.{Push}
use Rattle.lola_queue_intake.specs.declared.answer.Push.TheVariants as push
use Rattle.lola_queue_intake.specs.Deliveries.{items_of, has_finish}
use Rattle.lola_queue_intake.specs.Intakes.{IntakeId, SourceShown, TakerShown, taken}

-- the tables that an intake is made of
abbrev pub tables_of : IntakeId → List TableId
tables_of id = id.queue ∷ id.word ∷ []

-- whether the finish of each of so many sources is among these items
abbrev pub have_finished : ℕ → List Item → Bool
have_finished zero items = true
have_finished (suc n) items = has_finish (items_of n items) && have_finished n items

-- a source's seat
abbrev pub shared_seat : SourceShown → sharing.SeatShown
shared_seat p = record {
  intake = tables_of p.intake;
  source = p.source;
  rows = p.queued;
  finished = p.finished;
  in_order = true;
  met_closed = nat_lt 0 p.closed;
}

-- the taker's, which knows that all is done once it has popped each finish
abbrev pub shared_taker : TakerShown → sharing.TakerShown
shared_taker t = record {
  intake = tables_of t.intake;
  sources = t.sources;
  start = t.start;
  taken = taken t;
  done = have_finished t.sources t.popped;
  closed = t.closed;
}

-- what a push is answered, as the answer of an offer
abbrev pub offer_of : Push → Offer
offer_of push.Queued = offer.Accepted
offer_of (push.Full row) = offer.Full row
offer_of (push.Closed row) = offer.Closed row
