-- What seats at the merge object under its lock show, as those of an intake that threads share.
use Rattle.std.specs.Prelude.{Bool, true, false, List, [], ◌∷◌, map}
use Rattle.lola_merge.specs.declared.state.Offer.{Offer}
use Rattle.lola_merge.specs.declared.state.Offer.TheVariants as reply
use Rattle.lola_merge.specs.declared.state.Take.TheVariants.{Rows, AllDone, Nothing}
use Rattle.lola_intake.specs.declared.event.Event.{Event}
use Rattle.lola_intake.specs.declared.event.Event.TheVariants.{Offered, Finished, Took, Closed}
use Rattle.lola_intake.specs.Histories.{entries, taken, has_close}
use Rattle.lola_intake.specs.Intakes.{Shown}
use Rattle.lola_feed.specs.SharedIntakes.{SeatShown, TakerShown}

-- whether there is a finish among calls
abbrev pub has_any_finish : List Event → Bool
has_any_finish [] = false
has_any_finish (Offered row r ∷ es) = has_any_finish es
has_any_finish (Finished s ∷ es) = true
has_any_finish (Took t rows ∷ es) = has_any_finish es
has_any_finish (Closed ∷ es) = has_any_finish es

abbrev pub are_none : List Event → Bool
are_none [] = true
are_none (e ∷ es) = false

-- whether no call stands behind a finish
abbrev pub are_in_order : List Event → Bool
are_in_order [] = true
are_in_order (Offered row r ∷ es) = are_in_order es
are_in_order (Finished s ∷ es) = are_none es
are_in_order (Took t rows ∷ es) = are_in_order es
are_in_order (Closed ∷ es) = are_in_order es

-- whether an offer was answered that the intake is closed
abbrev pub is_closed : Offer → Bool → Bool
is_closed reply.Accepted later = later
is_closed (reply.Late m) later = later
is_closed (reply.Full row) later = later
is_closed (reply.Closed row) later = true

abbrev pub has_met_closed : List Event → Bool
has_met_closed [] = false
has_met_closed (Offered row r ∷ es) = is_closed r (has_met_closed es)
has_met_closed (Finished s ∷ es) = has_met_closed es
has_met_closed (Took t rows ∷ es) = has_met_closed es
has_met_closed (Closed ∷ es) = has_met_closed es

-- whether the last take was answered that all is done, as a take before these calls was or was not
abbrev pub ends_done : List Event → Bool → Bool
ends_done [] done = done
ends_done (Offered row r ∷ es) done = ends_done es done
ends_done (Finished s ∷ es) done = ends_done es done
ends_done (Took AllDone rows ∷ es) done = ends_done es true
ends_done (Took (Rows n) rows ∷ es) done = ends_done es false
ends_done (Took Nothing rows ∷ es) done = ends_done es false
ends_done (Closed ∷ es) done = ends_done es done

abbrev pub seat_shown : Shown → SeatShown
seat_shown p = record {
  intake = p.intake ∷ [];
  source = p.source;
  rows = map (λ e. e.row) (entries p.mine);
  finished = has_any_finish p.mine;
  in_order = are_in_order p.mine;
  met_closed = has_met_closed p.mine;
}

abbrev pub taker_shown : Shown → TakerShown
taker_shown p = record {
  intake = p.intake ∷ [];
  sources = p.setting.sources;
  start = p.setting.start;
  taken = taken p.mine;
  done = ends_done p.mine false;
  closed = has_close p.mine;
}
