-- No turn changes how many sources a merge object has.
use Rattle.std.proofs.Common.{◌≡◌, refl, ap, ◌∙◌, inl, inr, length-set, true}
use Rattle.lola_model.specs.declared.journal.Row.{Row}
use Rattle.lola_merge.specs.declared.state.Offer.{Offer}
use Rattle.lola_merge.specs.declared.state.Offer.TheVariants as reply
use Rattle.lola_merge.specs.Merging.{Merging, offer_reply, replied, sources_of}
use Rattle.lola_feed.specs.Feeding.{StateIs, Turns, Working, finishes_at, offers_at}
use Rattle.lola_feed.specs.declared.worker.TurnEnd.{TurnEnd}
use Rattle.lola_feed.specs.declared.worker.TurnEnd.TheVariants as turn

replied-sources : (m : Merging) (row : Row) (r : Offer) → sources_of (replied m row r) ≡ sources_of m
replied-sources m row reply.Accepted = refl
replied-sources m row (reply.Late t) = refl
replied-sources m row (reply.Full q) = refl
replied-sources m row (reply.Closed q) = refl

offered-sources : (row : Row) (r : Offer) (old new : StateIs) → offers_at row r old new → sources_of new.merging ≡ sources_of old.merging
offered-sources row r old new o = ap (λ (d : StateIs). sources_of d.merging) o.1 ∙ replied-sources old.merging row (offer_reply old.merging row)

finished-sources : (old new : StateIs) → finishes_at old new → sources_of new.merging ≡ sources_of old.merging
finished-sources old new f = ap (λ (d : StateIs). sources_of d.merging) f ∙ length-set old.merging.finished old.source true

pub turn-sources : (t : TurnEnd) (d0 d1 : StateIs) (old new : Working) → Turns offers_at finishes_at d0 d1 t old new → sources_of d1.merging ≡ sources_of d0.merging
turn-sources turn.Moved d0 d1 old new t = offered-sources t.1.0 t.1.1 d0 d1 t.1.2.offered
turn-sources turn.Full d0 d1 old new t = offered-sources t.1.0 _ d0 d1 t.1.1.offered
turn-sources (turn.Done end) d0 d1 old new (inl rests) = ap (λ (d : StateIs). sources_of d.merging) rests.desk
turn-sources (turn.Done end) d0 d1 old new (inr (going, inl shut)) = offered-sources shut.1.0 _ d0 d1 shut.1.1.offered
turn-sources (turn.Done end) d0 d1 old new (inr (going, inr told)) = finished-sources d0 d1 told.2.finished
