-- The last line of a replay, and its status.
use Rattle.std.proofs.Common.{◌≡◌, ◌⊎◌, ℕ, List, inl, inr, ap, ◌∙◌, subst}
use Rattle.lola_port.specs.States.{PutBroke, SinkState, grown}
use Rattle.lola_replay.specs.ReplayEnds.{finding_text, replay_end_text}
use Rattle.lola_replay.specs.declared.end.ReplayEnd.{ReplayEnd}
use Rattle.lola_replay.specs.declared.end.ReplayEnd.TheVariants.{Found}
use Rattle.lola_replay.specs.declared.finding.Finding.{Finding}
use Rattle.lola_replay.specs.declared.finding.Finding.TheVariants.{Same, TraceDiffers, VerdictsDiffer}
use Rattle.lola_monitor.specs.Monitor.{Call, IsEarly, Outside, Wrote, call}
use Rattle.lola_monitor.specs.Conclusions.{Concluded}
use Rattle.lola_monitor.specs.Outcomes.{AreUntouched, StoodFound, StoodUnread}
use Rattle.lola_monitor.specs.declared.call_end.CallEnd.TheVariants.{Replayed}
use Rattle.lola_monitor.proofs.Means.{Means, means_at}

module _ (words : List (List ℕ)) (before after : Outside) (last : SinkState) where
  abbrev here : Call
  here = call words before (record after { out = last })

  module _ (text : List ℕ) (early : AreUntouched before after) where
    whole : last ≡ grown after.out text → last ≡ grown before.out text
    whole is = is ∙ ap (λ o. grown o text) early.out

    part : PutBroke after.out last text → PutBroke before.out last text
    part broke = subst (λ o. PutBroke o last text) early.out broke

    some : Wrote after.out last text → Wrote before.out last text
    some (inl is) = inl (whole is)
    some (inr broke) = inr (part broke)

  nothing : AreUntouched before after → last ≡ after.out → IsEarly here
  nothing early same = record { trace = early.trace; out = same ∙ early.out }

  pub found_means : (status : ℕ) (finding : Finding) → StoodFound finding words before after → Concluded status (Replayed (Found finding)) after.out last → Means status here
  found_means status (Same n m) s (inl e) =
      means_at 0 status here e.0 (inr (inr (inr (record { entries = n; lines = m; replay = s.replay; trace = s.early.trace; out = whole (finding_text (Same n m)) s.early e.1 }))))
  found_means status (Same n m) s (inr (inl e)) =
      means_at 7 status here e.0 (inr (inr (inr (record { entries = n; lines = m; replay = s.replay; trace = s.early.trace; out = part (finding_text (Same n m)) s.early e.1 }))))
  found_means status (Same n m) s (inr (inr e)) = means_at 8 status here e.0 (inl (nothing s.early e.1))
  found_means status (TraceDiffers n) s (inl e) =
      means_at 1 status here e.0 (record { finding = TraceDiffers n; differs = tt; replay = s.replay; trace = s.early.trace; out = some (finding_text (TraceDiffers n)) s.early (inl e.1) })
  found_means status (TraceDiffers n) s (inr (inl e)) =
      means_at 1 status here e.0 (record { finding = TraceDiffers n; differs = tt; replay = s.replay; trace = s.early.trace; out = some (finding_text (TraceDiffers n)) s.early (inr e.1) })
  found_means status (TraceDiffers n) s (inr (inr e)) = means_at 8 status here e.0 (inl (nothing s.early e.1))
  found_means status (VerdictsDiffer n) s (inl e) =
      means_at 1 status here e.0 (record { finding = VerdictsDiffer n; differs = tt; replay = s.replay; trace = s.early.trace; out = some (finding_text (VerdictsDiffer n)) s.early (inl e.1) })
  found_means status (VerdictsDiffer n) s (inr (inl e)) =
      means_at 1 status here e.0 (record { finding = VerdictsDiffer n; differs = tt; replay = s.replay; trace = s.early.trace; out = some (finding_text (VerdictsDiffer n)) s.early (inr e.1) })
  found_means status (VerdictsDiffer n) s (inr (inr e)) = means_at 8 status here e.0 (inl (nothing s.early e.1))

  pub unread_means : (status : ℕ) (end : ReplayEnd) → StoodUnread end words before after
      → ((status ≡ 6) × (last ≡ grown after.out (replay_end_text end))) ⊎ (((status ≡ 6) × PutBroke after.out last (replay_end_text end)) ⊎ ((status ≡ 8) × (last ≡ after.out))) → Means status here
  unread_means status end s (inl e) = means_at 6 status here e.0 (inr (inr (record { end = end; unread = s.unread; trace = s.early.trace; out = some (replay_end_text end) s.early (inl e.1) })))
  unread_means status end s (inr (inl e)) = means_at 6 status here e.0 (inr (inr (record { end = end; unread = s.unread; trace = s.early.trace; out = some (replay_end_text end) s.early (inr e.1) })))
  unread_means status end s (inr (inr e)) = means_at 8 status here e.0 (inl (nothing s.early e.1))
