-- The last line of a drill, and its status.
use Rattle.std.proofs.Common.{◌≡◌, ◌⊎◌, ℕ, List, inl, inr, ap, ◌∙◌, subst}
use Rattle.lola_port.specs.States.{PutBroke, SinkState, grown}
use Rattle.lola_report.specs.Ends.{end_text}
use Rattle.lola_report.specs.declared.end.EndLine.{EndLine}
use Rattle.lola_report.specs.declared.end.EndLine.TheVariants.{Done, Usage, Refused, Malformed, Fault, UnreadableSpecification, UnreadableSource, Analysed}
use Rattle.lola_monitor.specs.Drilling.{IsCutDrill, IsDrillDone, IsDrillMalformed}
use Rattle.lola_monitor.specs.Monitor.{Call, IsEarly, Outside, Wrote, call}
use Rattle.lola_monitor.specs.Conclusions.{Concluded}
use Rattle.lola_monitor.specs.Outcomes.{StoodDrilled}
use Rattle.lola_monitor.specs.declared.call_end.CallEnd.TheVariants.{Drilled}
use Rattle.lola_monitor.proofs.Means.{Means, means_at}

module _ (words : List (List ℕ)) (before after : Outside) (last : SinkState) where
  abbrev here : Call
  here = call words before (record after { out = last })

  module _ (line : EndLine) (s : StoodDrilled line words before after) where
    whole : last ≡ grown after.out (end_text line) → last ≡ grown before.out (end_text line)
    whole is = is ∙ ap (λ o. grown o (end_text line)) s.early.out

    part : PutBroke after.out last (end_text line) → PutBroke before.out last (end_text line)
    part broke = subst (λ o. PutBroke o last (end_text line)) s.early.out broke

    some : Wrote after.out last (end_text line) → Wrote before.out last (end_text line)
    some (inl is) = inl (whole is)
    some (inr broke) = inr (part broke)

    cut : IsDrillDone s.of.drill line ⊎ IsDrillMalformed s.of.drill line → PutBroke after.out last (end_text line) → IsCutDrill here
    cut how broke = record { of = s.of; line = line; is = how; trace = s.early.trace; out = part broke }

    early : last ≡ after.out → IsEarly here
    early same = record { trace = s.early.trace; out = same ∙ s.early.out }

  pub drill_means : (status : ℕ) (line : EndLine) → StoodDrilled line words before after → Concluded status (Drilled line) after.out last → Means status here
  drill_means status (Done a l n v) s (inl e) = means_at 0 status here e.0 (inr (inr (inl (record { of = s.of; line = Done a l n v; done = s.drills; trace = s.early.trace; out = whole (Done a l n v) s e.1 }))))
  drill_means status (Done a l n v) s (inr (inl e)) = means_at 7 status here e.0 (inr (inr (inl (cut (Done a l n v) s (inl s.drills) e.1))))
  drill_means status (Done a l n v) s (inr (inr e)) = means_at 8 status here e.0 (inl (early (Done a l n v) s e.1))
  drill_means status (Refused r) s (inl e) = means_at 3 status here e.0 (inr (record { of = s.of; refusal = r; cause = s.drills; trace = s.early.trace; out = some (Refused r) s (inl e.1) }))
  drill_means status (Refused r) s (inr (inl e)) = means_at 3 status here e.0 (inr (record { of = s.of; refusal = r; cause = s.drills; trace = s.early.trace; out = some (Refused r) s (inr e.1) }))
  drill_means status (Refused r) s (inr (inr e)) = means_at 8 status here e.0 (inl (early (Refused r) s e.1))
  drill_means status (Malformed m row kind) s (inl e) = means_at 4 status here e.0 (inr (record { of = s.of; line = Malformed m row kind; malformed = s.drills; trace = s.early.trace; out = whole (Malformed m row kind) s e.1 }))
  drill_means status (Malformed m row kind) s (inr (inl e)) = means_at 7 status here e.0 (inr (inr (inl (cut (Malformed m row kind) s (inr s.drills) e.1))))
  drill_means status (Malformed m row kind) s (inr (inr e)) = means_at 8 status here e.0 (inl (early (Malformed m row kind) s e.1))
  drill_means status (Fault name kind time) s (inl e) = means_at 5 status here e.0 (inr (record { of = s.of; line = Fault name kind time; fault = s.drills; trace = s.early.trace; out = some (Fault name kind time) s (inl e.1) }))
  drill_means status (Fault name kind time) s (inr (inl e)) = means_at 5 status here e.0 (inr (record { of = s.of; line = Fault name kind time; fault = s.drills; trace = s.early.trace; out = some (Fault name kind time) s (inr e.1) }))
  drill_means status (Fault name kind time) s (inr (inr e)) = means_at 8 status here e.0 (inl (early (Fault name kind time) s e.1))
  drill_means status Usage s ended = absurd s.drills
  drill_means status UnreadableSpecification s ended = absurd s.drills
  drill_means status (UnreadableSource m) s ended = absurd s.drills
  drill_means status (Analysed n w) s ended = absurd s.drills
