-- The last line of a call, and its status.
use Rattle.std.proofs.Common.{◌≡◌, ℕ, ◌≤◌, List, ◌++◌, inl, inr, sym, ap, ◌∙◌, subst, append_assoc}
use Rattle.std.specs.Io.KnownBytes.{append_known}
use Rattle.lola_port.specs.States.{PutBroke, Rose, SinkState, grown}
use Rattle.lola_value.specs.declared.front.Refusal.{Refusal}
use Rattle.lola_report.specs.Ends.{end_text}
use Rattle.lola_report.specs.declared.end.EndLine.{EndLine}
use Rattle.lola_report.specs.declared.end.EndLine.TheVariants.{Done, Usage, Refused, Malformed, Fault, UnreadableSpecification, UnreadableSource, Analysed}
use Rattle.lola_monitor.specs.Monitor.{Call, IsAnalysed, IsCutAnalysis, IsCutDone, IsCutMalformed, IsCutOff, IsCutShort, IsDone, IsEarly, IsFault, IsMalformed, IsRefused, IsUnread, IsUsage, Outside, Wrote, call}
use Rattle.lola_monitor.specs.Conclusions.{Concluded}
use Rattle.lola_monitor.specs.Outcomes.{AreUntouched, NoCommand, NoPlan, NotRead, StoodAnalysed, StoodCut, StoodDone, StoodFault, StoodMalformed, Works}
use Rattle.lola_monitor.specs.declared.call_end.CallEnd.{CallEnd}
use Rattle.lola_monitor.specs.declared.call_end.CallEnd.TheVariants.{Line, Drilled, Report, Replayed, Stated, CutFault, Put, Memory}
use Rattle.lola_replay.specs.declared.end.ReplayEnd.TheVariants.{Found, UnreadableTrace, UnreadableVerdicts}
use Rattle.lola_monitor.proofs.DrillEnds.{drill_means}
use Rattle.lola_monitor.proofs.ReplayMeans.{found_means, unread_means}
use Rattle.lola_monitor.proofs.Laws.{PutsAddUp}
use Rattle.lola_monitor.proofs.Means.{Means, means_at}

-- from the same state
pub wrote_same : (s0 s1 s2 : SinkState) (ys : List ℕ) → s1 ≡ s0 → Wrote s1 s2 ys → Wrote s0 s2 ys
wrote_same s0 s1 s2 ys same wrote = subst (λ s. Wrote s s2 ys) same wrote

-- a put that failed behind a text: a proper part of both
pub broke_behind : PutsAddUp → (s0 s1 s2 : SinkState) (text more : List ℕ) → s1 ≡ grown s0 text → PutBroke s1 s2 more → PutBroke s0 s2 (text ++ more)
broke_behind parts s0 s1 s2 text more first broke = record {
  part = text ++ broke.part;
  is_part = record {
    rest = broke.is_part.rest;
    joined = ap (λ (l : List ℕ). text ++ l) broke.is_part.joined ∙ sym (append_assoc text broke.part broke.is_part.rest);
    not_whole = broke.is_part.not_whole;
  };
  written = broke.written ∙ ap (λ s. append_known s.written broke.part) first ∙ ap (λ (k : SinkState). k.written) (parts s0 text broke.part);
  later = subst (λ n. n ≤ s2.count) (ap (λ (s : SinkState). s.count) first) broke.later;
  rose = subst (λ n. Rose n s2.count) (ap (λ (s : SinkState). s.count) first) broke.rose;
}

-- a text and a line behind it, or a proper part of both
pub wrote_behind : PutsAddUp → (s0 s1 s2 : SinkState) (text more : List ℕ) → s1 ≡ grown s0 text → Wrote s1 s2 more → Wrote s0 s2 (text ++ more)
wrote_behind parts s0 s1 s2 text more first (inl is) = inl (is ∙ ap (λ s. grown s more) first ∙ parts s0 text more)
wrote_behind parts s0 s1 s2 text more first (inr broke) = inr (broke_behind parts s0 s1 s2 text more first broke)

module _ (words : List (List ℕ)) (before after : Outside) (last : SinkState) where
  abbrev here : Call
  here = call words before (record after { out = last })

  ends_done : PutsAddUp → (line : EndLine) → StoodDone line words before after → last ≡ grown after.out (end_text line) → IsDone here
  ends_done parts line s is = record { line = line; all = s.all; trace = s.put.trace; out = is ∙ ap (λ o. grown o (end_text line)) s.put.out ∙ parts before.out _ _ }

  ends_malformed : PutsAddUp → (line : EndLine) → StoodMalformed line words before after → last ≡ grown after.out (end_text line) → IsMalformed here
  ends_malformed parts line s is = record { line = line; some = s.some; trace = s.put.trace; out = is ∙ ap (λ o. grown o (end_text line)) s.put.out ∙ parts before.out _ _ }

  ends_fault : PutsAddUp → (line : EndLine) → StoodFault line words before after → Wrote after.out last (end_text line) → IsFault here
  ends_fault parts line s wrote = record { line = line; up_to = s.up_to; trace = s.put.trace; out = wrote_behind parts before.out after.out last _ (end_text line) s.put.out wrote }

  ends_cut_short : (line : EndLine) → StoodCut line words before after → Wrote after.out last (end_text line) → IsCutShort here
  ends_cut_short line s wrote = record { line = line; short = s.short; trace = s.put.trace; out = wrote_same _ after.out last (end_text line) s.put.out wrote }

  ends_usage : NoCommand words before after → Wrote after.out last (end_text Usage) → IsUsage here
  ends_usage s wrote = record { no_command = s.no_command; shelf = s.shelf; trace = s.early.trace; out = wrote_same before.out after.out last _ s.early.out wrote }

  ends_refused : (r : Refusal) → NoPlan r words before after → Wrote after.out last (end_text (Refused r)) → IsRefused here
  ends_refused r s wrote = record {
    name = s.name;
    is_command = s.is_command;
    refusal = r;
    cause = s.cause;
    asks = s.asks;
    count = s.count;
    trace = s.early.trace;
    out = wrote_same before.out after.out last _ s.early.out wrote;
  }

  ends_unread : NotRead words before after → Wrote after.out last (end_text UnreadableSpecification) → IsUnread here
  ends_unread s wrote = record { name = s.name; is_command = s.is_command; has_failed = s.has_failed; rose = s.rose; trace = s.early.trace; out = wrote_same before.out after.out last _ s.early.out wrote }

  ends_analysed : (text : List ℕ) → StoodAnalysed text words before after → last ≡ grown after.out text → IsAnalysed here
  ends_analysed text s is = record { analysis = s.analysis; trace = s.early.trace; out = is ∙ ap (λ o. grown o text) s.early.out ∙ ap (grown before.out) s.text_is }

  ends_cut_analysis : (text : List ℕ) → StoodAnalysed text words before after → PutBroke after.out last text → IsCutAnalysis here
  ends_cut_analysis text s broke = record { analysis = s.analysis; trace = s.early.trace; out = subst (λ t. PutBroke before.out last t) s.text_is (subst (λ o. PutBroke o last text) s.early.out broke) }

  -- the last line broke
  cuts_done : (line : EndLine) → StoodDone line words before after → PutBroke after.out last (end_text line) → IsCutDone here
  cuts_done line s broke = record { line = line; all = s.all; trace = s.put.trace; out = subst (λ o. PutBroke o last (end_text line)) s.put.out broke }

  cuts_malformed : (line : EndLine) → StoodMalformed line words before after → PutBroke after.out last (end_text line) → IsCutMalformed here
  cuts_malformed line s broke = record { line = line; some = s.some; trace = s.put.trace; out = subst (λ o. PutBroke o last (end_text line)) s.put.out broke }

  -- there was no memory for the last line
  early_end : AreUntouched before after → last ≡ after.out → IsEarly here
  early_end early same = record { trace = early.trace; out = same ∙ early.out }

  pub means_of : PutsAddUp → (status : ℕ) (outcome : CallEnd) → Works outcome words before after → Concluded status outcome after.out last → Means status here
  means_of parts status (Line (Done a l n v)) works (inl e) = means_at 0 status here e.0 (inl (ends_done parts (Done a l n v) works e.1))
  means_of parts status (Line (Done a l n v)) works (inr (inl e)) = means_at 7 status here e.0 (inl (inr (inl (cuts_done (Done a l n v) works e.1))))
  means_of parts status (Line (Done a l n v)) works (inr (inr e)) = means_at 8 status here e.0 (inr (record { run = works.all.run; trace = works.put.trace; out = inr (e.1 ∙ works.put.out) }))
  means_of parts status (Line Usage) works (inl e) = means_at 2 status here e.0 (ends_usage works (inl e.1))
  means_of parts status (Line Usage) works (inr (inl e)) = means_at 2 status here e.0 (ends_usage works (inr e.1))
  means_of parts status (Line Usage) works (inr (inr e)) = means_at 8 status here e.0 (inl (early_end works.early e.1))
  means_of parts status (Line (Refused r)) works (inl e) = means_at 3 status here e.0 (inl (ends_refused r works (inl e.1)))
  means_of parts status (Line (Refused r)) works (inr (inl e)) = means_at 3 status here e.0 (inl (ends_refused r works (inr e.1)))
  means_of parts status (Line (Refused r)) works (inr (inr e)) = means_at 8 status here e.0 (inl (early_end works.early e.1))
  means_of parts status (Line (Malformed m row kind)) works (inl e) = means_at 4 status here e.0 (inl (ends_malformed parts (Malformed m row kind) works e.1))
  means_of parts status (Line (Malformed m row kind)) works (inr (inl e)) = means_at 7 status here e.0 (inl (inr (inr (cuts_malformed (Malformed m row kind) works e.1))))
  means_of parts status (Line (Malformed m row kind)) works (inr (inr e)) = means_at 8 status here e.0 (inr (record { run = works.some.run; trace = works.put.trace; out = inr (e.1 ∙ works.put.out) }))
  means_of parts status (Line (Fault name kind time)) works (inl e) = means_at 5 status here e.0 (inl (ends_fault parts (Fault name kind time) works (inl e.1)))
  means_of parts status (Line (Fault name kind time)) works (inr (inl e)) = means_at 5 status here e.0 (inl (ends_fault parts (Fault name kind time) works (inr e.1)))
  means_of parts status (Line (Fault name kind time)) works (inr (inr e)) = means_at 8 status here e.0 (inr (record { run = works.up_to.run; trace = works.put.trace; out = inr (e.1 ∙ works.put.out) }))
  means_of parts status (Line UnreadableSpecification) works (inl e) = means_at 6 status here e.0 (inl (ends_unread works (inl e.1)))
  means_of parts status (Line UnreadableSpecification) works (inr (inl e)) = means_at 6 status here e.0 (inl (ends_unread works (inr e.1)))
  means_of parts status (Line UnreadableSpecification) works (inr (inr e)) = means_at 8 status here e.0 (inl (early_end works.early e.1))
  means_of parts status (Line (UnreadableSource m)) works (inl e) = means_at 6 status here e.0 (inr (inl (ends_cut_short (UnreadableSource m) works (inl e.1))))
  means_of parts status (Line (UnreadableSource m)) works (inr (inl e)) = means_at 6 status here e.0 (inr (inl (ends_cut_short (UnreadableSource m) works (inr e.1))))
  means_of parts status (Line (UnreadableSource m)) works (inr (inr e)) = means_at 8 status here e.0 (inr (record { run = works.short.run; trace = works.put.trace; out = inr (e.1 ∙ works.put.out) }))
  means_of parts status (Line (Analysed n w)) works ended = absurd works
  means_of parts status (Drilled line) works ended = drill_means words before after last status line works ended
  means_of parts status (Report text) works (inl e) = means_at 0 status here e.0 (inr (inl (ends_analysed text works e.1)))
  means_of parts status (Report text) works (inr (inl e)) = means_at 7 status here e.0 (inr (inl (ends_cut_analysis text works e.1)))
  means_of parts status (Report text) works (inr (inr e)) = means_at 8 status here e.0 (inl (early_end works.early e.1))
  means_of parts status (Replayed (Found finding)) works ended = found_means words before after last status finding works ended
  means_of parts status (Replayed UnreadableTrace) works ended = unread_means words before after last status UnreadableTrace works ended
  means_of parts status (Replayed UnreadableVerdicts) works ended = unread_means words before after last status UnreadableVerdicts works ended
  means_of parts status (Stated end) works ended = absurd works
  means_of parts status CutFault works e = means_at 5 status here e.0 (inl (subst (λ s. IsFault (call words before (record after { out = s }))) (sym e.1) works))
  means_of parts status Put works e = means_at 7 status here e.0 (inl (inl (subst (λ s. IsCutOff (call words before (record after { out = s }))) (sym e.1) works)))
  means_of parts status Memory works e = means_at 8 status here e.0 (subst (λ s. Means 8 (call words before (record after { out = s }))) (sym e.1) works)
