-- The causes of a status, once the last line was put or not.
use Rattle.std.proofs.Common.{◌≡◌, ◌⊎◌, ℕ, zero, suc, List, ◌∷◌, ◌++◌, Option, None, Some, map, inl, inr, refl, sym, ap, ◌∙◌, subst}
use Rattle.std.specs.Option.{option_to_list}
use Rattle.lola_port.specs.Asks.{given_ask}
use Rattle.lola_port.specs.States.{PutBroke, Rose, SinkState, grown}
use Rattle.lola_report.specs.Ends.{end_text}
use Rattle.lola_report.specs.declared.end.EndLine.{EndLine}
use Rattle.lola_report.specs.declared.end.EndLine.TheVariants.{Done, Usage, Refused, Malformed, Fault, UnreadableSpecification, UnreadableSource, Analysed}
use Rattle.lola_save.specs.StateEnds.{state_end_text}
use Rattle.lola_save.specs.declared.end.StateEnd.{StateEnd}
use Rattle.lola_save.specs.declared.end.StateEnd.TheVariants as state_end
use Rattle.lola_monitor_run.specs.Running.{Received}
use Rattle.lola_monitor.specs.Causes.{Causes, HasCause, HasFailedPut, HasMalformedSource, HasUnreadSource, IsRefusedOrLong, IsWell, StoodMalformedSource, StoodUnreadSource, StoodWell}
use Rattle.lola_monitor.specs.Command.{Resumption, SnapshotNames}
use Rattle.lola_monitor.specs.Conclusions.{Concluded}
use Rattle.lola_monitor.specs.LongStates.{IsLongState}
use Rattle.lola_monitor.specs.Monitor.{Call, Outside, Wrote, asks_between, call}
use Rattle.lola_monitor.specs.Pasts.{Inputs, IsUnreadNamed, texts_of}
use Rattle.lola_monitor.specs.Refusals.{StoodUnread}
use Rattle.lola_monitor.specs.ResumedOutcomes.{WorksResumed}
use Rattle.lola_monitor.specs.SnapshotOutcomes.{RefusesState, WorksSnapshot}
use Rattle.lola_monitor.specs.Resumed.{inputs_of as inputs_of_resumed}
use Rattle.lola_monitor.specs.Snapshots.{inputs_of}
use Rattle.lola_monitor.specs.declared.call_end.CallEnd.{CallEnd}
use Rattle.lola_monitor.specs.declared.call_end.CallEnd.TheVariants.{Line, Drilled, Report, Replayed, Stated, CutFault, Put, Memory}
use Rattle.lola_monitor.proofs.Laws.{PutsAddUp}
use Rattle.lola_monitor.proofs.RefusalEnds as refusals

-- ---- by the status

-- the causes of each status
abbrev MeansCause : ℕ → Inputs → Call → Type 0
MeansCause zero inputs c = IsWell inputs c × Received c.before.trace c.after.trace
MeansCause (suc zero) inputs c = Received c.before.trace c.after.trace
MeansCause (suc (suc zero)) inputs c = Received c.before.trace c.after.trace
MeansCause (suc (suc (suc zero))) inputs c = Received c.before.trace c.after.trace
MeansCause (suc (suc (suc (suc zero)))) inputs c = HasMalformedSource inputs c × Received c.before.trace c.after.trace
MeansCause (suc (suc (suc (suc (suc zero))))) inputs c = Received c.before.trace c.after.trace
MeansCause (suc (suc (suc (suc (suc (suc zero)))))) inputs c = (IsUnreadNamed c ⊎ HasUnreadSource inputs c) × Received c.before.trace c.after.trace
MeansCause (suc (suc (suc (suc (suc (suc (suc zero))))))) inputs c = HasFailedPut c.before c.after
MeansCause (suc (suc (suc (suc (suc (suc (suc (suc zero)))))))) inputs c = Unit {0}
MeansCause (suc (suc (suc (suc (suc (suc (suc (suc (suc zero))))))))) inputs c = IsRefusedOrLong inputs c × Received c.before.trace c.after.trace
MeansCause (suc (suc (suc (suc (suc (suc (suc (suc (suc (suc n)))))))))) inputs c = Received c.before.trace c.after.trace

-- where no put has failed and there was memory, the trace received some text
traced : (status : ℕ) (inputs : Inputs) (c : Call) → MeansCause status inputs c → (status ≡ 7 → ⊥) → (status ≡ 8 → ⊥) → Received c.before.trace c.after.trace
traced zero inputs c means not_broken not_memory = means.1
traced (suc zero) inputs c means not_broken not_memory = means
traced (suc (suc zero)) inputs c means not_broken not_memory = means
traced (suc (suc (suc zero))) inputs c means not_broken not_memory = means
traced (suc (suc (suc (suc zero)))) inputs c means not_broken not_memory = means.1
traced (suc (suc (suc (suc (suc zero))))) inputs c means not_broken not_memory = means
traced (suc (suc (suc (suc (suc (suc zero)))))) inputs c means not_broken not_memory = means.1
traced (suc (suc (suc (suc (suc (suc (suc zero))))))) inputs c means not_broken not_memory = absurd (not_broken refl)
traced (suc (suc (suc (suc (suc (suc (suc (suc zero)))))))) inputs c means not_broken not_memory = absurd (not_memory refl)
traced (suc (suc (suc (suc (suc (suc (suc (suc (suc zero))))))))) inputs c means not_broken not_memory = means.1
traced (suc (suc (suc (suc (suc (suc (suc (suc (suc (suc n)))))))))) inputs c means not_broken not_memory = means

caused_by_means : (status : ℕ) (inputs : Inputs) (c : Call) → MeansCause status inputs c → HasCause status inputs c
caused_by_means status inputs c means = record {
  done = λ is. (subst (λ n. MeansCause n inputs c) is means).0;
  malformed = λ is. (subst (λ n. MeansCause n inputs c) is means).0;
  unreadable = λ is. (subst (λ n. MeansCause n inputs c) is means).0;
  broken = λ is. subst (λ n. MeansCause n inputs c) is means;
  state = λ is. (subst (λ n. MeansCause n inputs c) is means).0;
  trace = traced status inputs c means;
}

-- ---- what such a call can end with

-- no source was asked for
abbrev AsksNoSource : Inputs → Outside → Outside → Type 0
AsksNoSource inputs before after = asks_between before.shelf after.shelf ≡ map given_ask (texts_of inputs)

-- a run that goes on from a state, or a snapshot, ends so; of a text that was not read it is known which, of a state that is refused that
-- no source was asked for, and of too many steps what state it goes on from
abbrev pub EndsWith : CallEnd → Inputs → Outside → Outside → Type 0
EndsWith (Line (Done a l n v)) inputs before after = Unit {0}
EndsWith (Line (Malformed n row kind)) inputs before after = Unit {0}
EndsWith (Line (Fault stream kind time)) inputs before after = Unit {0}
EndsWith (Line (UnreadableSource n)) inputs before after = Unit {0}
EndsWith (Line Usage) inputs before after = ⊥
EndsWith (Line (Refused r)) inputs before after = Unit {0}
EndsWith (Line UnreadableSpecification) inputs before after = StoodUnread 0 before after
EndsWith (Line (Analysed n w)) inputs before after = ⊥
EndsWith (Drilled line) inputs before after = ⊥
EndsWith (Report text) inputs before after = Unit {0}
EndsWith (Replayed end) inputs before after = ⊥
EndsWith (Stated state_end.Unreadable) inputs before after = StoodUnread 1 before after
EndsWith (Stated (state_end.Damaged line)) inputs before after = AsksNoSource inputs before after
EndsWith (Stated state_end.OtherSpecification) inputs before after = AsksNoSource inputs before after
EndsWith (Stated state_end.TooManySteps) inputs before after = IsLongState inputs.state before.shelf
EndsWith CutFault inputs before after = Unit {0}
EndsWith Put inputs before after = Unit {0}
EndsWith Memory inputs before after = Unit {0}

pub resumed_ends : (outcome : CallEnd) (names : Resumption) (before after : Outside) → WorksResumed outcome names before after → EndsWith outcome (inputs_of_resumed names) before after
resumed_ends (Line (Done a l n v)) names before after works = tt
resumed_ends (Line (Malformed n row kind)) names before after works = tt
resumed_ends (Line (Fault stream kind time)) names before after works = tt
resumed_ends (Line (UnreadableSource n)) names before after works = tt
resumed_ends (Line Usage) names before after works = works
resumed_ends (Line (Refused r)) names before after works = tt
resumed_ends (Line UnreadableSpecification) names before after works = works
resumed_ends (Line (Analysed n w)) names before after works = works
resumed_ends (Drilled line) names before after works = works
resumed_ends (Report text) names before after works = tt
resumed_ends (Replayed end) names before after works = works
resumed_ends (Stated state_end.Unreadable) names before after works = works
resumed_ends (Stated (state_end.Damaged line)) names before after works = works.asks
resumed_ends (Stated state_end.OtherSpecification) names before after works = works.asks
resumed_ends (Stated state_end.TooManySteps) names before after works = absurd works
resumed_ends CutFault names before after works = tt
resumed_ends Put names before after works = tt
resumed_ends Memory names before after works = tt

-- a state that is refused
refused_asks : (end : StateEnd) (specification : List ℕ) (state : Option (List ℕ)) (before after : Outside) → RefusesState end specification state before after
    → asks_between before.shelf after.shelf ≡ map given_ask (specification ∷ option_to_list state)
refused_asks end specification None before after refused = absurd refused
refused_asks end specification (Some state) before after refused = refused.asks

pub snapshot_ends : (outcome : CallEnd) (names : SnapshotNames) (before after : Outside) → WorksSnapshot outcome names before after → EndsWith outcome (inputs_of names) before after
snapshot_ends (Line (Done a l n v)) names before after works = tt
snapshot_ends (Line (Malformed n row kind)) names before after works = tt
snapshot_ends (Line (Fault stream kind time)) names before after works = tt
snapshot_ends (Line (UnreadableSource n)) names before after works = tt
snapshot_ends (Line Usage) names before after works = works
snapshot_ends (Line (Refused r)) names before after works = tt
snapshot_ends (Line UnreadableSpecification) names before after works = works
snapshot_ends (Line (Analysed n w)) names before after works = works
snapshot_ends (Drilled line) names before after works = works
snapshot_ends (Report text) names before after works = tt
snapshot_ends (Replayed end) names before after works = works
snapshot_ends (Stated state_end.Unreadable) names before after works = works
snapshot_ends (Stated (state_end.Damaged line)) names before after works = refused_asks (state_end.Damaged line) names.specification names.state before after works
snapshot_ends (Stated state_end.OtherSpecification) names before after works = refused_asks state_end.OtherSpecification names.specification names.state before after works
snapshot_ends (Stated state_end.TooManySteps) names before after works = works.1
snapshot_ends CutFault names before after works = tt
snapshot_ends Put names before after works = tt
snapshot_ends Memory names before after works = tt

-- ---- once the last line was put

module _ (inputs : Inputs) (words : List (List ℕ)) (before after : Outside) (last : SinkState) where
  abbrev here : Call
  here = call words before (record after { out = last })

  abbrev P : ℕ → Type 0
  P status = MeansCause status inputs here

  at : (n status : ℕ) → status ≡ n → P n → P status
  at n status is means = subst P (sym is) means

  -- the sink received a text and then a last line
  received_both : PutsAddUp → (line : List ℕ) (r : Received before.out after.out) → last ≡ grown after.out line → last ≡ grown before.out (r.0 ++ line)
  received_both parts line r put = put ∙ (ap (λ (s : SinkState). grown s line) r.1 ∙ parts before.out r.0 line)

  -- a put to it failed behind a text
  broke : (line : List ℕ) → Received before.out after.out → PutBroke after.out last line → HasFailedPut before (record after { out = last })
  broke line r cut = inl (subst (λ n. Rose n last.count) (ap (λ (s : SinkState). s.count) r.1) cut.rose)

  -- one failed before the last line
  broke_before : last ≡ after.out → HasFailedPut before after → HasFailedPut before (record after { out = last })
  broke_before same failed = subst (λ (s : SinkState). HasFailedPut before (record after { out = s })) (sym same) failed

  well : PutsAddUp → (line : List ℕ) → last ≡ grown after.out line → StoodWell inputs before after → P 0
  well parts line put w = (record { well = w.well; out = (w.whole.out.0 ++ line, received_both parts line w.whole.out put) }, w.whole.trace)

  malformed : PutsAddUp → (line : EndLine) → last ≡ grown after.out (end_text line) → StoodMalformedSource line inputs before after → P 4
  malformed parts line put w = (
    record {
      at = w.at;
      some = w.some;
      text = w.whole.out.0;
      out = received_both parts (end_text line) w.whole.out put ∙ ap (λ (l : EndLine). grown before.out (w.whole.out.0 ++ end_text l)) w.line_is;
    },
    w.whole.trace,
  )

  unread_source : (line : EndLine) → Wrote after.out last (end_text line) → StoodUnreadSource line inputs before after → P 6
  unread_source line wrote w = (
    inr (record {
      at = w.at;
      some = w.some;
      text = w.whole.out.0;
      out = subst (λ (l : EndLine). Wrote (grown before.out w.whole.out.0) last (end_text l)) w.line_is (subst (λ (s : SinkState). Wrote s last (end_text line)) w.whole.out.1 wrote);
    }),
    w.whole.trace,
  )

  means_cause : PutsAddUp → (status : ℕ) (outcome : CallEnd) → EndsWith outcome inputs before after → Causes outcome inputs before after → Concluded status outcome after.out last → P status
  means_cause parts status (Line (Done a l n v)) ends w (inl e) = at 0 status e.0 (well parts (end_text (Done a l n v)) e.1 w)
  means_cause parts status (Line (Done a l n v)) ends w (inr (inl e)) = at 7 status e.0 (broke (end_text (Done a l n v)) w.whole.out e.1)
  means_cause parts status (Line (Done a l n v)) ends w (inr (inr e)) = at 8 status e.0 tt
  means_cause parts status (Line Usage) ends w e = absurd ends
  means_cause parts status (Line (Refused r)) ends w (inl e) = at 3 status e.0 w.trace
  means_cause parts status (Line (Refused r)) ends w (inr (inl e)) = at 3 status e.0 w.trace
  means_cause parts status (Line (Refused r)) ends w (inr (inr e)) = at 8 status e.0 tt
  means_cause parts status (Line (Malformed n row kind)) ends w (inl e) = at 4 status e.0 (malformed parts (Malformed n row kind) e.1 w)
  means_cause parts status (Line (Malformed n row kind)) ends w (inr (inl e)) = at 7 status e.0 (broke (end_text (Malformed n row kind)) w.whole.out e.1)
  means_cause parts status (Line (Malformed n row kind)) ends w (inr (inr e)) = at 8 status e.0 tt
  means_cause parts status (Line (Fault name kind time)) ends w (inl e) = at 5 status e.0 w.trace
  means_cause parts status (Line (Fault name kind time)) ends w (inr (inl e)) = at 5 status e.0 w.trace
  means_cause parts status (Line (Fault name kind time)) ends w (inr (inr e)) = at 8 status e.0 tt
  means_cause parts status (Line UnreadableSpecification) ends w (inl e) = at 6 status e.0 (inl (inl (refusals.unread words before after last 0 (end_text UnreadableSpecification) (inl e.1) ends)), w.trace)
  means_cause parts status (Line UnreadableSpecification) ends w (inr (inl e)) = at 6 status e.0 (inl (inl (refusals.unread words before after last 0 (end_text UnreadableSpecification) (inr e.1) ends)), w.trace)
  means_cause parts status (Line UnreadableSpecification) ends w (inr (inr e)) = at 8 status e.0 tt
  means_cause parts status (Line (UnreadableSource n)) ends w (inl e) = at 6 status e.0 (unread_source (UnreadableSource n) (inl e.1) w)
  means_cause parts status (Line (UnreadableSource n)) ends w (inr (inl e)) = at 6 status e.0 (unread_source (UnreadableSource n) (inr e.1) w)
  means_cause parts status (Line (UnreadableSource n)) ends w (inr (inr e)) = at 8 status e.0 tt
  means_cause parts status (Line (Analysed n v)) ends w e = absurd ends
  means_cause parts status (Drilled line) ends w e = absurd ends
  means_cause parts status (Report text) ends w (inl e) = at 0 status e.0 (well parts text e.1 w)
  means_cause parts status (Report text) ends w (inr (inl e)) = at 7 status e.0 (broke text w.whole.out e.1)
  means_cause parts status (Report text) ends w (inr (inr e)) = at 8 status e.0 tt
  means_cause parts status (Replayed end) ends w e = absurd ends
  means_cause parts status (Stated state_end.Unreadable) ends w (inl e) = at 6 status e.0 (inl (inr (refusals.unread words before after last 1 (state_end_text state_end.Unreadable) (inl e.1) ends)), w.trace)
  means_cause parts status (Stated state_end.Unreadable) ends w (inr (inl e)) = at 6 status e.0 (inl (inr (refusals.unread words before after last 1 (state_end_text state_end.Unreadable) (inr e.1) ends)), w.trace)
  means_cause parts status (Stated state_end.Unreadable) ends w (inr (inr e)) = at 8 status e.0 tt
  means_cause parts status (Stated (state_end.Damaged line)) ends w (inl e) = at 9 status e.0 (inl ends, w.trace)
  means_cause parts status (Stated (state_end.Damaged line)) ends w (inr (inl e)) = at 9 status e.0 (inl ends, w.trace)
  means_cause parts status (Stated (state_end.Damaged line)) ends w (inr (inr e)) = at 8 status e.0 tt
  means_cause parts status (Stated state_end.OtherSpecification) ends w (inl e) = at 9 status e.0 (inl ends, w.trace)
  means_cause parts status (Stated state_end.OtherSpecification) ends w (inr (inl e)) = at 9 status e.0 (inl ends, w.trace)
  means_cause parts status (Stated state_end.OtherSpecification) ends w (inr (inr e)) = at 8 status e.0 tt
  means_cause parts status (Stated state_end.TooManySteps) ends w (inl e) = at 9 status e.0 (inr (w.well, ends), w.whole.trace)
  means_cause parts status (Stated state_end.TooManySteps) ends w (inr (inl e)) = at 9 status e.0 (inr (w.well, ends), w.whole.trace)
  means_cause parts status (Stated state_end.TooManySteps) ends w (inr (inr e)) = at 8 status e.0 tt
  means_cause parts status CutFault ends w e = at 5 status e.0 w.1
  means_cause parts status Put ends w e = at 7 status e.0 (broke_before e.1 w)
  means_cause parts status Memory ends w e = at 8 status e.0 tt

  -- why the call has its status
  pub has_cause : PutsAddUp → (status : ℕ) (outcome : CallEnd) → EndsWith outcome inputs before after → Causes outcome inputs before after → Concluded status outcome after.out last → HasCause status inputs here
  has_cause parts status outcome ends cause concluded = caused_by_means status inputs here (means_cause parts status outcome ends cause concluded)
