-- Which status a run has that goes on from a state, from what it was given.
use Rattle.std.proofs.Common.{◌≡◌, ◌⊎◌, ℕ, List, Option, Some, inl, inr, slice_get, refl, sym}
use Rattle.lola_port.specs.States.{SinkState}
use Rattle.lola_port.specs.declared.traits.Ask.{Ask}
use Rattle.lola_rows.specs.Rows.{SourceEnd, Whole}
use Rattle.lola_model.specs.Journal.{rows_of}
use Rattle.lola_model.specs.declared.journal.Entry.{Entry}
use Rattle.lola_model.specs.declared.plan.Plan.{Plan}
use Rattle.lola_front.specs.Front.{IsPlanOf}
use Rattle.lola_front_law.proofs.PlanLiterals.{plan-texts}
use Rattle.lola_save.specs.StateEnds.{IsRefusedState}
use Rattle.lola_save.specs.declared.end.StateEnd.{StateEnd}
use Rattle.lola_save.specs.declared.end.StateEnd.TheVariants as state_end
use Rattle.lola_save_text.specs.JournalStates.{state_of}
use Rattle.lola_save_text.proofs.StatesSaved.{state-is-saved}
use Rattle.lola_save_text.specs.Damage.{IsStateText}
use Rattle.lola_monitor_run.specs.Verdicts.{Setting}
use Rattle.lola_monitor.specs.Command.{Resumption}
use Rattle.lola_monitor.specs.Conclusions.{Concluded}
use Rattle.lola_monitor.specs.Monitor.{Call, Outside, Plans, call, source_rows}
use Rattle.lola_monitor.specs.Pasts.{IsBadState, IsFrontIn, IsRefusedNamed, IsSavedAs, IsSpoiledNamed, IsStateRefused}
use Rattle.lola_monitor.specs.Resumed.{CutsOffBehind, DecidedResumed, IsBrokenBehind, IsCleanResumed, IsMalformedBehind}
use Rattle.lola_monitor.specs.ResumedOutcomes.{GoesOn, WorksResumed}
use Rattle.lola_monitor.specs.declared.call_end.CallEnd.{CallEnd}
use Rattle.lola_monitor.proofs.Laws.{PutsAddUp}
use Rattle.lola_monitor.proofs.Listed.{get_beside}
use Rattle.lola_monitor.proofs.ResumedEnds.{MeansResumed, by_resumed, means_resumed}
use Rattle.lola_monitor.proofs.Statuses.{is_whole, none_malformed}

-- what is refused is no state
pub not_refused : (text : List ℕ) (plan : Plan) (bytes : List ℕ) (end : StateEnd) → IsRefusedState text plan bytes end → IsStateText text plan bytes → ⊥
not_refused text plan bytes state_end.Unreadable refused is = absurd refused
not_refused text plan bytes (state_end.Damaged line) refused is = refused.1.none is
not_refused text plan bytes state_end.OtherSpecification refused is = refused.1 is
not_refused text plan bytes state_end.TooManySteps refused is = absurd refused

-- the state of a journal is one
pub saved_is_state : (text : List ℕ) (plan : Plan) (bytes : List ℕ) (start : Option ℕ) (front : List Entry) → IsPlanOf text plan → IsSavedAs text plan bytes start front → IsStateText text plan bytes
saved_is_state text plan bytes start front is_plan saved = record {
  state = state_of plan start front;
  saved = state-is-saved plan is_plan.accepted (plan-texts text plan is_plan) start front saved.of;
  written = saved.text;
}

module _ (names : Resumption) (c : Call) where
  module _ (clean : IsCleanResumed names c) where
    plan_told : (plan : Plan) → Plans (c.before.shelf.told names.specification) plan → IsPlanOf clean.read.text plan
    plan_told plan is = is clean.read.text clean.read.text_is

    whole_at : (bad : IsMalformedBehind names clean.start clean.front c) (s : ℕ) (end : SourceEnd) → slice_get bad.some.ends s ≡ Some end → end ≡ Whole
    whole_at bad s end is =
        let run = bad.some.run in
        let name = get_beside bad.some.ends names.sources s end (sym bad.some.rows.many) is in
        let told = clean.sources.told s name.0 name.1 in
        is_whole end (source_rows run.plan s told.0) (rows_of s run.journal) (clean.sources.ends s name.0 told.0 run.plan name.1 told.1 (plan_told run.plan run.is_plan))
        (bad.some.rows.each s name.0 end name.1 is told.0 told.1)

    clean_malformed : IsMalformedBehind names clean.start clean.front c → ⊥
    clean_malformed bad = let none = none_malformed bad.some.ends (whole_at bad) in let some = bad.some.least in absurd (cc)

    clean_fault : MeansResumed 5 names c → ⊥
    clean_fault goes =
        let bad = goes.rows clean.start clean.front clean.is_front in
        let none = clean.no_fault bad.run bad.trace in
        let some = bad.is_fault in
        absurd (cc)

    clean_unreadable : MeansResumed 6 names c → ⊥
    clean_unreadable (inl (inl bad)) = clean.read.shelf bad.rose
    clean_unreadable (inl (inr bad)) = clean.read.shelf bad.rose
    clean_unreadable (inr (inl bad)) = clean.read.shelf bad.rose
    clean_unreadable (inr (inr goes)) = let bad = goes.rows clean.start clean.front clean.is_front in clean.read.shelf bad.others.rose

    clean_cut : (s : Setting) (front : List Entry) (sources : List (List ℕ)) (asks : List Ask) (journal : List Entry) → CutsOffBehind s front sources asks c.before c.after journal → ⊥
    clean_cut s front sources asks journal (inl cut) = clean.trace cut.trace.cut.rose
    clean_cut s front sources asks journal (inr (inl cut)) = clean.out cut.out.cut.rose
    clean_cut s front sources asks journal (inr (inr cut)) = clean.out cut.out.cut.rose

    clean_broken : IsBrokenBehind names clean.start clean.front c → ⊥
    clean_broken (inl bad) = clean_cut _ clean.front names.sources bad.run.asks bad.run.journal bad.cut
    clean_broken (inr (inl bad)) = clean.out bad.out.rose
    clean_broken (inr (inr bad)) = clean.out bad.out.rose

    clean_refused : IsRefusedNamed names.specification c → ⊥
    clean_refused bad = clean.read.not_refused bad.refusal (bad.cause clean.read.text clean.read.text_is)

    clean_front : (bad : IsStateRefused names.specification names.state c) → IsFrontIn c.before.shelf names.specification names.state clean.start clean.front → ⊥
    clean_front bad front =
        let is_plan = bad.is_plan front.text front.text_is in
        not_refused front.text bad.plan front.bytes bad.end (bad.cause front.text front.bytes front.text_is front.bytes_are)
        (saved_is_state front.text bad.plan front.bytes clean.start clean.front is_plan (front.saved bad.plan is_plan))

    clean_run : (status : ℕ) → MeansResumed status names c → (status ≡ 0) ⊎ (status ≡ 8)
    clean_run status means =
        by_resumed (λ s. (s ≡ 0) ⊎ (s ≡ 8)) names c (λ m. inl refl) (λ m. absurd (clean_refused m)) (λ m. absurd (clean_malformed (m.rows clean.start clean.front clean.is_front))) (λ m. absurd (clean_fault m))
        (λ m. absurd (clean_unreadable m)) (λ m. absurd (clean_broken (m.rows clean.start clean.front clean.is_front))) (λ m. inr refl) (λ m. absurd (clean_front m clean.is_front)) status means

  module _ (spoiled : IsSpoiledNamed names.specification c) where
    no_plan : (plan : Plan) → Plans (c.before.shelf.told names.specification) plan → ⊥
    no_plan plan is = spoiled.no_plan plan (is spoiled.text spoiled.text_is)

    spoiled_unreadable : MeansResumed 6 names c → ⊥
    spoiled_unreadable (inl (inl bad)) = spoiled.shelf bad.rose
    spoiled_unreadable (inl (inr bad)) = spoiled.shelf bad.rose
    spoiled_unreadable (inr (inl bad)) = spoiled.shelf bad.rose
    spoiled_unreadable (inr (inr goes)) = no_plan goes.plan goes.is_plan

    spoiled_run : (status : ℕ) → MeansResumed status names c → (status ≡ 3) ⊎ (status ≡ 8)
    spoiled_run status means =
        by_resumed (λ s. (s ≡ 3) ⊎ (s ≡ 8)) names c (λ m. absurd (no_plan m.plan m.is_plan)) (λ m. inl refl) (λ m. absurd (no_plan m.plan m.is_plan)) (λ m. absurd (no_plan m.plan m.is_plan))
        (λ m. absurd (spoiled_unreadable m)) (λ m. absurd (no_plan m.plan m.is_plan)) (λ m. inr refl) (λ m. absurd (no_plan m.plan m.is_plan)) status means

  module _ (bad : IsBadState names.specification names.state c) where
    no_state : (P : Option ℕ → List Entry → Type 0) → GoesOn P names c.before.shelf → ⊥
    no_state P goes = bad.bad goes.plan (goes.is_plan bad.read.text bad.read.text_is) (goes.is_state bad.read.text bad.bytes bad.read.text_is bad.bytes_are)

    bad_unreadable : MeansResumed 6 names c → ⊥
    bad_unreadable (inl (inl m)) = bad.read.shelf m.rose
    bad_unreadable (inl (inr m)) = bad.read.shelf m.rose
    bad_unreadable (inr (inl m)) = bad.read.shelf m.rose
    bad_unreadable (inr (inr goes)) = no_state _ goes

    bad_refused : IsRefusedNamed names.specification c → ⊥
    bad_refused m = bad.read.not_refused m.refusal (m.cause bad.read.text bad.read.text_is)

    bad_run : (status : ℕ) → MeansResumed status names c → (status ≡ 9) ⊎ (status ≡ 8)
    bad_run status means =
        by_resumed (λ s. (s ≡ 9) ⊎ (s ≡ 8)) names c (λ m. absurd (no_state _ m)) (λ m. absurd (bad_refused m)) (λ m. absurd (no_state _ m)) (λ m. absurd (no_state _ m)) (λ m. absurd (bad_unreadable m))
        (λ m. absurd (no_state _ m)) (λ m. inr refl) (λ m. inl refl) status means

  pub decided_by_means : (status : ℕ) → MeansResumed status names c → DecidedResumed status names c
  decided_by_means status means = record {
    run = λ clean. clean_run clean status means;
    refused = λ spoiled. spoiled_run spoiled status means;
    state = λ bad. bad_run bad status means;
  }

-- which status such a call has by what it was given
pub decided_resumed : PutsAddUp → (names : Resumption) (words : List (List ℕ)) (before after : Outside) (last : SinkState) (status : ℕ) (outcome : CallEnd)
    → WorksResumed outcome names before after → Concluded status outcome after.out last → DecidedResumed status names (call words before (record after { out = last }))
decided_resumed parts names words before after last status outcome works concluded =
    decided_by_means names (call words before (record after { out = last })) status (means_resumed names words before after last parts status outcome works concluded)
