-- Which status a snapshot has, from what it was given.
use Rattle.std.proofs.Common.{◌≡◌, ◌⊎◌, ℕ, ◌<◌, ◌≤◌, List, Option, None, Some, slice_get, inl, inr, refl, sym, subst, arith}
use Rattle.lola_model.specs.Journal.{rows_of}
use Rattle.lola_model.specs.declared.plan.Plan.{Plan}
use Rattle.lola_rows.specs.Rows.{SourceEnd, Whole}
use Rattle.lola_port.specs.States.{SinkState}
use Rattle.lola_save_text.specs.Damage.{IsStateText}
use Rattle.lola_save_text.specs.Fitting.{most_steps}
use Rattle.lola_monitor.specs.Causes.{Causes}
use Rattle.lola_monitor.specs.Command.{SnapshotNames}
use Rattle.lola_monitor.specs.Conclusions.{Concluded}
use Rattle.lola_monitor.specs.Monitor.{Call, Outside, Plans, call, source_rows}
use Rattle.lola_monitor.specs.Pasts.{IsReadable, IsRefusedNamed, IsSpoiledNamed, IsUnreadNamed}
use Rattle.lola_monitor.specs.SnapshotOutcomes.{HasState, Prepared, WorksSnapshot}
use Rattle.lola_monitor.specs.Snapshots.{DecidedSnapshot, IsBadStateIn, IsBrokenSnapshot, IsCleanSnapshot, IsCutShortSnapshot, IsFaultSnapshot, IsMalformedSnapshot, IsSaved, RowsBehind, inputs_of, steps_with}
use Rattle.lola_monitor.specs.declared.call_end.CallEnd.{CallEnd}
use Rattle.lola_monitor.proofs.Listed.{get_beside}
use Rattle.lola_monitor.proofs.SnapshotEnds.{means_snapshot}
use Rattle.lola_monitor.proofs.SnapshotMeans.{Has, IsTooLong, Refuses, SnapshotMeans, by_snapshot}
use Rattle.lola_monitor.proofs.Statuses.{is_whole, none_malformed}

not_both : (n m : ℕ) → n ≤ m → m < n → ⊥
not_both n m few many = omega (arith, few, many)

module _ (names : SnapshotNames) (c : Call) where
  -- a shelf that has not failed has no text that was not read
  sound : (specification : List ℕ) → IsReadable specification c → IsUnreadNamed c → ⊥
  sound specification read (inl unread) = read.shelf unread.rose
  sound specification read (inr unread) = read.shelf unread.rose

  not_refused : IsReadable names.specification c → IsRefusedNamed names.specification c → ⊥
  not_refused read bad = read.not_refused bad.refusal (bad.cause read.text read.text_is)

  module _ (clean : IsCleanSnapshot names c) where
    whole_at : (bad : IsMalformedSnapshot names clean.start clean.front c) (s : ℕ) (end : SourceEnd) → slice_get bad.some.ends s ≡ Some end → end ≡ Whole
    whole_at bad s end is =
        let run = bad.some.run in
        let name = get_beside bad.some.ends names.sources s end (sym bad.some.rows.many) is in
        let told = clean.sources.told s name.0 name.1 in
        is_whole end (source_rows run.plan s told.0) (rows_of s run.journal)
        (clean.sources.ends s name.0 told.0 run.plan name.1 told.1 (run.is_plan clean.read.text clean.read.text_is)) (bad.some.rows.each s name.0 end name.1 is told.0 told.1)

    clean_malformed : Has IsMalformedSnapshot names c → ⊥
    clean_malformed has =
        let bad = has.1 clean.start clean.front clean.is_past in
        let none = none_malformed bad.some.ends (whole_at bad) in
        let some = bad.some.least in
        absurd (cc)

    clean_fault : Has IsFaultSnapshot names c → ⊥
    clean_fault has =
        let bad = has.1 clean.start clean.front clean.is_past in
        let none = clean.no_fault bad.run in
        let some = bad.is_fault.settled in
        absurd (cc)

    clean_unreadable : IsUnreadNamed c ⊎ Has IsCutShortSnapshot names c → ⊥
    clean_unreadable (inl unread) = sound names.specification clean.read unread
    clean_unreadable (inr has) = clean.read.shelf (has.1 clean.start clean.front clean.is_past).others.rose

    put_whole : IsBrokenSnapshot names clean.start clean.front c → ⊥
    put_whole (inl cut) = clean.out (cut.out clean.read.text clean.read.text_is).rose
    put_whole (inr cut) = clean.out cut.out.rose

    clean_broken : Has IsBrokenSnapshot names c → ⊥
    clean_broken has = put_whole (has.1 clean.start clean.front clean.is_past)

    clean_state : Refuses names c → ⊥
    clean_state bad = bad.none clean.start clean.front clean.is_past

    module _ (few : (run : RowsBehind names clean.start clean.front c) → steps_with names clean.start clean.front c run ≤ most_steps) where
      clean_long : Refuses names c ⊎ IsTooLong names c → ⊥
      clean_long (inl bad) = clean_state bad
      clean_long (inr has) = let bad = has.0.1 clean.start clean.front clean.is_past in not_both _ most_steps (few bad.snapshot.all.run) bad.many

    module _ (many : (run : RowsBehind names clean.start clean.front c) → most_steps < steps_with names clean.start clean.front c run) where
      clean_saved : Has IsSaved names c → ⊥
      clean_saved has = let bad = has.1 clean.start clean.front clean.is_past in not_both _ most_steps bad.few (many bad.snapshot.all.run)

  module _ (spoiled : IsSpoiledNamed names.specification c) where
    no_plan : (plan : Plan) → Plans (c.before.shelf.told names.specification) plan → ⊥
    no_plan plan is = spoiled.no_plan plan (is spoiled.text spoiled.text_is)

    spoiled_has : Prepared names c.before.shelf → ⊥
    spoiled_has p = no_plan p.plan p.is_plan

    spoiled_unreadable : IsUnreadNamed c ⊎ Has IsCutShortSnapshot names c → ⊥
    spoiled_unreadable (inl (inl unread)) = spoiled.shelf unread.rose
    spoiled_unreadable (inl (inr unread)) = spoiled.shelf unread.rose
    spoiled_unreadable (inr has) = spoiled_has has.0

    spoiled_state : Refuses names c ⊎ IsTooLong names c → ⊥
    spoiled_state (inl bad) = no_plan bad.plan bad.is_plan
    spoiled_state (inr has) = spoiled_has has.0.0

  -- a state that is none
  bad_read : (o : Option (List ℕ)) → IsBadStateIn names o c → IsReadable names.specification c
  bad_read None bad = absurd bad
  bad_read (Some state) bad = bad.read

  bad_text : (o : Option (List ℕ)) (p : Prepared names c.before.shelf) → IsBadStateIn names o c → HasState o p.text p.plan c.before.shelf → ⊥
  bad_text None p bad has = bad
  bad_text (Some state) p bad has =
      bad.bad p.plan (p.is_plan bad.read.text bad.read.text_is) (subst (λ (t : List ℕ). IsStateText t p.plan bad.bytes) (p.is_text bad.read.text bad.read.text_is) (has bad.bytes bad.bytes_are))

  module _ (bad : IsBadStateIn names names.state c) where
    bad_has : Prepared names c.before.shelf → ⊥
    bad_has p = bad_text names.state p bad p.state

    bad_unreadable : IsUnreadNamed c ⊎ Has IsCutShortSnapshot names c → ⊥
    bad_unreadable (inl unread) = sound names.specification (bad_read names.state bad) unread
    bad_unreadable (inr has) = bad_has has.0

  abbrev Saves : ℕ → Type 0
  Saves n = (n ≡ 0) ⊎ (n ≡ 8)

  abbrev IsLong : ℕ → Type 0
  IsLong n = (n ≡ 9) ⊎ (n ≡ 8)

  abbrev IsNoPlan : ℕ → Type 0
  IsNoPlan n = (n ≡ 3) ⊎ (n ≡ 8)

  pub decided_by : (status : ℕ) → SnapshotMeans status names c → DecidedSnapshot status names c
  decided_by status means = record {
    snapshot = λ clean few. by_snapshot Saves names c (λ m. inl refl) (λ m. absurd (not_refused clean.read m)) (λ m. absurd (clean_malformed clean m)) (λ m. absurd (clean_fault clean m))
        (λ m. absurd (clean_unreadable clean m)) (λ m. absurd (clean_broken clean m)) (λ m. inr refl) (λ m. absurd (clean_long clean few m)) status means;
    too_long = λ clean many. by_snapshot IsLong names c (λ m. absurd (clean_saved clean many m)) (λ m. absurd (not_refused clean.read m)) (λ m. absurd (clean_malformed clean m)) (λ m. absurd (clean_fault clean m))
        (λ m. absurd (clean_unreadable clean m)) (λ m. absurd (clean_broken clean m)) (λ m. inr refl) (λ m. inl refl) status means;
    refused = λ spoiled. by_snapshot IsNoPlan names c (λ m. absurd (spoiled_has spoiled m.0)) (λ m. inl refl) (λ m. absurd (spoiled_has spoiled m.0)) (λ m. absurd (spoiled_has spoiled m.0))
        (λ m. absurd (spoiled_unreadable spoiled m)) (λ m. absurd (spoiled_has spoiled m.0)) (λ m. inr refl) (λ m. absurd (spoiled_state spoiled m)) status means;
    state = λ bad. by_snapshot IsLong names c (λ m. absurd (bad_has bad m.0)) (λ m. absurd (not_refused (bad_read names.state bad) m)) (λ m. absurd (bad_has bad m.0)) (λ m. absurd (bad_has bad m.0))
        (λ m. absurd (bad_unreadable bad m)) (λ m. absurd (bad_has bad m.0)) (λ m. inr refl) (λ m. inl refl) status means;
  }

-- which statuses a snapshot can have, by what it was given
pub decided_snapshot : (words : List (List ℕ)) (names : SnapshotNames) (before after : Outside) (last : SinkState) (status : ℕ) (outcome : CallEnd) → WorksSnapshot outcome names before after → Causes outcome (inputs_of names) before after → Concluded status outcome after.out last
    → DecidedSnapshot status names (call words before (record after { out = last }))
decided_snapshot words names before after last status outcome works cause e = decided_by names (call words before (record after { out = last })) status (means_snapshot words names before after last status outcome works cause e)
