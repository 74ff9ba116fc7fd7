-- What any command leaves, by its status.
use Rattle.std.proofs.Common.{◌≡◌, ℕ, List, Option, None, Some, inl, inr, refl, subst}
use Rattle.lola_port.specs.States.{SinkState}
use Rattle.lola_monitor_command.specs.Command.{command_of}
use Rattle.lola_monitor_command.specs.declared.command.Command.{Command}
use Rattle.lola_monitor_command.specs.declared.command.Command.TheVariants.{Run, Analyse, Drill, Replay, Snapshot}
use Rattle.lola_monitor.specs.AnyOutcomes.{WorksAny}
use Rattle.lola_monitor.specs.Command.{IsWithoutState, Resumption, SnapshotNames, resumption_by, resumption_of, snapshot_by, snapshot_of}
use Rattle.lola_monitor.specs.Conclusions.{Concluded}
use Rattle.lola_monitor.specs.Monitor.{Call, Outside, call}
use Rattle.lola_monitor.specs.Resumed.{DecidedResumed, EndedResumed}
use Rattle.lola_monitor.specs.Snapshots.{DecidedSnapshot, EndedSnapshot}
use Rattle.lola_monitor.specs.Statuses.{Decided, Ended}
use Rattle.lola_monitor.specs.declared.call_end.CallEnd.{CallEnd}
use Rattle.lola_monitor.specs.declared.call_end.CallEnd.TheVariants.{Memory}
use Rattle.lola_monitor.proofs.Ends.{means_of}
use Rattle.lola_monitor.proofs.Laws.{OneFinding, PutsAddUp}
use Rattle.lola_monitor.proofs.Means.{ended}
use Rattle.lola_monitor.proofs.ResumedEnds.{ended_resumed}
use Rattle.lola_monitor.proofs.ResumedStatuses.{decided_resumed}
use Rattle.lola_monitor.proofs.SnapshotEnds.{ended_snapshot}
use Rattle.lola_monitor.proofs.SnapshotStatuses.{decided_snapshot}
use Rattle.lola_monitor.proofs.Statuses.{decided}

-- there was no memory to read the words
pub no_memory : (words : List (List ℕ)) (here : Outside) → WorksAny Memory words here here
no_memory words here = go (resumption_of words) (snapshot_of words) refl refl
  where
    go : (a : Option Resumption) (b : Option SnapshotNames) → resumption_of words ≡ a → snapshot_of words ≡ b → WorksAny Memory words here here
    go None None none still = inl (record { no_resumption = none; no_snapshot = still }, inl (record { trace = refl; out = refl }))
    go (Some names) b is other = inr (inl (record { names = names; is_command = is; works = inl (record { trace = refl; out = refl }); cause = tt }))
    go None (Some names) none is = inr (inr (record { names = names; is_command = is; works = record { trace = refl; out = refl }; cause = tt }))

-- no command is both
not_both : (words : List (List ℕ)) (c : Option Command) (a : Resumption) (b : SnapshotNames) → resumption_by words c ≡ Some a → snapshot_by words c ≡ Some b → ⊥
not_both words None a b first second = absurd (cc)
not_both words (Some (Run r)) a b first second = absurd (cc)
not_both words (Some (Analyse n)) a b first second = absurd (cc)
not_both words (Some (Drill d)) a b first second = absurd (cc)
not_both words (Some (Replay r)) a b first second = absurd (cc)
not_both words (Some (Snapshot r)) a b first second = absurd (cc)

same_resumption : (words : List (List ℕ)) (a b : Resumption) → resumption_of words ≡ Some a → resumption_of words ≡ Some b → a ≡ b
same_resumption words a b first second = cc

same_snapshot : (words : List (List ℕ)) (a b : SnapshotNames) → snapshot_of words ≡ Some a → snapshot_of words ≡ Some b → a ≡ b
same_snapshot words a b first second = cc

module _ (words : List (List ℕ)) (before after : Outside) (last : SinkState) (status : ℕ) (outcome : CallEnd) (parts : PutsAddUp) (e : Concluded status outcome after.out last) where
  abbrev here : Call
  here = call words before (record after { out = last })

  pub any_ended : WorksAny outcome words before after → IsWithoutState words → Ended status here
  any_ended (inl w) without = ended status here (means_of words before after last parts status outcome w.1 e)
  any_ended (inr (inl r)) without = let none = without.no_resumption in let some = r.is_command in absurd (cc)
  any_ended (inr (inr s)) without = let none = without.no_snapshot in let some = s.is_command in absurd (cc)

  pub any_decided : OneFinding → WorksAny outcome words before after → IsWithoutState words → Decided status here
  any_decided one (inl w) without = decided here one status (means_of words before after last parts status outcome w.1 e)
  any_decided one (inr (inl r)) without = let none = without.no_resumption in let some = r.is_command in absurd (cc)
  any_decided one (inr (inr s)) without = let none = without.no_snapshot in let some = s.is_command in absurd (cc)

  pub any_resumed : WorksAny outcome words before after → (names : Resumption) → resumption_of words ≡ Some names → EndedResumed status names here
  any_resumed (inl w) names is = let none = w.0.no_resumption in absurd (cc)
  any_resumed (inr (inl r)) names is =
      subst (λ (n : Resumption). EndedResumed status n here) (same_resumption words r.names names r.is_command is) (ended_resumed parts r.names words before after last status outcome r.works r.cause e)
  any_resumed (inr (inr s)) names is = absurd (not_both words (command_of words) names s.names is s.is_command)

  pub any_decided_resumed : WorksAny outcome words before after → (names : Resumption) → resumption_of words ≡ Some names → DecidedResumed status names here
  any_decided_resumed (inl w) names is = let none = w.0.no_resumption in absurd (cc)
  any_decided_resumed (inr (inl r)) names is =
      subst (λ (n : Resumption). DecidedResumed status n here) (same_resumption words r.names names r.is_command is) (decided_resumed parts r.names words before after last status outcome r.works e)
  any_decided_resumed (inr (inr s)) names is = absurd (not_both words (command_of words) names s.names is s.is_command)

  pub any_snapshot : WorksAny outcome words before after → (names : SnapshotNames) → snapshot_of words ≡ Some names → EndedSnapshot status names here
  any_snapshot (inl w) names is = let none = w.0.no_snapshot in absurd (cc)
  any_snapshot (inr (inl r)) names is = absurd (not_both words (command_of words) r.names names r.is_command is)
  any_snapshot (inr (inr s)) names is =
      subst (λ (n : SnapshotNames). EndedSnapshot status n here) (same_snapshot words s.names names s.is_command is) (ended_snapshot words s.names before after last parts status outcome s.works s.cause e)

  pub any_decided_snapshot : WorksAny outcome words before after → (names : SnapshotNames) → snapshot_of words ≡ Some names → DecidedSnapshot status names here
  any_decided_snapshot (inl w) names is = let none = w.0.no_snapshot in absurd (cc)
  any_decided_snapshot (inr (inl r)) names is = absurd (not_both words (command_of words) r.names names r.is_command is)
  any_decided_snapshot (inr (inr s)) names is =
      subst (λ (n : SnapshotNames). DecidedSnapshot status n here) (same_snapshot words s.names names s.is_command is) (decided_snapshot words s.names before after last status outcome s.works s.cause e)
