-- What each status of a snapshot means, by cases on the status.
use Rattle.std.proofs.Common.{◌≡◌, ◌⊎◌, ℕ, zero, suc, ◌≤◌, List, Option, refl, sym, subst, inl, inr, arith}
use Rattle.lola_model.specs.declared.journal.Entry.{Entry}
use Rattle.lola_model.specs.declared.plan.Plan.{Plan}
use Rattle.lola_monitor.specs.Causes.{HasCause}
use Rattle.lola_monitor.specs.Command.{SnapshotNames}
use Rattle.lola_monitor.specs.Monitor.{Call, IsEarly, Plans}
use Rattle.lola_monitor.specs.Pasts.{IsRefusedNamed, IsUnreadNamed}
use Rattle.lola_monitor.specs.SnapshotOutcomes.{Prepared}
use Rattle.lola_monitor.specs.Snapshots.{Behind, EndedSnapshot, HasTooManySteps, IsBrokenSnapshot, IsCutShortSnapshot, IsFaultSnapshot, IsLongEnd, IsMalformedSnapshot, IsPast, IsSaved, IsStateRefusedIn, inputs_of}

-- it was prepared, and this came of it behind whatever journal it goes on from
abbrev pub Has : (SnapshotNames → Option ℕ → List Entry → Call → Type 0) → SnapshotNames → Call → Type 0
Has P names c = Prepared names c.before.shelf × Behind P names c

-- its state is refused, and is that of no journal
pub record Refuses (names : SnapshotNames) (c : Call) : Type 0 where
  pub plan : Plan
  pub is_plan : Plans (c.before.shelf.told names.specification) plan
  pub refused : IsStateRefusedIn names names.state c
  pub none : (start : Option ℕ) (front : List Entry) → IsPast names c.before.shelf names.state start front → ⊥

-- it has too many steps, behind whatever journal it goes on from
abbrev pub IsTooLong : SnapshotNames → Call → Type 0
IsTooLong names c = Has HasTooManySteps names c × IsLongEnd names c

-- 0 and from 3 to 9, and no other
abbrev pub SnapshotMeans : ℕ → SnapshotNames → Call → Type 0
SnapshotMeans zero names c = Has IsSaved names c
SnapshotMeans (suc zero) names c = ⊥
SnapshotMeans (suc (suc zero)) names c = ⊥
SnapshotMeans (suc (suc (suc zero))) names c = IsRefusedNamed names.specification c
SnapshotMeans (suc (suc (suc (suc zero)))) names c = Has IsMalformedSnapshot names c
SnapshotMeans (suc (suc (suc (suc (suc zero))))) names c = Has IsFaultSnapshot names c
SnapshotMeans (suc (suc (suc (suc (suc (suc zero)))))) names c = IsUnreadNamed c ⊎ Has IsCutShortSnapshot names c
SnapshotMeans (suc (suc (suc (suc (suc (suc (suc zero))))))) names c = Has IsBrokenSnapshot names c
SnapshotMeans (suc (suc (suc (suc (suc (suc (suc (suc zero)))))))) names c = IsEarly c
SnapshotMeans (suc (suc (suc (suc (suc (suc (suc (suc (suc zero))))))))) names c = Refuses names c ⊎ IsTooLong names c
SnapshotMeans (suc (suc (suc (suc (suc (suc (suc (suc (suc (suc n)))))))))) names c = ⊥

pub snapshot_means_at : (n status : ℕ) (names : SnapshotNames) (c : Call) → status ≡ n → SnapshotMeans n names c → SnapshotMeans status names c
snapshot_means_at n status names c is means = subst (λ k. SnapshotMeans k names c) (sym is) means

-- what holds at each status that comes
pub by_snapshot : (P : ℕ → Type 0) (names : SnapshotNames) (c : Call) → (Has IsSaved names c → P 0) → (IsRefusedNamed names.specification c → P 3) → (Has IsMalformedSnapshot names c → P 4)
    → (Has IsFaultSnapshot names c → P 5) → (IsUnreadNamed c ⊎ Has IsCutShortSnapshot names c → P 6) → (Has IsBrokenSnapshot names c → P 7) → (IsEarly c → P 8)
    → (Refuses names c ⊎ IsTooLong names c → P 9) → (status : ℕ) → SnapshotMeans status names c → P status
by_snapshot P names c saved refused malformed fault unreadable broken memory state zero means = saved means
by_snapshot P names c saved refused malformed fault unreadable broken memory state (suc zero) means = absurd means
by_snapshot P names c saved refused malformed fault unreadable broken memory state (suc (suc zero)) means = absurd means
by_snapshot P names c saved refused malformed fault unreadable broken memory state (suc (suc (suc zero))) means = refused means
by_snapshot P names c saved refused malformed fault unreadable broken memory state (suc (suc (suc (suc zero)))) means = malformed means
by_snapshot P names c saved refused malformed fault unreadable broken memory state (suc (suc (suc (suc (suc zero))))) means = fault means
by_snapshot P names c saved refused malformed fault unreadable broken memory state (suc (suc (suc (suc (suc (suc zero)))))) means = unreadable means
by_snapshot P names c saved refused malformed fault unreadable broken memory state (suc (suc (suc (suc (suc (suc (suc zero))))))) means = broken means
by_snapshot P names c saved refused malformed fault unreadable broken memory state (suc (suc (suc (suc (suc (suc (suc (suc zero)))))))) means = memory means
by_snapshot P names c saved refused malformed fault unreadable broken memory state (suc (suc (suc (suc (suc (suc (suc (suc (suc zero))))))))) means = state means
by_snapshot P names c saved refused malformed fault unreadable broken memory state (suc (suc (suc (suc (suc (suc (suc (suc (suc (suc n)))))))))) means = absurd means

without : (names : SnapshotNames) (c : Call) → IsUnreadNamed c ⊎ Has IsCutShortSnapshot names c → IsUnreadNamed c ⊎ Behind IsCutShortSnapshot names c
without names c (inl unread) = inl unread
without names c (inr short) = inr short.1

refusing : (names : SnapshotNames) (c : Call) → Refuses names c ⊎ IsTooLong names c → IsStateRefusedIn names names.state c ⊎ (IsLongEnd names c × Behind HasTooManySteps names c)
refusing names c (inl refuses) = inl refuses.refused
refusing names c (inr long) = inr (long.1, long.0.1)

abbrev IsSnapshotStatus : ℕ → Type 0
IsSnapshotStatus n = (n ≡ 0) ⊎ ((3 ≤ n) × (n ≤ 9))

some_status : (n : ℕ) → 3 ≤ n → n ≤ 9 → IsSnapshotStatus n
some_status n least most = inr (least, most)

pub ended_by : (status : ℕ) (names : SnapshotNames) (c : Call) → SnapshotMeans status names c → HasCause status (inputs_of names) c → EndedSnapshot status names c
ended_by status names c means cause = record {
  done = λ is. (subst (λ n. SnapshotMeans n names c) is means).1;
  refused = λ is. subst (λ n. SnapshotMeans n names c) is means;
  malformed = λ is. (subst (λ n. SnapshotMeans n names c) is means).1;
  fault = λ is. (subst (λ n. SnapshotMeans n names c) is means).1;
  unreadable = λ is. without names c (subst (λ n. SnapshotMeans n names c) is means);
  broken = λ is. (subst (λ n. SnapshotMeans n names c) is means).1;
  memory = λ is. subst (λ n. SnapshotMeans n names c) is means;
  state = λ is. refusing names c (subst (λ n. SnapshotMeans n names c) is means);
  cause = cause;
  others = by_snapshot IsSnapshotStatus names c (λ m. inl refl) (λ m. some_status 3 (omega arith) (omega arith)) (λ m. some_status 4 (omega arith) (omega arith)) (λ m. some_status 5 (omega arith) (omega arith))
      (λ m. some_status 6 (omega arith) (omega arith)) (λ m. some_status 7 (omega arith) (omega arith)) (λ m. some_status 8 (omega arith) (omega arith)) (λ m. some_status 9 (omega arith) (omega arith)) status means;
}
