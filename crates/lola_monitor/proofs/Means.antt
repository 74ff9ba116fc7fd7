-- What each status means, by cases on the status.
use Rattle.std.proofs.Common.{◌≡◌, ◌⊎◌, ℕ, zero, suc, sym, subst, arith}
use Rattle.lola_monitor.specs.Drilling.{IsCutDrill, IsDrilled, IsFaultyDrill, IsMalformedDrill, IsRefusedDrill}
use Rattle.lola_monitor.specs.Monitor.{Call, IsAnalysed, IsBroken, IsCutAnalysis, IsCutShort, IsDone, IsEarly, IsFault, IsMalformed, IsRefused, IsStatus, IsUnfinished, IsUnread, IsUsage}
use Rattle.lola_monitor.specs.Replaying.{IsCutReplay, IsFoundOther, IsFoundSame, IsUnreadText}
use Rattle.lola_monitor.specs.Statuses.{Ended}

-- from 0 to 8, and no other
abbrev pub Means : ℕ → Call → Type 0
Means zero c = IsDone c ⊎ (IsAnalysed c ⊎ (IsDrilled c ⊎ IsFoundSame c))
Means (suc zero) c = IsFoundOther c
Means (suc (suc zero)) c = IsUsage c
Means (suc (suc (suc zero))) c = IsRefused c ⊎ IsRefusedDrill c
Means (suc (suc (suc (suc zero)))) c = IsMalformed c ⊎ IsMalformedDrill c
Means (suc (suc (suc (suc (suc zero))))) c = IsFault c ⊎ IsFaultyDrill c
Means (suc (suc (suc (suc (suc (suc zero)))))) c = IsUnread c ⊎ (IsCutShort c ⊎ IsUnreadText c)
Means (suc (suc (suc (suc (suc (suc (suc zero))))))) c = IsBroken c ⊎ (IsCutAnalysis c ⊎ (IsCutDrill c ⊎ IsCutReplay c))
Means (suc (suc (suc (suc (suc (suc (suc (suc zero)))))))) c = IsEarly c ⊎ IsUnfinished c
Means (suc (suc (suc (suc (suc (suc (suc (suc (suc n))))))))) c = ⊥

pub means_at : (n status : ℕ) (c : Call) → status ≡ n → Means n c → Means status c
means_at n status c is means = subst (λ k. Means k c) (sym is) means

-- what holds at each status that comes
pub by_status : (P : ℕ → Type 0) (c : Call) → (IsDone c ⊎ (IsAnalysed c ⊎ (IsDrilled c ⊎ IsFoundSame c)) → P 0) → (IsFoundOther c → P 1) → (IsUsage c → P 2) → (IsRefused c ⊎ IsRefusedDrill c → P 3) → (IsMalformed c ⊎ IsMalformedDrill c → P 4)
    → (IsFault c ⊎ IsFaultyDrill c → P 5) → (IsUnread c ⊎ (IsCutShort c ⊎ IsUnreadText c) → P 6) → (IsBroken c ⊎ (IsCutAnalysis c ⊎ (IsCutDrill c ⊎ IsCutReplay c)) → P 7) → (IsEarly c ⊎ IsUnfinished c → P 8)
    → (status : ℕ) → Means status c → P status
by_status P c done differs usage refused malformed fault unreadable broken memory zero means = done means
by_status P c done differs usage refused malformed fault unreadable broken memory (suc zero) means = differs means
by_status P c done differs usage refused malformed fault unreadable broken memory (suc (suc zero)) means = usage means
by_status P c done differs usage refused malformed fault unreadable broken memory (suc (suc (suc zero))) means = refused means
by_status P c done differs usage refused malformed fault unreadable broken memory (suc (suc (suc (suc zero)))) means = malformed means
by_status P c done differs usage refused malformed fault unreadable broken memory (suc (suc (suc (suc (suc zero))))) means = fault means
by_status P c done differs usage refused malformed fault unreadable broken memory (suc (suc (suc (suc (suc (suc zero)))))) means = unreadable means
by_status P c done differs usage refused malformed fault unreadable broken memory (suc (suc (suc (suc (suc (suc (suc zero))))))) means = broken means
by_status P c done differs usage refused malformed fault unreadable broken memory (suc (suc (suc (suc (suc (suc (suc (suc zero)))))))) means = memory means
by_status P c done differs usage refused malformed fault unreadable broken memory (suc (suc (suc (suc (suc (suc (suc (suc (suc n))))))))) means = absurd means

pub ended : (status : ℕ) (c : Call) → Means status c → Ended status c
ended status c means = record {
  done = λ is. subst (λ n. Means n c) is means;
  differs = λ is. subst (λ n. Means n c) is means;
  usage = λ is. subst (λ n. Means n c) is means;
  refused = λ is. subst (λ n. Means n c) is means;
  malformed = λ is. subst (λ n. Means n c) is means;
  fault = λ is. subst (λ n. Means n c) is means;
  unreadable = λ is. subst (λ n. Means n c) is means;
  broken = λ is. subst (λ n. Means n c) is means;
  memory = λ is. subst (λ n. Means n c) is means;
  others = by_status IsStatus c (λ m. omega arith) (λ m. omega arith) (λ m. omega arith) (λ m. omega arith) (λ m. omega arith) (λ m. omega arith) (λ m. omega arith) (λ m. omega arith) (λ m. omega arith) status means;
}
