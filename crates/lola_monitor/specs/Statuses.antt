-- What a call leaves and what it means, by its status.
use Rattle.std.specs.Prelude.{ℕ, ◌≡◌, ◌⊎◌, None}
use Rattle.lola_monitor_command.specs.Command.{command_of}
use Rattle.lola_monitor.specs.Drilling.{IsCleanDrill, IsCutDrill, IsDrilled, IsFaultyDrill, IsMalformedDrill, IsRefusedDrill}
use Rattle.lola_monitor.specs.Replaying.{IsCutReplay, IsFoundOther, IsFoundSame, IsOtherReplay, IsSameReplay, IsUnreadText}
use Rattle.lola_monitor.specs.Monitor.{Call, IsAnalysed, IsBroken, IsClean, IsCleanAnalysis, IsCutAnalysis, IsCutShort, IsDone, IsEarly, IsFault, IsMalformed, IsRefused, IsSpoiled, IsStatus, IsUnfinished, IsUnread, IsUsage}

-- what a call leaves, by its status
pub record Ended (status : ℕ) (c : Call) : Type 0 where
  pub done : status ≡ 0 → IsDone c ⊎ (IsAnalysed c ⊎ (IsDrilled c ⊎ IsFoundSame c))
  pub differs : status ≡ 1 → IsFoundOther c
  pub usage : status ≡ 2 → IsUsage c
  pub refused : status ≡ 3 → IsRefused c ⊎ IsRefusedDrill c
  pub malformed : status ≡ 4 → IsMalformed c ⊎ IsMalformedDrill c
  pub fault : status ≡ 5 → IsFault c ⊎ IsFaultyDrill c
  pub unreadable : status ≡ 6 → IsUnread c ⊎ (IsCutShort c ⊎ IsUnreadText c)
  pub broken : status ≡ 7 → IsBroken c ⊎ (IsCutAnalysis c ⊎ (IsCutDrill c ⊎ IsCutReplay c))
  pub memory : status ≡ 8 → IsEarly c ⊎ IsUnfinished c
  pub others : IsStatus status

-- which statuses a call can have by what it was given: nothing but want of memory keeps it from its answer
pub record Decided (status : ℕ) (c : Call) : Type 0 where
  pub run : IsClean c → (status ≡ 0) ⊎ (status ≡ 8)
  pub analysis : IsCleanAnalysis c → (status ≡ 0) ⊎ (status ≡ 8)
  pub drill : IsCleanDrill c → (status ≡ 0) ⊎ (status ≡ 8)
  pub replay : IsSameReplay c → (status ≡ 0) ⊎ (status ≡ 8)
  pub other : IsOtherReplay c → (status ≡ 1) ⊎ (status ≡ 8)
  pub usage : command_of c.words ≡ None → (status ≡ 2) ⊎ (status ≡ 8)
  pub refused : IsSpoiled c → (status ≡ 3) ⊎ (status ≡ 8)
