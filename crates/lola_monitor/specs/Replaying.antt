-- What a replay comes to: a trace and verdicts are read, and its end line alone is put.
use Rattle.std.specs.Prelude.{ℕ, ◌≡◌, List, Option, None, Some, map}
use Rattle.lola_port.specs.Asks.{given_ask}
use Rattle.lola_port.specs.States.{PutBroke, Rose, ShelfState, grown}
use Rattle.lola_value.specs.declared.front.Refusal.{Refusal}
use Rattle.lola_model.specs.Acceptance.{IsAccepted}
use Rattle.lola_model.specs.declared.plan.Plan.{Plan}
use Rattle.lola_front.specs.Front.{IsPlanOf, IsRefusalOf}
use Rattle.lola_replay.specs.Findings.{Finds, Told}
use Rattle.lola_replay.specs.ReplayEnds.{finding_text, replay_end_text}
use Rattle.lola_replay.specs.declared.end.ReplayEnd.{ReplayEnd}
use Rattle.lola_replay.specs.declared.end.ReplayEnd.TheVariants.{Found, UnreadableTrace, UnreadableVerdicts}
use Rattle.lola_replay.specs.declared.finding.Finding.{Finding}
use Rattle.lola_replay.specs.declared.finding.Finding.TheVariants.{Same, TraceDiffers, VerdictsDiffer}
use Rattle.lola_monitor.specs.Command.{ReplayNames, replay_names, replay_of}
use Rattle.lola_monitor.specs.Monitor.{Call, HasItsModels, IsUntraced, Plans, Wrote, asks_between, first_failed_ask}

-- where a text is told, these are its bytes
abbrev pub IsText : Option (List ℕ) → List ℕ → Type 0
IsText told bytes = (all : List ℕ) → told ≡ Some all → bytes ≡ all

-- a trace and verdicts, said to be of a run of this plan with these options
abbrev pub told_by : ReplayNames → Plan → List ℕ → List ℕ → Told
told_by names plan trace verdicts = record { plan = plan; start = names.start; show = names.show; trace = trace; verdicts = verdicts }

-- the words are a replay, whose specification was read and accepted, so that it has one model
pub record OfReplay (words : List (List ℕ)) (before : ShelfState) : Type 0 where
  pub names : ReplayNames
  pub is_command : replay_of words ≡ Some names
  pub plan : Plan
  pub is_plan : Plans (before.told names.specification) plan
  pub accepted : IsAccepted plan
  pub one_model : HasItsModels plan

-- the trace and the verdicts were read whole, nothing has failed, and this is what they are found to be
pub record Replay (words : List (List ℕ)) (before after : ShelfState) (finding : Finding) : Type 0 where
  pub of : OfReplay words before
  pub trace : List ℕ
  pub is_trace : IsText (before.told of.names.trace) trace
  pub verdicts : List ℕ
  pub are_verdicts : IsText (before.told of.names.verdicts) verdicts
  pub asks : asks_between before after ≡ map given_ask (replay_names of.names)
  pub count : after.count ≡ before.count
  pub finds : Finds (told_by of.names of.plan trace verdicts) finding

-- the replay of a call
abbrev pub ReplayIn : Call → Finding → Type 0
ReplayIn c finding = Replay c.words c.before.shelf c.after.shelf finding

-- a line differs
abbrev pub Differs : Finding → Type 0
Differs (Same entries lines) = ⊥
Differs (TraceDiffers line) = Unit {0}
Differs (VerdictsDiffer line) = Unit {0}

-- 0: the trace and the verdicts are those of a run
pub record IsFoundSame (c : Call) : Type 0 where
  pub entries : ℕ
  pub lines : ℕ
  pub replay : ReplayIn c (Same entries lines)
  pub trace : IsUntraced c
  pub out : c.after.out ≡ grown c.before.out (finding_text (Same entries lines))

-- 1: they are not, and the first line that differs is told
pub record IsFoundOther (c : Call) : Type 0 where
  pub finding : Finding
  pub differs : Differs finding
  pub replay : ReplayIn c finding
  pub trace : IsUntraced c
  pub out : Wrote c.before.out c.after.out (finding_text finding)

-- the place of the ask that failed, by the end that tells of it; the specification's has the place 0
abbrev pub failed_place : ReplayEnd → Option ℕ
failed_place (Found finding) = None
failed_place UnreadableTrace = Some 1
failed_place UnreadableVerdicts = Some 2

-- the trace or the verdicts were not given, or could not be read
pub record Unread (end : ReplayEnd) (words : List (List ℕ)) (before after : ShelfState) : Type 0 where
  pub of : OfReplay words before
  pub place : ℕ
  pub is_place : failed_place end ≡ Some place
  pub has_failed : first_failed_ask (asks_between before after) ≡ Some place
  pub rose : Rose before.count after.count

-- 6: the trace or the verdicts were not given, or could not be read
pub record IsUnreadText (c : Call) : Type 0 where
  pub end : ReplayEnd
  pub unread : Unread end c.words c.before.shelf c.after.shelf
  pub trace : IsUntraced c
  pub out : Wrote c.before.out c.after.out (replay_end_text end)

-- 7: the put of the end line failed, of a trace and verdicts that are those of a run
pub record IsCutReplay (c : Call) : Type 0 where
  pub entries : ℕ
  pub lines : ℕ
  pub replay : ReplayIn c (Same entries lines)
  pub trace : IsUntraced c
  pub out : PutBroke c.before.out c.after.out (finding_text (Same entries lines))

-- a replay whose specification is told and not refused, whose trace and verdicts are told, and whose shelf has not failed
pub record IsToldReplay (c : Call) : Type 0 where
  pub names : ReplayNames
  pub is_command : replay_of c.words ≡ Some names
  pub specification : List ℕ
  pub specification_is : c.before.shelf.told names.specification ≡ Some specification
  pub not_refused : (r : Refusal) → IsRefusalOf specification r → ⊥
  pub trace : List ℕ
  pub trace_is : c.before.shelf.told names.trace ≡ Some trace
  pub verdicts : List ℕ
  pub verdicts_are : c.before.shelf.told names.verdicts ≡ Some verdicts
  pub shelf : Rose c.before.shelf.count c.after.shelf.count → ⊥

-- such a replay of texts that are those of a run, and whose put has not failed
pub record IsSameReplay (c : Call) : Type 0 where
  pub told : IsToldReplay c
  pub same : (plan : Plan) → IsPlanOf told.specification plan → (entries : ℕ) × (lines : ℕ) × Finds (told_by told.names plan told.trace told.verdicts) (Same entries lines)
  pub out : Rose c.before.out.count c.after.out.count → ⊥

-- such a replay of texts that are not those of a run
pub record IsOtherReplay (c : Call) : Type 0 where
  pub told : IsToldReplay c
  pub other : (plan : Plan) (entries lines : ℕ) → IsPlanOf told.specification plan → Finds (told_by told.names plan told.trace told.verdicts) (Same entries lines) → ⊥
