-- The fault of a step, by what is known of it.
use Rattle.std.specs.Prelude.{ℕ, ◌+◌, List, [], ◌∷◌, Option, Some, None}
use Rattle.lola_value.specs.declared.value.FaultKind.{FaultKind}
use Rattle.lola_value.specs.Answer.{Answer, Missing}
use Rattle.lola_model.specs.Faults.{RowFault}
use Rattle.lola_model.specs.Table.{Spawned, Idle, Named, SpawnFaulted, SpawnPoisoned}
use Rattle.lola_replay_table.specs.Answers.{kept_answer, kept_spawn}
use Rattle.lola_replay_step.specs.Closings.{faulted_of, fault_or, least_of}
use Rattle.lola_replay_table.specs.declared.answer.KeptAnswer.{KeptAnswer}
use Rattle.lola_replay_table.specs.declared.table.KeptSpawn.{KeptSpawn}
use Rattle.lola_replay_table.specs.declared.table.KnownLife.{KnownLife}
use Rattle.lola_replay_table.specs.declared.table.KnownStream.{KnownStream}
use Rattle.lola_replay_step.specs.declared.fault.StepFault.{StepFault}

-- what an instance comes to, missing where that is not known
abbrev pub outcome_known : Option KeptAnswer → Answer
outcome_known None = Missing
outcome_known (Some a) = kept_answer a

-- the least fault of instances, or of others before
abbrev pub least_known : Option FaultKind → List KnownLife → Option FaultKind
least_known least [] = least
least_known least (l ∷ ls) = least_known (least_of least (faulted_of (outcome_known l.outcome))) ls

-- the fault of a spawn clause, or else another
abbrev pub own_of : Spawned → Option FaultKind → Option FaultKind
own_of Idle other = other
own_of (Named p) other = other
own_of (SpawnFaulted k) other = Some k
own_of SpawnPoisoned other = other

abbrev pub own_by : Option KeptSpawn → Option FaultKind → Option FaultKind
own_by None other = other
own_by (Some sp) other = own_of (kept_spawn sp) other

-- the first stream from number n on that has a fault of its spawn clause or its instances
abbrev pub first_known : ℕ → List KnownStream → Option RowFault
first_known n [] = None
first_known n (k ∷ ks) = fault_or n (own_by k.spawned (least_known None k.lives)) (first_known (n + 1) ks)

-- the fault that is told
abbrev pub the_fault : StepFault → RowFault
the_fault f = record { stream = f.stream; kind = f.kind }
