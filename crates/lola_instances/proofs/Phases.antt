-- How far a store is, and what the definitions say of that.
use Rattle.std.proofs.Common.{◌≡◌, ◌-◌, refl, true, false, IsTrue}
use Rattle.lola_model.specs.Store.{New, Started, Running, is_new, is_running}
use Rattle.lola_instances.specs.declared.phase.StorePhase.{StorePhase}
use Rattle.lola_instances.specs.declared.phase.StorePhase.TheVariants as phase
use Rattle.lola_instances.specs.Phases.{phase_in, is_on, start_in, time_in}

pub phase_time : (st : StorePhase) → elim (phase_in st) [ New ↦ 0 | Started a ↦ a | Running a t ↦ t ] ≡ time_in st
phase_time phase.New = refl
phase_time (phase.Started a) = refl
phase_time (phase.Running a t) = refl

pub phase_start : (st : StorePhase) → elim (phase_in st) [ New ↦ 0 | Started a ↦ a | Running a t ↦ a ] ≡ start_in st
phase_start phase.New = refl
phase_start (phase.Started a) = refl
phase_start (phase.Running a t) = refl

pub running_is_on : (st : StorePhase) → IsTrue (is_running (phase_in st)) → is_on st ≡ true
running_is_on phase.New h = cc
running_is_on (phase.Started a) h = cc
running_is_on (phase.Running a t) h = refl

pub new_is_off : (st : StorePhase) → IsTrue (is_new (phase_in st)) → is_on st ≡ false
new_is_off phase.New h = refl
new_is_off (phase.Started a) h = cc
new_is_off (phase.Running a t) h = cc

pub new_is_at_zero : (st : StorePhase) → IsTrue (is_new (phase_in st)) → time_in st - start_in st ≡ 0
new_is_at_zero phase.New h = refl
new_is_at_zero (phase.Started a) h = cc
new_is_at_zero (phase.Running a t) h = cc
