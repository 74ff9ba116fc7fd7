-- The state that a run has come to, and how many steps it has.
use Rattle.std.proofs.Common.{◌≡◌, ◌↔◌, ◌∙◌, ℕ, ◌<◌, ◌≤◌, ◌+◌, ◌^◌, Bool, true, false, IsTrue, List, ap, nat_lt, refl, subst, arith}
use Rattle.std.proofs.lemmas.Bool.Decides.{nat_tests}
use Rattle.lola_value.specs.Times.{latest}
use Rattle.lola_model.specs.declared.journal.Entry.{Entry}
use Rattle.lola_engine.specs.Behind.{StandsBehind}
use Rattle.lola_engine.specs.Resuming.{HasReached, times_of}
use Rattle.lola_engine.specs.declared.engine.EngineState.{EngineState}
use Rattle.lola_engine.specs.declared.times.RunTimes.{RunTimes}
use Rattle.lola_instances.specs.Stores.{bounded_remembers, bounded_seen}
use Rattle.lola_instances.specs.declared.store.BoundedStore.{BoundedStore}
use Rattle.lola_save.specs.declared.end.StateEnd.TheVariants as state_end
use Rattle.lola_save_text.specs.JournalStates.{state_of}
use Rattle.lola_save_text.specs.Fitting.{most_steps}
use Rattle.lola_save_text.specs.Lines.{state_text}
use Rattle.lola_monitor_run.specs.Running.{IsGoing, Keeping}
use Rattle.lola_monitor.specs.LongStates.{IsNearMost, counted}
use Rattle.lola_monitor.specs.SnapshotOutcomes.{SavesState}
use Rattle.lola_monitor.specs.declared.call_end.CallEnd.TheVariants.{Report, Stated}

-- a number that is not more than the most
pub few_of : (b : Bool) (n most : ℕ) → (IsTrue b ↔ (most < n)) → b ≡ false → n ≤ most
few_of b n most is none = go (nat_lt most n) refl
  where
    go : (t : Bool) → nat_lt most n ≡ t → n ≤ most
    go false less = grind (arith, nat_tests, less)
    go true less = let more : most < n = grind (arith, nat_tests, less) in let so : b ≡ true = is.1 more in absurd (cc)

-- an engine has come so far with whatever journal it stands for
abbrev pub Reaches : EngineState → BoundedStore → RunTimes → Type 0
Reaches e s times = (before journal : List Entry) → StandsBehind e (bounded_seen s) (bounded_remembers s) before journal → HasReached e.plan e.given_start journal times

-- this is the text of the state of whatever journal it stands for
abbrev pub Writes : List ℕ → EngineState → BoundedStore → List ℕ → Type 0
Writes specification e s text =
    (before journal : List Entry) → StandsBehind e (bounded_seen s) (bounded_remembers s) before journal → text ≡ state_text specification e.plan (state_of e.plan e.given_start journal)

module _ (specification : List ℕ) (kept : Keeping) (e : EngineState) (s : BoundedStore) (times : RunTimes) (same_state : e ≡ kept.state) (same_store : s ≡ kept.store) (value : times ≡ times_of e) (reaches : Reaches e s times) where
  kept_reaches : Reaches kept.state kept.store times
  kept_reaches = subst (λ (x : EngineState). Reaches x kept.store times) same_state (subst (λ (y : BoundedStore). Reaches e y times) same_store reaches)

  -- what the engine counts is what the run has kept of it
  is_counted : times.steps ≡ counted kept
  is_counted = ap (λ (t : RunTimes). t.steps) value ∙ ap (λ (x : EngineState). (times_of x).steps) same_state

  pub saves_text : (text : List ℕ) → times.steps ≤ most_steps → Writes specification e s text → SavesState (Report text) specification kept
  saves_text text few writes =
      let kept_writes = subst (λ (x : EngineState). Writes specification x kept.store text) same_state (subst (λ (y : BoundedStore). Writes specification e y text) same_store writes) in (
        subst (λ n. n ≤ most_steps) is_counted few,
        λ before journal stands. (subst (λ n. n ≤ most_steps) (kept_reaches before journal stands.engine).steps few, kept_writes before journal stands.engine),
      )

  pub saves_none : most_steps < times.steps → SavesState (Stated state_end.TooManySteps) specification kept
  saves_none many =
      (subst (λ n. most_steps < n) is_counted many, λ before journal stands. subst (λ n. most_steps < n) (kept_reaches before journal stands.engine).steps many)

-- ---- states with nearly as many steps as one can have

-- a run has more steps than it began with by those of its own, each of which has a row or a moment
few_counted : (kept : Keeping) → IsGoing kept → kept.state.behind + kept.state.steps ≤ kept.state.behind + (2 ^ 47 + latest)
few_counted kept going =
    let counted_by = going.sound.counted in let few = going.few_steps in let rows = going.few_rows in let merged = going.merged in omega (arith, counted_by, few, rows, merged)

-- one that came to more than a state can have began with nearly as many
pub near_most : (kept0 kept1 : Keeping) → IsGoing kept1 → kept1.state.behind ≡ kept0.state.behind → most_steps < counted kept1 → IsNearMost kept0.state.behind
near_most kept0 kept1 going same many =
    let few = few_counted kept1 going in
    let more : most_steps < kept1.state.behind + kept1.state.steps = many in
    let near : most_steps < kept1.state.behind + (2 ^ 47 + latest) = omega (arith, more, few) in
    subst IsNearMost same near

-- and one that began with none comes to no such number
pub never_from_none : (steps : ℕ) → steps ≡ 0 → IsNearMost steps → ⊥
never_from_none steps none near = let more : 4611686018427387904 < 4000140737488355328 = subst IsNearMost none near in absurd (omega (arith, more))
