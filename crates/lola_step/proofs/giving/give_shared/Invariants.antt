-- What was given so far.
use Rattle.std.proofs.Common.{◌≡◌, ◌≤◌, ◌-◌, length, take}
use Rattle.lola_value.specs.Naming.{Naming}
use Rattle.lola_model.specs.Content.{Content}
use Rattle.lola_model.specs.Store.{Stands}
use Rattle.lola_step.specs.Given.{AreHeldIn, after_all, told_outcomes}
use Rattle.lola_step.proofs.giving.give_shared.Given as goal

abbrev pub invariant-loop-at : goal.invariant-loop-at
invariant-loop-at g l = record {
  within : l.at ≤ length l.tasks;
  seen : g.S.StreamStore.seen l.store ≡ after_all (g.S.StreamStore.seen l.initial.store) (take l.at l.tasks) (take l.at l.results);
  stands : (names : Naming) (c : Content) → AreHeldIn names l.results → Stands names (g.S.StreamStore.remembers l.initial.store) (g.S.StreamStore.seen l.initial.store) c
      → Stands names (g.S.StreamStore.remembers l.store) (g.S.StreamStore.seen l.store) (told_outcomes names c (take l.at l.tasks) (take l.at l.results));
}

abbrev pub decreases-loop-at : goal.decreases-loop-at
decreases-loop-at g l = length l.tasks - l.at
