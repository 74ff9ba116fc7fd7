-- What was given so far, and what is still to be given.
use Rattle.std.proofs.Common.{◌≡◌, ◌||◌, drop, take}
use Rattle.lola_value.specs.Naming.{Naming}
use Rattle.lola_model.specs.Content.{Content}
use Rattle.lola_model.specs.Store.{Stands}
use Rattle.lola_step.specs.Found.{has_fault}
use Rattle.lola_step.specs.Given.{AreHeldIn, CanGiveAll, after_all, told_outcomes}
use Rattle.lola_step.proofs.giving.give_all.Given as goal

abbrev pub invariant-loop-i : goal.invariant-loop-i
invariant-loop-i g l = record {
  can : CanGiveAll (g.S.StreamStore.seen l.store) (drop l.i l.tasks) (drop l.i l.results);
  seen : g.S.StreamStore.seen l.store ≡ after_all (g.S.StreamStore.seen l.initial.store) (take l.i l.tasks) (take l.i l.results);
  stands : (names : Naming) (c : Content) → AreHeldIn names l.results → Stands names (g.S.StreamStore.remembers l.initial.store) (g.S.StreamStore.seen l.initial.store) c
      → Stands names (g.S.StreamStore.remembers l.store) (g.S.StreamStore.seen l.store) (told_outcomes names c (take l.i l.tasks) (take l.i l.results));
  faulty : (l.faulty || has_fault (drop l.i l.results)) ≡ has_fault l.results;
}
