use Rattle.std.proofs.Common.{◌≡◌, ◌<◌, ◌≤◌, ℕ, Some, drop, length, reverse, slice_get}
use Rattle.lola_value.specs.Naming.{Naming}
use Rattle.lola_model.specs.Content.{Content}
use Rattle.lola_model.specs.Store.{Stands}
use Rattle.lola_step_contents.specs.Ends.{closed_each}
use Rattle.lola_step.specs.Notes.{IsClosable, places_of}
use Rattle.lola_step.specs.Progress.{IsOf}
use Rattle.lola_step.specs.declared.tasks.Task.{Task}
use Rattle.lola_step.proofs.closes.close_all.Given as goal

-- those from a place on are gone, and the others are where they were
abbrev pub invariant-loop-left : goal.invariant-loop-left
invariant-loop-left g l =
    let old = g.S.StreamStore.seen l.initial.store in
    let s = g.S.StreamStore.seen l.store in
    record {
      within : l.left ≤ length l.closing;
      of : IsOf l.plan s;
      phase : s.phase ≡ old.phase;
      steps : s.steps ≡ old.steps;
      closable : (i : ℕ) (t : Task) → i < l.left → slice_get l.closing i ≡ Some t → IsClosable s t;
      stands : (names : Naming) (c : Content) → Stands names (g.S.StreamStore.remembers l.initial.store) old c
          → Stands names (g.S.StreamStore.remembers l.store) s (closed_each c (reverse (drop l.left (places_of l.closing))));
    }

abbrev pub decreases-loop-left : goal.decreases-loop-left
decreases-loop-left g l = l.left
