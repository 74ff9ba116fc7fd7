-- The panes of the windows so far.
use Rattle.std.proofs.Common.{◌≡◌, ℕ, List, map, take}
use Rattle.lola_value.specs.Naming.{Naming}
use Rattle.lola_value.specs.declared.text.Field.{Field}
use Rattle.lola_model.specs.Store.{start_seen}
use Rattle.lola_instances.specs.Saved.{values_by_now}
use Rattle.lola_instances.specs.Stores.{bounded_remembers, bounded_seen}
use Rattle.lola_save_text.specs.PaneFolds.{panes_of}
use Rattle.lola_save.proofs.panes.all_panes.Given as goal

abbrev pub invariant-loop-window : goal.invariant-loop-window
invariant-loop-window l =
    (names : Naming) (values : List (ℕ × Field)) → bounded_remembers l.store names l.stream l.index values
    → l.panes ≡ map (λ w. panes_of (start_seen (bounded_seen l.store)) w (values_by_now l.store names l.stream l.index values)) (take l.window-index l.windows)
