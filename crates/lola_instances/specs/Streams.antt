-- The streams of a store, by their numbers.
use Rattle.std.specs.Prelude.{ℕ, List, [], Option, Some, None, slice_get}
use Rattle.lola_model.specs.Store.{StreamLayout}
use Rattle.lola_panes.specs.Standing.{Partials}
use Rattle.lola_panes.specs.declared.pane.Pane.{Pane}
use Rattle.lola_value.specs.declared.value.Value.{Value}
use Rattle.lola_instances_one.specs.Holdings.{Holdings}
use Rattle.lola_instances_stream.specs.Crowds.{Crowd}

-- what a store has to know of a stream
abbrev pub crowd_layout : Crowd → StreamLayout
crowd_layout c = c.layout

-- the instances of a stream, if there is one
abbrev pub slots_in : Option Crowd → List Holdings
slots_in None = []
slots_in (Some c) = c.slots

-- an instance of a stream, by their places
abbrev pub slot_at : List Crowd → ℕ → ℕ → Option Holdings
slot_at cs n i = slice_get (slots_in (slice_get cs n)) i

-- the last values of an instance, if there is one
abbrev pub values_of : Option Holdings → List Value
values_of None = []
values_of (Some s) = s.ring.values

-- the panes of a window, if there is one
abbrev pub panes_in : Option Partials → List Pane
panes_in None = []
panes_in (Some p) = p.panes

-- the panes of an instance for the window at a place, if there are both
abbrev pub panes_of : Option Holdings → Option ℕ → List Pane
panes_of None k = []
panes_of (Some s) None = []
panes_of (Some s) (Some k) = panes_in (slice_get s.panes k)
