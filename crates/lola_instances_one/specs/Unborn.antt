-- An instance before it is born.
use Rattle.std.specs.Prelude.{ℕ, ◌≤◌, ◌≡◌, List, [], ◌∷◌, map, IsTrue}
use Rattle.lola_value.specs.declared.value.Kind.{Kind}
use Rattle.lola_value.specs.declared.value.Outcome.TheVariants as outcome
use Rattle.lola_model.specs.Store.{no_params}
use Rattle.lola_model.specs.Typing.{takes}
use Rattle.lola_buffer.specs.Kept.{kept}
use Rattle.lola_panes.specs.Standing.{Partials, no_values}
use Rattle.lola_instances_one.specs.declared.window.WindowPanes.{WindowPanes}
use Rattle.lola_instances_one.specs.Holdings.{Holdings, holdings}

-- a window has a pane, panes have a length, and the aggregation takes values of the kind
pub record IsSound (w : WindowPanes) : Type 0 where
  pub pane : 1 ≤ w.pane
  pub count : 1 ≤ w.count
  pub kind : IsTrue (takes w.aggregation w.kind)

-- all of these are sound
abbrev pub AllSound : List WindowPanes → Type 0
AllSound [] = Unit {0}
AllSound (w ∷ ws) = IsSound w × AllSound ws

-- the panes of a window that was given no value
abbrev pub empty_panes : WindowPanes → Partials
empty_panes w = no_values w.aggregation w.kind w.pane w.count w.exact

-- no parameters, no time of birth, no values, and the panes of these windows
abbrev pub unborn : ℕ → List WindowPanes → Holdings
unborn capacity ws = holdings no_params 0 0 outcome.Missing (kept [] capacity) (map empty_panes ws)

-- windows onto values of a kind
abbrev pub AllOnto : Kind → List WindowPanes → Type 0
AllOnto kind [] = Unit {0}
AllOnto kind (w ∷ ws) = (w.kind ≡ kind) × AllOnto kind ws

-- panes of a window, whatever values they were given
pub record ArePanesOf (w : WindowPanes) (p : Partials) : Type 0 where
  pub aggregation : p.aggregation ≡ w.aggregation
  pub kind : p.kind ≡ w.kind
  pub pane : p.pane ≡ w.pane
  pub count : p.count ≡ w.count
  pub exact : p.exact ≡ w.exact

-- panes of these windows, each of its own
abbrev pub AllPanesOf : List WindowPanes → List Partials → Type 0
AllPanesOf [] [] = Unit {0}
AllPanesOf (w ∷ ws) (p ∷ ps) = ArePanesOf w p × AllPanesOf ws ps
AllPanesOf _ _ = ⊥
