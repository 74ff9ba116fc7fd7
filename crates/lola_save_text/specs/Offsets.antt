-- What panes say of values by their offsets, and what the state of a journal says of the same values by their times.
use Rattle.std.specs.Prelude.{ℕ, zero, suc, ◌≡◌, ◌+◌, ◌-◌, min, List, [], ◌∷◌, Some, map}
use Rattle.std.specs.Option.{option_map}
use Rattle.lola_value.specs.declared.text.Field.{Field}
use Rattle.lola_value.specs.declared.value.Kind.{Kind}
use Rattle.lola_model.specs.declared.spec.Agg.{Agg}
use Rattle.lola_panes.specs.Holding.{AllWithin}
use Rattle.lola_panes.specs.Parts as offsets
use Rattle.lola_panes.specs.Parts.{pane_values}
use Rattle.lola_panes.specs.Restored.{AreRestored, InOrder}
use Rattle.lola_panes.specs.Standing.{newest_of}
use Rattle.lola_save_text.specs.declared.forms.WindowForm.{WindowForm}
use Rattle.lola_save_text.specs.declared.state.SavedPanes.{SavedPanes}
use Rattle.lola_save_text.specs.PaneFolds as times
use Rattle.lola_save_text.specs.PaneFolds.{newest_time, pane_number, panes_of, values_in_pane}

-- values with their offsets from the start in place of their times
abbrev pub by_offset : ℕ → List (ℕ × Field) → List (ℕ × Field)
by_offset start vs = map (λ v. (v.0 - start, v.1)) vs

-- the numbers of so many panes up to a last one
abbrev pub panes_up_to : ℕ → ℕ → List ℕ
panes_up_to last zero = []
panes_up_to last (suc k) = (last - k) ∷ panes_up_to last k

-- the pane of the newest value
abbrev pub NewestPanesAreSame : Type 0
NewestPanesAreSame =
    (start pane : ℕ) (vs : List (ℕ × Field))
    → newest_of pane (by_offset start vs) ≡ option_map (λ time. pane_number pane (time - start)) (newest_time vs)

-- the partial result of any pane
abbrev pub PartialsAreSame : Type 0
PartialsAreSame =
    (start pane number : ℕ) (how : Agg) (vs : List (ℕ × Field))
    → offsets.partial_of how (pane_values pane number (by_offset start vs)) ≡ times.partial_of how (values_in_pane start pane vs number)

-- those of all panes that are kept: as many as the window has, or as there are
abbrev pub KeptPartialsAreSame : Type 0
KeptPartialsAreSame =
    (start : ℕ) (w : WindowForm) (vs : List (ℕ × Field)) (p : SavedPanes) → panes_of start w vs ≡ Some p
    → map (λ number. offsets.partial_of w.how (pane_values w.pane number (by_offset start vs))) (panes_up_to p.last (min (p.last + 1) w.count)) ≡ p.partials

-- values in the order of time, of a kind, have the panes of a state that is folded from them
abbrev pub PanesAreRestored : Type 0
PanesAreRestored =
    (start : ℕ) (w : WindowForm) (kind : Kind) (vs : List (ℕ × Field)) (p : SavedPanes) → panes_of start w vs ≡ Some p → InOrder vs → AllWithin kind vs
    → AreRestored w.how kind w.pane p.last p.partials (by_offset start vs)
