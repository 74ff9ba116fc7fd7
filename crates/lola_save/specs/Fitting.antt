-- Forms of a plan's streams that fit a layout.
use Rattle.std.specs.Prelude.{ℕ, ◌≡◌, ◌+◌, ◌<◌, ◌≤◌, List, [], ◌∷◌, Some, false, length, slice_get}
use Rattle.std.specs.List.{AllByRecursion}
use Rattle.lola_model.specs.Store.{Layout, kept_in, kind_in, parameters_of, spawns_in}
use Rattle.lola_model.specs.declared.plan.PaneSize.{PaneSize}
use Rattle.lola_model.specs.declared.spec.WindowSpec.{WindowSpec}
use Rattle.lola_save_text.specs.declared.forms.StreamForm.{StreamForm}
use Rattle.lola_save_text.specs.declared.forms.WindowForm.{WindowForm}

-- a window of the layout, onto a stream
pub record IsWindowOnto (layout : Layout) (stream : ℕ) (w : WindowForm) : Type 0 where
  pub spec : WindowSpec
  pub size : PaneSize
  pub at : slice_get layout.windows w.number ≡ Some spec
  pub size_at : slice_get layout.panes w.number ≡ Some size
  pub target : spec.target ≡ stream
  pub how : w.how ≡ spec.using
  pub pane : w.pane ≡ size.pane
  pub count : w.count ≡ size.count

-- a stream of the layout
pub record IsStreamOf (layout : Layout) (stream : ℕ) (form : StreamForm) : Type 0 where
  pub below : stream < length layout.streams
  pub kept : form.kept ≡ kept_in (slice_get layout.streams stream)
  pub spawns : form.spawns ≡ spawns_in (slice_get layout.streams stream)
  pub windows : AllByRecursion (IsWindowOnto layout stream) form.windows

-- streams of the layout, of which the first has this number
abbrev pub AreStreamsOf : Layout → ℕ → List StreamForm → Type 0
AreStreamsOf layout n [] = Unit {0}
AreStreamsOf layout n (form ∷ forms) = IsStreamOf layout n form × AreStreamsOf layout (n + 1) forms

-- of a form's windows no two have one number, and all windows onto the stream are among them
pub record AreAllOnto (layout : Layout) (stream : ℕ) (ws : List WindowForm) : Type 0 where
  pub apart : (j k : ℕ) (v w : WindowForm) → slice_get ws j ≡ Some v → slice_get ws k ≡ Some w → v.number ≡ w.number → j ≡ k
  pub all : (number : ℕ) (spec : WindowSpec) → slice_get layout.windows number ≡ Some spec → spec.target ≡ stream
      → (k : ℕ) × (w : WindowForm) × (slice_get ws k ≡ Some w) × (w.number ≡ number)

-- a stream of the layout, with all that its instances are loaded by
pub record IsWholeStreamOf (layout : Layout) (stream : ℕ) (form : StreamForm) : Type 0 where
  pub of : IsStreamOf layout stream form
  pub kind : form.kind ≡ kind_in (slice_get layout.streams stream)
  pub parameters : form.parameters ≡ parameters_of (slice_get layout.streams stream)
  pub few : length form.parameters ≤ 4
  pub windows : AreAllOnto layout stream form.windows

-- the form of a stream, which has no parameters where it has no spawn clause
pub record IsFormOf (layout : Layout) (stream : ℕ) (form : StreamForm) : Type 0 where
  pub whole : IsWholeStreamOf layout stream form
  pub plain : form.spawns ≡ false → form.parameters ≡ []
