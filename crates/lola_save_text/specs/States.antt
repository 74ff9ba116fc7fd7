-- What a run holds between two steps, as far as later steps can tell: the state that is saved.
pub use Rattle.lola_panes.specs.declared.partial.Partial.{Partial}
pub use Rattle.lola_panes.specs.declared.partial.Partial.TheVariants.{Number, Extreme, Mean, Truth}
pub use Rattle.lola_save_text.specs.declared.state.SavedPanes.{SavedPanes}
pub use Rattle.lola_save_text.specs.declared.state.SavedInstance.{SavedInstance}
pub use Rattle.lola_save_text.specs.declared.state.SavedState.{SavedState}
