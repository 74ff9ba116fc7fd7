use Rattle.std.proofs.Common.{ℕ, ◌∷◌, [], refl, sym, subst}
use Rattle.lola_names.specs.Made.{Grows}
use Rattle.lola_names.specs.declared.made.Made.{Made}
use Rattle.lola_names.proofs.Growth.{grows_window}
use Rattle.lola_names.proofs.expressions.access.Goals as goal

pub returns-in_ok-number-in-Window-clause-grown : goal.returns-in_ok-number-in-Window-clause-grown
returns-in_ok-number-in-Window-clause-grown c =
    let old = c.args.made.now in
    let new : Made = record { texts = old.texts; windows = c.number_window.new.windows } in
    subst (λ (n : ℕ). Grows old new (n ∷ []) []) (sym c.in_ok-number-in-Window.ensures.number) (grows_window old new _ refl c.in_ok-number-in-Window.ensures.windows)
