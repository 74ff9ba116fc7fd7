-- Rows of one source, and two lists of rows.
use Rattle.std.proofs.Common.{◌≡◌, ℕ, zero, suc, List, [], ◌∷◌, ◌++◌}
use Rattle.lola_model.specs.declared.journal.Row.{Row}
use Rattle.lola_merge.specs.Interleaving.{AreOf, StandRight}

pub AreOf-more : (s : ℕ) (rows : List Row) (row : Row) → AreOf s rows → row.source ≡ s → AreOf s (rows ++ row ∷ [])
AreOf-more s [] row a e = (e, tt)
AreOf-more s (x ∷ rows) row a e = (a.0, AreOf-more s rows row a.1 e)

pub two_right : (first second : List Row) → AreOf 0 first → AreOf 1 second → StandRight (first ∷ second ∷ [])
two_right first second a b zero = a
two_right first second a b (suc zero) = b
two_right first second a b (suc (suc s)) = tt
