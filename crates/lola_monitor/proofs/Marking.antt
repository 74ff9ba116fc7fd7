-- Rows that come behind a journal have their marks.
use Rattle.std.proofs.Common.{◌≡◌, ℕ, ◌≤◌, List, [], ◌∷◌, map, refl, sym, ap, subst, arith}
use mathlib.Core.Logic.{dite}
use Rattle.std.proofs.Math.Decide.{dec_lt}
use Rattle.lola_model.specs.Journal.{IsLegalFrom, IsRightlyMarked, time_after}
use Rattle.lola_model.specs.declared.journal.Row.{Row}
use Rattle.lola_model.specs.declared.journal.Entry.{Entry}
use Rattle.lola_model.specs.declared.journal.Mark.TheVariants as mark

-- entries of these rows, each rightly marked from a merged time on
pub record Marked (merged : ℕ) (rows : List Row) : Type 0 where
  pub entries : List Entry
  pub rows_are : map (λ e. e.row) entries ≡ rows
  pub legal : IsLegalFrom merged entries

one_marked : (merged next : ℕ) (e : Entry) (rows : List Row) → IsRightlyMarked merged e → time_after merged e ≡ next → Marked next rows → Marked merged (e.row ∷ rows)
one_marked merged next e rows right time later = record {
  entries = e ∷ later.entries;
  rows_are = ap (λ rs. e.row ∷ rs) later.rows_are;
  legal = (right, subst (λ t. IsLegalFrom t later.entries) (sym time) later.legal);
}

-- any rows can come
pub all_marked : (merged : ℕ) (rows : List Row) → Marked merged rows
all_marked merged [] = record { entries = []; rows_are = refl; legal = tt }
all_marked merged (r ∷ rows) = dite (dec_lt r.stamp merged)
    (λ below. one_marked merged merged (record { row = r; mark = mark.Late merged }) rows (refl, below) refl (all_marked merged rows))
    (λ not_below. one_marked merged r.stamp (record { row = r; mark = mark.Accepted }) rows (let h : merged ≤ r.stamp = omega arith in h) refl (all_marked r.stamp rows))
