use Rattle.std.proofs.Common.{◌≡◌, ℕ, List, [], ◌∷◌, ◌++◌, subst, sym}
use Rattle.lola_model.specs.declared.journal.Row.{Row}
use Rattle.lola_merge.specs.Interleaving.{AreOf}
use Rattle.lola_merge_tests.proofs.schedules.rows.Goals as goal

one_more : (s : ℕ) (rows : List Row) (row : Row) → AreOf s rows → row.source ≡ s → AreOf s (rows ++ row ∷ [])
one_more s [] row a e = (e, tt)
one_more s (x ∷ rows) row a e = (a.0, one_more s rows row a.1 e)

pub loop-i-preserved : goal.loop-i-preserved
loop-i-preserved c = subst (AreOf c.args.source) (sym c.in_ok-push.ensures.items) (one_more c.args.source c.loop-i.rows.items c.row.result c.loop-i.invariant c.row.ensures)
