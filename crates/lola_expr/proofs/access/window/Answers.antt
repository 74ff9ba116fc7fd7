-- A window answers as that of the content.
use Rattle.lola_expr.proofs.Promised.{window_told}
use Rattle.lola_expr.proofs.access.window.Goals as goal

pub returns-clause-value : goal.returns-clause-value
returns-clause-value g c = window_told (g.S.StreamStore.remembers c.args.store.now) (g.S.StreamStore.seen c.args.store.now) c.args.number c.args.params.now c.window.result c.requires.window c.window.ensures.living
