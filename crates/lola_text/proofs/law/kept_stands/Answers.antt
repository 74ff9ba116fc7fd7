-- The law, at this store.
use Rattle.lola_text.proofs.Kept.{stands_still}
use Rattle.lola_text.proofs.law.kept_stands.Goals as goal

pub returns : goal.returns
returns g c names fewer content keeps stands =
    let store = c.args._store.now in
    stands_still (g.S.TextStore.holds store) names fewer keeps (g.S.StreamStore.remembers store)
    (λ n i values kept. g.met.S.TextStore.kept store names fewer n i values keeps kept)
    (g.S.StreamStore.seen store) content (g.met.S.TextStore.shows store) stands
