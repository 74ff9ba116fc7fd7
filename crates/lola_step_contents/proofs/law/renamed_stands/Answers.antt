-- The law, at this store.
use Rattle.lola_step_contents.proofs.Namings.{stands_renamed}
use Rattle.lola_step_contents.proofs.law.renamed_stands.Goals as goal

pub returns : goal.returns
returns g c names more content holds stands =
    let store = c.args._store.now in
    stands_renamed names more holds (g.S.StreamStore.remembers store)
    (λ n i values kept. g.met.S.StreamStore.renamed store names more n i values holds kept)
    (g.S.StreamStore.seen store) content stands
