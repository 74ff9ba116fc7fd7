use Rattle.std.proofs.Common.{◌<◌, length, refl, sym, subst}
use Rattle.std.proofs.lemmas.Option.{slice_get_read}
use Rattle.lola_instances_stream.specs.Crowds.{Crowd}
use Rattle.lola_instances_stream.proofs.Answering.{sound_at}
use Rattle.lola_instances_stream.proofs.instances.Instances.window_at.Goals as goal

pub returns-clause-takes : goal.returns-clause-takes
returns-clause-takes c =
    let ws = c.self.inside.windows.items in
    let l = subst (λ (k : Crowd). c.args.place < length k.windows) (sym c.self.view_is) c.requires in
    (sound_at ws c.args.place c.index.result.now c.self.invariant.0.sound (slice_get_read ws (length ws) c.args.place c.index.result.now refl l c.index.ensures)).kind
