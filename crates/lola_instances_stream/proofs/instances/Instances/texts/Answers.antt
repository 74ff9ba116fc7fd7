-- The texts from a place on are those of the instance there, and those behind it.
use Rattle.std.proofs.Common.{List, ◌++◌, ◌+◌, drop, ap, sym, ◌∙◌, append_assoc}
use Rattle.std.specs.Prelude.{flat_map}
use Rattle.lola_value.specs.declared.value.TextId.{TextId}
use Rattle.lola_instances_one.specs.Texts.{slot_texts}
use Rattle.lola_instances_stream.proofs.Needing.{texts_from}
use Rattle.lola_instances_stream.proofs.instances.Instances.texts.Goals as goal

pub loop-i-preserved : goal.loop-i-preserved
loop-i-preserved c =
    let f = slot_texts in
    let ss = c.args.self.now.slots in
    let i = c.loop-i.i in
    let s = c.slot.result.now in
    ap (λ (ids : List TextId). ids ++ flat_map f (drop (i + 1) ss)) c.in_ok-texts.ensures
    ∙ (append_assoc c.loop-i.into (f s) (flat_map f (drop (i + 1) ss))
    ∙ (ap (λ (ids : List TextId). c.loop-i.into ++ ids) (sym (texts_from ss i s c.slot.ensures)) ∙ c.loop-i.invariant))
