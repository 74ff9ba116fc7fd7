use Rattle.std.proofs.Common.{◌<◌, length, arith, sym, ◌∙◌}
use Rattle.std.proofs.lemmas.List.{get_or-map, length-map}
use Rattle.lola_instances_one.specs.declared.queue.Birth.{Birth}
use Rattle.lola_instances_one.proofs.queue.place_born.Goals as goal

pub unreachable-requires : goal.unreachable-requires
unreachable-requires c =
    let es = c.args.queue.now.items in
    let d : Birth = record { due = 0; born = 0 } in
    let k = c.requires.0 in
    let within : k < length es = omega (arith, c.requires.1, length-map es (λ (e : Birth). e.born)) in
    c.loop-i.invariant k d (omega arith) (sym (get_or-map (λ (e : Birth). e.born) es k d c.args.born within) ∙ c.requires.2)
